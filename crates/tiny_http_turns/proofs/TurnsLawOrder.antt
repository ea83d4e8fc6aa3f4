-- Numbers are held one at a time, and first in their order.
use Prim.Native.Nat.{zero, suc}
use Rattle.std.proofs.Common.{◌≡◌, ◌≢◌, ℕ, ◌+◌, ◌<◌, ◌≤◌, Bool, true, false, List, [], ◌∷◌, ◌++◌, length, Some, None, refl, ap, arith, sym, ◌∙◌, eqb, inl, inr, length-append, add-one, ◌||◌}
use Rattle.std.specs.Prelude.{slice_get, slice_set, Option, if◌then◌else◌, ◌⊎◌}
use Rattle.std.specs.List.{list_any}
use Rattle.std.proofs.lemmas.Bool.Decides.{nat_tests}
use Rattle.tiny_http_turns.specs.Turns.{Mark, Open, Held, Left, Finished, first_unfinished, AreOpenOrLeft, AreInShape, is_any_held, TurnOutcome, Issued, Taken, Opened, Passed, Waits, Goes, Strange, take_at, put_back_at, pass_to, finish_at, leave_at, marks_after_step, TurnStep, Issue, Take, PutBack, Finish, Leave}
use Rattle.tiny_http_turns.specs.TurnsLaw.{marks_after, held_from, with_new, first_held, numbers_below}
use Rattle.tiny_http_turns.proofs.TurnsLemmas.{Moved, Passed_on, held-first_unfinished, moved-issue, moved-hold, moved-open, moved-left, moved-finish}

-- a step keeps the shape, and passes the turn on from a held number alone
pub record Advances (old new : List Mark) : Type 0 where
  pub shape : AreInShape new
  pub turn : (first_unfinished new ≡ first_unfinished old) ⊎ ((first_unfinished new ≡ suc (first_unfinished old)) × (is_any_held old ≡ true))

stays : (old : List Mark) → AreInShape old → Advances old old
stays old s = record { shape = s; turn = inl refl }

same_turn : (old new : List Mark) (was is : Bool) → Moved old new (first_unfinished old) was is → Advances old new
same_turn old new was is m = record { shape = m.shape; turn = inl m.turn_is }

next_turn : (old : List Mark) (k : ℕ) (o : TurnOutcome) → k ≡ first_unfinished old → Passed_on old (suc k) o → Advances old o.1
next_turn old k (Issued j, new) e p = absurd p
next_turn old k (Taken, new) e p = absurd p
next_turn old k (Opened, new) e p = absurd p
next_turn old k (Passed, new) e p = record { shape = p.shape; turn = inr (p.turn_is ∙ ap suc e, p.was_held) }
next_turn old k (Waits, new) e p = absurd p
next_turn old k (Goes j text, new) e p = record { shape = p.1.shape; turn = inr (p.1.turn_is ∙ ap suc e, p.1.was_held) }
next_turn old k (Strange, new) e p = absurd p

-- a test of two numbers, by cases
pub by_eq : (k n : ℕ) (P : Bool → Type 0) → (k ≡ n → P true) → (k ≢ n → P false) → P (eqb k n)
by_eq k n P equal other = split (eqb k n) refl
  where
    split : (b : Bool) → eqb k n ≡ b → P b
    split true e = equal (grind (arith, nat_tests))
    split false e = other (λ q. absurd (grind (arith, nat_tests)))

take_advances : (o : Option Mark) (marks : List Mark) (k : ℕ) → AreInShape marks → slice_get marks k ≡ o → Advances marks (take_at o k marks).1
take_advances None marks k s e = stays marks s
take_advances (Some Open) marks k s e =
    by_eq k (first_unfinished marks) (λ b. Advances marks (let o : TurnOutcome = if b then (Taken, slice_set marks k Held) else (Strange, marks) in o.1))
    (λ t. same_turn marks (slice_set marks k Held) false true (moved-hold marks k s e t))
    (λ n. stays marks s)
take_advances (Some Held) marks k s e = stays marks s
take_advances (Some (Left text)) marks k s e = stays marks s
take_advances (Some Finished) marks k s e = stays marks s

put_back_advances : (o : Option Mark) (marks : List Mark) (k : ℕ) → AreInShape marks → slice_get marks k ≡ o → Advances marks (put_back_at o k marks).1
put_back_advances None marks k s e = stays marks s
put_back_advances (Some Open) marks k s e = stays marks s
put_back_advances (Some Held) marks k s e = same_turn marks (slice_set marks k Open) true false (moved-open marks k s e)
put_back_advances (Some (Left text)) marks k s e = stays marks s
put_back_advances (Some Finished) marks k s e = stays marks s

finish_advances : (o : Option Mark) (marks : List Mark) (k : ℕ) → AreInShape marks → slice_get marks k ≡ o → Advances marks (finish_at o k marks).1
finish_advances None marks k s e = stays marks s
finish_advances (Some Open) marks k s e = stays marks s
finish_advances (Some Held) marks k s e =
    next_turn marks k (pass_to (slice_get marks (suc k)) (suc k) (slice_set marks k Finished)) (held-first_unfinished marks k s e) (moved-finish marks k s e)
finish_advances (Some (Left text)) marks k s e = stays marks s
finish_advances (Some Finished) marks k s e = stays marks s

leave_advances : (o : Option Mark) (marks : List Mark) (k : ℕ) (text : List ℕ) → AreInShape marks → slice_get marks k ≡ o → Advances marks (leave_at o k text marks).1
leave_advances None marks k text s e = stays marks s
leave_advances (Some Open) marks k text s e =
    by_eq k (first_unfinished marks) (λ b. Advances marks (let o : TurnOutcome = if b then (Goes k text, slice_set marks k Held) else (Waits, slice_set marks k (Left text)) in o.1))
    (λ t. same_turn marks (slice_set marks k Held) false true (moved-hold marks k s e t))
    (λ n. same_turn marks (slice_set marks k (Left text)) (is_any_held marks) (is_any_held marks) (moved-left marks k text s n e))
leave_advances (Some Held) marks k text s e = stays marks s
leave_advances (Some (Left was)) marks k text s e = stays marks s
leave_advances (Some Finished) marks k text s e = stays marks s

pub advances : (step : TurnStep) (marks : List Mark) → AreInShape marks → Advances marks (marks_after_step step marks)
advances Issue marks s = same_turn marks (marks ++ Open ∷ []) (is_any_held marks) (is_any_held marks) (moved-issue marks s)
advances (Take k) marks s = take_advances (slice_get marks k) marks k s refl
advances (PutBack k) marks s = put_back_advances (slice_get marks k) marks k s refl
advances (Finish k) marks s = finish_advances (slice_get marks k) marks k s refl
advances (Leave k text) marks s = leave_advances (slice_get marks k) marks k text s refl

-- every list of steps keeps the shape
pub shape_after : (steps : List TurnStep) (marks : List Mark) → AreInShape marks → AreInShape (marks_after steps marks)
shape_after [] marks s = s
shape_after (step ∷ steps) marks s = shape_after steps (marks_after_step step marks) (advances step marks s).shape

before_turn : (marks : List Mark) (k : ℕ) → k < first_unfinished marks → slice_get marks k ≡ Some Finished
before_turn [] k lt = absurd (omega (arith, lt))
before_turn (Open ∷ marks) k lt = absurd (omega (arith, lt))
before_turn (Held ∷ marks) k lt = absurd (omega (arith, lt))
before_turn (Left text ∷ marks) k lt = absurd (omega (arith, lt))
before_turn (Finished ∷ marks) zero lt = refl
before_turn (Finished ∷ marks) (suc k) lt = before_turn marks k (omega (arith, lt))

-- while a number is not finished no later one is held
pub one_at_a_time : (steps : List TurnStep) (early late : ℕ) → early < late → slice_get (marks_after steps []) late ≡ Some Held → slice_get (marks_after steps []) early ≡ Some Finished
one_at_a_time steps early late lt e =
    let shape : AreInShape (marks_after steps []) = shape_after steps [] tt in
    let turn : late ≡ first_unfinished (marks_after steps []) = held-first_unfinished (marks_after steps []) late shape e in
    before_turn (marks_after steps []) early (omega (arith, lt, turn))

waiting_held : (n : ℕ) (marks : List Mark) → AreOpenOrLeft marks → held_from n marks ≡ []
waiting_held n [] w = refl
waiting_held n (Open ∷ marks) w = waiting_held (suc n) marks w
waiting_held n (Held ∷ marks) w = absurd w
waiting_held n (Left text ∷ marks) w = waiting_held (suc n) marks w
waiting_held n (Finished ∷ marks) w = absurd w

waiting_any : (marks : List Mark) → AreOpenOrLeft marks → is_any_held marks ≡ true → ⊥
waiting_any [] w e = cc
waiting_any (Open ∷ marks) w e = waiting_any marks w e
waiting_any (Held ∷ marks) w e = absurd w
waiting_any (Left text ∷ marks) w e = waiting_any marks w e
waiting_any (Finished ∷ marks) w e = absurd w

-- at most the first unfinished number is held
held-turn : (n : ℕ) (marks : List Mark) → AreInShape marks → is_any_held marks ≡ true → held_from n marks ≡ (n + first_unfinished marks) ∷ []
held-turn n [] s e = cc
held-turn n (Open ∷ marks) s e = absurd (waiting_any marks s e)
held-turn n (Held ∷ marks) s e =
    let none = waiting_held (suc n) marks s in
    let here : n ≡ n + 0 = omega arith in
    grind (arith, none, here)
held-turn n (Left text ∷ marks) s e = absurd s
held-turn n (Finished ∷ marks) s e =
    let more = held-turn (suc n) marks s e in
    let place : suc n + first_unfinished marks ≡ n + suc (first_unfinished marks) = omega arith in
    more ∙ ap (λ (k : ℕ). k ∷ []) place

held-none : (n : ℕ) (marks : List Mark) → is_any_held marks ≡ false → held_from n marks ≡ []
held-none n [] e = refl
held-none n (Open ∷ marks) e = held-none (suc n) marks e
held-none n (Held ∷ marks) e = cc
held-none n (Left text ∷ marks) e = held-none (suc n) marks e
held-none n (Finished ∷ marks) e = held-none (suc n) marks e

any-append : (xs : List ℕ) (n x : ℕ) → list_any (λ m. eqb m n) (xs ++ x ∷ []) ≡ (list_any (λ m. eqb m n) xs || eqb x n)
any-append [] n x = grind arith
any-append (y ∷ xs) n x = grind (arith, any-append xs n x)

among_below : (m n : ℕ) → n < m → list_any (λ k. eqb k n) (numbers_below m) ≡ true
among_below zero n lt = absurd (omega (arith, lt))
among_below (suc m) n lt =
    any-append (numbers_below m) n m ∙ by_eq m n (λ b. (list_any (λ k. eqb k n) (numbers_below m) || b) ≡ true)
    (λ e. grind arith)
    (λ ne. let there = among_below m n (omega (arith, lt, ne)) in grind (arith, there))

not_below : (m n : ℕ) → m ≤ n → list_any (λ k. eqb k n) (numbers_below m) ≡ false
not_below zero n le = refl
not_below (suc m) n le =
    any-append (numbers_below m) n m ∙ by_eq m n (λ b. (list_any (λ k. eqb k n) (numbers_below m) || b) ≡ false)
    (λ e. absurd (omega (arith, le, e)))
    (λ ne. let away = not_below m n (omega (arith, le)) in grind (arith, away))

length-numbers_below : (m : ℕ) → length (numbers_below m) ≡ m
length-numbers_below zero = refl
length-numbers_below (suc m) = length-append (numbers_below m) (m ∷ []) ∙ (ap (λ n. n + 1) (length-numbers_below m) ∙ add-one m)

-- the numbers below m were held so far
record HeldSoFar (seen : List ℕ) (marks : List Mark) (m : ℕ) : Type 0 where
  seen_is : seen ≡ numbers_below m
  near : (m ≡ first_unfinished marks) ⊎ (m ≡ suc (first_unfinished marks))
  now : is_any_held marks ≡ true → m ≡ suc (first_unfinished marks)

-- what is held now joins them
joins : (seen : List ℕ) (new : List Mark) (m : ℕ) → AreInShape new → seen ≡ numbers_below m → (m ≡ first_unfinished new) ⊎ (m ≡ suc (first_unfinished new)) → (k : ℕ) × HeldSoFar (with_new seen (held_from 0 new)) new k
joins seen new m shape e near = split (is_any_held new) refl near
  where
    split : (b : Bool) → is_any_held new ≡ b → (m ≡ first_unfinished new) ⊎ (m ≡ suc (first_unfinished new)) → (k : ℕ) × HeldSoFar (with_new seen (held_from 0 new)) new k
    split false none at =
        (m, record { seen_is = ap (with_new seen) (held-none 0 new none) ∙ e; near = at; now = λ h. cc })
    split true some (inl at) =
        let held : held_from 0 new ≡ m ∷ [] = held-turn 0 new shape some ∙ ap (λ (k : ℕ). k ∷ []) (omega (arith, at)) in
        let away : list_any (λ k. eqb k m) seen ≡ false = ap (list_any (λ k. eqb k m)) e ∙ not_below m m (omega arith) in
        (suc m, record { seen_is = ap (with_new seen) held ∙ (ap (λ (b : Bool). if b then seen else seen ++ m ∷ []) away ∙ ap (λ (ns : List ℕ). ns ++ m ∷ []) e); near = inr (ap suc at); now = λ h. ap suc at })
    split true some (inr at) =
        let n = first_unfinished new in
        let held : held_from 0 new ≡ n ∷ [] = held-turn 0 new shape some ∙ ap (λ (k : ℕ). k ∷ []) (omega arith) in
        let there : list_any (λ k. eqb k n) seen ≡ true = ap (list_any (λ k. eqb k n)) e ∙ among_below m n (omega (arith, at)) in
        (m, record { seen_is = ap (with_new seen) held ∙ (ap (λ (b : Bool). if b then seen else seen ++ n ∷ []) there ∙ e); near = inr at; now = λ h. at })

-- after a step, the numbers held so far end at the turn or after it
nears : (seen : List ℕ) (old new : List Mark) (m : ℕ) → HeldSoFar seen old m → Advances old new → (m ≡ first_unfinished new) ⊎ (m ≡ suc (first_unfinished new))
nears seen old new m h a = split a.turn h.near
  where
    split : (first_unfinished new ≡ first_unfinished old) ⊎ ((first_unfinished new ≡ suc (first_unfinished old)) × (is_any_held old ≡ true)) → (m ≡ first_unfinished old) ⊎ (m ≡ suc (first_unfinished old)) → (m ≡ first_unfinished new) ⊎ (m ≡ suc (first_unfinished new))
    split (inl same) (inl at) = inl (at ∙ sym same)
    split (inl same) (inr at) = inr (at ∙ ap suc (sym same))
    split (inr next) at = inl (h.now next.1 ∙ sym next.0)

in_order_from : (steps : List TurnStep) (seen : List ℕ) (marks : List Mark) (m : ℕ) → AreInShape marks → HeldSoFar seen marks m → (k : ℕ) × (first_held seen steps marks ≡ numbers_below k)
in_order_from [] seen marks m s h = (m, h.seen_is)
in_order_from (step ∷ steps) seen marks m s h =
    let a = advances step marks s in
    let j = joins seen (marks_after_step step marks) m a.shape h.seen_is (nears seen marks (marks_after_step step marks) m h a) in
    in_order_from steps (with_new seen (held_from 0 (marks_after_step step marks))) (marks_after_step step marks) j.0 a.shape j.1

-- numbers are first held in the order 0, 1, 2 and so on
pub in_order : (steps : List TurnStep) → first_held [] steps [] ≡ numbers_below (length (first_held [] steps []))
in_order steps =
    let r = in_order_from steps [] [] 0 tt (record { seen_is = refl; near = inl refl; now = λ h. cc }) in
    r.1 ∙ ap numbers_below (sym (ap length r.1 ∙ length-numbers_below r.0))
