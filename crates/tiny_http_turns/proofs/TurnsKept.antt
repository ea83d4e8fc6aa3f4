-- What the calls of `Turns` keep of the marks and the resting, and what they give.
use Prim.Native.Nat.{zero, suc}
use Rattle.std.proofs.Common.{◌≡◌, ◌≢◌, ℕ, ◌+◌, ◌-◌, ◌<◌, ◌≤◌, ◌^◌, add-one, Bool, true, false, List, [], ◌∷◌, ◌++◌, map, length, Some, None, Ok, refl, ap, arith, sym, ◌∙◌, subst, not, drop}
use Rattle.std.specs.Prelude.{slice_get, slice_set, replicate, Option, is_some}
use Rattle.std.specs.Global.{Vec}
use Rattle.std.proofs.lemmas.List.{map-set, map-append, append_assoc, length-map, length-append, length-replicate, length-set}
use Rattle.tiny_http_turns.specs.declared.turns.Entry.{Entry}
use Rattle.tiny_http_turns.specs.declared.turns.Entry.TheVariants.{Open as OpenEntry, Held as HeldEntry, Left as LeftEntry}
use Rattle.tiny_http_turns.specs.declared.turns.Finishing.TheVariants.{Passed as IsPassed, Go as FinishGo}
use Rattle.tiny_http_turns.specs.declared.turns.Leaving.TheVariants.{Left as IsLeft, Go as LeaveGo}
use Rattle.tiny_http_turns.specs.Turns.{Mark, Open, Held, Left, Finished, mark_of, marks_of, IsInOrder, first_unfinished, is_any_held, pass_to, ReportsPass, TurnAnswer, Issued, Taken, Opened, Passed, Waits, Goes, Strange, TurnOutcome, turn_outcome, turn_answer, marks_after_step, take_at, put_back_at, finish_at, leave_at, Take, PutBack, Finish, Leave}
use Rattle.tiny_http_turns.specs.TurnsCalls.{TakesTurn, PutsBack, Finishes, LeavesTurn}
use Rattle.tiny_http_turns.proofs.FrontLemmas.{get-behind, get-before, set-behind, one-behind}
use Rattle.tiny_http_turns.proofs.TurnsLemmas.{Moved, Passed_on, held-first_unfinished, moved-issue, moved-hold, moved-open, moved-left, moved-finish}
use Rattle.tiny_http_turns.proofs.TurnsOutcomes.{if_other, outcome-take, outcome-put_back, outcome-finish, outcome-leave_go, outcome-leave_wait}

-- the next mark stays where one is set
pub slice_get-set_next : (marks : List Mark) (k : ℕ) (mark : Mark) → slice_get (slice_set marks k mark) (suc k) ≡ slice_get marks (suc k)
slice_get-set_next [] k mark = refl
slice_get-set_next (m ∷ marks) zero mark = refl
slice_get-set_next (m ∷ marks) (suc k) mark = slice_get-set_next marks k mark

-- the first unfinished number is the first that is kept
pub turn-of : (n : ℕ) (items : List Entry) → first_unfinished (marks_of n items) ≡ n
turn-of zero [] = refl
turn-of zero (OpenEntry ∷ items) = refl
turn-of zero (HeldEntry ∷ items) = refl
turn-of zero (LeftEntry text ∷ items) = refl
turn-of (suc n) items = ap suc (turn-of n items)

pub get-of : (n : ℕ) (items : List Entry) (at k : ℕ) → k ≡ n + at → slice_get (marks_of n items) k ≡ slice_get (map mark_of items) at
get-of n items at k e = ap (slice_get (marks_of n items)) e ∙ get-behind Finished n (map mark_of items) at

pub set-of : (n : ℕ) (items : List Entry) (at k : ℕ) (x : Entry) → k ≡ n + at → marks_of n (slice_set items at x) ≡ slice_set (marks_of n items) k (mark_of x)
set-of n items at k x e =
    ap (λ (y : List Mark). replicate n Finished ++ y) (map-set mark_of items at x) ∙ (sym (set-behind Finished n (map mark_of items) at (mark_of x)) ∙ ap (λ y. slice_set (marks_of n items) y (mark_of x)) (sym e))

pub push-of : (n : ℕ) (items : List Entry) → marks_of n (items ++ OpenEntry ∷ []) ≡ marks_of n items ++ Open ∷ []
push-of n items = ap (λ (y : List Mark). replicate n Finished ++ y) (map-append mark_of items (OpenEntry ∷ [])) ∙ sym (append_assoc (replicate n Finished) (map mark_of items) (Open ∷ []))

-- a number before those that are kept is finished
pub before-of : (n : ℕ) (items : List Entry) (k : ℕ) → k < n → slice_get (marks_of n items) k ≡ Some Finished
before-of n items k lt = get-before Finished n (map mark_of items) k lt

front-held : (items : List Entry) → slice_get (map mark_of items) 0 ≡ Some Held → map mark_of items ≡ Held ∷ map mark_of (drop 1 items)
front-held [] e = cc
front-held (x ∷ items) e = let is : mark_of x ≡ Held = cc in ap (λ y. y ∷ map mark_of items) is

-- a step that no number takes
pub strange-take : (marks : List Mark) (k : ℕ) → (slice_get marks k ≡ Some Open → k ≡ first_unfinished marks → ⊥) → turn_outcome (Take k) marks ≡ (Strange, marks)
strange-take marks k not_open = by (slice_get marks k) refl
  where
    by : (o : Option Mark) → slice_get marks k ≡ o → take_at o k marks ≡ (Strange, marks)
    by None e = refl
    by (Some Open) e = if_other k (first_unfinished marks) (Taken, slice_set marks k Held) (Strange, marks) (λ q. not_open e q)
    by (Some Held) e = refl
    by (Some (Left text)) e = refl
    by (Some Finished) e = refl

pub strange-put_back : (marks : List Mark) (k : ℕ) → (slice_get marks k ≡ Some Held → ⊥) → turn_outcome (PutBack k) marks ≡ (Strange, marks)
strange-put_back marks k other = by (slice_get marks k) other
  where
    by : (o : Option Mark) → (o ≡ Some Held → ⊥) → put_back_at o k marks ≡ (Strange, marks)
    by None n = refl
    by (Some Open) n = refl
    by (Some Held) n = absurd (n refl)
    by (Some (Left text)) n = refl
    by (Some Finished) n = refl

pub strange-finish : (marks : List Mark) (k : ℕ) → (slice_get marks k ≡ Some Held → ⊥) → turn_outcome (Finish k) marks ≡ (Strange, marks)
strange-finish marks k other = by (slice_get marks k) other
  where
    by : (o : Option Mark) → (o ≡ Some Held → ⊥) → finish_at o k marks ≡ (Strange, marks)
    by None n = refl
    by (Some Open) n = refl
    by (Some Held) n = absurd (n refl)
    by (Some (Left text)) n = refl
    by (Some Finished) n = refl

-- no number but the first that is kept is held
pub held-front : {T : Type 0} (n : ℕ) (items : List Entry) (resting : Option T) (k : ℕ) → IsInOrder (record { marks = marks_of n items; resting = resting }) → slice_get (marks_of n items) k ≡ Some Held → (k ≡ n) × (slice_get (map mark_of items) 0 ≡ Some Held)
held-front n items resting k order held =
    let here : k ≡ n = held-first_unfinished (marks_of n items) k order.shape held ∙ turn-of n items in
    (here, sym (get-of n items 0 k (here ∙ plus-0 n)) ∙ held)
  where
    plus-0 : (m : ℕ) → m ≡ m + 0
    plus-0 m = omega arith

-- the turn passes among those that are kept, or among all
pass-marks : (n : ℕ) (us : List Mark) (o : Option Mark) → (pass_to o n (replicate n Finished ++ us)).1 ≡ replicate n Finished ++ (pass_to o 0 us).1
pass-marks n us None = refl
pass-marks n us (Some Open) = refl
pass-marks n us (Some Held) = refl
pass-marks n us (Some (Left text)) = ap (λ k. slice_set (replicate n Finished ++ us) k Held) (plus-0 n) ∙ set-behind Finished n us 0 Held
  where
    plus-0 : (m : ℕ) → m ≡ m + 0
    plus-0 m = omega arith
pass-marks n us (Some Finished) = refl

pass-reports : (n : ℕ) (marks us : List Mark) (o : Option Mark) (r : Option (Vec ℕ)) → ReportsPass (pass_to o 0 us).0 0 r → ReportsPass (pass_to o n marks).0 n r
pass-reports n marks us None r h = pass-none r h
  where
    pass-none : (x : Option (Vec ℕ)) → ReportsPass Passed 0 x → ReportsPass Passed n x
    pass-none None k = k
    pass-none (Some v) k = absurd k
pass-reports n marks us (Some Open) r h = pass-none r h
  where
    pass-none : (x : Option (Vec ℕ)) → ReportsPass Passed 0 x → ReportsPass Passed n x
    pass-none None k = k
    pass-none (Some v) k = absurd k
pass-reports n marks us (Some Held) r h = pass-none r h
  where
    pass-none : (x : Option (Vec ℕ)) → ReportsPass Passed 0 x → ReportsPass Passed n x
    pass-none None k = k
    pass-none (Some v) k = absurd k
pass-reports n marks us (Some (Left text)) None h = absurd h
pass-reports n marks us (Some (Left text)) (Some v) h = (refl, h.1)
pass-reports n marks us (Some Finished) r h = pass-none r h
  where
    pass-none : (x : Option (Vec ℕ)) → ReportsPass Passed 0 x → ReportsPass Passed n x
    pass-none None k = k
    pass-none (Some v) k = absurd k

-- the turn has passed to a number that is not left
on-none : (old : List Mark) (turn : ℕ) (o : TurnOutcome) → Passed_on old turn o → ReportsPass o.0 turn None → (o.0 ≡ Passed) × Moved old o.1 turn true false
on-none old turn (Issued k, new) m p = absurd p
on-none old turn (Taken, new) m p = absurd p
on-none old turn (Opened, new) m p = absurd p
on-none old turn (Passed, new) m p = (refl, m)
on-none old turn (Waits, new) m p = absurd p
on-none old turn (Goes k text, new) m p = absurd p
on-none old turn (Strange, new) m p = absurd p

-- the turn has passed to one that was left
on-some : (old : List Mark) (turn : ℕ) (o : TurnOutcome) (text : Vec ℕ) → Passed_on old turn o → ReportsPass o.0 turn (Some text) → (o.0 ≡ Goes turn text.items) × Moved old o.1 turn true true
on-some old turn (Issued k, new) text m p = absurd p
on-some old turn (Taken, new) text m p = absurd p
on-some old turn (Opened, new) text m p = absurd p
on-some old turn (Passed, new) text m p = absurd p
on-some old turn (Waits, new) text m p = absurd p
on-some old turn (Goes k stated, new) text m p = (grind (arith, p.0, p.1), m.1)
on-some old turn (Strange, new) text m p = absurd p

module _ {T : Type 0} where
  none_if_not : (resting : Option T) → is_some resting ≡ false → resting ≡ None
  none_if_not None e = refl
  none_if_not (Some item) e = cc

  -- marks that moved on, with the resting that fits
  kept-moved : (old new marks : List Mark) (turn : ℕ) (was is : Bool) (resting : Option T) → marks ≡ new → Moved old new turn was is → is_some resting ≡ not is → IsInOrder (record { marks = marks; resting = resting })
  kept-moved old new marks turn was is resting e m n =
      subst (λ (x : List Mark). IsInOrder (record { marks = x; resting = resting })) (sym e) (record { shape = m.shape; rests = n ∙ ap not (sym m.is_held) })

  module _ (n : ℕ) (items : List Entry) (at : ℕ) (resting : Option T) (order : IsInOrder (record { marks = marks_of n items; resting = resting })) where
    abbrev pub marks : List Mark
    marks = marks_of n items

    pub kept-issue : IsInOrder (record { marks = marks_of n (items ++ OpenEntry ∷ []); resting = resting })
    kept-issue = kept-moved marks (marks ++ Open ∷ []) (marks_of n (items ++ OpenEntry ∷ [])) (first_unfinished marks) (is_any_held marks) (is_any_held marks) resting (push-of n items) (moved-issue marks order.shape) order.rests

    module _ (is_open : slice_get marks at ≡ Some Open) where
      module _ (in_turn : at ≡ n) where
        held : Moved marks (slice_set marks at Held) (first_unfinished marks) false true
        held = moved-hold marks at order.shape is_open (in_turn ∙ sym (turn-of n items))

        pub item-rests : is_some resting ≡ true
        item-rests = order.rests ∙ ap not held.was_held

        pub kept-hold : (new : List Mark) (left : Option T) → new ≡ slice_set marks at Held → left ≡ None → IsInOrder (record { marks = new; resting = left })
        kept-hold new left stored e = kept-moved marks (slice_set marks at Held) new (first_unfinished marks) false true left stored held (ap is_some e)

        pub marks-take : (new : List Mark) → new ≡ slice_set marks at Held → new ≡ marks_after_step (Take at) marks
        marks-take new stored = stored ∙ sym (ap (λ (o : TurnOutcome). o.1) (outcome-take marks at is_open (in_turn ∙ sym (turn-of n items))))

        pub takes-hold : (result left : Option T) → result ≡ resting → left ≡ None → TakesTurn (turn_answer (Take at) marks) resting result left
        takes-hold result left e z =
            subst (λ (a : TurnAnswer). TakesTurn a resting result left) (sym (ap (λ (o : TurnOutcome). o.0) (outcome-take marks at is_open (in_turn ∙ sym (turn-of n items))))) (e, ap is_some e ∙ item-rests, z)

        pub marks-leave_go : (new : List Mark) (text : List ℕ) → new ≡ slice_set marks at Held → new ≡ marks_after_step (Leave at text) marks
        marks-leave_go new text stored = stored ∙ sym (ap (λ (o : TurnOutcome). o.1) (outcome-leave_go marks at text is_open (in_turn ∙ sym (turn-of n items))))

        pub leaves-go : (text : Vec ℕ) (item : T) (left : Option T) → resting ≡ Some item → left ≡ None → LeavesTurn (turn_answer (Leave at text.items) marks) resting (LeaveGo item text) left
        leaves-go text item left e z =
            subst (λ (a : TurnAnswer). LeavesTurn a resting (LeaveGo item text) left) (sym (ap (λ (o : TurnOutcome). o.0) (outcome-leave_go marks at text.items is_open (in_turn ∙ sym (turn-of n items))))) (e, refl, z)

      module _ (text : Vec ℕ) (not_yet : at ≢ n) where
        later : at ≢ first_unfinished marks
        later e = not_yet (e ∙ turn-of n items)

        pub kept-left : (new : List Mark) → new ≡ slice_set marks at (Left text.items) → IsInOrder (record { marks = new; resting = resting })
        kept-left new stored = kept-moved marks (slice_set marks at (Left text.items)) new (first_unfinished marks) (is_any_held marks) (is_any_held marks) resting stored (moved-left marks at text.items order.shape later is_open) order.rests

        pub marks-leave_wait : (new : List Mark) → new ≡ slice_set marks at (Left text.items) → new ≡ marks_after_step (Leave at text.items) marks
        marks-leave_wait new stored = stored ∙ sym (ap (λ (o : TurnOutcome). o.1) (outcome-leave_wait marks at text.items is_open later))

        pub leaves-wait : LeavesTurn (turn_answer (Leave at text.items) marks) resting IsLeft resting
        leaves-wait =
            subst (λ (a : TurnAnswer). LeavesTurn a resting IsLeft resting) (sym (ap (λ (o : TurnOutcome). o.0) (outcome-leave_wait marks at text.items is_open later))) refl

    module _ (is_held : slice_get marks at ≡ Some Held) where
      pub kept-open : (new : List Mark) (item : T) → new ≡ slice_set marks at Open → IsInOrder (record { marks = new; resting = Some item })
      kept-open new item stored = kept-moved marks (slice_set marks at Open) new (first_unfinished marks) true false (Some item) stored (moved-open marks at order.shape is_held) refl

      pub marks-put_back : (new : List Mark) → new ≡ slice_set marks at Open → new ≡ marks_after_step (PutBack at) marks
      marks-put_back new stored = stored ∙ sym (ap (λ (o : TurnOutcome). o.1) (outcome-put_back marks at is_held))

      pub puts-open : {U : Type 0} (item : T) (done : U) → PutsBack (turn_answer (PutBack at) marks) item resting (Ok done) (Some item)
      puts-open {U = U} item done = subst (λ (a : TurnAnswer). PutsBack {U = U} a item resting (Ok done) (Some item)) (sym (ap (λ (o : TurnOutcome). o.0) (outcome-put_back marks at is_held))) refl

      -- what comes of finishing it
      abbrev pub passed_on : TurnOutcome
      passed_on = pass_to (slice_get marks (suc at)) (suc at) (slice_set marks at Finished)

      passed_on-is : passed_on ≡ turn_outcome (Finish at) marks
      passed_on-is = sym (outcome-finish marks at is_held)

      moves : Passed_on marks (suc at) passed_on
      moves = moved-finish marks at order.shape is_held

      -- what is kept behind it, once the turn has passed
      module _ (new : List Mark) (stored : new ≡ passed_on.1) where
        pub marks-finish : new ≡ marks_after_step (Finish at) marks
        marks-finish = stored ∙ ap (λ (o : TurnOutcome). o.1) passed_on-is

        pub kept-pass : (item : T) → ReportsPass passed_on.0 (suc at) None → IsInOrder (record { marks = new; resting = Some item })
        kept-pass item p = kept-moved marks passed_on.1 new (suc at) true false (Some item) stored (on-none marks (suc at) passed_on moves p).1 refl

        pub finishes-pass : (item : T) → ReportsPass passed_on.0 (suc at) None → Finishes (turn_answer (Finish at) marks) item resting IsPassed (Some item)
        finishes-pass item p =
            subst (λ (a : TurnAnswer). Finishes a item resting IsPassed (Some item)) (sym (on-none marks (suc at) passed_on moves p).0 ∙ ap (λ (o : TurnOutcome). o.0) passed_on-is) refl

        pub kept-go : (text : Vec ℕ) → ReportsPass passed_on.0 (suc at) (Some text) → IsInOrder (record { marks = new; resting = resting })
        kept-go text p =
            let m = (on-some marks (suc at) passed_on text moves p).1 in
            kept-moved marks passed_on.1 new (suc at) true true resting stored m (order.rests ∙ ap not m.was_held)

        pub finishes-go : (item : T) (text : Vec ℕ) → ReportsPass passed_on.0 (suc at) (Some text) → Finishes (turn_answer (Finish at) marks) item resting (FinishGo item text) resting
        finishes-go item text p =
            let m = on-some marks (suc at) passed_on text moves p in
            subst (λ (a : TurnAnswer). Finishes a item resting (FinishGo item text) resting) (sym m.0 ∙ ap (λ (o : TurnOutcome). o.0) passed_on-is) (refl, refl, none_if_not resting (order.rests ∙ ap not m.1.was_held))

-- where a number stands among those that are kept
pub place-0 : (k n : ℕ) → k ≡ n → k ≡ n + 0
place-0 k n e = omega (arith, e)

pub place-of : (k n : ℕ) → n ≤ k → k ≡ n + (k - n)
place-of k n h = omega (arith, h)

-- the numbers fit
pub bound-set : (n : ℕ) (items new : List Entry) (at : ℕ) (x : Entry) → new ≡ slice_set items at x → n + length items < 2 ^ 64 → n + length new < 2 ^ 64
bound-set n items new at x e h =
    let same : length new ≡ length items = ap length e ∙ length-set items at x in
    omega (arith, same, h)

pub bound-push : (n len : ℕ) (items : List Entry) → len ≡ length items → (n + len ≡ 2 ^ 64 - 1 → ⊥) → n + length items < 2 ^ 64 → n + length (items ++ OpenEntry ∷ []) < 2 ^ 64
bound-push n len items is ne h =
    let more : length (items ++ OpenEntry ∷ []) ≡ length items + 1 = length-append items (OpenEntry ∷ []) in
    omega (arith, is, ne, h, more)

length-passed : (o : Option Mark) (us : List Mark) → length (pass_to o 0 us).1 ≡ length us
length-passed None us = refl
length-passed (Some Open) us = refl
length-passed (Some Held) us = refl
length-passed (Some (Left text)) us = length-set us 0 Held
length-passed (Some Finished) us = refl

pub bound-finish : (n k : ℕ) (items new : List Entry) → k ≡ n → slice_get (map mark_of items) 0 ≡ Some Held
    → map mark_of new ≡ (pass_to (slice_get (map mark_of (drop 1 items)) 0) 0 (map mark_of (drop 1 items))).1 → n + length items < 2 ^ 64 → k + 1 + length new < 2 ^ 64
bound-finish n k items new here held stored h =
    let us = map mark_of (drop 1 items) in
    let whole : length items ≡ suc (length us) = sym (length-map items mark_of) ∙ ap length (front-held items held) in
    let same : length new ≡ length us = sym (length-map new mark_of) ∙ (ap length stored ∙ length-passed (slice_get us 0) us) in
    omega (arith, here, whole, same, h)

-- The first that is kept was held, and is finished: what is kept behind it then, and what is reported.
pub record FinishesFront (n k : ℕ) (items new : List Entry) (r : Option (Vec ℕ)) : Type 0 where
  pub stored : marks_of (k + 1) new ≡ (pass_to (slice_get (marks_of n items) (suc k)) (suc k) (slice_set (marks_of n items) k Finished)).1
  pub reports : ReportsPass (pass_to (slice_get (marks_of n items) (suc k)) (suc k) (slice_set (marks_of n items) k Finished)).0 (suc k) r

pub finish-front : (n k : ℕ) (items new : List Entry) (r : Option (Vec ℕ)) → k ≡ n → slice_get (map mark_of items) 0 ≡ Some Held
    → map mark_of new ≡ (pass_to (slice_get (map mark_of (drop 1 items)) 0) 0 (map mark_of (drop 1 items))).1 → ReportsPass (pass_to (slice_get (map mark_of (drop 1 items)) 0) 0 (map mark_of (drop 1 items))).0 0 r → FinishesFront n k items new r
finish-front n k items new r here held stored reports =
    let us = map mark_of (drop 1 items) in
    let all : marks_of n items ≡ replicate n Finished ++ (Held ∷ us) = ap (λ (x : List Mark). replicate n Finished ++ x) (front-held items held) in
    let next : slice_get (marks_of n items) (suc n) ≡ slice_get us 0 = ap (λ (x : List Mark). slice_get x (suc n)) all ∙ (ap (slice_get (replicate n Finished ++ (Held ∷ us))) (suc-is n) ∙ get-behind Finished n (Held ∷ us) 1) in
    let set : slice_set (marks_of n items) n Finished ≡ replicate (suc n) Finished ++ us =
    ap (λ (x : List Mark). slice_set x n Finished) all ∙ (ap (λ j. slice_set (replicate n Finished ++ (Held ∷ us)) j Finished) (place-0 n n refl) ∙ (set-behind Finished n (Held ∷ us) 0 Finished ∙ one-behind Finished n us)) in
    let P : Option Mark → List Mark → Type 0 = λ o x. marks_of (suc n) new ≡ (pass_to o (suc n) x).1 in
    let Q : Option Mark → List Mark → Type 0 = λ o x. ReportsPass (pass_to o (suc n) x).0 (suc n) r in
    let kept : P (slice_get (marks_of n items) (suc n)) (slice_set (marks_of n items) n Finished) =
    subst (λ o. P o (slice_set (marks_of n items) n Finished)) (sym next) (subst (λ x. P (slice_get us 0) x) (sym set) (ap (λ (x : List Mark). replicate (suc n) Finished ++ x) stored ∙ sym (pass-marks (suc n) us (slice_get us 0)))) in
    let said : Q (slice_get (marks_of n items) (suc n)) (slice_set (marks_of n items) n Finished) =
    subst (λ o. Q o (slice_set (marks_of n items) n Finished)) (sym next) (subst (λ x. Q (slice_get us 0) x) (sym set) (pass-reports (suc n) (replicate (suc n) Finished ++ us) us (slice_get us 0) r reports)) in
    subst (λ j. FinishesFront n j items new r) (sym here) (record { stored = ap (λ j. marks_of j new) (add-one n) ∙ kept; reports = said })
  where
    suc-is : (m : ℕ) → suc m ≡ m + 1
    suc-is m = omega arith
