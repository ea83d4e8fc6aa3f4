-- A text that is left comes out once, as its number is held.
use Prim.Native.Nat.{zero, suc}
use Rattle.std.proofs.Common.{◌≡◌, ◌≢◌, ℕ, ◌<◌, List, [], ◌∷◌, ◌++◌, Some, None, refl, ap, arith, sym, ◌∙◌, subst, eqb, append_assoc, append-nil}
use Rattle.std.specs.Prelude.{slice_get, slice_set, Option, if◌then◌else◌}
use Rattle.tiny_http_turns.specs.Turns.{Mark, Open, Held, Left, Finished, first_unfinished, AreInShape, TurnOutcome, Taken, Waits, Goes, Strange, take_at, put_back_at, pass_to, finish_at, leave_at, turn_outcome, turn_answer, marks_after_step, TurnStep, Issue, Take, PutBack, Finish, Leave}
use Rattle.tiny_http_turns.specs.TurnsLaw.{marks_after, text_out, texts_out, text_left, texts_left, text_waiting}
use Rattle.tiny_http_turns.proofs.TurnsLawOrder.{by_eq, shape_after}
use Rattle.tiny_http_turns.proofs.TurnsKept.{slice_get-set_next}

get-set_same : (marks : List Mark) (k : ℕ) (was mark : Mark) → slice_get marks k ≡ Some was → slice_get (slice_set marks k mark) k ≡ Some mark
get-set_same [] k was mark e = cc
get-set_same (m ∷ marks) zero was mark e = refl
get-set_same (m ∷ marks) (suc k) was mark e = get-set_same marks k was mark e

get-set_other : (marks : List Mark) (k n : ℕ) (mark : Mark) → k ≢ n → slice_get (slice_set marks k mark) n ≡ slice_get marks n
get-set_other [] k n mark ne = refl
get-set_other (m ∷ marks) zero zero mark ne = absurd (ne refl)
get-set_other (m ∷ marks) zero (suc n) mark ne = refl
get-set_other (m ∷ marks) (suc k) zero mark ne = refl
get-set_other (m ∷ marks) (suc k) (suc n) mark ne = get-set_other marks k n mark (λ e. ne (ap suc e))

-- a change that no text is part of
quiet : (marks : List Mark) (k n : ℕ) (was mark : Mark) → slice_get marks k ≡ Some was → text_waiting (Some was) ≡ [] → text_waiting (Some mark) ≡ [] → text_waiting (slice_get (slice_set marks k mark) n) ≡ text_waiting (slice_get marks n)
quiet marks k n was mark e w m =
    by_eq k n (λ b. text_waiting (slice_get (slice_set marks k mark) n) ≡ text_waiting (slice_get marks n))
    (λ q. subst (λ (j : ℕ). text_waiting (slice_get (slice_set marks k mark) j) ≡ text_waiting (slice_get marks j)) q (ap text_waiting (get-set_same marks k was mark e) ∙ (m ∙ (sym w ∙ ap text_waiting (sym e)))))
    (λ ne. ap text_waiting (get-set_other marks k n mark ne))

-- a text that waited comes out
text-comes : (marks : List Mark) (k n : ℕ) (text : List ℕ) → slice_get marks k ≡ Some (Left text) → (if eqb k n then text ∷ [] else []) ++ text_waiting (slice_get (slice_set marks k Held) n) ≡ text_waiting (slice_get marks n)
text-comes marks k n text e =
    by_eq k n (λ b. (if b then text ∷ [] else []) ++ text_waiting (slice_get (slice_set marks k Held) n) ≡ text_waiting (slice_get marks n))
    (λ q. subst (λ (j : ℕ). (text ∷ []) ++ text_waiting (slice_get (slice_set marks k Held) j) ≡ text_waiting (slice_get marks j)) q (ap (λ (o : Option Mark). (text ∷ []) ++ text_waiting o) (get-set_same marks k (Left text) Held e) ∙ ap text_waiting (sym e)))
    (λ ne. ap text_waiting (get-set_other marks k n Held ne))

-- one that is left waits
waits : (marks : List Mark) (k n : ℕ) (text : List ℕ) → slice_get marks k ≡ Some Open → text_waiting (slice_get (slice_set marks k (Left text)) n) ≡ text_waiting (slice_get marks n) ++ (if eqb k n then text ∷ [] else [])
waits marks k n text e =
    by_eq k n (λ b. text_waiting (slice_get (slice_set marks k (Left text)) n) ≡ text_waiting (slice_get marks n) ++ (if b then text ∷ [] else []))
    (λ q. subst (λ (j : ℕ). text_waiting (slice_get (slice_set marks k (Left text)) j) ≡ text_waiting (slice_get marks j) ++ text ∷ []) q (ap text_waiting (get-set_same marks k Open (Left text) e) ∙ ap (λ (o : Option Mark). text_waiting o ++ text ∷ []) (sym e)))
    (λ ne. ap text_waiting (get-set_other marks k n (Left text) ne) ∙ sym (append-nil (text_waiting (slice_get marks n))))

-- one that is left in its turn comes out at once
at_once : (marks : List Mark) (k n : ℕ) (text : List ℕ) → slice_get marks k ≡ Some Open → (if eqb k n then text ∷ [] else []) ++ text_waiting (slice_get (slice_set marks k Held) n) ≡ text_waiting (slice_get marks n) ++ (if eqb k n then text ∷ [] else [])
at_once marks k n text e =
    by_eq k n (λ b. (if b then text ∷ [] else []) ++ text_waiting (slice_get (slice_set marks k Held) n) ≡ text_waiting (slice_get marks n) ++ (if b then text ∷ [] else []))
    (λ q. subst (λ (j : ℕ). (text ∷ []) ++ text_waiting (slice_get (slice_set marks k Held) j) ≡ text_waiting (slice_get marks j) ++ text ∷ []) q (ap (λ (o : Option Mark). (text ∷ []) ++ text_waiting o) (get-set_same marks k Open Held e) ∙ ap (λ (o : Option Mark). text_waiting o ++ text ∷ []) (sym e)))
    (λ ne. ap text_waiting (get-set_other marks k n Held ne) ∙ sym (append-nil (text_waiting (slice_get marks n))))

-- a step at which a text comes out or waits, for the number n
abbrev Balances : ℕ → TurnStep → List Mark → TurnOutcome → Type 0
Balances n step marks o = text_out n o.0 ++ text_waiting (slice_get o.1 n) ≡ text_waiting (slice_get marks n) ++ text_left n step o.0

pushed : (marks : List Mark) (n : ℕ) → text_waiting (slice_get (marks ++ Open ∷ []) n) ≡ text_waiting (slice_get marks n)
pushed [] zero = refl
pushed [] (suc n) = refl
pushed (m ∷ marks) zero = refl
pushed (m ∷ marks) (suc n) = pushed marks n

same : (marks : List Mark) (n : ℕ) → text_waiting (slice_get marks n) ≡ text_waiting (slice_get marks n) ++ []
same marks n = sym (append-nil (text_waiting (slice_get marks n)))

take_balances : (o : Option Mark) (n : ℕ) (marks : List Mark) (k : ℕ) → slice_get marks k ≡ o → Balances n (Take k) marks (take_at o k marks)
take_balances None n marks k e = same marks n
take_balances (Some Open) n marks k e =
    by_eq k (first_unfinished marks) (λ b. Balances n (Take k) marks (if b then (Taken, slice_set marks k Held) else (Strange, marks)))
    (λ t. quiet marks k n Open Held e refl refl ∙ same marks n)
    (λ ne. same marks n)
take_balances (Some Held) n marks k e = same marks n
take_balances (Some (Left text)) n marks k e = same marks n
take_balances (Some Finished) n marks k e = same marks n

put_back_balances : (o : Option Mark) (n : ℕ) (marks : List Mark) (k : ℕ) → slice_get marks k ≡ o → Balances n (PutBack k) marks (put_back_at o k marks)
put_back_balances None n marks k e = same marks n
put_back_balances (Some Open) n marks k e = same marks n
put_back_balances (Some Held) n marks k e = quiet marks k n Held Open e refl refl ∙ same marks n
put_back_balances (Some (Left text)) n marks k e = same marks n
put_back_balances (Some Finished) n marks k e = same marks n

pass_balances : (o : Option Mark) (n : ℕ) (marks : List Mark) (k : ℕ) → slice_get marks k ≡ Some Held → slice_get marks (suc k) ≡ o → Balances n (Finish k) marks (pass_to o (suc k) (slice_set marks k Finished))
pass_balances None n marks k e f = quiet marks k n Held Finished e refl refl ∙ same marks n
pass_balances (Some Open) n marks k e f = quiet marks k n Held Finished e refl refl ∙ same marks n
pass_balances (Some Held) n marks k e f = quiet marks k n Held Finished e refl refl ∙ same marks n
pass_balances (Some (Left text)) n marks k e f =
    text-comes (slice_set marks k Finished) (suc k) n text (slice_get-set_next marks k Finished ∙ f) ∙ (quiet marks k n Held Finished e refl refl ∙ same marks n)
pass_balances (Some Finished) n marks k e f = quiet marks k n Held Finished e refl refl ∙ same marks n

finish_balances : (o : Option Mark) (n : ℕ) (marks : List Mark) (k : ℕ) → slice_get marks k ≡ o → Balances n (Finish k) marks (finish_at o k marks)
finish_balances None n marks k e = same marks n
finish_balances (Some Open) n marks k e = same marks n
finish_balances (Some Held) n marks k e = pass_balances (slice_get marks (suc k)) n marks k e refl
finish_balances (Some (Left text)) n marks k e = same marks n
finish_balances (Some Finished) n marks k e = same marks n

leave_balances : (o : Option Mark) (n : ℕ) (marks : List Mark) (k : ℕ) (text : List ℕ) → slice_get marks k ≡ o → Balances n (Leave k text) marks (leave_at o k text marks)
leave_balances None n marks k text e = same marks n
leave_balances (Some Open) n marks k text e =
    by_eq k (first_unfinished marks) (λ b. Balances n (Leave k text) marks (if b then (Goes k text, slice_set marks k Held) else (Waits, slice_set marks k (Left text))))
    (λ t. at_once marks k n text e)
    (λ ne. waits marks k n text e)
leave_balances (Some Held) n marks k text e = same marks n
leave_balances (Some (Left was)) n marks k text e = same marks n
leave_balances (Some Finished) n marks k text e = same marks n

balances : (n : ℕ) (step : TurnStep) (marks : List Mark) → Balances n step marks (turn_outcome step marks)
balances n Issue marks = pushed marks n ∙ same marks n
balances n (Take k) marks = take_balances (slice_get marks k) n marks k refl
balances n (PutBack k) marks = put_back_balances (slice_get marks k) n marks k refl
balances n (Finish k) marks = finish_balances (slice_get marks k) n marks k refl
balances n (Leave k text) marks = leave_balances (slice_get marks k) n marks k text refl

-- what came out, and what waits, is what waited and what was left
balance : (n : ℕ) (steps : List TurnStep) (marks : List Mark) → texts_out n steps marks ++ text_waiting (slice_get (marks_after steps marks) n) ≡ text_waiting (slice_get marks n) ++ texts_left n steps marks
balance n [] marks = same marks n
balance n (step ∷ steps) marks =
    let out = text_out n (turn_answer step marks) in
    let more = texts_out n steps (marks_after_step step marks) in
    let end = text_waiting (slice_get (marks_after steps (marks_after_step step marks)) n) in
    let mid = text_waiting (slice_get (marks_after_step step marks) n) in
    let here = text_waiting (slice_get marks n) in
    let left = text_left n step (turn_answer step marks) in
    let later = texts_left n steps (marks_after_step step marks) in
    append_assoc out more end ∙ (ap (λ (xs : List (List ℕ)). out ++ xs) (balance n steps (marks_after_step step marks)) ∙ (sym (append_assoc out mid later) ∙ (ap (λ (xs : List (List ℕ)). xs ++ later) (balances n step marks) ∙ append_assoc here left later)))

pub come_once : (steps : List TurnStep) (n : ℕ) → texts_out n steps [] ++ text_waiting (slice_get (marks_after steps []) n) ≡ texts_left n steps []
come_once steps n = balance n steps []

-- nothing waits at a number whose turn has come
none_waits : (marks : List Mark) (n : ℕ) → AreInShape marks → ((early : ℕ) → early < n → slice_get marks early ≡ Some Finished) → text_waiting (slice_get marks n) ≡ []
none_waits [] n s h = refl
none_waits (Open ∷ marks) zero s h = refl
none_waits (Open ∷ marks) (suc n) s h = let e : Some Open ≡ Some Finished = h 0 (omega arith) in cc
none_waits (Held ∷ marks) zero s h = refl
none_waits (Held ∷ marks) (suc n) s h = let e : Some Held ≡ Some Finished = h 0 (omega arith) in cc
none_waits (Left text ∷ marks) n s h = absurd s
none_waits (Finished ∷ marks) zero s h = refl
none_waits (Finished ∷ marks) (suc n) s h = none_waits marks n s (λ early lt. h (suc early) (omega (arith, lt)))

pub come_in_turn : (steps : List TurnStep) (n : ℕ) → ((early : ℕ) → early < n → slice_get (marks_after steps []) early ≡ Some Finished) → texts_out n steps [] ≡ texts_left n steps []
come_in_turn steps n h =
    let none : text_waiting (slice_get (marks_after steps []) n) ≡ [] = none_waits (marks_after steps []) n (shape_after steps [] tt) h in
    sym (append-nil (texts_out n steps [])) ∙ (ap (λ (xs : List (List ℕ)). texts_out n steps [] ++ xs) (sym none) ∙ come_once steps n)

-- where a text comes out, its number wasn't held and is held now
abbrev IsHeldNow : List Mark → List Mark → ℕ → Type 0
IsHeldNow old new n = (slice_get old n ≡ Some Held → ⊥) × (slice_get new n ≡ Some Held)

abbrev HoldsIt : List Mark → TurnOutcome → Type 0
HoldsIt old o = (n : ℕ) (text : List ℕ) → o.0 ≡ Goes n text → IsHeldNow old o.1 n

held_there : (old marks : List Mark) (k n : ℕ) (was : Mark) (text stated : List ℕ) → slice_get old k ≡ Some was → (Some was ≡ Some Held → ⊥) → slice_get marks k ≡ Some was → Goes k text ≡ Goes n stated → IsHeldNow old (slice_set marks k Held) n
held_there old marks k n was text stated was_so other e g =
    let same_number : k ≡ n = cc in
    subst (λ (j : ℕ). IsHeldNow old (slice_set marks k Held) j) same_number (λ h. other (sym was_so ∙ h), get-set_same marks k was Held e)

take_holds : (o : Option Mark) (marks : List Mark) (k : ℕ) → HoldsIt marks (take_at o k marks)
take_holds None marks k = λ n text e. cc
take_holds (Some Open) marks k =
    by_eq k (first_unfinished marks) (λ b. HoldsIt marks (if b then (Taken, slice_set marks k Held) else (Strange, marks))) (λ t n text e. cc) (λ ne n text e. cc)
take_holds (Some Held) marks k = λ n text e. cc
take_holds (Some (Left was)) marks k = λ n text e. cc
take_holds (Some Finished) marks k = λ n text e. cc

put_back_holds : (o : Option Mark) (marks : List Mark) (k : ℕ) → HoldsIt marks (put_back_at o k marks)
put_back_holds None marks k n text e = cc
put_back_holds (Some Open) marks k n text e = cc
put_back_holds (Some Held) marks k n text e = cc
put_back_holds (Some (Left was)) marks k n text e = cc
put_back_holds (Some Finished) marks k n text e = cc

pass_holds : (o : Option Mark) (old marks : List Mark) (k : ℕ) → slice_get old k ≡ o → slice_get marks k ≡ o → HoldsIt old (pass_to o k marks)
pass_holds None old marks k was f n text e = cc
pass_holds (Some Open) old marks k was f n text e = cc
pass_holds (Some Held) old marks k was f n text e = cc
pass_holds (Some (Left text)) old marks k was f n stated e = held_there old marks k n (Left text) text stated was (λ h. cc) f e
pass_holds (Some Finished) old marks k was f n text e = cc

finish_holds : (o : Option Mark) (marks : List Mark) (k : ℕ) → HoldsIt marks (finish_at o k marks)
finish_holds None marks k n text e = cc
finish_holds (Some Open) marks k n text e = cc
finish_holds (Some Held) marks k n text e = pass_holds (slice_get marks (suc k)) marks (slice_set marks k Finished) (suc k) refl (slice_get-set_next marks k Finished) n text e
finish_holds (Some (Left was)) marks k n text e = cc
finish_holds (Some Finished) marks k n text e = cc

leave_holds : (o : Option Mark) (marks : List Mark) (k : ℕ) (text : List ℕ) → slice_get marks k ≡ o → HoldsIt marks (leave_at o k text marks)
leave_holds None marks k text f = λ n stated e. cc
leave_holds (Some Open) marks k text f =
    by_eq k (first_unfinished marks) (λ b. HoldsIt marks (if b then (Goes k text, slice_set marks k Held) else (Waits, slice_set marks k (Left text)))) (λ t n stated e. held_there marks marks k n Open text stated f (λ h. cc) f e) (λ ne n stated e. cc)
leave_holds (Some Held) marks k text f = λ n stated e. cc
leave_holds (Some (Left was)) marks k text f = λ n stated e. cc
leave_holds (Some Finished) marks k text f = λ n stated e. cc

pub go_holds : (step : TurnStep) (marks : List Mark) (n : ℕ) (text : List ℕ) → turn_answer step marks ≡ Goes n text → IsHeldNow marks (marks_after_step step marks) n
go_holds Issue marks n text e = cc
go_holds (Take k) marks n text e = take_holds (slice_get marks k) marks k n text e
go_holds (PutBack k) marks n text e = put_back_holds (slice_get marks k) marks k n text e
go_holds (Finish k) marks n text e = finish_holds (slice_get marks k) marks k n text e
go_holds (Leave k with) marks n text e = leave_holds (slice_get marks k) marks k with refl n text e
