-- What the steps come to, case by case.
use Prim.Native.Nat.{suc}
use Rattle.std.proofs.Common.{◌≡◌, ◌≢◌, ℕ, List, Some, refl, arith, eqb, eq-eqb}
use Rattle.std.specs.Prelude.{slice_get, slice_set, if◌then◌else◌}
use Rattle.std.proofs.lemmas.Bool.Decides.{nat_tests}
use Rattle.tiny_http_turns.specs.Turns.{Mark, Open, Held, Left, Finished, first_unfinished, Taken, Opened, Waits, Goes, pass_to, turn_outcome, Take, PutBack, Finish, Leave}

if_same : {X : Type 0} (a b : ℕ) (x y : X) → a ≡ b → (if eqb a b then x else y) ≡ x
if_same a b x y e = rw (eq-eqb a b e) refl

pub if_other : {X : Type 0} (a b : ℕ) (x y : X) → a ≢ b → (if eqb a b then x else y) ≡ y
if_other a b x y ne = grind (arith, nat_tests)

pub outcome-take : (marks : List Mark) (k : ℕ) → slice_get marks k ≡ Some Open → k ≡ first_unfinished marks → turn_outcome (Take k) marks ≡ (Taken, slice_set marks k Held)
outcome-take marks k e t = rw e (if_same k (first_unfinished marks) _ _ t)

pub outcome-put_back : (marks : List Mark) (k : ℕ) → slice_get marks k ≡ Some Held → turn_outcome (PutBack k) marks ≡ (Opened, slice_set marks k Open)
outcome-put_back marks k e = rw e refl

pub outcome-finish : (marks : List Mark) (k : ℕ) → slice_get marks k ≡ Some Held → turn_outcome (Finish k) marks ≡ pass_to (slice_get marks (suc k)) (suc k) (slice_set marks k Finished)
outcome-finish marks k e = rw e refl

pub outcome-leave_go : (marks : List Mark) (k : ℕ) (text : List ℕ) → slice_get marks k ≡ Some Open → k ≡ first_unfinished marks → turn_outcome (Leave k text) marks ≡ (Goes k text, slice_set marks k Held)
outcome-leave_go marks k text e t = rw e (if_same k (first_unfinished marks) _ _ t)

pub outcome-leave_wait : (marks : List Mark) (k : ℕ) (text : List ℕ) → slice_get marks k ≡ Some Open → k ≢ first_unfinished marks → turn_outcome (Leave k text) marks ≡ (Waits, slice_set marks k (Left text))
outcome-leave_wait marks k text e ne = rw e (if_other k (first_unfinished marks) _ _ ne)
