-- Numbers that have no value, in front of those that are kept.
use Prim.Native.Nat.{suc}
use Rattle.std.proofs.Common.{◌≡◌, ℕ, ◌+◌, ◌<◌, List, ◌∷◌, ◌++◌, length, Some, None, ap, arith, ◌∙◌, sym}
use Rattle.std.specs.Prelude.{slice_get, slice_set, Option}
use Rattle.std.specs.Option.{option_to_list}
use Rattle.tiny_http_turns.specs.ByNumber.{with_passed, value_of}
use Rattle.tiny_http_turns.proofs.FrontLemmas.{get-behind, get-before, set-behind, one-behind}

pub get-of : {T : Type 0} (passed : ℕ) (kept : List (Option T)) (at number : ℕ) → number ≡ passed + at → slice_get (with_passed passed kept) number ≡ slice_get kept at
get-of passed kept at number e = ap (slice_get (with_passed passed kept)) e ∙ get-behind None passed kept at

pub set-of : {T : Type 0} (passed : ℕ) (kept : List (Option T)) (at number : ℕ) (x : Option T) → number ≡ passed + at → with_passed passed (slice_set kept at x) ≡ slice_set (with_passed passed kept) number x
set-of passed kept at number x e = sym (set-behind None passed kept at x) ∙ ap (λ y. slice_set (with_passed passed kept) y x) (sym e)

pub before-of : {T : Type 0} (passed : ℕ) (kept : List (Option T)) (number : ℕ) → number < passed → value_of (slice_get (with_passed passed kept) number) ≡ None
before-of passed kept number lt = ap value_of (get-before None passed kept number lt)

pub passed-one : {T : Type 0} (passed : ℕ) (kept : List (Option T)) → with_passed (passed + 1) kept ≡ with_passed passed (None ∷ kept)
passed-one passed kept = let more : passed + 1 ≡ suc passed = omega arith in ap (λ n. with_passed n kept) more ∙ sym (one-behind None passed kept)

-- the first, which is `None`, was taken off
pub popped-none : {T : Type 0} (old new : List (Option T)) (taken : Option (Option T)) (first x : Option T)
    → old ≡ option_to_list taken ++ new → taken ≡ Some x → first ≡ x → first ≡ None → old ≡ None ∷ new
popped-none old new taken first x all is same none = all ∙ ap (λ t. option_to_list t ++ new) (is ∙ ap Some (sym same ∙ none))

pub passed-next : {T : Type 0} (passed : ℕ) (old new : List (Option T)) (front : List (Option T)) → old ≡ None ∷ new → with_passed passed old ≡ front → with_passed (passed + 1) new ≡ front
passed-next passed old new front e was = passed-one passed new ∙ (ap (with_passed passed) (sym e) ∙ was)

pub shorter : {T : Type 0} (old new : List (Option T)) → old ≡ None ∷ new → length old ≡ length new + 1
shorter old new e = let more : suc (length new) ≡ length new + 1 = omega arith in ap length e ∙ more
