-- What a list holds at an index after an element is set or added.
use Prim.Native.Nat.{zero, suc}
use Rattle.std.proofs.Common.{◌≡◌, ◌⊎◌, inl, inr, ℕ, List, [], ◌∷◌, ◌++◌, length, Some, None, refl, ap, sym}
use Rattle.std.specs.Prelude.{slice_get, slice_set}

-- an index set to its own element
pub set-same : {X : Type 0} (xs : List X) (k : ℕ) (x : X) → slice_get xs k ≡ Some x → slice_set xs k x ≡ xs
set-same [] k x e = cc
set-same (z ∷ zs) zero x e = let same : z ≡ x = cc in ap (λ y. y ∷ zs) (sym same)
set-same (z ∷ zs) (suc k) x e = ap (λ r. z ∷ r) (set-same zs k x e)

-- an index that is set twice
pub set-set : {X : Type 0} (xs : List X) (k : ℕ) (x y : X) → slice_set (slice_set xs k x) k y ≡ slice_set xs k y
set-set [] k x y = refl
set-set (z ∷ zs) zero x y = refl
set-set (z ∷ zs) (suc k) x y = ap (λ r. z ∷ r) (set-set zs k x y)

-- the element at the index that was set
pub get-set_same : {X : Type 0} (xs : List X) (k : ℕ) (x y : X) → slice_get xs k ≡ Some x → slice_get
    (slice_set xs k y) k ≡ Some y
get-set_same [] k x y e = cc
get-set_same (z ∷ zs) zero x y e = refl
get-set_same (z ∷ zs) (suc k) x y e = get-set_same zs k x y e

-- the element at another index
pub get-set_other : {X : Type 0} (xs : List X) (k j : ℕ) (y : X) → (k ≡ j → ⊥) → slice_get
    (slice_set xs k y) j ≡ slice_get xs j
get-set_other [] k j y other = refl
get-set_other (z ∷ zs) zero zero y other = absurd (other refl)
get-set_other (z ∷ zs) zero (suc j) y other = refl
get-set_other (z ∷ zs) (suc k) zero y other = refl
get-set_other (z ∷ zs) (suc k) (suc j) y other = get-set_other zs k j y (λ e. other (ap suc e))

-- an element after one was set was set, or was there before
pub get-set : {X : Type 0} (xs : List X) (k j : ℕ) (y z : X) → slice_get (slice_set xs k y) j ≡ Some z → (y ≡ z) ⊎
    (slice_get xs j ≡ Some z)
get-set [] k j y z e = inr e
get-set (x ∷ xs) zero zero y z e = inl cc
get-set (x ∷ xs) zero (suc j) y z e = inr e
get-set (x ∷ xs) (suc k) zero y z e = inr e
get-set (x ∷ xs) (suc k) (suc j) y z e = get-set xs k j y z e

-- an element after one was added was added, or was there before
pub get-push : {X : Type 0} (xs : List X) (j : ℕ) (y z : X) → slice_get (xs ++ y ∷ []) j ≡ Some z → (y ≡ z) ⊎
    (slice_get xs j ≡ Some z)
get-push [] zero y z e = inl cc
get-push [] (suc j) y z e = absurd cc
get-push (x ∷ xs) zero y z e = inr e
get-push (x ∷ xs) (suc j) y z e = get-push xs j y z e

-- an element that was there before one was added
pub get-push_before : {X : Type 0} (xs : List X) (j : ℕ) (y z : X) → slice_get xs j ≡ Some z → slice_get
    (xs ++ y ∷ []) j ≡ Some z
get-push_before [] j y z e = absurd cc
get-push_before (x ∷ xs) zero y z e = e
get-push_before (x ∷ xs) (suc j) y z e = get-push_before xs j y z e

-- the element that was added
pub get-push_last : {X : Type 0} (xs : List X) (y : X) → slice_get (xs ++ y ∷ []) (length xs) ≡ Some y
get-push_last [] y = refl
get-push_last (x ∷ xs) y = get-push_last xs y

-- no element past the end
pub get-length : {X : Type 0} (xs : List X) → slice_get xs (length xs) ≡ None
get-length [] = refl
get-length (x ∷ xs) = get-length xs
