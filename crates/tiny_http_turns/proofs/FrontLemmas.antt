-- Lists that begin with so many times the same, and a place set to what stands there.
use Prim.Native.Nat.{zero, suc}
use Rattle.std.proofs.Common.{◌≡◌, ℕ, ◌+◌, ◌<◌, List, [], ◌∷◌, ◌++◌, Some, refl, ap, arith, ◌∙◌, sym}
use Rattle.std.specs.Prelude.{slice_get, slice_set, replicate}

zero-plus : (n : ℕ) → 0 + n ≡ n
zero-plus n = omega arith

suc-plus : (n m : ℕ) → suc n + m ≡ suc (n + m)
suc-plus n m = omega arith

-- what is kept behind so many of them
pub get-behind : {X : Type 0} (x : X) (n : ℕ) (us : List X) (at : ℕ) → slice_get (replicate n x ++ us) (n + at) ≡ slice_get us at
get-behind x zero us at = ap (slice_get us) (zero-plus at)
get-behind x (suc n) us at = ap (slice_get (replicate (suc n) x ++ us)) (suc-plus n at) ∙ get-behind x n us at

pub get-before : {X : Type 0} (x : X) (n : ℕ) (us : List X) (at : ℕ) → at < n → slice_get (replicate n x ++ us) at ≡ Some x
get-before x zero us at lt = absurd (omega (arith, lt))
get-before x (suc n) us zero lt = refl
get-before x (suc n) us (suc at) lt = get-before x n us at (omega (arith, lt))

pub set-behind : {X : Type 0} (x : X) (n : ℕ) (us : List X) (at : ℕ) (y : X) → slice_set (replicate n x ++ us) (n + at) y ≡ replicate n x ++ slice_set us at y
set-behind x zero us at y = ap (λ k. slice_set us k y) (zero-plus at)
set-behind {X} x (suc n) us at y = ap (λ k. slice_set (replicate (suc n) x ++ us) k y) (suc-plus n at) ∙ ap (λ (l : List X). x ∷ l) (set-behind x n us at y)

-- one more of them
pub one-behind : {X : Type 0} (x : X) (n : ℕ) (us : List X) → replicate n x ++ (x ∷ us) ≡ replicate (suc n) x ++ us
one-behind x zero us = refl
one-behind {X} x (suc n) us = ap (λ (l : List X). x ∷ l) (one-behind x n us)

-- a place set to what stands there
pub set-same : {X : Type 0} (xs : List X) (k : ℕ) (x : X) → slice_get xs k ≡ Some x → slice_set xs k x ≡ xs
set-same [] k x e = cc
set-same (z ∷ zs) zero x e = let same : z ≡ x = cc in ap (λ y. y ∷ zs) (sym same)
set-same (z ∷ zs) (suc k) x e = ap (λ r. z ∷ r) (set-same zs k x e)
