-- The first byte of a kind in a text, and what stands on either side of it.
use Rattle.std.proofs.Common.{◌≡◌, refl, subst, ℕ, not, eqb-true, Bool, true, false, List, [], ◌∷◌, ◌++◌, arith}
use Rattle.std.specs.Prelude.{◌==◌}
use Rattle.std.specs.List.{list_all}
use Rattle.std.proofs.lemmas.Bool.{and_parts}
use Rattle.tiny_http_text.specs.Bytes.{HasNo}

-- a test has one outcome
pub contrary : {G : Type 0} (b : Bool) → b ≡ true → b ≡ false → G
contrary true t f = cc
contrary false t f = cc

-- a text with such a byte isn't without one
pub not-without : (c : ℕ) (b y : List ℕ) → HasNo c (b ++ c ∷ y) → ⊥
not-without c [] y h = grind (arith, h)
not-without c (x ∷ b) y h = not-without c b y (and_parts (not (x == c)) (list_all (λ z. not (z == c)) (b ++ c ∷ y)) h).1

-- a byte that isn't of a kind doesn't stand among those that are
pub one-without : (p : ℕ → Bool) (c b : ℕ) → p c ≡ false → p b ≡ true → (b == c) ≡ false
one-without p c b not_c h = by (b == c) refl
  where
    by : (t : Bool) → (b == c) ≡ t → (b == c) ≡ false
    by true e = contrary (p c) (subst (λ (x : ℕ). p x ≡ true) (eqb-true b c e) h) not_c
    by false e = e

pub all-without : (p : ℕ → Bool) (c : ℕ) (text : List ℕ) → p c ≡ false → list_all p text ≡ true → HasNo c text
all-without p c [] not_c h = refl
all-without p c (b ∷ bs) not_c h =
    let k = and_parts (p b) (list_all p bs) h in
    rw (one-without p c b not_c k.0, all-without p c bs not_c k.1) refl

-- what stands before the first such byte, and behind it, is one
pub one-first : (c : ℕ) (a b x y : List ℕ) → HasNo c a → HasNo c b → a ++ c ∷ x ≡ b ++ c ∷ y → (a ≡ b) × (x ≡ y)
one-first c [] [] x y ha hb e = (refl, cc)
one-first c [] (v ∷ b) x y ha hb e = let s : v ≡ c = cc in absurd (not-without c [] b (subst (λ (z : ℕ). HasNo c (z ∷ b)) s hb))
one-first c (u ∷ a) [] x y ha hb e = let s : u ≡ c = cc in absurd (not-without c [] a (subst (λ (z : ℕ). HasNo c (z ∷ a)) s ha))
one-first c (u ∷ a) (v ∷ b) x y ha hb e =
    let rest : a ++ c ∷ x ≡ b ++ c ∷ y = cc in
    let first : u ≡ v = cc in
    let r = one-first c a b x y (and_parts (not (u == c)) (list_all (λ z. not (z == c)) a) ha).1 (and_parts (not (v == c)) (list_all (λ z. not (z == c)) b) hb).1 rest in
    (rw (first, r.0) refl, r.1)
