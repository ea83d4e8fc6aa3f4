-- The digits of a number, from the last to the first.
use Rattle.std.proofs.Common.{◌≡◌, ℕ, zero, suc, ◌+◌, ◌*◌, ◌/◌, ◌%◌, ◌<◌, ◌≤◌, ◌^◌, ◌==◌, false, true, List, [], ◌∷◌, refl, sym, arith}
use Rattle.std.specs.Fmt.{digits, digits_onto, digit_glyph}
use Rattle.std.proofs.Math.Nat.{pow-suc, div-lt_iff_lt-mul, mul-le-mul_left, div-eq_of_lt, mod-eq_of_lt}
use Rattle.std.proofs.lemmas.Bool.{eq-eqb, ne_eqb}

-- at most so many digits of a number in lower case, in front of a text
unfoldable pub spelled : ℕ → ℕ → ℕ → List ℕ → List ℕ
spelled k base m text = digits_onto k base false m text

-- no digit is written
pub digits-start : (base n : ℕ) (text : List ℕ) → text ≡ [] → digits base false n ≡ spelled 64 base n text
unfolding digits spelled
digits-start base n text e = rw e refl

-- the last digit of a number, in front of those that are written
pub digits-next : (k base m : ℕ) (text more : List ℕ) → 0 < base → base ≤ m → more ≡ digit_glyph false (m % base) ∷ text → spelled (suc k) base m text ≡ spelled k base (m / base) more
unfolding spelled
digits-next k base m text more some large e =
    let test : (m / base == 0) ≡ false = ne_eqb (m / base) 0 (λ z. let small : m / base < 1 = omega arith in absurd (omega (arith, (div-lt_iff_lt-mul some).0 small))) in
    rw (e, test) refl

-- the first digit
pub digits-last : (k base m : ℕ) (text more : List ℕ) → m < base → more ≡ digit_glyph false m ∷ text → spelled (suc k) base m text ≡ more
unfolding spelled
digits-last k base m text more small e =
    let test : (m / base == 0) ≡ true = eq-eqb (m / base) 0 (div-eq_of_lt small) in
    rw (test, mod-eq_of_lt small) (sym e)

-- a digit less
pub digits-fewer : (base m at : ℕ) → 10 ≤ base → m < 10 ^ suc at → m / base < 10 ^ at
digits-fewer base m at low h =
    let e : 10 ^ suc at ≡ 10 ^ at * 10 = pow-suc 10 at in
    let more : 10 ^ at * 10 ≤ 10 ^ at * base = mul-le-mul_left (10 ^ at) low in
    let some : 0 < base = omega arith in
    (div-lt_iff_lt-mul some).1 (omega arith)

-- there is room for another digit
pub digits-room : (m at : ℕ) → 10 ≤ m → m < 10 ^ (at + 1) → 0 < at
digits-room m zero some h = absurd (omega arith)
digits-room m (suc at) some h = omega arith
