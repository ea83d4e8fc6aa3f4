-- Digits read one after the other.
use Rattle.std.proofs.Common.{◌≡◌, refl, sym, ap, ◌∙◌, ℕ, zero, suc, ◌+◌, ◌-◌, ◌*◌, ◌<◌, ◌≤◌, Bool, true, false, ◌&&◌, List, [], ◌∷◌, length, take, get_or, Some, None, arith}
use Rattle.std.specs.Prelude.{◌^◌, nat_lt, if◌then◌else◌}
use Rattle.std.specs.List.{list_all}
use Rattle.std.specs.Char.{is_ascii_digit, digit_value}
use Rattle.std.specs.Str.{all_ascii_digits}
use Rattle.std.specs.Str.Parse.{digits_value}
use Rattle.std.proofs.lemmas.Str.{digit_value_digit}
use Rattle.std.proofs.lemmas.Int.Digits.{digits_value_more}
use Rattle.std.proofs.lemmas.Str.Parse.{digits_value-take-le}
use Rattle.std.proofs.lemmas.List.{take_all}
use Rattle.std.proofs.lemmas.List.Folds.{list_all_more}
use Rattle.std.proofs.lemmas.Bool.Decides.{nat_tests}
use Rattle.tiny_http_head.specs.Heads.{length_of}

pub all-digits : (ds : List ℕ) → all_ascii_digits ds ≡ list_all is_ascii_digit ds
all-digits [] = refl
all-digits (d ∷ ds) = ap (λ (x : Bool). is_ascii_digit d && x) (all-digits ds)

-- the number of one digit more
pub one-digit : (text : List ℕ) (i : ℕ) → i < length text → is_ascii_digit (get_or text i 0) ≡ true → digits_value 10 (take (i + 1) text) ≡ digits_value 10 (take i text) * 10 + (get_or text i 0 - 48)
one-digit text i lt is =
    let d = get_or text i 0 in
    let low : 48 ≤ d = grind (nat_tests, arith, is) in
    let high : d ≤ 57 = grind (nat_tests, arith, is) in
    let v : digit_value d + 48 ≡ d = digit_value_digit d (low, high) in
    let w : digit_value d ≡ d - 48 = omega (arith, v) in
    digits_value_more 10 text i lt ∙ ap (λ (x : ℕ). digits_value 10 (take i text) * 10 + x) w

pub more-digits : (text : List ℕ) (i : ℕ) → i < length text → is_ascii_digit (get_or text i 0) ≡ true → all_ascii_digits (take i text) ≡ true → all_ascii_digits (take (i + 1) text) ≡ true
more-digits text i lt is h =
    let before : list_all is_ascii_digit (take i text) ≡ true = sym (all-digits (take i text)) ∙ h in
    all-digits (take (i + 1) text) ∙ rw (list_all_more is_ascii_digit text i 0 lt, before, is) refl

pub other-byte : (text : List ℕ) (i : ℕ) → i < length text → is_ascii_digit (get_or text i 0) ≡ false → all_ascii_digits text ≡ false
other-byte [] i lt is = absurd (omega arith)
other-byte (d ∷ ds) zero lt is = rw is refl
other-byte (d ∷ ds) (suc i) lt is = rw (other-byte ds i (omega arith) is) (by (is_ascii_digit d))
  where
    by : (b : Bool) → (b && false) ≡ false
    by true = refl
    by false = refl

-- why a text has no number
pub no-digits : (text : List ℕ) → all_ascii_digits text ≡ false → None ≡ length_of text
no-digits text h = rw h (by (nat_lt 0 (length text)))
  where
    by : (b : Bool) → None ≡ (if (b && (false && nat_lt (digits_value 10 text) (2 ^ 64))) then Some (digits_value 10 text) else None)
    by true = refl
    by false = refl

pub too-large : (text : List ℕ) (i : ℕ) → 2 ^ 64 ≤ digits_value 10 (take i text) → None ≡ length_of text
too-large text i le =
    let whole : digits_value 10 (take i text) ≤ digits_value 10 text = digits_value-take-le 10 text i (omega arith) in
    let no : nat_lt (digits_value 10 text) (2 ^ 64) ≡ false = grind (nat_tests, arith, le, whole) in
    rw no (by (nat_lt 0 (length text)) (all_ascii_digits text))
  where
    by : (a b : Bool) → None ≡ (if (a && (b && false)) then Some (digits_value 10 text) else None)
    by true true = refl
    by true false = refl
    by false b = refl

pub has-number : (text : List ℕ) (i n : ℕ) → 0 < length text → length text ≤ i → n ≡ digits_value 10 (take i text) → all_ascii_digits (take i text) ≡ true → n < 2 ^ 64 → Some n ≡ length_of text
has-number text i n some le is digits lt =
    let all : take i text ≡ text = take_all i text le in
    let value : n ≡ digits_value 10 text = is ∙ ap (digits_value 10) all in
    let d : all_ascii_digits text ≡ true = ap all_ascii_digits (sym all) ∙ digits in
    let small : nat_lt (digits_value 10 text) (2 ^ 64) ≡ true = grind (nat_tests, arith, lt, value) in
    let not_empty : nat_lt 0 (length text) ≡ true = grind (nat_tests, arith, some) in
    rw (not_empty, d, small) (ap Some value)
