-- The length that a text says.
use Rattle.std.proofs.Common.{◌≡◌, ℕ, ◌<◌, ◌^◌, List, length, Some, None, ap}
use Rattle.std.proofs.Common.{true}
use Rattle.std.proofs.Common.{ltb, lt-ltb, ltb-true}
use Rattle.std.specs.Str.{all_ascii_digits}
use Rattle.std.specs.Str.Parse.{IsNumeral, digits_value}
use Rattle.tiny_http_text.proofs.BytesLemmas.{none-from}
use Rattle.tiny_http_head.specs.Heads.{length_of}
use Rattle.tiny_http_head.proofs.LinesLemmas.{both}
use Rattle.tiny_http_text.proofs.QualityReadingLemmas.{numerals}

-- the length that a text says, and that it says none
pub length_of-some : (ds : List ℕ) (n : ℕ) → IsNumeral 10 ds × (digits_value 10 ds < 2 ^ 64) → n ≡ digits_value 10 ds → Some n ≡ length_of ds
length_of-some ds n h e =
    let some : ltb 0 (length ds) ≡ true = lt-ltb 0 (length ds) h.0.0 in
    let digits : all_ascii_digits ds ≡ true = numerals.from ds h.0.1 in
    let fits : ltb (digits_value 10 ds) (2 ^ 64) ≡ true = lt-ltb (digits_value 10 ds) (2 ^ 64) h.1 in
    rw (some, digits, fits) (ap Some e)

pub length_of-none : (ds : List ℕ) → ¬ (IsNumeral 10 ds × (digits_value 10 ds < 2 ^ 64)) → None ≡ length_of ds
length_of-none ds h = none-from _ _ (λ t.
    let first = both _ _ t in
    let second = both _ _ first.1 in
    h ((ltb-true 0 (length ds) first.0, numerals.to ds second.0), ltb-true (digits_value 10 ds) (2 ^ 64) second.1))
