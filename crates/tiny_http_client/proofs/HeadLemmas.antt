-- What the parsers of an answer's head answer, as the plain reading has it.
use Rattle.std.proofs.Common.{◌≡◌, refl, sym, ap, ◌∙◌, subst, ℕ, ◌<◌, ◌≤◌, ◌^◌, Bool, true, false, not, List, [], ◌∷◌, ◌++◌, Option, Some, None, arith}
use Rattle.std.specs.Prelude.{◌==◌, ◌&&◌, nat_lt, length, decimal, codes, IsSome, if◌then◌else◌}
use Rattle.std.specs.List.{list_all}
use Rattle.std.specs.Str.{bytes_eq, all_ascii_digits}
use Rattle.std.specs.Str.Parse.{IsNumeral, digits_value}
use Rattle.std.proofs.lemmas.Bool.{leb-true, and_parts, not-true, false≢true}
use Rattle.std.proofs.lemmas.Slice.Eq.{bytes_eq-Decides}
use Rattle.std.proofs.lemmas.Fmt.{decimal_is_IsNumeral}
use Rattle.tiny_http_head.specs.declared.common.Header.{Header}
use Rattle.tiny_http_head.specs.declared.common.HTTPVersion.{HTTPVersion}
use Rattle.tiny_http_text.specs.Bytes.{AreAscii, HasNo, is_blank, colon}
use Rattle.tiny_http_head.specs.Heads.{length_of}
use Rattle.tiny_http_text.specs.QualityReading.{cut}
use Rattle.tiny_http_text.proofs.BytesLemmas.{none-from, ascii-at}
use Rattle.tiny_http_head.proofs.LinesLemmas.{both}
use Rattle.tiny_http_head.proofs.HeadsLengths.{length_of-some}
use Rattle.tiny_http_client.specs.ClientReading.{decimal_read, decimal_of, decimal_until, with_rest, status_line_read, protocol_read, major_read, field_line_read, value_read}
use Rattle.tiny_http_client.proofs.ClientReadingLines.{number-one, number-is, cut-front}

-- a number that is no numeral, is above the most, or isn't written so
pub decimal-none : (most : ℕ) (text : List ℕ) → most < 2 ^ 64 → ¬ (IsNumeral 10 text × (digits_value 10 text < 2 ^ 64)) → None ≡ decimal_read most text
unfolding decimal_read
decimal-none most text lt h = none-from _ _ (λ t.
    let k = both (bytes_eq text (decimal (digits_value 10 text))) _ t in
    let fits : digits_value 10 text ≤ most = leb-true (digits_value 10 text) most k.1 in
    let same : text ≡ decimal (digits_value 10 text) = (bytes_eq-Decides text (decimal (digits_value 10 text))).0 k.0 in
    let numeral = decimal_is_IsNumeral (digits_value 10 text) (omega arith) in
    h (subst (λ x. IsNumeral 10 x) (sym same) numeral.0, omega arith))

pub decimal-more : (most n : ℕ) (text : List ℕ) → n ≡ digits_value 10 text → most < n → None ≡ decimal_read most text
unfolding decimal_read
decimal-more most n text e h = none-from _ _ (λ t.
    let k = both (bytes_eq text (decimal (digits_value 10 text))) _ t in
    let fits : digits_value 10 text ≤ most = leb-true (digits_value 10 text) most k.1 in
    omega arith)

pub decimal-other : (most n : ℕ) (text : List ℕ) → n ≡ digits_value 10 text → (decimal n ≡ text → ⊥) → None ≡ decimal_read most text
unfolding decimal_read
decimal-other most n text e h = none-from _ _ (λ t.
    let k = both (bytes_eq text (decimal (digits_value 10 text))) _ t in
    let same : text ≡ decimal (digits_value 10 text) = (bytes_eq-Decides text (decimal (digits_value 10 text))).0 k.0 in
    h (ap decimal e ∙ sym same))

pub decimal-some : (most n : ℕ) (text : List ℕ) → most < 2 ^ 64 → n ≤ most → decimal n ≡ text → Some n ≡ decimal_read most text
decimal-some most n text lt h e = ap Some refl ∙ sym (number-one most n h lt) ∙ ap (decimal_read most) e

-- a byte that isn't there cuts nothing
pub cut-nothing : (c : ℕ) (text : List ℕ) → HasNo c text → cut c text ≡ None
cut-nothing c [] h = refl
cut-nothing c (b ∷ bs) h =
    let k = and_parts (not (b == c)) (list_all (λ x. not (x == c)) bs) h in
    rw (not-true (b == c) k.0, cut-nothing c bs k.1) refl

pub cut-there : (c : ℕ) (text w rest : List ℕ) → text ≡ w ++ c ∷ rest → HasNo c w → cut c text ≡ Some (w, rest)
cut-there c text w rest j h = ap (cut c) j ∙ cut-front c w rest h

pub until-nothing : (most c : ℕ) (text : List ℕ) → HasNo c text → decimal_until most c text ≡ None
until-nothing most c text h = ap (decimal_of most) (cut-nothing c text h)

pub until-there : (most c : ℕ) (text w rest : List ℕ) (o : Option ℕ) → text ≡ w ++ c ∷ rest → HasNo c w → o ≡ decimal_read most w → decimal_until most c text ≡ with_rest rest o
until-there most c text w rest o j h e = ap (decimal_of most) (cut-there c text w rest j h) ∙ ap (with_rest rest) (sym e)

-- a status-line, part by part
pub status-line-no_slash : (text : List ℕ) → HasNo 47 text → ◌≡◌ {A = Option (HTTPVersion × ℕ)} None (status_line_read text)
status-line-no_slash text h = sym (ap protocol_read (cut-nothing 47 text h))

pub status-line-other : (text w rest : List ℕ) → text ≡ w ++ 47 ∷ rest → HasNo 47 w → bytes_eq w (codes "HTTP") ≡ false → ◌≡◌ {A = Option (HTTPVersion × ℕ)} None (status_line_read text)
status-line-other text w rest j h e = rw (cut-there 47 text w rest j h, e) refl

pub status-line-after : (text w rest : List ℕ) → text ≡ w ++ 47 ∷ rest → HasNo 47 w → bytes_eq w (codes "HTTP") ≡ true → status_line_read text ≡ major_read (decimal_until 255 46 rest)
status-line-after text w rest j h e = rw (cut-there 47 text w rest j h, e) refl

-- a field-line, part by part
pub field-line-no_colon : (text : List ℕ) → HasNo colon text → ◌≡◌ {A = Option Header} None (field_line_read text)
field-line-no_colon text h = rw (cut-nothing colon text h) refl

pub field-line-blank : (text w rest : List ℕ) → text ≡ w ++ colon ∷ rest → HasNo colon w → list_all (λ b. not (is_blank b)) w ≡ false → ◌≡◌ {A = Option Header} None (field_line_read text)
field-line-blank text w rest j h e = rw (cut-there colon text w rest j h, e) refl

pub field-line-valueless : (text w rest : List ℕ) → text ≡ w ++ colon ∷ rest → HasNo colon w → list_all (λ b. not (is_blank b)) w ≡ true → value_read rest ≡ None → ◌≡◌ {A = Option Header} None (field_line_read text)
field-line-valueless text w rest j h e v = rw (cut-there colon text w rest j h, e, v) refl

pub field-line-made : (text w rest value f v : List ℕ) → text ≡ w ++ colon ∷ rest → HasNo colon w → list_all (λ b. not (is_blank b)) w ≡ true → value_read rest ≡ Some value → f ≡ w → v ≡ value
    → ◌≡◌ {A = Option Header} (Some (record { field = f; value = v })) (field_line_read text)
field-line-made text w rest value f v j h e r field is = rw (cut-there colon text w rest j h, e, r, field, is) refl

pub field-line-good : (text w rest value : List ℕ) → text ≡ w ++ colon ∷ rest → HasNo colon w → list_all (λ b. not (is_blank b)) w ≡ true → value_read rest ≡ Some value → IsSome (field_line_read text)
field-line-good text w rest value j h e r = rw (cut-there colon text w rest j h, e, r) refl

-- the number that a text writes, and that it writes none
pub number-value : (text : List ℕ) (n : ℕ) → Some n ≡ length_of text → n ≡ digits_value 10 text
number-value text n e = by (nat_lt 0 (length text) && (all_ascii_digits text && nat_lt (digits_value 10 text) (2 ^ 64))) e
  where
    by : (t : Bool) → ◌≡◌ {A = Option ℕ} (Some n) (if t then Some (digits_value 10 text) else None) → n ≡ digits_value 10 text
    by true k = cc
    by false k = cc

pub number-none : (text : List ℕ) → None ≡ length_of text → ¬ (IsNumeral 10 text × (digits_value 10 text < 2 ^ 64))
number-none text e h = let never : ◌≡◌ {A = Option ℕ} None (Some (digits_value 10 text)) = e ∙ sym (length_of-some text (digits_value 10 text) h refl) in cc

-- the number is at most the most
pub until-fits : (most n : ℕ) (text : List ℕ) → Some n ≡ decimal_read most text → n ≤ most
until-fits most n text e = (number-is most text n (sym e)).1

holds : (t : Bool) → false ≡ not t → t ≡ true
holds true e = refl
holds false e = absurd (false≢true e)

-- two texts are compared
pub differs : (a b : List ℕ) → true ≡ not (bytes_eq a b) → a ≡ b → ⊥
differs a b t e = let same : bytes_eq a b ≡ true = (bytes_eq-Decides a b).1 e in absurd (false≢true (sym (t ∙ ap not same)))

pub agrees : (a b : List ℕ) → false ≡ not (bytes_eq a b) → a ≡ b
agrees a b t = (bytes_eq-Decides a b).0 (holds (bytes_eq a b) t)
