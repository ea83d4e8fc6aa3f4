-- Headers that are made of texts are read back, and printed as they are.
use Rattle.std.proofs.Common.{◌≡◌, refl, ap, ℕ, Bool, true, false, not, ◌==◌, List, [], ◌∷◌, Some, arith}
use Rattle.std.specs.Char.{is_ascii_alphanumeric}
use Rattle.std.specs.List.{list_all}
use Rattle.std.proofs.lemmas.Bool.{and_parts}
use Rattle.std.proofs.lemmas.Bool.Decides.{nat_tests}
use Rattle.httparse.specs.Grammar.{is_token_byte, is_value_byte}
use Rattle.tiny_http_text.specs.Bytes.{is_blank, HasNo, HasNoBlank, colon}
use Rattle.tiny_http_text.specs.Lines.{has_crlf}
use Rattle.tiny_http_head.specs.HeaderTexts.{AreHeaderTexts, header_of}
use Rattle.tiny_http_head.proofs.HeaderTextsLemmas.{token-bytes, token_ascii}
use Rattle.tiny_http_response.specs.ByStandard.{safe_value, safe_header}
use Rattle.tiny_http_response.specs.Readable.{IsReadable}

-- a byte of a token is no white space
byte-bare : (b : ℕ) → is_token_byte b ≡ true → not (is_blank b) ≡ true
unfolding is_token_byte
byte-bare b e = by (is_ascii_alphanumeric b) refl
  where
    by : (t : Bool) → is_ascii_alphanumeric b ≡ t → not (is_blank b) ≡ true
    by true h = grind (nat_tests, arith, h)
    by false h = grind (nat_tests, arith, e, h)

-- and no colon
byte-no_colon : (b : ℕ) → is_token_byte b ≡ true → not (b == colon) ≡ true
unfolding is_token_byte
byte-no_colon b e = by (is_ascii_alphanumeric b) refl
  where
    by : (t : Bool) → is_ascii_alphanumeric b ≡ t → not (b == colon) ≡ true
    by true h = grind (nat_tests, arith, h)
    by false h = grind (nat_tests, arith, e, h)

token-bare : (bs : List ℕ) → list_all is_token_byte bs ≡ true → HasNoBlank bs
token-bare [] e = refl
token-bare (b ∷ bs) e = let k = and_parts (is_token_byte b) (list_all is_token_byte bs) e in rw (byte-bare b k.0, token-bare bs k.1) refl

token-no_colon : (bs : List ℕ) → list_all is_token_byte bs ≡ true → HasNo colon bs
token-no_colon [] e = refl
token-no_colon (b ∷ bs) e = let k = and_parts (is_token_byte b) (list_all is_token_byte bs) e in rw (byte-no_colon b k.0, token-no_colon bs k.1) refl

-- a value ends no line
byte-no_cr : (b : ℕ) → is_value_byte b ≡ true → (b == 13) ≡ false
byte-no_cr b e = grind (nat_tests, arith, e)

value-one_line : (bs : List ℕ) → list_all is_value_byte bs ≡ true → has_crlf bs ≡ false
value-one_line [] e = refl
value-one_line (a ∷ []) e = refl
value-one_line (a ∷ b ∷ bs) e = let k = and_parts (is_value_byte a) (list_all is_value_byte (b ∷ bs)) e in rw (byte-no_cr a k.0) (value-one_line (b ∷ bs) k.1)

-- and has no byte that is replaced
value-kept : (bs : List ℕ) → list_all is_value_byte bs ≡ true → safe_value bs ≡ bs
value-kept [] e = refl
value-kept (b ∷ bs) e = let k = and_parts (is_value_byte b) (list_all is_value_byte bs) e in rw k.0 (ap (λ (r : List ℕ). b ∷ r) (value-kept bs k.1))

pub header-readable : (name value : List ℕ) → AreHeaderTexts name value → IsReadable (header_of name value)
header-readable name value h =
    let bytes = token-bytes name h.0 in
    record {
      ascii_field = token_ascii name h.0;
      ascii_value = h.1.0;
      no_blank = token-bare name bytes;
      no_colon = token-no_colon name bytes;
      bare_front = h.1.2.0;
      bare_end = h.1.2.1;
      one_line = value-one_line value h.1.1;
    }

pub header-kept : (name value : List ℕ) → AreHeaderTexts name value → safe_header (header_of name value) ≡ Some (header_of name value)
header-kept name value h = rw (h.0, value-kept value h.1.1) refl
