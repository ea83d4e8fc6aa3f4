-- The lines of a head under `Standard` (RFC 9112, sections 2.3, 3 and 5; RFC 9110, sections 5.5 and 5.6.2), each as a
-- concatenation of named parts. Tokens, the bytes of a value and optional white space are those of the crate
-- `httparse`.
use Rattle.std.specs.Prelude.{◌≡◌, ℕ, ◌+◌, ◌-◌, ◌<◌, ◌⊎◌, Bool, ◌&&◌, ◌||◌, ◌==◌, nat_lt, ◌/◌, ◌%◌, List, []}
use Rattle.std.specs.Prelude.{◌∷◌, ◌++◌, length, take, drop, IsTrue, codes, MatchBool, if◌then◌else◌}
use Rattle.std.specs.List.{list_all, flat_map, starts_with}
use Rattle.std.specs.Str.{bytes_eq}
use Rattle.std.specs.Char.{is_ascii_graphic}
use Rattle.httparse.specs.Grammar.{is_token, is_value_byte, is_ows}
use Rattle.tiny_http_text.specs.Bytes.{is_ascii, AreAscii, Trims, space, colon, point}
use Rattle.tiny_http_head.specs.declared.common.HTTPVersion.{HTTPVersion}
use Rattle.tiny_http_head.specs.declared.common.Method.{Method}
use Rattle.tiny_http_head.specs.declared.common.Header.{Header}
use Rattle.tiny_http_head.specs.Common.{same_name}
use Rattle.tiny_http_head.specs.Heads.{method_of}
use Rattle.tiny_http_head.specs.Target.{slash, question_mark}
use Rattle.tiny_http_standard_head.specs.Hosts.{percent, IsHostWithPort, IsAuthority}

abbrev pub digit_zero : ℕ
digit_zero = 48

abbrev pub capital_a : ℕ
capital_a = 65

-- whether the text is this HTTP-version = HTTP-name "/" DIGIT "." DIGIT, where HTTP-name is HTTP in upper case
pub record IsVersion (text : List ℕ) (v : HTTPVersion) : Type 0 where
  pub joins : text ≡ codes "HTTP/" ++ (digit_zero + v.0) ∷ point ∷ (digit_zero + v.1) ∷ []
  pub major : v.0 < 10
  pub minor : v.1 < 10

-- whether the text isn't a version
abbrev pub IsNoVersion : List ℕ → Type 0
IsNoVersion text = (v : HTTPVersion) → IsVersion text v → ⊥

-- the bytes before the first slash or question mark
abbrev pub authority_in : List ℕ → List ℕ
authority_in [] = []
authority_in (b ∷ bs) = if (b == slash || b == question_mark) then [] else b ∷ authority_in bs

-- whether the target begins with the scheme, compared case-insensitively and given with its ://, and the target's
-- authority is a host with or without a port
pub record HasScheme (scheme target : List ℕ) : Type 0 where
  pub front : IsTrue (same_name (take (length scheme) target) scheme)
  pub authority : IsHostWithPort (authority_in (drop (length scheme) target))

-- whether the target is in absolute-form, of which only the front is validated: http:// or https://, and a host with or
-- without a port
abbrev pub IsAbsoluteForm : List ℕ → Type 0
IsAbsoluteForm target = HasScheme (codes "http://") target ⊎ HasScheme (codes "https://") target

-- whether the target is in origin-form, of which only the slash at the front is validated
abbrev pub is_origin_form : List ℕ → Bool
is_origin_form target = starts_with ◌==◌ target (codes "/")

-- whether the target is in asterisk-form, which only OPTIONS may have
abbrev pub is_asterisk_form : List ℕ → List ℕ → Bool
is_asterisk_form method target = bytes_eq target (codes "*") && bytes_eq method (codes "OPTIONS")

-- whether the target is a valid request-target for this method: bytes 33 to 126, for CONNECT in authority-form, and for
-- other methods in one of the other three forms
abbrev pub IsTarget : List ℕ → List ℕ → Type 0
IsTarget method target =
    IsTrue (list_all is_ascii_graphic target)
    × MatchBool (bytes_eq method (codes "CONNECT")) (IsAuthority target)
    (IsTrue (is_origin_form target || is_asterisk_form method target) ⊎ IsAbsoluteForm target)

-- whether the text is this request-line = method SP request-target SP HTTP-version
pub record RequestLine (text method target : List ℕ) (v : HTTPVersion) : Type 0 where
  pub version_text : List ℕ
  pub joins : text ≡ method ++ space ∷ (target ++ space ∷ version_text)
  pub method_is : IsTrue (is_token method)
  pub target_is : IsTarget method target
  pub version_is : IsVersion version_text v

-- whether the text is a request line with this method, target and version
abbrev pub ReadsRequestLine : List ℕ → Method → List ℕ → HTTPVersion → Type 0
ReadsRequestLine text method target v = (name : List ℕ) × RequestLine text name target v × (method ≡ method_of name)

-- whether the text isn't a request line
abbrev pub IsNoRequestLine : List ℕ → Type 0
IsNoRequestLine text = (method : List ℕ) → (target : List ℕ) → (v : HTTPVersion) → RequestLine text method target v → ⊥

-- whether bytes above 127 are refused in this field, because their percent-encoding would be valid there
abbrev pub must_be_ascii : List ℕ → Bool
must_be_ascii field = same_name field (codes "Host") || same_name field (codes "Transfer-Encoding")

-- whether the text is this field-line = field-name ":" OWS field-value OWS. A byte above 127 is valid in a value,
-- except in Host and Transfer-Encoding.
pub record FieldLine (text field value : List ℕ) : Type 0 where
  pub padded : List ℕ
  pub joins : text ≡ field ++ colon ∷ padded
  pub field_is : IsTrue (is_token field)
  pub bytes : IsTrue (list_all is_value_byte padded)
  pub trims : Trims is_ows padded value
  pub ascii : IsTrue (must_be_ascii field) → AreAscii value

-- the hexadecimal digit of a value, in upper case
abbrev pub uppercase_hexadecimal_digit : ℕ → ℕ
uppercase_hexadecimal_digit d = if nat_lt d 10 then digit_zero + d else capital_a + (d - 10)

-- a byte of a value, percent-encoded if it is above 127
abbrev pub percent_encoded_byte : ℕ → List ℕ
percent_encoded_byte b =
    if is_ascii b then b ∷ [] else percent ∷ uppercase_hexadecimal_digit (b / 16) ∷ uppercase_hexadecimal_digit
    (b % 16) ∷ []

-- a value with its bytes above 127 percent-encoded
abbrev pub percent_encoded : List ℕ → List ℕ
percent_encoded value = flat_map percent_encoded_byte value

-- whether the text is a field line that is read as this header
abbrev pub ReadsFieldLine : List ℕ → Header → Type 0
ReadsFieldLine text h = (value : List ℕ) × FieldLine text h.field value × (h.value ≡ percent_encoded value)

-- whether the text isn't a field line
abbrev pub IsNoFieldLine : List ℕ → Type 0
IsNoFieldLine text = (field : List ℕ) → (value : List ℕ) → FieldLine text field value → ⊥
