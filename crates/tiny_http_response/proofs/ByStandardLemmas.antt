-- The headers that the standard makes of an answer's, and their lines.
use Rattle.std.proofs.Common.{is_some, Bor, option_copied, ◌≡◌, ℕ, ◌≤◌, Bool, true, false, ◌&&◌, List, [], ◌∷◌, ◌++◌, refl, ap, ◌∙◌, append-nil, if◌then◌else◌}
use Rattle.std.specs.Prelude.{Option, Some, None, option_map}
use Rattle.std.specs.List.{cons_option}
use Rattle.std.specs.List.{flat_map, list_all}
use Rattle.httparse.specs.Grammar.{is_token, is_value_byte}
use Rattle.std.proofs.lemmas.Bool.{le-ltb}
use Rattle.std.proofs.lemmas.Grind.{flat_map-append}
use Rattle.tiny_http_head.specs.declared.common.HTTPVersion.{HTTPVersion}
use Rattle.tiny_http_head.specs.declared.common.Header.{Header}
use Rattle.tiny_http_response.specs.declared.response_context.Persistence.{Persistence}
use Rattle.tiny_http_response.specs.Answer.{field_line_of}
use Rattle.tiny_http_response.specs.ByStandard.{persistence_option, connection_headers, listed_headers, safe_byte, safe_value, safe_headers}

-- a value byte by byte
pub byte_by_byte : (value : List ℕ) → flat_map (λ b. safe_byte b ∷ []) value ≡ safe_value value
byte_by_byte [] = refl
byte_by_byte (b ∷ bs) = ap (λ x. safe_byte b ∷ x) (byte_by_byte bs)

-- a value all of whose bytes may stand there is safe
pub safe_same : (value : List ℕ) → list_all is_value_byte value ≡ true → safe_value value ≡ value
safe_same [] h = refl
safe_same (b ∷ bs) h = good-first (is_value_byte b) refl h (safe_same bs)
  where
    good-first : (t : Bool) → is_value_byte b ≡ t → (t && list_all is_value_byte bs) ≡ true → (list_all is_value_byte bs ≡ true → safe_value bs ≡ bs) → (if t then b else 32) ∷ safe_value bs ≡ b ∷ bs
    good-first true e k rest = ap (λ x. b ∷ x) (rest k)
    good-first false e k rest = cc

abbrev safe : Header → Header
safe h = record h { value = safe_value h.value }

-- what is printed of one header
abbrev pub lines_of : Header → List ℕ
lines_of h = flat_map field_line_of (safe_headers (h ∷ []))

pub header_by_header : (hs : List Header) → flat_map lines_of hs ≡ flat_map field_line_of (safe_headers hs)
header_by_header [] = refl
header_by_header (h ∷ hs) =
    elim (is_token h.field) as (λ t. flat_map field_line_of (cons_option (if t then Some (safe h) else None) []) ++ flat_map lines_of hs ≡ flat_map field_line_of (cons_option (if t then Some (safe h) else None) (safe_headers hs))) [
      | true ↦ ap (λ x. x ++ flat_map lines_of hs) (append-nil (field_line_of (safe h))) ∙ ap (λ x. field_line_of (safe h) ++ x) (header_by_header hs)
      | false ↦ header_by_header hs
    ]

-- the lines of the headers behind the date by the standard, but for a 1xx
pub listed_lines : (says : Persistence) (version : HTTPVersion) (status : ℕ) (offered : Option (List ℕ)) (hs : List Header) → 200 ≤ status
    → flat_map field_line_of (listed_headers (Some says) version status offered hs) ≡ flat_map field_line_of (connection_headers (option_map safe_value offered) (persistence_option version says)) ++ flat_map field_line_of (safe_headers hs)
listed_lines says version status offered hs h = rw (le-ltb status 200 h) (flat_map-append field_line_of (connection_headers (option_map safe_value offered) (persistence_option version says)) (safe_headers hs))

-- there is no text
pub copied_none : {X : Type 0} (o : Option (Bor X)) → is_some o ≡ false → option_copied o ≡ None
copied_none None e = refl
copied_none (Some x) e = cc
