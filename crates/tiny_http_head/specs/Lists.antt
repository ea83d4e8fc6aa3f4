-- Field values as lists (RFC 9110, sections 5.3 and 5.6.1).
use Rattle.std.specs.Prelude.{ℕ, Bool, List, [], ◌∷◌, ◌++◌, map, if◌then◌else◌}
use Rattle.httparse.specs.Grammar.{is_ows}
use Rattle.tiny_http_text.specs.Bytes.{is_blank, trimmed, parts, comma}
use Rattle.tiny_http_head.specs.declared.common.Header.{Header}
use Rattle.tiny_http_head.specs.declared.blanks.Blanks.{Blanks}
use Rattle.tiny_http_head.specs.declared.blanks.Blanks.TheVariants.{SpaceAndTab, WhiteSpace}
use Rattle.tiny_http_head.specs.Common.{same_name}

-- whether a byte is stripped from around an element
abbrev pub is_left_out : Blanks → ℕ → Bool
is_left_out SpaceAndTab = is_ows
is_left_out WhiteSpace = is_blank

-- the elements of a value: the texts between its commas, stripped at both ends of the bytes that satisfy `is_out`; an
-- empty value has one element, which is empty
abbrev pub elements_in : (ℕ → Bool) → List ℕ → List (List ℕ)
elements_in is_out value = map (trimmed is_out) (parts comma value)

-- the elements of all fields with this name, in order, including empty elements
abbrev pub elements_by_name : (ℕ → Bool) → List ℕ → List Header → List (List ℕ)
elements_by_name is_out name [] = []
elements_by_name is_out name (h ∷ hs) =
    if same_name h.field name then elements_in is_out h.value ++ elements_by_name is_out name hs
    else elements_by_name is_out name hs
