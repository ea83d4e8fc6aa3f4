-- Field values as lists (RFC 9110, sections 5.3 and 5.6.1).
use Rattle.std.specs.Prelude.{ℕ, Bool, List, [], ◌∷◌, if◌then◌else◌}
use Rattle.std.specs.List.{list_any}
use Rattle.httparse.specs.Grammar.{is_ows}
use Rattle.tiny_http_head.specs.declared.common.Header.{Header}
use Rattle.tiny_http_head.specs.Common.{same_name}
use Rattle.tiny_http_head.specs.Lists.{elements_in, elements_by_name}

-- the values of all fields with this name, in order
abbrev pub values_of : List ℕ → List Header → List (List ℕ)
values_of name [] = []
values_of name (h ∷ hs) = if same_name h.field name then h.value ∷ values_of name hs else values_of name hs

-- the elements of a value, which are the texts between its commas, stripped of spaces and tabs
abbrev pub between_commas : List ℕ → List (List ℕ)
between_commas value = elements_in is_ows value

-- the elements of all fields with this name, including empty elements
abbrev pub elements_of : List ℕ → List Header → List (List ℕ)
elements_of name headers = elements_by_name is_ows name headers

-- whether some element of the fields with this name satisfies the test
abbrev pub has_element_that : List ℕ → (List ℕ → Bool) → List Header → Bool
has_element_that name test headers = list_any test (elements_of name headers)

-- whether the word is an element of the fields with this name, compared case-insensitively
abbrev pub has_element : List ℕ → List ℕ → List Header → Bool
has_element name word headers = has_element_that name (λ element. same_name element word) headers
