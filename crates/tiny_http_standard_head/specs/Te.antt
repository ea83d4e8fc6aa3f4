-- Whether a client asks for chunks in its TE fields (RFC 9110, sections 10.1.4 and 12.4.2).
use Rattle.std.specs.Prelude.{ℕ, Bool, false, not, ◌&&◌, List, [], ◌∷◌, map, take, drop, codes, if◌then◌else◌}
use Rattle.std.specs.List.{list_any}
use Rattle.std.specs.Str.{bytes_eq}
use Rattle.httparse.specs.Grammar.{is_ows}
use Rattle.tiny_http_text.specs.Bytes.{trimmed, parts, semicolon}
use Rattle.tiny_http_head.specs.declared.common.Header.{Header}
use Rattle.tiny_http_head.specs.Common.{same_name}
use Rattle.tiny_http_standard_head.specs.Lists.{has_element_that}
use Rattle.tiny_http_standard_head.specs.Validation.{is_chunked}

-- the texts between the semicolons of an element, stripped of spaces and tabs
abbrev pub between_semicolons : List ℕ → List (List ℕ)
between_semicolons element = map (trimmed is_ows) (parts semicolon element)

-- whether the parameter is a weight: q= in either case, and any text as its value
abbrev pub is_weight : List ℕ → Bool
is_weight parameter = same_name (take 2 parameter) (codes "q=")

-- the value of a weight, stripped of spaces and tabs
abbrev pub weight_value : List ℕ → List ℕ
weight_value weight = trimmed is_ows (drop 2 weight)

-- whether the value is a qvalue of zero: 0, optionally with a point and at most three zeros
abbrev pub is_zero : List ℕ → Bool
is_zero value = list_any (bytes_eq value) (codes "0" ∷ codes "0." ∷ codes "0.0" ∷ codes "0.00" ∷ codes "0.000" ∷ [])

-- whether the first weight among the parameters is zero
abbrev pub has_zero_weight : List (List ℕ) → Bool
has_zero_weight [] = false
has_zero_weight (parameter ∷ more) =
    if is_weight parameter then is_zero (weight_value parameter) else has_zero_weight more

-- whether a coding with its parameters asks for chunks: it is chunked, and its weight isn't zero
abbrev pub coding_asks_chunked : List (List ℕ) → Bool
coding_asks_chunked [] = false
coding_asks_chunked (coding ∷ parameters) = is_chunked coding && not (has_zero_weight parameters)

-- whether an element of TE asks for chunks
abbrev pub element_asks_chunked : List ℕ → Bool
element_asks_chunked element = coding_asks_chunked (between_semicolons element)

-- whether THE CLIENT ASKS FOR CHUNKS: some element of the TE fields does
abbrev pub asks_chunked : List Header → Bool
asks_chunked headers = has_element_that (codes "TE") element_asks_chunked headers
