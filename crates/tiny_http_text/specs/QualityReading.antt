-- Functions that compute the names and qualities that a field value lists.
use Rattle.std.specs.Prelude.{ℕ, ◌+◌, ◌-◌, ◌*◌, ◌^◌, ◌&&◌, ◌==◌, nat_lt, nat_le, List, [], ◌∷◌, length, map, Option}
use Rattle.std.specs.Prelude.{Some, None, option_map, unwrap_or, if◌then◌else◌}
use Rattle.std.specs.Str.{all_ascii_digits}
use Rattle.std.specs.Str.Parse.{digits_value}
use Rattle.tiny_http_text.specs.Bytes.{is_blank, parts, comma, semicolon, point, skip_while, trimmed}

-- the bytes before the first c and the bytes after it, or `None` if there is no c
abbrev pub cut : ℕ → List ℕ → Option (List ℕ × List ℕ)
cut c [] = None
cut c (b ∷ bs) = if b == c then Some ([], bs) else option_map (λ r. (b ∷ r.0, r.1)) (cut c bs)

-- the value of one to six digits, or `None` for any other text
unfoldable pub short_number : List ℕ → Option ℕ
short_number ds =
    if nat_lt 0 (length ds) && (nat_le (length ds) 6 && all_ascii_digits ds) then Some (digits_value 10 ds) else None

-- the value, in thousandths, of at most three digits after a point, or `None` for any other text
unfoldable pub thousandths : List ℕ → Option ℕ
thousandths ds =
    if nat_le (length ds) 3 && all_ascii_digits ds then Some (digits_value 10 ds * 10 ^ (3 - length ds)) else None

abbrev pub both : Option ℕ → Option ℕ → Option ℕ
both (Some whole) (Some fraction) = Some (whole * 1000 + fraction)
both (Some whole) None = None
both None fraction = None

abbrev pub quality_cut : List ℕ → Option (List ℕ × List ℕ) → Option ℕ
quality_cut text None = both (short_number text) (Some 0)
quality_cut text (Some r) = both (short_number r.0) (thousandths r.1)

unfoldable pub quality : List ℕ → Option ℕ
quality text = quality_cut text (cut point text)

abbrev pub behind_q : List ℕ → Option ℕ
behind_q [] = None
behind_q (a ∷ []) = None
behind_q (a ∷ b ∷ rest) = if a == 113 && b == 61 then quality (trimmed is_blank rest) else None

unfoldable pub parameter_quality : List ℕ → Option ℕ
parameter_quality parameter = behind_q (skip_while is_blank parameter)

unfoldable pub first_quality : List (List ℕ) → ℕ
first_quality [] = 1000
first_quality (parameter ∷ more) = unwrap_or (parameter_quality parameter) (first_quality more)

abbrev pub element_parts : List (List ℕ) → List ℕ × ℕ
element_parts [] = ([], 1000)
element_parts (name ∷ parameters) = (trimmed is_blank name, first_quality parameters)

unfoldable pub element : List ℕ → List ℕ × ℕ
element text = element_parts (parts semicolon text)

unfoldable pub qualities : List ℕ → List (List ℕ × ℕ)
qualities value = map element (parts comma value)
