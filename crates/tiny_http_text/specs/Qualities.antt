-- Field values that list names with their qualities (RFC 9110, sections 5.6.1 and 12.4.2).
use Rattle.std.specs.Prelude.{◌≡◌, ℕ, ◌+◌, ◌-◌, ◌*◌, ◌^◌, ◌≤◌, ◌⊎◌, ⊤, List, [], ◌∷◌, ◌++◌, length, codes, IsTrue}
use Rattle.std.specs.List.{list_all}
use Rattle.std.specs.Str.Parse.{AllDigits, digits_value}
use Rattle.tiny_http_text.specs.Bytes.{is_blank, Trims, parts, comma, semicolon, point}

-- whether the text is a quality whose value, in thousandths, is `thousandths`: one to six digits, then optionally a
-- point and at most three digits
pub record IsQuality (text : List ℕ) (thousandths : ℕ) : Type 0 where
  pub whole : List ℕ
  pub fraction : List ℕ
  pub joins : ((text ≡ whole) × (fraction ≡ [])) ⊎ (text ≡ whole ++ point ∷ fraction)
  pub whole_digits : AllDigits 10 whole
  pub fraction_digits : AllDigits 10 fraction
  pub one_or_more : 1 ≤ length whole
  pub at_most_six : length whole ≤ 6
  pub at_most_three : length fraction ≤ 3
  pub value : thousandths ≡ digits_value 10 whole * 1000 + digits_value 10 fraction * 10 ^ (3 - length fraction)

-- whether the parameter gives a quality of `thousandths`: it is optional white space, `q=`, and that quality with
-- optional white space around it
pub record GivesQuality (parameter : List ℕ) (thousandths : ℕ) : Type 0 where
  pub before : List ℕ
  pub padded : List ℕ
  pub text : List ℕ
  pub joins : parameter ≡ before ++ codes "q=" ++ padded
  pub blank_before : IsTrue (list_all is_blank before)
  pub trims : Trims is_blank padded text
  pub quality : IsQuality text thousandths

-- whether q is the quality, in thousandths, of the first parameter that gives one, or 1000 if none does
abbrev pub FirstQuality : List (List ℕ) → ℕ → Type 0
FirstQuality [] q = q ≡ 1000
FirstQuality (parameter ∷ more) q =
    GivesQuality parameter q ⊎ (((n : ℕ) → GivesQuality parameter n → ⊥) × FirstQuality more q)

-- whether the text is a list element with this name and a quality of q thousandths. Semicolons separate its parts. The
-- first part, without white space at its ends, is the name; the others are parameters. The first parameter that gives a
-- quality gives q; if none does, q is 1000.
pub record Element (text name : List ℕ) (q : ℕ) : Type 0 where
  pub padded : List ℕ
  pub parameters : List (List ℕ)
  pub splits : parts semicolon text ≡ padded ∷ parameters
  pub trims : Trims is_blank padded name
  pub quality : FirstQuality parameters q

-- whether the texts are elements with these names and qualities, in order
abbrev pub Elements : List (List ℕ) → List (List ℕ × ℕ) → Type 0
Elements [] [] = ⊤
Elements [] (e ∷ es) = ⊥
Elements (text ∷ texts) [] = ⊥
Elements (text ∷ texts) (e ∷ es) = Element text e.0 e.1 × Elements texts es

-- whether the comma-separated parts of the value are elements with these names and qualities, in order
abbrev pub ListsQualities : List ℕ → List (List ℕ × ℕ) → Type 0
ListsQualities value list = Elements (parts comma value) list
