-- Entity tags (RFC 9110, section 8.8.3).
use Rattle.std.specs.Prelude.{◌≡◌, ℕ, Bool, true, false, not, ◌||◌, ◌&&◌, ◌==◌, nat_le, List, [], ◌∷◌, ◌++◌, IsTrue}
use Rattle.std.specs.Prelude.{if◌then◌else◌}
use Rattle.std.specs.List.{list_all, list_any}
use Rattle.std.specs.Str.{bytes_eq}
use Rattle.std.specs.Fmt.{digits}
use Rattle.tiny_http_files.specs.declared.tags.Comparison.{Comparison}
use Rattle.tiny_http_files.specs.declared.tags.Comparison.TheVariants.{Strong, Weak}
use Rattle.tiny_http_text.specs.Bytes.{parts, comma, trimmed, is_blank}

-- whether a tag may contain this byte between its quotes: `!`, or a byte from `#` on other than a comma and 127
abbrev pub is_tag_byte : ℕ → Bool
is_tag_byte b = b == 33 || (nat_le 35 b && not (b == 44 || b == 127))

-- the text between quotes
abbrev pub quoted : List ℕ → List ℕ
quoted text = 34 ∷ text ++ 34 ∷ []

-- the text of a tag: `W/` marks a weak one
abbrev pub tag_text : Bool → List ℕ → List ℕ
tag_text true opaque = 87 ∷ 47 ∷ quoted opaque
tag_text false opaque = quoted opaque

-- whether the text is the tag with this opaque part
pub record IsTag (text : List ℕ) (is_weak : Bool) (opaque : List ℕ) : Type 0 where
  pub spelled : text ≡ tag_text is_weak opaque
  pub allowed : IsTrue (list_all is_tag_byte opaque)

-- the text without a leading `W/`
abbrev pub without_weakness : List ℕ → List ℕ
without_weakness [] = []
without_weakness (a ∷ []) = a ∷ []
without_weakness (a ∷ b ∷ rest) = if a == 87 && b == 47 then rest else a ∷ b ∷ rest

-- whether the text is a tag equal to the one with this opaque part (section 8.8.3.2)
abbrev pub is_match : Comparison → Bool → List ℕ → List ℕ → Bool
is_match Strong is_weak opaque text = not is_weak && bytes_eq text (quoted opaque)
is_match Weak is_weak opaque text = bytes_eq (without_weakness text) (quoted opaque)

-- whether the text, without white space around it, is a tag equal to the one with this opaque part
abbrev pub is_match_within : Comparison → Bool → List ℕ → List ℕ → Bool
is_match_within comparison is_weak opaque element = is_match comparison is_weak opaque (trimmed is_blank element)

-- whether one of the elements of the value, which commas separate, is a tag equal to the one with this opaque part
abbrev pub is_listed : Comparison → Bool → List ℕ → List ℕ → Bool
is_listed comparison is_weak opaque value = list_any (is_match_within comparison is_weak opaque) (parts comma value)

-- whether the value is `*`
abbrev pub is_any_tag : List ℕ → Bool
is_any_tag value = bytes_eq (trimmed is_blank value) (42 ∷ [])

-- the tag of a file: modification time and length in hexadecimal, with a hyphen between them
abbrev pub file_tag : ℕ → ℕ → List ℕ
file_tag modified length = quoted (digits 16 false modified ++ 45 ∷ digits 16 false length)
