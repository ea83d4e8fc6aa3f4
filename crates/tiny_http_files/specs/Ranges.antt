-- Ranges of bytes (RFC 9110, section 14).
use Rattle.std.specs.Prelude.{◌≡◌, ℕ, ◌+◌, ◌-◌, ◌^◌, ◌<◌, ◌≤◌, ⊤, min, zero, suc, Bool, true, false, ◌&&◌, ◌||◌, nat_lt, nat_le}
use Rattle.std.specs.Prelude.{List, [], ◌∷◌, ◌++◌, length, Option, Some, None, option_map, codes, decimal, if◌then◌else◌, Vec}
use Rattle.std.specs.Char.{is_ascii_digit}
use Rattle.std.specs.List.{list_all}
use Rattle.std.specs.Str.Parse.{digits_value}
use Rattle.tiny_http_head.specs.Common.{same_name}
use Rattle.tiny_http_text.specs.Bytes.{parts, comma, trimmed, is_blank}
use Rattle.tiny_http_text.specs.QualityReading.{cut}
use Rattle.tiny_http_files.specs.declared.ranges.RangeSpec.{RangeSpec}
use Rattle.tiny_http_files.specs.declared.ranges.RangeSpec.TheVariants.{Between, From, Suffix}
use Rattle.tiny_http_files.specs.declared.ranges.ByteRange.{ByteRange}
use Rattle.tiny_http_files.specs.declared.ranges.Selection.{Selection}
use Rattle.tiny_http_files.specs.declared.ranges.Selection.TheVariants.{Whole, Part, Parts, Unsatisfiable}

-- the number that one or more digits show, at most 2^64 - 1
abbrev pub position : List ℕ → Option ℕ
position ds =
    if nat_lt 0 (length ds) && list_all is_ascii_digit ds then Some (min (digits_value 10 ds) (2 ^ 64 - 1)) else None

-- first-last, if both are positions and the first isn't after the last
abbrev pub spec_from_to : Option ℕ → Option ℕ → Option RangeSpec
spec_from_to (Some first) (Some last) = if nat_le first last then Some (Between first last) else None
spec_from_to (Some first) None = None
spec_from_to None last = None

-- the range with these texts before and after its hyphen
abbrev pub spec_between : List ℕ → List ℕ → Option RangeSpec
spec_between [] last = option_map Suffix (position last)
spec_between (d ∷ ds) [] = option_map From (position (d ∷ ds))
spec_between (d ∷ ds) (e ∷ es) = spec_from_to (position (d ∷ ds)) (position (e ∷ es))

abbrev pub spec_cut : Option (List ℕ × List ℕ) → Option RangeSpec
spec_cut None = None
spec_cut (Some texts) = spec_between texts.0 texts.1

-- the range that a text without white space around it spells
abbrev pub spec_of : List ℕ → Option RangeSpec
spec_of text = spec_cut (cut 45 text)

-- THE GRAMMAR OF A RANGE (section 14.1.1): whether the text spells it
abbrev pub IsSpec : List ℕ → RangeSpec → Type 0
IsSpec text (Between first last) =
    (a : List ℕ) × (b : List ℕ) × (text ≡ a ++ 45 ∷ b)
    × (position a ≡ Some first)
    × (position b ≡ Some last)
    × (first ≤ last)
IsSpec text (From first) = (a : List ℕ) × (text ≡ a ++ 45 ∷ []) × (position a ≡ Some first)
IsSpec text (Suffix k) = (b : List ℕ) × (text ≡ 45 ∷ b) × (position b ≡ Some k)

-- WHICH BYTES A RANGE NAMES: whether the byte at position i is one of them, in a representation of n bytes
abbrev pub IsNamed : ℕ → RangeSpec → ℕ → Type 0
IsNamed n (Between first last) i = (first ≤ i) × (i ≤ last) × (i < n)
IsNamed n (From first) i = (first ≤ i) × (i < n)
IsNamed n (Suffix k) i = (n ≤ i + k) × (i < n)

-- whether position i is in the range
abbrev pub IsWithin : ByteRange → ℕ → Type 0
IsWithin range i = (range.start ≤ i) × (i < range.end)

abbrev pub range_if_any : ℕ → ℕ → Option ByteRange
range_if_any start end = if nat_lt start end then Some (record { start = start; end = end }) else None

-- the bytes that a range names, in a representation of n bytes
abbrev pub range_of : ℕ → RangeSpec → Option ByteRange
range_of n (Between first last) = range_if_any first (min (last + 1) n)
range_of n (From first) = range_if_any first n
range_of n (Suffix k) = range_if_any (n - k) n

-- the ranges of an element of the list: none if it is empty, and `None` if it isn't a range
abbrev pub trimmed_specs : List ℕ → Option (List RangeSpec)
trimmed_specs [] = Some []
trimmed_specs (b ∷ bs) = option_map (λ spec. spec ∷ []) (spec_of (b ∷ bs))

abbrev pub element_specs : List ℕ → Option (List RangeSpec)
element_specs element = trimmed_specs (trimmed is_blank element)

abbrev pub both_lists : Option (List RangeSpec) → Option (List RangeSpec) → Option (List RangeSpec)
both_lists (Some a) (Some b) = Some (a ++ b)
both_lists (Some a) None = None
both_lists None b = None

-- the ranges of all elements, or `None` if one isn't a range
abbrev pub all_specs : List (List ℕ) → Option (List RangeSpec)
all_specs [] = Some []
all_specs (element ∷ elements) = both_lists (element_specs element) (all_specs elements)

-- whether the list grew by these ranges; if there is no list of ranges, the answer has to be false
abbrev pub Appends : Bool → List RangeSpec → List RangeSpec → Option (List RangeSpec) → Type 0
Appends true old new (Some specs) = new ≡ old ++ specs
Appends true old new None = ⊥
Appends false old new (Some specs) = ⊥
Appends false old new None = ⊤

abbrev pub items_of : {A : Type 0} → Vec RangeSpec A → List RangeSpec
items_of specs = specs.items

-- the list, unless it is empty
abbrev pub unless_empty : Option (List RangeSpec) → Option (List RangeSpec)
unless_empty None = None
unless_empty (Some []) = None
unless_empty (Some (spec ∷ specs)) = Some (spec ∷ specs)

abbrev pub set_if_bytes : Option (List ℕ × List ℕ) → Option (List ℕ)
set_if_bytes None = None
set_if_bytes (Some texts) = if same_name texts.0 (codes "bytes") then Some texts.1 else None

-- the list in a value of Range whose unit is bytes
abbrev pub set_of : List ℕ → Option (List ℕ)
set_of value = set_if_bytes (cut 61 value)

abbrev pub specs_in : Option (List ℕ) → Option (List RangeSpec)
specs_in None = None
specs_in (Some set) = unless_empty (all_specs (parts comma set))

-- the ranges that a value of Range lists, or `None` if it is to be ignored (section 14.2)
abbrev pub specs_of : List ℕ → Option (List RangeSpec)
specs_of value = specs_in (set_of value)

abbrev pub add_range : Option ByteRange → List ByteRange → List ByteRange
add_range None ranges = ranges
add_range (Some range) ranges = range ∷ ranges

-- the ranges that have bytes, in a representation of n bytes
abbrev pub ranges_of : ℕ → List RangeSpec → List ByteRange
ranges_of n [] = []
ranges_of n (spec ∷ specs) = add_range (range_of n spec) (ranges_of n specs)

abbrev pub size_of : ByteRange → ℕ
size_of range = range.end - range.start

-- how many bytes the ranges have together
abbrev pub sum_of : List ByteRange → ℕ
sum_of [] = 0
sum_of (range ∷ ranges) = size_of range + sum_of ranges

-- whether several ranges are too many, or have more than n bytes together
abbrev pub is_excessive : ℕ → List ByteRange → Bool
is_excessive n ranges = nat_lt 16 (length ranges) || nat_lt n (sum_of ranges)

-- whether these ranges are sent in parts
abbrev pub IsInParts : List ByteRange → Selection → Type 0
IsInParts ranges (Parts parts) = parts.items ≡ ranges
IsInParts ranges Whole = ⊥
IsInParts ranges (Part range) = ⊥
IsInParts ranges Unsatisfiable = ⊥

abbrev pub IsWholeOrParts : Bool → List ByteRange → Selection → Type 0
IsWholeOrParts true ranges selection = selection ≡ Whole
IsWholeOrParts false ranges selection = IsInParts ranges selection

-- whether these ranges, of a representation of n bytes, are sent so
abbrev pub IsChosen : ℕ → List ByteRange → Selection → Type 0
IsChosen n [] selection = selection ≡ Unsatisfiable
IsChosen n (range ∷ []) selection = selection ≡ Part range
IsChosen n (a ∷ b ∷ more) selection = IsWholeOrParts (is_excessive n (a ∷ b ∷ more)) (a ∷ b ∷ more) selection

-- what a value of Range, with these ranges, selects of n bytes; an ignored value and no bytes are the whole
abbrev pub IsSelection : ℕ → Option (List RangeSpec) → Selection → Type 0
IsSelection n None selection = selection ≡ Whole
IsSelection zero (Some specs) selection = selection ≡ Whole
IsSelection (suc n) (Some specs) selection = IsChosen (suc n) (ranges_of (suc n) specs) selection

-- the value of Content-Range for a range of n bytes (section 14.4)
abbrev pub content_range : ByteRange → ℕ → List ℕ
content_range range n = codes "bytes " ++ decimal range.start ++ 45 ∷ decimal (range.end - 1) ++ 47 ∷ decimal n

-- the same if no range has bytes (section 15.5.17)
abbrev pub unsatisfied_range : ℕ → List ℕ
unsatisfied_range n = codes "bytes */" ++ decimal n
