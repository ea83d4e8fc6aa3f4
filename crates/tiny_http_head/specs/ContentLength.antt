-- The one length that all elements of Content-Length give (RFC 9110, section 8.6; RFC 9112, section 6.3).
use Rattle.std.specs.Prelude.{◌≡◌, ℕ, Bool, false, ◌==◌, List, [], ◌∷◌, Option, Some, None, Result, Ok, Err, IsTrue}
use Rattle.std.specs.Prelude.{if◌then◌else◌}
use Rattle.std.specs.List.{list_all}
use Rattle.tiny_http_head.specs.declared.content_length.InvalidLength.{InvalidLength}
use Rattle.tiny_http_head.specs.Heads.{length_of}

-- whether there is a parsed number, and it is n
abbrev pub is_number : ℕ → Option ℕ → Bool
is_number n None = false
is_number n (Some m) = m == n

-- whether the text is the length n: one or more digits and nothing else, below 2^64
abbrev pub is_length : ℕ → List ℕ → Bool
is_length n text = is_number n (length_of text)

-- THE ONE LENGTH of the elements of Content-Length: whether it is n, which is `None` if there are no elements, and
-- otherwise the number that all of them give
abbrev pub IsOneLength : List (List ℕ) → Option ℕ → Type 0
IsOneLength [] n = n ≡ None
IsOneLength (length ∷ lengths) n = (m : ℕ) × (n ≡ Some m) × IsTrue (list_all (is_length m) (length ∷ lengths))

-- the parsed number, if there is one and all these elements give it; otherwise an error
abbrev pub all_are : Option ℕ → List (List ℕ) → Result (Option ℕ) InvalidLength
all_are None lengths = Err (record {})
all_are (Some n) lengths = if list_all (is_length n) lengths then Ok (Some n) else Err (record {})

-- the one length of these elements, computed; an error if they don't give one
abbrev pub one_length : List (List ℕ) → Result (Option ℕ) InvalidLength
one_length [] = Ok None
one_length (length ∷ lengths) = all_are (length_of length) lengths

-- the one length of these elements and those before them, given the length found so far, if any
abbrev pub lengths_after : Option ℕ → List (List ℕ) → Result (Option ℕ) InvalidLength
lengths_after None lengths = one_length lengths
lengths_after (Some n) lengths = all_are (Some n) lengths
