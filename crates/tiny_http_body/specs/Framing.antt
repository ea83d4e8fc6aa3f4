-- The framing of requests, and whether the connection persists (RFC 9112, sections 6.3 and 9.3; RFC 9110, section
-- 10.1.1).
use Rattle.std.specs.Prelude.{◌≡◌, ℕ, ◌<◌, ◌≤◌, ◌⊎◌, Bool, true, false, not, ◌&&◌, ◌||◌, ◌==◌, List, [], ◌∷◌, ◌++◌}
use Rattle.std.specs.Prelude.{Option, Some, None, is_some, Result, Ok, Err, IsTrue, codes, if◌then◌else◌}
use Rattle.tiny_http_head.specs.declared.common.Header.{Header}
use Rattle.tiny_http_head.specs.declared.common.HTTPVersion.{HTTPVersion}
use Rattle.tiny_http_head.specs.Common.{same_name, lowercase}
use Rattle.tiny_http_text.specs.Bytes.{contains_word, is_blank}
use Rattle.tiny_http_head.specs.Heads.{length_in}
use Rattle.tiny_http_head.specs.Lists.{elements_by_name}
use Rattle.tiny_http_head.specs.ContentLength.{IsOneLength}
use Rattle.tiny_http_body.specs.declared.framing.TheConstants.{LONGEST_WITH_HEAD, STRICT_HEAD}
use Rattle.tiny_http_body.specs.declared.framing.HeadRules.{HeadRules}
use Rattle.tiny_http_body.specs.declared.framing.HeadRules.TheVariants.{Lenient, Strict}
use Rattle.tiny_http_body.specs.declared.framing.FramingFault.{FramingFault}
use Rattle.tiny_http_body.specs.declared.framing.FramingFault.TheVariants.{Invalid, Expectation}
use Rattle.tiny_http_body.specs.declared.framing.Form.{Form}
use Rattle.tiny_http_body.specs.declared.framing.Form.TheVariants.{Rest, Nothing, WithHead, Counted, Chunked}
use Rattle.tiny_http_body.specs.declared.framing.Framing.{Framing}

-- the maximum length of a head in bytes, the CR LF of its empty line included, or `None` if there is no maximum
abbrev pub head_limit : HeadRules → Option ℕ
head_limit Lenient = None
head_limit Strict = Some STRICT_HEAD

-- the value of the first field with this name
abbrev pub value_of : List ℕ → List Header → Option (List ℕ)
value_of name [] = None
value_of name (h ∷ hs) = if same_name h.field name then Some h.value else value_of name hs

-- the elements of all fields with this name, stripped of white space (bytes 9 to 13, and 32)
abbrev pub elements_of : List ℕ → List Header → List (List ℕ)
elements_of name headers = elements_by_name is_blank name headers

-- whether the value, if there is one, contains the word, case-insensitively
abbrev pub mentions : List ℕ → Option (List ℕ) → Bool
mentions word None = false
mentions word (Some value) = contains_word word (lowercase value)

-- the length that a value gives, after an optional plus sign, if there is a value and it can be read as a length
abbrev pub length_in_value : Option (List ℕ) → Option ℕ
length_in_value None = None
length_in_value (Some value) = length_in value

-- THE LENGTH UNDER LENIENT: the first Content-Length gives it, if it can be read, and a Transfer-Encoding of any value
-- overrides it.
abbrev pub lenient_length : List Header → Option ℕ
lenient_length headers =
    if is_some (value_of (codes "Transfer-Encoding") headers) then None
    else length_in_value (value_of (codes "Content-Length") headers)

-- whether the last of these codings is chunked, case-insensitively
abbrev pub EndsWithChunked : List (List ℕ) → Type 0
EndsWithChunked codings =
    (before : List (List ℕ))
    × (last : List ℕ)
    × (codings ≡ before ++ last ∷ [])
    × IsTrue (same_name last (codes "chunked"))

-- THE LENGTH UNDER STRICT (RFC 9112, sections 6.1 to 6.3), according to the elements of Content-Length and
-- Transfer-Encoding: without codings it is the one length, or there is none; with codings alone there is no length, and
-- the last coding must be chunked. With elements of both fields no length is valid.
abbrev pub IsStrictLength : List (List ℕ) → List (List ℕ) → Option ℕ → Type 0
IsStrictLength lengths [] n = IsOneLength lengths n
IsStrictLength [] (coding ∷ codings) n = (n ≡ None) × EndsWithChunked (coding ∷ codings)
IsStrictLength (length ∷ lengths) (coding ∷ codings) n = ⊥

-- whether `n` is the content length that the fields give under these rules, or `None` if they give none
abbrev pub IsBodyLength : HeadRules → List Header → Option ℕ → Type 0
IsBodyLength Lenient headers n = n ≡ lenient_length headers
IsBodyLength Strict headers n =
    IsStrictLength (elements_of (codes "Content-Length") headers) (elements_of (codes "Transfer-Encoding") headers) n

-- whether a 100 is due, given the value of Expect, if there is one; `None` if the expectation can't be met
abbrev pub expectation : Option (List ℕ) → Option Bool
expectation None = Some false
expectation (Some value) = if same_name value (codes "100-continue") then Some true else None

-- whether the first Connection value contains the word upgrade, case-insensitively
abbrev pub names_upgrade : List Header → Bool
names_upgrade headers = mentions (codes "upgrade") (value_of (codes "Connection") headers)

-- whether there is a Transfer-Encoding field
abbrev pub names_coding : List Header → Bool
names_coding headers = is_some (value_of (codes "Transfer-Encoding") headers)

-- THE FORM OF THE BODY: whether the body has this form. An upgrade takes precedence over a coding, and a coding over a
-- length. A body of 1 to `LONGEST_WITH_HEAD` bytes is read with its head, unless a 100 is due.
abbrev pub IsForm : Form → Bool → Bool → Bool → Option ℕ → Type 0
IsForm Rest upgrade coded owed n = upgrade ≡ true
IsForm Chunked upgrade coded owed n = (upgrade ≡ false) × (coded ≡ true)
IsForm Nothing upgrade coded owed n = (upgrade ≡ false) × (coded ≡ false) × ((n ≡ None) ⊎ (n ≡ Some 0))
IsForm WithHead upgrade coded owed n =
    (upgrade ≡ false) × (coded ≡ false) × (m : ℕ) × (n ≡ Some m) × (0 < m) × (m ≤ LONGEST_WITH_HEAD) × (owed ≡ false)
IsForm Counted upgrade coded owed n =
    (upgrade ≡ false) × (coded ≡ false) × (m : ℕ) × (n ≡ Some m) × (0 < m) × ((LONGEST_WITH_HEAD < m) ⊎ (owed ≡ true))

-- whether the connection ends after a request of this version with this first Connection value, if any: the value
-- contains close or upgrade, or the version is 1.0 and the value doesn't contain keep-alive
abbrev pub is_last : HTTPVersion → Option (List ℕ) → Bool
is_last v connection =
    (mentions (codes "close") connection || mentions (codes "upgrade") connection)
    || ((v.0 == 1 && v.1 == 0) && not (mentions (codes "keep-alive") connection))

-- THE FRAMING OF A REQUEST, or the reason why its head is refused: the framing is invalid, which is checked first, or
-- an expectation can't be met.
abbrev pub Frames : HeadRules → HTTPVersion → List Header → Result Framing FramingFault → Type 0
Frames p v headers (Err Invalid) = (n : Option ℕ) → IsBodyLength p headers n → ⊥
Frames p v headers (Err Expectation) =
    (n : Option ℕ) × IsBodyLength p headers n × (expectation (value_of (codes "Expect") headers) ≡ None)
Frames p v headers (Ok f) =
    IsBodyLength p headers f.body_length × (expectation (value_of (codes "Expect") headers) ≡ Some f.owes_continue)
    × IsForm f.form (names_upgrade headers) (names_coding headers) f.owes_continue f.body_length
    × (f.is_last ≡ is_last v (value_of (codes "Connection") headers))
    × (f.asks_upgrade ≡ false) × (f.by_standard ≡ false)
