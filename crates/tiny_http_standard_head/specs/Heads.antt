-- Whole heads under `Standard` (RFC 9112, sections 2.2, 3 and 5), and how the first bytes from a client are read.
use Rattle.std.specs.Prelude.{◌≡◌, ◌≢◌, ℕ, ◌+◌, ◌<◌, ◌≤◌, ◌⊎◌, Bool, not, ◌&&◌, ◌==◌, List, [], ◌∷◌, ◌++◌, length}
use Rattle.std.specs.Prelude.{take, true, false, Result, Ok, Err, IsTrue, if◌then◌else◌}
use Rattle.tiny_http_text.specs.Bytes.{HasNo, has_bare_end}
use Rattle.tiny_http_head.specs.declared.common.Method.{Method}
use Rattle.tiny_http_head.specs.declared.common.HTTPVersion.{HTTPVersion}
use Rattle.tiny_http_head.specs.declared.common.Header.{Header}
use Rattle.tiny_http_head.specs.Heads.{Message, line_feed}
use Rattle.tiny_http_standard_head.specs.declared.heads.TheConstants.{MOST_HEADERS}
use Rattle.tiny_http_standard_head.specs.declared.heads.StandardHead.{StandardHead}
use Rattle.tiny_http_standard_head.specs.declared.heads.StandardFault.{StandardFault}
use Rattle.tiny_http_standard_head.specs.declared.heads.StandardFault.TheVariants.{BadLine, RequestLineTooLong}
use Rattle.tiny_http_standard_head.specs.declared.heads.StandardFault.TheVariants.{HeaderFieldsTooLarge, TooManyFields}
use Rattle.tiny_http_standard_head.specs.declared.heads.StandardFault.TheVariants.{Invalid}
use Rattle.tiny_http_standard_head.specs.declared.heads.StandardRead.{StandardRead}
use Rattle.tiny_http_standard_head.specs.declared.heads.StandardRead.TheVariants.{Whole, Refused, Unfinished}
use Rattle.tiny_http_standard_head.specs.declared.validation.HeadSummary.{HeadSummary}
use Rattle.tiny_http_standard_head.specs.declared.validation.HeadError.{HeadError}
use Rattle.tiny_http_standard_head.specs.declared.validation.HeadError.TheVariants.{UnsupportedVersion, InvalidHead}
use Rattle.tiny_http_standard_head.specs.declared.validation.HeadError.TheVariants.{UnknownCoding, UnknownExpectation}
use Rattle.tiny_http_standard_head.specs.Lines.{ReadsRequestLine, IsNoRequestLine, ReadsFieldLine, IsNoFieldLine}
use Rattle.tiny_http_standard_head.specs.Validation.{Validates}

abbrev pub carriage_return : ℕ
carriage_return = 13

abbrev pub is_carriage_return : ℕ → Bool
is_carriage_return b = b == carriage_return

-- whether the bytes are the line `text`, which has no LF, then CR LF, then `rest`
pub record Line (bytes text rest : List ℕ) : Type 0 where
  pub joins : bytes ≡ text ++ (carriage_return ∷ line_feed ∷ rest)
  pub first : HasNo line_feed text

-- whether the first LF of the bytes has no CR before it
pub record BeginsWithBareLine (bytes : List ℕ) : Type 0 where
  pub text : List ℕ
  pub rest : List ℕ
  pub joins : bytes ≡ text ++ line_feed ∷ rest
  pub first : HasNo line_feed text
  pub bare : IsTrue (has_bare_end is_carriage_return text)

-- the bytes after the empty line at their beginning, or all bytes if there is none
abbrev pub behind_empty_line : List ℕ → List ℕ
behind_empty_line [] = []
behind_empty_line (a ∷ []) = a ∷ []
behind_empty_line (a ∷ b ∷ bs) = if (a == carriage_return && b == line_feed) then bs else a ∷ b ∷ bs

-- whether the bytes begin with this request line, after at most one empty line, and the bytes `fields` follow
pub record BeginsWithRequestLine (bytes : List ℕ) (method : Method) (target : List ℕ) (v : HTTPVersion)
    (fields : List ℕ) : Type 0 where
  pub text : List ℕ
  pub line : Line (behind_empty_line bytes) text fields
  pub reads : ReadsRequestLine text method target v

-- whether the bytes begin with these field lines, and `rest` follows
abbrev pub BeginsWithFieldLines : List ℕ → List Header → List ℕ → Type 0
BeginsWithFieldLines bytes [] rest = rest ≡ bytes
BeginsWithFieldLines bytes (h ∷ hs) rest =
    (text : List ℕ)
    × (next : List ℕ)
    × Line bytes text next
    × ReadsFieldLine text h
    × BeginsWithFieldLines next hs rest

-- A HEAD: whether the bytes begin with the request line and the field lines of m, at most MOST_HEADERS, and an empty
-- line, and the bytes `after` follow
pub record BeginsWithHead (bytes : List ℕ) (m : Message) (after : List ℕ) : Type 0 where
  pub fields : List ℕ
  pub empty : List ℕ
  pub request : BeginsWithRequestLine bytes m.method m.path m.version fields
  pub headers : BeginsWithFieldLines fields m.headers empty
  pub few : length m.headers ≤ MOST_HEADERS
  pub end : Line empty [] after

-- whether the bytes begin with a complete and valid request line, after at most one empty line
pub record HasGoodRequestLine (bytes : List ℕ) : Type 0 where
  pub text : List ℕ
  pub rest : List ℕ
  pub line : Line (behind_empty_line bytes) text rest
  pub good : IsNoRequestLine text → ⊥

-- A MALFORMED LINE: whether the bytes begin with a line whose LF has no CR before it, or whose text satisfies `IsBad`
abbrev pub BeginsWithBadLine : (List ℕ → Type 0) → List ℕ → Type 0
BeginsWithBadLine IsBad bytes =
    BeginsWithBareLine bytes ⊎ ((text : List ℕ) × (rest : List ℕ) × Line bytes text rest × IsBad text)

-- whether the text is neither empty nor a field line
abbrev pub IsNoFieldOrEnd : List ℕ → Type 0
IsNoFieldOrEnd text = (text ≢ []) × IsNoFieldLine text

-- whether the bytes are a request line, after at most one empty line, then at most MOST_HEADERS field lines, then
-- `rest`
pub record ComesToField (bytes rest : List ℕ) : Type 0 where
  pub method : Method
  pub target : List ℕ
  pub version : HTTPVersion
  pub fields : List ℕ
  pub headers : List Header
  pub request : BeginsWithRequestLine bytes method target version fields
  pub lines : BeginsWithFieldLines fields headers rest
  pub few : length headers ≤ MOST_HEADERS

-- whether the bytes begin with a request line and with one field line more than the MOST_HEADERS that a head may have
pub record HasTooManyFields (bytes : List ℕ) : Type 0 where
  pub method : Method
  pub target : List ℕ
  pub version : HTTPVersion
  pub fields : List ℕ
  pub headers : List Header
  pub rest : List ℕ
  pub request : BeginsWithRequestLine bytes method target version fields
  pub lines : BeginsWithFieldLines fields headers rest
  pub many : length headers ≡ MOST_HEADERS + 1

-- whether the bytes have a malformed line, and before it only the valid lines of a head
abbrev pub HasBadLine : List ℕ → Type 0
HasBadLine bytes =
    BeginsWithBadLine IsNoRequestLine (behind_empty_line bytes)
    ⊎ ((rest : List ℕ) × ComesToField bytes rest × BeginsWithBadLine IsNoFieldOrEnd rest)

-- whether the request line, after at most one empty line, hasn't ended
abbrev pub HasOpenRequestLine : List ℕ → Type 0
HasOpenRequestLine bytes = HasNo line_feed (behind_empty_line bytes)

-- whether the request line is valid, and a later line of the head hasn't ended
abbrev pub HasOpenField : List ℕ → Type 0
HasOpenField bytes = (rest : List ℕ) × ComesToField bytes rest × HasNo line_feed rest

-- a reading of bytes. `ReadWhole`: a complete head, with the bytes after it and the result of its validation.
-- `ReadBad`: a malformed line. `ReadTooMany`: a surplus field line. `ReadOpen`: a line that hasn't ended, either the
-- request line (`false`) or a later one (`true`).
pub data Reading : Type 0 where
  ReadWhole : (message : Message) (after : List ℕ) (validated : Result HeadSummary HeadError) → Reading
  ReadBad : Reading
  ReadTooMany : Reading
  ReadOpen : (behind_request_line : Bool) → Reading

-- THE READING OF BYTES: whether the bytes have this reading
abbrev pub AreReadAs : List ℕ → Reading → Type 0
AreReadAs bytes (ReadWhole m after validated) = BeginsWithHead bytes m after
    × Validates m.version m.method m.headers validated
AreReadAs bytes ReadBad = HasBadLine bytes
AreReadAs bytes ReadTooMany = HasTooManyFields bytes
AreReadAs bytes (ReadOpen false) = HasOpenRequestLine bytes
AreReadAs bytes (ReadOpen true) = HasOpenField bytes

-- the status code of the response to a fault
abbrev pub status_of : StandardFault → ℕ
status_of BadLine = 400
status_of RequestLineTooLong = 414
status_of HeaderFieldsTooLarge = 431
status_of TooManyFields = 431
status_of (Invalid UnsupportedVersion) = 505
status_of (Invalid InvalidHead) = 400
status_of (Invalid UnknownCoding) = 501
status_of (Invalid UnknownExpectation) = 417

abbrev pub message_of : StandardHead → Message
message_of h = record { method = h.method; path = h.target; version = h.version; headers = h.headers.items }

-- whether a byte of a head has come; one empty line at the beginning doesn't count
abbrev pub is_begun : List ℕ → Bool
is_begun bytes = not (length (behind_empty_line bytes) == 0)

-- THE RESULT OF READING: whether these bytes are read with this result, if a head may have at most `limit` bytes
abbrev pub Reads : ℕ → List ℕ → StandardRead → Type 0
Reads limit bytes (Whole h) =
    (after : List ℕ)
    × BeginsWithHead (take limit bytes) (message_of h) after
    × (h.length + length after ≡ length (take limit bytes))
    × Validates h.version h.method h.headers.items (Ok h.summary)
Reads limit bytes (Refused BadLine) = HasBadLine (take limit bytes)
Reads limit bytes (Refused (Invalid refusal)) =
    (m : Message)
    × (after : List ℕ)
    × BeginsWithHead (take limit bytes) m after
    × Validates m.version m.method m.headers (Err refusal)
Reads limit bytes (Refused RequestLineTooLong) = (limit ≤ length bytes) × HasOpenRequestLine (take limit bytes)
Reads limit bytes (Refused HeaderFieldsTooLarge) = (limit ≤ length bytes) × HasOpenField (take limit bytes)
Reads limit bytes (Refused TooManyFields) = HasTooManyFields (take limit bytes)
Reads limit bytes (Unfinished has_begun) =
    (length bytes < limit) × (HasOpenRequestLine bytes ⊎ HasOpenField bytes) × (has_begun ≡ is_begun bytes)

-- whether two results agree: the same head, length and summary; the same fault; or both unfinished with the same
-- `has_begun`
abbrev pub IsSameRead : StandardRead → StandardRead → Type 0
IsSameRead (Whole h) (Whole k) = (message_of h ≡ message_of k) × (h.length ≡ k.length) × (h.summary ≡ k.summary)
IsSameRead (Refused e) (Refused f) = e ≡ f
IsSameRead (Unfinished b) (Unfinished c) = b ≡ c
IsSameRead _ _ = ⊥
