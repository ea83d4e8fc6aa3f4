-- The responses that a client reads if it knows only the method of its request (RFC 9112, sections 2.2, 4, 5, 6.3 and
-- 7.1; RFC 9110, section 15.2). If the RFCs leave a choice, or the server never sends such a response, the client reads
-- as follows: a 101 is skipped like any other head from 100 to 199; there is no rule for CONNECT, for a body that ends
-- with the connection, or for transfer codings other than `chunked`; of two Content-Length headers the first is read; a
-- status is any number up to 65,535; and a field name may be empty.
use Rattle.std.specs.Prelude.{◌≡◌, ℕ, ◌<◌, ◌≤◌, ◌⊎◌, Bool, true, false, ◌&&◌, ◌||◌, ◌==◌, nat_lt, nat_le, List, []}
use Rattle.std.specs.Prelude.{◌∷◌, ◌++◌, length, Option, Some, None, option_and_then, if◌then◌else◌, codes, decimal}
use Rattle.std.specs.Prelude.{IsTrue}
use Rattle.std.specs.List.{list_any}
use Rattle.std.specs.declared.io.ErrorKind.TheVariants.{InvalidData, UnexpectedEof}
use Rattle.tiny_http_head.specs.declared.common.Method.{Method}
use Rattle.tiny_http_head.specs.declared.common.Method.TheVariants.{Head}
use Rattle.tiny_http_head.specs.declared.common.HTTPVersion.{HTTPVersion}
use Rattle.tiny_http_head.specs.declared.common.Header.{Header}
use Rattle.tiny_http_io.specs.declared.device.Stop.TheVariants.{End}
use Rattle.tiny_http_text.specs.Bytes.{AreAscii, HasNo, HasNoBlank, has_bare_front, space, colon, point}
use Rattle.tiny_http_text.specs.Lines.{Line, IsUnfinished}
use Rattle.tiny_http_head.specs.Common.{same_name}
use Rattle.tiny_http_head.specs.Heads.{length_of}
use Rattle.tiny_http_body.specs.Chunks.{WholeChunks, CutChunks}

-- Whether a text is a status line with this version and status: HTTP/, the version, the status and any phrase. The
-- numbers are decimal, without leading zeros.
pub record StatusLine (text : List ℕ) (version : HTTPVersion) (status : ℕ) : Type 0 where
  pub phrase : List ℕ
  pub joins : text ≡ codes "HTTP/" ++
      (decimal version.0 ++ point ∷ (decimal version.1 ++ space ∷ (decimal status ++ space ∷ phrase)))
  pub major_fits : version.0 ≤ 255
  pub minor_fits : version.1 ≤ 255
  pub status_fits : status ≤ 65535

abbrev pub is_space : ℕ → Bool
is_space b = b == space

-- Whether a text is the field line of this header: the name without white space or colon, a colon, exactly one space,
-- and the value as it is.
pub record FieldLine (text : List ℕ) (header : Header) : Type 0 where
  pub joins : text ≡ header.field ++ colon ∷ space ∷ header.value
  pub no_colon : HasNo colon header.field
  pub no_blank : HasNoBlank header.field
  pub one_space : IsTrue (has_bare_front is_space header.value)

-- The head of a response, as a client reads it.
pub record AnswerHead : Type 0 where
  pub version : HTTPVersion
  pub status : ℕ
  pub headers : List Header

-- whether the bytes begin with a status line of this version and status, and `rest` follows
abbrev pub BeginsWithStatusLine : List ℕ → HTTPVersion → ℕ → List ℕ → Type 0
BeginsWithStatusLine bytes version status rest =
    (text : List ℕ) × Line bytes text rest × AreAscii text × StatusLine text version status

-- whether the bytes begin with the field lines of these headers, and `rest` follows
abbrev pub BeginsWithFieldLines : List ℕ → List Header → List ℕ → Type 0
BeginsWithFieldLines bytes [] rest = rest ≡ bytes
BeginsWithFieldLines bytes (h ∷ hs) rest =
    (text : List ℕ)
    × (next : List ℕ)
    × Line bytes text next
    × AreAscii text
    × FieldLine text h
    × BeginsWithFieldLines next hs rest

-- Whether the bytes begin with this head, that is, a status line, field lines and an empty line, and `after` follows.
pub record BeginsWithAnswerHead (bytes : List ℕ) (head : AnswerHead) (after : List ℕ) : Type 0 where
  pub fields : List ℕ
  pub empty : List ℕ
  pub starts : BeginsWithStatusLine bytes head.version head.status fields
  pub names : BeginsWithFieldLines fields head.headers empty
  pub ends : Line empty [] after

-- whether a response with this status is interim, that is, whether the status is from 100 to 199; an interim response
-- is only a head, which is skipped
abbrev pub is_interim : ℕ → Bool
is_interim status = nat_le 100 status && nat_lt status 200

-- whether the bytes begin with these heads, all interim, and `rest` follows
abbrev pub PassesOver : List ℕ → List AnswerHead → List ℕ → Type 0
PassesOver bytes [] rest = rest ≡ bytes
PassesOver bytes (h ∷ hs) rest =
    (next : List ℕ) × BeginsWithAnswerHead bytes h next × (is_interim h.status ≡ true) × PassesOver next hs rest

-- The extent of the body after a head: how the body ends. `NoBody`: no body follows. `OfChunks`: with the last chunk
-- and its trailer section. `OfLength`: after this number of bytes. `OfUnknownLength`: the head doesn't say, which
-- breaks a rule.
pub data Extent : Type 0 where
  NoBody : Extent
  OfChunks : Extent
  OfLength : ℕ → Extent
  OfUnknownLength : Extent

abbrev pub is_head : Method → Bool
is_head Head = true
is_head _ = false

-- whether no body follows the head: only after a 204, a 304, and any response to a HEAD
abbrev pub has_no_body : Method → ℕ → Bool
has_no_body method status = is_head method || (status == 204 || status == 304)

-- whether the value of some Transfer-Encoding header is just `chunked`, in any letter case
unfoldable pub says_chunked : List Header → Bool
says_chunked headers =
    list_any (λ h. same_name h.field (codes "Transfer-Encoding") && same_name h.value (codes "chunked")) headers

-- the value of the first header with this name, if any
abbrev pub first_value : List ℕ → List Header → Option (List ℕ)
first_value name [] = None
first_value name (h ∷ hs) = if same_name h.field name then Some h.value else first_value name hs

-- the length in the first Content-Length, if its value is one or more decimal digits, below 2^64
unfoldable pub content_length : List Header → Option ℕ
content_length headers = option_and_then length_of (first_value (codes "Content-Length") headers)

abbrev pub extent_of_length : Option ℕ → Extent
extent_of_length None = OfUnknownLength
extent_of_length (Some n) = OfLength n

abbrev pub extent : Method → AnswerHead → Extent
extent method head =
    if has_no_body method head.status then NoBody else if says_chunked head.headers then OfChunks
    else extent_of_length (content_length head.headers)

-- whether the bytes begin with this body, of this extent, and `rest` follows
abbrev pub BeginsWithBody : Extent → List ℕ → List ℕ → List ℕ → Type 0
BeginsWithBody NoBody bytes body rest = (body ≡ []) × (rest ≡ bytes)
BeginsWithBody OfChunks bytes body rest = WholeChunks bytes body rest
BeginsWithBody (OfLength n) bytes body rest = (bytes ≡ body ++ rest) × (length body ≡ n)
BeginsWithBody OfUnknownLength bytes body rest = ⊥

-- A response as a client receives it.
pub record ClientAnswer : Type 0 where
  pub head : AnswerHead
  pub body : List ℕ

-- THE BYTES BEGIN WITH A RESPONSE: whether they begin with this response to a request with this method, after any
-- interim heads, and `rest` follows.
pub record ReadsAnswer (method : Method) (bytes : List ℕ) (answer : ClientAnswer) (rest : List ℕ) : Type 0 where
  pub interim : List AnswerHead
  pub start : List ℕ
  pub after : List ℕ
  pub passes : PassesOver bytes interim start
  pub has_head : BeginsWithAnswerHead start answer.head after
  pub is_final : is_interim answer.head.status ≡ false
  pub has_body : BeginsWithBody (extent method answer.head) after answer.body rest

-- The reason why the bytes begin with no response. `Unfinished`: they end before the response does. `Invalid`: they
-- break a rule.
pub data Lack : Type 0 where
  Unfinished : Lack
  Invalid : Lack

-- whether the next line is lacking. `Unfinished`: it isn't finished. `Invalid`: it is finished, and isn't ASCII or
-- isn't what the grammar requires there (`IsGood`).
abbrev pub LacksLine : (List ℕ → Type 0) → List ℕ → Lack → Type 0
LacksLine IsGood bytes Unfinished = IsUnfinished bytes
LacksLine IsGood bytes Invalid =
    (text : List ℕ) × (rest : List ℕ) × Line bytes text rest × (AreAscii text → IsGood text → ⊥)

abbrev pub IsStatusLine : List ℕ → Type 0
IsStatusLine text = (version : HTTPVersion) × (status : ℕ) × StatusLine text version status

abbrev pub IsFieldLineOrEmpty : List ℕ → Type 0
IsFieldLineOrEmpty text = (text ≡ []) ⊎ ((header : Header) × FieldLine text header)

-- whether a head is lacking: the status line, or the next line after it and some field lines, is unfinished or invalid
abbrev pub LacksHead : List ℕ → Lack → Type 0
LacksHead bytes lack =
    LacksLine IsStatusLine bytes lack
    ⊎ ((version : HTTPVersion) × (status : ℕ) × (fields : List ℕ) × (headers : List Header) × (rest : List ℕ)
    × BeginsWithStatusLine bytes version status fields
    × BeginsWithFieldLines fields headers rest
    × LacksLine IsFieldLineOrEmpty rest lack)

-- whether a body of this extent is lacking: the chunked body is cut or breaks a rule, there are fewer bytes than the
-- length, or no length is stated
abbrev pub LacksBody : Extent → List ℕ → Lack → Type 0
LacksBody OfChunks bytes Unfinished = (front : List ℕ) × CutChunks bytes End front UnexpectedEof
LacksBody OfChunks bytes Invalid = (front : List ℕ) × CutChunks bytes End front InvalidData
LacksBody (OfLength n) bytes Unfinished = length bytes < n
LacksBody OfUnknownLength bytes Invalid = Unit {0}
LacksBody _ bytes _ = ⊥

-- whether a response is lacking: after any interim heads, the next head, or the body after a final head, is unfinished
-- or invalid
abbrev pub LacksAnswer : Method → List ℕ → Lack → Type 0
LacksAnswer method bytes lack =
    (interim : List AnswerHead) × (start : List ℕ) × PassesOver bytes interim start
    × (LacksHead start lack
    ⊎ ((head : AnswerHead)
    × (after : List ℕ)
    × BeginsWithAnswerHead start head after
    × (is_interim head.status ≡ false)
    × LacksBody (extent method head) after lack))

-- THE BYTES END BEFORE A RESPONSE DOES: whether they are unfinished. An unfinished line breaks no rule yet.
abbrev pub UnfinishedAnswer : Method → List ℕ → Type 0
UnfinishedAnswer method bytes = LacksAnswer method bytes Unfinished

-- THE BYTES BREAK A RULE: whether a finished line of a head breaks one, or a chunked body does, or a body must follow a
-- head that states neither chunks nor a valid length.
abbrev pub MalformedAnswer : Method → List ℕ → Type 0
MalformedAnswer method bytes = LacksAnswer method bytes Invalid

-- Whether the bytes are these responses, one after another in the order of the methods, and then `rest`. The list of
-- responses ends when the methods are used up or `rest` begins with no response to the next method.
abbrev pub ReadsAnswers : List Method → List ℕ → List ClientAnswer → List ℕ → Type 0
ReadsAnswers [] bytes [] rest = rest ≡ bytes
ReadsAnswers [] bytes (a ∷ answers) rest = ⊥
ReadsAnswers (m ∷ methods) bytes [] rest =
    (rest ≡ bytes) × ((a : ClientAnswer) (next : List ℕ) → ReadsAnswer m bytes a next → ⊥)
ReadsAnswers (m ∷ methods) bytes (a ∷ answers) rest =
    (next : List ℕ) × ReadsAnswer m bytes a next × ReadsAnswers methods next answers rest
