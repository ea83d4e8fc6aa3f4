-- Responses, and the text that is sent for each (RFC 9112, sections 4, 5 and 6).
use Rattle.std.specs.Prelude.{◌≡◌, ℕ, Bool, ◌||◌, List, [], ◌++◌, length, Option, Some, None, Result, Ok, Err}
use Rattle.std.specs.Prelude.{codes, decimal, if◌then◌else◌, ◌⊎◌, true, false}
use Rattle.std.specs.List.{flat_map, list_any, list_all}
use Rattle.std.specs.IoError.{error_kind}
use Rattle.std.specs.declared.io.Error.{Error}
use Rattle.std.specs.declared.io.ErrorKind.TheVariants.{InvalidInput, OutOfMemory}
use Rattle.httpdate.specs.Date.{date_text}
use Rattle.httpdate.specs.declared.date.HttpDate.{HttpDate}
use Rattle.tiny_http_text.specs.Bytes.{is_ascii}
use Rattle.tiny_http_head.specs.declared.common.HTTPVersion.{HTTPVersion}
use Rattle.tiny_http_head.specs.declared.common.Header.{Header}
use Rattle.tiny_http_response.specs.Coding.{chosen_coding}
use Rattle.tiny_http_response.specs.declared.coding.Coding.{Coding}
use Rattle.tiny_http_response.specs.declared.coding.Coding.TheVariants.{Identity, Chunked}
use Rattle.tiny_http_response.specs.declared.coding.FramingHeader.{FramingHeader}
use Rattle.tiny_http_response.specs.declared.coding.FramingHeader.TheVariants.{Neither, TransferEncoding, ContentLength}
use Rattle.tiny_http_head.specs.Common.{version_text, same_name, reason_phrase}
use Rattle.tiny_http_io.specs.Device.{Feed, Sink}
use Rattle.tiny_http_io.specs.declared.device.Stop.{Stop}
use Rattle.tiny_http_io.specs.declared.device.Stop.TheVariants.{End, Fault}
use Rattle.tiny_http_response.specs.declared.response_context.Persistence.{Persistence}
use Rattle.tiny_http_response.specs.ByStandard.{status_version, own_headers, listed_headers, has_no_content}
use Rattle.tiny_http_response.specs.ByStandard.{contentless_framing}
use Rattle.tiny_http_response.specs.Owing.{owed, owing}
use Rattle.tiny_http_response.specs.declared.response.TheConstants.{THRESHOLD}
use Rattle.tiny_http_body.specs.Text.{Text, prepend_text, whole, nothing_sent, identity_body, chunked_body, Prints}

-- The parts of a response apart from its data that contracts refer to.
pub record Answer : Type 0 where
  pub status : ℕ
  pub headers : List Header
  pub data_length : Option ℕ
  pub threshold : ℕ
  -- whether the connection closes after the response
  pub closes : Bool
  -- the protocols that the response offers to upgrade to, printed only under `Standard`
  pub offered : Option (List ℕ)
  -- whether the response states neither a length nor a coding if its code has no content
  pub contentless : Bool

-- the response with this status code, these headers, data of this length in bytes, and the default threshold
abbrev pub answer_with : ℕ → List Header → ℕ → Answer
answer_with status headers length =
    record {
      status = status;
      headers = headers;
      data_length = Some length;
      threshold = THRESHOLD;
      closes = false;
      offered = None;
      contentless = false;
    }

-- the response without data that states neither a length nor a coding if its code has no content
abbrev pub contentless_answer : ℕ → Answer
contentless_answer status = record (answer_with status [] 0) { contentless = true }

-- the `Content-Type` header of plain text
unfoldable pub text_plain : Header
text_plain = record { field = codes "Content-Type"; value = codes "text/plain; charset=UTF-8" }

-- whether some header of the list has this name
abbrev pub has_header : List Header → List ℕ → Bool
has_header headers name = list_any (λ h. same_name h.field name) headers

-- the status line: HTTP/, the version, the code and its reason phrase (RFC 9112, section 4)
unfoldable pub status_line : HTTPVersion → ℕ → List ℕ
status_line version status =
    codes "HTTP/" ++ version_text version ++ codes " " ++ decimal status ++ codes " " ++ reason_phrase status
    ++ codes "\r\n"

-- the text of a response made from a code: the code and its reason phrase
unfoldable pub status_text : ℕ → List ℕ
status_text status = decimal status ++ codes " " ++ reason_phrase status

-- a field line with this name and value (RFC 9112, section 5)
unfoldable pub field_line : List ℕ → List ℕ → List ℕ
field_line field value = field ++ codes ": " ++ value ++ codes "\r\n"

abbrev pub field_line_of : Header → List ℕ
field_line_of h = field_line h.field h.value

abbrev pub protocol_lines : List ℕ → List ℕ
protocol_lines protocol = field_line (codes "Connection") (codes "upgrade") ++ field_line (codes "Upgrade") protocol

-- the field lines of an upgrade to a protocol, if there is one; they come first (RFC 9110, section 7.8)
unfoldable pub upgrade_lines : Option (List ℕ) → List ℕ
upgrade_lines None = []
upgrade_lines (Some protocol) = protocol_lines protocol

-- the field line of Server, if the list has no such header (RFC 9110, section 10.2.4)
unfoldable pub server_line : List Header → List ℕ
server_line headers =
    if has_header headers (codes "Server") then [] else field_line (codes "Server") (codes "tiny-http (Rust)")

unfoldable pub date_line : List Header → HttpDate → List ℕ
date_line headers date = if has_header headers (codes "Date") then [] else field_line (codes "Date") (date_text date)

abbrev pub length_line : ℕ → List ℕ
length_line n = field_line (codes "Content-Length") (decimal n)

-- the field line of the header that frames the body, if any
unfoldable pub framing_line : FramingHeader → List ℕ
framing_line Neither = []
framing_line TransferEncoding = field_line (codes "Transfer-Encoding") (codes "chunked")
framing_line (ContentLength n) = length_line n

-- The text of a head: the status line, the lines of an upgrade, Server and Date unless `headers` has them, the headers
-- in `listed`, the framing, and an empty line.
unfoldable pub answer_head_text : HTTPVersion
    → ℕ
    → Option (List ℕ)
    → List Header
    → List Header
    → HttpDate
    → FramingHeader
    → List ℕ
answer_head_text version status upgrade headers listed date framing =
    status_line version status ++ upgrade_lines upgrade ++ server_line headers ++ date_line headers date
    ++ flat_map field_line_of listed ++ framing_line framing ++ codes "\r\n"

-- whether the body is omitted: if the request is a HEAD (`asked`), or the code is 100 to 199, 204 or 304 (RFC 9112,
-- section 6.3)
abbrev pub is_withheld : Bool → ℕ → Bool
is_withheld asked status = asked || has_no_content status

-- The parameters of printing a response: those that its request determines, whether the connection persists (only under
-- `Standard`), the protocol to upgrade to, and the date.
pub record Printing : Type 0 where
  pub version : HTTPVersion
  pub asked_coding : Option Coding
  pub no_body : Bool
  pub persistence : Option Persistence
  pub upgrade : Option (List ℕ)
  pub date : HttpDate

-- the body, or the empty text if the body is withheld
abbrev pub body_unless_withheld : Bool → Text → Text
body_unless_withheld withheld body = if withheld then whole [] else body

-- the text of a response whose data are read whole before its head `front` is sent, given how the data stop, whether
-- the body is withheld, and the bytes of the data: nothing is sent if the data fail
abbrev pub gathered_body : Stop → List ℕ → Bool → List ℕ → Text
gathered_body End front withheld bytes = whole (front ++ (if withheld then [] else bytes))
gathered_body (Fault kind) front withheld bytes = nothing_sent kind

-- The text of a response without a transfer coding. The length of its data is `Some n` if known; `head` returns the
-- head for each framing.
abbrev pub uncoded_text : Option ℕ → (FramingHeader → List ℕ) → Bool → Feed → Text
uncoded_text (Some n) head withheld feed =
    prepend_text (head (ContentLength n)) (body_unless_withheld withheld (identity_body n feed))
uncoded_text None head withheld feed =
    gathered_body feed.stop (head (ContentLength (length feed.bytes))) withheld feed.bytes

-- The text of a response with this coding. In chunks an end of the data before their stated length is a fault under
-- `Standard`: no last chunk follows.
abbrev pub coded_text : Coding → Option Persistence → Option ℕ → (FramingHeader → List ℕ) → Bool → Feed → Text
coded_text Identity says length head withheld feed = uncoded_text length head withheld feed
coded_text Chunked says length head withheld feed =
    prepend_text (head TransferEncoding) (body_unless_withheld withheld (chunked_body (owing (owed says length) feed)))

-- the headers listed after the date: for an upgrade only those that were added to the response, as in `own_headers`,
-- and otherwise as in `listed_headers`
abbrev pub listed_with : Option (List ℕ) → Option Persistence → HTTPVersion → Answer → List Header
listed_with None says version a = listed_headers says version a.status a.offered a.headers
listed_with (Some protocol) says version a = own_headers says a.headers

-- the text of the head of a response with this framing
abbrev pub head_text_of : Answer → Printing → FramingHeader → List ℕ
head_text_of a p framing =
    answer_head_text (status_version p.persistence p.version) a.status p.upgrade a.headers
    (listed_with p.upgrade p.persistence p.version a) p.date framing

-- THE CODING of a response's body (RFC 9112, sections 6.1 and 7.4)
unfoldable pub answer_coding : Answer → Printing → Coding
answer_coding a p = chosen_coding p.version p.asked_coding a.status a.threshold a.data_length

-- the text of a response that isn't an upgrade: only a head if its code determines the framing, head and body otherwise
abbrev pub text_by_code : Option FramingHeader → Answer → Feed → Printing → Text
text_by_code (Some framing) a feed p = whole (head_text_of a p framing)
text_by_code None a feed p =
    coded_text (answer_coding a p) p.persistence a.data_length (head_text_of a p) (is_withheld p.no_body a.status) feed

-- the text of a response: for an upgrade only a head, or nothing and the fault `InvalidInput` if the protocol isn't
-- ASCII; otherwise as in `text_by_code`
abbrev pub with_upgrade : Option (List ℕ) → Answer → Feed → Printing → Text
with_upgrade (Some protocol) a feed p =
    if list_all is_ascii protocol then whole (head_text_of a p Neither) else nothing_sent InvalidInput
with_upgrade None a feed p =
    text_by_code (contentless_framing p.persistence a.contentless a.status a.data_length) a feed p

-- THE TEXT of a response with these data
unfoldable pub text_of : Answer → Feed → Printing → Text
text_of a feed p = with_upgrade p.upgrade a feed p

-- whether a call prints this text, without using the writer if the text is empty
abbrev pub PrintsText : {T : Type 0} → Sink → Sink → Result T Error → Text → Type 0
PrintsText old new r text = Prints old new r text × (text.bytes ≡ [] → new ≡ old)

-- whether a call fails because memory to gather the data is refused, without using the writer
abbrev pub LacksMemory : {T : Type 0} → Sink → Sink → Result T Error → Type 0
LacksMemory old new (Ok x) = ⊥
LacksMemory old new (Err e) = (error_kind e ≡ OutOfMemory) × (new ≡ old)

-- whether a call prints this text of a response without a transfer coding, or is refused memory to gather data of
-- unknown length
abbrev pub PrintsUncoded : {T : Type 0} → Sink → Sink → Result T Error → Option ℕ → Text → Type 0
PrintsUncoded old new r length text = PrintsText old new r text ⊎ ((length ≡ None) × LacksMemory old new r)

-- whether the data of a response are read whole before its head is sent: the response is not an upgrade, its code
-- doesn't make it only a head, it has no transfer coding, and the length of its data is unknown
abbrev pub IsGathered : Answer → Printing → Type 0
IsGathered a p =
    (p.upgrade ≡ None)
    × (contentless_framing p.persistence a.contentless a.status a.data_length ≡ None)
    × (answer_coding a p ≡ Identity)
    × (a.data_length ≡ None)

-- whether a call prints the text of a response, or is refused memory to gather its data
abbrev pub PrintsAnswer : {T : Type 0} → Sink → Sink → Result T Error → Answer → Feed → Printing → Type 0
PrintsAnswer old new r a feed p = PrintsText old new r (text_of a feed p) ⊎ (IsGathered a p × LacksMemory old new r)

-- whether a call prints the text of a response whose data are gathered, or is refused memory to gather them
abbrev pub PrintsGathered : {T : Type 0} → Sink → Sink → Result T Error → List ℕ → Bool → Feed → Type 0
PrintsGathered old new r front withheld feed =
    PrintsText old new r (gathered_body feed.stop front withheld feed.bytes) ⊎ LacksMemory old new r

-- The parts of a `Response` that contracts refer to: the answer, and the reader of its data.
pub record ResponseState (R : Type 0) : Type 0 where
  pub answer : Answer
  pub data_reader : R
