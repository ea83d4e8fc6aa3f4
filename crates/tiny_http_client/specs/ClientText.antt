-- The response that a client reads back from its text: the headers that were printed and the body that was sent.
use Rattle.std.specs.Prelude.{◌≡◌, ℕ, ◌<◌, ◌≤◌, ◌^◌, Bool, false, List, [], ◌∷◌, ◌++◌, length, take, Option, Some}
use Rattle.std.specs.Prelude.{None, codes, decimal, if◌then◌else◌}
use Rattle.std.specs.List.{AllByRecursion}
use Rattle.httpdate.specs.Date.{date_text}
use Rattle.httpdate.specs.declared.date.HttpDate.{HttpDate}
use Rattle.tiny_http_head.specs.declared.common.Header.{Header}
use Rattle.tiny_http_head.specs.declared.common.Method.{Method}
use Rattle.tiny_http_response.specs.declared.coding.Coding.{Coding}
use Rattle.tiny_http_response.specs.declared.coding.Coding.TheVariants.{Identity, Chunked}
use Rattle.tiny_http_response.specs.declared.coding.FramingHeader.{FramingHeader}
use Rattle.tiny_http_response.specs.declared.coding.FramingHeader.TheVariants.{Neither, TransferEncoding, ContentLength}
use Rattle.tiny_http_io.specs.Device.{Feed}
use Rattle.tiny_http_response.specs.Answer.{Answer, Printing, has_header, is_withheld, answer_coding}
use Rattle.tiny_http_response.specs.ByStandard.{status_version, listed_headers, contentless_framing}
use Rattle.tiny_http_response.specs.Readable.{IsReadable}
use Rattle.tiny_http_client.specs.ClientAnswer.{ClientAnswer, is_head}

-- the Server header that is printed, unless the response has its own
abbrev pub server_header : List Header → List Header
server_header headers =
    if has_header headers (codes "Server") then []
    else record { field = codes "Server"; value = codes "tiny-http (Rust)" } ∷ []

abbrev pub date_header : List Header → HttpDate → List Header
date_header headers date =
    if has_header headers (codes "Date") then [] else record { field = codes "Date"; value = date_text date } ∷ []

abbrev pub framing_header : FramingHeader → List Header
framing_header Neither = []
framing_header TransferEncoding = record { field = codes "Transfer-Encoding"; value = codes "chunked" } ∷ []
framing_header (ContentLength n) = record { field = codes "Content-Length"; value = decimal n } ∷ []

-- the headers of a response that isn't an upgrade, in their printed order; `listed` are those after the date
unfoldable pub printed_headers : List Header → List Header → HttpDate → FramingHeader → List Header
printed_headers headers listed date framing =
    server_header headers ++ (date_header headers date ++ (listed ++ framing_header framing))

-- the length that a Content-Length states for data of this length, if known, and of this feed: the known length, or
-- else the number of bytes of the feed
abbrev pub stated_length : Option ℕ → Feed → ℕ
stated_length None feed = length feed.bytes
stated_length (Some n) feed = n

abbrev pub framing_of : Coding → Option ℕ → Feed → FramingHeader
framing_of Chunked length feed = TransferEncoding
framing_of Identity length feed = ContentLength (stated_length length feed)

-- the framing of a response that isn't an upgrade, given its framing if it is only a head because of its code, and the
-- coding, the data length and the feed
abbrev pub framing_said : Option FramingHeader → Coding → Option ℕ → Feed → FramingHeader
framing_said (Some framing) coding length feed = framing
framing_said None coding length feed = framing_of coding length feed

-- the data that are sent in a body with this coding
abbrev pub sent_data : Coding → Option ℕ → Feed → List ℕ
sent_data Chunked length feed = feed.bytes
sent_data Identity None feed = feed.bytes
sent_data Identity (Some n) feed = take n feed.bytes

abbrev pub sent_body : Coding → Option ℕ → Feed → Bool → List ℕ
sent_body coding length feed withheld = if withheld then [] else sent_data coding length feed

-- the body that is sent, given the framing of a response that is only a head because of its code, if the response is
-- one; the body of such a response is empty
abbrev pub body_said : Option FramingHeader → Coding → Option ℕ → Feed → Bool → List ℕ
body_said (Some framing) coding length feed withheld = []
body_said None coding length feed withheld = sent_body coding length feed withheld

abbrev pub listed_of : Answer → Printing → List Header
listed_of a p = listed_headers p.persistence p.version a.status a.offered a.headers

abbrev pub alone_by_code : Answer → Printing → Option FramingHeader
alone_by_code a p = contentless_framing p.persistence a.contentless a.status a.data_length

-- the response that a client reads: its version, status, printed headers and sent body
abbrev pub received_answer : Answer → Feed → Printing → ClientAnswer
received_answer a feed p =
    record {
      head = record {
        version = status_version p.persistence p.version;
        status = a.status;
        headers = printed_headers a.headers (listed_of a p) p.date
            (framing_said (alone_by_code a p) (answer_coding a p) a.data_length feed);
      };
      body = body_said (alone_by_code a p) (answer_coding a p) a.data_length feed (is_withheld p.no_body a.status);
    }

-- Whether a client reads a response to a request with this method back as it was printed: it isn't an upgrade, it is
-- printed for this method, its status is at least 200, its headers are readable, and its numbers fit their types.
pub record IsReadableAnswer (method : Method) (a : Answer) (feed : Feed) (p : Printing) : Type 0 where
  pub no_upgrade : p.upgrade ≡ None
  pub same_method : p.no_body ≡ is_head method
  pub final : 200 ≤ a.status
  pub status_fits : a.status ≤ 65535
  pub major_fits : p.version.0 ≤ 255
  pub minor_fits : p.version.1 ≤ 255
  pub length_fits : stated_length a.data_length feed < 2 ^ 64
  pub readable : AllByRecursion IsReadable (listed_of a p)
  -- The header list of a response never holds these two headers.
  pub no_coding : has_header a.headers (codes "Transfer-Encoding") ≡ false
  pub no_length : has_header a.headers (codes "Content-Length") ≡ false
