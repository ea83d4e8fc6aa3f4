-- The meaning of a complete head, and the order of its validation (RFC 9112, sections 3.2, 6 and 9.3; RFC 9110,
-- sections 7.8, 10.1.1 and 15).
use Rattle.std.specs.Prelude.{◌≡◌, ◌≢◌, ℕ, ◌⊎◌, Bool, true, false, not, ◌&&◌, ◌||◌, ◌==◌, nat_lt, List, [], ◌∷◌, ◌++◌}
use Rattle.std.specs.Prelude.{Option, Some, None, Result, Ok, Err, IsTrue, IsFalse, codes}
use Rattle.std.specs.List.{list_all}
use Rattle.std.specs.Str.{bytes_eq}
use Rattle.httparse.specs.Grammar.{is_token}
use Rattle.tiny_http_text.specs.Bytes.{parts}
use Rattle.tiny_http_head.specs.declared.common.Method.{Method}
use Rattle.tiny_http_head.specs.declared.common.HTTPVersion.{HTTPVersion}
use Rattle.tiny_http_head.specs.declared.common.Header.{Header}
use Rattle.tiny_http_head.specs.Common.{same_name, method_text}
use Rattle.tiny_http_head.specs.ContentLength.{IsOneLength}
use Rattle.tiny_http_standard_head.specs.declared.validation.HeadSummary.{HeadSummary}
use Rattle.tiny_http_standard_head.specs.declared.validation.HeadError.{HeadError}
use Rattle.tiny_http_standard_head.specs.declared.validation.HeadError.TheVariants.{UnsupportedVersion, InvalidHead}
use Rattle.tiny_http_standard_head.specs.declared.validation.HeadError.TheVariants.{UnknownCoding, UnknownExpectation}
use Rattle.tiny_http_head.specs.Target.{slash}
use Rattle.tiny_http_standard_head.specs.Hosts.{percent, IsHostValue}
use Rattle.tiny_http_standard_head.specs.Lists.{values_of, elements_of, has_element_that, has_element}

-- whether the version is 1.0. Each later minor version counts as 1.1.
abbrev pub is_1_0 : HTTPVersion → Bool
is_1_0 v = v.0 == 1 && v.1 == 0

-- THE HOST: whether there is exactly one value of Host, and it is valid; in version 1.0 there may also be none
abbrev pub HasValidHost : HTTPVersion → List (List ℕ) → Type 0
HasValidHost v [] = IsTrue (is_1_0 v)
HasValidHost v (value ∷ []) = IsHostValue value
HasValidHost v (value ∷ another ∷ more) = ⊥

-- whether the coding is chunked, compared case-insensitively
abbrev pub is_chunked : List ℕ → Bool
is_chunked coding = same_name coding (codes "chunked")

-- whether the coding is neither empty nor chunked
abbrev pub is_unknown_coding : List ℕ → Bool
is_unknown_coding coding = not (is_chunked coding) && not (bytes_eq coding [])

-- THE BODY, according to the elements of Content-Length and Transfer-Encoding: whether its length is `n` and `chunked`
-- says whether it is chunked. Without codings, `n` is the one content length, or `None` if there is none, and the body
-- isn't chunked. With codings, chunked is the only one, the version is 1.1 or later, there is no content length, and
-- the body is chunked.
abbrev pub IsBodyFraming : HTTPVersion → List (List ℕ) → List (List ℕ) → Option ℕ → Bool → Type 0
IsBodyFraming v lengths [] n chunked = IsOneLength lengths n × (chunked ≡ false)
IsBodyFraming v [] (coding ∷ codings) n chunked =
    IsTrue (not (is_1_0 v)) × IsTrue (is_chunked coding) × (codings ≡ []) × (n ≡ None) × (chunked ≡ true)
IsBodyFraming v (length ∷ lengths) (coding ∷ codings) n chunked = ⊥

-- whether unknown codings are followed by chunked, without a content length, in version 1.1 or later
pub record HasUnknownCodings (v : HTTPVersion) (lengths codings : List (List ℕ)) : Type 0 where
  pub later : IsTrue (not (is_1_0 v))
  pub no_length : lengths ≡ []
  pub others : List (List ℕ)
  pub last : List ℕ
  pub joins : codings ≡ others ++ last ∷ []
  pub not_empty : others ≢ []
  pub named : IsTrue (list_all is_unknown_coding others)
  pub chunked : IsTrue (is_chunked last)

-- whether a body follows the head
abbrev pub has_body : Option ℕ → Bool → Bool
has_body None chunked = chunked
has_body (Some n) chunked = nat_lt 0 n

-- whether the expectation is neither 100-continue nor empty
abbrev pub is_unknown_expectation : List ℕ → Bool
is_unknown_expectation element = not (same_name element (codes "100-continue")) && not (bytes_eq element [])

-- whether a 100 is due: in version 1.1 or later, if a body follows and Expect lists 100-continue
abbrev pub owes_continue : HTTPVersion → List Header → Option ℕ → Bool → Bool
owes_continue v headers n chunked =
    not (is_1_0 v) && (has_body n chunked && has_element (codes "Expect") (codes "100-continue") headers)

-- whether the texts are one token or two tokens
abbrev pub is_one_or_two_tokens : List (List ℕ) → Bool
is_one_or_two_tokens [] = false
is_one_or_two_tokens (name ∷ []) = is_token name
is_one_or_two_tokens (name ∷ version ∷ []) = is_token name && is_token version
is_one_or_two_tokens (name ∷ version ∷ another ∷ more) = false

-- whether the text is a protocol: token, or token "/" token, without a percent sign, which may stand for a byte above
-- 127
abbrev pub is_protocol : List ℕ → Bool
is_protocol text = is_one_or_two_tokens (parts slash text) && list_all (λ b. not (b == percent)) text

-- whether the head asks for an upgrade: in version 1.1 or later, with upgrade in Connection and a protocol in Upgrade
abbrev pub asks_upgrade : HTTPVersion → List Header → Bool
asks_upgrade v headers =
    not (is_1_0 v)
    && (has_element (codes "Connection") (codes "upgrade") headers
    && has_element_that (codes "Upgrade") is_protocol headers)

-- whether the element is a protocol and equals this one, compared case-insensitively
abbrev pub is_protocol_named : List ℕ → List ℕ → Bool
is_protocol_named protocol element = is_protocol element && same_name element protocol

-- whether some element of Upgrade is this protocol
abbrev pub names_protocol : List Header → List ℕ → Bool
names_protocol headers protocol = has_element_that (codes "Upgrade") (is_protocol_named protocol) headers

-- whether the method is CONNECT
abbrev pub is_connect : Method → Bool
is_connect method = bytes_eq (method_text method) (codes "CONNECT")

-- whether the head makes this the last request of the connection: Connection lists close, the version is 1.0 and
-- Connection doesn't list keep-alive, or the method is CONNECT
abbrev pub is_last : HTTPVersion → Method → List Header → Bool
is_last v method headers =
    has_element (codes "Connection") (codes "close") headers
    || ((is_1_0 v && not (has_element (codes "Connection") (codes "keep-alive") headers)) || is_connect method)

-- whether the major version is 1, the host is valid, and the body framing is valid, with the content length `n`, if
-- any; `chunked` says whether the body is chunked
pub record IsFramedRequest (v : HTTPVersion) (headers : List Header) (n : Option ℕ) (chunked : Bool) : Type 0 where
  pub version : v.0 ≡ 1
  pub host : HasValidHost v (values_of (codes "Host") headers)
  pub body : IsBodyFraming v (elements_of (codes "Content-Length") headers)
      (elements_of (codes "Transfer-Encoding") headers) n chunked

-- whether the head names unknown codings before a final chunked, in version 1.1 or later and without a content length
abbrev pub NamesUnknownCodings : HTTPVersion → List Header → Type 0
NamesUnknownCodings v headers =
    HasUnknownCodings v (elements_of (codes "Content-Length") headers)
    (elements_of (codes "Transfer-Encoding") headers)

-- whether the host is valid, and the head either is a framed request or names unknown codings before a final chunked
abbrev pub IsValid : HTTPVersion → List Header → Type 0
IsValid v headers =
    HasValidHost v (values_of (codes "Host") headers)
    × (NamesUnknownCodings v headers ⊎ ((n : Option ℕ) × (chunked : Bool) × IsFramedRequest v headers n chunked))

-- THE RESULT OF VALIDATION: whether the head is validated with this result. The checks come in this order: the version,
-- the host and the body framing, the codings, the expectations.
abbrev pub Validates : HTTPVersion → Method → List Header → Result HeadSummary HeadError → Type 0
Validates v method headers (Err UnsupportedVersion) = v.0 ≢ 1
Validates v method headers (Err InvalidHead) = (v.0 ≡ 1) × (IsValid v headers → ⊥)
Validates v method headers (Err UnknownCoding) =
    (v.0 ≡ 1) × HasValidHost v (values_of (codes "Host") headers) × NamesUnknownCodings v headers
Validates v method headers (Err UnknownExpectation) =
    (n : Option ℕ)
    × (chunked : Bool)
    × IsFramedRequest v headers n chunked
    × IsTrue (has_element_that (codes "Expect") is_unknown_expectation headers)
Validates v method headers (Ok head) =
    IsFramedRequest v headers head.body_length head.is_chunked
    × IsFalse (has_element_that (codes "Expect") is_unknown_expectation headers)
    × (head.owes_continue ≡ owes_continue v headers head.body_length head.is_chunked)
    × (head.asks_upgrade ≡ asks_upgrade v headers) × (head.is_last ≡ is_last v method headers)
