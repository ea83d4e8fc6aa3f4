-- The server's error responses: a status without added headers or data. Under `Lenient` and `Strict` the response to a
-- version above 1.1 also has a plain-text body.
use Rattle.std.specs.Prelude.{ℕ, Bool, true, List, [], ◌∷◌, Option, None, Some, codes, if◌then◌else◌}
use Rattle.httpdate.specs.declared.date.HttpDate.{HttpDate}
use Rattle.tiny_http_response.specs.declared.response_context.Persistence.{Persistence}
use Rattle.tiny_http_response.specs.declared.response_context.Persistence.TheVariants.{Persistent, Close}
use Rattle.tiny_http_response.specs.Answer.{Printing, text_plain}
use Rattle.tiny_http_open_request.specs.Pipeline.{Manner, Refusal, VersionNotSupported, refusal_status}
use Rattle.tiny_http_response.specs.ResponseValue.{ResponseValue, response_of, response_text, printing_to}

-- the persistence that a response states: under `Standard` that the connection closes after the last request, and
-- persists after any other; under another profile nothing (`None`)
abbrev pub persistence_of : Bool → Bool → Option Persistence
persistence_of by_standard is_last = if by_standard then Some (if is_last then Close else Persistent) else None

-- how the response to a refused head is printed: without a coding, and under `Standard` with the statement that the
-- connection closes
abbrev pub own_printing : Manner → Bool → HttpDate → Printing
own_printing manner no_body date = printing_to None manner.version no_body (persistence_of manner.by_standard true) date

-- the text of a response with this status, without added headers or data, printed in this way
abbrev pub own_text_by : ℕ → Printing → List ℕ
own_text_by status p = (response_text (response_of status [] []) p).bytes

-- the text of the response with this status, without added headers or data, to a refused head
abbrev pub own_text : ℕ → Manner → Bool → HttpDate → List ℕ
own_text status manner no_body date = own_text_by status (own_printing manner no_body date)

-- the body of the response to a head that is refused with `VersionNotSupported`
abbrev pub too_new_text : List ℕ
too_new_text = codes "This server only supports HTTP versions 1.0 and 1.1"

-- the response to a refused head: with a plain-text body for `VersionNotSupported`, otherwise the status alone
abbrev pub refusal_response : Refusal → ResponseValue
refusal_response VersionNotSupported = response_of (refusal_status VersionNotSupported) (text_plain ∷ []) too_new_text
refusal_response refusal = response_of (refusal_status refusal) [] []

-- the text of this response, printed for a refused head in this manner
abbrev pub refused_text : ResponseValue → Manner → Bool → HttpDate → List ℕ
refused_text response manner no_body date = (response_text response (own_printing manner no_body date)).bytes
