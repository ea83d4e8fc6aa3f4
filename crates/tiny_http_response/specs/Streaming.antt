-- Responses whose body is streamed: it follows the head and grows while it is sent.
use Rattle.std.specs.Prelude.{ℕ, Bool, true, false, List, Option, Some, None}
use Rattle.httpdate.specs.declared.date.HttpDate.{HttpDate}
use Rattle.tiny_http_response.specs.Coding.{is_up_to_1_0}
use Rattle.tiny_http_response.specs.declared.coding.FramingHeader.{FramingHeader}
use Rattle.tiny_http_response.specs.declared.coding.FramingHeader.TheVariants.{Neither, TransferEncoding}
use Rattle.tiny_http_body.specs.declared.streamed.StreamedForm.{StreamedForm}
use Rattle.tiny_http_body.specs.declared.streamed.StreamedForm.TheVariants.{Chunks, Plain, Absent}
use Rattle.tiny_http_response.specs.declared.response_context.ResponseContext.{ResponseContext}
use Rattle.tiny_http_response.specs.ByStandard.{status_version, listed_headers, contentless_framing}
use Rattle.tiny_http_response.specs.Answer.{Answer, answer_head_text}

-- The form of a streamed body, given the framing of a response that is only a head because of its code, if it is one,
-- whether the request is a HEAD, and whether its version is at most 1.0. `Absent`: no body. `Plain`: the bytes as they
-- are. `Chunks`: in chunks.
abbrev pub form_by : Option FramingHeader → Bool → Bool → StreamedForm
form_by (Some framing) no_body is_old = Absent
form_by None true is_old = Absent
form_by None false true = Plain
form_by None false false = Chunks

-- HOW A STREAMED BODY IS SENT in the response with this status code (RFC 9112, sections 6.3 and 7.1)
abbrev pub streamed_form : ResponseContext → ℕ → StreamedForm
streamed_form context status =
    form_by (contentless_framing context.persistence true status None) context.no_body (is_up_to_1_0 context.version)

-- the header that frames a streamed body, given the framing of a response that is only a head because of its code, if
-- it is one, and whether the request's version is at most 1.0: that framing, otherwise `Neither` for such a version and
-- `TransferEncoding` for a later one, even for a HEAD
abbrev pub framing_by : Option FramingHeader → Bool → FramingHeader
framing_by (Some framing) is_old = framing
framing_by None true = Neither
framing_by None false = TransferEncoding

abbrev pub streamed_framing : ResponseContext → ℕ → FramingHeader
streamed_framing context status =
    framing_by (contentless_framing context.persistence true status None) (is_up_to_1_0 context.version)

-- THE HEAD of a response whose body is streamed
abbrev pub streamed_head : Answer → ResponseContext → HttpDate → List ℕ
streamed_head a context date =
    answer_head_text (status_version context.persistence context.version) a.status None a.headers
    (listed_headers context.persistence context.version a.status a.offered a.headers) date
    (streamed_framing context a.status)
