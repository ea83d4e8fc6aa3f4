-- The text of a response head, as a function of `ResponseHead`.
use Rattle.std.specs.Prelude.{ℕ, List, Option, Some, None}
use Rattle.tiny_http_head.specs.declared.common.Header.{Header}
use Rattle.tiny_http_response.specs.declared.coding.FramingHeader.{FramingHeader}
use Rattle.tiny_http_response.specs.declared.answer_head.ResponseHead.{ResponseHead}
use Rattle.tiny_http_response.specs.ByStandard.{status_version, own_headers, listed_headers}
use Rattle.tiny_http_response.specs.Answer.{answer_head_text}

-- the headers listed after the date, with or without an upgrade to a protocol
abbrev pub response_head_listed : ResponseHead → Option (List ℕ) → List Header
response_head_listed head None =
    listed_headers head.persistence head.version head.status.0 head.offered.now head.headers.now
response_head_listed head (Some protocol) = own_headers head.persistence head.headers.now

-- the text of the head, with the lines of an upgrade, if there is one, and with the header that frames the body
abbrev pub response_head_text : ResponseHead → Option (List ℕ) → FramingHeader → List ℕ
response_head_text head upgrade framing =
    answer_head_text (status_version head.persistence head.version) head.status.0 upgrade head.headers.now
    (response_head_listed head upgrade) head.date framing
