-- The response whose body is a stream of events.
use Rattle.std.specs.Prelude.{[], ◌∷◌, codes}
use Rattle.tiny_http_head.specs.HeaderTexts.{header_of}
use Rattle.tiny_http_response.specs.Answer.{Answer, answer_with}

-- the response: its status, its headers, and no data of its own
abbrev pub stream_answer : Answer
stream_answer =
    answer_with 200
    (header_of (codes "Content-Type") (codes "text/event-stream") ∷ header_of (codes "Cache-Control") (codes "no-store") ∷ [])
    0
