use Rattle.std.proofs.Common.{◌≡◌, map, take}
use Rattle.httparse.specs.Spans.{header_bytes}
use Rattle.tiny_http_client.specs.AnswerHead.{header_pair}
use Rattle.tiny_http_client.proofs.answer_head.headers_at.Given as goal

abbrev pub invariant-loop-span : goal.invariant-loop-span
invariant-loop-span l = map header_pair l.headers.items ≡ map (header_bytes l.bytes) (take l.span-index l.spans)
