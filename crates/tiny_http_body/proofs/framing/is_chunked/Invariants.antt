use Rattle.std.proofs.Common.{◌≡◌, drop, false}
use Rattle.std.specs.Prelude.{codes}
use Rattle.tiny_http_body.specs.Framing.{elements_of}
use Rattle.tiny_http_body.specs.FramingReading.{chunked_on}
use Rattle.tiny_http_body.proofs.framing.is_chunked.Given as goal

abbrev pub invariant-loop-header : goal.invariant-loop-header
invariant-loop-header l = chunked_on l.is_chunked (elements_of (codes "Transfer-Encoding") (drop l.header-index l.headers)) ≡ chunked_on false (elements_of (codes "Transfer-Encoding") l.headers)
