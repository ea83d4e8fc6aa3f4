use Rattle.std.proofs.Common.{◌≡◌, drop, length, false, map}
use Rattle.tiny_http_text.specs.Bytes.{is_blank, trimmed, parts, comma}
use Rattle.tiny_http_body.specs.FramingReading.{chunked_on}
use Rattle.tiny_http_body.proofs.framing.ends_chunked.Given as goal

abbrev pub invariant-loop-text : goal.invariant-loop-text
invariant-loop-text l =
    chunked_on l.is_chunked (map (trimmed is_blank) (drop (length l.yielded) (parts comma l.value))) ≡ chunked_on false (map (trimmed is_blank) (parts comma l.value))
