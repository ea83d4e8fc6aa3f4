use Rattle.std.proofs.Common.{◌≡◌, drop}
use Rattle.tiny_http_text.specs.Bytes.{contains_word}
use Rattle.tiny_http_head.specs.Common.{lowercase}
use Rattle.tiny_http_body.proofs.framing.contains_word.Given as goal

abbrev pub invariant-loop-i : goal.invariant-loop-i
invariant-loop-i l = contains_word l.word (lowercase (drop l.i l.text)) ≡ contains_word l.word (lowercase l.text)
