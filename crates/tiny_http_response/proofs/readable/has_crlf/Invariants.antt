use Rattle.std.proofs.Common.{◌≡◌, ◌-◌, drop}
use Rattle.tiny_http_text.specs.Lines.{has_crlf}
use Rattle.tiny_http_response.proofs.readable.has_crlf.Given as goal

abbrev pub invariant-loop-i : goal.invariant-loop-i
invariant-loop-i l = has_crlf (drop (l.i - 1) l.text) ≡ has_crlf l.text
