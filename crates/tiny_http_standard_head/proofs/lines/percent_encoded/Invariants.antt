use Rattle.std.proofs.Common.{◌≡◌, ◌++◌, drop}
use Rattle.tiny_http_standard_head.specs.Lines.{percent_encoded}
use Rattle.tiny_http_standard_head.proofs.lines.percent_encoded.Given as goal

abbrev pub invariant-loop-b : goal.invariant-loop-b
invariant-loop-b l = l.bytes.items ++ percent_encoded (drop l.b-index l.value) ≡ percent_encoded l.value
