use Rattle.std.proofs.Common.{◌≡◌, drop}
use Rattle.std.specs.Prelude.{◌==◌}
use Rattle.std.specs.List.{starts_with}
use Rattle.tiny_http_head.specs.Common.{lowercase}
use Rattle.tiny_http_body.proofs.framing.begins.Given as goal

abbrev pub invariant-loop-j : goal.invariant-loop-j
invariant-loop-j l = starts_with ◌==◌ (lowercase (drop l.j l.text)) (drop l.j l.word) ≡ starts_with ◌==◌ (lowercase l.text) l.word
