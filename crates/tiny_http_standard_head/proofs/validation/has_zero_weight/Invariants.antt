use Rattle.std.proofs.Common.{◌≡◌, length}
use Rattle.tiny_http_text.specs.Bytes.{parts, semicolon}
use Rattle.tiny_http_standard_head.specs.Te.{between_semicolons, has_zero_weight}
use Rattle.tiny_http_standard_head.proofs.ListsLemmas.{from_here}
use Rattle.tiny_http_standard_head.proofs.validation.has_zero_weight.Given as goal

abbrev pub invariant-loop-text : goal.invariant-loop-text
invariant-loop-text l = has_zero_weight (from_here (parts semicolon l.parameters) (length l.yielded)) ≡ has_zero_weight (between_semicolons l.parameters)
