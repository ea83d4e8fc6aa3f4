use Rattle.std.proofs.Common.{◌∙◌}
use Rattle.tiny_http_files.proofs.RangesLemmas.{spec-with, spec-without}
use Rattle.tiny_http_files.proofs.ranges.RangeSpec.parse.Goals as goal

pub returns-in_err-first : goal.returns-in_err-first
returns-in_err-first c = c.from_residual.ensures ∙ spec-without c.args.element.now c.in_err-first.ensures.none

pub returns : goal.returns
returns c = c.between.ensures ∙ spec-with c.args.element.now c.in_ok-first.first.now c.in_ok-first.last.now c.in_ok-first.ensures.some.0 c.in_ok-first.ensures.some.1
