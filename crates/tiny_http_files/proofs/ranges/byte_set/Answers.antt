use Rattle.std.proofs.Common.{◌∙◌, sym, ap}
use Rattle.std.specs.Option.{option_copied}
use Rattle.tiny_http_files.proofs.RangesLemmas.{set-with, set-without, set-other}
use Rattle.tiny_http_files.proofs.ranges.byte_set.Goals as goal

pub returns-in_err-unit : goal.returns-in_err-unit
returns-in_err-unit c = ap option_copied c.from_residual.ensures ∙ set-without c.args.value.now c.in_err-unit.ensures.none

pub returns-then-is_bytes : goal.returns-then-is_bytes
returns-then-is_bytes c = set-with c.args.value.now c.in_ok-unit.unit.now c.in_ok-unit.set.now c.in_ok-unit.ensures.some.0 c.in_ok-unit.ensures.some.1 (sym c.is_bytes.ensures ∙ c.if-is_bytes.true)

pub returns-else-is_bytes : goal.returns-else-is_bytes
returns-else-is_bytes c = set-other c.args.value.now c.in_ok-unit.unit.now c.in_ok-unit.set.now c.in_ok-unit.ensures.some.0 c.in_ok-unit.ensures.some.1 (sym c.is_bytes.ensures ∙ c.if-is_bytes.false)
