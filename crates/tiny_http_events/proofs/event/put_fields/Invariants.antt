use Rattle.std.proofs.Common.{◌≡◌, ◌++◌, length}
use Rattle.tiny_http_events.specs.Events.{field_lines}
use Rattle.tiny_http_events.proofs.event.put_fields.Given as goal

abbrev pub invariant-loop-line : goal.invariant-loop-line
invariant-loop-line l = l.text.items ++ field_lines l.name l.rest ≡ l.fn.text.items ++ field_lines l.name l.fn.value

abbrev pub decreases-loop-line : goal.decreases-loop-line
decreases-loop-line l = length l.rest
