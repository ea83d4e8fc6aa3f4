use Rattle.std.proofs.Common.{length, ◌-◌, ◌≤◌, take}
use Rattle.tiny_http_events.specs.Browser.{IsOneLine}
use Rattle.tiny_http_events.proofs.event.line_len.Given as goal

abbrev pub invariant-loop-i : goal.invariant-loop-i
invariant-loop-i l = record { within : l.i ≤ length l.text; line : IsOneLine (take l.i l.text) }

abbrev pub decreases-loop-i : goal.decreases-loop-i
decreases-loop-i l = length l.text - l.i
