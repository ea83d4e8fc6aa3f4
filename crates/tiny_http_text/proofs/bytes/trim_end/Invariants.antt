use Rattle.std.proofs.Common.{◌≡◌, length, ◌≤◌, drop, true}
use Rattle.std.specs.List.{list_all}
use Rattle.tiny_http_text.specs.Bytes.{is_blank}
use Rattle.tiny_http_text.proofs.bytes.trim_end.Given as goal

abbrev pub invariant-loop-end : goal.invariant-loop-end
invariant-loop-end l = record { within : l.end ≤ length l.text; blank : list_all is_blank (drop l.end l.text) ≡ true }

abbrev pub decreases-loop-end : goal.decreases-loop-end
decreases-loop-end l = l.end
