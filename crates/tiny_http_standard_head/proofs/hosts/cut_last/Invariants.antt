use Rattle.std.proofs.Common.{length, ◌≤◌, drop}
use Rattle.tiny_http_text.specs.Bytes.{HasNo}
use Rattle.tiny_http_standard_head.proofs.hosts.cut_last.Given as goal

abbrev pub invariant-loop-end : goal.invariant-loop-end
invariant-loop-end l = record { within : l.end ≤ length l.text; last : HasNo l.c (drop l.end l.text) }

abbrev pub decreases-loop-end : goal.decreases-loop-end
decreases-loop-end l = l.end
