use Rattle.std.proofs.Common.{◌≡◌, length, ◌≤◌, drop, true}
use Rattle.std.specs.List.{list_all}
use Rattle.httparse.specs.Grammar.{is_ows}
use Rattle.tiny_http_head.proofs.blanks.trim_end.Given as goal

abbrev pub invariant-loop-end : goal.invariant-loop-end
invariant-loop-end l = record { within : l.end ≤ length l.text; blank : list_all is_ows (drop l.end l.text) ≡ true }

abbrev pub decreases-loop-end : goal.decreases-loop-end
decreases-loop-end l = l.end
