use Rattle.std.proofs.Common.{length, ◌-◌, ◌≤◌}
use Rattle.tiny_http_io.proofs.LineEndsSearching.{Searched}
use Rattle.tiny_http_io.proofs.lines.line_end.Given as goal

abbrev pub invariant-loop-n : goal.invariant-loop-n
invariant-loop-n l = record {
  within : l.at ≤ length l.bytes;
  searched : Searched l.bytes l.at;
}

abbrev pub decreases-loop-n : goal.decreases-loop-n
decreases-loop-n l = length l.bytes - l.at
