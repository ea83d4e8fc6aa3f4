use Rattle.std.proofs.Common.{◌≡◌, nat_lt, drop}
use Rattle.tiny_http_files.specs.Ranges.{sum_of}
use Rattle.tiny_http_files.proofs.ranges.are_longer.Given as goal

abbrev pub invariant-loop-range : goal.invariant-loop-range
invariant-loop-range l = nat_lt l.left (sum_of (drop l.range-index l.ranges)) ≡ nat_lt l.length (sum_of l.ranges)
