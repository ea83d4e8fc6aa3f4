use Rattle.std.proofs.Common.{◌≡◌, ◌+◌, ◌^◌, ◌<◌, length}
use Rattle.tiny_http_turns.specs.ByNumber.{with_passed}
use Rattle.tiny_http_turns.proofs.by_number.pass_empty.Given as goal

abbrev pub invariant-loop-kept : goal.invariant-loop-kept
invariant-loop-kept g l = record {
  same : with_passed l.passed l.kept.items ≡ with_passed l.fn.passed l.fn.kept.items;
  bound : l.passed + length l.kept.items < 2 ^ 64;
}

abbrev pub decreases-loop-kept : goal.decreases-loop-kept
decreases-loop-kept g l = length l.kept.items
