use Rattle.std.proofs.Common.{◌≡◌, ◌+◌, ◌≤◌}
use Rattle.test_server.proofs.entering.enters.Given as goal

abbrev pub invariant-loop : goal.invariant-loop
invariant-loop g l = (l.mine.parts ≡ l.fn.mine.parts) × (l.mine.amount ≡ l.fn.mine.amount + l.entered) × (l.entered ≤ l.counter)
