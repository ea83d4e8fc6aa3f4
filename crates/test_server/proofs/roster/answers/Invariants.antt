use Rattle.std.proofs.Common.{◌≡◌}
use Rattle.test_server.proofs.roster.answers.Given as goal

abbrev pub invariant-loop : goal.invariant-loop
invariant-loop g l = l.mine.parts ≡ l.fn.mine.parts
