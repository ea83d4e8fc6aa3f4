use Rattle.std.proofs.Common.{ap, arith, Err}
use Rattle.replay.proofs.replay_on.Goals as goal

pub returns-in-Ok-clause-refused : goal.returns-in-Ok-clause-refused
returns-in-Ok-clause-refused g c = λ n bad. absurd (c.in-Ok.ensures.refused n bad).0

pub returns-in-Err-clause-refused : goal.returns-in-Err-clause-refused
returns-in-Err-clause-refused g c = λ n bad. (c.report.ensures.some, (c.in-Err.ensures.refused n bad).1)

pub returns-in-Err-clause-two : goal.returns-in-Err-clause-two
returns-in-Err-clause-two g c = λ two. let bad = c.in-Err.ensures.kinds (c.report.ensures.two two) in (bad.0, c.in-Err.ensures.bad bad.0 (ap Err bad.1))

pub returns-in-Err-clause-runs : goal.returns-in-Err-clause-runs
returns-in-Err-clause-runs g c = λ none. absurd (let some = c.report.ensures.some in omega (arith, none))
