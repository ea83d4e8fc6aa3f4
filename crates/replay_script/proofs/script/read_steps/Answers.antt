use Rattle.replay_script.proofs.ScriptLemmas.{step_on}
use Rattle.replay_script.proofs.script.read_steps.Goals as goal

pub loop-line-preserved : goal.loop-line-preserved
loop-line-preserved c =
    step_on c.args.first c.args.lines.now c.loop-line.line-index c.line-item.result c.loop-line.now c.date_from-now.result _ _
    c.loop-line-test.true c.line-item.is c.loop-line.invariant.0 c.loop-line.invariant.1 c.date_from-now.ensures c.in_ok-add_step.ensures
