use Rattle.std.proofs.Common.{◌≡◌, map, take}
use Rattle.replay_script.specs.Script.{steps_from, timed_value}
use Rattle.replay_script.proofs.ScriptLemmas.{date_after}
use Rattle.replay_script.proofs.script.read_steps.Given as goal

abbrev pub invariant-loop-line : goal.invariant-loop-line
invariant-loop-line l =
    (map timed_value l.steps.items ≡ steps_from l.fn.first (take l.line-index l.lines))
    × (l.now ≡ date_after l.fn.first (take l.line-index l.lines))
