use Rattle.std.proofs.Common.{ap, ◌∙◌, subst, List, ℕ}
use Rattle.std.specs.List.{AllZip}
use Rattle.replay_script.specs.ScriptLine.{IsLine}
use Rattle.replay_script.specs.Script.{steps_from}
use Rattle.replay_script.proofs.ScriptLemmas.{texts}
use Rattle.replay_script.proofs.script.read_script.Goals as goal

pub returns-in-Ok-read_steps-clause-steps : goal.returns-in-Ok-read_steps-clause-steps
returns-in-Ok-read_steps-clause-steps c =
    let says : List (List ℕ) → Type 0 = λ lines. AllZip IsLine lines c.in_ok-said.said.items in (
      c.in_ok-said.said.items,
      c.first_date.result,
      subst says (ap texts c.as_slice.ensures.value ∙ c.in-Ok.ensures) c.in_ok-said.ensures.says,
      c.first_date.ensures,
      c.in-Ok-read_steps.ensures ∙ ap (steps_from c.first_date.result) c.as_slice-2.ensures.value,
    )
