use Rattle.std.proofs.Common.{map}
use Rattle.tiny_http_core.specs.Seen.{seen}
use Rattle.replay_script.specs.Script.{timed_value}
use Rattle.replay_script.proofs.ScriptLemmas.{no_bad}
use Rattle.replay.proofs.replay.Goals as goal

pub returns-in-Ok-write_outcome-clause-refused : goal.returns-in-Ok-write_outcome-clause-refused
returns-in-Ok-write_outcome-clause-refused g c = λ n bad. absurd (no_bad c.args.script.now _ n c.in-Ok.ensures.steps bad)

pub returns-clause-refused : goal.returns-clause-refused
returns-clause-refused g c = λ n bad. absurd (no_bad c.args.script.now _ n c.in-Ok.ensures.steps bad)

pub returns-in-Ok-write_outcome-clause-runs : goal.returns-in-Ok-write_outcome-clause-runs
returns-in-Ok-write_outcome-clause-runs g c =
    record {
      replies = map seen c.in_ok-outcome.outcome.replies.items;
      output = _;
      replay = (map timed_value c.in-Ok.steps.items, c.in-Ok.ensures.steps, c.in_ok-outcome.ensures.runs);
      out = c.in-Ok-write_outcome.ensures.output;
      err = c.in-Ok-write_outcome.ensures.replies;
    }
