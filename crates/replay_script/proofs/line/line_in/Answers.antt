use Rattle.std.proofs.lemmas.Str.{IsUtf8-from_ascii}
use Rattle.replay_script.proofs.ScriptLineLemmas.{error_stated}
use Rattle.replay_script.proofs.line.line_in.Goals as goal

pub returns-in_err-ok-clause-good : goal.returns-in_err-ok-clause-good
returns-in_err-ok-clause-good c =
    let refused = error_stated c.from_utf8.result _ _ c.from_utf8.ensures.cases c.in_err-ok.ensures.variant in
    absurd (refused.1.0 (IsUtf8-from_ascii c.args.bytes.now c.if-not-is_ascii.ensures.cases))
