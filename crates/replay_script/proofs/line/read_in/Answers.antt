use Rattle.replay_script.proofs.ScriptLineLemmas.{count_read}
use Rattle.replay_script.proofs.line.read_in.Goals as goal

pub returns-in_err-number-clause-found : goal.returns-in_err-number-clause-found
returns-in_err-number-clause-found c = λ n count w. absurd (c.in_err-number.ensures.found n w.0 w.2 w.1)

pub returns-in_err-count_in-clause-found : goal.returns-in_err-count_in-clause-found
returns-in_err-count_in-clause-found c = λ n count w.
    let first = c.in_ok-number.ensures.found n w.0 w.2 w.1 in
    absurd (c.in_err-count_in.ensures (count_read w.0 c.in_ok-number.digits.now count first.1 w.3))
