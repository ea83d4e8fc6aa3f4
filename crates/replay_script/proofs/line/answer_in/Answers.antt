use Rattle.replay_script.specs.ScriptLine.{IsContent}
use Rattle.replay_script.proofs.line.answer_in.Goals as goal

pub returns-in_err-number-clause-found : goal.returns-in_err-number-clause-found
returns-in_err-number-clause-found c = λ a. absurd (c.in_err-number.ensures.found a.0 a.1 a.3.0 a.3.1)

pub returns-in_err-content_in-clause-found : goal.returns-in_err-content_in-clause-found
returns-in_err-content_in-clause-found c = λ a.
    let numbers = c.in_ok-number.ensures.found a.0 a.1 a.3.0 a.3.1 in
    let content : IsContent c.in_ok-number.text.now = rw numbers.2 (a.2, a.3.2) in
    let wrong = c.in_err-content_in.ensures.found content in
    absurd (cc wrong)
