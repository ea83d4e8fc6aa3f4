use Rattle.std.proofs.Common.{◌∙◌, Some, None}
use Rattle.replay_script.proofs.ScriptLineLemmas.{number_cut, number_read}
use Rattle.replay_script.proofs.line.number_before.Goals as goal

pub returns-in_err-digits-clause-found : goal.returns-in_err-digits-clause-found
returns-in_err-digits-clause-found c = λ n rest l b. absurd (number_cut c.args.text.now rest n None c.in_err-digits.ensures.cases b)

pub returns-in_err-number_in-clause-found : goal.returns-in_err-number_in-clause-found
returns-in_err-number_in-clause-found c = λ n rest l b.
    let same = number_cut c.args.text.now rest n (Some (c.in_ok-digits.digits, c.in_ok-digits.rest)) c.in_ok-digits.ensures.cases b in
    let read = number_read b.0 c.in_ok-digits.digits.now n same.0 b.2 l in
    absurd (c.in_err-number_in.ensures (read.0, read.1))

pub returns-clause-found : goal.returns-clause-found
returns-clause-found c = λ n rest l b.
    let same = number_cut c.args.text.now rest n (Some (c.in_ok-digits.digits, c.in_ok-digits.rest)) c.in_ok-digits.ensures.cases b in
    let read = number_read b.0 c.in_ok-digits.digits.now n same.0 b.2 l in
    (c.in_ok-number_in.ensures.1 ∙ read.2, same.1)
