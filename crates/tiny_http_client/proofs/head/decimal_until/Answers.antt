use Rattle.tiny_http_text.proofs.BytesTrimming.{ascii-cut}
use Rattle.tiny_http_client.proofs.HeadLemmas.{until-nothing, until-there, until-fits}
use Rattle.tiny_http_client.proofs.head.decimal_until.Goals as goal

pub returns-in_default-clause-none : goal.returns-in_default-clause-none
returns-in_default-clause-none c = until-nothing c.args.most c.args.c c.args.text.now c.in_default.ensures.none

pub returns-in_err-number-clause-none : goal.returns-in_err-number-clause-none
returns-in_err-number-clause-none c =
    let cut = c.in-Some.ensures.some in
    rw c.from_residual.ensures (until-there c.args.most c.args.c c.args.text.now c.in-Some.digits.now c.in-Some.after.now _ cut.0 cut.1 c.in_err-number.ensures)

pub returns-clause-some : goal.returns-clause-some
returns-clause-some c =
    let cut = c.in-Some.ensures.some in (
      until-there c.args.most c.args.c c.args.text.now c.in-Some.digits.now c.in-Some.after.now _ cut.0 cut.1 c.in_ok-number.ensures,
      (ascii-cut c.args.c c.args.text.now c.in-Some.digits.now c.in-Some.after.now cut.0 c.requires).1,
    )

pub returns-clause-fits : goal.returns-clause-fits
returns-clause-fits c = until-fits c.args.most c.in_ok-number.number c.in-Some.digits.now c.in_ok-number.ensures
