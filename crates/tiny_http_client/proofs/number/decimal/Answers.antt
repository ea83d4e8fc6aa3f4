use Rattle.std.proofs.Common.{sym, ◌∙◌, arith}
use Rattle.tiny_http_client.proofs.HeadLemmas.{decimal-none, decimal-more, decimal-other, decimal-some, number-value, number-none, differs, agrees}
use Rattle.tiny_http_client.proofs.number.decimal.Goals as goal

pub returns-in_err-number : goal.returns-in_err-number
returns-in_err-number c = c.from_residual.ensures ∙ decimal-none c.args.most c.args.text.now (omega arith) (number-none c.args.text.now c.in_err-number.ensures)

pub returns-then-number-most : goal.returns-then-number-most
returns-then-number-most c =
    decimal-more c.args.most c.in_ok-number.number c.args.text.now (number-value c.args.text.now c.in_ok-number.number c.in_ok-number.ensures) c.if-number-most.true

pub returns-then-ne : goal.returns-then-ne
returns-then-ne c =
    decimal-other c.args.most c.in_ok-number.number c.args.text.now (number-value c.args.text.now c.in_ok-number.number c.in_ok-number.ensures)
    (λ e. differs c.as_bytes.result.now c.args.text.now c.if-ne.ensures (c.as_bytes.ensures.value ∙ c.decimal.ensures ∙ e))

pub returns : goal.returns
returns c =
    decimal-some c.args.most c.in_ok-number.number c.args.text.now (omega arith) (omega arith)
    (sym (c.as_bytes.ensures.value ∙ c.decimal.ensures) ∙ agrees c.as_bytes.result.now c.args.text.now c.if-ne.ensures)
