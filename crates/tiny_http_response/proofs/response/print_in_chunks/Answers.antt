use Rattle.std.proofs.Common.{inr, None}
use Rattle.std.proofs.lemmas.Result.{err_from_is_err_and}
use Rattle.tiny_http_body.specs.Text.{chunked_body}
use Rattle.tiny_http_response.specs.Answer.{body_unless_withheld}
use Rattle.tiny_http_response.specs.ResponseHead.{response_head_text}
use Rattle.tiny_http_response.specs.declared.coding.FramingHeader.TheVariants.{TransferEncoding}
use Rattle.tiny_http_body.proofs.DeviceFaults.{Took-same, Failed-faulted, Uses-behind}
use Rattle.tiny_http_response.proofs.AnswerLemmas.{few-failed, few-withheld, few-behind}
use Rattle.tiny_http_response.proofs.response.print_in_chunks.Goals as goal

pub returns-in_err-put_head-clause-text : goal.returns-in_err-put_head-clause-text
returns-in_err-put_head-clause-text g c =
    let p = err_from_is_err_and c.from_residual.result c.from_residual.ensures.1 in
    rw (p.1, p.2) (few-failed _ _ _ (response_head_text c.args.head.now None TransferEncoding) c.in_err-put_head.field-0.0 (λ f. body_unless_withheld c.args.withheld (chunked_body f)) c.in_err-put_head.ensures)

pub returns-in_err-put_head-clause-uses : goal.returns-in_err-put_head-clause-uses
returns-in_err-put_head-clause-uses g c =
    let p = err_from_is_err_and c.from_residual.result c.from_residual.ensures.1 in
    rw (p.1, p.2) (inr (Failed-faulted _ _ (response_head_text c.args.head.now None TransferEncoding) _ c.in_err-put_head.ensures))

pub returns-then-withheld-clause-text : goal.returns-then-withheld-clause-text
returns-then-withheld-clause-text g c = rw c.if-withheld.true (few-withheld _ _ _ (response_head_text c.args.head.now None TransferEncoding) c.in_ok-put_head.ensures)

pub returns-then-withheld-clause-uses : goal.returns-then-withheld-clause-uses
returns-then-withheld-clause-uses g c = Took-same _ _ _ c.in_ok-put_head.ensures

pub returns-clause-text : goal.returns-clause-text
returns-clause-text g c = rw c.if-withheld.false (few-behind _ _ _ _ _ (response_head_text c.args.head.now None TransferEncoding) c.in_ok-put_head.ensures c.put_chunked.ensures.text)

pub returns-clause-uses : goal.returns-clause-uses
returns-clause-uses g c = Uses-behind _ _ _ _ (Took-same _ _ _ c.in_ok-put_head.ensures) c.put_chunked.ensures.uses
