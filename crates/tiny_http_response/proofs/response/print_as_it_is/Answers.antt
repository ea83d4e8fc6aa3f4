use Rattle.std.proofs.Common.{if◌then◌else◌, [], inr, None}
use Rattle.std.proofs.lemmas.Result.{err_from_is_err_and}
use Rattle.tiny_http_body.specs.Text.{whole, identity_body}
use Rattle.tiny_http_response.specs.ResponseHead.{response_head_text}
use Rattle.tiny_http_response.specs.declared.coding.FramingHeader.TheVariants.{ContentLength}
use Rattle.tiny_http_body.proofs.DeviceFaults.{Took-same, Failed-faulted, Uses-behind}
use Rattle.tiny_http_body.proofs.DeviceCopies.{Prints-head_failed}
use Rattle.tiny_http_response.proofs.response.print_as_it_is.Goals as goal

pub returns-in_err-put_head-clause-text : goal.returns-in_err-put_head-clause-text
returns-in_err-put_head-clause-text g c =
    let p = err_from_is_err_and c.from_residual.result c.from_residual.ensures.1 in
    rw (p.1, p.2) (Prints-head_failed _ _ _ (response_head_text c.args.head.now None (ContentLength c.args.n)) c.in_err-put_head.field-0.0 (λ f. if c.args.withheld then whole [] else identity_body c.args.n f) c.in_err-put_head.ensures)

pub returns-in_err-put_head-clause-uses : goal.returns-in_err-put_head-clause-uses
returns-in_err-put_head-clause-uses g c =
    let p = err_from_is_err_and c.from_residual.result c.from_residual.ensures.1 in
    rw (p.1, p.2) (inr (Failed-faulted _ _ (response_head_text c.args.head.now None (ContentLength c.args.n)) _ c.in_err-put_head.ensures))

pub returns-then-withheld-clause-uses : goal.returns-then-withheld-clause-uses
returns-then-withheld-clause-uses g c = Took-same _ _ _ c.in_ok-put_head.ensures

pub returns-clause-uses : goal.returns-clause-uses
returns-clause-uses g c = Uses-behind _ _ _ _ (Took-same _ _ _ c.in_ok-put_head.ensures) c.put_exactly.ensures.uses
