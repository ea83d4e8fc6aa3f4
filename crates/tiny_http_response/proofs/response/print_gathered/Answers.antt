use Rattle.std.proofs.Common.{None, length, inl}
use Rattle.std.proofs.lemmas.Result.{err_from_is_err_and}
use Rattle.tiny_http_response.specs.ResponseHead.{response_head_text}
use Rattle.tiny_http_response.specs.declared.coding.FramingHeader.TheVariants.{ContentLength}
use Rattle.tiny_http_body.proofs.DeviceFaults.{SameFaults-none, Puts-uses}
use Rattle.tiny_http_response.proofs.AnswerLemmas.{response_head-some, Gathered-fault, Gathered-printed}
use Rattle.tiny_http_response.proofs.response.print_gathered.Goals as goal

pub returns-in_err-bytes-clause-text : goal.returns-in_err-bytes-clause-text
returns-in_err-bytes-clause-text g c =
    let p = err_from_is_err_and c.from_residual.result c.from_residual.ensures.1 in
    rw (p.1, p.2) (Gathered-fault _ _ c.in_err-bytes.field-0.0 (λ f. response_head_text c.args.head.now None (ContentLength (length f.bytes))) c.args.withheld c.in_err-bytes.ensures.gathers)

pub returns-clause-text : goal.returns-clause-text
returns-clause-text g c = Gathered-printed _ _ _ _ _ _ (λ n. response_head_text c.args.head.now None (ContentLength n)) c.args.withheld (λ k. response_head-some c.args.head.now None (ContentLength k)) c.as_slice.ensures.value c.in_ok-bytes.ensures.gathers c.print_bytes.ensures

pub returns-in_err-bytes-clause-uses : goal.returns-in_err-bytes-clause-uses
returns-in_err-bytes-clause-uses g c =
    let p = err_from_is_err_and c.from_residual.result c.from_residual.ensures.1 in
    rw (p.1, p.2) (inl (SameFaults-none _))

pub returns-clause-uses : goal.returns-clause-uses
returns-clause-uses g c = Puts-uses _ _ _ _ c.print_bytes.ensures
