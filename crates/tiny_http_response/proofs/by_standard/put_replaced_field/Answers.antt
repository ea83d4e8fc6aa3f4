use Rattle.std.proofs.lemmas.Result.{err_from_is_err_and}
use Rattle.tiny_http_response.specs.Answer.{field_line}
use Rattle.tiny_http_io.proofs.DeviceLemmas.{Took-append, Failed-append, Failed-front, Puts-append}
use Rattle.tiny_http_response.proofs.by_standard.put_replaced_field.Goals as goal

pub returns-in_err-put : goal.returns-in_err-put
unfolding field_line
returns-in_err-put g c =
    let p = err_from_is_err_and c.from_residual.result c.from_residual.ensures.1 in
    rw (p.1, p.2) (Failed-front _ _ _ _ _ (Failed-front _ _ _ _ _ (Failed-front _ _ _ _ _ c.in_err-put.ensures)))

pub returns-in_err-put-2 : goal.returns-in_err-put-2
unfolding field_line
returns-in_err-put-2 g c =
    let p = err_from_is_err_and c.from_residual-in_err-put-2.result c.from_residual-in_err-put-2.ensures.1 in
    rw (p.1, p.2) (Failed-front _ _ _ _ _ (Failed-front _ _ _ _ _ (Failed-append _ _ _ _ _ _ c.in_ok-put.ensures c.in_err-put-2.ensures)))

pub returns-in_err-put_replaced : goal.returns-in_err-put_replaced
unfolding field_line
returns-in_err-put_replaced g c =
    let p = err_from_is_err_and c.from_residual-in_err-put_replaced.result c.from_residual-in_err-put_replaced.ensures.1 in
    rw (p.1, p.2) (Failed-front _ _ _ _ _ (Failed-append _ _ _ _ _ _ (Took-append _ _ _ _ _ c.in_ok-put.ensures c.in_ok-put-2.ensures) c.in_err-put_replaced.ensures))

pub returns : goal.returns
unfolding field_line
returns g c = Puts-append _ _ _ _ _ _ (Took-append _ _ _ _ _ (Took-append _ _ _ _ _ c.in_ok-put.ensures c.in_ok-put-2.ensures) c.in_ok-put_replaced.ensures) c.put-3.ensures
