use Rattle.std.proofs.lemmas.Result.{err_from_is_err_and}
use Rattle.tiny_http_io.proofs.DeviceLemmas.{Failed-front, Puts-append}
use Rattle.tiny_http_response.proofs.answer_head.put_protocol.Goals as goal

pub returns-in_err-put_field : goal.returns-in_err-put_field
returns-in_err-put_field g c =
    let p = err_from_is_err_and c.from_residual.result c.from_residual.ensures.1 in
    rw (p.1, p.2) (Failed-front _ _ _ _ _ c.in_err-put_field.ensures)

pub returns : goal.returns
returns g c = rw (← c.as_bytes.ensures.value) (Puts-append _ _ _ _ _ _ c.in_ok-put_field.ensures c.put_field-2.ensures)
