use Rattle.std.proofs.Common.{arith}
use Rattle.std.proofs.lemmas.Result.{err_from_is_err_and}
use Rattle.tiny_http_response.specs.Answer.{field_line_of}
use Rattle.tiny_http_io.proofs.DeviceLemmas.{Failed-item}
use Rattle.tiny_http_response.proofs.answer_head.put_headers.Goals as goal

pub returns-in_err-put_header : goal.returns-in_err-put_header
returns-in_err-put_header g c =
    let p = err_from_is_err_and c.from_residual.result c.from_residual.ensures.1 in
    rw (p.1, p.2) (Failed-item _ _ _ field_line_of c.args.headers.now c.loop-header.header-index c.header-item.result _ (omega arith) c.header-item.is c.loop-header.invariant c.in_err-put_header.ensures)
