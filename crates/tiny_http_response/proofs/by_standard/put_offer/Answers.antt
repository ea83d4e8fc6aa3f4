use Rattle.std.proofs.lemmas.Result.{err_from_is_err_and}
use Rattle.tiny_http_io.proofs.DeviceLemmas.{Failed-front}
use Rattle.tiny_http_response.proofs.by_standard.put_offer.Goals as goal

pub returns-in_err-put_options : goal.returns-in_err-put_options
returns-in_err-put_options g c =
    let p = err_from_is_err_and c.from_residual.result c.from_residual.ensures.1 in
    rw (p.1, p.2) (Failed-front _ _ _ _ _ c.in_err-put_options.ensures)
