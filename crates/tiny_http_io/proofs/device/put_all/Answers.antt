use Rattle.std.proofs.Common.{arith}
use Rattle.std.proofs.lemmas.Result.{err_from_is_err_and}
use Rattle.tiny_http_io.proofs.DeviceLemmas.{Failed-piece}
use Rattle.tiny_http_io.proofs.device.put_all.Goals as goal

pub returns-in_err-put : goal.returns-in_err-put
returns-in_err-put g c =
    let p = err_from_is_err_and c.from_residual.result c.from_residual.ensures.1 in
    rw (p.1, p.2) (Failed-piece _ _ _ (λ s. s.now) c.args.pieces.now c.loop-piece.piece-index _ _ (omega arith) c.loop-piece.invariant c.in_err-put.ensures)
