use Rattle.std.proofs.Common.{◌++◌}
use Rattle.std.proofs.lemmas.Result.{err_from_is_err_and}
use Rattle.tiny_http_io.specs.Device.{Took}
use Rattle.tiny_http_io.proofs.DeviceLemmas.{Took-append, Failed-append, Failed-front}
use Rattle.tiny_http_body.specs.Streamed.{piece_text, end_text}
use Rattle.tiny_http_body.proofs.StreamedLemmas.{Streamed-ended}
use Rattle.tiny_http_body.proofs.streamed.Streamed.finish.Goals as goal

pub returns-clause-body : goal.returns-clause-body
returns-clause-body g c = λ start given h.
    let took : Took c.args.self.sink (g.W.WriteDevice.sink c.put_end.new.writer) (piece_text c.args.self.form c.args.self.held ++ end_text c.args.self.form) =
    rw (← c.self.view_is) (Took-append _ _ _ _ _ c.in_ok-put_piece.ensures c.in_ok-put_end.ensures) in
    Streamed-ended _ _ _ _ _ _ h.1 took

pub returns-in_err-put_piece-clause-fault : goal.returns-in_err-put_piece-clause-fault
returns-in_err-put_piece-clause-fault g c =
    let p = err_from_is_err_and c.from_residual.result c.from_residual.ensures.1 in
    rw (p.1, p.2, ← c.self.view_is) (λ sound. (c.put_piece.new.writer, Failed-front _ _ _ _ _ c.in_err-put_piece.ensures))

pub returns-in_err-put_end-clause-fault : goal.returns-in_err-put_end-clause-fault
returns-in_err-put_end-clause-fault g c =
    let p = err_from_is_err_and c.from_residual-in_err-put_end.result c.from_residual-in_err-put_end.ensures.1 in
    rw (p.1, p.2, ← c.self.view_is) (λ sound. (c.put_end.new.writer, Failed-append _ _ _ _ _ _ c.in_ok-put_piece.ensures c.in_err-put_end.ensures))
