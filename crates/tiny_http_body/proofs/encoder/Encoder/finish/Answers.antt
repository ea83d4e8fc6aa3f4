use Rattle.std.proofs.lemmas.Result.{err_from_is_err_and}
use Rattle.tiny_http_body.proofs.EncoderLemmas.{Encoded-end_failed}
use Rattle.tiny_http_body.proofs.encoder.Encoder.finish.Goals as goal

pub returns-in_err-put_last-clause-fault : goal.returns-in_err-put_last-clause-fault
returns-in_err-put_last-clause-fault g c =
    let p = err_from_is_err_and c.from_residual.result c.from_residual.ensures.1 in
    rw (p.1, p.2) (λ sound. (
      c.put_last.new.writer,
      λ start given h.
          let before = rw (← c.self.view_is) at h in
          Encoded-end_failed _ _ _ _ _ _ before.1 c.in_err-put_last.ensures,
    ))
