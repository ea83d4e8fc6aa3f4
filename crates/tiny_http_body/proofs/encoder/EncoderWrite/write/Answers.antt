use Rattle.tiny_http_body.proofs.EncoderLemmas.{Encoded-more, Encoded-failed}
use Rattle.tiny_http_body.proofs.encoder.EncoderWrite.write.Goals as goal

pub returns-in-Ok-clause-body : goal.returns-in-Ok-clause-body
returns-in-Ok-clause-body g c = λ start given h.
    let before = rw (← c.self.view_is) at h in
    let taken = c.in-Ok.ensures.encodes in
    (c.if-self.false, Encoded-more _ _ _ _ _ _ _ before.1 taken.2 taken.3)

pub returns-in-Err-clause-fault : goal.returns-in-Err-clause-fault
returns-in-Err-clause-fault g c = λ start given h.
    let before = rw (← c.self.view_is) at h in
    Encoded-failed _ _ _ _ _ _ _ before.1 c.in-Err.ensures.encodes
