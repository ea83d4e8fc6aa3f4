use Rattle.tiny_http_body.proofs.StreamedLemmas.{Streamed-more}
use Rattle.tiny_http_body.proofs.streamed.StreamedWrite.write.Goals as goal

pub returns-in-Ok-clause-body : goal.returns-in-Ok-clause-body
returns-in-Ok-clause-body g c = λ start given h.
    let before = rw (← c.self.view_is) at h in
    (c.if-self.false, Streamed-more _ _ _ _ _ _ _ _ _ before.1 c.in-Ok.ensures.gathers)

pub returns-in-Err-clause-gathers : goal.returns-in-Err-clause-gathers
returns-in-Err-clause-gathers g c = λ unfailed. rw (← c.self.view_is) c.in-Err.ensures.gathers
