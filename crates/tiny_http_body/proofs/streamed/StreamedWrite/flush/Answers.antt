use Rattle.std.proofs.Common.{sym, ◌∙◌, subst}
use Rattle.tiny_http_body.specs.declared.streamed.StreamedForm.{StreamedForm}
use Rattle.tiny_http_body.specs.Streamed.{SentPieces}
use Rattle.tiny_http_body.proofs.StreamedLemmas.{Streamed-flushed}
use Rattle.tiny_http_body.proofs.streamed.StreamedWrite.flush.Goals as goal

pub returns-in-Ok-clause-body : goal.returns-in-Ok-clause-body
returns-in-Ok-clause-body g c = λ start given h.
    let sent = c.in-Ok.ensures in
    (sent.rest.1 ∙ h.0, subst (λ (form : StreamedForm). SentPieces form start c.send.new.self.sink given c.send.new.self.held) (sym sent.rest.0) (Streamed-flushed _ _ _ _ _ _ _ h.1 sent.puts sent.held))
