use Rattle.tiny_http_io.proofs.DeviceLemmas.{IsFront-append}
use Rattle.tiny_http_response.proofs.SendingLemmas.{is-flushed}
use Rattle.tiny_http_connection.proofs.PendingLemmas.{flushed-behind}
use Rattle.tiny_http_connection.proofs.pending.write_left.Goals as goal

pub returns-clause-passes : goal.returns-clause-passes
returns-clause-passes g c front rest e place =
    let h = c.write_texts.ensures.passes front rest e place in
    (h.0, flushed-behind _ _ _ _ _ _ _ h.1 c.flush_quietly.ensures.sends)

pub returns-clause-is_flushed : goal.returns-clause-is_flushed
returns-clause-is_flushed g c = let o = c.flush_quietly.new.outlet in is-flushed o.sink o.held o.ended c.flush_quietly.ensures.flushed c.flush_quietly.ensures.sent_on

pub returns-clause-keeps : goal.returns-clause-keeps
returns-clause-keeps g c = IsFront-append _ _ _ c.write_texts.ensures.keeps c.flush_quietly.ensures.keeps
