use Rattle.std.proofs.Common.{◌≡◌, ap, true}
use Rattle.std.specs.Prelude.{◌||◌}
use Rattle.tiny_http_response.proofs.SendingLemmas.{printed-flushed, printed-ended, ended-once, flushed-once, printed-honest, flushed-honest}
use Rattle.tiny_http_response.proofs.sending.send_printed.Goals as goal
use Rattle.tiny_http_response.proofs.SendingLemmas.{or-parts}

pub returns-in-Err-clause-sends : goal.returns-in-Err-clause-sends
returns-in-Err-clause-sends g c content stated few can =
    printed-ended (Unit {0}) _ _ _ _ c.failures-failures.result _ c.in-Err.fault _ _ content stated few c.in-Err.ensures.text c.failures-failures.ensures.count c.end_behind_fault.ensures.ends can.unended can.can_count
    c.end_behind_fault.ensures.ended c.end_behind_fault.ensures.takes_none

pub returns-clause-sends : goal.returns-clause-sends
returns-clause-sends g c content stated few can =
    let mid = c.print-printed.new.writer in
    let new = c.flush.new.self in
    let ends : new.ended ≡ true → (new.ended || new.sink.has_ended) ≡ true = λ e. ap (λ x. x || new.sink.has_ended) e in
    printed-flushed _ _ _ _ mid.ended new.ended c.in_default.field-0 c.flush.result _ _ content stated few c.in_default.ensures.text c.flush.ensures.puts can.unended
    (λ h. (or-parts mid.ended mid.sink.has_ended h).0) ends c.flush.ensures.ended c.flush.ensures.stays

pub returns-in-Err-clause-fails_once : goal.returns-in-Err-clause-fails_once
returns-in-Err-clause-fails_once g c = ended-once (Unit {0}) _ _ _ c.failures-failures.result c.in-Err.fault _ c.in-Err.ensures.uses c.failures-failures.ensures.count c.end_behind_fault.ensures.ends c.end_behind_fault.ensures.ended

pub returns-clause-fails_once : goal.returns-clause-fails_once
returns-clause-fails_once g c = flushed-once _ _ _ c.in_default.field-0 c.flush.result _ c.in_default.ensures.uses c.flush.ensures.puts c.flush.ensures.ended

pub returns-in-Err-clause-honest : goal.returns-in-Err-clause-honest
returns-in-Err-clause-honest g c =
    printed-honest (Unit {0}) _ _ _ _ c.failures-failures.result c.in-Err.fault _ _ c.in-Err.ensures.text c.in-Err.ensures.uses c.failures-failures.ensures.count c.end_behind_fault.ensures.ends

pub returns-clause-honest : goal.returns-clause-honest
returns-clause-honest g c = flushed-honest _ _ _ c.flush.result _ _ _ c.in_default.ensures.uses c.flush.ensures.puts
