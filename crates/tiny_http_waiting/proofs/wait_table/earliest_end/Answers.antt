use Rattle.tiny_http_waiting.proofs.WaitTableLemmas.{scan_idle, scan_waiting}
use Rattle.tiny_http_waiting.proofs.wait_table.earliest_end.Goals as goal
use Rattle.tiny_http_waiting.proofs.wait_table.earliest_end.Goals.{in-Waiting, in_default}

pub loop-slot-preserved : goal.loop-slot-preserved
loop-slot-preserved g c =
    elim c.match-slot.branch [
      | in-Waiting w ↦ scan_waiting c.loop-slot.earliest c.match-slot.earliest c.args.slots.now
          c.loop-slot.slot-index c.slot-item.result w.earlier.result w.in-Waiting.field-0 w.in-Waiting.until
          c.loop-slot-test.true c.slot-item.is w.earliest-is w.in-Waiting.is w.earlier.ensures
          c.loop-slot.invariant
      | in_default w ↦ scan_idle c.loop-slot.earliest c.match-slot.earliest c.args.slots.now c.loop-slot.slot-index
          c.slot-item.result c.loop-slot-test.true c.slot-item.is w.earliest-is w.in_default.not-Waiting
          c.loop-slot.invariant
    ]
