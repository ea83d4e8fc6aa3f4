use Rattle.std.proofs.Common.{arith, length-take, length-drop}
use Rattle.tiny_http_io.proofs.DeviceLemmas.{Took-at}
use Rattle.tiny_http_io.proofs.device.put.Goals as goal

pub loop-at-preserved : goal.loop-at-preserved
loop-at-preserved g c =
    let h = c.in_ok-at.ensures in
    record {
      within = grind (arith, h.0, length-take, length-drop);
      taken = Took-at _ _ _ c.args.bytes.now c.loop-at.at c.in_ok-at.field-0 c.loop-at.invariant.within h.0 c.loop-at.invariant.taken h.2;
    }
