use Rattle.std.proofs.Common.{refl}
use Rattle.tiny_http_io.specs.Outlet.{output_of, outlet_ended}
use Rattle.tiny_http_connection.proofs.PendingLemmas.{pass-goes, pass-ends, goes-left}
use Rattle.tiny_http_response.proofs.SendingLemmas.{once-none}
use Rattle.tiny_http_io.proofs.DeviceLemmas.{IsFront-same}
use Rattle.tiny_http_connection.proofs.pending.Pending.pass.Goals as goal

pub returns-in-Go-clause-passes : goal.returns-in-Go-clause-passes
returns-in-Go-clause-passes g c front rest e place =
    (pass-goes front rest c.args.self.now.turns.marks c.finish.new.self.marks c.write_left.new.turns.marks c.args.number _ _ _ _ c.finish.result c.in-Go.text c.in-Go.field-0 c.args.self.now.turns.resting c.finish.new.self.resting e place
    (record { marks_are = c.finish.ensures.marks; item = c.finish.ensures.item }) c.in-Go.is c.write_left.ensures.passes c.write_left.ensures.is_flushed).0

pub returns-in-Go-clause-sends : goal.returns-in-Go-clause-sends
returns-in-Go-clause-sends g c front rest e place =
    (pass-goes front rest c.args.self.now.turns.marks c.finish.new.self.marks c.write_left.new.turns.marks c.args.number _ _ _ _ c.finish.result c.in-Go.text c.in-Go.field-0 c.args.self.now.turns.resting c.finish.new.self.resting e place
    (record { marks_are = c.finish.ensures.marks; item = c.finish.ensures.item }) c.in-Go.is c.write_left.ensures.passes c.write_left.ensures.is_flushed).1

pub returns-in-Go-clause-idle : goal.returns-in-Go-clause-idle
returns-in-Go-clause-idle g c front rest e place none =
    absurd (goes-left front rest c.args.self.now.turns.marks c.finish.new.self.marks c.args.number c.finish.result c.in-Go.text c.in-Go.field-0 c.args.self.now.turns.resting c.finish.new.self.resting e place
    (record { marks_are = c.finish.ensures.marks; item = c.finish.ensures.item }) c.in-Go.is none)

pub returns-in_default : goal.returns-in_default
returns-in_default g c =
    let sink = g.W.WriteDevice.sink in
    let outlet = c.args.outlet.now in
    record {
      passes = λ front rest e place. (pass-ends front rest c.args.self.now.turns.marks c.finish.new.self.marks c.args.number (outlet_ended outlet) (output_of outlet) c.finish.result c.args.self.now.turns.resting c.finish.new.self.resting e place (record { marks_are = c.finish.ensures.marks; item = c.finish.ensures.item }) c.in_default.not-Go).0;
      sends = λ front rest e place can. (pass-ends front rest c.args.self.now.turns.marks c.finish.new.self.marks c.args.number (outlet_ended outlet) (output_of outlet) c.finish.result c.args.self.now.turns.resting c.finish.new.self.resting e place (record { marks_are = c.finish.ensures.marks; item = c.finish.ensures.item }) c.in_default.not-Go).1;
      idle = λ front rest e place none. refl;
      requests = refl;
      fails_once = once-none (outlet_ended outlet) (output_of outlet);
      keeps = IsFront-same (output_of outlet).sent;
      flushed = λ h. h;
      sent_on = λ h. h;
    }
