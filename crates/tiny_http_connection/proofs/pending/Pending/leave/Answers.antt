use Rattle.std.proofs.Common.{◌≡◌, refl, sym, ap, ◌∙◌, subst, length, true, false}
use Rattle.tiny_http_turns.specs.Turns.{Leave, turn_answer}
use Rattle.tiny_http_turns.specs.TurnsCalls.{LeavesTurn}
use Rattle.tiny_http_turns.specs.declared.turns.Leaving.{Leaving}
use Rattle.tiny_http_io.specs.Outlet.{output_of, outlet_ended}
use Rattle.tiny_http_connection.proofs.PendingLemmas.{leave-goes, leave-stays, leave-in_turn, leave-comes_back, length-left}
use Rattle.tiny_http_response.proofs.SendingLemmas.{once-none}
use Rattle.tiny_http_connection.proofs.pending.Pending.leave.Goals as goal

pub returns-in-Go-clause-leaves : goal.returns-in-Go-clause-leaves
returns-in-Go-clause-leaves g c front rest e place can =
    leave-goes front rest c.args.self.now.turns.marks c.leave.new.self.marks c.write_left.new.turns.marks c.args.number c.args.text.items _ _ _ _ c.leave.result c.in-Go.field-0 c.in-Go.text c.args.self.now.turns.resting c.leave.new.self.resting e place
    (record { marks_are = c.leave.ensures.marks; item = c.leave.ensures.item }) c.in-Go.is (λ held. let h = c.write_left.ensures.passes front rest held place in (h.0, h.1 can)) c.write_left.ensures.is_flushed

pub returns-in-Go-clause-counts : goal.returns-in-Go-clause-counts
returns-in-Go-clause-counts g c = c.write_left.ensures.counts ∙ (ap length c.leave.ensures.marks ∙ length-left c.args.number c.args.text.items c.args.self.now.turns.marks)

pub returns-in-Go-clause-sends : goal.returns-in-Go-clause-sends
returns-in-Go-clause-sends g c = λ open_is turn. (c.write_left.ensures.flushed, c.write_left.ensures.sent_on)

pub returns-in-Go-clause-waits : goal.returns-in-Go-clause-waits
returns-in-Go-clause-waits g c = λ early.
    let marks = c.args.self.now.turns.marks in
    let L : Leaving (Unit {0}) → Type 0 = λ r. LeavesTurn (turn_answer (Leave c.args.number c.args.text.items) marks) c.args.self.now.turns.resting r c.leave.new.self.resting in
    let turn = leave-in_turn marks c.args.number c.args.text.items c.args.self.now.turns.resting c.leave.new.self.resting c.in-Go.field-0 c.in-Go.text (subst L c.in-Go.is c.leave.ensures.item) in
    let no : true ≡ false = sym turn ∙ early in
    cc

pub returns-in_default : goal.returns-in_default
returns-in_default g c =
    let sink = g.W.WriteDevice.sink in
    let outlet = c.args.outlet.now in
    record {
      leaves = λ front rest e place can. leave-stays front rest c.args.self.now.turns.marks c.leave.new.self.marks c.args.number c.args.text.items (outlet_ended outlet) (output_of outlet) c.leave.result c.args.self.now.turns.resting c.leave.new.self.resting e place (record { marks_are = c.leave.ensures.marks; item = c.leave.ensures.item }) c.in_default.not-Go c.leave.ensures.in_order.shape;
      counts = ap length c.leave.ensures.marks ∙ length-left c.args.number c.args.text.items c.args.self.now.turns.marks;
      requests = refl;
      sends = λ open_is turn. absurd (leave-comes_back c.args.self.now.turns.marks c.args.number c.args.text.items c.args.self.now.turns.resting c.leave.new.self.resting c.leave.result open_is turn c.leave.ensures.item c.in_default.not-Go);
      waits = λ early. refl;
      fails_once = once-none (outlet_ended outlet) (output_of outlet);
      flushed = λ h. h;
      sent_on = λ h. h;
    }
