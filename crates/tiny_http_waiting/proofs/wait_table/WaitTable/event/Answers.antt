use Rattle.std.proofs.Common.{Option, slice_set, ap, ◌∙◌}
use Rattle.tiny_http_waiting.specs.declared.wait_table.Slot.{Slot}
use Rattle.tiny_http_waiting.specs.WaitTable.{event_at}
use Rattle.tiny_http_waiting.proofs.WaitTableLemmas.{after_set, at_slot, event_idle, taken, same_slots}
use Rattle.tiny_http_waiting.proofs.wait_table.WaitTable.event.Goals as goal

pub invariant_of-self-2 : goal.invariant_of-self-2
invariant_of-self-2 g c =
    after_set c.self.inside.earliest c.self.inside.slots.items c.args.token c.at_event-after.result.0
    (event_idle _ _ c.at_event-after.ensures) c.self.invariant

pub returns-clause-slots : goal.returns-clause-slots
returns-clause-slots g c =
    let slots = c.self.inside.slots.items in
    let token = c.args.token in
    let found = c.in_ok-slot.ensures in
    let here = taken slots token c.in_ok-slot.slot.now c.replace.result found.item.0 found.value
    c.replace.ensures.value in
    ap (λ (r : Slot g.row.T.Denot × Option g.row.T.Denot). (r.1, slice_set slots token r.0)) c.at_event-after.ensures
    ∙ at_slot (λ slot. event_at slot token) token slots c.args.self.now.slots c.replace.result
    (same_slots c.self.view_is) here
