use Rattle.std.proofs.Common.{List, subst}
use Rattle.std.specs.Duration.{as_nanos}
use Rattle.tiny_http_waiting.specs.declared.wait_table.Slot.{Slot}
use Rattle.tiny_http_waiting.specs.WaitTable.{IsOver}
use Rattle.tiny_http_waiting.proofs.WaitTableLemmas.{after_set, served_set, takes_late, same_slots}
use Rattle.tiny_http_waiting.proofs.wait_table.WaitTable.take_late.Goals as goal

pub invariant_of-self-2 : goal.invariant_of-self-2
invariant_of-self-2 g c =
    after_set c.self.inside.earliest c.self.inside.slots.items c.in-Some.token c.replace.new.dest
    (served_set c.replace.ensures.after) c.self.invariant

pub returns-clause-slots : goal.returns-clause-slots
returns-clause-slots g c =
    takes_late (as_nanos c.args.now) c.self.inside.slots.items c.args.self.now.slots c.in-Some.token c.replace.result
    c.replace.new.dest c.into_item.result c.in_ok-item.item (same_slots c.self.view_is)
    (subst (λ (l : List (Slot g.row.T.Denot)). (other : g.row.T.Denot) × IsOver
    (as_nanos c.args.now) l c.in-Some.token other) c.deref.ensures.value c.in-Some.ensures.some)
    c.index_mut.result.now c.index_mut.ensures.value c.replace.ensures.value c.into_item.ensures
    c.in_ok-item.was c.replace.ensures.after
