use Rattle.std.proofs.Common.{◌≡◌, List, Some, slice_get, refl, sym, subst, ◌∙◌}
use Rattle.tiny_http_waiting.specs.declared.wait_table.Slot.{Slot}
use Rattle.tiny_http_waiting.specs.WaitTable.{NoWaitEndsBefore}
use Rattle.tiny_http_waiting.proofs.WaitTableLemmas.{after_set, after_push, enters_free, enters_next, served_idle}
use Rattle.tiny_http_waiting.proofs.WaitTableLemmas.{taken, same_slots}
use Rattle.tiny_http_waiting.proofs.wait_table.WaitTable.enter.Goals as goal

pub invariant_of-self : goal.invariant_of-self
invariant_of-self g c =
    after_set c.self.inside.earliest c.self.inside.slots.items c.in-Some.token _ (served_idle _) c.self.invariant

pub returns-clause-slots : goal.returns-clause-slots
returns-clause-slots g c =
    let slots = c.self.inside.slots.items in
    let found = c.in-Some-Free.ensures.lookup in
    let here = taken c.deref.result.now c.in-Some.token c.in-Some-Free.field-0.now c.in-Some-Free.field-0.now
    found.0 found.1 refl in
    enters_free slots c.args.self.now.slots c.in-Some.token c.in-Some-Free.field-0.now (same_slots c.self.view_is)
    (subst (λ (l : List (Slot g.row.T.Denot)). slice_get l c.in-Some.token ≡ Some c.in-Some-Free.field-0.now)
    c.deref.ensures.value here) c.in-Some-Free.field-0-is

pub invariant_of-self-2 : goal.invariant_of-self-2
invariant_of-self-2 g c =
    subst (λ (l : List (Slot g.row.T.Denot)). NoWaitEndsBefore c.self.inside.earliest l)
    (sym c.in_ok-push.ensures.items)
    (after_push c.self.inside.earliest c.self.inside.slots.items _ (served_idle _) c.self.invariant)

pub returns-2-clause-slots : goal.returns-2-clause-slots
returns-2-clause-slots g c =
    enters_next c.self.inside.slots.items c.args.self.now.slots c.len-token.result c.push.new.self.items
    (same_slots c.self.view_is)
    (c.len-token.ensures ∙ c.self.inside.slots.ok.0) c.in_ok-push.ensures.items
