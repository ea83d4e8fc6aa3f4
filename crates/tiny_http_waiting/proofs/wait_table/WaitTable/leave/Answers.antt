use Rattle.std.proofs.Common.{◌≡◌, slice_set, ap, ◌∙◌}
use Rattle.tiny_http_waiting.specs.WaitTable.{leave_at}
use Rattle.tiny_http_waiting.proofs.WaitTableLemmas.{after_set, at_slot, free_set, pair, taken, same_slots}
use Rattle.tiny_http_waiting.proofs.wait_table.WaitTable.leave.Goals as goal
use Rattle.tiny_http_waiting.proofs.wait_table.WaitTable.leave.Goals.{then-not-is_free, else-not-is_free}

pub invariant_of-self-then-not-is_free : goal.invariant_of-self-then-not-is_free
invariant_of-self-then-not-is_free g c =
    after_set c.self.inside.earliest c.self.inside.slots.items c.args.token _ (free_set c.replace-before.ensures.after)
    c.self.invariant

pub returns-clause-slots : goal.returns-clause-slots
returns-clause-slots g c =
    let slots = c.self.inside.slots.items in
    let token = c.args.token in
    let before = c.replace-before in
    let found = c.in_ok-slot.ensures in
    let set : c.if-not-is_free.self.slots ≡ slice_set slots token before.new.dest =
    elim c.if-not-is_free.branch [
      | then-not-is_free w ↦ same_slots w.self-is
      | else-not-is_free w ↦ same_slots w.self-is
    ] in
    let here = taken slots token c.in_ok-slot.slot.now before.result found.item.0 found.value before.ensures.value in
    pair c.into_item.ensures (set ∙ ap (slice_set slots token) before.ensures.after)
    ∙ at_slot (λ slot. leave_at slot token) token slots c.args.self.now.slots before.result
    (same_slots c.self.view_is) here
