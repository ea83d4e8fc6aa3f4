use Rattle.std.proofs.Common.{◌≡◌, Some, slice_get}
use Rattle.tiny_http_waiting.proofs.WaitTableLemmas.{taken, wait_back, wait_stored, wait_answer, lowered}
use Rattle.tiny_http_waiting.proofs.WaitTableLemmas.{earlier_first, earlier_second, same_slots}
use Rattle.tiny_http_waiting.proofs.wait_table.WaitTable.wait.Goals as goal

pub invariant_of-self-then-is_none : goal.invariant_of-self-then-is_none
invariant_of-self-then-is_none g c =
    let slots = c.self.inside.slots.items in
    let earlier = c.earlier in
    wait_stored slots earlier.result c.args.token c.args.item c.args.until c.replace.result c.at_wait-after.result
    c.at_wait-after.ensures c.if-is_none.ensures
    (earlier_second c.self.inside.earliest c.args.until earlier.result earlier.ensures)
    (lowered c.self.inside.earliest slots earlier.result
    (earlier_first c.self.inside.earliest c.args.until earlier.result earlier.ensures) c.self.invariant)

pub invariant_of-self-else-is_none : goal.invariant_of-self-else-is_none
invariant_of-self-else-is_none g c =
    let slots = c.self.inside.slots.items in
    let found = c.in-Some.ensures in
    let here : slice_get slots c.args.token ≡ Some c.replace.result =
    taken slots c.args.token c.in-Some.slot.now c.replace.result found.item.0 found.value c.replace.ensures.value in
    wait_back c.self.inside.earliest slots c.args.token c.args.item c.args.until c.replace.result c.at_wait-after.result
    here c.at_wait-after.ensures c.if-is_none.ensures c.self.invariant

pub returns-then-is_none-clause-slots : goal.returns-then-is_none-clause-slots
returns-then-is_none-clause-slots g c =
    let slots = c.self.inside.slots.items in
    let found = c.in-Some.ensures in
    let here : slice_get slots c.args.token ≡ Some c.replace.result =
    taken slots c.args.token c.in-Some.slot.now c.replace.result found.item.0 found.value c.replace.ensures.value in
    wait_answer slots c.args.self.now.slots c.args.token c.args.item c.args.until c.replace.result
    c.at_wait-after.result (same_slots c.self.view_is) here c.at_wait-after.ensures

pub returns-else-is_none-clause-slots : goal.returns-else-is_none-clause-slots
returns-else-is_none-clause-slots g c =
    let slots = c.self.inside.slots.items in
    let found = c.in-Some.ensures in
    let here : slice_get slots c.args.token ≡ Some c.replace.result =
    taken slots c.args.token c.in-Some.slot.now c.replace.result found.item.0 found.value c.replace.ensures.value in
    wait_answer slots c.args.self.now.slots c.args.token c.args.item c.args.until c.replace.result
    c.at_wait-after.result (same_slots c.self.view_is) here c.at_wait-after.ensures
