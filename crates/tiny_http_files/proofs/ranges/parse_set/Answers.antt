use Rattle.std.proofs.Common.{◌≡◌, ℕ, List, true, false, sym, ap, ◌∙◌, length, lit<, arith, drop, Option, Some, None, ◌+◌, append-nil}
use Rattle.tiny_http_files.specs.declared.ranges.RangeSpec.{RangeSpec}
use Rattle.std.proofs.lemmas.Iterator.Consumers.{YieldsList-turn, YieldsList-end, YieldsList-at}
use Rattle.std.proofs.lemmas.Iterator.Splits.{YieldsList-from_str_split}
use Rattle.std.proofs.lemmas.List.{length_push}
use Rattle.tiny_http_text.specs.Bytes.{parts}
use Rattle.tiny_http_files.specs.Ranges.{element_specs, both_lists, all_specs}
use Rattle.tiny_http_files.proofs.RangesLemmas.{elements-step, elements-end, refused, appended, nothing-after}
use Rattle.tiny_http_files.proofs.ranges.parse_set.Goals as goal

pub returns-then-not-branch : goal.returns-then-not-branch
returns-then-not-branch c =
    let road = YieldsList-at c.into_iter-element-iterator.ensures.into_iter_gives
    (YieldsList-from_str_split 44 c.args.set.now (lit< tt) c.split-element-items.ensures.text c.split-element-items.ensures.has_more c.split-element-items.ensures.pattern)
    in
    let t = YieldsList-turn road c.loop-element.yielded _ c.loop-element.yielded_by _ _ c.in-Some.element c.in-Some.is c.next.ensures.steps in
    let items = c.loop-element.specs.items in
    let at = length c.loop-element.yielded in
    let same : element_specs c.as_bytes.result.now ≡ element_specs c.in-Some.element.now = ap (λ (x : List ℕ). element_specs x) c.as_bytes.ensures.value in
    let none : element_specs c.in-Some.element.now ≡ None = sym same ∙ refused c.in_ok-add_element.field-0 items c.add_element.new.specs.items (element_specs c.as_bytes.result.now) c.if-not-branch.true c.in_ok-add_element.ensures in
    sym (nothing-after items (element_specs c.in-Some.element.now) (all_specs (drop (at + 1) (parts 44 c.args.set.now))) none)
    ∙ sym (ap (λ (o : Option (List RangeSpec)). both_lists (Some items) o) (elements-step (parts 44 c.args.set.now) at c.in-Some.element.now t))
    ∙ c.loop-element.invariant

pub loop-element-preserved : goal.loop-element-preserved
loop-element-preserved c =
    let road = YieldsList-at c.into_iter-element-iterator.ensures.into_iter_gives
    (YieldsList-from_str_split 44 c.args.set.now (lit< tt) c.split-element-items.ensures.text c.split-element-items.ensures.has_more c.split-element-items.ensures.pattern)
    in
    let t = YieldsList-turn road c.loop-element.yielded _ c.loop-element.yielded_by _ _ c.in-Some.element c.in-Some.is c.next.ensures.steps in
    let n = length_push c.loop-element.yielded c.in-Some.element in
    let items = c.loop-element.specs.items in
    let at = length c.loop-element.yielded in
    let same : element_specs c.as_bytes.result.now ≡ element_specs c.in-Some.element.now = ap (λ (x : List ℕ). element_specs x) c.as_bytes.ensures.value in
    let rest = all_specs (drop (at + 1) (parts 44 c.args.set.now)) in
    rw n (appended c.in_ok-add_element.field-0 items c.add_element.new.specs.items (element_specs c.as_bytes.result.now) rest c.if-not-branch.false c.in_ok-add_element.ensures
    ∙ ap (λ (o : Option (List RangeSpec)). both_lists (Some items) (both_lists o rest)) same
    ∙ sym (ap (λ (o : Option (List RangeSpec)). both_lists (Some items) o) (elements-step (parts 44 c.args.set.now) at c.in-Some.element.now t))
    ∙ c.loop-element.invariant)

pub returns : goal.returns
returns c =
    let road = YieldsList-at c.into_iter-element-iterator.ensures.into_iter_gives
    (YieldsList-from_str_split 44 c.args.set.now (lit< tt) c.split-element-items.ensures.text c.split-element-items.ensures.has_more c.split-element-items.ensures.pattern)
    in
    let t = YieldsList-end road c.loop-element.yielded _ c.loop-element.yielded_by _ _ c.in-None.is c.next.ensures.steps in
    ap (λ (x : List RangeSpec). Some x) (sym (append-nil c.loop-element.specs.items))
    ∙ sym (ap (λ (o : Option (List RangeSpec)). both_lists (Some c.loop-element.specs.items) o) (elements-end (parts 44 c.args.set.now) (length c.loop-element.yielded) (omega (arith, t.1))))
    ∙ c.loop-element.invariant
