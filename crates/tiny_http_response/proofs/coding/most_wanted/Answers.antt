use Rattle.std.proofs.Common.{rules, ◌≡◌, sym, ◌∙◌, length, Some, lit<, arith, inl, inr}
use Rattle.std.proofs.lemmas.Iterator.Consumers.{YieldsList-turn, YieldsList-end, YieldsList-at}
use Rattle.std.proofs.lemmas.Iterator.Splits.{YieldsList-from_str_split}
use Rattle.std.proofs.lemmas.List.{at_drop_all, length_push}
use Rattle.tiny_http_text.specs.Bytes.{parts, comma}
use Rattle.tiny_http_text.specs.QualityReading.{qualities}
use Rattle.tiny_http_response.specs.Coding.{coding_named}
use Rattle.tiny_http_response.proofs.AskedLemmas.{wanted_in, take-here, pass-here, wanted-last}
use Rattle.tiny_http_response.proofs.coding.most_wanted.Goals as goal
use Rattle.tiny_http_response.proofs.coding.most_wanted.Goals.{else-quality-greatest-via-else-quality-greatest, else-quality-greatest-via-then-quality-greatest+in-None-1}

pub loop-text-preserved-in-loop-text : goal.loop-text-preserved-in-loop-text
loop-text-preserved-in-loop-text c =
    let road = YieldsList-at c.into_iter-text-iterator.ensures.into_iter_gives
    (YieldsList-from_str_split 44 c.args.value.now (lit< tt) c.split-text-items.ensures.text c.split-text-items.ensures.has_more c.split-text-items.ensures.pattern)
    in
    let t = YieldsList-turn road c.loop-text.yielded _ c.loop-text.yielded_by _ _ c.in-Some.text c.in-Some.is c.next.ensures.steps in
    let n = length_push c.loop-text.yielded c.in-Some.text in
    let names : Some c.in-Some-coding_named.coding ≡ coding_named c.parse_element-quality.result.0.now = c.in-Some-coding_named.ensures in
    rw n (take-here c.loop-text.wanted c.loop-text.greatest (parts comma c.args.value.now) (length c.loop-text.yielded) c.in-Some.text.now _ c.in-Some-coding_named.coding t
    c.parse_element-quality.ensures.computed names c.if-quality-greatest.true ∙ c.loop-text.invariant)

pub loop-text-preserved : goal.loop-text-preserved
loop-text-preserved c =
    let road = YieldsList-at c.into_iter-text-iterator.ensures.into_iter_gives
    (YieldsList-from_str_split 44 c.args.value.now (lit< tt) c.split-text-items.ensures.text c.split-text-items.ensures.has_more c.split-text-items.ensures.pattern)
    in
    let t = YieldsList-turn road c.loop-text.yielded _ c.loop-text.yielded_by _ _ c.in-Some.text c.in-Some.is c.next.ensures.steps in
    let n = length_push c.loop-text.yielded c.in-Some.text in
    let pass = pass-here c.loop-text.wanted c.loop-text.greatest (parts comma c.args.value.now) (length c.loop-text.yielded) c.in-Some.text.now _ t c.parse_element-quality.ensures.computed in
    rw n (pass (elim c.else-quality-greatest.branch [
      | else-quality-greatest-via-else-quality-greatest w ↦ inl w.if-quality-greatest.false
      | else-quality-greatest-via-then-quality-greatest+in-None-1 w ↦ inr (search rules)
    ]) ∙ c.loop-text.invariant)

pub returns : goal.returns
unfolding qualities
returns c =
    let road = YieldsList-at c.into_iter-text-iterator.ensures.into_iter_gives
    (YieldsList-from_str_split 44 c.args.value.now (lit< tt) c.split-text-items.ensures.text c.split-text-items.ensures.has_more c.split-text-items.ensures.pattern)
    in
    let t = YieldsList-end road c.loop-text.yielded _ c.loop-text.yielded_by _ _ c.in-None.is c.next.ensures.steps in
    sym (at_drop_all (wanted_in c.loop-text.wanted c.loop-text.greatest) (parts comma c.args.value.now) (length c.loop-text.yielded) (omega (arith, t.1))
    ∙ wanted-last c.loop-text.wanted c.loop-text.greatest) ∙ c.loop-text.invariant
