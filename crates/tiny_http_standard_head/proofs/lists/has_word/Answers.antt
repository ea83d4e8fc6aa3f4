use Rattle.std.proofs.Common.{◌≡◌, true, false, sym, ap, ◌∙◌, length, lit<, arith}
use Rattle.std.specs.List.{list_any}
use Rattle.std.proofs.lemmas.Iterator.Consumers.{YieldsList-turn, YieldsList-end, YieldsList-at}
use Rattle.std.proofs.lemmas.Iterator.Splits.{YieldsList-from_str_split}
use Rattle.std.proofs.lemmas.List.{length_push}
use Rattle.httparse.specs.Grammar.{is_ows}
use Rattle.tiny_http_text.specs.Bytes.{trimmed, parts, comma}
use Rattle.tiny_http_head.specs.Common.{same_name}
use Rattle.tiny_http_standard_head.proofs.ListsLemmas.{any-passed, any-found, elements-end}
use Rattle.tiny_http_standard_head.proofs.lists.has_word.Goals as goal

pub loop-text-preserved : goal.loop-text-preserved
loop-text-preserved c =
    let road = YieldsList-at c.into_iter-text-iterator.ensures.into_iter_gives
    (YieldsList-from_str_split 44 c.args.value.now (lit< tt) c.split-text-items.ensures.text c.split-text-items.ensures.has_more c.split-text-items.ensures.pattern)
    in
    let t = YieldsList-turn road c.loop-text.yielded _ c.loop-text.yielded_by _ _ c.in-Some.text c.in-Some.is c.next.ensures.steps in
    let n = length_push c.loop-text.yielded c.in-Some.text in
    let passes : same_name (trimmed is_ows c.in-Some.text.now) c.args.word.now ≡ false = ap (λ element. same_name element c.args.word.now) (sym c.trim.ensures) ∙ sym c.is_word.ensures ∙ c.if-is_word.false in
    rw n (any-passed (λ element. same_name element c.args.word.now) (parts comma c.args.value.now) (length c.loop-text.yielded) c.in-Some.text.now t passes ∙ c.loop-text.invariant)

pub returns-then-is_word : goal.returns-then-is_word
returns-then-is_word c =
    let road = YieldsList-at c.into_iter-text-iterator.ensures.into_iter_gives
    (YieldsList-from_str_split 44 c.args.value.now (lit< tt) c.split-text-items.ensures.text c.split-text-items.ensures.has_more c.split-text-items.ensures.pattern)
    in
    let t = YieldsList-turn road c.loop-text.yielded _ c.loop-text.yielded_by _ _ c.in-Some.text c.in-Some.is c.next.ensures.steps in
    let passes : same_name (trimmed is_ows c.in-Some.text.now) c.args.word.now ≡ true = ap (λ element. same_name element c.args.word.now) (sym c.trim.ensures) ∙ sym c.is_word.ensures ∙ c.if-is_word.true in
    any-found (λ element. same_name element c.args.word.now) (parts comma c.args.value.now) (length c.loop-text.yielded) c.in-Some.text.now t passes ∙ c.loop-text.invariant

pub returns : goal.returns
returns c =
    let road = YieldsList-at c.into_iter-text-iterator.ensures.into_iter_gives
    (YieldsList-from_str_split 44 c.args.value.now (lit< tt) c.split-text-items.ensures.text c.split-text-items.ensures.has_more c.split-text-items.ensures.pattern)
    in
    let t = YieldsList-end road c.loop-text.yielded _ c.loop-text.yielded_by _ _ c.in-None.is c.next.ensures.steps in
    sym (elements-end (list_any (λ element. same_name element c.args.word.now)) (parts comma c.args.value.now) (length c.loop-text.yielded) (omega (arith, t.1))) ∙ c.loop-text.invariant
