use Rattle.std.proofs.Common.{◌≡◌, true, false, sym, ap, ◌∙◌, length, lit<, arith}
use Rattle.std.specs.List.{list_any}
use Rattle.std.proofs.lemmas.Iterator.Consumers.{YieldsList-turn, YieldsList-end, YieldsList-at}
use Rattle.std.proofs.lemmas.Iterator.Splits.{YieldsList-from_str_split}
use Rattle.std.proofs.lemmas.List.{length_push}
use Rattle.httparse.specs.Grammar.{is_ows}
use Rattle.tiny_http_text.specs.Bytes.{trimmed, parts, comma}
use Rattle.tiny_http_standard_head.specs.ValidationReading.{is_wanted}
use Rattle.tiny_http_standard_head.proofs.ListsLemmas.{any-passed, any-found, elements-end}
use Rattle.tiny_http_standard_head.proofs.validation.has_in.Goals as goal

pub loop-text-preserved : goal.loop-text-preserved
loop-text-preserved c =
    let road = YieldsList-at c.into_iter-text-iterator.ensures.into_iter_gives
    (YieldsList-from_str_split 44 c.args.value.now (lit< tt) c.split-text-items.ensures.text c.split-text-items.ensures.has_more c.split-text-items.ensures.pattern)
    in
    let t = YieldsList-turn road c.loop-text.yielded _ c.loop-text.yielded_by _ _ c.in-Some.text c.in-Some.is c.next.ensures.steps in
    let n = length_push c.loop-text.yielded c.in-Some.text in
    let passes : is_wanted c.args.wanted (trimmed is_ows c.in-Some.text.now) ≡ false = ap (is_wanted c.args.wanted) (sym c.trim.ensures) ∙ sym c.is_wanted.ensures ∙ c.if-is_wanted.false in
    rw n (any-passed (is_wanted c.args.wanted) (parts comma c.args.value.now) (length c.loop-text.yielded) c.in-Some.text.now t passes ∙ c.loop-text.invariant)

pub returns-then-is_wanted : goal.returns-then-is_wanted
returns-then-is_wanted c =
    let road = YieldsList-at c.into_iter-text-iterator.ensures.into_iter_gives
    (YieldsList-from_str_split 44 c.args.value.now (lit< tt) c.split-text-items.ensures.text c.split-text-items.ensures.has_more c.split-text-items.ensures.pattern)
    in
    let t = YieldsList-turn road c.loop-text.yielded _ c.loop-text.yielded_by _ _ c.in-Some.text c.in-Some.is c.next.ensures.steps in
    let passes : is_wanted c.args.wanted (trimmed is_ows c.in-Some.text.now) ≡ true = ap (is_wanted c.args.wanted) (sym c.trim.ensures) ∙ sym c.is_wanted.ensures ∙ c.if-is_wanted.true in
    any-found (is_wanted c.args.wanted) (parts comma c.args.value.now) (length c.loop-text.yielded) c.in-Some.text.now t passes ∙ c.loop-text.invariant

pub returns : goal.returns
returns c =
    let road = YieldsList-at c.into_iter-text-iterator.ensures.into_iter_gives
    (YieldsList-from_str_split 44 c.args.value.now (lit< tt) c.split-text-items.ensures.text c.split-text-items.ensures.has_more c.split-text-items.ensures.pattern)
    in
    let t = YieldsList-end road c.loop-text.yielded _ c.loop-text.yielded_by _ _ c.in-None.is c.next.ensures.steps in
    sym (elements-end (list_any (is_wanted c.args.wanted)) (parts comma c.args.value.now) (length c.loop-text.yielded) (omega (arith, t.1))) ∙ c.loop-text.invariant
