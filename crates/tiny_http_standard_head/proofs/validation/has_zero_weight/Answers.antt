use Rattle.std.proofs.Common.{◌≡◌, true, false, sym, ap, ◌∙◌, length, rules}
use Rattle.std.proofs.Math.Nat.{le_of_eq}
use Rattle.std.specs.Prelude.{◌==◌}
use Rattle.std.proofs.lemmas.Iterator.Consumers.{YieldsList-turn, YieldsList-end, YieldsList-at}
use Rattle.std.proofs.lemmas.Iterator.Splits.{YieldsList-from_slice_split}
use Rattle.std.proofs.lemmas.List.{length_push}
use Rattle.httparse.specs.Grammar.{is_ows}
use Rattle.tiny_http_text.specs.Bytes.{trimmed, parts, semicolon}
use Rattle.tiny_http_standard_head.specs.Te.{is_weight, weight_value, is_zero, has_zero_weight}
use Rattle.tiny_http_standard_head.proofs.ListsLemmas.{elements-end}
use Rattle.tiny_http_standard_head.proofs.TeLemmas.{weight-passed, weight-found}
use Rattle.tiny_http_standard_head.proofs.validation.has_zero_weight.Goals as goal

pub loop-text-preserved : goal.loop-text-preserved
loop-text-preserved c =
    let road = YieldsList-at c.into_iter-text-iterator.ensures.into_iter_gives
    (YieldsList-from_slice_split _ (λ b. b == 59) c.args.parameters.now c.split-text-items.ensures.rest c.split-text-items.ensures.done c.split-text-items.ensures.closure (search rules))
    in
    let t = YieldsList-turn road c.loop-text.yielded _ c.loop-text.yielded_by _ _ c.in-Some.text c.in-Some.is c.next.ensures.steps in
    let n = length_push c.loop-text.yielded c.in-Some.text in
    let passes : is_weight (trimmed is_ows c.in-Some.text.now) ≡ false = ap is_weight (sym c.trim_space_and_tab.ensures) ∙ c.in_default.ensures.none in
    rw n (weight-passed (parts semicolon c.args.parameters.now) (length c.loop-text.yielded) c.in-Some.text.now t passes ∙ c.loop-text.invariant)

pub returns-in-Some-weight_value : goal.returns-in-Some-weight_value
returns-in-Some-weight_value c =
    let road = YieldsList-at c.into_iter-text-iterator.ensures.into_iter_gives
    (YieldsList-from_slice_split _ (λ b. b == 59) c.args.parameters.now c.split-text-items.ensures.rest c.split-text-items.ensures.done c.split-text-items.ensures.closure (search rules))
    in
    let t = YieldsList-turn road c.loop-text.yielded _ c.loop-text.yielded_by _ _ c.in-Some.text c.in-Some.is c.next.ensures.steps in
    let weighs = c.in-Some-weight_value.ensures.some in
    let found : is_weight (trimmed is_ows c.in-Some.text.now) ≡ true = ap is_weight (sym c.trim_space_and_tab.ensures) ∙ weighs.0 in
    c.is_zero.ensures ∙ ap is_zero (weighs.1 ∙ ap weight_value c.trim_space_and_tab.ensures)
    ∙ weight-found (parts semicolon c.args.parameters.now) (length c.loop-text.yielded) c.in-Some.text.now t found ∙ c.loop-text.invariant

pub returns : goal.returns
returns c =
    let road = YieldsList-at c.into_iter-text-iterator.ensures.into_iter_gives
    (YieldsList-from_slice_split _ (λ b. b == 59) c.args.parameters.now c.split-text-items.ensures.rest c.split-text-items.ensures.done c.split-text-items.ensures.closure (search rules))
    in
    let t = YieldsList-end road c.loop-text.yielded _ c.loop-text.yielded_by _ _ c.in-None.is c.next.ensures.steps in
    sym (elements-end has_zero_weight (parts semicolon c.args.parameters.now) (length c.loop-text.yielded) (le_of_eq (sym t.1))) ∙ c.loop-text.invariant
