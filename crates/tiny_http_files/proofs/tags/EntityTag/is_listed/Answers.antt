use Rattle.std.proofs.Common.{◌≡◌, ℕ, List, true, false, sym, ap, ◌∙◌, length, lit<, arith}
use Rattle.std.proofs.lemmas.Iterator.Consumers.{YieldsList-turn, YieldsList-end, YieldsList-at}
use Rattle.std.proofs.lemmas.Iterator.Splits.{YieldsList-from_str_split}
use Rattle.std.proofs.lemmas.List.{length_push}
use Rattle.tiny_http_text.specs.Bytes.{parts, trimmed, is_blank}
use Rattle.tiny_http_files.specs.Tags.{is_match, is_match_within}
use Rattle.tiny_http_files.proofs.PathsLemmas.{part-passed, part-found, parts-end}
use Rattle.tiny_http_files.proofs.tags.EntityTag.is_listed.Goals as goal

pub loop-element-preserved : goal.loop-element-preserved
loop-element-preserved c =
    let road = YieldsList-at c.into_iter-element-iterator.ensures.into_iter_gives
    (YieldsList-from_str_split 44 c.args.value.now (lit< tt) c.split-element-items.ensures.text c.split-element-items.ensures.has_more c.split-element-items.ensures.pattern)
    in
    let t = YieldsList-turn road c.loop-element.yielded _ c.loop-element.yielded_by _ _ c.in-Some.element c.in-Some.is c.next.ensures.steps in
    let n = length_push c.loop-element.yielded c.in-Some.element in
    let cleaned = c.trim.ensures ∙ ap (λ (x : List ℕ). trimmed is_blank x) c.as_bytes.ensures.value in
    let tested = sym (ap (λ (x : List ℕ). is_match c.args.comparison c.args.self.now.is_weak c.args.self.now.opaque.now x) cleaned) in
    let passes : is_match_within c.args.comparison c.args.self.now.is_weak c.args.self.now.opaque.now c.in-Some.element.now ≡ false = tested ∙ sym c.is_match.ensures ∙ c.if-is_match.false in
    rw n (part-passed (is_match_within c.args.comparison c.args.self.now.is_weak c.args.self.now.opaque.now) (parts 44 c.args.value.now) (length c.loop-element.yielded) c.in-Some.element.now t passes ∙ c.loop-element.invariant)

pub returns-then-is_match : goal.returns-then-is_match
returns-then-is_match c =
    let road = YieldsList-at c.into_iter-element-iterator.ensures.into_iter_gives
    (YieldsList-from_str_split 44 c.args.value.now (lit< tt) c.split-element-items.ensures.text c.split-element-items.ensures.has_more c.split-element-items.ensures.pattern)
    in
    let t = YieldsList-turn road c.loop-element.yielded _ c.loop-element.yielded_by _ _ c.in-Some.element c.in-Some.is c.next.ensures.steps in
    let cleaned = c.trim.ensures ∙ ap (λ (x : List ℕ). trimmed is_blank x) c.as_bytes.ensures.value in
    let tested = sym (ap (λ (x : List ℕ). is_match c.args.comparison c.args.self.now.is_weak c.args.self.now.opaque.now x) cleaned) in
    let found : is_match_within c.args.comparison c.args.self.now.is_weak c.args.self.now.opaque.now c.in-Some.element.now ≡ true = tested ∙ sym c.is_match.ensures ∙ c.if-is_match.true in
    part-found (is_match_within c.args.comparison c.args.self.now.is_weak c.args.self.now.opaque.now) (parts 44 c.args.value.now) (length c.loop-element.yielded) c.in-Some.element.now t found ∙ c.loop-element.invariant

pub returns : goal.returns
returns c =
    let road = YieldsList-at c.into_iter-element-iterator.ensures.into_iter_gives
    (YieldsList-from_str_split 44 c.args.value.now (lit< tt) c.split-element-items.ensures.text c.split-element-items.ensures.has_more c.split-element-items.ensures.pattern)
    in
    let t = YieldsList-end road c.loop-element.yielded _ c.loop-element.yielded_by _ _ c.in-None.is c.next.ensures.steps in
    sym (parts-end (is_match_within c.args.comparison c.args.self.now.is_weak c.args.self.now.opaque.now) (parts 44 c.args.value.now) (length c.loop-element.yielded) (omega (arith, t.1))) ∙ c.loop-element.invariant
