use Rattle.std.proofs.Common.{◌≡◌, sym, ap, ◌∙◌, ◌∷◌, [], Ok, length, lit<, arith}
use Rattle.std.proofs.lemmas.Iterator.Consumers.{YieldsList-turn, YieldsList-end, YieldsList-at}
use Rattle.std.proofs.lemmas.Iterator.Splits.{YieldsList-from_str_split}
use Rattle.std.proofs.lemmas.List.{length_push}
use Rattle.tiny_http_text.specs.Bytes.{trimmed, parts, comma}
use Rattle.tiny_http_head.specs.Lists.{is_left_out}
use Rattle.tiny_http_head.specs.ContentLength.{lengths_after}
use Rattle.tiny_http_head.proofs.ListsLemmas.{elements-end}
use Rattle.tiny_http_head.proofs.ContentLengthLemmas.{lengths-step, lengths-stop, nothing-after}
use Rattle.tiny_http_head.proofs.content_length.lengths_in.Goals as goal

pub loop-text-preserved : goal.loop-text-preserved
loop-text-preserved c =
    let road = YieldsList-at c.into_iter-text-iterator.ensures.into_iter_gives
    (YieldsList-from_str_split 44 c.args.value.now (lit< tt) c.split-text-items.ensures.text c.split-text-items.ensures.has_more c.split-text-items.ensures.pattern)
    in
    let t = YieldsList-turn road c.loop-text.yielded _ c.loop-text.yielded_by _ _ c.in-Some.text c.in-Some.is c.next.ensures.steps in
    let n = length_push c.loop-text.yielded c.in-Some.text in
    let p = is_left_out c.args.blanks in
    let text = c.in-Some.text.now in
    let is : lengths_after c.loop-text.found (trimmed p text ∷ []) ≡ Ok c.in-Ok.length =
    ap (λ x. lengths_after c.loop-text.found (trimmed p x ∷ [])) (sym c.as_bytes.ensures.value) ∙ ap (λ x. lengths_after c.loop-text.found (x ∷ [])) (sym c.trim.ensures) ∙ sym c.length_after.ensures ∙ c.in-Ok.is in
    rw n (lengths-step p c.loop-text.found c.in-Ok.length (parts comma c.args.value.now) (length c.loop-text.yielded) text t is ∙ c.loop-text.invariant)

pub returns-in-Err : goal.returns-in-Err
returns-in-Err c =
    let road = YieldsList-at c.into_iter-text-iterator.ensures.into_iter_gives
    (YieldsList-from_str_split 44 c.args.value.now (lit< tt) c.split-text-items.ensures.text c.split-text-items.ensures.has_more c.split-text-items.ensures.pattern)
    in
    let t = YieldsList-turn road c.loop-text.yielded _ c.loop-text.yielded_by _ _ c.in-Some.text c.in-Some.is c.next.ensures.steps in
    let p = is_left_out c.args.blanks in
    let text = c.in-Some.text.now in
    lengths-stop p c.loop-text.found c.in-Err.fault (parts comma c.args.value.now) (length c.loop-text.yielded) text t
    (ap (λ x. lengths_after c.loop-text.found (trimmed p x ∷ [])) (sym c.as_bytes.ensures.value) ∙ ap (λ x. lengths_after c.loop-text.found (x ∷ [])) (sym c.trim.ensures) ∙ sym c.length_after.ensures ∙ c.in-Err.is) ∙ c.loop-text.invariant

pub returns : goal.returns
returns c =
    let road = YieldsList-at c.into_iter-text-iterator.ensures.into_iter_gives
    (YieldsList-from_str_split 44 c.args.value.now (lit< tt) c.split-text-items.ensures.text c.split-text-items.ensures.has_more c.split-text-items.ensures.pattern)
    in
    let t = YieldsList-end road c.loop-text.yielded _ c.loop-text.yielded_by _ _ c.in-None.is c.next.ensures.steps in
    nothing-after c.loop-text.found ∙ sym (elements-end (is_left_out c.args.blanks) (lengths_after c.loop-text.found) (parts comma c.args.value.now) (length c.loop-text.yielded) (omega (arith, t.1))) ∙ c.loop-text.invariant
