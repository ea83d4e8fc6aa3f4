use Rattle.std.proofs.Common.{◌≡◌, true, false, sym, ap, ◌∙◌, length, lit<, arith}
use Rattle.std.proofs.lemmas.Iterator.Consumers.{YieldsList-turn, YieldsList-end, YieldsList-at}
use Rattle.std.proofs.lemmas.Iterator.Splits.{YieldsList-from_str_split}
use Rattle.std.proofs.lemmas.List.{length_push}
use Rattle.tiny_http_text.specs.Bytes.{parts}
use Rattle.tiny_http_files.specs.Paths.{is_unsafe_part}
use Rattle.tiny_http_files.proofs.PathsLemmas.{part-passed, part-found, parts-end}
use Rattle.tiny_http_files.proofs.paths.is_unsafe.Goals as goal

pub loop-part-preserved : goal.loop-part-preserved
loop-part-preserved c =
    let road = YieldsList-at c.into_iter-part-iterator.ensures.into_iter_gives
    (YieldsList-from_str_split 47 c.args.path.now (lit< tt) c.split-part-items.ensures.text c.split-part-items.ensures.has_more c.split-part-items.ensures.pattern)
    in
    let t = YieldsList-turn road c.loop-part.yielded _ c.loop-part.yielded_by _ _ c.in-Some.part c.in-Some.is c.next.ensures.steps in
    let n = length_push c.loop-part.yielded c.in-Some.part in
    let passes : is_unsafe_part c.in-Some.part.now ≡ false = sym c.is_unsafe_part.ensures ∙ c.if-is_unsafe_part.false in
    rw n (part-passed is_unsafe_part (parts 47 c.args.path.now) (length c.loop-part.yielded) c.in-Some.part.now t passes ∙ c.loop-part.invariant)

pub returns-then-is_unsafe_part : goal.returns-then-is_unsafe_part
returns-then-is_unsafe_part c =
    let road = YieldsList-at c.into_iter-part-iterator.ensures.into_iter_gives
    (YieldsList-from_str_split 47 c.args.path.now (lit< tt) c.split-part-items.ensures.text c.split-part-items.ensures.has_more c.split-part-items.ensures.pattern)
    in
    let t = YieldsList-turn road c.loop-part.yielded _ c.loop-part.yielded_by _ _ c.in-Some.part c.in-Some.is c.next.ensures.steps in
    let found : is_unsafe_part c.in-Some.part.now ≡ true = sym c.is_unsafe_part.ensures ∙ c.if-is_unsafe_part.true in
    part-found is_unsafe_part (parts 47 c.args.path.now) (length c.loop-part.yielded) c.in-Some.part.now t found ∙ c.loop-part.invariant

pub returns : goal.returns
returns c =
    let road = YieldsList-at c.into_iter-part-iterator.ensures.into_iter_gives
    (YieldsList-from_str_split 47 c.args.path.now (lit< tt) c.split-part-items.ensures.text c.split-part-items.ensures.has_more c.split-part-items.ensures.pattern)
    in
    let t = YieldsList-end road c.loop-part.yielded _ c.loop-part.yielded_by _ _ c.in-None.is c.next.ensures.steps in
    sym (parts-end is_unsafe_part (parts 47 c.args.path.now) (length c.loop-part.yielded) (omega (arith, t.1))) ∙ c.loop-part.invariant
