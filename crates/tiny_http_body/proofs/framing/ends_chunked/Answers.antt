use Rattle.std.proofs.Common.{rules, ◌≡◌, ◌∙◌, length, lit<, arith}
use Rattle.std.specs.Prelude.{codes}
use Rattle.std.proofs.lemmas.Iterator.Consumers.{YieldsList-turn, YieldsList-end, YieldsList-at}
use Rattle.std.proofs.lemmas.Iterator.Splits.{YieldsList-from_str_split}
use Rattle.std.proofs.lemmas.List.{length_push}
use Rattle.tiny_http_text.specs.Bytes.{is_blank, trimmed, parts, comma}
use Rattle.tiny_http_head.specs.Common.{same_name}
use Rattle.tiny_http_body.proofs.StrictLemmas.{chunked-step, chunked-last}
use Rattle.tiny_http_body.proofs.framing.ends_chunked.Goals as goal

pub loop-text-preserved : goal.loop-text-preserved
loop-text-preserved c =
    let road = YieldsList-at c.into_iter-text-iterator.ensures.into_iter_gives
    (YieldsList-from_str_split 44 c.args.value.now (lit< tt) c.split-text-items.ensures.text c.split-text-items.ensures.has_more c.split-text-items.ensures.pattern)
    in
    let t = YieldsList-turn road c.loop-text.yielded _ c.loop-text.yielded_by _ _ c.in-Some.text c.in-Some.is c.next.ensures.steps in
    let n = length_push c.loop-text.yielded c.in-Some.text in
    let named : c.eq_ignore_ascii_case-is_chunked.result ≡ same_name (trimmed is_blank c.in-Some.text.now) (codes "chunked") = search (rules, c.trim.ensures, c.eq_ignore_ascii_case-is_chunked.ensures.test) in
    rw (n, named) (chunked-step c.loop-text.is_chunked (parts comma c.args.value.now) (length c.loop-text.yielded) c.in-Some.text.now t ∙ c.loop-text.invariant)

pub returns : goal.returns
returns c =
    let road = YieldsList-at c.into_iter-text-iterator.ensures.into_iter_gives
    (YieldsList-from_str_split 44 c.args.value.now (lit< tt) c.split-text-items.ensures.text c.split-text-items.ensures.has_more c.split-text-items.ensures.pattern)
    in
    let t = YieldsList-end road c.loop-text.yielded _ c.loop-text.yielded_by _ _ c.in-None.is c.next.ensures.steps in
    chunked-last c.loop-text.is_chunked (parts comma c.args.value.now) (length c.loop-text.yielded) (omega (arith, t.1)) ∙ c.loop-text.invariant
