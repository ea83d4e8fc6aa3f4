use Rattle.std.proofs.Common.{rules, ◌≡◌, ◌∙◌, arith}
use Rattle.tiny_http_standard_head.specs.Lines.{percent_encoded}
use Rattle.tiny_http_standard_head.proofs.LinesLemmas.{encoded-ascii, encoded-is_ascii, all-encoded}
use Rattle.tiny_http_standard_head.proofs.lines.percent_encoded.Goals as goal

pub returns-then-are_ascii : goal.returns-then-are_ascii
returns-then-are_ascii c = rw (encoded-ascii c.args.value.now (search rules)) c.owned.ensures.text

pub owned-requires-2 : goal.owned-requires-2
owned-requires-2 c =
    let same : c.as_slice.result.now ≡ percent_encoded c.args.value.now = c.as_slice.ensures.value ∙ all-encoded c.loop-b.bytes.items c.args.value.now c.loop-b.b-index c.loop-b-test.false c.loop-b.invariant in
    rw same (encoded-is_ascii c.args.value.now (λ i. omega (arith, c.type_inv.value i)))
