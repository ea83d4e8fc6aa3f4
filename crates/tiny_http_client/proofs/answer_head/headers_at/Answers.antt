use Rattle.std.proofs.Common.{◌≡◌, sym, ◌∙◌, subst, rules, IsAscii}
use Rattle.tiny_http_client.proofs.AnswerHeadLemmas.{ascii-at}
use Rattle.tiny_http_client.proofs.answer_head.headers_at.Goals as goal

pub returns-in_default-clause-malformed : goal.returns-in_default-clause-malformed
returns-in_default-clause-malformed c = λ _ all.
    let field : c.in_ok-field.field.items ≡ c.of.result.now = search rules in
    let value : c.in_ok-value.value.items ≡ c.of-in-loop-span.result.now = search rules in
    let both = ascii-at c.args.bytes.now c.args.spans.now c.loop-span.span-index (record { name = record { start = 0; end = 0 }; value = record { start = 0; end = 0 } }) c.loop-span-test.true all in
    let no = c.in_default.ensures.succeeds.1 (subst IsAscii (sym c.of.ensures ∙ sym field) both.0, subst IsAscii (sym c.of-in-loop-span.ensures ∙ sym value) both.1) in
    absurd (cc)
