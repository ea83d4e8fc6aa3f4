use Rattle.std.proofs.Common.{Bool, ◌&&◌, sym, ap, ◌∙◌}
use Rattle.httparse.specs.Grammar.{is_token}
use Rattle.tiny_http_standard_head.proofs.ValidationLemmas.{one-token, two-tokens}
use Rattle.tiny_http_standard_head.proofs.validation.is_one_or_two_tokens.Goals as goal

pub returns-in_default : goal.returns-in_default
returns-in_default c = c.is_token.ensures ∙ sym (one-token c.args.text.now c.in_default.ensures.none)

pub returns-then-is_token : goal.returns-then-is_token
returns-then-is_token c =
    let both = two-tokens c.args.text.now c.in-Some.name.now c.in-Some.version.now c.in-Some.ensures.some.0 c.in-Some.ensures.some.1 in
    c.is_token-then-is_token.ensures ∙ sym (both ∙ ap (λ (b : Bool). b && is_token c.in-Some.version.now) (sym c.is_token-2.ensures ∙ c.if-is_token.true))

pub returns-else-is_token : goal.returns-else-is_token
returns-else-is_token c =
    let both = two-tokens c.args.text.now c.in-Some.name.now c.in-Some.version.now c.in-Some.ensures.some.0 c.in-Some.ensures.some.1 in
    c.if-is_token.false ∙ sym (both ∙ ap (λ (b : Bool). b && is_token c.in-Some.version.now) (sym c.is_token-2.ensures ∙ c.if-is_token.false))
