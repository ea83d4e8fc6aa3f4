use Rattle.std.proofs.Common.{rules, ap, ◌∙◌, ◌*◌, ◌<◌, ℕ, Some, None, sym, subst, length}
use Rattle.tiny_http_text.proofs.QualityReadingLemmas.{no-thousandths, thousandths-long, scaled, scaled-bound}
use Rattle.tiny_http_text.proofs.header_value.thousandths.Goals as goal

pub returns-then-is_empty-clause-value : goal.returns-then-is_empty-clause-value
returns-then-is_empty-clause-value c = no-thousandths c.args.digits.now (search rules)

pub returns-then-digits-gt3-clause-value : goal.returns-then-digits-gt3-clause-value
returns-then-digits-gt3-clause-value c = thousandths-long c.args.digits.now c.if-digits-gt3.true

pub returns-in_err-short_number-clause-value : goal.returns-in_err-short_number-clause-value
returns-in_err-short_number-clause-value c = c.from_residual.ensures ∙ scaled c.args.digits.now None c.in_err-short_number.ensures.value (search rules) (search rules)

pub returns-clause-value : goal.returns-clause-value
returns-clause-value c =
    ap (λ (k : ℕ). Some (c.in_ok-short_number.field-0 * k)) c.scale.ensures
    ∙ scaled c.args.digits.now (Some c.in_ok-short_number.field-0) c.in_ok-short_number.ensures.value (search rules) (search rules)

pub returns-clause-bound : goal.returns-clause-bound
returns-clause-bound c =
    let P : ℕ → Type 0 = λ k. c.in_ok-short_number.field-0 * k < 1000 in
    subst P (sym c.scale.ensures) (scaled-bound c.in_ok-short_number.field-0 (length c.args.digits.now) (search rules) (search rules) c.in_ok-short_number.ensures.bound.0)
