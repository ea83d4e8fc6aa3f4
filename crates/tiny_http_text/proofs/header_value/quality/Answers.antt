use Rattle.std.proofs.Common.{sym, ap, ◌∙◌, ◌*◌, ℕ, Option, Some, None, add-zero}
use Rattle.tiny_http_text.specs.QualityReading.{both, short_number, thousandths}
use Rattle.tiny_http_text.proofs.QualityReadingLemmas.{quality-whole, quality-parted}
use Rattle.tiny_http_text.proofs.header_value.quality.Goals as goal

pub returns-in_err-short_number-in-None : goal.returns-in_err-short_number-in-None
returns-in_err-short_number-in-None c =
    c.from_residual.ensures ∙ ap (λ (u : Option ℕ). both u (Some 0)) c.in_err-short_number-in-None.ensures.value ∙ sym (quality-whole c.args.text.now c.in-None.ensures.none)

pub returns-in_err-short_number-in-Some : goal.returns-in_err-short_number-in-Some
returns-in_err-short_number-in-Some c =
    let f = c.in-Some.fraction.now in
    c.from_residual-in_err-short_number-in-Some.ensures
    ∙ ap (λ (u : Option ℕ). both u (thousandths f)) c.in_err-short_number-in-Some.ensures.value
    ∙ sym (quality-parted c.args.text.now c.in-Some.whole.now f c.in-Some.ensures.some.0 c.in-Some.ensures.some.1)

pub returns-in_err-thousandths-in-Some : goal.returns-in_err-thousandths-in-Some
returns-in_err-thousandths-in-Some c =
    let f = c.in-Some.fraction.now in
    c.from_residual-in_err-thousandths-in-Some.ensures
    ∙ ap (λ (u : Option ℕ). both u None) c.in_ok-short_number-in-Some.ensures.value
    ∙ ap (λ (t : Option ℕ). both (short_number c.in-Some.whole.now) t) c.in_err-thousandths-in-Some.ensures.value
    ∙ sym (quality-parted c.args.text.now c.in-Some.whole.now f c.in-Some.ensures.some.0 c.in-Some.ensures.some.1)

pub returns-in_ok-short_number-in-None : goal.returns-in_ok-short_number-in-None
returns-in_ok-short_number-in-None c =
    let n = c.in_ok-short_number-in-None.field-0 in
    ap Some (sym (add-zero (n * 1000)))
    ∙ ap (λ (u : Option ℕ). both u (Some 0)) c.in_ok-short_number-in-None.ensures.value
    ∙ sym (quality-whole c.args.text.now c.in-None.ensures.none)

pub returns-in_ok-thousandths-in-Some : goal.returns-in_ok-thousandths-in-Some
returns-in_ok-thousandths-in-Some c =
    let f = c.in-Some.fraction.now in
    ap (λ (t : Option ℕ). both (Some c.in_ok-short_number-in-Some.field-0) t) c.in_ok-thousandths-in-Some.ensures.value
    ∙ ap (λ (u : Option ℕ). both u (thousandths f)) c.in_ok-short_number-in-Some.ensures.value
    ∙ sym (quality-parted c.args.text.now c.in-Some.whole.now f c.in-Some.ensures.some.0 c.in-Some.ensures.some.1)
