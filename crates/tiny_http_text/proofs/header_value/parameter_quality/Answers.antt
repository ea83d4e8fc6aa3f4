use Rattle.std.proofs.Common.{sym, ap, ◌∙◌, ◌++◌, ℕ, List, codes}
use Rattle.tiny_http_text.specs.QualityReading.{quality, behind_q, parameter_quality}
use Rattle.tiny_http_text.proofs.QualityReadingLemmas.{not-q, is-q}
use Rattle.tiny_http_text.proofs.header_value.parameter_quality.Goals as goal

pub returns-in_err-padded : goal.returns-in_err-padded
unfolding parameter_quality
returns-in_err-padded c = c.from_residual.ensures ∙ not-q c.trim_front.result.now c.in_err-padded.ensures.cases ∙ ap behind_q c.trim_front.ensures

pub returns : goal.returns
unfolding parameter_quality
returns c =
    let strips = c.in_ok-padded.ensures.cases in
    let core = strips.1.1 ∙ ap (λ (rest : List ℕ). codes "q=" ++ rest) (sym strips.2) in
    c.quality.ensures ∙ ap quality c.trim.ensures ∙ sym (is-q c.trim_front.result.now c.in_ok-padded.padded.now core) ∙ ap behind_q c.trim_front.ensures
