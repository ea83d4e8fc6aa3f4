use Rattle.std.proofs.Common.{◌∙◌, lit<}
use Rattle.std.specs.Prelude.{unwrap_or}
use Rattle.std.proofs.Common.{ap, ℕ, Option}
use Rattle.tiny_http_text.specs.Bytes.{semicolon}
use Rattle.tiny_http_text.proofs.QualityReadingLemmas.{first-found, first-later, first-last, utf8-after}
use Rattle.tiny_http_text.proofs.header_value.first_quality.Goals as goal

pub returns-in-Some-parameter_quality : goal.returns-in-Some-parameter_quality
returns-in-Some-parameter_quality c =
    let cut = c.in-Some.ensures.some in
    first-found c.loop-parameter.rest.now c.in-Some.parameter.now c.in-Some.behind.now c.in-Some-parameter_quality.quality cut.0 cut.1 c.in-Some-parameter_quality.ensures
    ∙ c.loop-parameter.invariant.first

pub loop-parameter-preserved : goal.loop-parameter-preserved
loop-parameter-preserved c =
    let cut = c.in-Some.ensures.some in
    record {
      utf8 = utf8-after semicolon c.loop-parameter.rest.now c.in-Some.parameter.now c.in-Some.behind.now (lit< tt) cut.0 c.loop-parameter.invariant.utf8;
      first = first-later c.loop-parameter.rest.now c.in-Some.parameter.now c.in-Some.behind.now cut.0 cut.1 c.in_default-parameter_quality.ensures ∙ c.loop-parameter.invariant.first;
    }

pub returns : goal.returns
returns c =
    c.unwrap_or.ensures ∙ ap (λ (o : Option ℕ). unwrap_or o 1000) c.parameter_quality-2.ensures
    ∙ first-last c.loop-parameter.rest.now c.in_default.ensures.none ∙ c.loop-parameter.invariant.first
