use Rattle.std.proofs.Common.{true, false, refl, sym, ap, ◌∙◌}
use Rattle.tiny_http_standard_head.specs.Validation.{is_chunked}
use Rattle.tiny_http_standard_head.specs.Te.{between_semicolons, has_zero_weight}
use Rattle.tiny_http_standard_head.proofs.TeLemmas.{with-parameters, without-parameters}
use Rattle.tiny_http_standard_head.proofs.validation.element_asks_chunked.Goals as goal

pub returns-in_default : goal.returns-in_default
returns-in_default c = c.is_chunked.ensures ∙ ap is_chunked c.trim_space_and_tab.ensures ∙ without-parameters c.args.element.now c.in_default.ensures.none

pub returns-then-is_chunked : goal.returns-then-is_chunked
returns-then-is_chunked c =
    let cut = c.in-Some.ensures.some in
    let is = sym c.if-is_chunked.true ∙ c.is_chunked-2.ensures ∙ ap is_chunked c.trim_space_and_tab-2.ensures in
    with-parameters c.args.element.now c.in-Some.coding.now c.in-Some.parameters.now true c.has_zero_weight.result cut.0 cut.1 is c.has_zero_weight.ensures

pub returns-else-is_chunked : goal.returns-else-is_chunked
returns-else-is_chunked c =
    let cut = c.in-Some.ensures.some in
    let parameters = c.in-Some.parameters.now in
    let is = sym c.if-is_chunked.false ∙ c.is_chunked-2.ensures ∙ ap is_chunked c.trim_space_and_tab-2.ensures in
    c.if-is_chunked.false ∙ with-parameters c.args.element.now c.in-Some.coding.now parameters false (has_zero_weight (between_semicolons parameters)) cut.0 cut.1 is refl
