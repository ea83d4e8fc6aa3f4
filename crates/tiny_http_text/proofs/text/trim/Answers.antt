use Rattle.std.proofs.Common.{rules, ◌∙◌, length}
use Rattle.tiny_http_text.proofs.BytesTrimming.{before-blanks, range-front}
use Rattle.tiny_http_text.proofs.text.trim.Goals as goal

pub range-requires-clause-end_boundary : goal.range-requires-clause-end_boundary
range-requires-clause-end_boundary c = (before-blanks c.trim_front-front.result.now c.trim_end-core.result.now (search rules)).cut

pub returns : goal.returns
returns c =
    let core = before-blanks c.trim_front-front.result.now c.trim_end-core.result.now (search rules) in
    c.range.ensures.value ∙ range-front c.trim_front-front.result.now (length c.trim_end-core.result.now) ∙ core.is ∙ search rules
