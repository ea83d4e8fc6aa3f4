use Rattle.std.proofs.Common.{rules, ◌∙◌}
use Rattle.tiny_http_text.proofs.BytesTrimming.{behind-blanks}
use Rattle.tiny_http_text.proofs.text.trim_front.Goals as goal

pub overflow_sub-text : goal.overflow_sub-text
overflow_sub-text c = (behind-blanks c.args.text.now c.trim_front-front.result.now c.utf8.text (search rules)).shorter

pub range_from-requires : goal.range_from-requires
range_from-requires c = λ some. (behind-blanks c.args.text.now c.trim_front-front.result.now c.utf8.text (search rules)).cut

pub returns : goal.returns
returns c =
    let front = behind-blanks c.args.text.now c.trim_front-front.result.now c.utf8.text (search rules) in
    c.range_from.ensures.value ∙ front.is ∙ search rules
