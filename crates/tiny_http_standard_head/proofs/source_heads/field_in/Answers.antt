use Rattle.std.proofs.Common.{rules, inr, ap, ◌∙◌, Ok}
use Rattle.tiny_http_standard_head.proofs.source_heads.field_in.Goals as goal

pub returns-in-Ok-None : goal.returns-in-Ok-None
returns-in-Ok-None c =
    inr (c.in-Some.text.now, c.in-Some.ensures.some, ((search rules), c.parse_field_line.ensures.none (c.in-Ok-None.is ∙ ap Ok c.in-Ok-None.field-0-is)))
