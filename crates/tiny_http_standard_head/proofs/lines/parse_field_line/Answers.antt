use Rattle.tiny_http_head.proofs.HeaderTextsLemmas.{token_ascii}
use Rattle.tiny_http_standard_head.proofs.lines.parse_field_line.Goals as goal

pub owned-requires : goal.owned-requires
owned-requires c = token_ascii c.in-Some.field.now c.in-Some.ensures.some.field_is
