use Rattle.tiny_http_standard_head.proofs.LawsLemmas.{field-line-once}
use Rattle.tiny_http_standard_head.proofs.laws.one_field_line.Goals as goal

pub returns : goal.returns
returns c = field-line-once
