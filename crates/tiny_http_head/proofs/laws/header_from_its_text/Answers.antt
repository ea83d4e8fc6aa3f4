use Rattle.tiny_http_head.proofs.CommonLemmas.{text-back, one-header}
use Rattle.tiny_http_head.proofs.laws.header_from_its_text.Goals as goal

pub returns-clause-back : goal.returns-clause-back
returns-clause-back c = text-back

pub returns-clause-one : goal.returns-clause-one
returns-clause-one c = one-header
