use Rattle.tiny_http_standard_head.proofs.LawsLemmas.{request-line-once}
use Rattle.tiny_http_standard_head.proofs.laws.one_request_line.Goals as goal

pub returns : goal.returns
returns c = request-line-once
