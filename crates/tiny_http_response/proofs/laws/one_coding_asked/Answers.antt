use Rattle.std.proofs.Common.{sym, ◌∙◌}
use Rattle.tiny_http_response.proofs.AskedLaws.{asks-is, asks-one}
use Rattle.tiny_http_response.proofs.laws.one_coding_asked.Goals as goal

pub returns-clause-some : goal.returns-clause-some
returns-clause-some c = asks-is

pub returns-clause-one : goal.returns-clause-one
returns-clause-one c = λ headers asked other h k. asks-one headers asked h ∙ sym (asks-one headers other k)
