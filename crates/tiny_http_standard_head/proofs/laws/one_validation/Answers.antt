use Rattle.tiny_http_standard_head.proofs.LawsLemmas.{validated-once}
use Rattle.tiny_http_standard_head.proofs.Existing.{some-error}
use Rattle.tiny_http_standard_head.proofs.laws.one_validation.Goals as goal

pub returns-clause-some : goal.returns-clause-some
returns-clause-some c = some-error

pub returns-clause-one : goal.returns-clause-one
returns-clause-one c = validated-once
