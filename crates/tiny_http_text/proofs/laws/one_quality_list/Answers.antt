use Rattle.std.proofs.Common.{sym, ◌∙◌}
use Rattle.tiny_http_text.specs.QualityReading.{qualities}
use Rattle.tiny_http_text.proofs.QualitiesLemmas.{lists-is, lists-one}
use Rattle.tiny_http_text.proofs.laws.one_quality_list.Goals as goal

pub returns-clause-some : goal.returns-clause-some
returns-clause-some c = λ value. (qualities value, lists-is value)

pub returns-clause-one : goal.returns-clause-one
returns-clause-one c = λ value list other h k. lists-one value list h ∙ sym (lists-one value other k)
