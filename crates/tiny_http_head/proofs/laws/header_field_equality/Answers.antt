use Rattle.std.proofs.Common.{rules, ◌≡◌}
use Rattle.tiny_http_head.specs.Common.{lowercase}
use Rattle.tiny_http_head.proofs.CommonLemmas.{names-from, names-to}
use Rattle.tiny_http_head.proofs.laws.header_field_equality.Goals as goal

pub returns-clause-ignores_case : goal.returns-clause-ignores_case
returns-clause-ignores_case c = λ a b. (λ e. names-from a b (search rules), λ same. let e : lowercase a ≡ lowercase b = names-to a b same in search rules)
