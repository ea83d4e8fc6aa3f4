use Rattle.std.proofs.Common.{drop}
use Rattle.std.specs.Prelude.{codes}
use Rattle.tiny_http_standard_head.specs.Lists.{values_of}
use Rattle.tiny_http_standard_head.proofs.ValidationLemmas.{HostsSoFar}
use Rattle.tiny_http_standard_head.proofs.validation.has_valid_host.Given as goal

abbrev pub invariant-loop-header : goal.invariant-loop-header
invariant-loop-header l = HostsSoFar l.has_one (values_of (codes "Host") l.headers) (values_of (codes "Host") (drop l.header-index l.headers))
