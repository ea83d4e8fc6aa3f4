use Rattle.std.proofs.Common.{◌≡◌, drop}
use Rattle.std.specs.Prelude.{codes}
use Rattle.tiny_http_standard_head.specs.declared.validation.Codings.TheVariants.{Absent}
use Rattle.tiny_http_standard_head.specs.Lists.{elements_of}
use Rattle.tiny_http_standard_head.specs.ValidationReading.{codings_on}
use Rattle.tiny_http_standard_head.proofs.validation.codings_of.Given as goal

abbrev pub invariant-loop-header : goal.invariant-loop-header
invariant-loop-header l = codings_on l.codings (elements_of (codes "Transfer-Encoding") (drop l.header-index l.headers)) ≡ codings_on Absent (elements_of (codes "Transfer-Encoding") l.headers)
