use Rattle.std.proofs.Common.{◌≡◌, drop}
use Rattle.tiny_http_standard_head.specs.Lists.{has_element_that}
use Rattle.tiny_http_standard_head.specs.ValidationReading.{is_wanted}
use Rattle.tiny_http_standard_head.proofs.validation.has.Given as goal

abbrev pub invariant-loop-header : goal.invariant-loop-header
invariant-loop-header l = has_element_that l.name (is_wanted l.wanted) (drop l.header-index l.headers) ≡ has_element_that l.name (is_wanted l.wanted) l.headers
