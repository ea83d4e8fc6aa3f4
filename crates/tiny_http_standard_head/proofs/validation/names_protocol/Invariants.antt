use Rattle.std.proofs.Common.{◌≡◌, drop, codes}
use Rattle.tiny_http_standard_head.specs.Lists.{has_element_that}
use Rattle.tiny_http_standard_head.specs.Validation.{is_protocol_named}
use Rattle.tiny_http_standard_head.proofs.validation.names_protocol.Given as goal

abbrev pub invariant-loop-header : goal.invariant-loop-header
invariant-loop-header l = has_element_that (codes "Upgrade") (is_protocol_named l.protocol) (drop l.header-index l.headers) ≡ has_element_that (codes "Upgrade") (is_protocol_named l.protocol) l.headers
