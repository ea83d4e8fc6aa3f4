use Rattle.std.proofs.Common.{◌≡◌, drop}
use Rattle.tiny_http_standard_head.specs.Lists.{has_element}
use Rattle.tiny_http_standard_head.proofs.lists.has_element.Given as goal

abbrev pub invariant-loop-header : goal.invariant-loop-header
invariant-loop-header l = has_element l.name l.word (drop l.header-index l.headers) ≡ has_element l.name l.word l.headers
