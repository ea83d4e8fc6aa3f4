use Rattle.std.proofs.Common.{◌≡◌, drop}
use Rattle.tiny_http_body.specs.Framing.{value_of}
use Rattle.tiny_http_body.proofs.framing.value_of.Given as goal

abbrev pub invariant-loop-header : goal.invariant-loop-header
invariant-loop-header l = value_of l.name (drop l.header-index l.headers) ≡ value_of l.name l.headers
