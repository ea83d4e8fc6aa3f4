use Rattle.std.proofs.Common.{◌≡◌, drop}
use Rattle.tiny_http_client.specs.ClientAnswer.{first_value}
use Rattle.tiny_http_client.proofs.body.first_value.Given as goal

abbrev pub invariant-loop-header : goal.invariant-loop-header
invariant-loop-header l = first_value l.name (drop l.header-index l.headers) ≡ first_value l.name l.headers
