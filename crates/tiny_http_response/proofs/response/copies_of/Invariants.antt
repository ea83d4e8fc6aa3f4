use Rattle.std.proofs.Common.{◌≡◌, take}
use Rattle.tiny_http_response.proofs.response.copies_of.Given as goal

abbrev pub invariant-loop-header : goal.invariant-loop-header
invariant-loop-header l = l.list.items ≡ take l.header-index l.headers
