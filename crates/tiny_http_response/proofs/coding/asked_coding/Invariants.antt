use Rattle.std.proofs.Common.{◌≡◌, drop}
use Rattle.tiny_http_response.specs.Coding.{coding_asked}
use Rattle.tiny_http_response.proofs.coding.asked_coding.Given as goal

abbrev pub invariant-loop-header : goal.invariant-loop-header
invariant-loop-header l = coding_asked (drop l.header-index l.request_headers) ≡ coding_asked l.request_headers
