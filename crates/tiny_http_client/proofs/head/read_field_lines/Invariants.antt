use Rattle.std.proofs.Common.{length}
use Rattle.tiny_http_client.specs.ClientAnswer.{BeginsWithFieldLines}
use Rattle.tiny_http_client.proofs.head.read_field_lines.Given as goal

abbrev pub invariant-loop-headers : goal.invariant-loop-headers
invariant-loop-headers l = BeginsWithFieldLines l.fn.rest l.headers.items l.rest

abbrev pub decreases-loop-headers : goal.decreases-loop-headers
decreases-loop-headers l = length l.rest
