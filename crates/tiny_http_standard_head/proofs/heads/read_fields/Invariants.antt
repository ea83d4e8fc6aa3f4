use Rattle.std.proofs.Common.{length, ◌≤◌}
use Rattle.tiny_http_standard_head.specs.declared.heads.TheConstants.{MOST_HEADERS}
use Rattle.tiny_http_standard_head.specs.Heads.{BeginsWithFieldLines}
use Rattle.tiny_http_standard_head.proofs.heads.read_fields.Given as goal

abbrev pub invariant-loop-line : goal.invariant-loop-line
invariant-loop-line l = record { lines : BeginsWithFieldLines l.bytes l.headers.items l.rest; few : length l.headers.items ≤ MOST_HEADERS }

abbrev pub decreases-loop-line : goal.decreases-loop-line
decreases-loop-line l = length l.rest
