use Rattle.std.proofs.Common.{ℕ, ◌≡◌, ◌+◌, ◌-◌, ◌^◌}
use Rattle.tiny_http_open_request.specs.NextRequest.{at, PassesHeads}
use Rattle.tiny_http_open_request.proofs.next_request.next_request.Given as goal

abbrev pub invariant-loop-exchange : goal.invariant-loop-exchange
invariant-loop-exchange g l = (n : ℕ) × (n + l.room ≡ 2 ^ 64 - 1) × PassesHeads g.P.RefusalPlace.refuses l.fn.profile l.fn.now n (at l.fn.source l.fn.place l.fn.output) (at l.source l.place l.output)

abbrev pub decreases-loop-exchange : goal.decreases-loop-exchange
decreases-loop-exchange g l = l.room
