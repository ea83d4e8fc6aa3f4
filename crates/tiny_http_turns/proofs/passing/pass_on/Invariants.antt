use Rattle.std.proofs.Common.{ℕ, ◌≡◌, ◌+◌, ◌-◌, ◌^◌}
use Rattle.tiny_http_turns.specs.Passing.{holds, WritesTexts}
use Rattle.tiny_http_turns.proofs.passing.pass_on.Given as goal

abbrev pub invariant-loop-left : goal.invariant-loop-left
invariant-loop-left g l =
    (n : ℕ) × (n + l.room ≡ 2 ^ 64 - 1)
    × WritesTexts g.T.HeldTurn.writes g.T.HeldTurn.finishes n (holds l.fn.turn l.fn.numbers l.fn.output) l.fn.text.items (holds l.turn l.numbers l.output)

abbrev pub decreases-loop-left : goal.decreases-loop-left
decreases-loop-left g l = l.room
