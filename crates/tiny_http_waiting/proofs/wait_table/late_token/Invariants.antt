use Rattle.std.proofs.Common.{ℕ, ◌<◌}
use Rattle.std.specs.declared.time.Duration.{Duration}
use Rattle.std.specs.Duration.{as_nanos}
use Rattle.tiny_http_waiting.specs.WaitTable.{WaitsUntil}
use Rattle.tiny_http_waiting.proofs.wait_table.late_token.Given as goal

abbrev pub invariant-loop-token : goal.invariant-loop-token
invariant-loop-token g l =
    (k : ℕ) (item : g.row.T.Denot) (until : Duration) → k < l.token → WaitsUntil l.slots k item until
    → as_nanos l.now < as_nanos until
