-- Timeouts. Times are in nanoseconds.
use Rattle.std.specs.Prelude.{◌≡◌, ℕ, ◌+◌, ◌-◌, ◌*◌, ◌/◌, ◌^◌, ◌<◌, ◌≤◌, min, Option, Some, None}
use Rattle.std.specs.Duration.{as_nanos, max_nanos}
use Rattle.std.specs.declared.time.Duration.{Duration}
use Rattle.tiny_http_limits.specs.declared.times.Stall.{Stall}

-- THE REST OF A TIME after `gone`: `time - gone` if `gone` is less than `time`, and otherwise none (`None`).
abbrev pub LeavesTime : ℕ → ℕ → Option Duration → Type 0
LeavesTime gone time (Some left) = (gone < time) × (as_nanos left ≡ time - gone)
LeavesTime gone time None = time ≤ gone

-- whether the stall has no time waited and no byte moved
abbrev pub IsFresh : Stall → Type 0
IsFresh stall = (as_nanos stall.waited ≡ 0) × (stall.moved ≡ 0)

-- THE EFFECT OF A CALL on a stall at a rate of 0, if the call completes no piece of 4096 bytes: its wait is added, up
-- to the longest duration, and so are its bytes.
abbrev pub AddsCall : Stall → ℕ → ℕ → Stall → Type 0
AddsCall old waited moved new =
    (as_nanos new.waited ≡ min (as_nanos old.waited + waited) max_nanos) × (new.moved ≡ old.moved + moved)

-- the nanoseconds that these bytes take at this rate in bytes per second; before the division by the rate, the number
-- of nanoseconds saturates at 2^64 - 1
abbrev pub nanos_of_bytes : ℕ → ℕ → ℕ
nanos_of_bytes bytes rate = min (bytes * 1_000_000_000) (2 ^ 64 - 1) / rate

-- THE EFFECT OF A CALL on a stall at a minimum rate: its wait is added, up to the longest duration, and from that sum
-- the time that its bytes take is subtracted, but not below 0.
abbrev pub GivesBack : Stall → ℕ → ℕ → ℕ → Stall → Type 0
GivesBack old waited moved rate new =
    as_nanos new.waited ≡ min (as_nanos old.waited + waited) max_nanos - nanos_of_bytes moved rate
