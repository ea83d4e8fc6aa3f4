-- The date of the system clock, in seconds.
use Rattle.std.specs.Prelude.{ℕ, ◌/◌, Option, Some, None, nat_lt, if◌then◌else◌}
use Rattle.std.specs.Duration.{as_nanos}
use Rattle.std.specs.declared.time.Duration.{Duration}

-- the whole seconds of a time since 1970, or 0 if there is no time or it is after the year 9999
abbrev pub seconds_of : Option Duration → ℕ
seconds_of None = 0
seconds_of (Some time) =
    let seconds = as_nanos time / 1_000_000_000 in if nat_lt seconds 253_402_300_800 then seconds else 0
