-- A HEADCOUNT: a counter from 0 to 2^64 - 1.
use Rattle.std.specs.Prelude.{◌≡◌, ℕ, ◌+◌, ◌-◌, ◌^◌, ◌<◌, Bool, true, false}

-- whether a call to `enter` added one and returned true, or, at 2^64 - 1, changed nothing and returned false
abbrev pub CountsIn : ℕ → Bool → ℕ → Type 0
CountsIn old true new = (old < 2 ^ 64 - 1) × (new ≡ old + 1)
CountsIn old false new = (old ≡ 2 ^ 64 - 1) × (new ≡ old)

-- whether a call to `leave` subtracted one and returned true, or, at 0, changed nothing and returned false
abbrev pub CountsOut : ℕ → Bool → ℕ → Type 0
CountsOut old true new = (0 < old) × (new ≡ old - 1)
CountsOut old false new = (old ≡ 0) × (new ≡ old)
