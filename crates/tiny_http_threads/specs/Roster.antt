-- A number that is increased by one, up to 2^64 - 1.
use Rattle.std.specs.Prelude.{◌≡◌, ℕ, ◌+◌, ◌-◌, ◌^◌, ◌<◌, Bool, true, false}

-- whether a number rises by one; the flag is false, and the number unchanged, only at the maximum
abbrev pub CountsIn : ℕ → Bool → ℕ → Type 0
CountsIn old true new = (old < 2 ^ 64 - 1) × (new ≡ old + 1)
CountsIn old false new = (old ≡ 2 ^ 64 - 1) × (new ≡ old)
