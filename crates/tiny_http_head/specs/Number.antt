-- Signed numbers as 16 bits.
use Rattle.std.specs.Prelude.{ℕ, ◌-◌, ◌%◌, ℤ, pos, negsuc}

-- the number modulo 65536: -1 becomes 65535
abbrev pub code_of : ℤ → ℕ
code_of (pos n) = n % 65536
code_of (negsuc n) = 65535 - n % 65536
