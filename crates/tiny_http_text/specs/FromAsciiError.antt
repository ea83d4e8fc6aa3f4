-- The parts of a `FromAsciiError` that contracts refer to.
use Rattle.std.specs.Prelude.{ℕ, List}
use Rattle.tiny_http_text.specs.declared.ascii.FromAsciiError.{FromAsciiError}

-- the bytes that `AsciiString::from_ascii` refused
abbrev pub refused_bytes : FromAsciiError → List ℕ
refused_bytes e = e.source.items

-- the position of the first byte above 127 among the refused bytes
abbrev pub bad_place : FromAsciiError → ℕ
bad_place e = e.place
