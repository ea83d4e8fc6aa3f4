-- The parts of a `ByPieces` that contracts refer to.
use Rattle.std.specs.Prelude.{ℕ, max}
use Rattle.tiny_http_io.specs.declared.device.ByPieces.{ByPieces}

-- the inner reader of a `ByPieces`
abbrev pub pieces_inner : {R : Type 0} → ByPieces R → R
pieces_inner p = p.inner

-- the greatest number of bytes that a call returns: `most`, or 1 if that is 0
abbrev pub pieces_most : {R : Type 0} → ByPieces R → ℕ
pieces_most p = max p.most 1
