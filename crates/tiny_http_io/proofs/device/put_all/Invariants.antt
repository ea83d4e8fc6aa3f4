use Rattle.std.proofs.Common.{take}
use Rattle.std.specs.List.{flat_map}
use Rattle.tiny_http_io.specs.Device.{Took}
use Rattle.tiny_http_io.proofs.device.put_all.Given as goal

abbrev pub invariant-loop-piece : goal.invariant-loop-piece
invariant-loop-piece g l = Took (g.W.WriteDevice.sink l.initial.writer) (g.W.WriteDevice.sink l.writer) (flat_map (λ p. p.now) (take l.piece-index l.pieces))
