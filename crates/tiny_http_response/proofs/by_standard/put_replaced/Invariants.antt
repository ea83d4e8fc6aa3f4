use Rattle.std.proofs.Common.{◌∷◌, [], take}
use Rattle.std.specs.List.{flat_map}
use Rattle.tiny_http_io.specs.Device.{Took}
use Rattle.tiny_http_response.specs.ByStandard.{safe_byte}
use Rattle.tiny_http_response.proofs.by_standard.put_replaced.Given as goal

abbrev pub invariant-loop-byte : goal.invariant-loop-byte
invariant-loop-byte g l = Took (g.W.WriteDevice.sink l.initial.writer) (g.W.WriteDevice.sink l.writer) (flat_map (λ b. safe_byte b ∷ []) (take l.byte-index l.value))
