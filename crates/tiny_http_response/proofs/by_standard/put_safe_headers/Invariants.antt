use Rattle.std.proofs.Common.{take}
use Rattle.std.specs.List.{flat_map}
use Rattle.tiny_http_io.specs.Device.{Took}
use Rattle.tiny_http_response.proofs.ByStandardLemmas.{lines_of}
use Rattle.tiny_http_response.proofs.by_standard.put_safe_headers.Given as goal

abbrev pub invariant-loop-header : goal.invariant-loop-header
invariant-loop-header g l = Took (g.W.WriteDevice.sink l.initial.writer) (g.W.WriteDevice.sink l.writer) (flat_map lines_of (take l.header-index l.headers))
