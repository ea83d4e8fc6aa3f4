use Rattle.std.proofs.Common.{take}
use Rattle.std.specs.List.{flat_map}
use Rattle.tiny_http_io.specs.Device.{Took}
use Rattle.tiny_http_response.specs.Answer.{field_line_of}
use Rattle.tiny_http_response.proofs.answer_head.put_headers.Given as goal

abbrev pub invariant-loop-header : goal.invariant-loop-header
invariant-loop-header g l = Took (g.W.WriteDevice.sink l.initial.writer) (g.W.WriteDevice.sink l.writer) (flat_map field_line_of (take l.header-index l.headers))
