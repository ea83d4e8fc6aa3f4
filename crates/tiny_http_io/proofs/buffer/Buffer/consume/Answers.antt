use Rattle.std.proofs.Common.{ap, ◌∙◌, drop, length, arith}
use Rattle.tiny_http_io.proofs.BufferLemmas.{window-consumed, length-window}
use Rattle.tiny_http_io.proofs.buffer.Buffer.consume.Goals as goal

pub returns : goal.returns
returns c =
    let inside = c.self.inside in
    let whole = length-window inside.bytes inside.start inside.end (omega arith) in
    let view = ap length c.self.view_is in
    window-consumed inside.bytes inside.start inside.end c.args.n (omega arith) ∙ ap (λ r. drop c.args.n r) c.self.view_is
