use Rattle.std.proofs.Common.{arith}
use Rattle.std.specs.IoError.{error_kind}
use Rattle.tiny_http_socket.proofs.CorkedLemmas.{takes-behind, fails-within}
use Rattle.tiny_http_socket.proofs.corked.Corked.pass.Goals as goal

pub returns-then-n-held-clause-puts : goal.returns-then-n-held-clause-puts
returns-then-n-held-clause-puts g c =
    rw (← c.self.view_is) (takes-behind (g.W.WriteDevice.sink c.self.inside.writer) (g.W.WriteDevice.sink c.write_both-gone.new.self) c.as_slice.result.now c.self.inside.waiting.items c.args.buf.now c.len-held.result c.in-Ok.n (omega arith) c.as_slice.ensures.value (omega arith) c.in-Ok.ensures.puts)

pub returns-in-Err-sent-clause-puts : goal.returns-in-Err-sent-clause-puts
returns-in-Err-sent-clause-puts g c =
    rw (← c.self.view_is) (fails-within (g.W.WriteDevice.sink c.self.inside.writer) (g.W.WriteDevice.sink c.write_both-gone.new.self) (g.W.WriteDevice.sink c.put-sent.new.writer) c.as_slice.result.now c.deref.result.now c.self.inside.waiting.items c.args.buf.now c.in-Ok.n (error_kind c.in-Err-sent.fault) c.as_slice.ensures.value c.deref.ensures.value (omega arith) c.in-Ok.ensures.puts.2 c.in-Err-sent.ensures)
