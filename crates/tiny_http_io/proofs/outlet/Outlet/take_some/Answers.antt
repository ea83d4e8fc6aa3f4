use Rattle.std.proofs.Common.{arith}
use Rattle.tiny_http_io.proofs.OutletLemmas.{failed-for_more}
use Rattle.tiny_http_io.proofs.outlet.Outlet.take_some.Goals as goal

pub returns-in-Err-clause-puts : goal.returns-in-Err-clause-puts
returns-in-Err-clause-puts g c =
    let self = c.self.inside in
    rw (← c.self.view_is) (failed-for_more (g.W.WriteDevice.sink self.inner) _ self.held c.append-n.new.self c.args.buf.now c.append-n.result self.ended _ (omega arith) c.append-n.ensures.bytes c.in-Err.ensures.puts)
