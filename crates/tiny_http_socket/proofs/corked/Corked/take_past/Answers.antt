use Rattle.std.specs.IoError.{error_kind}
use Rattle.tiny_http_socket.proofs.CorkedLemmas.{fails-now}
use Rattle.tiny_http_socket.proofs.corked.Corked.take_past.Goals as goal

pub returns-in-Err-clause-puts : goal.returns-in-Err-clause-puts
returns-in-Err-clause-puts g c =
    fails-now c.args.self.now c.pass.new.self c.end.new.self c.args.buf.now (error_kind c.in-Err.fault) (error_kind c.end.result) c.requires.open c.in-Err.ensures.puts c.end.ensures.begins c.in-Err.ensures.rest c.end.ensures.ended c.end.ensures.kind
