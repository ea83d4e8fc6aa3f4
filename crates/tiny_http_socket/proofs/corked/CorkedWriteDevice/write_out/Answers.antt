use Rattle.std.proofs.Common.{ap, sym, ◌∙◌}
use Rattle.std.specs.IoError.{error_kind}
use Rattle.tiny_http_socket.proofs.CorkedLemmas.{fails-later}
use Rattle.tiny_http_socket.proofs.corked.CorkedWriteDevice.write_out.Goals as goal

pub returns-in-Broken-clause-puts : goal.returns-in-Broken-clause-puts
returns-in-Broken-clause-puts g c =
    fails-later c.args.self.now c.end.new.self c.args.buf.now c.in-Broken.kind (error_kind c.end.result) (error_kind c.into.result) (sym (ap (λ x. x.state) c.self.view_is) ∙ c.in-Broken.is) c.end.ensures.begins c.end.ensures.ended c.end.ensures.kind
