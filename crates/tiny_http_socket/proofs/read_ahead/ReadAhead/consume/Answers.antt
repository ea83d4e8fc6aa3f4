use Rattle.std.proofs.Common.{ap, length, arith}
use Rattle.tiny_http_socket.proofs.ReadAheadLemmas.{length-held, held-consumed}
use Rattle.tiny_http_socket.proofs.read_ahead.ReadAhead.consume.Goals as goal

pub returns : goal.returns
returns g c =
    let inside = c.self.inside in
    let whole = length-held inside.piece.items inside.start inside.end (omega arith) in
    let view = ap (λ a. length a.held) c.self.view_is in
    rw (← c.self.view_is) (ap (λ h. record { held = h; reader = inside.reader; feed = g.R.ReadDevice.feed inside.reader }) (held-consumed inside.piece.items inside.start inside.end c.args.n (omega (arith, whole, view))))
