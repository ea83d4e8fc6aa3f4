use Rattle.std.proofs.Common.{sym, ap}
use Rattle.tiny_http_io.specs.Device.{prepended}
use Rattle.tiny_http_socket.proofs.cork.FlushingReaderReadAheadDevice.ahead.Goals as goal

pub returns : goal.returns
returns g c =
    let ahead = c.args.self.now.ahead in
    record { front = (ahead.feed, ap (λ bytes. prepended bytes ahead.feed) (sym c.ahead.ensures.bytes)) }
