use Rattle.tiny_http_socket.proofs.ReadAheadLemmas.{read-after}
use Rattle.tiny_http_socket.proofs.read_ahead.read_after_held.Goals as goal

pub returns-clause-feed : goal.returns-clause-feed
returns-clause-feed g c =
    let reads = c.read_in.ensures.reads in
    read-after c.args.end _ c.args.piece.now c.read_in.new.buf _ _ c.read_in.result c.requires reads.bound reads.bytes
