use Rattle.tiny_http_request.specs.Body.{input_of}
use Rattle.tiny_http_request.proofs.BodyLemmas.{held-reads}
use Rattle.tiny_http_request.proofs.body.Body.read_some.Goals as goal

pub returns-then-not-holds_reader-clause-reads : goal.returns-then-not-holds_reader-clause-reads
returns-then-not-holds_reader-clause-reads g c =
    rw (← c.self.view_is) (held-reads c.self.inside.unread c.read_held.new.self (input_of c.self.inside.reader c.self.inside.begun)
    c.read_held.result c.read_held.new.buf c.read_held.ensures)
