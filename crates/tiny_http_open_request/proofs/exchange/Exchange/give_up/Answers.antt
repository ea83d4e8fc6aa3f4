use Rattle.tiny_http_body.proofs.BodyReads.{gives-up}
use Rattle.tiny_http_open_request.proofs.exchange.Exchange.give_up.Goals as goal

pub returns-clause-goes_on : goal.returns-clause-goes_on
returns-clause-goes_on g c = gives-up c.args.self.now.open_request.body c.args.source.now c.give_up.new.source c.give_up.ensures.gives_up
