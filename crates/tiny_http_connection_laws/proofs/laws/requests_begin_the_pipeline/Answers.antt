use Rattle.std.specs.Prelude.{length}
use Rattle.tiny_http_connection_laws.specs.InShort.{requests_from}
use Rattle.tiny_http_connection_laws.proofs.InShortHanded.{conversation-moves}
use Rattle.tiny_http_connection_laws.proofs.laws.requests_begin_the_pipeline.Goals as goal

pub returns : goal.returns
returns c = record {
  first = λ p feed before after steps replies held ended unread k.
      let m = conversation-moves p feed before after steps replies held ended unread k in
      (requests_from (length k.end.reached.slots) k.end.reached.rest, m.requests);
}
