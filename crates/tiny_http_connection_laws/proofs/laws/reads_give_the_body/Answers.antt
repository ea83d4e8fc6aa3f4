use Rattle.tiny_http_connection_laws.proofs.InShortReads.{conversation-reads}
use Rattle.tiny_http_connection_laws.proofs.laws.reads_give_the_body.Goals as goal

pub returns : goal.returns
returns c = record {
  next = λ p feed before after steps replies held ended unread k number r here.
      conversation-reads p feed before after steps replies held ended unread k number r here;
}
