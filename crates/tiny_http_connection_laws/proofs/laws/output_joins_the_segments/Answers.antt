use Rattle.tiny_http_connection_laws.proofs.InShortSent.{sent-front, sent-whole}
use Rattle.tiny_http_connection_laws.proofs.InShortSlots.{conversation-items, conversation-makers}
use Rattle.tiny_http_connection_laws.proofs.laws.output_joins_the_segments.Goals as goal

pub returns-clause-front : goal.returns-clause-front
returns-clause-front c = λ p feed before after steps replies held out ended unread k o.
    sent-front p feed before after steps replies held out ended unread k o

pub returns-clause-whole : goal.returns-clause-whole
returns-clause-whole c = λ p feed before after steps replies held out ended unread k o same.
    sent-whole p feed before after steps replies held out ended unread k o same

pub returns-clause-each : goal.returns-clause-each
returns-clause-each c = λ p feed before after steps replies held ended unread k number s here.
    conversation-items p feed before after steps replies held ended unread k number s here

pub returns-clause-made : goal.returns-clause-made
returns-clause-made c = λ p feed before after steps replies held ended unread k number s t here made.
    conversation-makers p feed before after steps replies held ended unread k number s t here made
