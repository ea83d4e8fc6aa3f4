use Rattle.tiny_http_connection_laws.proofs.ConversationReads.{all-sent, all-whole, all-complete}
use Rattle.tiny_http_connection_laws.proofs.laws.slots_are_read.Goals as goal

pub returns-clause-output : goal.returns-clause-output
returns-clause-output c = λ p feed before after steps replies held out ended unread k can o. all-sent p feed before after steps replies held out ended unread k can o

pub returns-clause-whole : goal.returns-clause-whole
returns-clause-whole c = λ p feed before after steps replies held out ended unread k can o none. all-whole p feed before after steps replies held out ended unread k can o none

pub returns-clause-complete : goal.returns-clause-complete
returns-clause-complete c = λ p feed before after steps replies held out unread k can o finished. all-complete p feed before after steps replies held out unread k can o finished
