use Rattle.tiny_http_connection_laws.proofs.ConversationReads.{all-sent, all-whole, all-complete}
use Rattle.tiny_http_connection_laws.proofs.ReadableSteps.{steps-can_be_read, run-unfailed}
use Rattle.std.proofs.Common.{false}
use Rattle.tiny_http_connection_laws.proofs.laws.conversation_is_read.Goals as goal

pub returns-clause-output : goal.returns-clause-output
returns-clause-output c = λ p feed before after steps replies held out ended unread k can o.
    all-sent p feed before after steps replies held out ended unread k (steps-can_be_read p feed before after steps replies held ended unread k can) o

pub returns-clause-whole : goal.returns-clause-whole
returns-clause-whole c = λ p feed before after steps replies held out ended unread k can o same.
    all-whole p feed before after steps replies held out ended unread k (steps-can_be_read p feed before after steps replies held ended unread k can) o
    (run-unfailed p feed before after steps replies held ended unread k same)

pub returns-clause-complete : goal.returns-clause-complete
returns-clause-complete c = λ p feed before after steps replies held out unread k can o finished.
    all-complete p feed before after steps replies held out unread k (steps-can_be_read p feed before after steps replies held false unread k can) o finished
