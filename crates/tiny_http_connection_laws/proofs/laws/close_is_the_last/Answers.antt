use Rattle.tiny_http_connection_laws.proofs.CloseSteps.{close-is_last}
use Rattle.tiny_http_connection_laws.proofs.ConversationReads.{all-closes_read}
use Rattle.tiny_http_connection_laws.proofs.laws.close_is_the_last.Goals as goal

pub returns-clause-none : goal.returns-clause-none
returns-clause-none c = λ feed before after steps replies held ended unread k. close-is_last feed before after steps replies held ended unread k

pub returns-clause-read : goal.returns-clause-read
returns-clause-read c = λ feed before after steps replies held ended unread k. all-closes_read feed before after steps replies held ended unread k
