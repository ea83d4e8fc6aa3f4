use Rattle.tiny_http_connection_laws.proofs.ReadableSteps.{steps-can_be_read, run-unfailed}
use Rattle.tiny_http_connection_laws.proofs.laws.steps_can_be_read.Goals as goal

pub returns-clause-slots : goal.returns-clause-slots
returns-clause-slots c = λ p feed before after steps replies held ended unread k can. steps-can_be_read p feed before after steps replies held ended unread k can

pub returns-clause-unfailed : goal.returns-clause-unfailed
returns-clause-unfailed c = λ p feed before after steps replies held ended unread k same. run-unfailed p feed before after steps replies held ended unread k same
