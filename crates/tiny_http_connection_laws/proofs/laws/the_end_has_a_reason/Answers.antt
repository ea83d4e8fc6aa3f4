use Rattle.tiny_http_connection_laws.proofs.AccountsEnd.{end-has_reason}
use Rattle.tiny_http_connection_laws.proofs.laws.the_end_has_a_reason.Goals as goal

pub returns : goal.returns
returns c = record {
  reason = λ p feed before after steps replies held ended unread x end. end-has_reason p feed before after steps replies held ended unread x end;
}
