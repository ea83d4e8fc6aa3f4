use Rattle.tiny_http_connection_laws.proofs.AccountsTurns.{step-done, step-found, step-known}
use Rattle.tiny_http_connection_laws.proofs.AccountsWaits.{done-in_turn, ask-waits-for}
use Rattle.tiny_http_connection_laws.proofs.laws.steps_are_taken_in_turn.Goals as goal

pub returns-clause-done : goal.returns-clause-done
returns-clause-done c = λ p feed before after steps later replies more held ended unread date step reply x count known can through.
    step-done p feed before after steps later replies more held ended unread date step reply x count known can through

pub returns-clause-waits : goal.returns-clause-waits
returns-clause-waits c = λ p feed before after steps later replies more held ended unread date step reply x count waits done j low.
    done-in_turn p feed before after steps later replies more held ended unread date step reply x count waits done j low

pub returns-clause-found : goal.returns-clause-found
returns-clause-found c = λ p feed before after steps later replies more held ended unread date step reply x count other some.
    step-found p feed before after steps later replies more held ended unread date step reply x count other some

pub returns-clause-known : goal.returns-clause-known
returns-clause-known c = λ p feed before after steps later replies more held ended unread date step reply x count other read handed can.
    step-known p feed before after steps later replies more held ended unread date step reply x count other read handed can

pub returns-clause-ask : goal.returns-clause-ask
returns-clause-ask c = λ p feed before after steps later replies more held ended unread date x count.
    ask-waits-for p feed before after steps later replies more held ended unread date x count
