use Rattle.std.proofs.Common.{ℕ, List}
use Rattle.tiny_http_open_request.specs.Pipeline.{Item, Asks, Refuses}
use Rattle.tiny_http_connection.specs.Segments.{Slot}
use Rattle.tiny_http_connection.specs.Conversation.{start_state}
use Rattle.tiny_http_connection_laws.specs.Accounts.{Account, untouched, MatchesAccount}
use Rattle.tiny_http_connection_laws.proofs.AccountsHold.{IsTold, none-accounts, run-accounts}
use Rattle.tiny_http_connection_laws.proofs.AccountsTurns.{handed-reached}
use Rattle.tiny_http_connection_laws.proofs.laws.numbers_match_their_accounts.Goals as goal

as-accounts : (k : ℕ) (s : Slot) (item : Item) (a : Account) → IsTold k s item a → MatchesAccount k s item a
as-accounts k s (Asks r) a h = (h.condition, h.by, h.written, h.continued)
as-accounts k s (Refuses refusal manner no_body last) a h = (h.stage, h.account, h.continued)

pub returns-clause-reached : goal.returns-clause-reached
returns-clause-reached c = λ p feed before after steps replies held ended unread x k known.
    handed-reached p feed before after steps replies held ended unread x k known

pub returns-clause-accounts : goal.returns-clause-accounts
returns-clause-accounts c = λ p feed before after steps replies held ended unread x k s here.
    as-accounts k s s.item _ ((run-accounts (λ j. untouched) (start_state x.items) x.end steps replies none-accounts x.run).here k s here)
