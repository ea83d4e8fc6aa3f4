use Rattle.tiny_http_waiting.proofs.WaitTableLawLemmas.{kept, once, waits, not_forgotten}
use Rattle.tiny_http_waiting.proofs.laws.no_event_is_lost_and_none_is_served_twice.Goals as goal

pub returns-clause-kept : goal.returns-clause-kept
returns-clause-kept g c = kept

pub returns-clause-once : goal.returns-clause-once
returns-clause-once g c = λ served last token is_ready steps. once steps served last token is_ready

pub returns-clause-waits : goal.returns-clause-waits
returns-clause-waits g c = λ waiting last token item until steps. waits steps waiting last token item until

pub returns-clause-not_forgotten : goal.returns-clause-not_forgotten
returns-clause-not_forgotten g c =
    λ waiting last new token now item until steps out. not_forgotten steps waiting last new token now item until out
