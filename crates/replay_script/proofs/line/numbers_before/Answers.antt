use Rattle.std.proofs.Common.{arith, sym, ◌∙◌, ◌<◌, ◌^◌}
use Rattle.replay_script.specs.ScriptLine.{BeginsByNumber}
use Rattle.replay_script.proofs.ScriptLineLemmas.{none_fits, fits_same}
use Rattle.replay_script.proofs.line.numbers_before.Goals as goal

pub returns-in_err-number-clause-found : goal.returns-in_err-number-clause-found
returns-in_err-number-clause-found c = λ n status rest b. absurd (c.in_err-number.ensures.found n b.0 b.3 b.1)

pub returns-in_err-status-clause-found : goal.returns-in_err-status-clause-found
returns-in_err-status-clause-found c = λ n status rest b.
    let first = c.in_ok-number.ensures.found n b.0 b.3 b.1 in
    let behind : BeginsByNumber c.in_ok-number.behind.now status rest = rw first.1 b.2 in
    absurd (c.in_err-status.ensures.found status rest (omega (arith, b.4)) behind)

pub returns-in_err-status-2-clause-found : goal.returns-in_err-status-2-clause-found
returns-in_err-status-2-clause-found c = λ n status rest b.
    let first = c.in_ok-number.ensures.found n b.0 b.3 b.1 in
    let behind : BeginsByNumber c.in_ok-number.behind.now status rest = rw first.1 b.2 in
    let second = c.in_ok-status.ensures.found status rest (omega (arith, b.4)) behind in
    let fits : c.in_ok-status.status < 2 ^ 16 = rw second.0 b.4 in
    absurd (none_fits c.try_from.result _ _ c.try_from.ensures c.in_err-status-2.ensures.variant fits)

pub returns-clause-found : goal.returns-clause-found
returns-clause-found c = λ n status rest b.
    let first = c.in_ok-number.ensures.found n b.0 b.3 b.1 in
    let behind : BeginsByNumber c.in_ok-number.behind.now status rest = rw first.1 b.2 in
    let second = c.in_ok-status.ensures.found status rest (omega (arith, b.4)) behind in
    (first.0, fits_same c.try_from.result _ _ c.in_ok-status-2.status c.try_from.ensures (sym c.ok.ensures.value ∙ c.in_ok-status-2.was) ∙ second.0, second.1)
