use Rattle.std.proofs.Common.{arith, ◌∙◌, ◌<◌}
use Rattle.replay_script.proofs.line.date_in.Goals as goal

pub returns-in_err-number_in-clause-found : goal.returns-in_err-number_in-clause-found
returns-in_err-number_in-clause-found c = λ d. absurd (c.in_err-number_in.ensures (d.1.0.0, rw d.1.0.1 (omega (arith, d.1.1))))

pub returns-clause-found : goal.returns-clause-found
returns-clause-found c = λ d.
    let fits : c.in_ok-number_in.field-0 < 253_402_300_800 = rw (c.in_ok-number_in.ensures.1, d.1.0.1) d.1.1 in
    c.ok.ensures.variant ∙ c.from_unix_secs.ensures.succeeds.1 fits
