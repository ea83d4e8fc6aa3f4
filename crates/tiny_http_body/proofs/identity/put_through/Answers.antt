use Rattle.std.proofs.Common.{rules, Err, ◌≡◌, ◌+◌, ◌-◌, arith}
use Rattle.std.proofs.lemmas.Result.{err_from_is_err_and}
use Rattle.tiny_http_body.proofs.DeviceFaults.{SameFaults-append, Uses-behind}
use Rattle.tiny_http_body.proofs.DeviceCopies.{Prints-broken, Copied-more, Takes-more}
use Rattle.tiny_http_body.proofs.identity.put_through.Goals as goal

pub returns-in_err-left-clause-text : goal.returns-in_err-left-clause-text
returns-in_err-left-clause-text g c =
    let p = err_from_is_err_and c.from_residual.result c.from_residual.ensures.1 in
    rw (p.1, p.2) (Prints-broken _ _ _ _ _ c.args.n c.loop-left.left c.in_err-left.field-0.0 (omega arith) (omega arith) c.loop-left.invariant.copied c.in_err-left.ensures.copies)

pub loop-left-preserved : goal.loop-left-preserved
loop-left-preserved g c =
    let h = c.in_ok-left.ensures.copies in
    let sum : (c.args.n - c.loop-left.left) + c.in_ok-left.field-0 ≡ c.args.n - (c.loop-left.left - c.in_ok-left.field-0) = omega (arith, h.0, h.1) in
    record {
      within = omega arith;
      stop_count = search rules;
      copied = rw (← sum) (Copied-more _ _ _ _ _ _ _ _ c.loop-left.invariant.copied h.2);
      same = SameFaults-append _ _ _ c.loop-left.invariant.same c.in_ok-left.ensures.uses;
    }

pub returns-in_err-left-clause-uses : goal.returns-in_err-left-clause-uses
returns-in_err-left-clause-uses g c =
    let p = err_from_is_err_and c.from_residual.result c.from_residual.ensures.1 in
    rw (p.1, p.2) (Uses-behind {T = Unit {0}} _ _ _ (Err c.in_err-left.field-0.0) c.loop-left.invariant.same c.in_err-left.ensures.uses)

pub returns-in_err-left-clause-takes : goal.returns-in_err-left-clause-takes
returns-in_err-left-clause-takes g c =
    let p = err_from_is_err_and c.from_residual.result c.from_residual.ensures.1 in
    Takes-more _ _ _ _ _ c.args.n c.loop-left.left (Err c.in_err-left.field-0.0) _ _ p.1 (omega arith) c.loop-left.invariant.copied c.in_err-left.ensures.takes
