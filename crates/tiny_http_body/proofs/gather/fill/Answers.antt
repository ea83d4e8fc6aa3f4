use Rattle.std.proofs.Common.{rules, arith}
use Rattle.std.proofs.lemmas.Result.{err_from_is_err_and}
use Rattle.tiny_http_body.proofs.DeviceGathers.{FilledTo-more, Fills-broken}
use Rattle.tiny_http_body.proofs.gather.fill.Goals as goal

pub returns-in_err-n-clause-bytes : goal.returns-in_err-n-clause-bytes
returns-in_err-n-clause-bytes g c =
    let p = err_from_is_err_and c.from_residual.result c.from_residual.ensures.1 in
    rw (p.1, p.2) (Fills-broken _ _ _ c.loop-at.at c.in_err-n.field-0.0 c.loop-at.buf c.read_behind.new.buf (omega arith) (omega arith) c.loop-at.invariant.filled c.in_err-n.ensures.bytes)

pub loop-at-preserved : goal.loop-at-preserved
loop-at-preserved g c =
    let h = c.in_ok-n.ensures in
    record {
      within = omega (arith, h.bound);
      stop_count = search rules;
      filled = FilledTo-more _ _ _ c.loop-at.at c.in_ok-n.n c.loop-at.buf c.read_behind.new.buf (omega arith) (omega arith) h.bound h.front c.loop-at.invariant.filled h.bytes;
    }
