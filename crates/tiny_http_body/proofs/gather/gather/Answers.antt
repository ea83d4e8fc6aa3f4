use Rattle.std.proofs.Common.{rules, arith}
use Rattle.std.proofs.lemmas.Result.{err_from_is_err_and}
use Rattle.tiny_http_body.proofs.DeviceGathers.{GatheredTo-more, Gathers-last, Gathers-fault, Gathers-full, Gathers-endless}
use Rattle.tiny_http_body.proofs.gather.gather.Goals as goal

pub returns-in_err-n-clause-gathers : goal.returns-in_err-n-clause-gathers
returns-in_err-n-clause-gathers g c =
    let p = err_from_is_err_and c.from_residual.result c.from_residual.ensures.1 in
    rw (p.1, p.2) (Gathers-fault _ _ _ c.loop-turn._turn _ c.fill.new.buf c.in_err-n.field-0.0 c.loop-turn.invariant.gathered c.in_err-n.ensures.bytes)

pub returns-in_err-extend_from_slice-clause-gathers : goal.returns-in_err-extend_from_slice-clause-gathers
returns-in_err-extend_from_slice-clause-gathers g c =
    let p = err_from_is_err_and c.from_residual-in_err-extend_from_slice.result c.from_residual-in_err-extend_from_slice.ensures.1 in
    rw p.1 (Gathers-full _ p.0 p.2)

pub returns-then-n-lt-PIECE-clause-gathers : goal.returns-then-n-lt-PIECE-clause-gathers
returns-then-n-lt-PIECE-clause-gathers g c =
    Gathers-last _ _ _ c.loop-turn._turn c.in_ok-n.n _ c.fill.new.buf _ (omega arith) (omega arith) c.loop-turn.invariant.gathered c.in_ok-n.ensures.bytes c.in_ok-extend_from_slice.ensures.items

pub loop-turn-preserved : goal.loop-turn-preserved
loop-turn-preserved g c = record {
  size = omega arith;
  stop_count = search rules;
  gathered = GatheredTo-more _ _ _ c.loop-turn._turn c.in_ok-n.n _ _ c.fill.new.buf (omega arith) (omega (arith, c.in_ok-n.ensures.bound)) c.loop-turn.invariant.gathered c.in_ok-n.ensures.bytes c.in_ok-extend_from_slice.ensures.items;
}

pub returns-clause-gathers : goal.returns-clause-gathers
returns-clause-gathers g c = Gathers-endless _ _ c.loop-turn._turn _ c.from.result (omega arith) c.loop-turn.invariant.gathered
