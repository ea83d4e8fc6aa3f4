use Rattle.std.proofs.Common.{rules, Err, arith, inl, inr}
use Rattle.std.proofs.lemmas.Result.{err_from_is_err_and}
use Rattle.tiny_http_body.proofs.DeviceFaults.{SameFaults-append, Took-same, Failed-faulted, Puts-uses, Uses-behind}
use Rattle.tiny_http_body.proofs.ChunkedBodies.{ChunkedTo-more, Prints-fault, Prints-last, Prints-cut, Prints-endless}
use Rattle.tiny_http_body.proofs.chunks.put_chunked.Goals as goal

pub returns-in_err-count-clause-text : goal.returns-in_err-count-clause-text
returns-in_err-count-clause-text g c =
    let p = err_from_is_err_and c.from_residual.result c.from_residual.ensures.1 in
    rw (p.1, p.2) (Prints-fault _ _ _ _ _ c.loop-turn._turn c.in_err-count.field-0.0 c.fill.new.buf (omega arith) c.loop-turn.invariant.copied c.in_err-count.ensures.bytes)

pub returns-in_err-count-clause-uses : goal.returns-in_err-count-clause-uses
returns-in_err-count-clause-uses g c =
    let p = err_from_is_err_and c.from_residual.result c.from_residual.ensures.1 in
    rw (p.1, p.2) (inl c.loop-turn.invariant.same)

pub returns-then-count-lt-CHUNK-clause-text : goal.returns-then-count-lt-CHUNK-clause-text
returns-then-count-lt-CHUNK-clause-text g c = Prints-last _ _ _ _ _ _ c.loop-turn._turn c.in_ok-count.count _ c.fill.new.buf (omega arith) (omega arith) c.loop-turn.invariant.copied c.in_ok-count.ensures.bytes c.put_last.ensures

pub returns-then-count-lt-CHUNK-clause-uses : goal.returns-then-count-lt-CHUNK-clause-uses
returns-then-count-lt-CHUNK-clause-uses g c = Uses-behind _ _ _ _ c.loop-turn.invariant.same (Puts-uses _ _ _ _ c.put_last.ensures)

pub returns-in_err-put_chunk-clause-text : goal.returns-in_err-put_chunk-clause-text
returns-in_err-put_chunk-clause-text g c =
    let p = err_from_is_err_and c.from_residual-in_err-put_chunk.result c.from_residual-in_err-put_chunk.ensures.1 in
    rw (p.1, p.2) (Prints-cut _ _ _ _ _ _ c.loop-turn._turn c.in_ok-count.count c.in_err-put_chunk.field-0.0 c.fill.new.buf (omega arith) (omega (arith, c.in_ok-count.ensures.bound)) c.loop-turn.invariant.copied c.in_ok-count.ensures.bytes c.in_err-put_chunk.ensures)

pub returns-in_err-put_chunk-clause-uses : goal.returns-in_err-put_chunk-clause-uses
returns-in_err-put_chunk-clause-uses g c =
    let p = err_from_is_err_and c.from_residual-in_err-put_chunk.result c.from_residual-in_err-put_chunk.ensures.1 in
    rw (p.1, p.2) (Uses-behind {T = Unit {0}} _ _ _ (Err c.in_err-put_chunk.field-0.0) c.loop-turn.invariant.same (inr (Failed-faulted _ _ _ _ c.in_err-put_chunk.ensures)))

pub loop-turn-preserved : goal.loop-turn-preserved
loop-turn-preserved g c = record {
  size = omega arith;
  stop_count = search rules;
  copied = ChunkedTo-more _ _ _ _ _ _ c.loop-turn._turn c.in_ok-count.count c.fill.new.buf (omega arith) (omega (arith, c.in_ok-count.ensures.bound)) c.loop-turn.invariant.copied c.in_ok-count.ensures.bytes c.in_ok-put_chunk.ensures;
  same = SameFaults-append _ _ _ c.loop-turn.invariant.same (Took-same _ _ _ c.in_ok-put_chunk.ensures);
}

pub returns-clause-text : goal.returns-clause-text
returns-clause-text g c = Prints-endless {T = Unit {0}} _ _ _ _ c.loop-turn._turn (Err c.into.result) (omega arith) c.loop-turn.invariant.copied
