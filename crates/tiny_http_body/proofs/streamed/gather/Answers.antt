use Rattle.std.proofs.Common.{◌≡◌, refl, ℕ, ◌+◌, ◌≤◌, List, [], ◌++◌, length, take, sym, ap, ◌∙◌, subst, inr, arith, length-take}
use Rattle.std.specs.IoError.{error_kind}
use Rattle.std.proofs.lemmas.List.{take_all}
use Rattle.std.proofs.lemmas.Result.{err_from_is_err_and}
use Rattle.tiny_http_io.specs.Device.{Failed}
use Rattle.tiny_http_body.specs.Streamed.{piece_text}
use Rattle.tiny_http_body.proofs.StreamedLemmas.{take-behind, length-behind}
use Rattle.tiny_http_body.proofs.streamed.gather.Goals as goal

pub returns-then-bytes-ge-CHUNK-clause-gathers : goal.returns-then-bytes-ge-CHUNK-clause-gathers
returns-then-bytes-ge-CHUNK-clause-gathers g c =
    let none : take c.args.len.now c.args.held.now ≡ [] = ap (λ (k : ℕ). take k c.args.held.now) c.if-len-eq0.true in
    rw none (omega arith, λ some. omega arith, inr (simp length-take (omega arith), c.in_ok-put_piece.ensures, refl))

pub returns-in_err-put_piece-2-clause-gathers : goal.returns-in_err-put_piece-2-clause-gathers
returns-in_err-put_piece-2-clause-gathers g c =
    let p = err_from_is_err_and c.from_residual-in_err-put_piece-2.result c.from_residual-in_err-put_piece-2.ensures.1 in
    let held : length c.args.held.now ≡ 8192 = c.told-held in
    let size : length c.copy_to.new.held ≡ 8192 = omega arith in
    let filled : c.copy_to.new.held ≡ take c.args.len.now c.args.held.now ++ take c.min-count.result c.args.bytes.now = sym (take_all (c.args.len.now + c.min-count.result) c.copy_to.new.held (omega arith)) ∙ c.copy_to.ensures in
    let whole : c.copy_to.new.held ≡ take 8192 (take c.args.len.now c.args.held.now ++ c.args.bytes.now) =
    filled ∙ sym (take-behind (take c.args.len.now c.args.held.now) c.args.bytes.now c.min-count.result 8192 (simp length-take (omega arith))) in
    let long : 8192 ≤ length (take c.args.len.now c.args.held.now ++ c.args.bytes.now) = length-behind (take c.args.len.now c.args.held.now) c.args.bytes.now 8192 (simp length-take (omega arith)) in
    rw (p.1, p.2) (long, subst (λ (piece : List ℕ). Failed (g.W.WriteDevice.sink c.args.writer.now) (g.W.WriteDevice.sink c.put_piece-2.new.writer) (piece_text c.args.form piece) (error_kind c.in_err-put_piece-2.field-0.0)) whole c.in_err-put_piece-2.ensures)

pub returns-in_err-put_piece-clause-gathers : goal.returns-in_err-put_piece-clause-gathers
returns-in_err-put_piece-clause-gathers g c =
    let p = err_from_is_err_and c.from_residual.result c.from_residual.ensures.1 in
    let none : take c.args.len.now c.args.held.now ≡ [] = ap (λ (k : ℕ). take k c.args.held.now) c.if-len-eq0.true in
    rw (p.1, p.2, none) (omega arith, c.in_err-put_piece.ensures)
