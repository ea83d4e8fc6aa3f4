use Rattle.std.proofs.Common.{◌≡◌, ℕ, refl, length, arith, length-take, inl, inr}
use Rattle.std.proofs.lemmas.List.{take-take}
use Rattle.std.proofs.lemmas.Result.{err_from_is_err_and}
use Rattle.tiny_http_body.proofs.DeviceFaults.{SameFaults-none, Took-same, Failed-faulted}
use Rattle.tiny_http_body.proofs.DeviceCopies.{Copied-piece, Breaks-read, Breaks-end, Breaks-write, Takes-none, Takes-read}
use Rattle.tiny_http_body.proofs.identity.put_piece.Goals as goal

pub returns-in_err-count-clause-copies : goal.returns-in_err-count-clause-copies
returns-in_err-count-clause-copies g c =
    let p = err_from_is_err_and c.from_residual.result c.from_residual.ensures.1 in
    rw (p.1, p.2) (Breaks-read _ _ _ _ _ _ c.in_err-count.ensures.bytes)

pub returns-then-count-eq0-clause-copies : goal.returns-then-count-eq0-clause-copies
returns-then-count-eq0-clause-copies g c =
    let size : length c.read_into_front.new.buf ≡ length c.args.buf.now = c.read_into_front.auto.buf in
    rw c.into.ensures (Breaks-end _ _ _ _ _ _ c.if-count-eq0.true (simp length-take (omega arith)) c.in_ok-count.ensures.bytes)

pub returns-in_err-put-clause-copies : goal.returns-in_err-put-clause-copies
returns-in_err-put-clause-copies g c =
    let p = err_from_is_err_and c.from_residual-in_err-put.result c.from_residual-in_err-put.ensures.1 in
    let size : length c.read_into_front.new.buf ≡ length c.args.buf.now = c.read_into_front.auto.buf in
    let fits = c.in_ok-count.ensures.bound in
    rw (p.1, p.2) (Breaks-write _ _ _ _ _ _ _ _ (simp length-take (omega (arith, fits))) (omega (arith, fits)) c.in_ok-count.ensures.bytes (rw (take-take _ _ c.read_into_front.new.buf fits) c.in_err-put.ensures))

pub returns-clause-copies : goal.returns-clause-copies
returns-clause-copies g c =
    let size : length c.read_into_front.new.buf ≡ length c.args.buf.now = c.read_into_front.auto.buf in
    let fits = c.in_ok-count.ensures.bound in
    (omega (arith, c.if-count-eq0.false), omega (arith, fits), Copied-piece _ _ _ _ _ _ (simp length-take (omega (arith, fits))) c.in_ok-count.ensures.bytes (rw (take-take _ _ c.read_into_front.new.buf fits) c.in_ok-put.ensures))

pub returns-in_err-count-clause-uses : goal.returns-in_err-count-clause-uses
returns-in_err-count-clause-uses g c =
    let p = err_from_is_err_and c.from_residual.result c.from_residual.ensures.1 in
    rw (p.1, p.2) (inl (SameFaults-none _))

pub returns-then-count-eq0-clause-uses : goal.returns-then-count-eq0-clause-uses
returns-then-count-eq0-clause-uses g c = inl (SameFaults-none _)

pub returns-in_err-put-clause-uses : goal.returns-in_err-put-clause-uses
returns-in_err-put-clause-uses g c =
    let p = err_from_is_err_and c.from_residual-in_err-put.result c.from_residual-in_err-put.ensures.1 in
    rw (p.1, p.2) (inr (Failed-faulted _ _ _ _ c.in_err-put.ensures))

pub returns-clause-uses : goal.returns-clause-uses
returns-clause-uses g c = Took-same _ _ _ c.in_ok-put.ensures

pub returns-in_err-count-clause-takes : goal.returns-in_err-count-clause-takes
returns-in_err-count-clause-takes g c =
    let p = err_from_is_err_and c.from_residual.result c.from_residual.ensures.1 in
    Takes-none _ _ _ _ _ _ _ p.1 c.in_err-count.ensures.bytes

pub returns-then-count-eq0-clause-takes : goal.returns-then-count-eq0-clause-takes
returns-then-count-eq0-clause-takes g c =
    let size : length c.read_into_front.new.buf ≡ length c.args.buf.now = c.read_into_front.auto.buf in
    let fits = c.in_ok-count.ensures.bound in
    Takes-read {T = ℕ} _ _ _ _ c.into.result _ _ refl (simp length-take (omega (arith, fits))) (omega (arith, fits)) c.in_ok-count.ensures.bytes

pub returns-in_err-put-clause-takes : goal.returns-in_err-put-clause-takes
returns-in_err-put-clause-takes g c =
    let p = err_from_is_err_and c.from_residual-in_err-put.result c.from_residual-in_err-put.ensures.1 in
    let size : length c.read_into_front.new.buf ≡ length c.args.buf.now = c.read_into_front.auto.buf in
    let fits = c.in_ok-count.ensures.bound in
    Takes-read _ _ _ _ _ _ _ p.1 (simp length-take (omega (arith, fits))) (omega (arith, fits)) c.in_ok-count.ensures.bytes
