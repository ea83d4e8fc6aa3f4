use Rattle.std.proofs.Common.{ℕ, List, ◌∷◌, [], subst, arith, get_or, ◌<◌, length}
use Rattle.std.proofs.lemmas.List.{get_or_default}
use Rattle.std.proofs.lemmas.Result.{err_from_is_err_and}
use Rattle.std.specs.IoError.{error_kind}
use Rattle.tiny_http_io.specs.Device.{Failed}
use Rattle.tiny_http_io.proofs.DeviceLemmas.{Failed-item}
use Rattle.tiny_http_response.specs.ByStandard.{safe_byte}
use Rattle.tiny_http_response.proofs.ByStandardLemmas.{byte_by_byte}
use Rattle.tiny_http_response.proofs.by_standard.put_replaced.Goals as goal

pub returns-in_err-put : goal.returns-in_err-put
returns-in_err-put g c =
    let p = err_from_is_err_and c.from_residual.result c.from_residual.ensures.1 in
    let P : List ℕ → Type 0 = λ x. Failed (g.W.WriteDevice.sink c.args.writer.now) (g.W.WriteDevice.sink c.put.new.writer) x (error_kind c.in_err-put.field-0.0) in
    let within : c.loop-byte.byte-index < length c.args.value.now = omega arith in
    let item = get_or_default c.args.value.now c.loop-byte.byte-index 0 (get_or c.args.value.now c.loop-byte.byte-index 0) within in
    rw (p.1, p.2) (subst P (byte_by_byte c.args.value.now) (Failed-item _ _ _ (λ b. safe_byte b ∷ []) c.args.value.now c.loop-byte.byte-index (get_or c.args.value.now c.loop-byte.byte-index 0) _ within item c.loop-byte.invariant (rw c.safe_byte.ensures at c.in_err-put.ensures)))
