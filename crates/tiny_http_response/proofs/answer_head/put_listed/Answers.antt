use Rattle.std.proofs.Common.{option_copied, ◌≡◌, ℕ, ◌≤◌, List, None, sym, subst, arith}
use Rattle.std.specs.IoError.{error_kind}
use Rattle.std.proofs.lemmas.Result.{err_from_is_err_and}
use Rattle.tiny_http_io.specs.Device.{Failed}
use Rattle.tiny_http_io.proofs.DeviceLemmas.{Failed-front}
use Rattle.tiny_http_response.proofs.ByStandardLemmas.{listed_lines, copied_none}
use Rattle.tiny_http_response.proofs.answer_head.put_listed.Goals as goal

pub returns-in_err-put_connection : goal.returns-in_err-put_connection
returns-in_err-put_connection g c =
    let p = err_from_is_err_and c.from_residual.result c.from_residual.ensures.1 in
    let head = c.args.head.now in
    let says = c.in-Some.persistence in
    let fails : List ℕ → Type 0 = λ x. Failed (g.W.WriteDevice.sink c.args.writer.now) (g.W.WriteDevice.sink c.put_connection.new.writer) x (error_kind c.in_err-put_connection.field-0.0) in
    let later : 200 ≤ head.status.0 = omega arith in
    let none : option_copied c.args.upgrade ≡ None = copied_none c.args.upgrade c.if-is_none.ensures in
    let front = rw c.persistence_option.ensures at c.in_err-put_connection.ensures in
    rw (p.1, p.2, c.in-Some.is, none) (subst fails (sym (listed_lines says head.version head.status.0 head.offered.now head.headers.now later)) (Failed-front _ _ _ _ _ front))
