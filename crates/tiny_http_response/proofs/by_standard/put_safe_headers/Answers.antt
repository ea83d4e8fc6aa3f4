use Rattle.std.proofs.Common.{ℕ, List, subst, ap, ◌∙◌, ◌≤◌, length, arith}
use Rattle.std.specs.List.{flat_map}
use Rattle.std.proofs.lemmas.List.{take_all}
use Rattle.std.proofs.lemmas.Result.{err_from_is_err_and}
use Rattle.std.specs.IoError.{error_kind}
use Rattle.tiny_http_io.specs.Device.{Failed, Took}
use Rattle.tiny_http_io.proofs.DeviceLemmas.{Failed-item}
use Rattle.tiny_http_response.proofs.ByStandardLemmas.{lines_of, header_by_header}
use Rattle.tiny_http_response.proofs.by_standard.put_safe_headers.Goals as goal

pub returns-in_err-put_safe_header : goal.returns-in_err-put_safe_header
returns-in_err-put_safe_header g c =
    let p = err_from_is_err_and c.from_residual.result c.from_residual.ensures.1 in
    let P : List ℕ → Type 0 = λ x. Failed (g.W.WriteDevice.sink c.args.writer.now) (g.W.WriteDevice.sink c.put_safe_header.new.writer) x (error_kind c.in_err-put_safe_header.field-0.0) in
    rw (p.1, p.2) (subst P (header_by_header c.args.headers.now) (Failed-item _ _ _ lines_of c.args.headers.now c.loop-header.header-index c.header-item.result _ (omega arith) c.header-item.is c.loop-header.invariant c.in_err-put_safe_header.ensures))

pub returns : goal.returns
returns g c =
    let W : List ℕ → Type 0 = λ x. Took (g.W.WriteDevice.sink c.args.writer.now) (g.W.WriteDevice.sink c.loop-header.writer) x in
    let past : length c.args.headers.now ≤ c.loop-header.header-index = omega arith in
    subst W (ap (flat_map lines_of) (take_all c.loop-header.header-index c.args.headers.now past) ∙ header_by_header c.args.headers.now) c.loop-header.invariant
