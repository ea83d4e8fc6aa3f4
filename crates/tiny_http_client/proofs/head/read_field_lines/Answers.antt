use Rattle.std.proofs.Common.{◌≡◌, true, rules}
use Rattle.std.specs.Result.{is_ok}
use Rattle.std.proofs.lemmas.Result.{err_from_is_err_and}
use Rattle.tiny_http_client.specs.declared.head.Fault.TheVariants.{Memory}
use Rattle.tiny_http_client.proofs.PartsLemmas.{field-lines-push, first-field}
use Rattle.tiny_http_client.proofs.head.read_field_lines.Goals as goal

pub loop-headers-preserved : goal.loop-headers-preserved
loop-headers-preserved c =
    let ok : is_ok c.push.result ≡ true = search rules in
    let read = rw c.in-Some.is at c.in_ok-header.ensures in
    rw (c.push.ensures.items, ok) (field-lines-push c.args.rest.now c.loop-headers.rest read.0 c.read_field_line.new.rest c.loop-headers.headers.items c.in-Some.header c.loop-headers.invariant read.1 read.2 read.3)

pub returns-in_err-header-clause-memory : goal.returns-in_err-header-clause-memory
returns-in_err-header-clause-memory c = λ e.
    let p = err_from_is_err_and c.from_residual.result c.from_residual.ensures.1 in
    let fault : c.in_err-header.field-0.0 ≡ Memory = cc (p.1, p.2, e) in
    first-field c.args.rest.now c.loop-headers.rest c.loop-headers.headers.items c.loop-headers.invariant (rw fault at c.in_err-header.ensures)

pub returns-then-is_err-clause-memory : goal.returns-then-is_err-clause-memory
returns-then-is_err-clause-memory c = λ _.
    let read = rw c.in-Some.is at c.in_ok-header.ensures in
    first-field c.args.rest.now c.loop-headers.rest c.loop-headers.headers.items c.loop-headers.invariant (read.0, c.read_field_line.new.rest, read.1, read.2, (c.in-Some.header, read.3))
