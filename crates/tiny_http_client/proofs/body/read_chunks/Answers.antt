use Rattle.std.proofs.Common.{Some, rules, ◌<◌, length, take}
use Rattle.std.specs.IoError.{error_kind}
use Rattle.tiny_http_io.specs.Device.{whole_feed}
use Rattle.tiny_http_io.specs.declared.device.Stop.TheVariants.{End}
use Rattle.tiny_http_body.specs.Decoding.{decoding_coming}
use Rattle.tiny_http_client.proofs.ChunksReading.{decoded-nothing, decoded-over, decoded-broken, decoded-some}
use Rattle.tiny_http_client.proofs.body.read_chunks.Goals as goal

pub loop-body-init : goal.loop-body-init
loop-body-init c =
    let rest = c.args.rest.now in
    let coming = decoding_coming c.new-decoding.result (Some (whole_feed rest)) in
    let whole = c.new-decoding.ensures.whole in
    let front = c.new-decoding.ensures.front in
    rw c.new-body.ensures.items (decoded-nothing rest coming (λ body after w. whole rest body after End w) (λ body kind w. front rest body End kind w))

pub returns-in-Ok-eq0-clause-read : goal.returns-in-Ok-eq0-clause-read
returns-in-Ok-eq0-clause-read c =
    let coming = decoding_coming c.loop-body.decoding (Some (whole_feed c.loop-body.rest)) in
    decoded-over c.args.rest.now c.loop-body.body.items c.read.new.reader coming c.loop-body.invariant (c.in-Ok-eq0.ensures.end c.in-Ok-eq0.field-0-test (search rules))

pub returns-in-Err-clause-lacks : goal.returns-in-Err-clause-lacks
returns-in-Err-clause-lacks c =
    let coming = decoding_coming c.loop-body.decoding (Some (whole_feed c.loop-body.rest)) in
    rw (c.chunk_fault.ensures, c.kind.ensures) (decoded-broken c.args.rest.now c.loop-body.body.items (error_kind c.in-Err.e) coming c.loop-body.invariant c.in-Err.ensures.fault)

pub returns-in_err-extend_from_slice-in-Ok-clause-memory : goal.returns-in_err-extend_from_slice-in-Ok-clause-memory
returns-in_err-extend_from_slice-in-Ok-clause-memory c = λ _.
    let old = decoding_coming c.loop-body.decoding (Some (whole_feed c.loop-body.rest)) in
    let new = decoding_coming c.read.new.self (Some (whole_feed c.read.new.reader)) in
    let piece = take c.in-Ok.n c.read.new.buf in
    let some : 0 < length piece = search rules in
    decoded-some c.args.rest.now c.loop-body.body.items piece old new c.in-Ok.ensures.data c.loop-body.invariant some
