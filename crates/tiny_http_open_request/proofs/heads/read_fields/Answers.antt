use Rattle.std.proofs.Common.{rules, ◌≡◌, refl, ◌∙◌, true}
use Rattle.std.specs.Result.{is_ok}
use Rattle.tiny_http_open_request.proofs.HeadReadsLemmas.{fields-none, fields-more, fields-err}
use Rattle.tiny_http_io.proofs.SourceGoesOn.{goes-on_same, goes-on_more}
use Rattle.tiny_http_open_request.proofs.heads.read_fields.Goals as goal

pub loop-header-init : goal.loop-header-init
loop-header-init g c = record {
  fields = rw c.new-headers.ensures.items (fields-none c.args.left.now c.args.source.now.feed);
  goes_on = goes-on_same c.args.source.now.feed;
  lazy = refl;
  input_state = refl;
}

pub loop-header-preserved : goal.loop-header-preserved
loop-header-preserved g c =
    let ok : is_ok c.push.result ≡ true = search rules in
    let read = rw c.in-Ok-Some.field-0-is at c.in-Ok-Some.ensures in
    record {
      fields = rw (c.push.ensures.items, ok) (fields-more c.args.left.now c.loop-header.left _ _ c.loop-header.source.feed _ c.loop-header.headers.items c.in-Ok-Some.header c.loop-header.invariant.fields read.reads);
      goes_on = goes-on_more _ _ _ c.loop-header.invariant.goes_on read.goes_on;
      lazy = read.lazy ∙ c.loop-header.invariant.lazy;
      input_state = read.input_state ∙ c.loop-header.invariant.input_state;
    }

pub returns-then-is_err-clause-goes_on : goal.returns-then-is_err-clause-goes_on
returns-then-is_err-clause-goes_on g c =
    let read = rw c.in-Ok-Some.field-0-is at c.in-Ok-Some.ensures in
    goes-on_more _ _ _ c.loop-header.invariant.goes_on read.goes_on

pub returns-in-Ok-None-clause-goes_on : goal.returns-in-Ok-None-clause-goes_on
returns-in-Ok-None-clause-goes_on g c =
    let read = rw c.in-Ok-None.field-0-is at c.in-Ok-None.ensures in
    goes-on_more _ _ _ c.loop-header.invariant.goes_on read.goes_on

pub returns-in-Err-clause-goes_on : goal.returns-in-Err-clause-goes_on
returns-in-Err-clause-goes_on g c = goes-on_more _ _ _ c.loop-header.invariant.goes_on c.in-Err.ensures.goes_on

pub returns-in-Err-clause-reads : goal.returns-in-Err-clause-reads
returns-in-Err-clause-reads g c =
    fields-err (λ hs. hs.items) c.args.left.now c.loop-header.left c.read_field.new.left _ c.loop-header.source.feed _ c.loop-header.headers.items c.in-Err.fault c.loop-header.invariant.fields c.in-Err.ensures.reads
