use Rattle.std.proofs.Common.{rules, ◌≡◌, refl, ap, ◌∙◌, Err, true, subst, List, arith}
use Rattle.std.specs.Result.{is_ok}
use Rattle.tiny_http_head.specs.declared.common.Header.{Header}
use Rattle.tiny_http_standard_head.specs.declared.source_heads.NoHead.TheVariants.{Memory}
use Rattle.tiny_http_io.proofs.SourceGoesOn.{goes-on_same, goes-on_more}
use Rattle.tiny_http_standard_head.specs.SourceHeads.{HasReadFields}
use Rattle.tiny_http_standard_head.proofs.HeadsLemmas.{one-more}
use Rattle.tiny_http_standard_head.proofs.SourceJoining.{fields-none, fields-more, fields-many, fields-lack, fields-lack-more, not-empty}
use Rattle.tiny_http_standard_head.proofs.source_heads.read_fields.Goals as goal

pub loop-header-init : goal.loop-header-init
loop-header-init g c =
    let limit = c.args.left.now in
    let old = c.args.source.now.feed in
    record {
      reads = subst (λ (hs : List Header). HasReadFields limit limit old old hs) (search rules) (fields-none limit old);
      few = search rules;
      shorter = omega arith;
      goes_on = goes-on_same old;
      stop = search rules;
      first = λ _. (refl, refl);
      input_state = search rules;
    }

pub loop-header-preserved : goal.loop-header-preserved
loop-header-preserved g c =
    let limit = c.args.left.now in
    let old = c.args.source.now.feed in
    let new = c.read_field.new in
    let ok : is_ok c.push.result ≡ true = search rules in
    let read = rw c.in-Ok-Some.field-0-is at c.in-Ok-Some.ensures.reads in
    let more = fields-more limit c.loop-header.left new.left old c.loop-header.source.feed new.source.feed c.loop-header.headers.items c.in-Ok-Some.header c.loop-header.invariant.reads read in
    record {
      reads = rw (c.push.ensures.items, ok) more;
      few = rw (c.push.ensures.items, ok) (omega (arith, one-more c.loop-header.headers.items c.in-Ok-Some.header, c.if-len-ge-MOST_HEADERS.false, c.len.ensures));
      shorter = omega (arith, c.loop-header.invariant.shorter, c.in-Ok-Some.ensures.shorter);
      goes_on = goes-on_more _ _ _ c.loop-header.invariant.goes_on c.read_field.ensures.goes_on;
      stop = c.in-Ok-Some.ensures.lazy ∙ c.loop-header.invariant.stop;
      first = λ none. not-empty c.loop-header.headers.items c.in-Ok-Some.header (rw (c.push.ensures.items, ok) at none);
      input_state = c.read_field.ensures.input_state ∙ c.loop-header.invariant.input_state;
    }

pub returns-then-len-ge-MOST_HEADERS-clause-reads : goal.returns-then-len-ge-MOST_HEADERS-clause-reads
returns-then-len-ge-MOST_HEADERS-clause-reads g c =
    let limit = c.args.left.now in
    let old = c.args.source.now.feed in
    let new = c.read_field.new in
    let hs = c.loop-header.headers.items in
    let read = rw c.in-Ok-Some.field-0-is at c.in-Ok-Some.ensures.reads in
    let more = fields-more limit c.loop-header.left new.left old c.loop-header.source.feed new.source.feed hs c.in-Ok-Some.header c.loop-header.invariant.reads read in
    fields-many limit new.left old new.source.feed hs c.in-Ok-Some.header more (omega (arith, c.if-len-ge-MOST_HEADERS.true, c.len.ensures, c.loop-header.invariant.few))

pub returns-then-len-ge-MOST_HEADERS-clause-goes_on : goal.returns-then-len-ge-MOST_HEADERS-clause-goes_on
returns-then-len-ge-MOST_HEADERS-clause-goes_on g c = goes-on_more _ _ _ c.loop-header.invariant.goes_on c.read_field.ensures.goes_on

pub returns-then-is_err-clause-goes_on : goal.returns-then-is_err-clause-goes_on
returns-then-is_err-clause-goes_on g c = goes-on_more _ _ _ c.loop-header.invariant.goes_on c.read_field.ensures.goes_on

pub returns-in-Ok-None-clause-goes_on : goal.returns-in-Ok-None-clause-goes_on
returns-in-Ok-None-clause-goes_on g c = goes-on_more _ _ _ c.loop-header.invariant.goes_on c.read_field.ensures.goes_on

pub returns-in-Err-clause-goes_on : goal.returns-in-Err-clause-goes_on
returns-in-Err-clause-goes_on g c = goes-on_more _ _ _ c.loop-header.invariant.goes_on c.read_field.ensures.goes_on

pub returns-in-Err-clause-memory : goal.returns-in-Err-clause-memory
returns-in-Err-clause-memory g c memory =
    let why : c.in-Err.why ≡ Memory = cc in
    let new = c.read_field.new.source in
    fields-lack c.args.left.now c.loop-header.left c.args.source.now.feed c.loop-header.source.feed new.feed new.held c.loop-header.headers.items c.loop-header.invariant.reads c.loop-header.invariant.first (c.in-Err.ensures.memory (ap Err why))

pub returns-then-is_err-clause-memory : goal.returns-then-is_err-clause-memory
returns-then-is_err-clause-memory g c memory =
    let limit = c.args.left.now in
    let old = c.args.source.now.feed in
    let new = c.read_field.new in
    let hs = c.loop-header.headers.items in
    let read = rw c.in-Ok-Some.field-0-is at c.in-Ok-Some.ensures.reads in
    let more = fields-more limit c.loop-header.left new.left old c.loop-header.source.feed new.source.feed hs c.in-Ok-Some.header c.loop-header.invariant.reads read in
    fields-lack-more limit new.left old new.source.feed new.source.feed new.source.held hs c.in-Ok-Some.header more
