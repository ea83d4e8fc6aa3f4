use Rattle.std.proofs.Common.{rules, ◌<◌, ◌∙◌, arith, length, take}
use Rattle.std.proofs.lemmas.List.{length-take-le}
use Rattle.tiny_http_io.specs.declared.device.Stop.TheVariants.{End}
use Rattle.tiny_http_io.proofs.FeedPartsLemmas.{last-stop, last-none, last-bytes, nothing-given}
use Rattle.tiny_http_io.proofs.equal_reader.read_away.Goals as goal

pub returns-in-Err-clause-feed : goal.returns-in-Err-clause-feed
returns-in-Err-clause-feed g c = c.in-Err.ensures.again ∙ (last-stop _ c.loop-left.left _ c.in-Err.ensures.fault ∙ c.loop-left.invariant.feed)

pub returns-in-Ok-eq0-clause-feed : goal.returns-in-Ok-eq0-clause-feed
returns-in-Ok-eq0-clause-feed g c =
    let mid = g.R.ReadDevice.feed c.loop-left.inner in
    let e = c.in-Ok-eq0.ensures in
    let n = c.in-Ok-eq0.field-0 in
    let some : 0 < c.loop-left.left = omega arith in
    let room : 0 < length c.read_front.new.buf = omega arith in
    let none = length-take-le n c.read_front.new.buf e.bound ∙ c.in-Ok-eq0.field-0-test in
    nothing-given mid _ (take n c.read_front.new.buf) e.bytes none ∙ (last-stop mid c.loop-left.left End (e.end c.in-Ok-eq0.field-0-test some room) ∙ c.loop-left.invariant.feed)

pub loop-left-preserved : goal.loop-left-preserved
loop-left-preserved g c =
    let e = c.in-Ok.ensures in
    record {
      feed = last-bytes _ _ (take c.in-Ok.n c.read_front.new.buf) c.loop-left.left c.in-Ok.n e.bytes (length-take-le c.in-Ok.n c.read_front.new.buf e.bound) e.most ∙ c.loop-left.invariant.feed;
      stop_count = search rules;
    }

pub returns-clause-feed : goal.returns-clause-feed
returns-clause-feed g c = last-none _ c.loop-left.left (omega arith) ∙ c.loop-left.invariant.feed
