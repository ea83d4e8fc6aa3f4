use Rattle.std.proofs.Common.{rules}
use Rattle.std.proofs.lemmas.Result.{on_ok_weaker}
use Rattle.tiny_http_events.proofs.LineFeeds.{fields-first, fields-one}
use Rattle.tiny_http_events.proofs.event.put_fields.Goals as goal

pub loop-line-preserved : goal.loop-line-preserved
loop-line-preserved c =
    fields-first c.loop-line.text.items c.put_field.new.text.items c.args.name.now c.loop-line.rest.now c.in-Some.line.now c.in-Some.after.now _ (search rules) c.in-Some.ensures.line c.in-Some.ensures.joins c.loop-line.invariant

pub returns : goal.returns
returns c =
    on_ok_weaker c.put_field-2.result
    (λ e. fields-one c.loop-line.text.items c.put_field-2.new.text.items c.args.name.now c.loop-line.rest.now _ e c.in_default.ensures.none c.loop-line.invariant)
    c.put_field-2.ensures
