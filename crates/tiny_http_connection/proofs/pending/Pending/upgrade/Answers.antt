use Rattle.std.proofs.Common.{◌≡◌, ap, ◌∙◌, sym, subst, Some, false, slice_set}
use Rattle.tiny_http_body.specs.declared.body.UnreadBody.{UnreadBody}
use Rattle.tiny_http_body.specs.Body.{stream_body}
use Rattle.tiny_http_open_request.specs.declared.open_request.OpenRequest.{OpenRequest}
use Rattle.tiny_http_io.specs.Device.{Feed}
use Rattle.tiny_http_response.specs.ResponseValue.{printing_in, upgrade_text}
use Rattle.tiny_http_response.specs.Sending.{SendsQuietlyOn}
use Rattle.tiny_http_connection.specs.declared.pending.Unfinished.TheVariants as still
use Rattle.tiny_http_connection.proofs.PendingLemmas.{put-in-place, waiting-is}
use Rattle.tiny_http_connection.proofs.pending.Pending.upgrade.Goals as goal

pub returns-in-Some-clause-requests : goal.returns-in-Some-clause-requests
returns-in-Some-clause-requests g c w here =
    let took = c.in-Some.ensures.some in
    let same : c.in-Some.request ≡ w = waiting-is c.in-Some.request w (sym c.in-Some.ensures.some.0 ∙ here) in
    put-in-place c.args.self.now.requests c.take.new.self.requests c.replace.new.self c.args.number (still.Waiting c.in-Some.request) still.Raw (still.Upgraded c.become_stream.new.self) c.replace.result
    took.0 took.1 c.replace.ensures.some c.replace.ensures.none
    ∙ ap (λ b. slice_set c.args.self.now.requests c.args.number (Some (still.Upgraded b))) c.become_stream.ensures
    ∙ ap (λ (w : OpenRequest UnreadBody). slice_set c.args.self.now.requests c.args.number (Some (still.Upgraded (stream_body w.by_standard w.body)))) (c.upgrade.ensures.once ∙ ap (λ (w : OpenRequest UnreadBody). record w { owes_continue = false }) same)

pub returns-in-Some-clause-sends : goal.returns-in-Some-clause-sends
returns-in-Some-clause-sends g c w here =
    let same : c.in-Some.request ≡ w = waiting-is c.in-Some.request w (sym c.in-Some.ensures.some.0 ∙ here) in
    let e = c.upgrade.ensures in
    (subst (λ (w : OpenRequest UnreadBody). (content : Feed) → SendsQuietlyOn c.args.outlet.now c.upgrade.new.outlet (upgrade_text (record { answer = c.args.response.answer; content = content }) c.args.protocol.now (printing_in w.response_context c.args.now))) same e.sends, e.sent)
