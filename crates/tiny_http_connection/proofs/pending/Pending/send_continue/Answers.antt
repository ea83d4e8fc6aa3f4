use Rattle.std.proofs.Common.{◌≡◌, ap, ◌∙◌, sym, subst, Some, true, false, slice_set}
use Rattle.tiny_http_body.specs.declared.body.UnreadBody.{UnreadBody}
use Rattle.tiny_http_open_request.specs.declared.open_request.OpenRequest.{OpenRequest}
use Rattle.tiny_http_open_request.specs.ErrorResponse.{own_text_by}
use Rattle.tiny_http_response.specs.ResponseValue.{printing_in}
use Rattle.tiny_http_response.specs.Sending.{SendsQuietlyOn}
use Rattle.tiny_http_connection.specs.declared.pending.Unfinished.TheVariants as still
use Rattle.tiny_http_connection.proofs.PendingLemmas.{put-in-place, waiting-is}
use Rattle.tiny_http_connection.proofs.pending.Pending.send_continue.Goals as goal

pub returns-in-Some-clause-requests : goal.returns-in-Some-clause-requests
returns-in-Some-clause-requests g c w here =
    let took = c.in-Some.ensures.some in
    let same : c.in-Some.request ≡ w = waiting-is c.in-Some.request w (sym c.in-Some.ensures.some.0 ∙ here) in
    put-in-place c.args.self.now.requests c.take.new.self.requests c.replace.new.self c.args.number (still.Waiting c.in-Some.request) still.Raw (still.Waiting c.send_continue.new.self) c.replace.result
    took.0 took.1 c.replace.ensures.some c.replace.ensures.none
    ∙ ap (λ (w : OpenRequest UnreadBody). slice_set c.args.self.now.requests c.args.number (Some (still.Waiting w))) (c.send_continue.ensures.once ∙ ap (λ (w : OpenRequest UnreadBody). record w { owes_continue = false }) same)

pub returns-in-Some-clause-sends : goal.returns-in-Some-clause-sends
returns-in-Some-clause-sends g c w here owed =
    let same : c.in-Some.request ≡ w = waiting-is c.in-Some.request w (sym c.in-Some.ensures.some.0 ∙ here) in
    let owes : c.in-Some.request.owes_continue ≡ true = ap (λ (w : OpenRequest UnreadBody). w.owes_continue) same ∙ owed in
    let e = c.send_continue.ensures in
    (subst (λ (w : OpenRequest UnreadBody). SendsQuietlyOn c.args.outlet.now c.send_continue.new.outlet (own_text_by 100 (printing_in w.response_context c.args.now))) same (e.sends owes), e.sent owes)
