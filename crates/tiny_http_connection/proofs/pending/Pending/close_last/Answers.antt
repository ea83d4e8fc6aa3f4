use Rattle.std.proofs.Common.{ap, ◌∙◌, sym, Some, arith, slice_set}
use Rattle.tiny_http_body.specs.declared.body.UnreadBody.{UnreadBody}
use Rattle.tiny_http_open_request.specs.declared.open_request.OpenRequest.{OpenRequest}
use Rattle.tiny_http_connection.specs.declared.pending.Unfinished.TheVariants as still
use Rattle.tiny_http_connection.specs.Pending.{closing_if_asked}
use Rattle.tiny_http_connection.proofs.PendingLemmas.{put-in-place, closing-set, closing-none}
use Rattle.tiny_http_connection.proofs.pending.Pending.close_last.Goals as goal

pub returns-in-Some-take-clause-requests : goal.returns-in-Some-take-clause-requests
returns-in-Some-take-clause-requests c =
    let us = c.args.self.now.requests in
    let n = c.in-Some.last in
    let at = c.in-Some.ensures in
    let len = c.len.ensures in
    let took = c.in-Some-take.ensures.some in
    put-in-place us c.take.new.self.requests c.replace.new.self n (still.Waiting c.in-Some-take.request) still.Raw (still.Waiting c.close.new.self) c.replace.result
    took.0 took.1 c.replace.ensures.some c.replace.ensures.none
    ∙ ap (λ (w : OpenRequest UnreadBody). slice_set us n (Some (still.Waiting w))) c.close.ensures
    ∙ closing-set us n c.in-Some-take.request (omega (arith, at, len)) took.0
    ∙ ap (λ b. closing_if_asked b us) (sym c.if-not-closes.false)

pub returns-in_default-take-clause-requests : goal.returns-in_default-take-clause-requests
returns-in_default-take-clause-requests c =
    let us = c.args.self.now.requests in
    let at = c.in-Some.ensures in
    let len = c.len.ensures in
    let none = c.in_default-take.ensures.none in
    none.1 ∙ sym (closing-none us c.in-Some.last (omega (arith, at, len)) none.0) ∙ ap (λ b. closing_if_asked b us) (sym c.if-not-closes.false)
