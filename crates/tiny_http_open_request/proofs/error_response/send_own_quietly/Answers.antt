use Rattle.std.proofs.Common.{rules, ◌≡◌, refl, sym, subst, false, Bool, arith}
use Rattle.tiny_http_io.specs.Outlet.{output_of, outlet_ended}
use Rattle.tiny_http_response.specs.Sending.{SendsUnlessEnded}
use Rattle.tiny_http_open_request.specs.ErrorResponse.{own_text_by}
use Rattle.tiny_http_response.specs.ResponseValue.{printing_in}
use Rattle.tiny_http_open_request.proofs.ErrorResponseLemmas.{own-quietly}
use Rattle.tiny_http_open_request.proofs.error_response.send_own_quietly.Goals as goal

pub returns-clause-sends : goal.returns-clause-sends
returns-clause-sends g c can =
    let open_is : outlet_ended c.args.outlet.now ≡ false = search (rules, c.if-is_ended.false, c.is_ended.ensures) in
    let context = c.args.context in
    let quiet = own-quietly {T = Unit {0}} _ _ _ c.send.result _ c.args.status.0 context.asked_coding context.version context.no_body context.persistence c.args.now c.empty-answer.ensures
    (c.send.ensures.sends _ refl (omega arith) (can open_is)) in
    let P : Bool → Type 0 = λ was. SendsUnlessEnded was (output_of c.args.outlet.now) (output_of c.send.new.outlet) (outlet_ended c.send.new.outlet) (own_text_by c.args.status.0 (printing_in context c.args.now)) in
    subst P (sym open_is) quiet
