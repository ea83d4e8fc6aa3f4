use Rattle.std.proofs.Common.{rules, ◌≡◌, sym, subst, true, false, Bool}
use Rattle.std.specs.List.{list_all}
use Rattle.tiny_http_text.specs.Bytes.{is_ascii}
use Rattle.tiny_http_io.specs.Outlet.{output_of, outlet_ended}
use Rattle.tiny_http_response.specs.Sending.{SendsUnlessEnded}
use Rattle.tiny_http_response.specs.ResponseValue.{printing_in, upgrade_text}
use Rattle.tiny_http_open_request.proofs.ErrorResponseLemmas.{upgrade-quietly}
use Rattle.tiny_http_open_request.proofs.upgrading.send_upgrade_quietly.Goals as goal

pub returns-clause-sends : goal.returns-clause-sends
returns-clause-sends g c content can =
    let open_is : outlet_ended c.args.outlet.now ≡ false = search (rules, c.if-is_ended.false, c.is_ended.ensures) in
    let ascii : list_all is_ascii c.args.protocol.now ≡ true = c.requires in
    let p = printing_in c.args.context c.args.now in
    let quiet = upgrade-quietly {T = Unit {0}} _ _ _ c.send_upgrade.result c.args.response.answer content p c.args.protocol.now ascii (c.send_upgrade.ensures.sends content (can open_is)) in
    let P : Bool → Type 0 = λ was. SendsUnlessEnded was (output_of c.args.outlet.now) (output_of c.send_upgrade.new.outlet) (outlet_ended c.send_upgrade.new.outlet) (upgrade_text (record { answer = c.args.response.answer; content = content }) c.args.protocol.now p) in
    subst P (sym open_is) quiet
