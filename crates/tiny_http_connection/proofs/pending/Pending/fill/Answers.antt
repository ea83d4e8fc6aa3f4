use Rattle.std.proofs.Common.{◌≡◌, ap, ◌∙◌, Some, slice_set}
use Rattle.tiny_http_connection.specs.declared.pending.Unfinished.TheVariants as still
use Rattle.tiny_http_connection.specs.Pending.{kept_body, number_with_body}
use Rattle.tiny_http_connection.proofs.PendingLemmas.{put-in-place}
use Rattle.tiny_http_connection.proofs.pending.Pending.fill.Goals as goal

pub returns-clause-fills : goal.returns-clause-fills
returns-clause-fills g c u was here kept =
    let got = c.in-Some.ensures.some in
    let same : c.in-Some.unfinished ≡ u = cc in
    let fills = c.fill_from-filled.ensures.fills was (ap (λ x. kept_body (Some x)) same ∙ kept) in
    let placed = put-in-place c.args.self.now.requests c.replace.new.self c.replace-2.new.self c.args.number c.in-Some.unfinished still.Raw c.fill_from-filled.new.unfinished c.replace-2.result
    got.0 got.1 c.replace-2.ensures.some c.replace-2.ensures.none in
    (fills.0, placed ∙ ap (λ x. slice_set c.args.self.now.requests c.args.number (Some x)) (fills.1 ∙ ap (number_with_body fills.0) same), fills.2, fills.3, fills.4, fills.5)
