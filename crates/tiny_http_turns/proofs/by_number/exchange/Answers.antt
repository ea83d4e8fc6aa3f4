use Rattle.std.proofs.Common.{◌≡◌, Some, slice_get, ap, sym, ◌∙◌, ltb-true}
use Rattle.std.proofs.lemmas.Option.{slice_get-get_or}
use Rattle.tiny_http_turns.specs.ByNumber.{value_of}
use Rattle.tiny_http_turns.proofs.FrontLemmas.{set-same}
use Rattle.tiny_http_turns.proofs.by_number.exchange.Goals as goal

pub returns-in-None-clause-none : goal.returns-in-None-clause-none
returns-in-None-clause-none g c =
    let entry = c.in_ok-entry.ensures in
    let now = c.in_ok-entry.entry.now in
    let here : slice_get c.args.kept.now.items c.args.at ≡ Some now = slice_get-get_or c.args.kept.now.items c.args.at now (ltb-true _ _ (sym entry.item.0)) ∙ ap Some (sym entry.value) in
    (ap value_of here ∙ c.in-None.is, set-same c.args.kept.now.items c.args.at now here)
