use Rattle.std.proofs.Common.{◌≡◌, List, arith, Some, sym, ap, ◌∙◌, subst}
use Rattle.std.specs.Prelude.{option_map, position}
use Rattle.tiny_http_limits.specs.declared.connection_table.Entry.{Entry}
use Rattle.tiny_http_limits.specs.ConnectionTable.{Connected, has_number, item_of, without, IsKept}
use Rattle.tiny_http_limits.proofs.ConnectionTableLemmas.{at-place, one-less, no-place, nobody-found, all-stay, gone, its-item, kept-without}
use Rattle.tiny_http_limits.proofs.connection_table.ConnectionTable.leave.Given as given
use Rattle.tiny_http_limits.proofs.connection_table.ConnectionTable.leave.Goals as goal

pub returns-in_err-at-clause-item : goal.returns-in_err-at-clause-item
returns-in_err-at-clause-item g c =
    let stay = no-place (has_number c.args.number) c.args.self.now.entries (sym c.in_err-at.ensures) in
    c.from_residual.ensures ∙ sym (ap (option_map (λ x. x.item)) (nobody-found c.args.number c.args.self.now.entries stay))

pub returns-in_err-at-clause-gone : goal.returns-in_err-at-clause-gone
returns-in_err-at-clause-gone g c =
    let stay = no-place (has_number c.args.number) c.args.self.now.entries (sym c.in_err-at.ensures) in
    let with_entries : List (Entry g.row.T.Denot) → Connected g.row.T.Denot = λ gs. record c.args.self.now { entries = gs } in
    ap with_entries (sym (all-stay c.args.number c.args.self.now.entries stay))

-- the census as it was opened
opened : (g : given.Over) → goal.After-remove g → Connected g.row.T.Denot
opened g c = record { most = c.self.inside.most; most_of_address = c.self.inside.most_of_address; next = c.self.inside.next; entries = c.self.inside.entries.items }

place : (g : given.Over) (c : goal.After-remove g) → Some c.in_ok-at.at ≡ position (has_number c.args.number) c.self.inside.entries.items
place g c = c.in_ok-at.ensures ∙ ap (λ v. position (has_number c.args.number) v.entries) (sym c.self.view_is)

one : (g : given.Over) (c : goal.After-remove g) → c.remove.new.self.items ≡ without c.args.number c.self.inside.entries.items
unfolding opened
one g c = gone c.args.number c.in_ok-at.at (opened g c) c.remove.new.self.items c.self.invariant.0 (place g c) c.remove.ensures.items

pub invariant_of-self : goal.invariant_of-self
unfolding opened
invariant_of-self g c =
    let with_entries : List (Entry g.row.T.Denot) → Connected g.row.T.Denot = λ gs. record (opened g c) { entries = gs } in
    let present = c.self.invariant.1 in
    let some = (at-place (has_number c.args.number) c.self.inside.entries.items c.in_ok-at.at (sym (place g c))).0 in
    let less = one-less c.self.inside.present c.leave.new.self c.leave.result c.leave.ensures (omega (arith, present, some)) in
    (subst (λ gs. IsKept (with_entries gs)) (sym (one g c)) (kept-without c.args.number (opened g c) c.self.invariant.0), omega (arith, less, present, c.remove.ensures.len))

pub returns-clause-item : goal.returns-clause-item
returns-clause-item g c =
    its-item c.args.number c.in_ok-at.at c.self.inside.entries.items c.remove.result (place g c) c.remove.ensures.value
    ∙ ap (λ v. item_of c.args.number v.entries) c.self.view_is

pub returns-clause-gone : goal.returns-clause-gone
unfolding opened
returns-clause-gone g c =
    let with_entries : List (Entry g.row.T.Denot) → Connected g.row.T.Denot = λ gs. record (opened g c) { entries = gs } in
    let leaves : Connected g.row.T.Denot → Connected g.row.T.Denot = λ v. record v { entries = without c.args.number v.entries } in
    ap with_entries (one g c) ∙ ap leaves c.self.view_is
