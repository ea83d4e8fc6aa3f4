use Rattle.std.proofs.Common.{◌≡◌, ◌+◌, ◌<◌, false, List, length, sym, ap, ◌∙◌, subst, arith, length-append}
use Rattle.tiny_http_limits.specs.declared.connection_table.Entry.{Entry}
use Rattle.tiny_http_limits.specs.ConnectionTable.{Connected, is_address_full, IsKept}
use Rattle.tiny_http_limits.proofs.ConnectionTableLemmas.{kept-with, one-more}
use Rattle.tiny_http_limits.proofs.connection_table.ConnectionTable.enter.Goals as goal

pub invariant_of-self : goal.invariant_of-self
invariant_of-self g c =
    let opened : Connected g.row.T.Denot = record { most = c.self.inside.most; most_of_address = c.self.inside.most_of_address; next = c.self.inside.next; entries = c.self.inside.entries.items } in
    let room : length c.args.self.now.entries < c.args.self.now.most = grind (arith, c.is_full.ensures, c.if-is_full.false) in
    let free : is_address_full c.args.self.now c.args.address ≡ false = sym c.is_address_full.ensures ∙ c.if-is_address_full.false in
    let with_entries : List (Entry g.row.T.Denot) → Connected g.row.T.Denot = λ gs. record { most = opened.most; most_of_address = opened.most_of_address; next = opened.next + 1; entries = gs } in
    let inside : length c.self.inside.entries.items < c.self.inside.most = subst (λ v. length v.entries < v.most) (sym c.self.view_is) room in
    let present = c.self.invariant.1 in
    let more = one-more c.self.inside.present c.enter.new.self c.enter.result c.enter.ensures (omega (arith, present, inside, c.self.ranges.0.1)) in
    let sum : length c.push.new.self.items ≡ length c.self.inside.entries.items + 1 = ap length c.in-Ok.ensures.items ∙ length-append c.self.inside.entries.items _ in (
      subst (λ gs. IsKept (with_entries gs)) (sym {A = List (Entry g.row.T.Denot)} c.in-Ok.ensures.items)
          (kept-with opened c.args.address c.args.item c.self.invariant.0 (subst (λ v. length v.entries < v.most) (sym c.self.view_is) room) (subst (λ v. is_address_full v c.args.address ≡ false) (sym c.self.view_is) free)),
      omega (arith, sum, present, more),
    )
