use Rattle.std.proofs.Common.{◌≡◌, true, get_or, sym, ◌∙◌, arith}
use Rattle.tiny_http_head.specs.Common.{same_name}
use Rattle.tiny_http_response.proofs.AddHeaderLemmas.{with_value-set}
use Rattle.tiny_http_response.proofs.add_header.replace_value.Goals as goal

pub returns-then-equiv : goal.returns-then-equiv
returns-then-equiv c =
    let loop = c.loop-header in
    let inv = loop.invariant in
    let named : same_name (get_or loop.headers loop.header-index c.header-item.result).field c.args.name.now ≡ true = sym c.equiv.ensures ∙ c.if-equiv.true in
    rw (c.swap.ensures.x_after, ← inv.value, ← inv.same) (with_value-set c.args.name.now loop.value loop.headers loop.header-index c.header-item.result (omega arith) inv.passed named)
