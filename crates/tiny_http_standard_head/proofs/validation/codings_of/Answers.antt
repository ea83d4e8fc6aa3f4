use Rattle.std.proofs.Common.{rules, sym, ap, ◌∙◌}
use Rattle.std.specs.Prelude.{codes}
use Rattle.tiny_http_standard_head.specs.Lists.{between_commas}
use Rattle.tiny_http_standard_head.specs.ValidationReading.{codings_on}
use Rattle.tiny_http_standard_head.proofs.ListsLemmas.{header-passed}
use Rattle.tiny_http_standard_head.proofs.FoldLemmas.{codings-header}
use Rattle.tiny_http_standard_head.proofs.validation.codings_of.Goals.{then-equiv, else-equiv}
use Rattle.tiny_http_standard_head.proofs.validation.codings_of.Goals as goal

pub loop-header-preserved : goal.loop-header-preserved
loop-header-preserved c =
    let was = c.loop-header.codings in
    let name = codes "Transfer-Encoding" in
    let i = c.loop-header.header-index in
    let h = c.header-item.result in
    elim c.if-equiv.branch [
      | then-equiv w ↦ codings-header was c.if-equiv.codings name c.args.headers.now i h (search rules) c.header-item.is (sym c.equiv.ensures ∙ w.if-equiv.true)
          (w.codings-is ∙ w.codings_in-codings.ensures ∙ ap (λ v. codings_on was (between_commas v)) w.as_str.ensures.value) ∙ c.loop-header.invariant
      | else-equiv w ↦ rw w.codings-is (header-passed (codings_on was) name c.args.headers.now i h (search rules) c.header-item.is (sym c.equiv.ensures ∙ w.if-equiv.false) ∙ c.loop-header.invariant)
    ]
