use Rattle.std.proofs.Common.{rules, sym, ap, ◌∙◌, Ok}
use Rattle.std.specs.Prelude.{codes}
use Rattle.tiny_http_head.specs.Lists.{is_left_out, elements_in}
use Rattle.tiny_http_head.specs.ContentLength.{lengths_after}
use Rattle.tiny_http_head.proofs.ListsLemmas.{header-passed}
use Rattle.tiny_http_head.proofs.ContentLengthLemmas.{lengths-header, lengths-header_err}
use Rattle.tiny_http_head.proofs.content_length.one_length.Goals.{then-equiv+in-Ok, else-equiv}
use Rattle.tiny_http_head.proofs.content_length.one_length.Goals as goal

pub loop-header-preserved : goal.loop-header-preserved
loop-header-preserved c =
    let p = is_left_out c.args.blanks in
    let found = c.loop-header.found in
    let name = codes "Content-Length" in
    let i = c.loop-header.header-index in
    let h = c.header-item.result in
    elim c.if-equiv.branch [
      | then-equiv+in-Ok w ↦ lengths-header p found c.if-equiv.found name c.args.headers.now i h (search rules) c.header-item.is (sym c.equiv.ensures ∙ w.if-equiv.true)
          (ap (λ v. lengths_after found (elements_in p v)) (sym w.as_str.ensures.value) ∙ sym w.lengths_in.ensures ∙ w.in-Ok.is ∙ ap Ok (sym w.found-is)) ∙ c.loop-header.invariant
      | else-equiv w ↦ rw w.found-is (header-passed p (λ x. lengths_after found x) name c.args.headers.now i h (search rules) c.header-item.is (sym c.equiv.ensures ∙ w.if-equiv.false) ∙ c.loop-header.invariant)
    ]

pub returns-in-Err : goal.returns-in-Err
returns-in-Err c =
    let p = is_left_out c.args.blanks in
    let found = c.loop-header.found in
    let h = c.header-item.result in
    lengths-header_err p found c.in-Err.fault (codes "Content-Length") c.args.headers.now c.loop-header.header-index h (search rules) c.header-item.is (sym c.equiv.ensures ∙ c.if-equiv.true)
    (ap (λ v. lengths_after found (elements_in p v)) (sym c.as_str.ensures.value) ∙ sym c.lengths_in.ensures ∙ c.in-Err.is) ∙ c.loop-header.invariant
