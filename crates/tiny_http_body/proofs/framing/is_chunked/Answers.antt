use Rattle.std.proofs.Common.{rules, sym, ap, ◌∙◌, false}
use Rattle.std.specs.Prelude.{codes}
use Rattle.tiny_http_body.specs.FramingReading.{chunked_on}
use Rattle.tiny_http_text.specs.Bytes.{is_blank}
use Rattle.tiny_http_head.proofs.ListsLemmas.{header-passed}
use Rattle.tiny_http_body.proofs.StrictLemmas.{elements, chunked-header}
use Rattle.tiny_http_body.proofs.framing.is_chunked.Goals.{then-equiv, else-equiv}
use Rattle.tiny_http_body.proofs.framing.is_chunked.Goals as goal

pub loop-header-preserved : goal.loop-header-preserved
loop-header-preserved c =
    let was = c.loop-header.is_chunked in
    let name = codes "Transfer-Encoding" in
    let i = c.loop-header.header-index in
    let h = c.header-item.result in
    elim c.if-equiv.branch [
      | then-equiv w ↦ chunked-header was c.if-equiv.is_chunked name c.args.headers.now i h (search rules) c.header-item.is (sym c.equiv.ensures ∙ w.if-equiv.true)
          (w.is_chunked-is ∙ w.ends_chunked-is_chunked.ensures ∙ ap (λ v. chunked_on false (elements v)) w.as_str.ensures.value) ∙ c.loop-header.invariant
      | else-equiv w ↦ rw w.is_chunked-is (header-passed is_blank (λ x. chunked_on was x) name c.args.headers.now i h (search rules) c.header-item.is (sym c.equiv.ensures ∙ w.if-equiv.false) ∙ c.loop-header.invariant)
    ]
