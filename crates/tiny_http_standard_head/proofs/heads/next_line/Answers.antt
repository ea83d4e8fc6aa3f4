use Rattle.std.proofs.Common.{inl, inr}
use Rattle.tiny_http_standard_head.proofs.HeadsLemmas.{bare-line}
use Rattle.tiny_http_standard_head.proofs.heads.next_line.Goals.{then-n-eq0-via-then-n-eq0, then-n-eq0-via-else-n-eq0+then-line-n-ne13}
use Rattle.tiny_http_standard_head.proofs.heads.next_line.Goals as goal

pub returns-then-n-eq0-clause-none : goal.returns-then-n-eq0-clause-none
returns-then-n-eq0-clause-none c =
    let cut = c.in-Some.ensures.some in
    bare-line c.args.bytes.now c.in-Some.line.now c.in-Some.rest.now cut.0 cut.1 (elim c.then-n-eq0.branch [
      | then-n-eq0-via-then-n-eq0 w ↦ inl w.if-n-eq0.true
      | then-n-eq0-via-else-n-eq0+then-line-n-ne13 w ↦ inr w.if-line-n-ne13.true
    ])
