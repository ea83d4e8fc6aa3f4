use Rattle.std.proofs.Common.{inl, inr}
use Rattle.tiny_http_standard_head.proofs.HeadsLemmas.{bare-end}
use Rattle.tiny_http_standard_head.proofs.source_heads.text_of.Goals.{then-n-eq0-via-then-n-eq0, then-n-eq0-via-else-n-eq0+then-line-n-ne13}
use Rattle.tiny_http_standard_head.proofs.source_heads.text_of.Goals as goal

pub returns-then-n-eq0-clause-none : goal.returns-then-n-eq0-clause-none
returns-then-n-eq0-clause-none c =
    bare-end c.args.line.now (elim c.then-n-eq0.branch [
      | then-n-eq0-via-then-n-eq0 w ↦ inl w.if-n-eq0.true
      | then-n-eq0-via-else-n-eq0+then-line-n-ne13 w ↦ inr w.if-line-n-ne13.true
    ])
