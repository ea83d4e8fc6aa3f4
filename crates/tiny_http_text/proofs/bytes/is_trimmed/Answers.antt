use Rattle.std.proofs.Common.{eq-eqb, eqb-true, length}
use Rattle.tiny_http_text.proofs.TrimmedLemmas.{trimmed-whole, whole-trimmed}
use Rattle.tiny_http_text.proofs.bytes.is_trimmed.Goals as goal

pub returns : goal.returns
returns c =
    let text = c.args.text.now in
    let core = c.trim.result.now in
    (λ e. trimmed-whole text core c.trim.ensures (eqb-true (length core) (length text) e), λ h. eq-eqb (length core) (length text) (whole-trimmed text core c.trim.ensures h))
