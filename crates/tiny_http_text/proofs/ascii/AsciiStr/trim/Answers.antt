use Rattle.tiny_http_text.proofs.BytesLemmas.{are-ascii, ascii-at}
use Rattle.tiny_http_text.proofs.BytesTrimming.{ascii-trimmed}
use Rattle.tiny_http_text.proofs.ascii.AsciiStr.trim.Goals as goal

pub invariant_of-result : goal.invariant_of-result
invariant_of-result c = λ i. ascii-at c.trim.result.now i (ascii-trimmed c.self.inside.text.now c.trim.result.now c.trim.ensures (are-ascii c.self.inside.text.now c.self.invariant))
