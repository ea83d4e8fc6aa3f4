use Rattle.std.proofs.Common.{◌≡◌, ◌==◌, false, sym, ◌∙◌, length}
use Rattle.std.proofs.lemmas.Result.{err_from_is_err_and}
use Rattle.tiny_http_body.specs.ChunkedPrinting.{short_chunk}
use Rattle.tiny_http_io.proofs.DeviceLemmas.{Failed-front}
use Rattle.tiny_http_body.proofs.ChunkedPrintingLemmas.{short_chunk-tested}
use Rattle.tiny_http_body.proofs.chunks.put_last.Goals as goal

pub returns-in_err-put_chunk : goal.returns-in_err-put_chunk
returns-in_err-put_chunk g c =
    let p = err_from_is_err_and c.from_residual.result c.from_residual.ensures.1 in
    let test : (length c.args.bytes.now == 0) ≡ false = sym c.is_empty.ensures ∙ c.if-not-is_empty.true in
    rw (p.1, p.2) (Failed-front _ _ (short_chunk c.args.bytes.now) _ _ (rw (short_chunk-tested c.args.bytes.now test) c.in_err-put_chunk.ensures))
