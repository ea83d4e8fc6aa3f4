use Rattle.std.proofs.Common.{◌∙◌, sym, ap, Some}
use Rattle.tiny_http_body.proofs.DecodingLemmas.{chunk-data, chunk-last, chunk-bad, chunk-none}
use Rattle.tiny_http_body.proofs.ChunkTakingLemmas.{chunk-takes_line, chunk-takes_none, chunk-takes_last}
use Rattle.tiny_http_body.proofs.chunked.open_chunk.Goals as goal

pub returns-in-Err-clause-comes : goal.returns-in-Err-clause-comes
returns-in-Err-clause-comes g c = chunk-none c.args.rules _ _ _ c.in-Err.ensures.none

pub returns-in-None-clause-comes : goal.returns-in-None-clause-comes
returns-in-None-clause-comes g c = chunk-bad c.args.rules _ _ _ c.in-Ok.ensures.line (sym c.in-None.ensures)

pub returns-then-size-eq0-clause-comes : goal.returns-then-size-eq0-clause-comes
returns-then-size-eq0-clause-comes g c =
    c.skip_trailers.ensures.comes ∙ chunk-last c.args.rules _ _ _ c.in-Ok.ensures.line (sym c.in-Some.ensures ∙ ap Some c.if-size-eq0.true)

pub returns-else-size-eq0-clause-comes : goal.returns-else-size-eq0-clause-comes
returns-else-size-eq0-clause-comes g c = chunk-data c.args.rules _ _ _ _ c.in-Ok.ensures.line (sym c.in-Some.ensures) c.if-size-eq0.false

pub returns-in-Err-clause-needed : goal.returns-in-Err-clause-needed
returns-in-Err-clause-needed g c = chunk-takes_none c.args.rules _ _ _ c.in-Err.ensures.none

pub returns-in-None-clause-needed : goal.returns-in-None-clause-needed
returns-in-None-clause-needed g c = chunk-takes_line c.args.rules _ _ _ c.in-Ok.ensures.line

pub returns-then-size-eq0-clause-needed : goal.returns-then-size-eq0-clause-needed
returns-then-size-eq0-clause-needed g c = chunk-takes_last c.args.rules _ _ _ _ c.in-Ok.ensures.line (sym c.in-Some.ensures ∙ ap Some c.if-size-eq0.true) c.skip_trailers.ensures.needed

pub returns-else-size-eq0-clause-needed : goal.returns-else-size-eq0-clause-needed
returns-else-size-eq0-clause-needed g c = chunk-takes_line c.args.rules _ _ _ c.in-Ok.ensures.line
