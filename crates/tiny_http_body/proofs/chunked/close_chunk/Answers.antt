use Rattle.tiny_http_body.proofs.DecodingLemmas.{close-cut, close-wrong, close-cut_feed, close-wrong_feed, close-good}
use Rattle.tiny_http_body.proofs.ChunkTakingLemmas.{takes-nothing, close-takes_one, close-takes_two, two-bytes, needed-same}
use Rattle.tiny_http_body.proofs.chunked.close_chunk.Goals as goal

pub returns-in-Err-clause-broken : goal.returns-in-Err-clause-broken
returns-in-Err-clause-broken g c rules = close-cut rules _ _ _ c.in-Err.ensures.cut c.in-Err.ensures.again

pub returns-then-b-ne13-clause-broken : goal.returns-then-b-ne13-clause-broken
returns-then-b-ne13-clause-broken g c rules = close-wrong rules _ _ c.in-Ok.b c.in-Ok.ensures.byte c.if-b-ne13.true

pub returns-in-Err-next_byte-clause-broken : goal.returns-in-Err-next_byte-clause-broken
returns-in-Err-next_byte-clause-broken g c rules =
    close-cut_feed rules _ _ _ _ c.in-Ok.b c.in-Ok.ensures.byte c.if-b-ne13.false c.in-Err-next_byte.ensures.cut c.in-Err-next_byte.ensures.again

pub returns-then-b-eq10-clause-closed : goal.returns-then-b-eq10-clause-closed
returns-then-b-eq10-clause-closed g c rules =
    close-good rules _ _ _ c.in-Ok.b c.in-Ok-next_byte.b c.in-Ok.ensures.byte c.if-b-ne13.false c.in-Ok-next_byte.ensures.byte c.if-b-eq10.true

pub returns-else-b-eq10-clause-broken : goal.returns-else-b-eq10-clause-broken
returns-else-b-eq10-clause-broken g c rules =
    close-wrong_feed rules _ _ _ c.in-Ok.b c.in-Ok-next_byte.b c.in-Ok.ensures.byte c.if-b-ne13.false c.in-Ok-next_byte.ensures.byte c.if-b-eq10.false

pub returns-then-b-eq10-clause-takes : goal.returns-then-b-eq10-clause-takes
returns-then-b-eq10-clause-takes g c = two-bytes _ _ _ c.in-Ok.b c.in-Ok-next_byte.b c.in-Ok.ensures.byte c.if-b-ne13.false c.in-Ok-next_byte.ensures.byte c.if-b-eq10.true

pub returns-in-Err-clause-needed : goal.returns-in-Err-clause-needed
returns-in-Err-clause-needed g c rules = takes-nothing _ _ _ c.in-Err.ensures.again

pub returns-then-b-ne13-clause-needed : goal.returns-then-b-ne13-clause-needed
returns-then-b-ne13-clause-needed g c rules = close-takes_one rules _ _ c.in-Ok.b c.in-Ok.ensures.byte

pub returns-in-Err-next_byte-clause-needed : goal.returns-in-Err-next_byte-clause-needed
returns-in-Err-next_byte-clause-needed g c rules = needed-same _ _ _ _ (close-takes_one rules _ _ c.in-Ok.b c.in-Ok.ensures.byte) c.in-Err-next_byte.ensures.again

pub returns-else-b-eq10-clause-needed : goal.returns-else-b-eq10-clause-needed
returns-else-b-eq10-clause-needed g c rules = close-takes_two rules _ _ _ c.in-Ok.b c.in-Ok-next_byte.b c.in-Ok.ensures.byte c.if-b-ne13.false c.in-Ok-next_byte.ensures.byte
