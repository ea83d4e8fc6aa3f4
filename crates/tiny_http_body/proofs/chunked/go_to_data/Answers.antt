use Rattle.std.proofs.Common.{refl}
use Rattle.tiny_http_body.proofs.ChunkTakingLemmas.{takes-nothing, close-takes_more, takes-at_close}
use Rattle.tiny_http_body.proofs.chunked.go_to_data.Goals as goal

pub returns-in-Ok-clause-needed : goal.returns-in-Ok-clause-needed
returns-in-Ok-clause-needed g c =
    takes-at_close c.args.rules _ c.in-Data.left _ _ c.in-Data.is c.if-left-gt0.false (close-takes_more c.args.rules _ _ _ c.in-Ok.ensures.takes c.open_chunk-in-Ok.ensures.needed)

pub returns-in-Err-clause-needed : goal.returns-in-Err-clause-needed
returns-in-Err-clause-needed g c = takes-at_close c.args.rules _ c.in-Data.left _ _ c.in-Data.is c.if-left-gt0.false (c.in-Err.ensures.needed c.args.rules)

pub returns-then-left-gt0-clause-needed : goal.returns-then-left-gt0-clause-needed
returns-then-left-gt0-clause-needed g c = takes-nothing _ _ _ refl

pub returns-in-Over-clause-needed : goal.returns-in-Over-clause-needed
returns-in-Over-clause-needed g c = takes-nothing _ _ _ refl

pub returns-in-Broken-clause-needed : goal.returns-in-Broken-clause-needed
returns-in-Broken-clause-needed g c = takes-nothing _ _ _ refl
