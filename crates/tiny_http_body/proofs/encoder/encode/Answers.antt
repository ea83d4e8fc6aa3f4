use Rattle.std.proofs.Common.{arith, length-take}
use Rattle.tiny_http_body.proofs.StreamedLemmas.{Encodes-gathered}
use Rattle.tiny_http_body.proofs.encoder.encode.Goals as goal

pub returns-clause-encodes : goal.returns-clause-encodes
returns-clause-encodes g c = Encodes-gathered _ _ _ _ _ _ (simp length-take (omega arith)) c.gather.ensures.gathers
