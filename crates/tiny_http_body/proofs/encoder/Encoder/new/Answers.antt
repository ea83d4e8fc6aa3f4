use Rattle.std.proofs.Common.{refl}
use Rattle.tiny_http_body.proofs.EncoderLemmas.{Encoded-none}
use Rattle.tiny_http_body.proofs.encoder.Encoder.new.Goals as goal

pub returns-clause-begins : goal.returns-clause-begins
returns-clause-begins g c = (refl, Encoded-none _ _ refl)
