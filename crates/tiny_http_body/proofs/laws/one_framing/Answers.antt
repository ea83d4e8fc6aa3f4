use Rattle.std.proofs.Common.{refl}
use Rattle.tiny_http_body.specs.Framing.{lenient_length}
use Rattle.tiny_http_body.proofs.FramingLemmas.{framing-is, framing-one}
use Rattle.tiny_http_body.proofs.laws.one_framing.Goals as goal

pub returns : goal.returns
returns c = record { some = framing-is; one = framing-one; lenient = λ v headers none. none (lenient_length headers) refl }
