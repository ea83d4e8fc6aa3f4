use Rattle.std.proofs.Common.{refl}
use Rattle.tiny_http_body.proofs.DecodingLemmas.{begins-whole, begins-front}
use Rattle.tiny_http_body.proofs.chunked.Decoding.new_with.Goals as goal

pub returns-clause-whole : goal.returns-clause-whole
returns-clause-whole c bytes body rest stop h = begins-whole c.args.rules _ (record { bytes = bytes; stop = stop }) body rest refl h

pub returns-clause-front : goal.returns-clause-front
returns-clause-front c bytes body stop kind h = begins-front c.args.rules _ (record { bytes = bytes; stop = stop }) body kind refl h
