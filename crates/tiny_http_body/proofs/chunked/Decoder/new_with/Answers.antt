use Rattle.std.proofs.Common.{ap, ◌∙◌}
use Rattle.tiny_http_body.specs.Decoding.{decoding_coming}
use Rattle.tiny_http_body.proofs.chunked.Decoder.new_with.Goals as goal

pub returns-clause-whole : goal.returns-clause-whole
returns-clause-whole g c feed body rest e h = ap (decoding_coming c.new_with.result) e ∙ c.new_with.ensures.whole feed.bytes body rest feed.stop h

pub returns-clause-front : goal.returns-clause-front
returns-clause-front g c feed body kind e h = ap (decoding_coming c.new_with.result) e ∙ c.new_with.ensures.front feed.bytes body feed.stop kind h
