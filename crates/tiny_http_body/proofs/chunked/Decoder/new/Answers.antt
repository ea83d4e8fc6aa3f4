use Rattle.tiny_http_body.proofs.chunked.Decoder.new.Goals as goal

pub returns-clause-whole : goal.returns-clause-whole
returns-clause-whole g c feed body rest e h = c.new_with.ensures.whole feed body rest e h

pub returns-clause-front : goal.returns-clause-front
returns-clause-front g c feed body kind e h = c.new_with.ensures.front feed body kind e h
