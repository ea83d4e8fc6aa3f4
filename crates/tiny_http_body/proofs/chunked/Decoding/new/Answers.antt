use Rattle.tiny_http_body.proofs.chunked.Decoding.new.Goals as goal

pub returns-clause-whole : goal.returns-clause-whole
returns-clause-whole c bytes body rest stop h = c.new_with.ensures.whole bytes body rest stop h

pub returns-clause-front : goal.returns-clause-front
returns-clause-front c bytes body stop kind h = c.new_with.ensures.front bytes body stop kind h
