use Rattle.tiny_http_body.proofs.ChunksLemmas.{chunked-some, chunked-one, front-one, chunked-not_both}
use Rattle.tiny_http_body.proofs.laws.one_chunked_body.Goals as goal

pub returns : goal.returns
returns c = record { some = chunked-some; one_whole = chunked-one; one_front = front-one; not_both = chunked-not_both }
