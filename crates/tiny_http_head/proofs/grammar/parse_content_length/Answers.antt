use Rattle.tiny_http_head.specs.Heads.{length_in}
use Rattle.tiny_http_head.proofs.HeadsLengths.{length_of-some, length_of-none}
use Rattle.tiny_http_head.proofs.grammar.parse_content_length.Goals as goal

pub returns-in-Ok : goal.returns-in-Ok
unfolding length_in
returns-in-Ok c = let h = c.in-Ok.ensures.value.0 in length_of-some _ _ h.0 h.1

pub returns-in-Err : goal.returns-in-Err
unfolding length_in
returns-in-Err c = let h = c.in-Err.ensures.value.0 in length_of-none _ h
