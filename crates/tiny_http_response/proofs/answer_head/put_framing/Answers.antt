use Rattle.tiny_http_response.specs.Answer.{framing_line}
use Rattle.tiny_http_response.proofs.answer_head.put_framing.Goals as goal

pub returns-in-ContentLength : goal.returns-in-ContentLength
unfolding framing_line
returns-in-ContentLength g c = rw c.in-ContentLength.is c.put_length.ensures
