use Rattle.tiny_http_response.specs.Answer.{field_line}
use Rattle.tiny_http_response.proofs.answer_head.put_length.Goals as goal

pub returns : goal.returns
unfolding field_line
returns g c = rw (← c.decimal-digits.ensures, ← c.as_bytes.ensures.value) c.put_all.ensures
