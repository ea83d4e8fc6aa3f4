use Rattle.tiny_http_response.specs.Answer.{upgrade_lines}
use Rattle.tiny_http_response.proofs.answer_head.put_upgrade.Goals as goal

pub returns : goal.returns
unfolding upgrade_lines
returns g c = rw c.in-Some.is c.put_protocol.ensures
