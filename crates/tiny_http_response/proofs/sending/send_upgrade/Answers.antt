use Rattle.std.proofs.Common.{refl, ap, arith}
use Rattle.std.specs.declared.io.Empty.{Empty}
use Rattle.tiny_http_response.specs.Answer.{ResponseState}
use Rattle.tiny_http_response.specs.ResponseValue.{printing_in}
use Rattle.tiny_http_response.proofs.SendingLemmas.{upgrade-sent}
use Rattle.tiny_http_response.proofs.sending.send_upgrade.Goals as goal

pub returns-clause-sends : goal.returns-clause-sends
returns-clause-sends g c content can =
    upgrade-sent {T = Unit {0}} _ _ _ c.send_printed.result _ c.args.response.answer (printing_in c.args.response_context c.args.now) c.args.protocol.now content (ap (λ (x : ResponseState Empty). x.answer) c.with_data-answer.ensures) (c.send_printed.ensures.sends _ refl (omega arith) can)
