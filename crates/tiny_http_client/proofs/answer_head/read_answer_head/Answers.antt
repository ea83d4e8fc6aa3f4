use Rattle.std.proofs.Common.{◌≡◌, ap, Err, take}
use Rattle.std.proofs.lemmas.Result.{err_from_is_err_and}
use Rattle.tiny_http_client.specs.declared.answer_head.AnswerHeadFault.TheVariants.{Malformed}
use Rattle.tiny_http_client.specs.declared.answer_head.TheConstants.{MOST_HEADERS}
use Rattle.httparse.specs.Spans.{IsResponseOf}
use Rattle.tiny_http_client.proofs.AnswerHeadLemmas.{never-ascii}
use Rattle.tiny_http_client.proofs.answer_head.read_answer_head.Goals as goal

pub returns-in_err-headers-clause-malformed : goal.returns-in_err-headers-clause-malformed
returns-in_err-headers-clause-malformed c = λ e.
    let p = err_from_is_err_and c.from_residual.result c.from_residual.ensures.1 in
    let fault : c.in_err-headers.field-0.0 ≡ Malformed = cc (p.1, p.2, e) in
    let found : IsResponseOf c.args.bytes.now c.parse_response.new.headers c.in-Ok-Complete.found = rw c.in-Ok-Complete.field-0-is at c.in-Ok-Complete.ensures.complete in
    never-ascii MOST_HEADERS c.args.bytes.now (take c.in-Ok-Complete.found.headers c.parse_response.new.headers) found.0 _ found.1.reads found.1.fields (c.in_err-headers.ensures.malformed (ap Err fault))
