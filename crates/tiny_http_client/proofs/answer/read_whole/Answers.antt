use Rattle.std.proofs.Common.{inl, inr}
use Rattle.std.proofs.lemmas.Result.{err_from_is_err_and}
use Rattle.tiny_http_client.specs.ClientAnswer.{extent, LacksBody, LacksAnswer}
use Rattle.tiny_http_client.specs.AnswerParts.{LacksFinalHead, head_of}
use Rattle.tiny_http_client.proofs.PartsLemmas.{lacks-by}
use Rattle.tiny_http_client.proofs.answer.read_whole.Goals as goal

pub returns-in_err-head-clause-lacks : goal.returns-in_err-head-clause-lacks
returns-in_err-head-clause-lacks c =
    let old = c.args.rest.now in
    let p = err_from_is_err_and c.from_residual.result c.from_residual.ensures.1 in
    rw (p.1, p.2) (lacks-by (LacksFinalHead old) (LacksAnswer c.args.method.now old) (λ lack h. (h.0, h.1, h.2, inl h.3)) c.in_err-head.field-0.0 c.in_err-head.ensures.lacks)

pub returns-in_err-body-clause-lacks : goal.returns-in_err-body-clause-lacks
returns-in_err-body-clause-lacks c =
    let old = c.args.rest.now in
    let after = c.read_final_head.new.rest in
    let method = c.args.method.now in
    let head = head_of c.in_ok-head.head in
    let has = c.in_ok-head.ensures.read in
    let p = err_from_is_err_and c.from_residual-in_err-body.result c.from_residual-in_err-body.ensures.1 in
    rw (p.1, p.2) (lacks-by (LacksBody (extent method head) after) (LacksAnswer method old) (λ lack h. (has.0, has.1, has.2, inr (head, after, has.3, has.4, h))) c.in_err-body.field-0.0 c.in_err-body.ensures.lacks)
