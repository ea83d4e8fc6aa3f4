use Rattle.std.proofs.Common.{◌≡◌, true, rules, ◌∷◌, [], ◌++◌}
use Rattle.tiny_http_client.specs.ClientAnswer.{is_interim}
use Rattle.tiny_http_client.specs.AnswerParts.{head_of}
use Rattle.tiny_http_client.proofs.ClientAnswerLemmas.{client-head-shorter}
use Rattle.tiny_http_client.proofs.PartsLemmas.{passes-push}
use Rattle.tiny_http_client.proofs.answer.read_final_head.Goals as goal

pub loop-head-smaller : goal.loop-head-smaller
loop-head-smaller c = client-head-shorter c.loop-head.rest (head_of c.in_ok-head.head) c.read_head.new.rest c.in_ok-head.ensures.read

pub loop-head-preserved : goal.loop-head-preserved
loop-head-preserved c =
    let head = head_of c.in_ok-head.head in
    let past = c.loop-head.invariant in
    let interim : is_interim head.status ≡ true = search rules in
    (past.0 ++ head ∷ [], passes-push c.args.rest.now c.loop-head.rest c.read_head.new.rest past.0 head past.1 c.in_ok-head.ensures.read interim)
