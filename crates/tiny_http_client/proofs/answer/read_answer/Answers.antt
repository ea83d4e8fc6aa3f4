use Rattle.std.proofs.Common.{ℕ, List, subst, arith}
use Rattle.tiny_http_client.specs.ClientAnswer.{ReadsAnswer}
use Rattle.tiny_http_client.specs.AnswerParts.{answer_of}
use Rattle.tiny_http_client.proofs.PartsLemmas.{answer-ends, end-left}
use Rattle.tiny_http_client.proofs.answer.read_answer.Goals as goal

pub overflow_sub-result : goal.overflow_sub-result
overflow_sub-result c =
    let bytes = c.args.bytes.now in
    let rest = c.read_whole.new.rest in
    let method = c.args.method.now in
    let answer = answer_of c.in-Ok.answer in
    let Reads : List ℕ → Type 0 = λ x. ReadsAnswer method x answer rest in
    let left = end-left bytes rest (answer-ends method bytes rest answer (subst Reads c.new-rest.ensures c.in-Ok.ensures.read)) in
    rw c.len.ensures left.0

pub returns-in-Ok-clause-answer : goal.returns-in-Ok-clause-answer
returns-in-Ok-clause-answer c =
    let bytes = c.args.bytes.now in
    let rest = c.read_whole.new.rest in
    let method = c.args.method.now in
    let answer = answer_of c.in-Ok.answer in
    let Reads : List ℕ → Type 0 = λ x. ReadsAnswer method x answer rest in
    let read = subst Reads c.new-rest.ensures c.in-Ok.ensures.read in
    let left = end-left bytes rest (answer-ends method bytes rest answer read) in
    rw (c.len.ensures, left.1) (omega arith, read)
