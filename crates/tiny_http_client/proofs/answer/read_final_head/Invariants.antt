use Rattle.std.proofs.Common.{List, length}
use Rattle.tiny_http_client.specs.ClientAnswer.{AnswerHead, PassesOver}
use Rattle.tiny_http_client.proofs.answer.read_final_head.Given as goal

abbrev pub invariant-loop-head : goal.invariant-loop-head
invariant-loop-head l = (interim : List AnswerHead) × PassesOver l.fn.rest interim l.rest

abbrev pub decreases-loop-head : goal.decreases-loop-head
decreases-loop-head l = length l.rest
