use Rattle.tiny_http_client.specs.ClientAnswer.{Unfinished, Invalid}
use Rattle.tiny_http_client.proofs.ClientAnswerLaws.{answer-some, answer-same, answer-no_lack, lack-one}
use Rattle.tiny_http_client.proofs.ClientAnswerLemmas.{answer-is}
use Rattle.tiny_http_client.proofs.laws.one_client_answer.Goals as goal

pub returns : goal.returns
returns c = record {
  some = answer-some;
  one = answer-same;
  not_unfinished = λ m bytes a rest h k. answer-no_lack m bytes Unfinished a rest h k;
  not_malformed = λ m bytes a rest h k. answer-no_lack m bytes Invalid a rest h k;
  not_both = lack-one;
  computed = answer-is;
}
