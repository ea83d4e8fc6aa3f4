use Rattle.tiny_http_client.proofs.ClientAnswerLaws.{answers-some, answers-one}
use Rattle.tiny_http_client.proofs.laws.one_list_of_client_answers.Goals as goal

pub returns : goal.returns
returns c = record { some = answers-some; one = answers-one }
