use Rattle.tiny_http_client.proofs.SentTextsLemmas.{reads, reads-all}
use Rattle.tiny_http_client.proofs.laws.sent_texts_are_read.Goals as goal

pub returns : goal.returns
returns c = record { whole = reads-all; cut = λ texts out all front. reads texts all out front }
