use Rattle.tiny_http_client.proofs.SentChunks.{sent-pieces}
use Rattle.tiny_http_client.proofs.laws.streamed_chunks_are_read.Goals as goal

pub returns : goal.returns
returns c = sent-pieces
