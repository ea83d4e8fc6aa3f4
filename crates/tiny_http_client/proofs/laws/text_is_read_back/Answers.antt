use Rattle.tiny_http_client.proofs.TextLaw.{read_back}
use Rattle.tiny_http_client.proofs.laws.text_is_read_back.Goals as goal

pub returns : goal.returns
returns c = read_back
