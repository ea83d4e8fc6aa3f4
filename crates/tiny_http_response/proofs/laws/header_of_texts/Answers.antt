use Rattle.tiny_http_response.proofs.HeaderTextsReadable.{header-readable, header-kept}
use Rattle.tiny_http_response.proofs.laws.header_of_texts.Goals as goal

pub returns : goal.returns
returns c = record { readable = header-readable; kept = header-kept }
