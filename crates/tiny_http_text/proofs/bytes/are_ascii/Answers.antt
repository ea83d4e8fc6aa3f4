use Rattle.tiny_http_text.proofs.BytesLemmas.{ascii-stated}
use Rattle.tiny_http_text.proofs.bytes.are_ascii.Goals as goal

pub returns : goal.returns
returns c = ascii-stated c.args.text.now c.is_ascii.result c.is_ascii.ensures.cases
