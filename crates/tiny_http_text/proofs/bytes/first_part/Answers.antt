use Rattle.tiny_http_text.proofs.BytesTrimming.{first-part}
use Rattle.tiny_http_text.proofs.bytes.first_part.Goals as goal

pub returns : goal.returns
returns c = first-part c.args.c c.args.text.now c.find.result c.find.ensures.bound c.find.ensures.first c.find.ensures.there
