use Rattle.std.proofs.Common.{rules}
use Rattle.tiny_http_standard_head.proofs.LinesLemmas.{version-is}
use Rattle.tiny_http_standard_head.proofs.lines.version_in.Goals as goal

pub returns-clause-some : goal.returns-clause-some
returns-clause-some c = version-is c.args.text.now (search rules) (search rules) (search rules) (search rules) (search rules) (search rules) (search rules) (search rules) (search rules) (search rules)
