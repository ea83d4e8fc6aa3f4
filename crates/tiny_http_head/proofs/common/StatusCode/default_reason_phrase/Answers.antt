use Rattle.std.proofs.Common.{rules}
use borrow.Author.Tests.{tests}
use Rattle.tiny_http_head.specs.Common.{reason_phrase}
use Rattle.tiny_http_head.proofs.common.StatusCode.default_reason_phrase.Goals as goal

pub returns-in_default : goal.returns-in_default
unfolding reason_phrase
returns-in_default c = search (tests, rules)
