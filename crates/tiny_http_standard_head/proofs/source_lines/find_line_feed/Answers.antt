use Rattle.tiny_http_standard_head.proofs.SourceLinesLemmas.{found-line_feed, unfound-line_feed}
use Rattle.tiny_http_standard_head.proofs.source_lines.find_line_feed.Goals as goal

pub returns-clause-some : goal.returns-clause-some
returns-clause-some c = found-line_feed c.args.bytes.now c.memchr.result c.memchr.ensures

pub returns-clause-none : goal.returns-clause-none
returns-clause-none c = unfound-line_feed c.args.bytes.now c.memchr.result c.memchr.ensures
