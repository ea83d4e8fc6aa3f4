use Rattle.std.proofs.Common.{rules}
use Rattle.tiny_http_client.proofs.PartsLemmas.{status-line-read, no-status-line}
use Rattle.tiny_http_client.proofs.head.read_status_line.Goals as goal

pub returns-in-Some-parse_status_line-clause-read : goal.returns-in-Some-parse_status_line-clause-read
returns-in-Some-parse_status_line-clause-read c =
    let start = c.in-Some-parse_status_line.start in
    (c.in-Some.text.now, c.in-Some.ensures.some, (search rules), status-line-read c.in-Some.text.now (start.0, start.1.0) c.in-Some-parse_status_line.ensures)

pub returns-in-None-clause-lacks : goal.returns-in-None-clause-lacks
returns-in-None-clause-lacks c = (c.in-Some.text.now, c.take_line.new.self, c.in-Some.ensures.some, λ a. no-status-line c.in-Some.text.now c.in-None.ensures)
