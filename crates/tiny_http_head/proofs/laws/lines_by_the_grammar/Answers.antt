use Rattle.tiny_http_head.proofs.HeadsLemmas.{request-line-one, request-line-is, header-line-one, header-line-is}
use Rattle.tiny_http_head.proofs.laws.lines_by_the_grammar.Goals as goal

pub returns-clause-request : goal.returns-clause-request
returns-clause-request c = λ text path method version. (request-line-is text (method, path, version), request-line-one text method path version)

pub returns-clause-header : goal.returns-clause-header
returns-clause-header c = λ text h. (header-line-is text h, header-line-one text h.field h.value)
