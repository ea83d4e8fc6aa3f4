use Rattle.tiny_http_head.proofs.grammar.parse_request_line.Goals as goal

pub method_of-requires : goal.method_of-requires
method_of-requires c = (c.in-Some.ensures.some.ascii c.requires).0

pub owned-requires : goal.owned-requires
owned-requires c = (c.in-Some.ensures.some.ascii c.requires).1
