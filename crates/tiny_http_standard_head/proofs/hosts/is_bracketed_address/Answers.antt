use Rattle.std.proofs.Common.{rules, arith}
use Rattle.tiny_http_standard_head.proofs.HostsLemmas.{literal-is}
use Rattle.tiny_http_standard_head.proofs.hosts.is_bracketed_address.Goals as goal

pub returns : goal.returns
returns c = literal-is c.args.text.now (omega (arith, c.if-n-lt3.false)) (search rules) (search rules) c.are_address_bytes.result c.are_address_bytes.ensures
