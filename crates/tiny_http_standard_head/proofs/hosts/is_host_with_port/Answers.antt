use Rattle.std.proofs.Common.{rules, inr, sym, ◌∙◌}
use Rattle.tiny_http_standard_head.proofs.HostsLemmas.{host-port}
use Rattle.tiny_http_standard_head.proofs.hosts.is_host_with_port.Goals as goal
use Rattle.tiny_http_head.proofs.FirstByte.{contrary}

pub returns-then-is_host-2 : goal.returns-then-is_host-2
returns-then-is_host-2 c = (
  (λ good. inr (
    c.in-Some.host.now,
    c.in-Some.port.now,
    record {
      joins = c.in-Some.ensures.some.0;
      is_host = c.is_host-in-Some.ensures.0 c.if-is_host-2.true;
      digits = sym c.are_digits.ensures ∙ good;
    },
  )),
  (λ value.
      let r = host-port c.args.text.now c.in-Some.host.now c.in-Some.port.now (search rules) c.in-Some.ensures.some.0 c.in-Some.ensures.some.1 value in
      c.are_digits.ensures ∙ r.1),
)

pub returns-else-is_host-2 : goal.returns-else-is_host-2
returns-else-is_host-2 c = (
  (λ good. contrary c.is_host-in-Some.result good c.if-is_host-2.false),
  (λ value.
      let r = host-port c.args.text.now c.in-Some.host.now c.in-Some.port.now (search rules) c.in-Some.ensures.some.0 c.in-Some.ensures.some.1 value in
      c.is_host-in-Some.ensures.1 r.0),
)
