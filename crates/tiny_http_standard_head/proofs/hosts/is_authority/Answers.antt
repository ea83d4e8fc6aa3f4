use Rattle.std.proofs.Common.{rules, ◌≡◌, true, ap, ◌∙◌}
use Rattle.tiny_http_head.specs.Heads.{length_of}
use Rattle.tiny_http_head.proofs.FirstByte.{contrary}
use Rattle.tiny_http_standard_head.specs.Hosts.{is_port_number}
use Rattle.tiny_http_standard_head.proofs.HostsLemmas.{authority-port, number-digits}
use Rattle.tiny_http_standard_head.proofs.hosts.is_authority.Goals as goal

pub returns-then-is_port_number : goal.returns-then-is_port_number
returns-then-is_port_number c =
    let port = c.in-Some.port.now in
    let number : is_port_number (length_of port) ≡ true = search (rules, c.number_in.ensures, c.is_port_number.ensures, c.if-is_port_number.true) in (
      (λ good. (
        c.in-Some.host.now,
        port,
        record {
          joins = c.in-Some.ensures.some.0;
          is_host = c.is_host.ensures.0 good;
          digits = number-digits port number;
        },
        number,
      )),
      (λ a. c.is_host.ensures.1 (authority-port c.args.text.now c.in-Some.host.now port c.in-Some.ensures.some.0 c.in-Some.ensures.some.1 a).0),
    )

pub returns-else-is_port_number : goal.returns-else-is_port_number
returns-else-is_port_number c = (
  (λ good. contrary c.is_port_number.result good c.if-is_port_number.false),
  (λ a.
      let r = authority-port c.args.text.now c.in-Some.host.now c.in-Some.port.now c.in-Some.ensures.some.0 c.in-Some.ensures.some.1 a in
      c.is_port_number.ensures ∙ ap is_port_number c.number_in.ensures ∙ r.1),
)
