use Rattle.std.proofs.Common.{◌≡◌, drop}
use Rattle.tiny_http_standard_head.specs.Hosts.{is_registered_name}
use Rattle.tiny_http_standard_head.proofs.hosts.is_registered_name.Given as goal

abbrev pub invariant-loop-i : goal.invariant-loop-i
invariant-loop-i l = is_registered_name (drop l.i l.text) ≡ is_registered_name l.text
