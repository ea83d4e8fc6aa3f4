use Rattle.std.proofs.Common.{codes}
use Rattle.tiny_http_open_request.proofs.UpgradesLemmas.{AreKeptOf}
use Rattle.tiny_http_open_request.proofs.open_request.upgrade_headers.Given as goal

abbrev pub invariant-loop-header : goal.invariant-loop-header
invariant-loop-header l = AreKeptOf (codes "Upgrade") l.upgrades.items l.headers l.header-index
