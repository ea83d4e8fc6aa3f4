use Rattle.std.proofs.Common.{ap, ◌∙◌, arith}
use Rattle.std.specs.Prelude.{slice_get}
use Rattle.tiny_http_connection.specs.Pending.{holds_next_head_at}
use Rattle.tiny_http_connection.proofs.ConnectionReader.{holds-at}
use Rattle.tiny_http_connection.proofs.pending.Pending.last_holds_next_head.Goals as goal

pub returns-in-Some : goal.returns-in-Some
returns-in-Some c =
    let at = c.in-Some.ensures in
    let len = c.len.ensures in
    let requests = c.args.self.now.requests in
    c.holds_next_head.ensures ∙ ap (λ n. holds_next_head_at (slice_get requests n)) (omega (arith, at, len)) ∙ holds-at requests
