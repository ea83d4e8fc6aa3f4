use Rattle.std.proofs.Common.{sym, subst}
use Rattle.tiny_http_body.specs.declared.body.UnreadBody.{UnreadBody}
use Rattle.tiny_http_body.specs.Body.{PassesOver}
use Rattle.tiny_http_body.proofs.BodyReads.{goes-on_skips}
use Rattle.tiny_http_open_request.proofs.head_faults.skip.Goals as goal

pub returns-in-Counted-clause-passes : goal.returns-in-Counted-clause-passes
returns-in-Counted-clause-passes g c =
    let P : UnreadBody → Type 0 = λ b. PassesOver b c.args.source.now c.skip.new.self in
    subst P (sym c.in-Counted.is) c.skip.ensures.skips

pub returns-in-Counted-clause-goes_on : goal.returns-in-Counted-clause-goes_on
returns-in-Counted-clause-goes_on g c = goes-on_skips _ _ c.in-Counted.left c.skip.ensures.skips.feed
