use Rattle.std.proofs.Common.{rules, ◌≡◌, ◌≢◌, refl, sym, ◌∙◌, true}
use Rattle.tiny_http_body.proofs.ChunkLineLemmas.{so_far-more, so_far-line, so_far-lone, so_far-long, so_far-cut, flag_off, all-taken}
use Rattle.tiny_http_body.proofs.chunked.line.next_line.Goals as goal
use Rattle.tiny_http_body.proofs.chunked.line.next_line.Goals.{else-scan-via-then-scan+else-b-eq10, else-scan-via-else-scan}

pub returns-in-Err-clause-none : goal.returns-in-Err-clause-none
returns-in-Err-clause-none g c =
    so_far-cut c.args.rules _ _ _ c.loop-taken.scan c.loop-taken.taken _ c.loop-taken.invariant.line c.in-Err.ensures.again c.in-Err.ensures.cut c.loop-taken-test.true

pub returns-then-b-eq10-clause-line : goal.returns-then-b-eq10-clause-line
returns-then-b-eq10-clause-line g c =
    so_far-line c.args.rules _ _ _ c.loop-taken.scan c.loop-taken.taken _ c.loop-taken.invariant.line (rw c.if-b-eq10.true at c.in-Ok.ensures.byte) c.if-scan.true c.loop-taken-test.true refl refl

pub returns-then-breaks_line-clause-none : goal.returns-then-breaks_line-clause-none
returns-then-breaks_line-clause-none g c =
    let ne : c.loop-taken.scan.after_return ≡ true → c.in-Ok.b ≢ 10 =
    elim c.else-scan.branch [ else-scan-via-then-scan+else-b-eq10 w ↦ (λ e. w.if-b-eq10.false) | else-scan-via-else-scan w ↦ flag_off _ _ w.if-scan.false ] in
    so_far-lone c.args.rules _ _ _ c.loop-taken.scan c.loop-taken.taken c.in-Ok.b c.loop-taken.invariant.line c.in-Ok.ensures.byte ne (sym c.breaks_line.ensures ∙ c.if-breaks_line.true) c.loop-taken-test.true

pub loop-taken-preserved : goal.loop-taken-preserved
loop-taken-preserved g c =
    let ne : c.loop-taken.scan.after_return ≡ true → c.in-Ok.b ≢ 10 =
    elim c.else-scan.branch [ else-scan-via-then-scan+else-b-eq10 w ↦ (λ e. w.if-b-eq10.false) | else-scan-via-else-scan w ↦ flag_off _ _ w.if-scan.false ] in
    record {
      line = so_far-more c.args.rules _ _ _ c.loop-taken.scan c.then-scan.result c.loop-taken.taken c.in-Ok.b c.loop-taken.invariant.line c.in-Ok.ensures.byte ne (sym c.breaks_line.ensures ∙ c.if-breaks_line.false) c.then-scan.ensures.is c.then-scan.ensures.fits;
      stop_count = search rules;
    }

pub returns-clause-none : goal.returns-clause-none
returns-clause-none g c = so_far-long c.args.rules _ _ c.loop-taken.scan c.loop-taken.taken c.loop-taken.invariant.line (all-taken _ c.loop-taken.auto.taken-end c.loop-taken-test.false)
