use Rattle.std.proofs.Common.{rules, ◌-◌, ◌+◌, ◌∙◌, sym, ap, ℕ}
use Rattle.tiny_http_body.specs.Decoding.{trails}
use Rattle.tiny_http_body.proofs.DecodingLemmas.{trail-over, trail-more, trail-bad, trail-long, trail-none, one_less, none_left}
use Rattle.tiny_http_body.proofs.ChunkTakingLemmas.{trailers-take_line, trailers-take_none, trailers-take_more}
use Rattle.tiny_http_body.proofs.chunked.skip_trailers.Goals as goal

pub returns-in-Err-clause-comes : goal.returns-in-Err-clause-comes
returns-in-Err-clause-comes g c = trail-none c.args.rules _ _ _ (128 - c.loop-lines.lines) c.in-Err.ensures.none ∙ c.loop-lines.invariant.comes

pub returns-then-line-eq0-clause-comes : goal.returns-then-line-eq0-clause-comes
returns-then-line-eq0-clause-comes g c = trail-over c.args.rules _ _ _ (128 - c.loop-lines.lines) c.in-Ok.ensures.line c.if-line-eq0.true ∙ c.loop-lines.invariant.comes

pub loop-lines-preserved : goal.loop-lines-preserved
loop-lines-preserved g c = record {
  comes = trail-more c.args.rules _ _ _ (128 - c.loop-lines.lines) (128 - (c.loop-lines.lines + 1)) c.in-Ok.ensures.line c.if-line-eq0.false (sym c.is_trailer.ensures ∙ c.if-not-is_trailer.false) (one_less 128 c.loop-lines.lines c.loop-lines-test.true) ∙ c.loop-lines.invariant.comes;
  stop_count = search rules;
  needed = λ new t. c.loop-lines.invariant.needed new (trailers-take_more c.args.rules (128 - c.loop-lines.lines) (128 - (c.loop-lines.lines + 1)) _ _ new _ c.in-Ok.ensures.line c.if-line-eq0.false (sym c.is_trailer.ensures ∙ c.if-not-is_trailer.false) (one_less 128 c.loop-lines.lines c.loop-lines-test.true) t);
}

pub returns-in-Err-next_line-clause-comes : goal.returns-in-Err-next_line-clause-comes
returns-in-Err-next_line-clause-comes g c = trail-none c.args.rules _ _ _ (128 - c.loop-lines.lines) c.in-Err-next_line.ensures.none ∙ c.loop-lines.invariant.comes

pub returns-then-line-eq0-2-clause-comes : goal.returns-then-line-eq0-2-clause-comes
returns-then-line-eq0-2-clause-comes g c = trail-over c.args.rules _ _ _ (128 - c.loop-lines.lines) c.in-Ok-next_line.ensures.line c.if-line-eq0-2.true ∙ c.loop-lines.invariant.comes

pub returns-else-line-eq0-2-clause-comes : goal.returns-else-line-eq0-2-clause-comes
returns-else-line-eq0-2-clause-comes g c =
    let old = g.R.ReadDevice.feed c.loop-lines.reader in
    trail-long c.args.rules old _ _ c.in-Ok-next_line.ensures.line c.if-line-eq0-2.false
    ∙ (ap (λ (m : ℕ). trails c.args.rules m old) (none_left 128 c.loop-lines.lines c.loop-lines-test.false) ∙ c.loop-lines.invariant.comes)

pub returns-then-not-is_trailer-clause-comes : goal.returns-then-not-is_trailer-clause-comes
returns-then-not-is_trailer-clause-comes g c =
    trail-bad c.args.rules _ _ _ (128 - c.loop-lines.lines) c.in-Ok.ensures.line c.if-line-eq0.false (sym c.is_trailer.ensures ∙ c.if-not-is_trailer.true) ∙ c.loop-lines.invariant.comes

pub returns-in-Err-clause-needed : goal.returns-in-Err-clause-needed
returns-in-Err-clause-needed g c = c.loop-lines.invariant.needed _ (trailers-take_none c.args.rules (128 - c.loop-lines.lines) _ _ _ c.in-Err.ensures.none)

pub returns-then-line-eq0-clause-needed : goal.returns-then-line-eq0-clause-needed
returns-then-line-eq0-clause-needed g c = c.loop-lines.invariant.needed _ (trailers-take_line c.args.rules (128 - c.loop-lines.lines) _ _ _ c.in-Ok.ensures.line)

pub returns-then-not-is_trailer-clause-needed : goal.returns-then-not-is_trailer-clause-needed
returns-then-not-is_trailer-clause-needed g c = c.loop-lines.invariant.needed _ (trailers-take_line c.args.rules (128 - c.loop-lines.lines) _ _ _ c.in-Ok.ensures.line)

pub returns-in-Err-next_line-clause-needed : goal.returns-in-Err-next_line-clause-needed
returns-in-Err-next_line-clause-needed g c = c.loop-lines.invariant.needed _ (trailers-take_none c.args.rules (128 - c.loop-lines.lines) _ _ _ c.in-Err-next_line.ensures.none)

pub returns-then-line-eq0-2-clause-needed : goal.returns-then-line-eq0-2-clause-needed
returns-then-line-eq0-2-clause-needed g c = c.loop-lines.invariant.needed _ (trailers-take_line c.args.rules (128 - c.loop-lines.lines) _ _ _ c.in-Ok-next_line.ensures.line)

pub returns-else-line-eq0-2-clause-needed : goal.returns-else-line-eq0-2-clause-needed
returns-else-line-eq0-2-clause-needed g c = c.loop-lines.invariant.needed _ (trailers-take_line c.args.rules (128 - c.loop-lines.lines) _ _ _ c.in-Ok-next_line.ensures.line)
