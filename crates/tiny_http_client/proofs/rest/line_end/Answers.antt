use Rattle.std.proofs.Common.{length, arith}
use Rattle.std.proofs.lemmas.List.{drop_all}
use Rattle.std.proofs.lemmas.Slice.{between_to_end}
use Rattle.tiny_http_client.proofs.RestLemmas.{no-crlf, a-crlf, searched-more, searched-found, searched-none}
use Rattle.tiny_http_client.proofs.rest.line_end.Goals as goal

pub loop-at-preserved : goal.loop-at-preserved
loop-at-preserved c =
    let bytes = c.args.bytes.now in
    let at = c.loop-at.at in
    searched-more bytes at (omega arith) (no-crlf c.starts_with.result _ _ c.starts_with.ensures.value (between_to_end bytes at (length bytes) (omega arith)) c.if-starts_with.false) c.loop-at.invariant

pub returns-then-starts_with-clause-within : goal.returns-then-starts_with-clause-within
returns-then-starts_with-clause-within c =
    let bytes = c.args.bytes.now in
    let at = c.loop-at.at in
    (searched-found bytes at (omega arith) (a-crlf c.starts_with.result _ _ c.starts_with.ensures.value (between_to_end bytes at (length bytes) (omega arith)) c.if-starts_with.true) c.loop-at.invariant).within

pub returns-then-starts_with-clause-line : goal.returns-then-starts_with-clause-line
returns-then-starts_with-clause-line c =
    let bytes = c.args.bytes.now in
    let at = c.loop-at.at in
    (searched-found bytes at (omega arith) (a-crlf c.starts_with.result _ _ c.starts_with.ensures.value (between_to_end bytes at (length bytes) (omega arith)) c.if-starts_with.true) c.loop-at.invariant).is_line

pub returns-clause-none : goal.returns-clause-none
returns-clause-none c =
    let bytes = c.args.bytes.now in
    let at = c.loop-at.at in
    searched-none bytes at (drop_all at bytes (omega arith)) c.loop-at.invariant
