use Rattle.std.proofs.Common.{arith, true, refl, ◌+◌}
use Rattle.tiny_http_io.proofs.LineEndsScanning.{scans-end}
use Rattle.tiny_http_io.proofs.LineEndsSearching.{rest-whole, searched-nothing, searched-return, searched-none}
use Rattle.tiny_http_io.proofs.lines.line_end.Goals.{else-at-bytes-via-then-at-bytes+else-bytes-at-eq10, else-at-bytes-via-else-at-bytes}
use Rattle.tiny_http_io.proofs.lines.line_end.Goals as goal

pub loop-n-init : goal.loop-n-init
loop-n-init c = record { within = omega arith; searched = searched-nothing c.args.bytes.now }

pub returns-then-bytes-at-eq10-clause-some : goal.returns-then-bytes-at-eq10-clause-some
returns-then-bytes-at-eq10-clause-some c =
    let bytes = c.args.bytes.now in
    let found = searched-return c.in-Some.n bytes _ c.loop-n.at (rest-whole bytes c.loop-n.at) c.in-Some.ensures c.loop-n.invariant.within c.loop-n.invariant.searched in
    scans-end true bytes (c.loop-n.at + (c.in-Some.n + 1)) refl c.if-at-bytes.true c.if-bytes-at-eq10.true found.1

pub loop-n-smaller : goal.loop-n-smaller
loop-n-smaller c =
    let bytes = c.args.bytes.now in
    let found = searched-return c.in-Some.n bytes _ c.loop-n.at (rest-whole bytes c.loop-n.at) c.in-Some.ensures c.loop-n.invariant.within c.loop-n.invariant.searched in
    let room = found.0 in
    omega (arith, room)

pub loop-n-preserved : goal.loop-n-preserved
loop-n-preserved c =
    let bytes = c.args.bytes.now in
    let found = searched-return c.in-Some.n bytes _ c.loop-n.at (rest-whole bytes c.loop-n.at) c.in-Some.ensures c.loop-n.invariant.within c.loop-n.invariant.searched in
    record {
      within = found.0;
      searched = record {
        flag = true;
        scans = found.1;
        goes_on = λ is more. elim c.else-at-bytes.branch [
          | else-at-bytes-via-then-at-bytes+else-bytes-at-eq10 w ↦ w.if-bytes-at-eq10.false
          | else-at-bytes-via-else-at-bytes w ↦ (let no = w.if-at-bytes.false in absurd (omega (arith, no, more)))
        ];
      };
    }

pub returns-clause-none : goal.returns-clause-none
returns-clause-none c = searched-none c.args.bytes.now _ c.loop-n.at (rest-whole c.args.bytes.now c.loop-n.at) c.in_default.ensures c.loop-n.invariant.within c.loop-n.invariant.searched
