use Rattle.std.proofs.Common.{rules, arith}
use Rattle.httparse.specs.Grammar.{is_ows}
use Rattle.tiny_http_text.proofs.BytesTrimming.{end-here, end-none}
use Rattle.tiny_http_head.proofs.blanks.trim_end.Goals.{then-loop-end-test+else-is_space_or_tab, else-loop-end-test}
use Rattle.tiny_http_head.proofs.blanks.trim_end.Goals as goal

pub returns : goal.returns
returns c =
    let i = c.loop-end.invariant in
    elim c.loop-end-test.branch [
      | then-loop-end-test+else-is_space_or_tab w ↦ end-here is_ows c.args.text.now c.loop-end.end 0 (omega arith) i.within (search rules) i.blank
      | else-loop-end-test w ↦ end-none is_ows c.args.text.now c.loop-end.end (omega arith) i.blank
    ]
