use Rattle.std.proofs.Common.{rules, arith}
use Rattle.tiny_http_text.specs.Bytes.{is_blank}
use Rattle.tiny_http_text.proofs.BytesTrimming.{end-here, end-none}
use Rattle.tiny_http_text.proofs.bytes.trim_end.Goals.{then-loop-end-test+else-is_blank, else-loop-end-test}
use Rattle.tiny_http_text.proofs.bytes.trim_end.Goals as goal

pub returns : goal.returns
returns c =
    let i = c.loop-end.invariant in
    elim c.loop-end-test.branch [
      | then-loop-end-test+else-is_blank w ↦ end-here is_blank c.args.text.now c.loop-end.end 0 (omega arith) i.within (search rules) i.blank
      | else-loop-end-test w ↦ end-none is_blank c.args.text.now c.loop-end.end (omega arith) i.blank
    ]
