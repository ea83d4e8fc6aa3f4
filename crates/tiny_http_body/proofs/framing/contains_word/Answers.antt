use Rattle.std.proofs.Common.{◌-◌, take, drop, length, sym, ◌∙◌, arith}
use Rattle.std.proofs.lemmas.Slice.{between_to_end}
use Rattle.tiny_http_body.proofs.BytesWords.{word-past}
use Rattle.tiny_http_body.proofs.framing.contains_word.Goals as goal

pub loop-i-preserved : goal.loop-i-preserved
loop-i-preserved c =
    let text = c.args.text.now in
    let i = c.loop-i.i in
    word-past c.args.word.now text (take (length text - i) (drop i text)) i _ (omega arith) (between_to_end text i (length text) (omega arith))
    (sym c.begins.ensures ∙ c.if-begins.false) c.loop-i.invariant
