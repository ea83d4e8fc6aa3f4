use Rattle.std.proofs.Common.{ap, ◌∙◌}
use Rattle.std.specs.Char.{digit_value}
use Rattle.tiny_http_body.proofs.ChunkSizeLemmas.{hex_of-some, hex_of-none, size-not_below}
use Rattle.tiny_http_body.proofs.chunked.size.hex.Goals as goal

pub returns-in-Some-clause-is : goal.returns-in-Some-clause-is
returns-in-Some-clause-is c =
    let v = c.in-Some.ensures.value in
    let e = c.from.ensures in
    hex_of-some c.args.b c.from-in-Some.result (rw e at v.0) (c.from-in-Some.ensures ∙ v.1 ∙ ap digit_value e)

pub returns-in-None-clause-is : goal.returns-in-None-clause-is
returns-in-None-clause-is c =
    let v = c.in-None.ensures.value in
    let e = c.from.ensures in
    hex_of-none c.args.b (size-not_below _ _ (rw e at v))
