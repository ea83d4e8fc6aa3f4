use Rattle.std.proofs.Common.{refl, ap, ◌∙◌, subst, List, ℕ, codes, ◌++◌}
use Rattle.std.specs.Fmt.{HasWrittenStyled}
use Rattle.tiny_http_head.proofs.FmtLemmas.{written-behind}
use Rattle.tiny_http_head.proofs.common.HeaderDisplay.fmt.Goals as goal

pub returns-clause-styled : goal.returns-clause-styled
returns-clause-styled g c = λ flush ok.
    let name = c.in_ok-write_str.ensures.styled flush refl in
    let colon = c.in_ok-write_str-2.ensures.styled name.flush refl in
    let value = c.write_str-3.ensures.styled colon.flush ok in
    let whole = written-behind g.W.Write.write_str_gives c.args.f.now c.write_str-2.new.self c.write_str-3.new.self _ _ (written-behind g.W.Write.write_str_gives c.args.f.now c.write_str.new.self c.write_str-2.new.self _ _ name colon) value in
    let P : List ℕ → Type 0 = λ bs. HasWrittenStyled g.W.Write.write_str_gives c.args.f.now bs c.write_str-3.new.self in
    let front = ap (λ (x : List ℕ). x ++ codes ": " ++ c.as_str-3.result.now) (c.as_str-2.ensures.value ∙ c.as_str.ensures) in
    let back = ap (λ (y : List ℕ). c.args.self.now.field ++ codes ": " ++ y) c.as_str-3.ensures.value in
    subst P (front ∙ back) whole
