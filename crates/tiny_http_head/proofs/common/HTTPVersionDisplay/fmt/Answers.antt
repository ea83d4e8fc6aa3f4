use Rattle.std.proofs.Common.{refl, ap, ◌∙◌, subst, List, ℕ, codes, decimal, ◌++◌}
use Rattle.std.specs.Fmt.{HasWrittenStyled}
use Rattle.tiny_http_head.proofs.FmtLemmas.{written-behind}
use Rattle.tiny_http_head.proofs.common.HTTPVersionDisplay.fmt.Goals as goal

pub returns-clause-styled : goal.returns-clause-styled
returns-clause-styled g c = λ flush ok.
    let major = c.in_ok-write_str.ensures.styled flush refl in
    let point = c.in_ok-write_str-2.ensures.styled major.flush refl in
    let minor = c.write_str-3.ensures.styled point.flush ok in
    let whole = written-behind g.W.Write.write_str_gives c.args.f.now c.write_str-2.new.self c.write_str-3.new.self _ _ (written-behind g.W.Write.write_str_gives c.args.f.now c.write_str.new.self c.write_str-2.new.self _ _ major point) minor in
    let P : List ℕ → Type 0 = λ bs. HasWrittenStyled g.W.Write.write_str_gives c.args.f.now bs c.write_str-3.new.self in
    let front = ap (λ (x : List ℕ). x ++ codes "." ++ c.as_str-2.result.now) (c.as_str.ensures ∙ c.decimal.ensures ∙ ap decimal c.into.ensures) in
    let back = ap (λ (y : List ℕ). decimal c.args.self.now.0 ++ codes "." ++ y) (c.as_str-2.ensures ∙ c.decimal-2.ensures ∙ ap decimal c.into-2.ensures) in
    subst P (front ∙ back) whole
