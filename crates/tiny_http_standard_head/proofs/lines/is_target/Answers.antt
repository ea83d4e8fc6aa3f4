use Rattle.std.proofs.Common.{rules, ◌≡◌, sym, ◌∙◌, false, ◌||◌}
use Rattle.tiny_http_head.proofs.FirstByte.{contrary}
use Rattle.tiny_http_standard_head.specs.Lines.{is_origin_form, is_asterisk_form}
use Rattle.tiny_http_standard_head.proofs.LinesLemmas.{absolute-target}
use Rattle.tiny_http_standard_head.proofs.lines.is_target.Goals.{then-starts_with, else-starts_with}
use Rattle.tiny_http_standard_head.proofs.lines.is_target.Goals as goal

pub returns-else-is_asterisk_form : goal.returns-else-is_asterisk_form
returns-else-is_asterisk_form c =
    let neither : (is_origin_form c.args.target.now || is_asterisk_form c.args.method.now c.args.target.now) ≡ false = elim c.if-starts_with.branch [
      | then-starts_with w ↦ contrary c.if-starts_with.value (w.value-is ∙ w.if-starts_with.true) c.if-is_asterisk_form.false
      | else-starts_with w ↦ search (rules, w.value-is, w.is_asterisk_form.ensures, c.starts_with.ensures.value, w.if-starts_with.false, c.if-is_asterisk_form.false)
    ] in
    absolute-target c.args.method.now c.args.target.now (sym c.are_visible.ensures ∙ c.if-not-are_visible.false) (sym c.is.ensures ∙ c.if-is.false) neither c.is_absolute_form.result c.is_absolute_form.ensures
