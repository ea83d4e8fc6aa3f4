use Rattle.std.proofs.Common.{ℕ, sym, subst}
use Rattle.std.specs.Global.{Vec}
use Rattle.tiny_http_io.specs.declared.input.Input.{Input}
use Rattle.tiny_http_io.specs.Input.{input_feed}
use Rattle.tiny_http_io.proofs.WithinLines.{TakesWithin, taken-of, held-of, within-ascii, within-not_ascii}
use Rattle.tiny_http_io.proofs.input.Input.read_line.Goals.{in-Taken, in-Held+in-Ok}
use Rattle.tiny_http_io.proofs.input.Input.read_line.Goals as goal

pub returns-in-Ok-from_ascii-clause-line : goal.returns-in-Ok-from_ascii-clause-line
returns-in-Ok-from_ascii-clause-line g c =
    let feed = input_feed g.R.ReadDevice.feed in
    let found = c.find_line.new.self in
    let line = c.in_ok-text.ensures.line in
    let here = c.match-branch-2 in
    let T : Input g.row.R.Denot → Vec ℕ → Type 0 = λ s t. TakesWithin c.args.left (feed c.args.self.now) (feed s) t.items in
    let taken : T here.self here.text = elim here.branch [
      | in-Taken w ↦ subst (λ s. T s here.text) (sym w.self-is) (subst (λ t. T found t) (sym w.text-is) (taken-of c.args.left _ (feed found) found.held found.skip c.in_ok-text.field-0 w.in-Taken.text line w.in-Taken.is))
      | in-Held+in-Ok w ↦ subst (λ s. T s here.text) (sym w.self-is) (subst (λ t. T w.take_line.new.self t) (sym w.text-is) (held-of g.R.ReadDevice.feed c.args.left _ found w.take_line.new.self c.in_ok-text.field-0 w.in-Held.n w.in-Ok.text line w.in-Held.is w.in-Ok.ensures.text w.in-Ok.ensures.rest))
    ] in
    rw c.in-Ok-from_ascii.ensures.ok (within-ascii c.args.left _ (feed here.self) here.text.items taken c.in-Ok-from_ascii.ensures.ascii)

pub returns-clause-line : goal.returns-clause-line
returns-clause-line g c =
    let feed = input_feed g.R.ReadDevice.feed in
    let found = c.find_line.new.self in
    let line = c.in_ok-text.ensures.line in
    let here = c.match-branch-2 in
    let T : Input g.row.R.Denot → Vec ℕ → Type 0 = λ s t. TakesWithin c.args.left (feed c.args.self.now) (feed s) t.items in
    let taken : T here.self here.text = elim here.branch [
      | in-Taken w ↦ subst (λ s. T s here.text) (sym w.self-is) (subst (λ t. T found t) (sym w.text-is) (taken-of c.args.left _ (feed found) found.held found.skip c.in_ok-text.field-0 w.in-Taken.text line w.in-Taken.is))
      | in-Held+in-Ok w ↦ subst (λ s. T s here.text) (sym w.self-is) (subst (λ t. T w.take_line.new.self t) (sym w.text-is) (held-of g.R.ReadDevice.feed c.args.left _ found w.take_line.new.self c.in_ok-text.field-0 w.in-Held.n w.in-Ok.text line w.in-Held.is w.in-Ok.ensures.text w.in-Ok.ensures.rest))
    ] in
    within-not_ascii c.args.left _ (feed here.self) here.text.items taken c.in-Err-from_ascii.ensures.refused
