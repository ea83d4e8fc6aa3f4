use Rattle.std.proofs.Common.{rules, ◌∙◌, ap, sym, subst, ℕ, List}
use Rattle.tiny_http_text.specs.Lines.{has_crlf}
use Rattle.tiny_http_io.specs.LineEnds.{EndsLine}
use Rattle.tiny_http_io.proofs.WithinLines.{none-seen, ends-unseen}
use Rattle.tiny_http_io.proofs.input.Input.held_line.Goals as goal

pub returns-else-is_within-clause-none : goal.returns-else-is_within-clause-none
returns-else-is_within-clause-none g c =
    let P : List ℕ → Type 0 = λ x. EndsLine x c.in-Some.n in
    let beyond = c.if-is_within.ensures.beyond (search rules) in
    ends-unseen c.args.left c.args.self.now.held c.in-Some.n (subst P c.as_slice.ensures.bytes c.in-Some.ensures.some) beyond.0 beyond.1

pub returns-in-None-clause-none : goal.returns-in-None-clause-none
returns-in-None-clause-none g c = none-seen c.args.left c.args.self.now.held (ap has_crlf (sym c.as_slice.ensures.bytes) ∙ c.in-None.ensures.none)
