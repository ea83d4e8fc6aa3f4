use Rattle.std.proofs.Common.{◌≡◌, ◌+◌, slice_get, slice_set, ap, sym, ◌∙◌, arith}
use Rattle.tiny_http_turns.specs.ByNumber.{with_passed}
use Rattle.tiny_http_turns.proofs.ByNumberLemmas.{get-of, set-of}
use Rattle.tiny_http_turns.proofs.by_number.ByNumber.replace.Goals as goal

-- src/by_number.rt:92:5
pub returns-clause-some : goal.returns-clause-some
returns-clause-some g c =
    let place : c.args.number ≡ c.self.inside.passed + c.in_ok-at.at = (let le = c.in_ok-at.ensures.0 in let is = c.in_ok-at.ensures.1 in omega (arith, le, is)) in
    let got = c.in_ok-was.ensures.some in (
      ap (λ l. slice_get l c.args.number) (sym c.self.view_is) ∙ (get-of c.self.inside.passed c.self.inside.kept.items c.in_ok-at.at c.args.number place ∙ got.0),
      c.pass_empty.ensures.same ∙ (ap (with_passed c.self.inside.passed) got.1 ∙ (set-of c.self.inside.passed c.self.inside.kept.items c.in_ok-at.at c.args.number c.args.value place ∙ ap (λ l. slice_set l c.args.number c.args.value) c.self.view_is)),
    )
