use Rattle.std.proofs.Common.{◌≡◌, ◌∙◌, sym, ◌-◌, ◌&&◌, ◌==◌, false, get_or, arith}
use Rattle.std.proofs.lemmas.Bool.Decides.{nat_tests}
use Rattle.tiny_http_response.proofs.ReadableLemmas.{crlf-past, crlf-end}
use Rattle.tiny_http_response.proofs.readable.has_crlf.Goals.{else-text-i-eq13-via-then-text-i-eq13+else-text-i-eq10, else-text-i-eq13-via-else-text-i-eq13}
use Rattle.tiny_http_response.proofs.readable.has_crlf.Goals as goal

pub loop-i-preserved : goal.loop-i-preserved
loop-i-preserved c =
    let text = c.args.text.now in
    let none : (get_or text (c.loop-i.i - 1) 0 == 13 && get_or text c.loop-i.i 0 == 10) ≡ false =
    elim c.else-text-i-eq13.branch [
      | else-text-i-eq13-via-then-text-i-eq13+else-text-i-eq10 w ↦ grind (arith, nat_tests)
      | else-text-i-eq13-via-else-text-i-eq13 w ↦ grind (arith, nat_tests)
    ] in
    crlf-past text c.loop-i.i (omega arith) (omega arith) none ∙ c.loop-i.invariant

pub returns : goal.returns
returns c = sym (sym c.loop-i.invariant ∙ crlf-end c.args.text.now (c.loop-i.i - 1) (omega arith))
