use Rattle.std.proofs.Common.{rules, ℕ, ◌+◌, ◌-◌, ◌*◌, ◌≤◌, sym, ap, ◌∙◌, take, get_or}
use Rattle.std.specs.Prelude.{◌^◌}
use Rattle.std.specs.Str.Parse.{digits_value}
use Rattle.tiny_http_head.proofs.NumbersLemmas.{one-digit, more-digits, other-byte, no-digits, too-large, has-number}
use Rattle.tiny_http_head.proofs.content_length.number_in.Goals as goal

pub returns-then-not-is_ascii_digit : goal.returns-then-not-is_ascii_digit
returns-then-not-is_ascii_digit c = no-digits c.args.text.now (other-byte c.args.text.now c.loop-digit.digit-index (search rules) (search rules))

pub returns-in_err-number : goal.returns-in_err-number
returns-in_err-number c =
    let text = c.args.text.now in
    let i = c.loop-digit.digit-index in
    let more = one-digit text i (search rules) (search rules) in
    let large : 2 ^ 64 ≤ digits_value 10 (take (i + 1) text) = rw (more, ← c.loop-digit.invariant.number) c.in_err-number.ensures.none in
    c.from_residual.ensures ∙ too-large text (i + 1) large

pub loop-digit-preserved : goal.loop-digit-preserved
loop-digit-preserved c =
    let text = c.args.text.now in
    let i = c.loop-digit.digit-index in
    record {
      number = c.in_ok-number.ensures.some.0 ∙ ap (λ (n : ℕ). n * 10 + (get_or text i 0 - 48)) c.loop-digit.invariant.number ∙ sym (one-digit text i (search rules) (search rules));
      within = c.in_ok-number.ensures.some.1;
      digits = more-digits text i (search rules) (search rules) c.loop-digit.invariant.digits;
    }

pub returns : goal.returns
returns c = has-number c.args.text.now c.loop-digit.digit-index c.loop-digit.number (search rules) (search rules) c.loop-digit.invariant.number c.loop-digit.invariant.digits c.loop-digit.invariant.within
