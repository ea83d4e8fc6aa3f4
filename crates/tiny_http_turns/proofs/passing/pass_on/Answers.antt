use Rattle.std.proofs.Common.{ℕ, suc, refl, subst, arith, inl, inr, List, Option}
use Rattle.std.specs.Global.{Vec}
use Rattle.tiny_http_turns.specs.Passing.{holds}
use Rattle.tiny_http_turns.proofs.passing.pass_on.Goals as goal

pub loop-left-init : goal.loop-left-init
loop-left-init g c =
    let W : List ℕ → Type 0 = λ t. g.T.HeldTurn.writes c.args.turn.now c.args.output.now t c.write_text.new.self c.write_text.new.output in
    (0, refl, (subst W c.deref.ensures.value c.write_text.ensures, refl))

pub returns-in-None : goal.returns-in-None
returns-in-None g c =
    let i = c.loop-left.invariant in
    let count = i.1 in
    let none = c.in-None.ensures in
    let held = holds c.loop-left.turn c.loop-left.numbers c.loop-left.output in
    let mid = holds c.finish.new.self c.finish.new.numbers c.loop-left.output in
    let there = holds c.write_text-in-Some.new.self c.finish.new.numbers c.write_text-in-Some.new.output in
    let F : Option (Vec ℕ) → Type 0 = λ r. g.T.HeldTurn.finishes c.loop-left.turn c.loop-left.numbers r c.finish.new.self c.finish.new.numbers in
    let W : List ℕ → Type 0 = λ t. g.T.HeldTurn.writes c.finish.new.self c.loop-left.output t c.write_text-in-Some.new.self c.write_text-in-Some.new.output in
    record {
      passed = suc i.0;
      last = there;
      texts = (held, c.in-Some.left, mid, i.2, (subst F c.in-Some.is c.finish.ensures, refl), (subst W c.deref-in-Some.ensures.value c.write_text-in-Some.ensures, refl));
      ends = inr (omega (arith, count, none), refl {a = there});
    }

pub loop-left-smaller : goal.loop-left-smaller
loop-left-smaller g c =
    let left = c.in-Some-checked_sub.ensures in
    let some = left.0 in
    let less = left.1 in
    omega (arith, some, less)

pub loop-left-preserved : goal.loop-left-preserved
loop-left-preserved g c =
    let i = c.loop-left.invariant in
    let left = c.in-Some-checked_sub.ensures in
    let count = i.1 in
    let some = left.0 in
    let less = left.1 in
    let held = holds c.loop-left.turn c.loop-left.numbers c.loop-left.output in
    let mid = holds c.finish.new.self c.finish.new.numbers c.loop-left.output in
    let F : Option (Vec ℕ) → Type 0 = λ r. g.T.HeldTurn.finishes c.loop-left.turn c.loop-left.numbers r c.finish.new.self c.finish.new.numbers in
    let W : List ℕ → Type 0 = λ t. g.T.HeldTurn.writes c.finish.new.self c.loop-left.output t c.write_text-in-Some.new.self c.write_text-in-Some.new.output in
    (suc i.0, omega (arith, count, some, less), (held, c.in-Some.left, mid, i.2, (subst F c.in-Some.is c.finish.ensures, refl), (subst W c.deref-in-Some.ensures.value c.write_text-in-Some.ensures, refl)))

pub returns : goal.returns
returns g c =
    let i = c.loop-left.invariant in
    let held = holds c.loop-left.turn c.loop-left.numbers c.loop-left.output in
    let F : Option (Vec ℕ) → Type 0 = λ r. g.T.HeldTurn.finishes c.loop-left.turn c.loop-left.numbers r c.finish.new.self c.finish.new.numbers in
    record { passed = i.0; last = held; texts = i.2; ends = inl (subst F c.in_default.is c.finish.ensures, refl) }
