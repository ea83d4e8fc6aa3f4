use Rattle.std.proofs.Common.{◌≡◌, ◌∷◌, None, refl, arith}
use Rattle.tiny_http_turns.proofs.ByNumberLemmas.{popped-none, passed-next, shorter}
use Rattle.tiny_http_turns.proofs.by_number.pass_empty.Given as given
use Rattle.tiny_http_turns.proofs.by_number.pass_empty.Goals as goal

first-goes : (g : given.Over) (c : goal.After-row_known-1 g) → c.loop-kept.kept.items ≡ None ∷ c.pop_front.new.self.items
first-goes g c =
    let some = c.in-Some-None.ensures.variant.0 refl in
    let x = c.in-Some-None.field-0.now in
    popped-none c.loop-kept.kept.items c.pop_front.new.self.items c.pop_front.result x _ c.pop_front.ensures.items (c.pop_front.ensures.value x some) c.in-Some-None.ensures.lookup c.in-Some-None.field-0-is

-- src/by_number.rt:125:5
pub loop-kept-init : goal.loop-kept-init
loop-kept-init g c = record { same = refl; bound = c.requires.bound }

-- src/by_number.rt:127:9
pub overflow_add-passed : goal.overflow_add-passed
overflow_add-passed g c = let one = shorter c.loop-kept.kept.items c.pop_front.new.self.items (first-goes g c) in omega (arith, one, c.loop-kept.invariant.bound)

-- src/by_number.rt:125:5
pub loop-kept-smaller : goal.loop-kept-smaller
loop-kept-smaller g c = let one = shorter c.loop-kept.kept.items c.pop_front.new.self.items (first-goes g c) in omega (arith, one)

-- src/by_number.rt:125:5
pub loop-kept-preserved : goal.loop-kept-preserved
loop-kept-preserved g c =
    let one = shorter c.loop-kept.kept.items c.pop_front.new.self.items (first-goes g c) in
    record {
      same = passed-next c.loop-kept.passed c.loop-kept.kept.items c.pop_front.new.self.items _ (first-goes g c) c.loop-kept.invariant.same;
      bound = omega (arith, one, c.loop-kept.invariant.bound);
    }

-- src/by_number.rt:119:1
pub returns-in_default-clause-same : goal.returns-in_default-clause-same
returns-in_default-clause-same g c = c.loop-kept.invariant.same

-- src/by_number.rt:119:1
pub returns-in_default-clause-bound : goal.returns-in_default-clause-bound
returns-in_default-clause-bound g c = c.loop-kept.invariant.bound

-- src/by_number.rt:119:1
pub returns-in_default-2-clause-same : goal.returns-in_default-2-clause-same
returns-in_default-2-clause-same g c = c.loop-kept.invariant.same

-- src/by_number.rt:119:1
pub returns-in_default-2-clause-bound : goal.returns-in_default-2-clause-bound
returns-in_default-2-clause-bound g c = c.loop-kept.invariant.bound
