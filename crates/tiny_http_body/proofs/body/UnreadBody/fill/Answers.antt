use Rattle.std.proofs.Common.{rules, ◌≡◌, refl, sym, ◌∙◌, subst, ◌+◌, ◌<◌, ◌≤◌, ℕ, Bool, true, false, Option, length, take, drop, length-drop, arith}
use Rattle.std.proofs.lemmas.Bool.{ne_eqb, lt-ltb}
use Rattle.std.specs.Prelude.{◌==◌}
use Rattle.tiny_http_io.specs.declared.device.Stop.TheVariants.{End}
use Rattle.tiny_http_body.specs.Body.{Remaining, remaining, prepended_body, BodyStops, NoneRemains, ReadsOn, ends_met}
use Rattle.tiny_http_io.proofs.SourceGoesOn.{goes-on_more}
use Rattle.tiny_http_body.proofs.BodyReads.{read-more, moves-more, stays-settled, bytes-none, stops-none-left, input_state-more, ends-more}
use Rattle.tiny_http_body.proofs.body.UnreadBody.fill.Goals as goal

pub loop-at-preserved : goal.loop-at-preserved
loop-at-preserved g c =
    let inv = c.loop-at.invariant in
    let b = c.in-Ok.ensures.reads in
    let h = b.reads in
    let n = c.in-Ok.n in
    let some : 0 < length (drop c.loop-at.at c.read_behind.new.buf) = rw length-drop (omega (arith, c.in-Ok.ensures.room)) in
    let one : (n == 0) ≡ false = ne_eqb n 0 (λ e. c.in-Ok.n-test.1 e) in
    let M : Bool → Type 0 = λ t. ReadsOn c.loop-at.self n t c.read_behind.new.self in
    let moves = subst M one (h.moves some) in
    record {
      within = omega (arith, c.in-Ok.ensures.bound);
      given = read-more _ _ _ c.loop-at.buf c.read_behind.new.buf c.loop-at.at n inv.given h.bytes c.in-Ok.ensures.front c.in-Ok.ensures.bound;
      start = λ e. absurd (c.in-Ok.n-test.1 (omega (arith, e)));
      moves = λ some. moves-more _ _ _ c.loop-at.at n false inv.start inv.moves moves;
      stop_count = search rules;
      settled = λ e. (b.settled (inv.settled e).1 ∙ (inv.settled e).0, stays-settled _ _ n false moves (inv.settled e).1);
      goes_on = goes-on_more _ _ _ inv.goes_on h.goes_on;
      input_state = λ e. input_state-more c.loop-at.self c.read_behind.new.self n false c.args.source.now.input_state c.loop-at.source c.read_behind.new.source moves b.settled b.input_state (inv.input_state e);
    }

pub returns-then-at-eq0-clause-goes_on : goal.returns-then-at-eq0-clause-goes_on
returns-then-at-eq0-clause-goes_on g c = goes-on_more _ _ _ c.loop-at.invariant.goes_on c.in-Err.ensures.reads.reads.goes_on

pub returns-in-Ok-eq0-clause-fills : goal.returns-in-Ok-eq0-clause-fills
returns-in-Ok-eq0-clause-fills g c =
    let inv = c.loop-at.invariant in
    let x = c.in-Ok-eq0.ensures in
    let h = x.reads.reads in
    let at = c.loop-at.at in
    let buf = c.read_behind.new.buf in
    let was = remaining c.args.self.now c.args.source.now.feed in
    let old = remaining c.loop-at.self c.loop-at.source.feed in
    let new = remaining c.read_behind.new.self c.read_behind.new.source.feed in
    let n = c.in-Ok-eq0.field-0 in
    let zero : n ≡ 0 = c.in-Ok-eq0.field-0-test in
    let some : 0 < length (drop at buf) = rw length-drop (omega (arith, x.room)) in
    let end : BodyStops End old = h.end zero some in
    let same : new ≡ old = bytes-none old new (drop at buf) n h.bytes zero in
    let all = read-more was old new c.loop-at.buf buf at n inv.given h.bytes x.front x.bound in
    let none : at + n ≡ at = omega (arith, zero) in
    let T : ℕ → Type 0 = λ k. was ≡ prepended_body (take k buf) new in
    let M : ℕ → Bool → Type 0 = λ k t. ReadsOn c.loop-at.self k t c.read_behind.new.self in
    let moves : ReadsOn c.loop-at.self 0 true c.read_behind.new.self = subst (λ t. M 0 t) refl (subst (λ k. M k (k == 0)) zero (h.moves some)) in
    let less : at < length buf = x.room in
    let F : ℕ → Bool → Type 0 = λ k t. ReadsOn c.args.self.now k t c.read_behind.new.self in
    let on : ReadsOn c.args.self.now (at + 0) true c.read_behind.new.self = moves-more c.args.self.now c.loop-at.self c.read_behind.new.self at 0 true inv.start inv.moves moves in
    let zero_more : at + 0 ≡ at = omega arith in
    let P : Option Remaining → Type 0 = λ r. NoneRemains r in
    let Q : Option Remaining → Type 0 = λ r. BodyStops End r in (
      subst T none all,
      λ some. subst (λ t. F at t) (sym (lt-ltb at (length buf) less)) (subst (λ k. F k true) zero_more on),
      λ lt. subst P (sym same) (stops-none-left old End end),
      λ first some. subst Q (bytes-none was old c.loop-at.buf at inv.given first) end,
      λ first full. h.ended zero some,
    )

pub returns-in-Ok-eq0-clause-goes_on : goal.returns-in-Ok-eq0-clause-goes_on
returns-in-Ok-eq0-clause-goes_on g c = goes-on_more _ _ _ c.loop-at.invariant.goes_on c.in-Ok-eq0.ensures.reads.reads.goes_on

pub returns-else-at-eq0-clause-goes_on : goal.returns-else-at-eq0-clause-goes_on
returns-else-at-eq0-clause-goes_on g c = goes-on_more _ _ _ c.loop-at.invariant.goes_on c.in-Err.ensures.reads.reads.goes_on

pub returns-then-at-eq0-clause-input_state : goal.returns-then-at-eq0-clause-input_state
returns-then-at-eq0-clause-input_state g c e =
    input_state-more c.loop-at.self c.read_behind.new.self 0 true c.args.source.now.input_state c.loop-at.source c.read_behind.new.source c.in-Err.ensures.reads.broken c.in-Err.ensures.reads.settled c.in-Err.ensures.reads.input_state (c.loop-at.invariant.input_state e)

pub returns-in-Ok-eq0-clause-input_state : goal.returns-in-Ok-eq0-clause-input_state
returns-in-Ok-eq0-clause-input_state g c e =
    let h = c.in-Ok-eq0.ensures.reads in
    let some : 0 < length (drop c.loop-at.at c.read_behind.new.buf) = rw length-drop (omega (arith, c.in-Ok-eq0.ensures.room)) in
    input_state-more c.loop-at.self c.read_behind.new.self c.in-Ok-eq0.field-0 (c.in-Ok-eq0.field-0 == 0) c.args.source.now.input_state c.loop-at.source c.read_behind.new.source (h.reads.moves some) h.settled h.input_state (c.loop-at.invariant.input_state e)

pub returns-else-at-eq0-clause-input_state : goal.returns-else-at-eq0-clause-input_state
returns-else-at-eq0-clause-input_state g c e =
    input_state-more c.loop-at.self c.read_behind.new.self 0 true c.args.source.now.input_state c.loop-at.source c.read_behind.new.source c.in-Err.ensures.reads.broken c.in-Err.ensures.reads.settled c.in-Err.ensures.reads.input_state (c.loop-at.invariant.input_state e)

pub returns-in-Ok-eq0-clause-whole : goal.returns-in-Ok-eq0-clause-whole
returns-in-Ok-eq0-clause-whole g c =
    let inv = c.loop-at.invariant in
    let n = c.in-Ok-eq0.field-0 in
    let stop_count = g.R.ReadDevice.stop_count in
    let more = ends-more c.args.self.now c.loop-at.self c.read_behind.new.self c.loop-at.at inv.start inv.moves in
    let T : ℕ → Type 0 = λ k. stop_count c.read_behind.new.source.reader ≤ stop_count c.loop-at.source.reader + ends_met c.loop-at.self k c.read_behind.new.self in
    let here : T 0 = subst T c.in-Ok-eq0.field-0-test c.in-Ok-eq0.ensures.whole in
    omega (arith, here, inv.stop_count, more)

pub returns-then-at-eq0-clause-whole : goal.returns-then-at-eq0-clause-whole
returns-then-at-eq0-clause-whole g c =
    let inv = c.loop-at.invariant in
    let more = ends-more c.args.self.now c.loop-at.self c.read_behind.new.self c.loop-at.at inv.start inv.moves in
    let M : ℕ → Type 0 = λ k. ends_met c.loop-at.self 0 c.read_behind.new.self ≤ ends_met c.args.self.now k c.read_behind.new.self in
    omega (arith, c.in-Err.ensures.whole, inv.stop_count, subst M c.if-at-eq0.true more)

pub returns-else-at-eq0-clause-whole : goal.returns-else-at-eq0-clause-whole
returns-else-at-eq0-clause-whole g c =
    let inv = c.loop-at.invariant in
    let more = ends-more c.args.self.now c.loop-at.self c.read_behind.new.self c.loop-at.at inv.start inv.moves in
    omega (arith, c.in-Err.ensures.whole, inv.stop_count, more)
