use Rattle.std.proofs.Common.{◌≡◌, ◌+◌, ap, sym, ◌∙◌, refl, subst, true, false, Some, None}
use Rattle.std.specs.Prelude.{slice_get}
use Rattle.tiny_http_turns.specs.declared.turns.Finishing.TheVariants.{Strange as IsStrange}
use Rattle.tiny_http_turns.specs.Turns.{Held, marks_of, TurnAnswer, TurnOutcome}
use Rattle.tiny_http_turns.specs.TurnsCalls.{Finishes}
use Rattle.tiny_http_turns.proofs.TurnsKept.{get-of, place-0, held-front, strange-finish, finish-front, bound-finish, marks-finish, kept-pass, finishes-pass, kept-go, finishes-go}
use Rattle.tiny_http_turns.proofs.turns.Turns.finish.Goals as goal
use Rattle.tiny_http_turns.proofs.turns.Turns.finish.Goals.{then-number-self-via-then-number-self, then-number-self-via-else-number-self+then-not-is_front_held}

pub returns-then-number-self-clause-marks : goal.returns-then-number-self-clause-marks
returns-then-number-self-clause-marks g c =
    let t = c.self.inside in
    let marks = marks_of t.turn t.entries.items in
    let not_held : slice_get marks c.args.number ≡ Some Held → ⊥ = elim c.then-number-self.branch [
      | then-number-self-via-then-number-self w ↦ λ e. absurd (w.if-number-self.true (held-front t.turn t.entries.items t.resting c.args.number c.self.invariant.0 e).0)
      | then-number-self-via-else-number-self+then-not-is_front_held w ↦ λ e.
          (let is : true ≡ false = sym (w.is_front_held.ensures.1 (held-front t.turn t.entries.items t.resting c.args.number c.self.invariant.0 e).1) ∙ w.if-not-is_front_held.true in cc)
    ] in
    rw (← c.self.view_is) (sym (ap (λ (o : TurnOutcome). o.1) (strange-finish marks c.args.number not_held)))

pub returns-then-number-self-clause-item : goal.returns-then-number-self-clause-item
returns-then-number-self-clause-item g c =
    let t = c.self.inside in
    let marks = marks_of t.turn t.entries.items in
    let not_held : slice_get marks c.args.number ≡ Some Held → ⊥ = elim c.then-number-self.branch [
      | then-number-self-via-then-number-self w ↦ λ e. absurd (w.if-number-self.true (held-front t.turn t.entries.items t.resting c.args.number c.self.invariant.0 e).0)
      | then-number-self-via-else-number-self+then-not-is_front_held w ↦ λ e.
          (let is : true ≡ false = sym (w.is_front_held.ensures.1 (held-front t.turn t.entries.items t.resting c.args.number c.self.invariant.0 e).1) ∙ w.if-not-is_front_held.true in cc)
    ] in
    rw (← c.self.view_is) (subst (λ (a : TurnAnswer). Finishes a c.args.item t.resting (IsStrange c.args.item) t.resting) (sym (ap (λ (o : TurnOutcome). o.0) (strange-finish marks c.args.number not_held))) (refl, refl))

pub invariant_of-self : goal.invariant_of-self
invariant_of-self g c =
    let t = c.self.inside in
    let here = c.if-number-self.false in
    let front = c.is_front_held.ensures.0 c.if-not-is_front_held.false in
    let is_held = get-of t.turn t.entries.items 0 c.args.number (place-0 c.args.number t.turn here) ∙ front in
    let new = c.hold_left.new.entries.items in
    let stored = rw c.pop_front.ensures.rest at c.hold_left.ensures.marks in
    let stated = rw (c.pop_front.ensures.rest, c.in-Some.is) at c.hold_left.ensures.text in
    let f = finish-front t.turn c.args.number t.entries.items new (Some c.in-Some.text) here front stored stated in
    (kept-go t.turn t.entries.items c.args.number t.resting c.self.invariant.0 is_held (marks_of (c.args.number + 1) new) f.stored c.in-Some.text f.reports, bound-finish t.turn c.args.number t.entries.items new here front stored c.self.invariant.1)

pub invariant_of-self-in-None : goal.invariant_of-self-in-None
invariant_of-self-in-None g c =
    let t = c.self.inside in
    let here = c.if-number-self.false in
    let front = c.is_front_held.ensures.0 c.if-not-is_front_held.false in
    let is_held = get-of t.turn t.entries.items 0 c.args.number (place-0 c.args.number t.turn here) ∙ front in
    let new = c.hold_left.new.entries.items in
    let stored = rw c.pop_front.ensures.rest at c.hold_left.ensures.marks in
    let stated = rw (c.pop_front.ensures.rest, c.in-None.is) at c.hold_left.ensures.text in
    let f = finish-front t.turn c.args.number t.entries.items new None here front stored stated in
    (kept-pass t.turn t.entries.items c.args.number t.resting c.self.invariant.0 is_held (marks_of (c.args.number + 1) new) f.stored c.args.item f.reports, bound-finish t.turn c.args.number t.entries.items new here front stored c.self.invariant.1)

pub returns-in-Some-clause-in_order : goal.returns-in-Some-clause-in_order
returns-in-Some-clause-in_order g c =
    let t = c.self.inside in
    let here = c.if-number-self.false in
    let front = c.is_front_held.ensures.0 c.if-not-is_front_held.false in
    let is_held = get-of t.turn t.entries.items 0 c.args.number (place-0 c.args.number t.turn here) ∙ front in
    let new = c.hold_left.new.entries.items in
    let stored = rw c.pop_front.ensures.rest at c.hold_left.ensures.marks in
    let stated = rw (c.pop_front.ensures.rest, c.in-Some.is) at c.hold_left.ensures.text in
    let f = finish-front t.turn c.args.number t.entries.items new (Some c.in-Some.text) here front stored stated in
    kept-go t.turn t.entries.items c.args.number t.resting c.self.invariant.0 is_held (marks_of (c.args.number + 1) new) f.stored c.in-Some.text f.reports

pub returns-in-Some-clause-marks : goal.returns-in-Some-clause-marks
returns-in-Some-clause-marks g c =
    let t = c.self.inside in
    let here = c.if-number-self.false in
    let front = c.is_front_held.ensures.0 c.if-not-is_front_held.false in
    let is_held = get-of t.turn t.entries.items 0 c.args.number (place-0 c.args.number t.turn here) ∙ front in
    let new = c.hold_left.new.entries.items in
    let stored = rw c.pop_front.ensures.rest at c.hold_left.ensures.marks in
    let stated = rw (c.pop_front.ensures.rest, c.in-Some.is) at c.hold_left.ensures.text in
    let f = finish-front t.turn c.args.number t.entries.items new (Some c.in-Some.text) here front stored stated in
    rw (← c.self.view_is) (marks-finish t.turn t.entries.items c.args.number t.resting c.self.invariant.0 is_held (marks_of (c.args.number + 1) new) f.stored)

pub returns-in-Some-clause-item : goal.returns-in-Some-clause-item
returns-in-Some-clause-item g c =
    let t = c.self.inside in
    let here = c.if-number-self.false in
    let front = c.is_front_held.ensures.0 c.if-not-is_front_held.false in
    let is_held = get-of t.turn t.entries.items 0 c.args.number (place-0 c.args.number t.turn here) ∙ front in
    let new = c.hold_left.new.entries.items in
    let stored = rw c.pop_front.ensures.rest at c.hold_left.ensures.marks in
    let stated = rw (c.pop_front.ensures.rest, c.in-Some.is) at c.hold_left.ensures.text in
    let f = finish-front t.turn c.args.number t.entries.items new (Some c.in-Some.text) here front stored stated in
    rw (← c.self.view_is) (finishes-go t.turn t.entries.items c.args.number t.resting c.self.invariant.0 is_held (marks_of (c.args.number + 1) new) f.stored c.args.item c.in-Some.text f.reports)

pub returns-in-None-clause-in_order : goal.returns-in-None-clause-in_order
returns-in-None-clause-in_order g c =
    let t = c.self.inside in
    let here = c.if-number-self.false in
    let front = c.is_front_held.ensures.0 c.if-not-is_front_held.false in
    let is_held = get-of t.turn t.entries.items 0 c.args.number (place-0 c.args.number t.turn here) ∙ front in
    let new = c.hold_left.new.entries.items in
    let stored = rw c.pop_front.ensures.rest at c.hold_left.ensures.marks in
    let stated = rw (c.pop_front.ensures.rest, c.in-None.is) at c.hold_left.ensures.text in
    let f = finish-front t.turn c.args.number t.entries.items new None here front stored stated in
    kept-pass t.turn t.entries.items c.args.number t.resting c.self.invariant.0 is_held (marks_of (c.args.number + 1) new) f.stored c.args.item f.reports

pub returns-in-None-clause-marks : goal.returns-in-None-clause-marks
returns-in-None-clause-marks g c =
    let t = c.self.inside in
    let here = c.if-number-self.false in
    let front = c.is_front_held.ensures.0 c.if-not-is_front_held.false in
    let is_held = get-of t.turn t.entries.items 0 c.args.number (place-0 c.args.number t.turn here) ∙ front in
    let new = c.hold_left.new.entries.items in
    let stored = rw c.pop_front.ensures.rest at c.hold_left.ensures.marks in
    let stated = rw (c.pop_front.ensures.rest, c.in-None.is) at c.hold_left.ensures.text in
    let f = finish-front t.turn c.args.number t.entries.items new None here front stored stated in
    rw (← c.self.view_is) (marks-finish t.turn t.entries.items c.args.number t.resting c.self.invariant.0 is_held (marks_of (c.args.number + 1) new) f.stored)

pub returns-in-None-clause-item : goal.returns-in-None-clause-item
returns-in-None-clause-item g c =
    let t = c.self.inside in
    let here = c.if-number-self.false in
    let front = c.is_front_held.ensures.0 c.if-not-is_front_held.false in
    let is_held = get-of t.turn t.entries.items 0 c.args.number (place-0 c.args.number t.turn here) ∙ front in
    let new = c.hold_left.new.entries.items in
    let stored = rw c.pop_front.ensures.rest at c.hold_left.ensures.marks in
    let stated = rw (c.pop_front.ensures.rest, c.in-None.is) at c.hold_left.ensures.text in
    let f = finish-front t.turn c.args.number t.entries.items new None here front stored stated in
    rw (← c.self.view_is) (finishes-pass t.turn t.entries.items c.args.number t.resting c.self.invariant.0 is_held (marks_of (c.args.number + 1) new) f.stored c.args.item f.reports)
