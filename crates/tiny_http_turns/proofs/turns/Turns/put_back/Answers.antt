use Rattle.std.proofs.Common.{◌≡◌, ap, sym, ◌∙◌, refl, subst, true, false, Some, Err}
use Rattle.std.specs.Prelude.{slice_get}
use Rattle.tiny_http_turns.specs.declared.turns.Entry.TheVariants.{Open as OpenEntry}
use Rattle.tiny_http_turns.specs.Turns.{Held, marks_of, TurnAnswer, TurnOutcome}
use Rattle.tiny_http_turns.specs.TurnsCalls.{PutsBack}
use Rattle.tiny_http_turns.proofs.TurnsKept.{get-of, set-of, place-0, bound-set, held-front, strange-put_back, kept-open, marks-put_back, puts-open}
use Rattle.tiny_http_turns.proofs.turns.Turns.put_back.Goals as goal
use Rattle.tiny_http_turns.proofs.turns.Turns.put_back.Goals.{then-number-self-via-then-number-self, then-number-self-via-else-number-self+then-not-is_front_held}

pub returns-then-number-self-clause-marks : goal.returns-then-number-self-clause-marks
returns-then-number-self-clause-marks g c =
    let t = c.self.inside in
    let marks = marks_of t.turn t.entries.items in
    let not_held : slice_get marks c.args.number ≡ Some Held → ⊥ = elim c.then-number-self.branch [
      | then-number-self-via-then-number-self w ↦ λ e. absurd (w.if-number-self.true (held-front t.turn t.entries.items t.resting c.args.number c.self.invariant.0 e).0)
      | then-number-self-via-else-number-self+then-not-is_front_held w ↦ λ e.
          (let is : true ≡ false = sym (w.is_front_held.ensures.1 (held-front t.turn t.entries.items t.resting c.args.number c.self.invariant.0 e).1) ∙ w.if-not-is_front_held.true in cc)
    ] in
    rw (← c.self.view_is) (sym (ap (λ (o : TurnOutcome). o.1) (strange-put_back marks c.args.number not_held)))

pub returns-then-number-self-clause-item : goal.returns-then-number-self-clause-item
returns-then-number-self-clause-item g c =
    let t = c.self.inside in
    let marks = marks_of t.turn t.entries.items in
    let not_held : slice_get marks c.args.number ≡ Some Held → ⊥ = elim c.then-number-self.branch [
      | then-number-self-via-then-number-self w ↦ λ e. absurd (w.if-number-self.true (held-front t.turn t.entries.items t.resting c.args.number c.self.invariant.0 e).0)
      | then-number-self-via-else-number-self+then-not-is_front_held w ↦ λ e.
          (let is : true ≡ false = sym (w.is_front_held.ensures.1 (held-front t.turn t.entries.items t.resting c.args.number c.self.invariant.0 e).1) ∙ w.if-not-is_front_held.true in cc)
    ] in
    rw (← c.self.view_is) (subst (λ (a : TurnAnswer). PutsBack {U = Unit {0}} a c.args.item t.resting (Err c.args.item) t.resting) (sym (ap (λ (o : TurnOutcome). o.0) (strange-put_back marks c.args.number not_held))) (refl, refl))

pub invariant_of-self : goal.invariant_of-self
invariant_of-self g c =
    let t = c.self.inside in
    let here = c.if-number-self.false in
    let front = c.is_front_held.ensures.0 c.if-not-is_front_held.false in
    let is_held = get-of t.turn t.entries.items 0 c.args.number (place-0 c.args.number t.turn here) ∙ front in
    let new = c.set_entry.new.entries.items in
    let stored = ap (marks_of t.turn) c.set_entry.ensures ∙ set-of t.turn t.entries.items 0 c.args.number OpenEntry (place-0 c.args.number t.turn here) in
    (kept-open t.turn t.entries.items c.args.number t.resting c.self.invariant.0 is_held (marks_of t.turn new) c.args.item stored, bound-set t.turn t.entries.items new 0 OpenEntry c.set_entry.ensures c.self.invariant.1)

pub returns-clause-in_order : goal.returns-clause-in_order
returns-clause-in_order g c =
    let t = c.self.inside in
    let here = c.if-number-self.false in
    let front = c.is_front_held.ensures.0 c.if-not-is_front_held.false in
    let is_held = get-of t.turn t.entries.items 0 c.args.number (place-0 c.args.number t.turn here) ∙ front in
    let new = c.set_entry.new.entries.items in
    let stored = ap (marks_of t.turn) c.set_entry.ensures ∙ set-of t.turn t.entries.items 0 c.args.number OpenEntry (place-0 c.args.number t.turn here) in
    kept-open t.turn t.entries.items c.args.number t.resting c.self.invariant.0 is_held (marks_of t.turn new) c.args.item stored

pub returns-clause-marks : goal.returns-clause-marks
returns-clause-marks g c =
    let t = c.self.inside in
    let here = c.if-number-self.false in
    let front = c.is_front_held.ensures.0 c.if-not-is_front_held.false in
    let is_held = get-of t.turn t.entries.items 0 c.args.number (place-0 c.args.number t.turn here) ∙ front in
    let new = c.set_entry.new.entries.items in
    let stored = ap (marks_of t.turn) c.set_entry.ensures ∙ set-of t.turn t.entries.items 0 c.args.number OpenEntry (place-0 c.args.number t.turn here) in
    rw (← c.self.view_is) (marks-put_back t.turn t.entries.items c.args.number t.resting c.self.invariant.0 is_held (marks_of t.turn new) stored)

pub returns-clause-item : goal.returns-clause-item
returns-clause-item g c =
    let t = c.self.inside in
    let here = c.if-number-self.false in
    let front = c.is_front_held.ensures.0 c.if-not-is_front_held.false in
    let is_held = get-of t.turn t.entries.items 0 c.args.number (place-0 c.args.number t.turn here) ∙ front in
    rw (← c.self.view_is) (puts-open t.turn t.entries.items c.args.number t.resting c.self.invariant.0 is_held c.args.item tt)
