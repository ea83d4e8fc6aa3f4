use Rattle.std.proofs.Common.{◌≡◌, ap, sym, ◌∙◌, refl, subst, true, false, None, Some}
use Rattle.std.specs.Prelude.{is_some, slice_get}
use Rattle.tiny_http_turns.specs.declared.turns.Entry.TheVariants.{Held as HeldEntry}
use Rattle.tiny_http_turns.specs.Turns.{Open, marks_of, first_unfinished, TurnAnswer, TurnOutcome}
use Rattle.tiny_http_turns.specs.TurnsCalls.{TakesTurn}
use Rattle.tiny_http_turns.proofs.TurnsKept.{get-of, set-of, turn-of, place-0, bound-set, strange-take, kept-hold, marks-take, takes-hold, item-rests}
use Rattle.tiny_http_turns.proofs.turns.Turns.take.Goals as goal
use Rattle.tiny_http_turns.proofs.turns.Turns.take.Goals.{else-number-self-via-then-number-self+else-is_open, else-number-self-via-else-number-self}

pub invariant_of-self : goal.invariant_of-self
invariant_of-self g c =
    let t = c.self.inside in
    let here = c.if-number-self.true in
    let is_open = get-of t.turn t.entries.items 0 c.args.number (place-0 c.args.number t.turn here) ∙ c.is_open.ensures.0 c.if-is_open.true in
    let new = c.set_entry.new.entries.items in
    let stored = ap (marks_of t.turn) c.set_entry.ensures ∙ set-of t.turn t.entries.items 0 c.args.number HeldEntry (place-0 c.args.number t.turn here) in
    (kept-hold t.turn t.entries.items c.args.number t.resting c.self.invariant.0 is_open here (marks_of t.turn new) c.take.new.self stored c.take.ensures.after, bound-set t.turn t.entries.items new 0 HeldEntry c.set_entry.ensures c.self.invariant.1)

pub returns-then-is_open-clause-in_order : goal.returns-then-is_open-clause-in_order
returns-then-is_open-clause-in_order g c =
    let t = c.self.inside in
    let here = c.if-number-self.true in
    let is_open = get-of t.turn t.entries.items 0 c.args.number (place-0 c.args.number t.turn here) ∙ c.is_open.ensures.0 c.if-is_open.true in
    let new = c.set_entry.new.entries.items in
    let stored = ap (marks_of t.turn) c.set_entry.ensures ∙ set-of t.turn t.entries.items 0 c.args.number HeldEntry (place-0 c.args.number t.turn here) in
    kept-hold t.turn t.entries.items c.args.number t.resting c.self.invariant.0 is_open here (marks_of t.turn new) c.take.new.self stored c.take.ensures.after

pub returns-then-is_open-clause-marks : goal.returns-then-is_open-clause-marks
returns-then-is_open-clause-marks g c =
    let t = c.self.inside in
    let here = c.if-number-self.true in
    let is_open = get-of t.turn t.entries.items 0 c.args.number (place-0 c.args.number t.turn here) ∙ c.is_open.ensures.0 c.if-is_open.true in
    let new = c.set_entry.new.entries.items in
    let stored = ap (marks_of t.turn) c.set_entry.ensures ∙ set-of t.turn t.entries.items 0 c.args.number HeldEntry (place-0 c.args.number t.turn here) in
    rw (← c.self.view_is) (marks-take t.turn t.entries.items c.args.number t.resting c.self.invariant.0 is_open here (marks_of t.turn new) stored)

pub returns-then-is_open-clause-item : goal.returns-then-is_open-clause-item
returns-then-is_open-clause-item g c =
    let t = c.self.inside in
    let here = c.if-number-self.true in
    let is_open = get-of t.turn t.entries.items 0 c.args.number (place-0 c.args.number t.turn here) ∙ c.is_open.ensures.0 c.if-is_open.true in
    rw (← c.self.view_is) (takes-hold t.turn t.entries.items c.args.number t.resting c.self.invariant.0 is_open here c.take.result c.take.new.self c.take.ensures.value c.take.ensures.after)

pub returns-then-is_open-clause-held : goal.returns-then-is_open-clause-held
returns-then-is_open-clause-held g c =
    let t = c.self.inside in
    let here = c.if-number-self.true in
    let is_open = get-of t.turn t.entries.items 0 c.args.number (place-0 c.args.number t.turn here) ∙ c.is_open.ensures.0 c.if-is_open.true in
    let there = item-rests t.turn t.entries.items c.args.number t.resting c.self.invariant.0 is_open here in
    rw (← c.self.view_is) (λ some. (is_open, here ∙ sym (turn-of t.turn t.entries.items)), λ both. ap is_some c.take.ensures.value ∙ there)

pub returns-else-number-self-clause-marks : goal.returns-else-number-self-clause-marks
returns-else-number-self-clause-marks g c =
    let t = c.self.inside in
    let marks = marks_of t.turn t.entries.items in
    let not_open : slice_get marks c.args.number ≡ Some Open → c.args.number ≡ first_unfinished marks → ⊥ = elim c.else-number-self.branch [
      | else-number-self-via-then-number-self+else-is_open w ↦ λ e q. (let is : true ≡ false = sym (w.is_open.ensures.1 (sym (get-of t.turn t.entries.items 0 c.args.number (place-0 c.args.number t.turn w.if-number-self.true)) ∙ e)) ∙ w.if-is_open.false in cc)
      | else-number-self-via-else-number-self w ↦ λ e q. absurd (w.if-number-self.false (q ∙ turn-of t.turn t.entries.items))
    ] in
    rw (← c.self.view_is) (sym (ap (λ (o : TurnOutcome). o.1) (strange-take marks c.args.number not_open)))

pub returns-else-number-self-clause-item : goal.returns-else-number-self-clause-item
returns-else-number-self-clause-item g c =
    let t = c.self.inside in
    let marks = marks_of t.turn t.entries.items in
    let not_open : slice_get marks c.args.number ≡ Some Open → c.args.number ≡ first_unfinished marks → ⊥ = elim c.else-number-self.branch [
      | else-number-self-via-then-number-self+else-is_open w ↦ λ e q. (let is : true ≡ false = sym (w.is_open.ensures.1 (sym (get-of t.turn t.entries.items 0 c.args.number (place-0 c.args.number t.turn w.if-number-self.true)) ∙ e)) ∙ w.if-is_open.false in cc)
      | else-number-self-via-else-number-self w ↦ λ e q. absurd (w.if-number-self.false (q ∙ turn-of t.turn t.entries.items))
    ] in
    rw (← c.self.view_is) (subst (λ (a : TurnAnswer). TakesTurn a t.resting None t.resting) (sym (ap (λ (o : TurnOutcome). o.0) (strange-take marks c.args.number not_open))) (refl, refl))

pub returns-else-number-self-clause-held : goal.returns-else-number-self-clause-held
returns-else-number-self-clause-held g c =
    let t = c.self.inside in
    let marks = marks_of t.turn t.entries.items in
    let not_open : slice_get marks c.args.number ≡ Some Open → c.args.number ≡ first_unfinished marks → ⊥ = elim c.else-number-self.branch [
      | else-number-self-via-then-number-self+else-is_open w ↦ λ e q. (let is : true ≡ false = sym (w.is_open.ensures.1 (sym (get-of t.turn t.entries.items 0 c.args.number (place-0 c.args.number t.turn w.if-number-self.true)) ∙ e)) ∙ w.if-is_open.false in cc)
      | else-number-self-via-else-number-self w ↦ λ e q. absurd (w.if-number-self.false (q ∙ turn-of t.turn t.entries.items))
    ] in
    rw (← c.self.view_is) (λ e. cc, λ both. absurd (not_open both.0 both.1))
