use Rattle.std.proofs.Common.{◌≡◌, ◌≢◌, ◌-◌, ◌≤◌, ℕ, ap, sym, ◌∙◌, None, true, arith}
use Rattle.std.specs.Prelude.{is_some}
use Rattle.tiny_http_turns.specs.declared.turns.Entry.TheVariants.{Held as HeldEntry, Left as LeftEntry}
use Rattle.tiny_http_turns.specs.Turns.{marks_of}
use Rattle.tiny_http_turns.proofs.TurnsKept.{get-of, set-of, place-0, place-of, bound-set, kept-left, marks-leave_wait, leaves-wait, kept-hold, marks-leave_go, leaves-go, item-rests}
use Rattle.tiny_http_turns.proofs.turns.Turns.leave.Goals as goal

none-left : (k n : ℕ) → k ≡ n → k - n ≡ 0
none-left k n e = omega (arith, e)

at-turn : (k n : ℕ) → n ≤ k → k - n ≡ 0 → k ≡ n
at-turn k n h e = omega (arith, h, e)

pub invariant_of-self : goal.invariant_of-self
invariant_of-self g c =
    let t = c.self.inside in
    let at = c.args.number - t.turn in
    let place = place-of c.args.number t.turn c.if-number-self.false in
    let is_open = get-of t.turn t.entries.items at c.args.number place ∙ c.is_open.ensures.0 c.if-not-is_open.false in
    let not_yet : c.args.number ≢ t.turn = λ e. c.if-at-ne0.true (none-left c.args.number t.turn e) in
    let new = c.set_entry.new.entries.items in
    let stored = ap (marks_of t.turn) c.set_entry.ensures ∙ set-of t.turn t.entries.items at c.args.number (LeftEntry c.args.text) place in
    (kept-left t.turn t.entries.items c.args.number t.resting c.self.invariant.0 is_open c.args.text not_yet (marks_of t.turn new) stored, bound-set t.turn t.entries.items new at (LeftEntry c.args.text) c.set_entry.ensures c.self.invariant.1)

pub returns-then-at-ne0-clause-in_order : goal.returns-then-at-ne0-clause-in_order
returns-then-at-ne0-clause-in_order g c =
    let t = c.self.inside in
    let at = c.args.number - t.turn in
    let place = place-of c.args.number t.turn c.if-number-self.false in
    let is_open = get-of t.turn t.entries.items at c.args.number place ∙ c.is_open.ensures.0 c.if-not-is_open.false in
    let not_yet : c.args.number ≢ t.turn = λ e. c.if-at-ne0.true (none-left c.args.number t.turn e) in
    let new = c.set_entry.new.entries.items in
    let stored = ap (marks_of t.turn) c.set_entry.ensures ∙ set-of t.turn t.entries.items at c.args.number (LeftEntry c.args.text) place in
    kept-left t.turn t.entries.items c.args.number t.resting c.self.invariant.0 is_open c.args.text not_yet (marks_of t.turn new) stored

pub returns-then-at-ne0-clause-marks : goal.returns-then-at-ne0-clause-marks
returns-then-at-ne0-clause-marks g c =
    let t = c.self.inside in
    let at = c.args.number - t.turn in
    let place = place-of c.args.number t.turn c.if-number-self.false in
    let is_open = get-of t.turn t.entries.items at c.args.number place ∙ c.is_open.ensures.0 c.if-not-is_open.false in
    let not_yet : c.args.number ≢ t.turn = λ e. c.if-at-ne0.true (none-left c.args.number t.turn e) in
    let new = c.set_entry.new.entries.items in
    let stored = ap (marks_of t.turn) c.set_entry.ensures ∙ set-of t.turn t.entries.items at c.args.number (LeftEntry c.args.text) place in
    rw (← c.self.view_is) (marks-leave_wait t.turn t.entries.items c.args.number t.resting c.self.invariant.0 is_open c.args.text not_yet (marks_of t.turn new) stored)

pub returns-then-at-ne0-clause-item : goal.returns-then-at-ne0-clause-item
returns-then-at-ne0-clause-item g c =
    let t = c.self.inside in
    let at = c.args.number - t.turn in
    let place = place-of c.args.number t.turn c.if-number-self.false in
    let is_open = get-of t.turn t.entries.items at c.args.number place ∙ c.is_open.ensures.0 c.if-not-is_open.false in
    let not_yet : c.args.number ≢ t.turn = λ e. c.if-at-ne0.true (none-left c.args.number t.turn e) in
    rw (← c.self.view_is) (leaves-wait t.turn t.entries.items c.args.number t.resting c.self.invariant.0 is_open c.args.text not_yet)

pub invariant_of-self-in-Some : goal.invariant_of-self-in-Some
invariant_of-self-in-Some g c =
    let t = c.self.inside in
    let at = c.args.number - t.turn in
    let place = place-of c.args.number t.turn c.if-number-self.false in
    let is_open = get-of t.turn t.entries.items at c.args.number place ∙ c.is_open.ensures.0 c.if-not-is_open.false in
    let here = at-turn c.args.number t.turn c.if-number-self.false c.if-at-ne0.false in
    let new = c.set_entry-in-Some.new.entries.items in
    let stored = ap (marks_of t.turn) c.set_entry-in-Some.ensures ∙ set-of t.turn t.entries.items 0 c.args.number HeldEntry (place-0 c.args.number t.turn here) in
    (kept-hold t.turn t.entries.items c.args.number t.resting c.self.invariant.0 is_open here (marks_of t.turn new) c.take.new.self stored c.take.ensures.after, bound-set t.turn t.entries.items new 0 HeldEntry c.set_entry-in-Some.ensures c.self.invariant.1)

pub unreachable-requires : goal.unreachable-requires
unreachable-requires g c =
    let t = c.self.inside in
    let at = c.args.number - t.turn in
    let place = place-of c.args.number t.turn c.if-number-self.false in
    let is_open = get-of t.turn t.entries.items at c.args.number place ∙ c.is_open.ensures.0 c.if-not-is_open.false in
    let here = at-turn c.args.number t.turn c.if-number-self.false c.if-at-ne0.false in
    let there : is_some t.resting ≡ true = item-rests t.turn t.entries.items c.args.number t.resting c.self.invariant.0 is_open here in
    let gone : t.resting ≡ None = sym c.take.ensures.value ∙ c.in-None.is in
    let both = ap is_some gone in
    cc

pub returns-clause-in_order : goal.returns-clause-in_order
returns-clause-in_order g c =
    let t = c.self.inside in
    let at = c.args.number - t.turn in
    let place = place-of c.args.number t.turn c.if-number-self.false in
    let is_open = get-of t.turn t.entries.items at c.args.number place ∙ c.is_open.ensures.0 c.if-not-is_open.false in
    let here = at-turn c.args.number t.turn c.if-number-self.false c.if-at-ne0.false in
    let new = c.set_entry-in-Some.new.entries.items in
    let stored = ap (marks_of t.turn) c.set_entry-in-Some.ensures ∙ set-of t.turn t.entries.items 0 c.args.number HeldEntry (place-0 c.args.number t.turn here) in
    kept-hold t.turn t.entries.items c.args.number t.resting c.self.invariant.0 is_open here (marks_of t.turn new) c.take.new.self stored c.take.ensures.after

pub returns-clause-marks : goal.returns-clause-marks
returns-clause-marks g c =
    let t = c.self.inside in
    let at = c.args.number - t.turn in
    let place = place-of c.args.number t.turn c.if-number-self.false in
    let is_open = get-of t.turn t.entries.items at c.args.number place ∙ c.is_open.ensures.0 c.if-not-is_open.false in
    let here = at-turn c.args.number t.turn c.if-number-self.false c.if-at-ne0.false in
    let new = c.set_entry-in-Some.new.entries.items in
    let stored = ap (marks_of t.turn) c.set_entry-in-Some.ensures ∙ set-of t.turn t.entries.items 0 c.args.number HeldEntry (place-0 c.args.number t.turn here) in
    rw (← c.self.view_is) (marks-leave_go t.turn t.entries.items c.args.number t.resting c.self.invariant.0 is_open here (marks_of t.turn new) c.args.text.items stored)

pub returns-clause-item : goal.returns-clause-item
returns-clause-item g c =
    let t = c.self.inside in
    let at = c.args.number - t.turn in
    let place = place-of c.args.number t.turn c.if-number-self.false in
    let is_open = get-of t.turn t.entries.items at c.args.number place ∙ c.is_open.ensures.0 c.if-not-is_open.false in
    let here = at-turn c.args.number t.turn c.if-number-self.false c.if-at-ne0.false in
    rw (← c.self.view_is) (leaves-go t.turn t.entries.items c.args.number t.resting c.self.invariant.0 is_open here c.args.text c.in-Some.item c.take.new.self (sym c.take.ensures.value ∙ c.in-Some.is) c.take.ensures.after)
