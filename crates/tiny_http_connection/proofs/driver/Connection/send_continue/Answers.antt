use Rattle.std.proofs.Common.{◌≡◌, refl, sym, ap, ◌∙◌, true, false}
use Rattle.std.specs.Prelude.{slice_get}
use Rattle.tiny_http_connection.specs.Steps.{AsReader, NoSuch, NotYet, Done}
use Rattle.tiny_http_io.specs.Outlet.{output_of, outlet_ended}
use Rattle.tiny_http_connection.specs.Pending.{owes_continue}
use Rattle.tiny_http_connection.specs.Connection.{Kept, kept}
use Rattle.tiny_http_io.proofs.SourceGoesOn.{goes-on_same}
use Rattle.tiny_http_connection.proofs.ConnectionRespond.{no-such, waits-some, waits-none}
use Rattle.tiny_http_connection.proofs.ConnectionContinue.{continue-not_taken, continue-unowed, continue-not_yet, continue-done}
use Rattle.tiny_http_connection.proofs.RepliesLemmas.{replied-none, replied-later, replied-done}
use Rattle.tiny_http_connection.proofs.DrivingLemmas.{viewed, takes-send_continue, moves-none}
use Rattle.tiny_http_connection.proofs.driver.Connection.send_continue.Goals as goal

pub returns-then-not-is_waiting : goal.returns-then-not-is_waiting
returns-then-not-is_waiting g c =
    let n = c.args.number in
    let q = c.self.inside in
    let old = viewed q.profile q.source q.outlet q.pending q.end in
    let none = waits-none (slice_get q.pending.requests n) (sym c.is_waiting.ensures ∙ c.if-not-is_waiting.true) in
    record {
      step = rw (← c.self.view_is) (takes-send_continue old old c.args.now n NoSuch
          (λ client before s low st. no-such client before (kept old) s c.args.now n (AsReader n) refl (continue-not_taken n) st (none))
          (λ no. refl) (replied-none _ _ _ (sym c.is_waiting.ensures ∙ c.if-not-is_waiting.true)) refl (refl, refl, none) (moves-none old) (λ kind e. cc));
    }

pub returns-then-not-owes_continue : goal.returns-then-not-owes_continue
returns-then-not-owes_continue g c =
    let n = c.args.number in
    let q = c.self.inside in
    let old = viewed q.profile q.source q.outlet q.pending q.end in
    let w = waits-some (slice_get q.pending.requests n) (sym c.is_waiting.ensures ∙ c.if-not-is_waiting.false) in
    let free : w.0.owes_continue ≡ false = ap owes_continue (sym w.1) ∙ sym c.owes_continue.ensures ∙ c.if-not-owes_continue.true in
    record {
      step = rw (← c.self.view_is) (takes-send_continue old old c.args.now n Done
          (λ client before s low st. continue-unowed client before (kept old) s c.args.now n w.0 st w.1 free)
          (λ no. elim no [ ]) (replied-done _ _ _ Done (sym c.is_waiting.ensures ∙ c.if-not-is_waiting.false) refl (rw (sym c.owes_continue.ensures ∙ c.if-not-owes_continue.true) refl) tt) refl (refl, refl, (w.0, w.1, rw free refl)) (moves-none old) (λ kind e. cc));
    }

pub returns-then-not-is_in_turn : goal.returns-then-not-is_in_turn
returns-then-not-is_in_turn g c =
    let n = c.args.number in
    let q = c.self.inside in
    let old = viewed q.profile q.source q.outlet q.pending q.end in
    let w = waits-some (slice_get q.pending.requests n) (sym c.is_waiting.ensures ∙ c.if-not-is_waiting.false) in
    record {
      step = rw (← c.self.view_is) (takes-send_continue old old c.args.now n NotYet
          (λ client before s low st.
          continue-not_yet client before (kept old) s c.args.now n w.0 st w.1 (ap owes_continue (sym w.1) ∙ sym c.owes_continue.ensures ∙ c.if-not-owes_continue.false) (sym c.is_in_turn.ensures ∙ c.if-not-is_in_turn.true))
          (λ no. refl) (replied-later _ _ _ (sym c.is_waiting.ensures ∙ c.if-not-is_waiting.false) refl (rw (sym c.owes_continue.ensures ∙ c.if-not-owes_continue.false, sym c.is_in_turn.ensures ∙ c.if-not-is_in_turn.true) refl)) refl (refl, refl, sym c.owes_continue.ensures ∙ c.if-not-owes_continue.false) (moves-none old) (λ kind e. cc));
    }

pub returns : goal.returns
returns g c =
    let n = c.args.number in
    let q = c.self.inside in
    let sent = c.send_continue in
    let old = viewed q.profile q.source q.outlet q.pending q.end in
    let new = viewed q.profile q.source sent.new.outlet sent.new.self q.end in
    let k : Kept = kept old in
    let w = waits-some (slice_get k.requests n) (sym c.is_waiting.ensures ∙ c.if-not-is_waiting.false) in
    let owed : w.0.owes_continue ≡ true = ap owes_continue (sym w.1) ∙ sym c.owes_continue.ensures ∙ c.if-not-owes_continue.false in
    let said = sent.ensures.sends w.0 w.1 owed in
    let marks = ap (λ t. t.marks) sent.ensures.turns in
    record {
      step = rw (← c.self.view_is) (takes-send_continue old new c.args.now n Done
          (λ client before s low st.
          continue-done client before k s c.args.now n w.0 w.0.response_context (output_of sent.new.outlet) (outlet_ended sent.new.outlet) sent.new.self.turns.marks sent.new.self.requests q.source st
          (record { feed = refl; stop = refl; ends = refl; input_state = refl }) low w.1 refl owed (sym c.is_in_turn.ensures ∙ c.if-not-is_in_turn.false) marks (sent.ensures.requests w.0 w.1) said.0 said.1.2)
          (λ no. elim no [ ]) (replied-done _ _ _ Done (sym c.is_waiting.ensures ∙ c.if-not-is_waiting.false) refl (rw (sym c.owes_continue.ensures ∙ c.if-not-owes_continue.false, sym c.is_in_turn.ensures ∙ c.if-not-is_in_turn.false) refl) tt) refl (refl, marks, (w.0, w.1, rw owed (sent.ensures.requests w.0 w.1, said.0, said.1)))
          (record { profile = refl; goes_on = goes-on_same q.source.feed; fails_once = sent.ensures.fails_once; flushed = λ was. said.1.0; sent_on = λ was. said.1.1 })
          (λ kind e. cc));
    }
