use Rattle.std.proofs.Common.{ℕ, [], refl, sym, ap, ◌∙◌, subst, List, Option, Some}
use Rattle.std.specs.Prelude.{◌==◌, slice_get}
use Rattle.tiny_http_turns.specs.Turns.{Mark, first_unfinished}
use Rattle.tiny_http_io.specs.Outlet.{output_of, outlet_ended}
use Rattle.tiny_http_connection.specs.declared.pending.Unfinished.{Unfinished}
use Rattle.tiny_http_connection.specs.Pending.{kept_body, LeavesText, is_writable}
use Rattle.tiny_http_connection.proofs.RepliesLemmas.{replied-none, replied-done}
use Rattle.tiny_http_connection.specs.Steps.{Finish, NoSuch, Done}
use Rattle.tiny_http_connection.specs.Connection.{Kept, kept}
use Rattle.tiny_http_connection.proofs.ConnectionAsk.{StepIsAnswered}
use Rattle.tiny_http_io.proofs.SourceGoesOn.{goes-on_same}
use Rattle.tiny_http_connection.proofs.ConnectionWriter.{a-finish, no-writer, finish-done}
use Rattle.tiny_http_connection.proofs.DrivingLemmas.{viewed, same-view, takes-finish, driving-reads-on, gives-up-of, gives-up-body, sends-in_turn}
use Rattle.tiny_http_connection.proofs.driver.Connection.finish.Goals as goal

pub returns-in_default : goal.returns-in_default
returns-in_default g c =
    let n = c.args.number in
    let q = c.self.inside in
    let old = viewed q.profile q.source q.outlet q.pending q.end in
    let new = viewed q.profile q.source q.outlet c.close.new.self q.end in
    let k : Kept = kept old in
    let none = c.in_default.ensures.none in
    record {
      step = λ date. rw (← c.self.view_is) (takes-finish old new date n NoSuch
          (λ client before s low st.
          let P : List Mark → List (Option Unfinished) → Type 0 = λ m r. StepIsAnswered client before (record k { marks = m; requests = r }) s date (Finish n) NoSuch in
          let done = no-writer client before k s date n (Finish n) refl (a-finish n) st none.0 in
          subst (λ m. P m c.close.new.self.requests) (ap (λ t. t.marks) (sym c.close.ensures.turns)) (subst (λ r. P k.marks r) (sym none.1) done))
          (λ no. same-view q.profile q.source q.outlet c.close.new.self q.pending q.end (ap (λ t. t.marks) c.close.ensures.turns) none.1) (replied-none _ _ _ none.0) refl (λ no. elim no [ ]) (driving-reads-on old new refl refl (goes-on_same q.source.feed)) (λ kind e. cc));
    }

pub returns : goal.returns
returns g c =
    let n = c.args.number in
    let q = c.self.inside in
    let source = c.close_body.new.source in
    let old = viewed q.profile q.source q.outlet q.pending q.end in
    let new = viewed q.profile source c.leave.new.outlet c.leave.new.self q.end in
    let k : Kept = kept old in
    let left = c.leave.new in
    let u = c.in-Some.finished in
    let some = c.in-Some.ensures.some in
    let turns = c.close.ensures.turns in
    let requests = c.leave.ensures.requests ∙ some.2 in
    record {
      step = λ date. rw (← c.self.view_is) (takes-finish old new date n Done
          (λ client before s low st.
          finish-done client before k s date n u (output_of left.outlet) (outlet_ended left.outlet) left.self.turns.marks left.self.requests q.source source st (record { feed = refl; stop = refl; ends = refl; input_state = refl }) c.close_body.ensures.gives_up low some.0 some.1 requests
          (λ front rest e place can.
          let T : List Mark → Type 0 = λ m. LeavesText (n == first_unfinished m) front rest left.self.turns.marks [] k.output_ended k.sink (output_of left.outlet) (outlet_ended left.outlet) in
          let L : List ℕ → Type 0 = λ x. LeavesText (n == first_unfinished c.close.new.self.turns.marks) front rest left.self.turns.marks x k.output_ended k.sink (output_of left.outlet) (outlet_ended left.outlet) in
          subst T (ap (λ t. t.marks) turns) (subst L c.new.ensures.items (c.leave.ensures.leaves front rest (ap (λ t. t.marks) turns ∙ e) place can))))
          (λ no. elim no [ ]) (replied-done _ _ _ Done (ap is_writable some.0 ∙ some.1) refl refl tt) refl
          (λ done. (
            requests,
            gives-up-of q.source source (slice_get k.requests n) u some.0 c.close_body.ensures.gives_up,
            sends-in_turn n old new (λ open_is turn. c.leave.ensures.sends (ap (λ t. slice_get t.marks n) turns ∙ open_is) (ap (λ t. n == first_unfinished t.marks) turns ∙ turn)) (λ early. c.leave.ensures.waits (ap (λ t. n == first_unfinished t.marks) turns ∙ early)),
          ))
          (record { profile = refl; goes_on = gives-up-body (kept_body (Some u)) q.source source c.close_body.ensures.gives_up; fails_once = c.leave.ensures.fails_once; flushed = λ was. c.leave.ensures.flushed (was refl); sent_on = λ was. c.leave.ensures.sent_on (was refl) })
          (λ kind e. cc));
    }
