use Rattle.tiny_http_open_request.specs.TextState.{drop_text}
use Rattle.tiny_http_open_request.specs.OpenRequest.{final_context}
use Rattle.std.proofs.Common.{ℕ, ◌≡◌, refl, sym, ap, ◌∙◌, subst, Bool, ◌&&◌, ◌||◌, List}
use Rattle.std.specs.Prelude.{◌==◌, is_some, slice_get}
use Rattle.tiny_http_connection.specs.declared.pending.Unfinished.TheVariants as still
use Rattle.tiny_http_turns.specs.Turns.{Mark, first_unfinished}
use Rattle.tiny_http_connection.specs.Pending.{LeavesText, is_last_once_finished_at as kept_lacks}
use Rattle.tiny_http_connection.specs.Driving.{ends_behind}
use Rattle.tiny_http_connection.proofs.ConnectionAsk.{StepIsAnswered}
use Rattle.tiny_http_io.specs.Outlet.{output_of, outlet_ended}
use Rattle.tiny_http_connection.specs.Connection.{Kept, kept}
use Rattle.tiny_http_connection.proofs.ConnectionDrop.{drop-done}
use Rattle.tiny_http_connection.proofs.DrivingLemmas.{viewed, ends-some, drops-by, gives-up-of, sends-in_turn}
use Rattle.tiny_http_body.specs.Body.{remainder, is_long, GivesUp}
use Rattle.tiny_http_body.proofs.BodyReads.{gives-up}
use Rattle.tiny_http_connection.proofs.driver.Connection.let_go.Goals as goal

pub returns-clause-drops : goal.returns-clause-drops
returns-clause-drops g c = λ yes now.
    let n = c.args.number in
    let q = c.self.inside in
    let source = c.give_up.new.source in
    let old = viewed q.profile q.source q.outlet q.pending q.end in
    let end = c.ends_behind-self-inside.result in
    let new = viewed q.profile source c.leave.new.outlet c.leave.new.self end in
    let k : Kept = kept old in
    let left = c.leave.new in
    let w = c.in-Some.request in
    let some = c.in-Some.ensures.some in
    let lacks = w.by_standard && (w.owes_continue || is_long (remainder w.body)) in
    let end_is : end ≡ ends_behind lacks q.end = c.ends_behind-self-inside.ensures ∙ ap (λ b. ends_behind b q.end) (c.is_last_once_finished.ensures ∙ ap (λ l. w.by_standard && (w.owes_continue || is_long l)) c.remainder-left.ensures) in
    let ended : is_some end ≡ (is_some q.end || lacks) = ap is_some end_is ∙ ends-some lacks q.end in
    let turns = c.take.ensures.turns in
    let requests = c.leave.ensures.requests ∙ some.1 in
    let given_up : GivesUp w.body q.source source = subst (λ b. GivesUp b q.source source) c.into_drop_text-text.ensures.body c.give_up.ensures.gives_up in
    rw (← c.self.view_is) (drops-by n w old new now some.0
    (λ client before s asked reply drops low st.
    let E : Bool → Type 0 = λ e. StepIsAnswered client before (record (kept new) { asking_ended = e }) s now asked reply in
    subst E (sym ended) (drop-done client before k s now n asked reply w (output_of left.outlet) (outlet_ended left.outlet) left.self.turns.marks left.self.requests q.source source drops st (record { feed = refl; stop = refl; ends = refl; input_state = refl }) given_up low some.0 requests
    (λ front rest e place can.
    let T : List Mark → Type 0 = λ m. LeavesText (n == first_unfinished m) front rest left.self.turns.marks (drop_text w.dropped (final_context w (remainder w.body))) k.output_ended k.sink (output_of left.outlet) (outlet_ended left.outlet) in
    let L : List ℕ → Type 0 = λ x. LeavesText (n == first_unfinished c.take.new.self.turns.marks) front rest left.self.turns.marks x k.output_ended k.sink (output_of left.outlet) (outlet_ended left.outlet) in
    subst T (ap (λ t. t.marks) turns) (subst L (c.into_drop_text-text.ensures.text ∙ ap (λ l. drop_text w.dropped (final_context w l)) c.remainder-left.ensures) (c.leave.ensures.leaves front rest (ap (λ t. t.marks) turns ∙ e) place can)))))
    (end_is ∙ ap (λ b. ends_behind b q.end) (sym (ap kept_lacks some.0))) (
      requests,
      gives-up-of q.source source (slice_get k.requests n) (still.Waiting w) some.0 given_up,
      sends-in_turn n old new (λ open_is turn. c.leave.ensures.sends (ap (λ t. slice_get t.marks n) turns ∙ open_is) (ap (λ t. n == first_unfinished t.marks) turns ∙ turn)) (λ early. c.leave.ensures.waits (ap (λ t. n == first_unfinished t.marks) turns ∙ early)),
    )
    (record { profile = refl; goes_on = gives-up w.body q.source source given_up; fails_once = c.leave.ensures.fails_once; flushed = λ was. c.leave.ensures.flushed (was refl); sent_on = λ was. c.leave.ensures.sent_on (was refl) }))
