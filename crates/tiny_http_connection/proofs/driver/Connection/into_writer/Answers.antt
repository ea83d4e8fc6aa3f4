use Rattle.tiny_http_body.specs.Body.{remainder, is_long}
use Rattle.std.proofs.Common.{◌≡◌, refl, sym, ap, ◌∙◌, subst, Bool, ◌&&◌, ◌||◌, List, Option}
use Rattle.std.specs.Prelude.{is_some, slice_get}
use Rattle.tiny_http_turns.specs.Turns.{Mark}
use Rattle.tiny_http_connection.specs.declared.pending.Unfinished.{Unfinished}
use Rattle.tiny_http_connection.specs.declared.pending.Unfinished.TheVariants as still
use Rattle.tiny_http_connection.specs.Pending.{is_last_with_stream_at, waiting_response_context}
use Rattle.tiny_http_connection.proofs.RepliesLemmas.{replied-none, replied-done}
use Rattle.tiny_http_connection.specs.Driving.{ends_behind}
use Rattle.tiny_http_connection.specs.Steps.{IntoWriter, NoSuch, Done}
use Rattle.tiny_http_connection.specs.Connection.{Kept, kept}
use Rattle.tiny_http_connection.proofs.ConnectionAsk.{StepIsAnswered}
use Rattle.tiny_http_connection.proofs.ConnectionBody.{with_reader}
use Rattle.tiny_http_io.proofs.SourceGoesOn.{goes-on_same}
use Rattle.tiny_http_connection.proofs.ConnectionRespond.{no-such}
use Rattle.tiny_http_connection.proofs.ConnectionWriter.{into_writer-not_taken, into_writer-done}
use Rattle.tiny_http_connection.proofs.DrivingLemmas.{viewed, same-view, ends-some, takes-into_writer, driving-reads-on, gives-up-of}
use Rattle.tiny_http_body.proofs.BodyReads.{gives-up}
use Rattle.tiny_http_connection.proofs.driver.Connection.into_writer.Goals as goal

pub returns-in_default : goal.returns-in_default
returns-in_default g c =
    let n = c.args.number in
    let q = c.self.inside in
    let old = viewed q.profile q.source q.outlet q.pending q.end in
    let new = viewed q.profile q.source q.outlet c.take.new.self q.end in
    let k : Kept = kept old in
    let none = c.in_default.ensures.none in
    record {
      step = λ date. rw (← c.self.view_is) (takes-into_writer old new date n NoSuch
          (λ client before s low st.
          let P : List Mark → List (Option Unfinished) → Type 0 = λ m r. StepIsAnswered client before (record k { marks = m; requests = r }) s date (IntoWriter n) NoSuch in
          let done = no-such client before k s date n (IntoWriter n) refl (into_writer-not_taken n) st none.0 in
          subst (λ m. P m c.take.new.self.requests) (ap (λ t. t.marks) (sym c.take.ensures.turns)) (subst (λ r. P k.marks r) (sym none.1) done))
          (λ no. same-view q.profile q.source q.outlet c.take.new.self q.pending q.end (ap (λ t. t.marks) c.take.ensures.turns) none.1) (replied-none _ _ _ (ap is_some none.0)) refl (refl, ap (λ t. t.marks) c.take.ensures.turns, λ no. elim no [ ]) (driving-reads-on old new refl refl (goes-on_same q.source.feed)) (λ kind e. cc));
    }

pub returns : goal.returns
returns g c =
    let n = c.args.number in
    let q = c.self.inside in
    let source = c.give_up.new.source in
    let old = viewed q.profile q.source q.outlet q.pending q.end in
    let end = c.ends_behind-self-inside.result in
    let new = viewed q.profile source q.outlet c.take.new.self end in
    let k : Kept = kept old in
    let w = c.in-Some.request in
    let some = c.in-Some.ensures.some in
    let ends = w.holds_next_head || (w.by_standard && (w.owes_continue || is_long (remainder w.body))) in
    let end_is : end ≡ ends_behind ends q.end = c.ends_behind-self-inside.ensures ∙ ap (λ b. ends_behind b q.end) (c.is_last_with_stream.ensures ∙ ap (λ l. w.holds_next_head || (w.by_standard && (w.owes_continue || is_long l))) c.remainder-left.ensures) in
    let ended : is_some end ≡ (is_some q.end || ends) = ap is_some end_is ∙ ends-some ends q.end in
    record {
      step = λ date. rw (← c.self.view_is) (takes-into_writer old new date n Done
          (λ client before s low st.
          let P : Bool → List Mark → Type 0 = λ e m. StepIsAnswered client before (record (with_reader k c.take.new.self.requests source) { marks = m; asking_ended = e }) s date (IntoWriter n) Done in
          let done = into_writer-done client before k s date n w c.take.new.self.requests q.source source st (record { feed = refl; stop = refl; ends = refl; input_state = refl }) c.give_up.ensures.gives_up some.0 some.1 in
          subst (λ e. P e c.take.new.self.turns.marks) (sym ended) (subst (P (is_some q.end || ends)) (ap (λ t. t.marks) (sym c.take.ensures.turns)) done))
          (λ no. elim no [ ]) (replied-done _ _ _ Done (ap (λ o. is_some (waiting_response_context o)) some.0) refl refl tt) (end_is ∙ ap (λ b. ends_behind b q.end) (sym (ap is_last_with_stream_at some.0)))
          (refl, ap (λ t. t.marks) c.take.ensures.turns, λ done. (some.1, gives-up-of q.source source (slice_get k.requests n) (still.Waiting w) some.0 c.give_up.ensures.gives_up))
          (driving-reads-on old new refl refl (gives-up w.body q.source source c.give_up.ensures.gives_up)) (λ kind e. cc));
    }
