use Rattle.tiny_http_connection.proofs.RepliesLemmas.{replied-none, replied-later, replied-done, write-answered}
use Rattle.std.proofs.Common.{inl, ap, not, [], refl, sym, ◌∙◌, subst, true, false}
use Rattle.std.specs.Prelude.{slice_get}
use Rattle.tiny_http_io.specs.Outlet.{output_of, outlet_ended}
use Rattle.tiny_http_connection.specs.declared.driver.Step.TheVariants as step
use Rattle.tiny_http_connection.specs.Steps.{ReplyValue, Flush, NoSuch, NotYet}
use Rattle.tiny_http_connection.specs.Seen.{write_reply}
use Rattle.tiny_http_connection.specs.Driving.{TakesStep}
use Rattle.tiny_http_connection.specs.Connection.{Kept, kept}
use Rattle.tiny_http_io.proofs.SourceGoesOn.{goes-on_same}
use Rattle.tiny_http_response.proofs.SendingLemmas.{is-flushed}
use Rattle.tiny_http_connection.proofs.ConnectionOutput.{sink-ended}
use Rattle.tiny_http_connection.proofs.ConnectionWriter.{a-flush, no-writer, writable-some, writer-not_yet, writes-own, flush-done, write-done_reply, flush-not_declined, write-honest, write-ended, write-tells, write-once}
use Rattle.tiny_http_connection.proofs.DrivingLemmas.{viewed, takes-flush, moves-none}
use Rattle.tiny_http_connection.proofs.driver.Connection.flush.Goals as goal

pub returns-then-not-is_writable : goal.returns-then-not-is_writable
returns-then-not-is_writable g c =
    let n = c.args.number in
    let q = c.self.inside in
    let old = viewed q.profile q.source q.outlet q.pending q.end in
    record {
      step = λ date. rw (← c.self.view_is) (takes-flush false old old date n NoSuch
          (λ client before s low st. no-writer client before (kept old) s date n (Flush n) refl (a-flush n) st (sym c.is_writable.ensures ∙ c.if-not-is_writable.true))
          (λ no. refl) (replied-none _ _ _ (sym c.is_writable.ensures ∙ c.if-not-is_writable.true)) refl (refl, refl, refl) refl (moves-none old) (λ kind e. cc) (inl refl));
    }

pub returns-then-not-is_in_turn : goal.returns-then-not-is_in_turn
returns-then-not-is_in_turn g c =
    let n = c.args.number in
    let q = c.self.inside in
    let old = viewed q.profile q.source q.outlet q.pending q.end in
    let w = writable-some (slice_get q.pending.requests n) (sym c.is_writable.ensures ∙ c.if-not-is_writable.false) in
    record {
      step = λ date. rw (← c.self.view_is) (takes-flush false old old date n NotYet
          (λ client before s low st.
          writer-not_yet client before (kept old) s date n (Flush n) w.0 refl (a-flush n) (λ r owed. refl) st w.1 w.2 (sym c.is_in_turn.ensures ∙ c.if-not-is_in_turn.true))
          (λ no. refl) (replied-later _ _ _ (sym c.is_writable.ensures ∙ c.if-not-is_writable.false) refl (ap not (sym c.is_in_turn.ensures ∙ c.if-not-is_in_turn.true))) refl (refl, refl, refl) refl (moves-none old) (λ kind e. cc) (inl refl));
    }

pub returns : goal.returns
returns g c =
    let n = c.args.number in
    let q = c.self.inside in
    let new_outlet = c.flush.new.self in
    let old = viewed q.profile q.source q.outlet q.pending q.end in
    let new = viewed q.profile q.source new_outlet q.pending q.end in
    let k : Kept = kept old in
    let done = c.flush.ensures in
    let w = writable-some (slice_get q.pending.requests n) (sym c.is_writable.ensures ∙ c.if-not-is_writable.false) in
    record {
      step = λ date.
          let T : ReplyValue → Type 0 = λ r. TakesStep old new date (step.Flush n) r in
          rw (← c.self.view_is) (subst T (sym c.write_reply.ensures) (takes-flush true old new date n (write_reply c.flush.result)
          (λ client before s low st.
          let open_sink = sink-ended before k.sink k.output_ended s.reached.slots s.flushed s.failure st.output (λ z. rw z refl) in
          flush-done client before k s date n w.0 (output_of new_outlet) (outlet_ended new_outlet) c.flush.result q.source st (record { feed = refl; stop = refl; ends = refl; input_state = refl }) low w.1 w.2 (sym c.is_in_turn.ensures ∙ c.if-not-is_in_turn.false) open_sink
          (writes-own k.sink (output_of new_outlet) k.output_ended (outlet_ended new_outlet) c.flush.result [] open_sink done.puts done.ended done.stays) (is-flushed new_outlet.sink new_outlet.held new_outlet.ended done.held done.sent))
          (λ no. absurd (flush-not_declined n c.flush.result no)) (replied-done _ _ _ (write_reply c.flush.result) (sym c.is_writable.ensures ∙ c.if-not-is_writable.false) refl (ap not (sym c.is_in_turn.ensures ∙ c.if-not-is_in_turn.false)) (write-answered c.flush.result)) refl (refl, refl, refl) (write-done_reply c.flush.result)
          (record {
            profile = refl;
            goes_on = goes-on_same q.source.feed;
            fails_once = write-once k.sink (output_of new_outlet) k.output_ended (outlet_ended new_outlet) c.flush.result [] (λ z. rw z refl) done.puts done.ended done.stays;
            flushed = λ was. done.held;
            sent_on = λ was. done.sent;
          })
          (λ kind e. (write-ended c.flush.result kind (outlet_ended new_outlet) done.ended e, write-honest k.sink (output_of new_outlet) c.flush.result [] kind done.puts e))
          (write-tells k.sink (output_of new_outlet) c.flush.result [] done.puts)));
    }
