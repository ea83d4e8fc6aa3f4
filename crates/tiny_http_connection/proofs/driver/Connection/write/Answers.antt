use Rattle.tiny_http_connection.proofs.RepliesLemmas.{replied-none, replied-later, replied-done, write-answered}
use Rattle.std.proofs.Common.{inl, ap, not, ◌≡◌, refl, sym, ◌∙◌, subst, true, false}
use Rattle.std.specs.Prelude.{slice_get}
use Rattle.tiny_http_io.specs.Outlet.{output_of, outlet_ended}
use Rattle.tiny_http_connection.specs.declared.driver.Step.TheVariants as step
use Rattle.tiny_http_connection.specs.Steps.{ReplyValue, Write, NoSuch, NotYet}
use Rattle.tiny_http_connection.specs.Seen.{write_reply}
use Rattle.tiny_http_connection.specs.Driving.{TakesStep}
use Rattle.tiny_http_connection.specs.Connection.{Kept, kept}
use Rattle.tiny_http_io.proofs.SourceGoesOn.{goes-on_same}
use Rattle.tiny_http_response.proofs.SendingLemmas.{once-none}
use Rattle.tiny_http_connection.proofs.ConnectionOutput.{sink-ended}
use Rattle.tiny_http_connection.proofs.ConnectionWriter.{a-write, no-writer, writable-some, writer-not_yet, writes-own, write-done, write-done_reply, write-not_declined, write-honest, write-ended, write-tells, write-once}
use Rattle.tiny_http_connection.proofs.DrivingLemmas.{viewed, takes-write}
use Rattle.tiny_http_connection.proofs.driver.Connection.write.Goals as goal

pub returns-then-not-is_writable : goal.returns-then-not-is_writable
returns-then-not-is_writable g c =
    let n = c.args.number in
    let q = c.self.inside in
    let old = viewed q.profile q.source q.outlet q.pending q.end in
    record {
      step = λ date v same. rw (← c.self.view_is) (takes-write old old date n v c.args.bytes.now NoSuch same
          (λ client before s low st. no-writer client before (kept old) s date n (Write n c.args.bytes.now) refl (a-write n c.args.bytes.now) st (sym c.is_writable.ensures ∙ c.if-not-is_writable.true))
          (λ no. refl) (replied-none _ _ _ (sym c.is_writable.ensures ∙ c.if-not-is_writable.true)) refl (refl, refl, refl) refl (goes-on_same q.source.feed) (once-none (outlet_ended q.outlet) (output_of q.outlet)) (λ none. refl) (λ kind e. cc) (inl refl));
    }

pub returns-then-not-is_in_turn : goal.returns-then-not-is_in_turn
returns-then-not-is_in_turn g c =
    let n = c.args.number in
    let q = c.self.inside in
    let old = viewed q.profile q.source q.outlet q.pending q.end in
    let w = writable-some (slice_get q.pending.requests n) (sym c.is_writable.ensures ∙ c.if-not-is_writable.false) in
    record {
      step = λ date v same. rw (← c.self.view_is) (takes-write old old date n v c.args.bytes.now NotYet same
          (λ client before s low st.
          writer-not_yet client before (kept old) s date n (Write n c.args.bytes.now) w.0 refl (a-write n c.args.bytes.now) (λ r owed. refl) st w.1 w.2 (sym c.is_in_turn.ensures ∙ c.if-not-is_in_turn.true))
          (λ no. refl) (replied-later _ _ _ (sym c.is_writable.ensures ∙ c.if-not-is_writable.false) refl (ap not (sym c.is_in_turn.ensures ∙ c.if-not-is_in_turn.true))) refl (refl, refl, refl) refl (goes-on_same q.source.feed) (once-none (outlet_ended q.outlet) (output_of q.outlet)) (λ none. refl) (λ kind e. cc) (inl refl));
    }

pub returns : goal.returns
returns g c =
    let n = c.args.number in
    let q = c.self.inside in
    let new_outlet = c.write.new.self in
    let old = viewed q.profile q.source q.outlet q.pending q.end in
    let new = viewed q.profile q.source new_outlet q.pending q.end in
    let k : Kept = kept old in
    let done = c.write.ensures in
    let w = writable-some (slice_get q.pending.requests n) (sym c.is_writable.ensures ∙ c.if-not-is_writable.false) in
    record {
      step = λ date v same.
          let T : ReplyValue → Type 0 = λ r. TakesStep old new date (step.Write n v) r in
          rw (← c.self.view_is) (subst T (sym c.write_reply.ensures) (takes-write old new date n v c.args.bytes.now (write_reply c.write.result) same
          (λ client before s low st.
          let open_sink = sink-ended before k.sink k.output_ended s.reached.slots s.flushed s.failure st.output (λ z. rw z refl) in
          write-done client before k s date n c.args.bytes.now w.0 (output_of new_outlet) (outlet_ended new_outlet) c.write.result q.source st (record { feed = refl; stop = refl; ends = refl; input_state = refl }) low w.1 w.2 (sym c.is_in_turn.ensures ∙ c.if-not-is_in_turn.false) open_sink
          (writes-own k.sink (output_of new_outlet) k.output_ended (outlet_ended new_outlet) c.write.result c.args.bytes.now open_sink done.puts done.ended done.stays))
          (λ no. absurd (write-not_declined n v c.write.result no)) (replied-done _ _ _ (write_reply c.write.result) (sym c.is_writable.ensures ∙ c.if-not-is_writable.false) refl (ap not (sym c.is_in_turn.ensures ∙ c.if-not-is_in_turn.false)) (write-answered c.write.result)) refl (refl, refl, refl) refl (goes-on_same q.source.feed)
          (write-once k.sink (output_of new_outlet) k.output_ended (outlet_ended new_outlet) c.write.result c.args.bytes.now (λ z. rw z refl) done.puts done.ended done.stays)
          (λ none. (let no : true ≡ false = sym (write-done_reply c.write.result) ∙ none in cc))
          (λ kind e. (write-ended c.write.result kind (outlet_ended new_outlet) done.ended e, write-honest k.sink (output_of new_outlet) c.write.result c.args.bytes.now kind done.puts e))
          (write-tells k.sink (output_of new_outlet) c.write.result c.args.bytes.now done.puts)));
    }
