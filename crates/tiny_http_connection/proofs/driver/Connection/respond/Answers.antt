use Rattle.tiny_http_response.specs.Sending.{IsHonest}
use Rattle.tiny_http_body.specs.declared.body.Remainder.{Remainder}
use Rattle.tiny_http_open_request.specs.OpenRequest.{final_context}
use Rattle.tiny_http_connection.specs.Replies.{can_take}
use Rattle.tiny_http_connection.proofs.RepliesLemmas.{replied-none, replied-later, replied-done, held-in_turn}
use Rattle.std.proofs.Common.{not, ◌&&◌, ◌||◌, ◌⊎◌, inl, inr, rules, ℕ, ◌+◌, ◌≡◌, refl, sym, ap, ◌∙◌, subst, Bool, true, false, List, ◌∷◌, ◌++◌, Option, Some, None}
use Rattle.std.specs.Prelude.{is_some, drop, slice_get, slice_set, IsTrue}
use Rattle.tiny_http_response.specs.Answer.{Answer}
use Rattle.tiny_http_connection.specs.declared.pending.Unfinished.{Unfinished}
use Rattle.tiny_http_connection.specs.declared.pending.Unfinished.TheVariants as still
use Rattle.tiny_http_connection.specs.Steps.{ReplyValue, Handed, Ended, Given, Fault, Done, Refused, Memory, Respond, NotYet, NoSuch, is_done}
use Rattle.tiny_http_connection.specs.Driving.{IsDeclined, RespondEnds, LetsGoAnswered, AnswerLeaves, ends_behind, stated_response, AnswerIsSentOn, RespondReports}
use Rattle.tiny_http_connection.specs.Seen.{IsAnswered}
use Rattle.tiny_http_connection.specs.declared.driver.Step.TheVariants as step
use Rattle.tiny_http_response.specs.Answer.{ResponseState}
use Rattle.tiny_http_io.specs.Device.{Feed}
use Rattle.tiny_http_turns.specs.Turns.{Mark, Held, Open}
use Rattle.tiny_http_connection.specs.Pending.{waiting_response_context, is_last_once_finished_at as kept_lacks, refuses_at, kept_body, closing_number, closing_if_asked, begins_left}
use Rattle.tiny_http_io.specs.Outlet.{output_of, outlet_ended}
use Rattle.tiny_http_connection.specs.Connection.{Kept, ConnectionState, kept}
use Rattle.tiny_http_response.specs.ResponseValue.{printing_in}
use Rattle.tiny_http_connection.specs.Seen.{seen, Answers}
use Rattle.tiny_http_connection.proofs.ConnectionAsk.{StepIsAnswered}
use Rattle.tiny_http_io.proofs.SourceGoesOn.{goes-on_same}
use Rattle.tiny_http_connection.proofs.ConnectionOutput.{can-send}
use Rattle.tiny_http_connection.proofs.ConnectionRespond.{no-such, respond-not_taken, waits-some, waits-none, respond-not_yet, respond-done, respond-asked, responds-by, set-place}
use Rattle.tiny_http_connection.proofs.ConnectionClosing.{asked_kept, asked_state, at-asked, represents-asked, twice-asked}
use Rattle.tiny_http_open_request.specs.declared.exchange.EndOfRequests.{EndOfRequests}
use Rattle.tiny_http_connection.specs.Conversation.{State}
use Rattle.tiny_http_connection.specs.Outcomes.{asked_to_close as closes_reached}
use Rattle.tiny_http_body.specs.declared.body.UnreadBody.{UnreadBody}
use Rattle.tiny_http_open_request.specs.declared.open_request.OpenRequest.{OpenRequest}
use Rattle.tiny_http_body.specs.Body.{remainder, is_long, GivesUp}
use Rattle.tiny_http_body.proofs.BodyReads.{gives-up}
use Rattle.tiny_http_response.proofs.SendingLemmas.{once-append, or-parts}
use Rattle.tiny_http_connection.proofs.DrivingLemmas.{viewed, ends-some, same-view, takes-respond, driving-reads-on, moves-none, honest-more, gives-up-of, AnswerTells, answer-tells, answer-sent_on, stays-ended}
use Rattle.tiny_http_connection.proofs.PendingLemmas.{around-held, left-kind}
use Rattle.tiny_http_connection.specs.Outcomes.{fault_reply}
use Rattle.std.specs.declared.io.ErrorKind.{ErrorKind}
use Rattle.httpdate.specs.declared.date.HttpDate.{HttpDate}
use Rattle.tiny_http_response.specs.declared.response_context.ResponseContext.{ResponseContext}
use Rattle.tiny_http_connection.proofs.driver.Connection.respond.Goals as goal

pub returns-then-not-is_waiting : goal.returns-then-not-is_waiting
returns-then-not-is_waiting g c =
    let n = c.args.number in
    let q = c.self.inside in
    let old = viewed q.profile q.source q.outlet q.pending q.end in
    let none = waits-none (slice_get q.pending.requests n) (sym c.is_waiting.ensures ∙ c.if-not-is_waiting.true) in
    record {
      step = rw (← c.self.view_is) (takes-respond g.D.ReadDevice.feed false old old c.args.now n c.args.response NoSuch
          (λ client before s value low is st. no-such client before (kept old) s c.args.now n (Respond n value) refl (respond-not_taken n value) st none)
          (λ no. refl) (replied-none _ _ _ (sym c.is_waiting.ensures ∙ c.if-not-is_waiting.true)) refl (λ no. elim no [ ]) refl (moves-none old) (λ kind e. cc) (inl refl));
    }

-- the code of the response
answered-code : (code status : ℕ) (o : Option (Option Unfinished)) → status ≡ code → refuses_at code o ≡ refuses_at status o
answered-code code status o e = ap (λ c. refuses_at c o) (sym e)

pub returns-then-not-hold : goal.returns-then-not-hold
returns-then-not-hold g c =
    let n = c.args.number in
    let q = c.self.inside in
    let old = viewed q.profile q.source q.outlet q.pending q.end in
    let new = viewed q.profile q.source q.outlet c.hold.new.self q.end in
    let k : Kept = kept old in
    let accepted : refuses_at c.args.response.answer.status (slice_get k.requests n) ≡ false = answered-code c.args.response.answer.status c.status_code.result.0 (slice_get k.requests n) c.status_code.ensures ∙ sym c.refuses.ensures ∙ c.if-refuses.false in
    let put_off : c.hold.result ≡ false = search rules in
    let turn : not (can_take old n) ≡ true = ap not (held-in_turn c.hold.result n q.pending.turns.marks c.hold.ensures.held ∙ put_off) in
    record {
      step = rw (← c.self.view_is) (takes-respond g.D.ReadDevice.feed false old new c.args.now n c.args.response NotYet
          (λ client before s value low is st.
          let w = waits-some (slice_get k.requests n) (sym c.is_waiting.ensures ∙ c.if-not-is_waiting.false) in
          let late : c.hold.result ≡ false = search rules in
          let same = c.hold.ensures.not_yet late in
          let P : List Mark → List (Option Unfinished) → Type 0 = λ m r. StepIsAnswered client before (record k { marks = m; requests = r }) s c.args.now (Respond n value) NotYet in
          let good = ap (λ a. refuses_at a.status (slice_get k.requests n)) is.0 ∙ answered-code c.args.response.answer.status c.status_code.result.0 (slice_get k.requests n) c.status_code.ensures ∙ sym c.refuses.ensures ∙ c.if-refuses.false in
          let done = respond-not_yet client before k s c.args.now n value w.0 st w.1 good (λ h. let none : true ≡ false = sym (c.hold.ensures.held.1 h) ∙ late in cc) in
          subst (λ m. P m c.hold.new.self.requests) (sym same) (subst (λ r. P k.marks r) (sym c.hold.ensures.requests) done))
          (λ no. same-view q.profile q.source q.outlet c.hold.new.self q.pending q.end (c.hold.ensures.not_yet (search rules)) c.hold.ensures.requests) (replied-later _ _ _ (sym c.is_waiting.ensures ∙ c.if-not-is_waiting.false) accepted turn) refl (λ no. elim no [ ]) refl (driving-reads-on old new refl refl (goes-on_same q.source.feed)) (λ kind e. cc) (inl refl));
    }

-- what an answer is replied is no refusal of the step
not-declined : (n : ℕ) (r : ResponseState (Option Feed)) (reply : ReplyValue) → IsAnswered reply → IsDeclined (step.Respond n r) reply → ⊥
not-declined n r Done a d = elim d [ ]
not-declined n r (Fault kind) a d = elim d [ ]
not-declined n r NotYet a d = elim a [ ]
not-declined n r NoSuch a d = elim a [ ]
not-declined n r Memory a d = elim a [ ]
not-declined n r Ended a d = elim a [ ]
not-declined n r Refused a d = elim a [ ]
not-declined n r (Given bytes) a d = elim a [ ]
not-declined n r (Handed k m f) a d = elim a [ ]

answered-done : (reply : ReplyValue) → IsAnswered reply → is_done reply ≡ true
answered-done Done a = refl
answered-done (Fault kind) a = refl
answered-done NotYet a = elim a [ ]
answered-done NoSuch a = elim a [ ]
answered-done Memory a = elim a [ ]
answered-done Ended a = elim a [ ]
answered-done Refused a = elim a [ ]
answered-done (Given bytes) a = elim a [ ]
answered-done (Handed k m f) a = elim a [ ]

-- what an answer says of the end of the requests
answered-ends : {R W : Type 0} (n : ℕ) (closes : Bool) (old new : ConnectionState R W) (reply : ReplyValue) → IsAnswered reply → new.end ≡ ends_behind (closes || kept_lacks (slice_get old.requests n)) old.end → RespondEnds n closes old new reply
answered-ends n closes old new Done a e = e
answered-ends n closes old new (Fault kind) a e = e
answered-ends n closes old new NotYet a e = elim a [ ]
answered-ends n closes old new NoSuch a e = elim a [ ]
answered-ends n closes old new Memory a e = elim a [ ]
answered-ends n closes old new Ended a e = elim a [ ]
answered-ends n closes old new Refused a e = elim a [ ]
answered-ends n closes old new (Given bytes) a e = elim a [ ]
answered-ends n closes old new (Handed k m f) a e = elim a [ ]

-- what doesn't see whether a number was told what an answer asks
lacks-stop_count : (u : Option Unfinished) → kept_lacks (Some (closing_number u)) ≡ kept_lacks (Some u)
lacks-stop_count None = refl
lacks-stop_count (Some (still.Waiting w)) = refl
lacks-stop_count (Some still.Raw) = refl
lacks-stop_count (Some (still.Upgraded b)) = refl

refuses-stop_count : (status : ℕ) (u : Option Unfinished) → refuses_at status (Some (closing_number u)) ≡ refuses_at status (Some u)
refuses-stop_count status None = refl
refuses-stop_count status (Some (still.Waiting w)) = refl
refuses-stop_count status (Some still.Raw) = refl
refuses-stop_count status (Some (still.Upgraded b)) = refl

abbrev body_at : Option (Option Unfinished) → Option UnreadBody
body_at None = None
body_at (Some u) = kept_body u

body-stop_count : (u : Option Unfinished) → body_at (Some (closing_number u)) ≡ body_at (Some u)
body-stop_count None = refl
body-stop_count (Some (still.Waiting w)) = refl
body-stop_count (Some still.Raw) = refl
body-stop_count (Some (still.Upgraded b)) = refl

ends-twice : (a b : Bool) (e : Option EndOfRequests) → ends_behind a (ends_behind b e) ≡ ends_behind (a || b) e
ends-twice true true None = refl
ends-twice true true (Some why) = refl
ends-twice true false None = refl
ends-twice true false (Some why) = refl
ends-twice false b e = refl

or-regroup : (a b c : Bool) → (a || (b || c)) ≡ ((a || b) || c)
or-regroup true b c = refl
or-regroup false b c = refl

-- what it leaves
answered-leaves : {R W : Type 0} (n : ℕ) (code : Answer) (old new : ConnectionState R W) (reply : ReplyValue) → IsAnswered reply → LetsGoAnswered n code.closes old new × (refuses_at code.status (slice_get old.requests n) ≡ false) → AnswerLeaves n code old new reply
answered-leaves n code old new Done a l = λ z. l
answered-leaves n code old new (Fault kind) a l = λ z. l
answered-leaves n code old new NotYet a l = λ z. l
answered-leaves n code old new NoSuch a l = λ z. l
answered-leaves n code old new Memory a l = λ z. l
answered-leaves n code old new Ended a l = λ z. l
answered-leaves n code old new Refused a l = elim a [ ]
answered-leaves n code old new (Given bytes) a l = λ z. l
answered-leaves n code old new (Handed k m f) a l = λ z. l

-- what it tells of a failure of the writer
answered-tells : {R W : Type 0} (n : ℕ) (r : ResponseState (Option Feed)) (old new : ConnectionState R W) (now : HttpDate) (reply : ReplyValue) (context : ResponseContext) → IsAnswered reply
    → waiting_response_context (slice_get (closing_if_asked r.answer.closes old.requests) n) ≡ Some context
    → ((output_of new.outlet).failures ≡ (output_of old.outlet).failures)
    ⊎ ((kind : ErrorKind) × (reply ≡ fault_reply kind) × (new.outlet.ended ≡ true) × IsHonest (output_of old.outlet) (output_of new.outlet) r.answer r.data_reader (printing_in context now) kind)
    ⊎ ((begins_left (drop (n + 1) old.marks) ≡ true) × AnswerIsSentOn old new now n r)
    → RespondReports old new now n r reply
answered-tells n r old new now reply context a waits (inl h) = by reply a
  where
    by : (y : ReplyValue) → IsAnswered y → RespondReports old new now n r y
    by Done a = inl h
    by (Fault kind) a = inl h
    by NotYet a = elim a [ ]
    by NoSuch a = elim a [ ]
    by Memory a = elim a [ ]
    by Ended a = elim a [ ]
    by Refused a = elim a [ ]
    by (Given bytes) a = elim a [ ]
    by (Handed k m f) a = elim a [ ]
answered-tells n r old new now reply context a waits (inr (inl h)) = by reply a h.1
  where
    by : (y : ReplyValue) → IsAnswered y → y ≡ fault_reply h.0 → RespondReports old new now n r y
    by Done a e = inr (inl (h.0, e, (context, waits, h.2, h.3)))
    by (Fault kind) a e = inr (inl (h.0, e, (context, waits, h.2, h.3)))
    by NotYet a e = elim a [ ]
    by NoSuch a e = elim a [ ]
    by Memory a e = elim a [ ]
    by Ended a e = elim a [ ]
    by Refused a e = elim a [ ]
    by (Given bytes) a e = elim a [ ]
    by (Handed k m f) a e = elim a [ ]
answered-tells n r old new now reply context a waits (inr (inr h)) = by reply a
  where
    by : (y : ReplyValue) → IsAnswered y → RespondReports old new now n r y
    by Done a = inr (inr h)
    by (Fault kind) a = inr (inr h)
    by NotYet a = elim a [ ]
    by NoSuch a = elim a [ ]
    by Memory a = elim a [ ]
    by Ended a = elim a [ ]
    by Refused a = elim a [ ]
    by (Given bytes) a = elim a [ ]
    by (Handed k m f) a = elim a [ ]

true-false : {b : Bool} → b ≡ true → b ≡ false → ⊥
true-false {b = b} e f = let no : true ≡ false = sym e ∙ f in cc

-- a request that waits was let go
let-go : (r : Bool) → (r ≡ false → ⊥) → IsTrue r
let-go true f = refl
let-go false f = absurd (f refl)

waits-still : {R W : Type 0} (n : ℕ) (w : OpenRequest UnreadBody) (c d : ConnectionState R W) → c ≡ d → slice_get c.requests n ≡ Some (Some (still.Waiting w)) → waiting_response_context (slice_get d.requests n) ≡ None → ⊥
waits-still {R = R} {W = W} n w c d same e f =
    let P : ConnectionState R W → Type 0 = λ y. waiting_response_context (slice_get y.requests n) ≡ None in
    let none : Some (final_context w (remainder w.body)) ≡ None = sym (ap waiting_response_context e) ∙ subst P (sym same) f in cc

pub returns-then-refuses : goal.returns-then-refuses
returns-then-refuses g c =
    let n = c.args.number in
    let q = c.self.inside in
    let w = waits-some (slice_get q.pending.requests n) (sym c.is_waiting.ensures ∙ c.if-not-is_waiting.false) in
    let old = viewed q.profile q.source q.outlet q.pending q.end in
    let gone : IsTrue c.let_go.result = let-go c.let_go.result (λ no. waits-still n w.0 old c.args.self.now c.self.view_is w.1 (c.let_go.ensures.none no).0) in
    let refused : refuses_at c.args.response.answer.status (slice_get q.pending.requests n) ≡ true = answered-code c.args.response.answer.status c.status_code.result.0 (slice_get q.pending.requests n) c.status_code.ensures ∙ sym c.refuses.ensures ∙ c.if-refuses.true in
    let D : List (Option Unfinished) → Type 0 = λ l. refuses_at c.args.response.answer.status (slice_get l n) ≡ true in
    record {
      step = c.let_go.ensures.drops gone c.args.now (step.Respond n (stated_response g.D.ReadDevice.feed c.args.response)) Refused (refl, subst D (ap (λ y. y.requests) c.self.view_is) refused);
    }

waits-stop_count : (u : Option Unfinished) → is_some (waiting_response_context (Some (closing_number u))) ≡ is_some (waiting_response_context (Some u))
waits-stop_count None = refl
waits-stop_count (Some (still.Waiting w)) = refl
waits-stop_count (Some still.Raw) = refl
waits-stop_count (Some (still.Upgraded b)) = refl

-- a number that waits is taken
pub unreachable-requires : goal.unreachable-requires
unreachable-requires g c =
    let n = c.args.number in
    let q = c.self.inside in
    let w = waits-some (slice_get q.pending.requests n) (sym c.is_waiting.ensures ∙ c.if-not-is_waiting.false) in
    let b = c.closes-closes.result in
    let is_some_at : Option (Option Unfinished) → Bool = λ o. is_some (waiting_response_context o) in
    let none : is_some_at (slice_get (closing_if_asked b q.pending.requests) n) ≡ false = ap (λ l. is_some_at (slice_get (closing_if_asked b l) n)) (sym c.hold.ensures.requests) ∙ ap (λ l. is_some_at (slice_get l n)) (sym c.close_last.ensures.requests) ∙ ap is_some c.in_default.ensures.none.0 in
    let no : true ≡ false = sym (ap is_some_at w.1) ∙ sym (at-asked is_some_at waits-stop_count b q.pending.requests n) ∙ none in cc

pub returns : goal.returns
returns g c =
    let n = c.args.number in
    let q = c.self.inside in
    let sink = g.W.WriteDevice.sink in
    let old = viewed q.profile q.source q.outlet q.pending q.end in
    let source = c.give_up.new.source in
    let mid = c.answer-reply.new.outlet in
    let last = c.pass.new in
    let end = c.ends_behind-self-inside.result in
    let new = viewed q.profile source last.outlet last.self end in
    let k0 : Kept = kept old in
    let asked = c.args.response.answer.closes in
    let k : Kept = asked_kept asked k0 in
    let reply = seen c.answer-reply.result in
    let w0 = c.in-Some.request in
    let some = c.in-Some.ensures.some in
    let stop_count : c.close_last.new.self.requests ≡ k.requests = c.close_last.ensures.requests ∙ ap (λ b. closing_if_asked b c.hold.new.self.requests) c.closes-closes.ensures ∙ ap (closing_if_asked asked) c.hold.ensures.requests in
    let got : slice_get k.requests n ≡ Some (Some (still.Waiting w0)) = ap (λ l. slice_get l n) (sym stop_count) ∙ some.0 in
    let lacks = kept_lacks (slice_get k.requests n) in
    let same_lacks : lacks ≡ kept_lacks (slice_get k0.requests n) = at-asked kept_lacks lacks-stop_count asked k0.requests n in
    let now_lacks : c.is_last_once_finished.result ≡ lacks = c.is_last_once_finished.ensures ∙ ap (λ l. w0.by_standard && (w0.owes_continue || is_long l)) c.remainder-left.ensures ∙ sym (ap kept_lacks got) in
    let end_is : end ≡ ends_behind (asked || lacks) q.end = c.ends_behind-self-inside.ensures ∙ ap (λ b. ends_behind b c.ends_behind-end.result) c.closes-closes.ensures ∙ ap (λ e. ends_behind asked e) (c.ends_behind-end.ensures ∙ ap (λ b. ends_behind b q.end) now_lacks) ∙ ends-twice asked lacks q.end in
    let ended : is_some end ≡ ((is_some q.end || asked) || lacks) = ap is_some end_is ∙ ends-some (asked || lacks) q.end ∙ or-regroup (is_some q.end) asked lacks in
    let requests : last.self.requests ≡ slice_set k.requests n None = c.pass.ensures.requests ∙ some.1 ∙ ap (λ l. slice_set l n None) stop_count in
    let context = final_context w0 (remainder w0.body) in
    let waits : waiting_response_context (slice_get k.requests n) ≡ Some context = ap waiting_response_context got in
    let w1 = waits-some (slice_get k0.requests n) (sym c.is_waiting.ensures ∙ c.if-not-is_waiting.false) in
    let same_body : Some w0.body ≡ Some w1.0.body = ap body_at (sym got) ∙ at-asked body_at body-stop_count asked k0.requests n ∙ ap body_at w1.1 in
    let body_is : w0.body ≡ w1.0.body = cc in
    let given_up : GivesUp w0.body q.source source = subst (λ b. GivesUp b q.source source) c.answer-reply.ensures.body c.give_up.ensures.gives_up in
    let given_up_old : GivesUp w1.0.body q.source source = subst (λ b. GivesUp b q.source source) body_is given_up in
    let feed = g.D.ReadDevice.feed c.args.response.data_reader in
    let p = printing_in context c.args.now in
    let H : Remainder → ErrorKind → Type 0 = λ l kind. IsHonest (output_of q.outlet) (output_of mid) c.args.response.answer feed (printing_in (final_context w0 l) c.args.now) kind in
    let T : ResponseContext → Type 0 = λ x. AnswerTells k.sink (output_of mid) mid.ended reply c.args.response.answer feed (printing_in x c.args.now) in
    let held_is : IsTrue c.hold.result = search rules in
    let around = around-held q.pending.turns.marks n (c.hold.ensures.held.0 held_is).0 in
    let marks_are : c.take.new.self.turns.marks ≡ around.0 ++ (Held ∷ around.1) = ap (λ t. t.marks) c.take.ensures.turns ∙ ap (λ t. t.marks) c.close_last.ensures.turns ∙ c.hold.ensures.marks held_is ∙ around.2 in
    let last_kind : mid.ended ≡ true → (output_of last.outlet).last_kind ≡ (output_of mid).last_kind = λ e. left-kind around.1 mid.ended (output_of mid) (output_of last.outlet) last.outlet.ended e (c.pass.ensures.sends around.0 around.1 marks_are around.3 (λ open_is. absurd (true-false e open_is))) in
    let idle : begins_left (drop (n + 1) q.pending.turns.marks) ≡ false → last.outlet ≡ mid = λ e. c.pass.ensures.idle around.0 around.1 marks_are around.3 (around.4 ∙ e) in
    let A : Remainder → Feed → Type 0 = λ l content. Answers k.sink (output_of mid) (outlet_ended mid) reply c.args.response.answer content (printing_in (final_context w0 l) c.args.now) in
    let own_sent : mid.ended ≡ false → AnswerIsSentOn old new c.args.now n (stated_response g.D.ReadDevice.feed c.args.response) =
    λ goes. (context, waits, λ content taken stated few can known. answer-sent_on k.sink (output_of mid) (output_of last.outlet) mid.ended reply c.args.response.answer content p taken goes (subst (λ l. A l content) c.remainder-left.ensures (c.answer-reply.ensures.sends content stated few (or-parts q.outlet.ended q.outlet.sink.has_ended can.unended).0 can)) known c.pass.ensures.keeps) in
    let accepted : refuses_at c.args.response.answer.status (slice_get k0.requests n) ≡ false = answered-code c.args.response.answer.status c.status_code.result.0 (slice_get k0.requests n) c.status_code.ensures ∙ sym c.refuses.ensures ∙ c.if-refuses.false in
    let accepted_told : refuses_at c.args.response.answer.status (slice_get k.requests n) ≡ false = at-asked (refuses_at c.args.response.answer.status) (refuses-stop_count c.args.response.answer.status) asked k0.requests n ∙ accepted in
    record {
      step = rw (← c.self.view_is) (takes-respond g.D.ReadDevice.feed true old new c.args.now n c.args.response reply
          (λ client before s value low is st.
          let held : IsTrue c.hold.result = search rules in
          let now : State = asked_state asked s in
          let A : Answer → Type 0 = λ a. Answers k.sink (output_of mid) (outlet_ended mid) reply a value.content (printing_in context c.args.now) in
          let L : Remainder → Type 0 = λ l. Answers k.sink (output_of mid) (outlet_ended mid) reply c.args.response.answer value.content (printing_in (final_context w0 l) c.args.now) in
          let E : Bool → Type 0 = λ e. StepIsAnswered client before (record (kept new) { asking_ended = e }) now c.args.now (Respond n value) reply in
          let B : Answer → Type 0 = λ a. StepIsAnswered client before (kept new) (asked_state a.closes s) c.args.now (Respond n value) reply in
          let F : Answer → Type 0 = λ a. closes_reached a.closes now.reached ≡ now.reached in
          let first = (c.hold.ensures.held.0 held).1 in
          let represents = represents-asked asked client before k0 s st in
          respond-asked client before k0 (kept new) s c.args.now n value (final_context w1.0 (remainder w1.0.body)) reply st (ap waiting_response_context w1.1) (ap (λ a. refuses_at a.status (slice_get k0.requests n)) is.0 ∙ accepted) first
          (subst B (sym is.0) (subst E (sym ended) (respond-done client before k now c.args.now n value context (output_of mid) (output_of last.outlet) (outlet_ended mid) (outlet_ended last.outlet) c.take.new.self.turns.marks last.self.turns.marks last.self.requests q.source source reply
          represents (record { feed = refl; stop = refl; ends = refl; input_state = refl }) (λ w e. gives-up-of q.source source (slice_get k.requests n) (still.Waiting w0) got given_up (still.Waiting w) e) low waits (ap (λ a. refuses_at a.status (slice_get k.requests n)) is.0 ∙ accepted_told)
          (subst F (sym is.0) (twice-asked asked s)) first (ap (λ t. t.marks) c.take.ensures.turns ∙ ap (λ t. t.marks) c.close_last.ensures.turns ∙ c.hold.ensures.marks held) requests
          (responds-by k (output_of mid) (outlet_ended mid) reply value context c.args.now
          (λ e. let h = c.answer-reply.ensures.past e in (ap (λ o. output_of o) h.0, ap (λ o. outlet_ended o) h.0, h.1))
          (λ e. subst A (sym is.0) (subst L c.remainder-left.ensures (c.answer-reply.ensures.sends value.content is.1 is.2 e (can-send before k.sink k.output_ended now.reached.slots s.flushed s.failure represents.output low e)))))
          c.pass.ensures.passes c.pass.ensures.sends))))
          (λ no. absurd (not-declined n (stated_response g.D.ReadDevice.feed c.args.response) reply c.answer-reply.ensures.done no)) (replied-done _ _ _ reply (sym c.is_waiting.ensures ∙ c.if-not-is_waiting.false) accepted (ap not (held-in_turn c.hold.result n q.pending.turns.marks c.hold.ensures.held ∙ held_is)) c.answer-reply.ensures.done) (answered-ends n asked old new reply c.answer-reply.ensures.done (end_is ∙ ap (λ b. ends_behind (asked || b) q.end) same_lacks))
          (answered-leaves n c.args.response.answer old new reply c.answer-reply.ensures.done (
            (
              requests,
              gives-up-of q.source source (slice_get k0.requests n) (still.Waiting w1.0) w1.1 given_up_old,
              λ front rest is place. c.pass.ensures.passes front rest (ap (λ t. t.marks) c.take.ensures.turns ∙ ap (λ t. t.marks) c.close_last.ensures.turns ∙ c.hold.ensures.marks held_is ∙ set-place q.pending.turns.marks front rest n Open Held is place) place,
            ),
            accepted,
          ))
          (answered-done reply c.answer-reply.ensures.done)
          (record {
            profile = refl;
            goes_on = gives-up w0.body q.source source given_up;
            fails_once = once-append (outlet_ended q.outlet) (outlet_ended mid) (outlet_ended last.outlet) k.sink (output_of mid) (output_of last.outlet) c.answer-reply.ensures.fails_once c.pass.ensures.fails_once;
            flushed = λ was. c.pass.ensures.flushed c.answer-reply.ensures.flushed;
            sent_on = λ was. c.pass.ensures.sent_on c.answer-reply.ensures.sent_on;
          })
          (λ kind e.
          let h = c.answer-reply.ensures.honest kind e in
          (context, waits, stays-ended (outlet_ended mid) (outlet_ended last.outlet) (output_of mid) (output_of last.outlet) h.0 c.pass.ensures.fails_once, honest-more (outlet_ended mid) (outlet_ended last.outlet) k.sink (output_of mid) (output_of last.outlet) c.args.response.answer feed p kind h.0 c.pass.ensures.fails_once (last_kind h.0) (subst (λ l. H l kind) c.remainder-left.ensures h.1)))
          (answered-tells n (stated_response g.D.ReadDevice.feed c.args.response) old new c.args.now reply context c.answer-reply.ensures.done waits
          (answer-tells k.sink mid last.outlet reply (begins_left (drop (n + 1) q.pending.turns.marks)) c.args.response.answer feed p (AnswerIsSentOn old new c.args.now n (stated_response g.D.ReadDevice.feed c.args.response))
          (subst (λ l. T (final_context w0 l)) c.remainder-left.ensures c.answer-reply.ensures.tells) c.pass.ensures.fails_once last_kind idle own_sent)));
    }
