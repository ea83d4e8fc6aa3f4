-- The calls of a `Connection`, as steps.
use Rattle.std.proofs.Common.{◌≡◌, refl, sym, ap, ◌∙◌, subst, arith, length, ℕ, suc, ◌+◌, ◌-◌, ◌<◌, ◌^◌, ◌⊎◌, inl, inr, ⊎_elim, Bool, true, false, not, ◌&&◌, ◌||◌, List, [], ◌∷◌, ◌++◌, Option, Some, None, Result, Ok, Err, append_assoc}
use Rattle.std.proofs.Math.Bool.{or-false}
use Rattle.std.specs.declared.io.ErrorKind.{ErrorKind}
use Rattle.httpdate.specs.declared.date.HttpDate.{HttpDate}
use Rattle.tiny_http_io.specs.Device.{Feed, Sink, StatesKind, IsFront, IsAllKnown}
use Rattle.tiny_http_response.specs.Answer.{Answer, Printing, ResponseState, text_of}
use Rattle.tiny_http_body.specs.Text.{Whole, Broken}
use Rattle.std.specs.Io.KnownBytes.{append_known}
use Rattle.std.specs.declared.io.Error.{Error}
use Rattle.std.specs.declared.io.ErrorKind.TheVariants.{OutOfMemory}
use Rattle.tiny_http_connection.specs.Outcomes.{fault_reply}
use Rattle.tiny_http_io.specs.declared.device.Stop.{Stop}
use Rattle.tiny_http_connection.specs.declared.pending.Unfinished.{Unfinished}
use Rattle.tiny_http_connection.specs.declared.pending.Unfinished.TheVariants as still
use Rattle.tiny_http_connection.specs.Replies.{StepReplies, is_waiting, is_in_turn, is_open_mark}
use Rattle.tiny_http_connection.proofs.RepliesLemmas.{replied-refused, replied-done}
use Rattle.tiny_http_connection.specs.Pending.{waiting_response_context, is_last_once_finished_at as kept_lacks, refuses_at, is_last_with_stream_at, last_holds_next_head, kept_body, GivesUpIfKept, refuses_upgrade_at}
use Rattle.std.specs.List.{AllZip}
use Rattle.tiny_http_connection.specs.declared.driver.Timed.{Timed}
use Rattle.tiny_http_connection.specs.declared.driver.Step.{Step}
use Rattle.tiny_http_connection.specs.declared.driver.Step.TheVariants as step
use Rattle.tiny_http_connection.specs.declared.pending.Pending.{Pending}
use Rattle.tiny_http_io.specs.Source.{SourceState, GoesOn, IsAtEnd}
use Rattle.tiny_http_io.specs.Outlet.{OutletState, output_of, SentOn}
use Rattle.tiny_http_response.specs.ResponseValue.{ResponseValue}
use Rattle.tiny_http_connection.specs.Steps.{StepValue, Ask, AsReader, Read, Respond, IntoWriter, Write, Flush, Upgrade, Finish, Drop, ReplyValue, Handed, Ended, Given, NotYet, Done, Refused, NoSuch, Memory, Fault, TimedValue, is_done}
use Rattle.tiny_http_connection.specs.Outcomes.{Reached, changes, ends_asking, use_in_turn, outcome}
use Rattle.tiny_http_connection.specs.Conversation.{State, IsFresh, StepsTo, IsAskOutOfMemory, start_state}
use Rattle.tiny_http_response.specs.Sending.{FailsOnceUnlessEnded, IsHonest, FailsOnce, Sends}
use Rattle.tiny_http_connection.specs.Seen.{IsResponse, IsStep, IsTimedStep, ReportsOfWriter, Answers, IsAnswered, IsOfWriter, all_sent_after}
use Rattle.tiny_http_body.specs.declared.body.UnreadBody.{UnreadBody}
use Rattle.tiny_http_open_request.specs.declared.open_request.OpenRequest.{OpenRequest}
use Rattle.tiny_http_open_request.specs.OpenRequest.{refuses_code, request_check}
use Rattle.tiny_http_body.specs.Body.{Remaining, remaining, is_streaming, body_input_state, is_whole}
use Rattle.std.specs.Prelude.{MatchBool, is_err}
use Rattle.tiny_http_connection.specs.Connection.{Kept, ConnectionState, kept, Represents, HandedOut, open_slot, dropped, BeginsMore}
use Rattle.tiny_http_connection.specs.Slots.{turn_has_come, ends_when_finished}
use Rattle.tiny_http_connection.proofs.ConnectionDrop.{IsKeptOf, at-drop, at-unanswerable, at-refused}
use Rattle.std.specs.Prelude.{String, string_bytes, slice_get}
use Rattle.tiny_http_connection.specs.Driving.{HasDone, TakesStep, AskEnds, StepEnds, EndsBehind, UpgradeEnds, ends_behind, IsDeclined, stated_response, stated_step, StepLeaves, AskLeaves, LetsGo, InputStateAfter, ReportsFault, AnswerLeaves, UpgradeLeaves, IsDropping, RefusesHeads, RespondEnds, StepReports, RespondReports}
use Rattle.tiny_http_connection.proofs.ConnectionAsk.{StepIsAnswered, AskIsAnswered, FoundHead}
use Rattle.tiny_http_connection.proofs.ConversationEnded.{steps-stay, vain-snoc, begins-behind_items}
use Rattle.tiny_http_connection.proofs.ConnectionReader.{holds-snoc}
use Rattle.tiny_http_io.proofs.SourceGoesOn.{goes-on_same, goes-on_more}
use Rattle.tiny_http_connection.proofs.SeenLemmas.{is-ask, is-send_continue, is-read, is-respond, is-into_writer, is-write, is-flush, is-upgrade, is-finish, is-drop, step-send_continue, step-read, step-respond, step-into_writer, step-write, step-flush, step-upgrade, step-finish, step-drop}
use Rattle.tiny_http_turns.specs.Turns.{Mark, Open, Held, Left, Finished}
use Rattle.std.specs.Prelude.{is_some, replicate}
use Rattle.tiny_http_open_request.specs.declared.exchange.EndOfRequests.{EndOfRequests}
use Rattle.tiny_http_io.specs.declared.source.InputState.{InputState}
use Rattle.tiny_http_io.specs.declared.source.InputState.TheVariants as place
use Rattle.std.specs.Global.{Global, Vec}
use Rattle.tiny_http_head.specs.declared.common.StatusCode.{StatusCode}
use Rattle.tiny_http_open_request.specs.declared.exchange.HeadRead.TheVariants as read
use Rattle.tiny_http_open_request.specs.declared.exchange.EndOfRequests.TheVariants as because
use Rattle.tiny_http_open_request.specs.declared.exchange.Exchange.{Exchange}
use Rattle.tiny_http_head.specs.Heads.{Message}
use Rattle.tiny_http_body.specs.declared.framing.Framing.{Framing}
use Rattle.tiny_http_open_request.specs.HeadReads.{ReadsHead, EndsAt, IsBeforeHead, HasByteOrTimedOut, IsFramedAs, head_message, head_framing}
use Rattle.tiny_http_body.specs.declared.framing.Profile.{Profile}
use Rattle.tiny_http_open_request.specs.Pipeline.{OneHead, Request, Item, Refuses, Place, place_feed}
use Rattle.tiny_http_connection.specs.Driving.{SendsInTurn, HandsOutHead, IsFree, IsRefusal, EndsRequestsAt, EndsThere, ArePassedOver, HasByteBehind, input_state_past}
use Rattle.tiny_http_open_request.proofs.PipelineLemmas.{has-pipeline}
use Rattle.tiny_http_connection.proofs.ConversationRuns.{run-more, represents-begun, split}
use Rattle.tiny_http_body.proofs.BodyReads.{gives-up}
use Rattle.tiny_http_response.proofs.SendingLemmas.{once-none, once-append}
use Rattle.tiny_http_connection.proofs.Asking.{AskStep, IsAskBehind}
use Rattle.tiny_http_connection.proofs.ConnectionAsking.{AskGoesOn}

-- the fields as they are seen
abbrev pub viewed : {R W : Type 0} → Profile → SourceState R → OutletState W → Pending → Option EndOfRequests → ConnectionState R W
viewed profile source outlet pending end =
    record { profile = profile; marks = pending.turns.marks; requests = pending.requests; end = end; source = source; outlet = outlet }

-- the same numbers, and the same kept of them
pub same-view : {R W : Type 0} (profile : Profile) (source : SourceState R) (outlet : OutletState W) (p q : Pending) (end : Option EndOfRequests) → p.turns.marks ≡ q.turns.marks → p.requests ≡ q.requests → viewed profile source outlet p end ≡ viewed profile source outlet q end
same-view {R = R} {W = W} profile source outlet p q end marks requests =
    let V : List Mark → List (Option Unfinished) → ConnectionState R W = λ m r. record { profile = profile; marks = m; requests = r; end = end; source = source; outlet = outlet } in
    ap (λ m. V m p.requests) marks ∙ ap (λ r. V q.turns.marks r) requests

pub none-of : {X : Type 0} (o : Option X) → is_some o ≡ false → o ≡ None
none-of None e = refl
none-of (Some x) e = cc

-- why the requests end at a head that was refused, or at none
refusal-at : (profile : Profile) (at : InputState) (date : HttpDate) (o p : Option Feed) (status : StatusCode) (text : Vec ℕ) → ReadsHead profile at date o p (Ok (read.Refused status text true)) → (f : Feed) → o ≡ Some f → IsRefusal profile f (because.Refused status)
refusal-at profile at date o p status text h f e =
    let P : Option Feed → Type 0 = λ y. ReadsHead profile at date y p (Ok (read.Refused status text true)) in
    let r = subst P e h in
    let H : Place → Type 0 = λ y. OneHead profile f.bytes f.stop (Some (Refuses r.0 r.1 r.2 true)) y in
    (status, r.0, r.1, r.2, subst H r.7 r.4, r.6, refl)

end-at : (profile : Profile) (at : InputState) (date : HttpDate) (o p : Option Feed) (why : EndOfRequests) → ReadsHead profile at date o p (Ok (read.Ended why)) → (f : Feed) → o ≡ Some f → OneHead profile f.bytes f.stop None None × EndsAt profile at f.bytes f.stop why
end-at profile at date o p why h f e = let P : Option Feed → Type 0 = λ y. ReadsHead profile at date y p (Ok (read.Ended why)) in subst P e h

pub end-refused : (profile : Profile) (at : InputState) (date : HttpDate) (o p : Option Feed) (status : StatusCode) (text : Vec ℕ) → IsBeforeHead at → ReadsHead profile at date o p (Ok (read.Refused status text true)) → EndsRequestsAt profile at o (because.Refused status)
end-refused profile place.Head date o p status text here h = λ f e. ([], f, refl, inl (refusal-at profile place.Head date o p status text h f e))
end-refused profile place.Abandoned date o p status text here h = λ f e. ([], f, refl, inl (refusal-at profile place.Abandoned date o p status text h f e))
end-refused profile (place.Broken kind) date o p status text here h = λ f e. ([], f, refl, inl (refusal-at profile (place.Broken kind) date o p status text h f e))
end-refused profile place.Body date o p status text here h = elim here [ ]
end-refused profile place.Last date o p status text here h = elim here [ ]

pub end-final : (profile : Profile) (at : InputState) (date : HttpDate) (o p : Option Feed) (why : EndOfRequests) → (at ≡ place.Body → ⊥) → (at ≡ place.Last → why ≡ because.LastRequest) → (IsBeforeHead at → ReadsHead profile at date o p (Ok (read.Ended why))) → EndsRequestsAt profile at o why
end-final profile place.Head date o p why outside last h = λ f e. ([], f, refl, inr (end-at profile place.Head date o p why (h tt) f e))
end-final profile place.Abandoned date o p why outside last h = λ f e. ([], f, refl, inr (end-at profile place.Abandoned date o p why (h tt) f e))
end-final profile (place.Broken kind) date o p why outside last h = λ f e. ([], f, refl, inr (end-at profile (place.Broken kind) date o p why (h tt) f e))
end-final profile place.Body date o p why outside last h = absurd (outside refl)
end-final profile place.Last date o p why outside last h = last refl

-- a head was passed, and then the requests end
pub end-behind : (profile : Profile) (at : InputState) (date : HttpDate) (o p : Option Feed) (status : StatusCode) (text : Vec ℕ) (why : EndOfRequests) → IsBeforeHead at → ReadsHead profile at date o p (Ok (read.Refused status text false)) → EndsRequestsAt profile place.Head p why → EndsRequestsAt profile at o why
end-behind profile at date o p status text why here h ends = by at here h
  where
    represents : (xs : List Item) (rest : Feed) → EndsThere profile (input_state_past place.Head xs) rest why → EndsThere profile place.Head rest why
    represents [] rest k = k
    represents (x ∷ xs) rest k = k

    behind : (x : InputState) → ReadsHead profile x date o p (Ok (read.Refused status text false)) → (f : Feed) → o ≡ Some f → (passed : List Item) × (rest : Feed) × ArePassedOver profile f passed rest × EndsThere profile (input_state_past x passed) rest why
    behind x h f e =
        let P : Option Feed → Type 0 = λ y. ReadsHead profile x date y p (Ok (read.Refused status text false)) in
        let r = subst P e h in
        let next = ends (place_feed f.stop r.3) r.7 in
        (Refuses r.0 r.1 r.2 false ∷ next.0, next.1, (refl, r.3, r.4, next.2), represents next.0 next.1 next.3)

    by : (x : InputState) → IsBeforeHead x → ReadsHead profile x date o p (Ok (read.Refused status text false)) → EndsRequestsAt profile x o why
    by place.Head here h = behind place.Head h
    by place.Abandoned here h = behind place.Abandoned h
    by (place.Broken kind) here h = behind (place.Broken kind) h
    by place.Body here h = elim here [ ]
    by place.Last here h = elim here [ ]

-- a request stands here
pub hands-here : (profile : Profile) (at : InputState) (date : HttpDate) (o p : Option Feed) (x : Exchange) → ReadsHead profile at date o p (Ok (read.Request x)) → HandsOutHead 0 profile o (head_message x.head) (head_framing x.head) (remaining x.open_request.body p)
hands-here profile at date None p x h = tt
hands-here profile at date (Some f) p x h = ([], f, refl, refl, h.0, h.1, (h.2, h.3))

-- or behind a head that is passed
pub hands-behind : (profile : Profile) (at : InputState) (date : HttpDate) (o p : Option Feed) (status : StatusCode) (text : Vec ℕ) (n : ℕ) (message : Message) (framing : Framing) (left : Option Remaining)
    → ReadsHead profile at date o p (Ok (read.Refused status text false)) → HandsOutHead n profile p message framing left → HandsOutHead (suc n) profile o message framing left
hands-behind profile at date None p status text n message framing left h hands = tt
hands-behind profile at date (Some f) p status text n message framing left h hands =
    let H : Option Feed → Type 0 = λ y. HandsOutHead n profile y message framing left in
    let next = subst H h.7 hands in
    (Refuses h.0 h.1 h.2 false ∷ next.0, next.1, ap suc next.2, (refl, h.3, h.4, next.3), next.4, next.5, next.6)

-- a byte of a head comes behind a head that is passed
pub begins-behind : (profile : Profile) (at : InputState) (date : HttpDate) (o p : Option Feed) (status : StatusCode) (text : Vec ℕ) → ReadsHead profile at date o p (Ok (read.Refused status text false)) → HasByteBehind profile p → HasByteBehind profile o
begins-behind profile at date None p status text h begun = tt
begins-behind profile at date (Some f) p status text h begun =
    let H : Option Feed → Type 0 = λ y. HasByteBehind profile y in
    let next = subst H h.7 begun in
    (Refuses h.0 h.1 h.2 false ∷ next.0, next.1, (refl, h.3, h.4, next.2), next.3)

-- a byte of a head comes here
pub begins-here : (profile : Profile) (o : Option Feed) → HasByteOrTimedOut profile o → HasByteBehind profile o
begins-here profile None h = tt
begins-here profile (Some f) h = ([], f, refl, h)

-- what a step does to input and output, whatever they state; it holds back nothing if `all`, else if nothing was held before
pub record Moves {R W : Type 0} (all : Bool) (old new : ConnectionState R W) : Type 0 where
  pub profile : new.profile ≡ old.profile
  pub goes_on : GoesOn old.source.feed new.source.feed
  pub fails_once : FailsOnce old.outlet new.outlet
  pub flushed : (all ≡ false → old.outlet.held ≡ []) → new.outlet.held ≡ []
  pub sent_on : (all ≡ false → SentOn old.outlet) → SentOn new.outlet

-- nothing is written
pub driving-reads-on : {R W : Type 0} (old new : ConnectionState R W) → new.profile ≡ old.profile → old.outlet ≡ new.outlet → GoesOn old.source.feed new.source.feed → Moves false old new
driving-reads-on {W = W} old new same e h =
    let P : OutletState W → Type 0 = λ o. FailsOnceUnlessEnded old.outlet.ended (output_of old.outlet) (output_of o) o.ended in
    record {
      profile = same;
      goes_on = h;
      fails_once = subst P e (once-none old.outlet.ended (output_of old.outlet));
      flushed = λ none. ap (λ o. o.held) (sym e) ∙ none refl;
      sent_on = λ s. subst (λ o. SentOn o) e (s refl);
    }

pub moves-none : {R W : Type 0} (c : ConnectionState R W) → Moves false c c
moves-none c = driving-reads-on c c refl refl (goes-on_same c.source.feed)

-- the same, by the step and its reply
pub record MovesBy {R W : Type 0} (x : Step (Option Feed)) (reply : ReplyValue) (old new : ConnectionState R W) : Type 0 where
  pub profile : new.profile ≡ old.profile
  pub goes_on : GoesOn old.source.feed new.source.feed
  pub fails_once : FailsOnce old.outlet new.outlet
  pub flushed : (sent : Bool) → (sent ≡ true → old.outlet.held ≡ []) → all_sent_after x reply sent ≡ true → new.outlet.held ≡ []
  pub sent_on : (sent : Bool) → (sent ≡ true → SentOn old.outlet) → all_sent_after x reply sent ≡ true → SentOn new.outlet

-- a step after which as much is sent on as before
moves-kept : {R W : Type 0} (x : Step (Option Feed)) (reply : ReplyValue) (old new : ConnectionState R W) → ((sent : Bool) → all_sent_after x reply sent ≡ sent) → Moves false old new → MovesBy x reply old new
moves-kept x reply old new same m = record {
  profile = m.profile;
  goes_on = m.goes_on;
  fails_once = m.fails_once;
  flushed = λ sent was e. m.flushed (λ z. was (sym (same sent) ∙ e));
  sent_on = λ sent was e. m.sent_on (λ z. was (sym (same sent) ∙ e));
}

-- an answer or a Flush, after which all is sent on if it is done
moves-sent : {R W : Type 0} (x : Step (Option Feed)) (reply : ReplyValue) (all : Bool) (old new : ConnectionState R W) → ((sent : Bool) → all_sent_after x reply sent ≡ (sent || is_done reply)) → is_done reply ≡ all → Moves all old new → MovesBy x reply old new
moves-sent x reply all old new same done m = record {
  profile = m.profile;
  goes_on = m.goes_on;
  fails_once = m.fails_once;
  flushed = λ sent was e. m.flushed (λ z. was (before sent e z));
  sent_on = λ sent was e. m.sent_on (λ z. was (before sent e z));
}
  where
    before : (sent : Bool) → all_sent_after x reply sent ≡ true → all ≡ false → sent ≡ true
    before sent e z = sym (or-false sent) ∙ ap (λ b. sent || b) (sym (done ∙ z)) ∙ sym (same sent) ∙ e

-- the step is an Ask
abbrev IsAskStep : Step (Option Feed) → Type 0
IsAskStep step.Ask = Unit {0}
IsAskStep _ = ⊥

-- only an Ask asks in vain
vain-asks : (x : Step (Option Feed)) (asked : StepValue) (reply : ReplyValue) → IsStep (λ f. f) x asked → IsAskOutOfMemory asked reply → IsAskStep x
vain-asks step.Ask Ask reply is v = tt
vain-asks (step.AsReader k) Ask reply is v = elim is [ ]
vain-asks (step.Read k n) Ask reply is v = elim is [ ]
vain-asks (step.Respond k r) Ask reply is v = elim is [ ]
vain-asks (step.IntoWriter k) Ask reply is v = elim is [ ]
vain-asks (step.Write k w) Ask reply is v = elim is [ ]
vain-asks (step.Flush k) Ask reply is v = elim is [ ]
vain-asks (step.Upgrade k p r) Ask reply is v = elim is [ ]
vain-asks (step.Finish k) Ask reply is v = elim is [ ]
vain-asks (step.Drop k) Ask reply is v = elim is [ ]
vain-asks x (AsReader k) reply is v = elim v [ ]
vain-asks x (Read k n) reply is v = elim v [ ]
vain-asks x (Respond k r) reply is v = elim v [ ]
vain-asks x (IntoWriter k) reply is v = elim v [ ]
vain-asks x (Write k w) reply is v = elim v [ ]
vain-asks x (Flush k) reply is v = elim v [ ]
vain-asks x (Upgrade k p r) reply is v = elim v [ ]
vain-asks x (Finish k) reply is v = elim v [ ]
vain-asks x (Drop k) reply is v = elim v [ ]

-- where a step has led, and what is known where it asked in vain
abbrev Leads : Feed → Sink → Kept → State → HttpDate → StepValue → ReplyValue → Type 0
Leads client before k s now asked reply =
    (new : State) × Represents client before k new × StepsTo s now asked reply new × (IsAskOutOfMemory asked reply → (new.reached.asking_ended ≡ true) × (new.reached.rest ≡ [] → BeginsMore k.profile client))

takes-found : {R W : Type 0} (old new : ConnectionState R W) (now : HttpDate) (x : Step (Option Feed)) (reply : ReplyValue)
    → ((client : Feed) (before : Sink) (s : State) (asked : StepValue) → before.failures < 2 ^ 64 - 1 → IsStep (λ f. f) x asked → Represents client before (kept old) s → Leads client before (kept new) s now asked reply)
    → (IsDeclined x reply → new ≡ old) → StepReplies old x reply → StepEnds x old new reply → StepLeaves x now old new reply → MovesBy x reply old new → ((kind : ErrorKind) → reply ≡ Fault kind → ReportsFault old new now x kind) → StepReports old new now x reply → TakesStep old new now x reply
takes-found old new now x reply answers declined replies ends leaves moves honest tells =
    record {
      does = λ p client before steps replies asked is done.
          let a = answers client before done.at asked done.fresh.can_count is done.represents in
          let profile = moves.profile ∙ done.profile in
          let M : Profile → Type 0 = λ q. BeginsMore q client in
          record {
            profile = profile;
            fresh = done.fresh;
            items = done.items;
            pipeline = done.pipeline;
            at = a.0;
            run = run-more _ done.at a.0 steps replies (now, asked) reply done.run a.2;
            represents = a.1;
            memory = λ vain. ⊎_elim
                (λ before. (let m = done.memory before in let e = steps-stay done.at now asked reply a.0 m.0 a.2 in (e.0, λ none. m.1 (sym e.1 ∙ none))))
                (λ v. (let m = a.3 v in (m.0, λ none. begins-behind_items p client done.items done.pipeline (subst M profile (m.1 none)))))
                (vain-snoc (start_state done.items) done.at steps replies (now, asked) reply done.run vain);
          };
      makes = record {
        profile = moves.profile;
        declined = declined;
        replies = replies;
        ends = ends;
        leaves = leaves;
        goes_on = moves.goes_on;
        fails_once = moves.fails_once;
        flushed = moves.flushed;
        sent_on = moves.sent_on;
        honest = honest;
        reports = tells;
      };
    }

pub takes : {R W : Type 0} (old new : ConnectionState R W) (now : HttpDate) (x : Step (Option Feed)) (reply : ReplyValue)
    → ((client : Feed) (before : Sink) (s : State) (asked : StepValue) → before.failures < 2 ^ 64 - 1 → IsStep (λ f. f) x asked → Represents client before (kept old) s → StepIsAnswered client before (kept new) s now asked reply)
    → (IsDeclined x reply → new ≡ old) → StepReplies old x reply → StepEnds x old new reply → StepLeaves x now old new reply → MovesBy x reply old new → ((kind : ErrorKind) → reply ≡ Fault kind → ReportsFault old new now x kind) → StepReports old new now x reply → (IsAskStep x → ⊥) → TakesStep old new now x reply
takes old new now x reply answers declined replies ends leaves moves honest tells other =
    takes-found old new now x reply
    (λ client before s asked low is st. (let a = answers client before s asked low is st in (a.0, a.1, a.2, λ v. absurd (other (vain-asks x asked reply is v)))))
    declined replies ends leaves moves honest tells

-- the body of what is kept under one number was given up
pub gives-up-of : {R : Type 0} (old new : SourceState R) (o : Option (Option Unfinished)) (u : Unfinished) → o ≡ Some (Some u) → GivesUpIfKept (kept_body (Some u)) old new → (v : Unfinished) → o ≡ Some (Some v) → GivesUpIfKept (kept_body (Some v)) old new
gives-up-of old new o u e gives v f = subst (λ x. GivesUpIfKept (kept_body (Some x)) old new) (one u v (sym e ∙ f)) gives
  where
    one : (x y : Unfinished) → ◌≡◌ {A = Option (Option Unfinished)} (Some (Some x)) (Some (Some y)) → x ≡ y
    one x y h = cc

-- the source goes on where a body is given up
pub gives-up-body : {R : Type 0} (b : Option UnreadBody) (old new : SourceState R) → GivesUpIfKept b old new → GoesOn old.feed new.feed
gives-up-body {R = R} None old new h = let P : SourceState R → Type 0 = λ x. GoesOn old.feed x.feed in subst P (sym h) (goes-on_same old.feed)
gives-up-body (Some b) old new h = gives-up b old new h

-- where the source stands after a read
pub represents-after : {R : Type 0} (was body : UnreadBody) (old new : SourceState R) → (is_streaming was ≡ false → new ≡ old) → (is_streaming was ≡ true → new.input_state ≡ body_input_state body old.input_state) → InputStateAfter was body old new
represents-after was body old new same moves = by (is_streaming was) same moves
  where
    by : (b : Bool) → (b ≡ false → new ≡ old) → (b ≡ true → new.input_state ≡ body_input_state body old.input_state) → MatchBool b (new.input_state ≡ body_input_state body old.input_state) (new ≡ old)
    by true same moves = moves refl
    by false same moves = same refl

-- no fault is reported
abbrev pub ReportsNoFault : ReplyValue → Type 0
ReportsNoFault reply = (kind : ErrorKind) → reply ≡ Fault kind → ⊥

-- whether the requests end behind a number that gets the connection's stream
pub ends-some : (holds : Bool) (end : Option EndOfRequests) → is_some (ends_behind holds end) ≡ (is_some end || holds)
ends-some false None = refl
ends-some false (Some why) = refl
ends-some true None = refl
ends-some true (Some why) = refl

-- an Ask reports no fault
ask-reports-none : {R W : Type 0} (old new : ConnectionState R W) (reply : ReplyValue) → AskEnds old new reply → ReportsNoFault reply
ask-reports-none old new (Handed k message framing) h kind e = cc
ask-reports-none old new Ended h kind e = cc
ask-reports-none old new (Given bytes) h kind e = elim h [ ]
ask-reports-none old new (Fault x) h kind e = elim h [ ]
ask-reports-none old new NotYet h kind e = cc
ask-reports-none old new Done h kind e = cc
ask-reports-none old new Refused h kind e = cc
ask-reports-none old new NoSuch h kind e = cc
ask-reports-none old new Memory h kind e = cc

pub ask-found : {R W : Type 0} (old new : ConnectionState R W) (now : HttpDate) (reply : ReplyValue)
    → ((client : Feed) (before : Sink) (s : State) → before.failures < 2 ^ 64 - 1 → Represents client before (kept old) s → AskIsAnswered client before (kept new) s now reply)
    → (IsDeclined step.Ask reply → new ≡ old) → AskEnds old new reply → AskLeaves now old new reply → Moves false old new → AskStep old new now reply
ask-found old new now reply answers declined ends leaves moves = record {
  does = answers;
  profile = moves.profile;
  declined = declined;
  ends = ends;
  leaves = leaves;
  goes_on = moves.goes_on;
  fails_once = moves.fails_once;
  flushed = λ was. moves.flushed (λ z. was);
  sent_on = λ was. moves.sent_on (λ z. was);
}

-- memory was found
pub ask-step : {R W : Type 0} (old new : ConnectionState R W) (now : HttpDate) (reply : ReplyValue) → ((client : Feed) (p : Profile) (left : State) → FoundHead client p reply left)
    → ((client : Feed) (before : Sink) (s : State) → before.failures < 2 ^ 64 - 1 → Represents client before (kept old) s → StepIsAnswered client before (kept new) s now Ask reply)
    → (IsDeclined step.Ask reply → new ≡ old) → AskEnds old new reply → AskLeaves now old new reply → Moves false old new → AskStep old new now reply
ask-step old new now reply found answers declined ends leaves moves =
    ask-found old new now reply (λ client before s low st. (let a = answers client before s low st in (a.0, a.1, a.2, found client new.profile a.0))) declined ends leaves moves

-- where no memory was found the asking has ended
vain-ended : {R W : Type 0} (old new : ConnectionState R W) (client : Feed) (reply : ReplyValue) (left : State) → AskEnds old new reply → left.reached.asking_ended ≡ is_some new.end → FoundHead client new.profile reply left → IsAskOutOfMemory Ask reply → (left.reached.asking_ended ≡ true) × (left.reached.rest ≡ [] → BeginsMore new.profile client)
vain-ended old new client Memory left ends same found v = (same ∙ ap is_some ends.1, found)
vain-ended old new client (Handed k m f) left ends same found v = elim v [ ]
vain-ended old new client Ended left ends same found v = elim v [ ]
vain-ended old new client (Given bytes) left ends same found v = elim v [ ]
vain-ended old new client (Fault kind) left ends same found v = elim v [ ]
vain-ended old new client NotYet left ends same found v = elim v [ ]
vain-ended old new client Done left ends same found v = elim v [ ]
vain-ended old new client Refused left ends same found v = elim v [ ]
vain-ended old new client NoSuch left ends same found v = elim v [ ]

pub takes-ask : {R W : Type 0} (old new : ConnectionState R W) (now : HttpDate) (reply : ReplyValue) → AskStep old new now reply → TakesStep old new now step.Ask reply
takes-ask old new now reply a =
    takes-found old new now step.Ask reply
    (λ client before s asked low is st. leads client before s asked is (a.does client before s low st))
    a.declined tt a.ends a.leaves
    (moves-kept step.Ask reply old new (λ sent. refl) (record { profile = a.profile; goes_on = a.goes_on; fails_once = a.fails_once; flushed = λ was. a.flushed (was refl); sent_on = λ was. a.sent_on (was refl) }))
    (λ kind e. absurd (ask-reports-none old new reply a.ends kind e)) tt
  where
    leads : (client : Feed) (before : Sink) (s : State) (asked : StepValue) → IsStep (λ f. f) step.Ask asked → AskIsAnswered client before (kept new) s now reply → Leads client before (kept new) s now asked reply
    leads client before s Ask is h = (h.0, h.1, h.2, vain-ended old new client reply h.0 a.ends h.1.asking_ended h.3)
    leads client before s (AsReader k) is h = elim is [ ]
    leads client before s (Read k n) is h = elim is [ ]
    leads client before s (Respond k r) is h = elim is [ ]
    leads client before s (IntoWriter k) is h = elim is [ ]
    leads client before s (Write k w) is h = elim is [ ]
    leads client before s (Flush k) is h = elim is [ ]
    leads client before s (Upgrade k p r) is h = elim is [ ]
    leads client before s (Finish k) is h = elim is [ ]
    leads client before s (Drop k) is h = elim is [ ]

-- What a head that is passed leaves: what stood in front of it asks no more than what stands behind it.
pub record PassesHead {R W : Type 0} (old mid : ConnectionState R W) (now : HttpDate) : Type 0 where
  pub does : (client : Feed) (before : Sink) (s : State) → before.failures < 2 ^ 64 - 1 → Represents client before (kept old) s → AskGoesOn client before (kept mid) s now
  pub was_open : old.end ≡ None
  pub is_open : mid.end ≡ None
  pub here : IsBeforeHead old.source.input_state
  pub unended : IsAtEnd old.source → ⊥
  pub begins : HasByteBehind mid.profile mid.source.feed → HasByteBehind old.profile old.source.feed
  pub free : IsFree old
  pub hands : (n : ℕ) (message : Message) (framing : Framing) (left : Option Remaining) → HandsOutHead n mid.profile mid.source.feed message framing left → HandsOutHead (suc n) old.profile old.source.feed message framing left
  pub represents : mid.source.input_state ≡ place.Head
  pub ends : (why : EndOfRequests) → EndsRequestsAt mid.profile place.Head mid.source.feed why → EndsRequestsAt old.profile old.source.input_state old.source.feed why
  pub requests : mid.requests ≡ old.requests ++ (None ∷ [])
  pub counts : length mid.marks ≡ length old.marks + 1
  pub moves : Moves false old mid

-- within a body no head stands
pub not-body : (x : InputState) → x ≡ place.Head → x ≡ place.Body → ⊥
not-body x e f = cc

not-last : (x : InputState) → IsBeforeHead x → x ≡ place.Last → ⊥
not-last x h e = let P : InputState → Type 0 = λ y. IsBeforeHead y in elim (subst P e h) [ ]

-- one refused head more
one-more : (old mid new end : List (Option Unfinished)) (n : ℕ) → mid ≡ old ++ (None ∷ []) → new ≡ (mid ++ replicate n None) ++ end → new ≡ (old ++ replicate (suc n) None) ++ end
one-more old mid new end n e h = h ∙ ap (λ x. x ++ end) (ap (λ x. x ++ replicate n None) e ∙ append_assoc old (None ∷ []) (replicate n None))

refuses-more : {R W : Type 0} (old mid new : ConnectionState R W) (n : ℕ) → mid.requests ≡ old.requests ++ (None ∷ []) → RefusesHeads n mid new → RefusesHeads (suc n) old new
refuses-more old mid new n e h =
    (h.0 ∙ (ap (λ x. x ++ replicate n None) e ∙ append_assoc old.requests (None ∷ []) (replicate n None)), λ z. (let no : suc n ≡ 0 = z in cc))

one-behind : (a b n : ℕ) → b ≡ a + 1 → b + n ≡ a + suc n
one-behind a b n e = omega (arith, e)

leaves-behind : {R W : Type 0} (now : HttpDate) (old mid new : ConnectionState R W) (reply : ReplyValue) → mid.requests ≡ old.requests ++ (None ∷ []) → length mid.marks ≡ length old.marks + 1 → IsBeforeHead old.source.input_state → (IsAtEnd old.source → ⊥) → mid.profile ≡ old.profile
    → ((n : ℕ) (message : Message) (framing : Framing) (left : Option Remaining) → HandsOutHead n mid.profile mid.source.feed message framing left → HandsOutHead (suc n) old.profile old.source.feed message framing left) → AskLeaves now mid new reply → AskLeaves now old new reply
leaves-behind now old mid new (Handed k message framing) e count here unended same hands h = (
  suc h.0,
  h.1,
  one-more old.requests mid.requests new.requests (Some (still.Waiting h.1) ∷ []) h.0 e h.2,
  h.3,
  h.4 ∙ one-behind (length old.marks) (length mid.marks) h.0 count,
  λ z. (let no : suc h.0 ≡ 0 = z in cc),
  hands h.0 message framing (remaining h.1.body new.source.feed) h.6,
  subst (λ p. IsFramedAs p message framing) same h.7,
  h.8,
  h.9,
)
leaves-behind now old mid new Ended e count here unended same hands h = (suc h.0, refuses-more old mid new h.0 e h.1, λ z. absurd (⊎_elim (not-last old.source.input_state here) unended z))
leaves-behind now old mid new Memory e count here unended same hands h = (suc h.0, refuses-more old mid new h.0 e h.1)
leaves-behind now old mid new NotYet e count here unended same hands h = tt
leaves-behind now old mid new (Given bytes) e count here unended same hands h = elim h [ ]
leaves-behind now old mid new (Fault x) e count here unended same hands h = elim h [ ]
leaves-behind now old mid new Done e count here unended same hands h = elim h [ ]
leaves-behind now old mid new Refused e count here unended same hands h = elim h [ ]
leaves-behind now old mid new NoSuch e count here unended same hands h = elim h [ ]

-- behind a refused head no body and no answer is waited for
never-waits : {R W : Type 0} (old mid : ConnectionState R W) (now : HttpDate) → PassesHead old mid now → (mid.source.input_state ≡ place.Body ⊎ last_holds_next_head mid.requests ≡ true) → ⊥
never-waits old mid now p h =
    ⊎_elim (not-body mid.source.input_state p.represents)
    (λ waits. (let no : false ≡ true = sym (ap last_holds_next_head p.requests ∙ holds-snoc old.requests None) ∙ waits in cc)) h

ends-behind : {R W : Type 0} (old mid new : ConnectionState R W) (now : HttpDate) (reply : ReplyValue) → PassesHead old mid now → AskEnds mid new reply → AskEnds old new reply
ends-behind old mid new now (Handed k message framing) p h = (p.was_open, h.1, p.here, p.free, p.unended)
ends-behind old mid new now Ended p h = (
  λ some. (let absent : false ≡ true = ap is_some (sym p.was_open) ∙ some in cc),
  λ last. absurd (not-last old.source.input_state p.here last),
  λ open_is.
      let x = h.2 p.is_open in
      let E : InputState → Type 0 = λ y. EndsRequestsAt mid.profile y mid.source.feed x.0 in
      (x.0, x.1, p.ends x.0 (subst E p.represents x.2), p.free),
)
ends-behind old mid new now Memory p h = (p.was_open, h.1, p.here, p.begins h.3, p.free, p.unended)
ends-behind old mid new now NotYet p h = absurd (never-waits old mid now p h.1)
ends-behind old mid new now (Given bytes) p h = elim h [ ]
ends-behind old mid new now (Fault x) p h = elim h [ ]
ends-behind old mid new now Done p h = elim h [ ]
ends-behind old mid new now Refused p h = elim h [ ]
ends-behind old mid new now NoSuch p h = elim h [ ]

never-declined : {R W : Type 0} (old mid new : ConnectionState R W) (now : HttpDate) (reply : ReplyValue) → PassesHead old mid now → AskEnds mid new reply → IsDeclined step.Ask reply → ⊥
never-declined old mid new now (Handed k message framing) e h was = elim was [ ]
never-declined old mid new now Ended e h was = elim was [ ]
never-declined old mid new now Memory e h was = elim was [ ]
never-declined old mid new now NotYet e h was = never-waits old mid now e h.1
never-declined old mid new now (Given bytes) e h was = elim h [ ]
never-declined old mid new now (Fault x) e h was = elim h [ ]
never-declined old mid new now Done e h was = elim h [ ]
never-declined old mid new now Refused e h was = elim h [ ]
never-declined old mid new now NoSuch e h was = elim h [ ]

pub asks-behind-head : {R W : Type 0} (old mid : ConnectionState R W) (now : HttpDate) → PassesHead old mid now → IsAskBehind old mid now
asks-behind-head old mid now p = λ new reply a. record {
  does = λ client before s low st. (let g = p.does client before s low st in g.asks (kept new) reply (a.does client before g.mid low g.represents));
  profile = a.profile ∙ p.moves.profile;
  declined = λ was. absurd (never-declined old mid new now reply p a.ends was);
  ends = ends-behind old mid new now reply p a.ends;
  leaves = leaves-behind now old mid new reply p.requests p.counts p.here p.unended p.moves.profile p.hands a.leaves;
  goes_on = goes-on_more old.source.feed mid.source.feed new.source.feed p.moves.goes_on a.goes_on;
  fails_once = once-append old.outlet.ended mid.outlet.ended new.outlet.ended (output_of old.outlet) (output_of mid.outlet) (output_of new.outlet) p.moves.fails_once a.fails_once;
  flushed = λ was. a.flushed (p.moves.flushed (λ z. was));
  sent_on = λ was. a.sent_on (p.moves.sent_on (λ z. was));
}

pub takes-send_continue : {R W : Type 0} (old new : ConnectionState R W) (now : HttpDate) (n : ℕ) (reply : ReplyValue)
    → ((client : Feed) (before : Sink) (s : State) → before.failures < 2 ^ 64 - 1 → Represents client before (kept old) s → StepIsAnswered client before (kept new) s now (AsReader n) reply)
    → (IsDeclined (step.AsReader n) reply → new ≡ old) → StepReplies old (step.AsReader n) reply → new.end ≡ old.end → StepLeaves (step.AsReader n) now old new reply → Moves false old new → ReportsNoFault reply → TakesStep old new now (step.AsReader n) reply
takes-send_continue old new now n reply answers declined replies ends leaves moves none =
    takes old new now (step.AsReader n) reply
    (λ client before s asked low is st. step-send_continue {D = Option Feed} (λ f. f) client before (kept new) s now (now, asked) (step.AsReader n) n reply refl refl is (answers client before s low st))
    declined replies ends leaves (moves-kept (step.AsReader n) reply old new (λ sent. refl) moves) (λ kind e. absurd (none kind e)) tt (λ ask. ask)

pub takes-drop : {R W : Type 0} (old new : ConnectionState R W) (now : HttpDate) (n : ℕ) (reply : ReplyValue)
    → ((client : Feed) (before : Sink) (s : State) → before.failures < 2 ^ 64 - 1 → Represents client before (kept old) s → StepIsAnswered client before (kept new) s now (Drop n) reply)
    → (IsDeclined (step.Drop n) reply → new ≡ old) → StepReplies old (step.Drop n) reply → EndsBehind (kept_lacks (slice_get old.requests n)) old new reply → (IsAnswered reply → LetsGo n old new) → Moves false old new → ReportsNoFault reply → TakesStep old new now (step.Drop n) reply
takes-drop old new now n reply answers declined replies ends leaves moves none =
    takes old new now (step.Drop n) reply
    (λ client before s asked low is st. step-drop {D = Option Feed} (λ f. f) client before (kept new) s (now, asked) (step.Drop n) n reply refl is (answers client before s low st))
    declined replies ends leaves (moves-kept (step.Drop n) reply old new (λ sent. refl) moves) (λ kind e. absurd (none kind e)) tt (λ ask. ask)

pub takes-read : {R W : Type 0} (old new : ConnectionState R W) (now : HttpDate) (n m : ℕ) (reply : ReplyValue)
    → ((client : Feed) (before : Sink) (s : State) → Represents client before (kept old) s → StepIsAnswered client before (kept new) s now (Read n m) reply)
    → (IsDeclined (step.Read n m) reply → new ≡ old) → new.end ≡ old.end → StepLeaves (step.Read n m) now old new reply → Moves false old new → TakesStep old new now (step.Read n m) reply
takes-read old new now n m reply answers declined ends leaves moves =
    takes old new now (step.Read n m) reply
    (λ client before s asked low is st. step-read {D = Option Feed} (λ f. f) client before (kept new) s (now, asked) (step.Read n m) n m reply refl is (answers client before s st))
    declined tt ends leaves (moves-kept (step.Read n m) reply old new (λ sent. refl) moves) (λ kind e. tt) tt (λ ask. ask)

pub takes-respond : {R W D : Type 0} (feed : D → Option Feed) (all : Bool) (old new : ConnectionState R W) (now : HttpDate) (n : ℕ) (r : ResponseState D) (reply : ReplyValue)
    → ((client : Feed) (before : Sink) (s : State) (value : ResponseValue) → before.failures < 2 ^ 64 - 1 → IsResponse feed r value → Represents client before (kept old) s → StepIsAnswered client before (kept new) s now (Respond n value) reply)
    → (IsDeclined (step.Respond n (stated_response feed r)) reply → new ≡ old) → StepReplies old (step.Respond n (stated_response feed r)) reply → RespondEnds n r.answer.closes old new reply → AnswerLeaves n r.answer old new reply → is_done reply ≡ all → Moves all old new → ((kind : ErrorKind) → reply ≡ Fault kind → ReportsFault old new now (step.Respond n (stated_response feed r)) kind)
    → RespondReports old new now n (stated_response feed r) reply → TakesStep old new now (step.Respond n (stated_response feed r)) reply
takes-respond feed all old new now n r reply answers declined replies ends leaves done moves honest tells =
    takes old new now (step.Respond n (stated_response feed r)) reply
    (λ client before s asked low is st. step-respond {D = Option Feed} (λ f. f) client before (kept new) s now (now, asked) (step.Respond n (stated_response feed r)) n (stated_response feed r) reply refl refl is (λ v h. answers client before s v low h st))
    declined replies ends leaves (moves-sent (step.Respond n (stated_response feed r)) reply all old new (λ sent. refl) done moves) honest tells (λ ask. ask)

pub takes-into_writer : {R W : Type 0} (old new : ConnectionState R W) (now : HttpDate) (n : ℕ) (reply : ReplyValue)
    → ((client : Feed) (before : Sink) (s : State) → before.failures < 2 ^ 64 - 1 → Represents client before (kept old) s → StepIsAnswered client before (kept new) s now (IntoWriter n) reply)
    → (IsDeclined (step.IntoWriter n) reply → new ≡ old) → StepReplies old (step.IntoWriter n) reply → EndsBehind (is_last_with_stream_at (slice_get old.requests n)) old new reply → StepLeaves (step.IntoWriter n) now old new reply → Moves false old new → ReportsNoFault reply → TakesStep old new now (step.IntoWriter n) reply
takes-into_writer old new now n reply answers declined replies ends leaves moves none =
    takes old new now (step.IntoWriter n) reply
    (λ client before s asked low is st. step-into_writer {D = Option Feed} (λ f. f) client before (kept new) s (now, asked) (step.IntoWriter n) n reply refl is (answers client before s low st))
    declined replies ends leaves (moves-kept (step.IntoWriter n) reply old new (λ sent. refl) moves) (λ kind e. absurd (none kind e)) tt (λ ask. ask)

pub takes-finish : {R W : Type 0} (old new : ConnectionState R W) (now : HttpDate) (n : ℕ) (reply : ReplyValue)
    → ((client : Feed) (before : Sink) (s : State) → before.failures < 2 ^ 64 - 1 → Represents client before (kept old) s → StepIsAnswered client before (kept new) s now (Finish n) reply)
    → (IsDeclined (step.Finish n) reply → new ≡ old) → StepReplies old (step.Finish n) reply → new.end ≡ old.end → StepLeaves (step.Finish n) now old new reply → Moves false old new → ReportsNoFault reply → TakesStep old new now (step.Finish n) reply
takes-finish old new now n reply answers declined replies ends leaves moves none =
    takes old new now (step.Finish n) reply
    (λ client before s asked low is st. step-finish {D = Option Feed} (λ f. f) client before (kept new) s (now, asked) (step.Finish n) n reply refl is (answers client before s low st))
    declined replies ends leaves (moves-kept (step.Finish n) reply old new (λ sent. refl) moves) (λ kind e. absurd (none kind e)) tt (λ ask. ask)

pub takes-flush : {R W : Type 0} (all : Bool) (old new : ConnectionState R W) (now : HttpDate) (n : ℕ) (reply : ReplyValue)
    → ((client : Feed) (before : Sink) (s : State) → before.failures < 2 ^ 64 - 1 → Represents client before (kept old) s → StepIsAnswered client before (kept new) s now (Flush n) reply)
    → (IsDeclined (step.Flush n) reply → new ≡ old) → StepReplies old (step.Flush n) reply → new.end ≡ old.end → StepLeaves (step.Flush n) now old new reply → is_done reply ≡ all → Moves all old new → ((kind : ErrorKind) → reply ≡ Fault kind → (new.outlet.ended ≡ true) × IsOfWriter (output_of old.outlet) (output_of new.outlet) kind)
    → ReportsOfWriter (output_of old.outlet) (output_of new.outlet) reply → TakesStep old new now (step.Flush n) reply
takes-flush all old new now n reply answers declined replies ends leaves done moves honest tells =
    takes old new now (step.Flush n) reply
    (λ client before s asked low is st. step-flush {D = Option Feed} (λ f. f) client before (kept new) s (now, asked) (step.Flush n) n reply refl is (answers client before s low st))
    declined replies ends leaves (moves-sent (step.Flush n) reply all old new (λ sent. refl) done moves) honest tells (λ ask. ask)

-- a Write that wasn't done leaves what is sent on as it was; of one that was nothing is said
pub takes-write : {R W : Type 0} (old new : ConnectionState R W) (now : HttpDate) (n : ℕ) (v : Vec ℕ) (bytes : List ℕ) (reply : ReplyValue)
    → v.items ≡ bytes → ((client : Feed) (before : Sink) (s : State) → before.failures < 2 ^ 64 - 1 → Represents client before (kept old) s → StepIsAnswered client before (kept new) s now (Write n bytes) reply)
    → (IsDeclined (step.Write n v) reply → new ≡ old) → StepReplies old (step.Write n v) reply → new.end ≡ old.end → StepLeaves (step.Write n v) now old new reply → new.profile ≡ old.profile → GoesOn old.source.feed new.source.feed
    → FailsOnce old.outlet new.outlet → (is_done reply ≡ false → new.outlet ≡ old.outlet) → ((kind : ErrorKind) → reply ≡ Fault kind → (new.outlet.ended ≡ true) × IsOfWriter (output_of old.outlet) (output_of new.outlet) kind)
    → ReportsOfWriter (output_of old.outlet) (output_of new.outlet) reply → TakesStep old new now (step.Write n v) reply
takes-write {W = W} old new now n v bytes reply same answers declined replies ends leaves profile_is goes once still honest tells =
    takes old new now (step.Write n v) reply
    (λ client before s asked low is st.
    let P : List ℕ → Type 0 = λ l. StepIsAnswered client before (kept new) s now (Write n l) reply in
    step-write {D = Option Feed} (λ f. f) client before (kept new) s (now, asked) (step.Write n v) n v reply refl is (subst P (sym same) (answers client before s low st)))
    declined replies ends leaves (record {
      profile = profile_is;
      goes_on = goes;
      fails_once = once;
      flushed = λ sent was e. let h = apart sent (is_done reply) refl e in ap (λ (o : OutletState W). o.held) (still h.1) ∙ was h.0;
      sent_on = λ sent was e. let h = apart sent (is_done reply) refl e in subst (λ (o : OutletState W). SentOn o) (sym (still h.1)) (was h.0);
    }) honest tells (λ ask. ask)
  where
    apart : (sent done : Bool) → is_done reply ≡ done → (sent && not done) ≡ true → (sent ≡ true) × (is_done reply ≡ false)
    apart true false d e = (refl, d)
    apart true true d e = cc
    apart false true d e = cc
    apart false false d e = cc

pub takes-upgrade : {R W D : Type 0} (feed : D → Option Feed) (all : Bool) (old new : ConnectionState R W) (now : HttpDate) (n : ℕ) (p : String Global) (r : ResponseState D) (reply : ReplyValue)
    → ((client : Feed) (before : Sink) (s : State) (value : ResponseValue) → before.failures < 2 ^ 64 - 1 → value.answer ≡ r.answer → Represents client before (kept old) s → StepIsAnswered client before (kept new) s now (Upgrade n (string_bytes p) value) reply)
    → (IsDeclined (step.Upgrade n p (stated_response feed r)) reply → new ≡ old) → StepReplies old (step.Upgrade n p (stated_response feed r)) reply → UpgradeEnds n old new reply → UpgradeLeaves n (string_bytes p) r.answer.status old new reply → is_done reply ≡ all → Moves all old new → ReportsNoFault reply → TakesStep old new now (step.Upgrade n p (stated_response feed r)) reply
takes-upgrade feed all old new now n p r reply answers declined replies ends leaves done moves none =
    takes old new now (step.Upgrade n p (stated_response feed r)) reply
    (λ client before s asked low is st. step-upgrade {D = Option Feed} (λ f. f) client before (kept new) s (now, asked) (step.Upgrade n p (stated_response feed r)) n p (stated_response feed r) reply refl is (λ v same. answers client before s v low same st))
    declined replies ends leaves (moves-sent (step.Upgrade n p (stated_response feed r)) reply all old new (λ sent. refl) done moves) (λ kind e. absurd (none kind e)) tt (λ ask. ask)

-- a step that drops a request
pub drops-by : {R W : Type 0} (n : ℕ) (w : OpenRequest UnreadBody) (old new : ConnectionState R W) (now : HttpDate) → slice_get old.requests n ≡ Some (Some (still.Waiting w))
    → ((client : Feed) (before : Sink) (s : State) (asked : StepValue) (reply : ReplyValue)
    → ((was : Reached) (by : HandedOut) (r : Request) (given : ℕ) (end_reported : Bool) → IsKeptOf w r given end_reported → slice_get was.slots n ≡ Some (open_slot by r given end_reported) → outcome true now was asked ≡ ends_asking (ends_when_finished r by.owed given end_reported) (changes was n (dropped by r given end_reported) reply (use_in_turn (turn_has_come n was.slots))))
    → before.failures < 2 ^ 64 - 1 → Represents client before (kept old) s → StepIsAnswered client before (kept new) s now asked reply)
    → new.end ≡ ends_behind (kept_lacks (slice_get old.requests n)) old.end → LetsGo n old new → Moves false old new → (x : Step (Option Feed)) (reply : ReplyValue) → IsDropping old.requests n x reply → TakesStep old new now x reply
drops-by n w old new now kept answers ends leaves moves = by
  where
    waits : is_waiting old n ≡ true
    waits = ap (λ o. is_some (waiting_response_context o)) kept

    by : (x : Step (Option Feed)) (reply : ReplyValue) → IsDropping old.requests n x reply → TakesStep old new now x reply
    by step.Ask reply is = elim is [ ]
    by (step.AsReader k) reply is = elim is [ ]
    by (step.Read k m) reply is = elim is [ ]
    by (step.Respond k r) (Handed a b c) is = elim is [ ]
    by (step.Respond k r) Ended is = elim is [ ]
    by (step.Respond k r) (Given b) is = elim is [ ]
    by (step.Respond k r) (Fault kind) is = elim is [ ]
    by (step.Respond k r) NotYet is = elim is [ ]
    by (step.Respond k r) Done is = elim is [ ]
    by (step.Respond k r) Refused is =
        let T : ℕ → Type 0 = λ m. TakesStep old new now (step.Respond m r) Refused in
        let refused = ap (refuses_at r.answer.status) (sym kept) ∙ is.1 in
        subst T (sym is.0) (takes-respond {D = Option Feed} (λ f. f) false old new now n r Refused
        (λ client before s v low same st.
        let A : Answer → Type 0 = λ a. refuses_code w.by_standard w.is_connect a.status ≡ true in
        answers client before s (Respond n v) Refused (at-unanswerable now n v w (subst A (sym same.0) refused)) low st) (λ no. elim no [ ]) (replied-refused _ _ _ waits is.1) ends (leaves, is.1) refl moves (λ kind e. cc) tt)
    by (step.Respond k r) NoSuch is = elim is [ ]
    by (step.Respond k r) Memory is = elim is [ ]
    by (step.IntoWriter k) reply is = elim is [ ]
    by (step.Write k v) reply is = elim is [ ]
    by (step.Flush k) reply is = elim is [ ]
    by (step.Finish k) reply is = elim is [ ]
    by (step.Drop k) (Handed a b c) is = elim is [ ]
    by (step.Drop k) Ended is = elim is [ ]
    by (step.Drop k) (Given b) is = elim is [ ]
    by (step.Drop k) (Fault kind) is = elim is [ ]
    by (step.Drop k) NotYet is = elim is [ ]
    by (step.Drop k) Done is =
        let T : ℕ → Type 0 = λ m. TakesStep old new now (step.Drop m) Done in
        subst T (sym is) (takes-drop old new now n Done (λ client before s low st. answers client before s (Drop n) Done (λ was by r given end_reported same. at-drop now n was by r given end_reported) low st) (λ no. elim no [ ]) (replied-done _ _ _ Done waits refl refl tt) ends (λ done. leaves) moves (λ kind e. cc))
    by (step.Drop k) Refused is = elim is [ ]
    by (step.Drop k) NoSuch is = elim is [ ]
    by (step.Drop k) Memory is = elim is [ ]
    by (step.Upgrade k p r) (Handed a b c) is = elim is [ ]
    by (step.Upgrade k p r) Ended is = elim is [ ]
    by (step.Upgrade k p r) (Given b) is = elim is [ ]
    by (step.Upgrade k p r) (Fault kind) is = elim is [ ]
    by (step.Upgrade k p r) NotYet is = elim is [ ]
    by (step.Upgrade k p r) Done is = elim is [ ]
    by (step.Upgrade k p r) Refused is =
        let T : ℕ → Type 0 = λ m. TakesStep old new now (step.Upgrade m p r) Refused in
        let refused = ap (refuses_upgrade_at (string_bytes p) r.answer.status) (sym kept) ∙ is.1 in
        subst T (sym is.0) (takes-upgrade {D = Option Feed} (λ f. f) false old new now n p r Refused (λ client before s v low same st.
        let A : Answer → Type 0 = λ a. is_err (request_check w (string_bytes p) a.status (is_whole w.body)) ≡ true in
        answers client before s (Upgrade n (string_bytes p) v) Refused (at-refused now n (string_bytes p) v w (subst A (sym same) refused)) low st) (λ no. elim no [ ]) (replied-refused _ _ _ waits is.1) ends (leaves, is.1) refl moves (λ kind e. cc))
    by (step.Upgrade k p r) NoSuch is = elim is [ ]
    by (step.Upgrade k p r) Memory is = elim is [ ]

-- a connection at its begin
pub begins : {R W : Type 0} (client : Feed) (before : Sink) (writer : W) (c : ConnectionState R W) → c.marks ≡ [] → c.requests ≡ [] → c.source.input_state ≡ place.Head → c.end ≡ None → c.source.feed ≡ Some client → c.source.stop ≡ None
    → c.outlet ≡ record { held = []; ended = false; writer = writer; sink = before } → IsFresh before → HasDone c.profile client before c [] []
begins {W = W} client before writer c m r o e feed stop outlet fresh =
    let K : List Mark → List (Option Unfinished) → InputState → Option EndOfRequests → Option Stop → OutletState W → Kept = λ m r o e s w.
    record { profile = c.profile; marks = m; requests = r; input_state = o; asking_ended = is_some e; feed = c.source.feed; stop = s; is_over = c.source.is_over; sink = output_of w; output_ended = w.ended } in
    let has = has-pipeline c.profile client in
    let S : Kept → Type 0 = λ k. Represents client before k (start_state has.0) in
    let none : OutletState W = record { held = []; ended = false; writer = writer; sink = before } in
    let st = represents-begun c.profile client c.source.feed c.source.is_over before has.0 feed fresh has.1 in
    let st1 = subst (λ w. S (K [] [] place.Head None None w)) (sym outlet) st in
    let st2 = subst (λ s. S (K [] [] place.Head None s c.outlet)) (sym stop) st1 in
    let st3 = subst (λ x. S (K [] [] place.Head x c.source.stop c.outlet)) (sym e) st2 in
    let st4 = subst (λ x. S (K [] [] x c.end c.source.stop c.outlet)) (sym o) st3 in
    let st5 = subst (λ x. S (K [] x c.source.input_state c.end c.source.stop c.outlet)) (sym r) st4 in
    let st6 = subst (λ x. S (K x c.requests c.source.input_state c.end c.source.stop c.outlet)) (sym m) st5 in
    record { profile = refl; fresh = fresh; items = has.0; pipeline = has.1; at = start_state has.0; run = refl; represents = st6; memory = λ vain. elim vain [ ] }

pub honest-more : (mid ended : Bool) (a b c : Sink) (x : Answer) (feed : Option Feed) (p : Printing) (kind : ErrorKind) → mid ≡ true → FailsOnceUnlessEnded mid b c ended → c.last_kind ≡ b.last_kind → IsHonest a b x feed p kind → IsHonest a c x feed p kind
honest-more true ended a b c x feed p kind e k last (inl h) = let K : Option ErrorKind → Type 0 = λ y. StatesKind y kind in inl (k.0 ∙ h.0, λ low. subst K (sym last) (h.1 low))
honest-more true ended a b c x feed p kind e k last (inr h) = inr h
honest-more false ended a b c x feed p kind e k last h = let no : false ≡ true = e in cc

-- an output that has ended stays so
pub stays-ended : (was ended : Bool) (b c : Sink) → was ≡ true → FailsOnceUnlessEnded was b c ended → ended ≡ true
stays-ended true ended b c e k = k.1
stays-ended false ended b c e k = let no : false ≡ true = e in cc

-- what ends a number is sent in its turn
pub sends-in_turn : {R W : Type 0} (k : ℕ) (old new : ConnectionState R W) → (slice_get old.marks k ≡ Some Open → is_in_turn old k ≡ true → (new.outlet.held ≡ []) × SentOn new.outlet) → (is_in_turn old k ≡ false → new.outlet ≡ old.outlet) → SendsInTurn k old new
sends-in_turn k old new sends waits = (λ can. (let h = both (slice_get old.marks k) (is_in_turn old k) can in sends h.0 h.1), waits)
  where
    both : (o : Option Mark) (b : Bool) → (is_open_mark o && b) ≡ true → (o ≡ Some Open) × (b ≡ true)
    both None b e = cc
    both (Some Open) b e = (refl, e)
    both (Some Held) b e = cc
    both (Some (Left text)) b e = cc
    both (Some Finished) b e = cc

-- what an answer tells of a failure of the writer, before the texts behind it are sent
abbrev pub AnswerTells : Sink → Sink → Bool → ReplyValue → Answer → Option Feed → Printing → Type 0
AnswerTells old mid ended reply x feed p = (mid.failures ≡ old.failures) ⊎ ((kind : ErrorKind) × (reply ≡ fault_reply kind) × (ended ≡ true) × IsHonest old mid x feed p kind)

-- and behind them
pub answer-tells : {W : Type 0} (old : Sink) (mid new : OutletState W) (reply : ReplyValue) (left : Bool) (x : Answer) (feed : Option Feed) (p : Printing) (Own : Type 0)
    → AnswerTells old (output_of mid) mid.ended reply x feed p → FailsOnce mid new → (mid.ended ≡ true → (output_of new).last_kind ≡ (output_of mid).last_kind) → (left ≡ false → new ≡ mid) → (mid.ended ≡ false → Own)
    → ((output_of new).failures ≡ old.failures) ⊎ ((kind : ErrorKind) × (reply ≡ fault_reply kind) × (new.ended ≡ true) × IsHonest old (output_of new) x feed p kind) ⊎ ((left ≡ true) × Own)
answer-tells old mid new reply left x feed p Own (inr h) once last idle own = inr (inl (h.0, h.1, stays-ended mid.ended new.ended (output_of mid) (output_of new) h.2 once, honest-more mid.ended new.ended old (output_of mid) (output_of new) x feed p h.0 h.2 once (last h.2) h.3))
answer-tells {W = W} old mid new reply left x feed p Own (inl same) once last idle own = by mid.ended refl left refl
  where
    Tells : Type 0
    Tells = ((output_of new).failures ≡ old.failures) ⊎ ((kind : ErrorKind) × (reply ≡ fault_reply kind) × (new.ended ≡ true) × IsHonest old (output_of new) x feed p kind) ⊎ ((left ≡ true) × Own)

    by : (t : Bool) → mid.ended ≡ t → (u : Bool) → left ≡ u → Tells
    by true e u f = let F : Bool → Type 0 = λ y. FailsOnceUnlessEnded y (output_of mid) (output_of new) new.ended in inl ((subst F e once).0 ∙ same)
    by false e true f = inr (inr (f, own e))
    by false e false f = inl (ap (λ (o : OutletState W). (output_of o).failures) (idle f) ∙ same)

-- an answer that is reported as sent was flushed
pub answer-sent_on : (old mid new : Sink) (ended : Bool) (reply : ReplyValue) (x : Answer) (content : Feed) (p : Printing) (taken : List ℕ) → ended ≡ false → Answers old mid ended reply x content p → old.taken ≡ Some taken → IsFront mid.sent new.sent → IsFront (taken ++ (text_of x content p).bytes) new.sent
answer-sent_on old mid new ended reply x content p taken goes a known keeps = by a.0 a.2
  where
    by : (r : Result (Unit {0}) Error) → Sends old mid ended r x content p → IsFront (taken ++ (text_of x content p).bytes) new.sent
    by (Ok u) (inl s) =
        let A : Option (List ℕ) → Type 0 = λ y. IsAllKnown mid.sent y in
        let F : List ℕ → Type 0 = λ y. IsFront y new.sent in
        let text = (text_of x content p).bytes in
        let all = subst A (s.1.bytes ∙ ap (λ y. append_known y text) known) (a.3 s.3) in
        subst F all keeps
    by (Ok u) (inr s) = let no : Broken OutOfMemory ≡ Whole = s.1.0 in cc
    by (Err e) (inl s) = let no : true ≡ false = sym s.0 ∙ goes in cc
    by (Err e) (inr s) = let no : true ≡ false = sym s.1.0 ∙ goes in cc

-- a step, and what it is in place of its data
is-stated : {D : Type 0} (feed : D → Option Feed) (x : Step D) (asked : StepValue) → IsStep feed x asked → IsStep (λ f. f) (stated_step feed x) asked
is-stated feed step.Ask asked h = subst (λ y. (let a : Step (Option Feed) = step.Ask in IsStep (λ f. f) a y)) (sym (is-ask feed asked h)) tt
is-stated feed (step.AsReader k) asked h = subst (λ y. (let a : Step (Option Feed) = step.AsReader k in IsStep (λ f. f) a y)) (sym (is-send_continue feed k asked h)) refl
is-stated feed (step.Read k n) asked h = subst (λ y. (let a : Step (Option Feed) = step.Read k n in IsStep (λ f. f) a y)) (sym (is-read feed k n asked h)) (refl, refl)
is-stated feed (step.Respond k r) asked h =
    let s = is-respond feed k r asked h in
    subst (λ y. IsStep (λ f. f) (step.Respond k (stated_response feed r)) y) (sym s.is) (refl, s.response)
is-stated feed (step.IntoWriter k) asked h = subst (λ y. (let a : Step (Option Feed) = step.IntoWriter k in IsStep (λ f. f) a y)) (sym (is-into_writer feed k asked h)) refl
is-stated feed (step.Write k v) asked h = subst (λ y. (let a : Step (Option Feed) = step.Write k v in IsStep (λ f. f) a y)) (sym (is-write feed k v asked h)) (refl, refl)
is-stated feed (step.Flush k) asked h = subst (λ y. (let a : Step (Option Feed) = step.Flush k in IsStep (λ f. f) a y)) (sym (is-flush feed k asked h)) refl
is-stated feed (step.Upgrade k p r) asked h =
    let s = is-upgrade feed k p r asked h in
    subst (λ y. IsStep (λ f. f) (step.Upgrade k p (stated_response feed r)) y) (sym s.is) (refl, refl, s.answer)
is-stated feed (step.Finish k) asked h = subst (λ y. (let a : Step (Option Feed) = step.Finish k in IsStep (λ f. f) a y)) (sym (is-finish feed k asked h)) refl
is-stated feed (step.Drop k) asked h = subst (λ y. (let a : Step (Option Feed) = step.Drop k in IsStep (λ f. f) a y)) (sym (is-drop feed k asked h)) refl

pub done-none : {R W X : Type 0} (stated : X → TimedValue → Type 0) (p : Profile) (client : Feed) (before : Sink) (c : ConnectionState R W) (dated : List TimedValue) → HasDone p client before c [] [] → AllZip stated [] dated → HasDone p client before c dated []
done-none stated p client before c [] h t = h
done-none stated p client before c (d ∷ ds) h t = elim t [ ]

pub done-step : {R W D : Type 0} (feed : D → Option Feed) (p : Profile) (client : Feed) (before : Sink) (old new : ConnectionState R W) (t : Timed D) (done : List (Timed D)) (replies : List ReplyValue) (reply : ReplyValue) (dated : List TimedValue)
    → ((ds : List TimedValue) → AllZip (IsTimedStep feed) done ds → HasDone p client before old ds replies) → TakesStep old new t.now (stated_step feed t.step) reply → AllZip (IsTimedStep feed) (done ++ t ∷ []) dated
    → HasDone p client before new dated (replies ++ reply ∷ [])
done-step feed p client before old new t done replies reply dated has step stated =
    let s = split (IsTimedStep feed) done t dated stated in
    let more = step.does p client before s.front replies s.last.1 (is-stated feed t.step s.last.1 s.one.1) (has s.front s.all) in
    let H : List TimedValue → Type 0 = λ ds. HasDone p client before new ds (replies ++ reply ∷ []) in
    subst H (sym s.joins) (subst (λ (x : HttpDate). H (s.front ++ (x, s.last.1) ∷ [])) (sym s.one.0) more)
