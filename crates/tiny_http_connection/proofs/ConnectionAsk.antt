-- An Ask: from where the connection stands to where it stands after it.
use Rattle.std.proofs.Common.{◌≡◌, refl, sym, ap, ◌∙◌, subst, ℕ, ◌-◌, ◌<◌, ◌^◌, inl, inr, Bool, true, false, not, ◌&&◌, List, [], ◌∷◌, ◌++◌, length, Option, Some, None, Ok, append-nil, arith, eq-eqb, ⊎_elim}
use Rattle.std.proofs.Math.Bool.{or-true}
use Rattle.std.proofs.lemmas.Bool.{ne_eqb}
use Rattle.std.proofs.lemmas.List.{take_all}
use Rattle.std.specs.Prelude.{◌==◌, if◌then◌else◌}
use Rattle.std.specs.Global.{Vec}
use Rattle.std.specs.List.{list_all}
use Rattle.std.specs.Option.{option_map}
use Rattle.httpdate.specs.declared.date.HttpDate.{HttpDate}
use Rattle.tiny_http_head.specs.declared.common.HTTPVersion.{HTTPVersion}
use Rattle.tiny_http_io.specs.declared.device.Stop.{Stop}
use Rattle.tiny_http_io.specs.Device.{Feed, Sink}
use Rattle.tiny_http_io.specs.declared.device.Stop.TheVariants.{End}
use Rattle.tiny_http_response.specs.Answer.{text_of}
use Rattle.tiny_http_head.specs.Heads.{version}
use Rattle.tiny_http_open_request.specs.declared.exchange.Exchange.{Exchange}
use Rattle.tiny_http_body.specs.declared.body.UnreadBody.{UnreadBody}
use Rattle.tiny_http_body.specs.declared.body.UnreadBody.TheVariants as body
use Rattle.tiny_http_open_request.specs.declared.exchange.HeadRead.TheVariants as read
use Rattle.tiny_http_response.specs.declared.response_context.ResponseContext.{ResponseContext}
use Rattle.tiny_http_response.specs.declared.coding.Coding.{Coding}
use Rattle.tiny_http_standard_head.specs.Validation.{names_protocol}
use Rattle.tiny_http_open_request.specs.OpenRequest.{coding_for}
use Rattle.tiny_http_open_request.specs.declared.open_request.OpenRequest.{OpenRequest}
use Rattle.tiny_http_connection.specs.declared.pending.Unfinished.{Unfinished}
use Rattle.tiny_http_connection.specs.declared.pending.Unfinished.TheVariants as still
use Rattle.tiny_http_body.specs.declared.framing.Profile.{Profile}
use Rattle.tiny_http_body.specs.declared.framing.Form.TheVariants.{Rest}
use Rattle.tiny_http_head.specs.Heads.{version, is_too_new}
use Rattle.tiny_http_io.specs.Source.{GoesOn}
use Rattle.tiny_http_open_request.specs.Pipeline.{Manner, plainly, Item, Asks, Refuses, VersionNotSupported, Refusal, Request, Place, Heading, HeadAt, Silence, Refused, Heads, OneHead, FoundAt, ends_too_new, is_head_method, Pipeline, place_after, place_feed}
use Rattle.tiny_http_open_request.specs.HeadReads.{ReadsHead, HasByteOrTimedOut, IsBeforeHead, input_state_of, request_of, head_message, head_framing}
use Rattle.tiny_http_open_request.specs.declared.exchange.EndOfRequests.{EndOfRequests}
use Rattle.tiny_http_io.specs.declared.source.InputState.{InputState}
use Rattle.tiny_http_io.specs.declared.source.InputState.TheVariants as in_place
use Rattle.tiny_http_head.specs.declared.common.StatusCode.{StatusCode}
use Rattle.tiny_http_open_request.specs.Exchange.{KeepsRequest}
use Rattle.tiny_http_body.specs.Body.{Remaining, remaining, taken_remaining, is_streaming}
use Rattle.tiny_http_connection.specs.Segments.{Slot, is_finished, is_broken, is_slot_broken, segment}
use Rattle.tiny_http_connection.specs.Slots.{turn_has_come, closes_now, new_slot, is_chunked_form, last_slot, last_is_open, last_is_holding, last_holds_reader, last_was_abandoned, is_last_slot}
use Rattle.tiny_http_open_request.specs.ErrorResponse.{persistence_of, refusal_response, refused_text}
use Rattle.tiny_http_response.specs.declared.response_context.Persistence.{Persistence}
use Rattle.tiny_http_connection.specs.Steps.{StepValue, Ask, ReplyValue, Handed, Ended, NotYet, Memory}
use Rattle.tiny_http_connection.specs.Outcomes.{Unused, Unreported, Outcome, Reached, unchanged, ask, asks_from, outcome}
use Rattle.tiny_http_connection.specs.Conversation.{Failure, State, PlaceAt, BeginsBehind, WriterPart, flushed_after, HasOutcome, StepsTo}
use Rattle.tiny_http_connection.proofs.ConversationWriting.{unreported, flushed-is}
use Rattle.tiny_http_response.specs.Sending.{IsFlushed, SendsUnlessEnded}
use Rattle.tiny_http_turns.specs.Turns.{Mark, Open, Left, Finished, AreInShape, first_unfinished}
use Rattle.tiny_http_connection.specs.Pending.{LeavesText, last_holds_next_head, last_body, is_streaming_body}
use Rattle.tiny_http_connection.specs.Connection.{Kept, dropped, IsWaiting, AreKept, OutputAt, behind_body, GivesRest, InputEnded, is_past_last, is_in_body, BeginsMore, BeginsBehindAt, PlaceIn, NextHead, InputMatches, Represents, HandedOut, FollowsLast}
use Rattle.tiny_http_io.proofs.SourceGoesOn.{goes-on_more}
use Rattle.tiny_http_open_request.proofs.PipelineLemmas.{pipeline-first, pipeline-none, heads-rest_last, empty-pipeline}
use Rattle.tiny_http_connection.proofs.ConnectionReader.{LastKept, last-kept, last-awaits, last-awaits-none, last-snoc, body-snoc, settled-snoc, and-false, held-by, behind-settled, gives-settled}
use Rattle.tiny_http_open_request.proofs.ErrorResponseLemmas.{own-whole, refusal-whole}
use Rattle.tiny_http_connection.proofs.SlotsLemmas.{joined-waits, joined-hidden, breaks-waits, breaks-hidden}
use Rattle.tiny_http_connection.proofs.ConnectionKept.{kept-append, kept-length, shape-issued, InTurn, OutOfTurn, turn-at}
use Rattle.tiny_http_connection.proofs.ConnectionOutput.{ended-is, output-same, Goes, more-behind, output-more}
use Rattle.tiny_http_connection.proofs.ConnectionTurns.{turn-more}
use Rattle.tiny_http_connection.proofs.PendingLemmas.{first-issued}

-- the step was answered so
abbrev pub StepIsAnswered : Feed → Sink → Kept → State → HttpDate → StepValue → ReplyValue → Type 0
StepIsAnswered client before k s date step reply = (new : State) × Represents client before k new × StepsTo s date step reply new

-- where no memory was found for a head, and no item is left, a byte of a further head comes behind them all
abbrev pub FoundHead : Feed → Profile → ReplyValue → State → Type 0
FoundHead client p Memory new = new.reached.rest ≡ [] → BeginsMore p client
FoundHead client p _ new = Unit {0}

-- the same of an Ask
abbrev pub AskIsAnswered : Feed → Sink → Kept → State → HttpDate → ReplyValue → Type 0
AskIsAnswered client before k s date reply = (new : State) × Represents client before k new × StepsTo s date Ask reply new × FoundHead client k.profile reply new

-- A step that changes nothing.
pub step-unchanged : (client : Feed) (before : Sink) (k : Kept) (s : State) (date : HttpDate) (step : StepValue) (reply : ReplyValue) → Represents client before k s → outcome true date s.reached step ≡ unchanged s.reached reply
    → StepIsAnswered client before k s date step reply
step-unchanged client before k s date step reply h e =
    let P : Outcome → Type 0 = λ o. HasOutcome o s reply s in
    (s, h, inl (true, tt, subst P (sym e) (refl, refl, (refl, refl))))

-- what an Ask comes to
ask-ends : (date : HttpDate) (old : Reached) → old.asking_ended ≡ true → ask date old ≡ unchanged old Ended
ask-ends date old e = rw e refl

ask-held : (date : HttpDate) (old : Reached) → old.asking_ended ≡ false → last_holds_reader (last_slot old.slots) ≡ true → ask date old ≡ unchanged old NotYet
ask-held date old e h = rw (e, h) refl

ask-lost : (date : HttpDate) (old : Reached) → old.asking_ended ≡ false → last_holds_reader (last_slot old.slots) ≡ false → last_was_abandoned (last_slot old.slots) ≡ true
    → ask date old ≡ record { reply = Ended; slots = old.slots; rest = old.rest; asking_ended = true; writer = Unused }
ask-lost date old e h l = rw (e, h, l) refl

pub ask-goes : (date : HttpDate) (old : Reached) → old.asking_ended ≡ false → last_holds_reader (last_slot old.slots) ≡ false → last_was_abandoned (last_slot old.slots) ≡ false
    → ask date old ≡ asks_from date Unused old.slots old.rest
ask-goes date old e h l = rw (e, h, l) refl

-- the request is framed by its head
record IsFramed (profile : Profile) (r : Request) : Type 0 where
  pub framed : r.framing.form ≡ Rest → r.framing.is_last ≡ true

found-framed : (profile : Profile) (bytes : List ℕ) (stop : Stop) (heading : Heading) (r : Request) (next : Place) → HeadAt profile bytes stop heading → FoundAt stop heading (Some (Asks r)) next → IsFramed profile r
found-framed profile bytes stop Silence r next at h = let no : Some (Asks r) ≡ None = h.0 in cc
found-framed profile bytes stop (Refused refusal v) r next at h = let no : Some (Asks r) ≡ Some (Refuses refusal v false true) = h.0 in cc
found-framed profile bytes stop (Heads m f after) r next at h = by-version (is_too_new m.version) refl
  where
    by-version : (t : Bool) → is_too_new m.version ≡ t → IsFramed profile r
    by-version true b = let no : Some (Asks r) ≡ Some (Refuses VersionNotSupported (plainly (version 1 1)) (is_head_method m.method) (ends_too_new f.form)) = h.3 ∙ rw b refl in cc
    by-version false b =
        let item : Some (Asks r) ≡ Some (Asks (record { message = m; framing = f; body = h.0; behind = place_feed stop h.1 })) = h.3 ∙ rw b refl in
        let same : r ≡ record { message = m; framing = f; body = h.0; behind = place_feed stop h.1 } = cc in
        subst (IsFramed profile) (sym same) (record { framed = heads-rest_last profile bytes stop m f after at })

one-head-framed : (profile : Profile) (bytes : List ℕ) (stop : Stop) (r : Request) (next : Place) → OneHead profile bytes stop (Some (Asks r)) next → IsFramed profile r
one-head-framed profile bytes stop r next h = found-framed profile bytes stop h.0 r next h.1 h.2

-- where the asking goes on the rest of the pipeline stands where the input does
pub record Going (client : Feed) (k : Kept) (s : State) : Type 0 where
  pub feed : Feed
  pub stated : k.feed ≡ Some feed
  pub unheld : last_holds_reader (last_slot s.reached.slots) ≡ false
  pub kept : last_was_abandoned (last_slot s.reached.slots) ≡ false
  pub pipeline : Pipeline k.profile (Some feed.bytes) feed.stop s.reached.rest
  pub begins : BeginsBehind k.profile (Some feed.bytes) feed.stop s.reached.rest → BeginsMore k.profile client

pub stated-feed : (client : Feed) (o : Option Feed) → GoesOn (Some client) o → (f : Feed) × (o ≡ Some f)
stated-feed client None h = absurd h
stated-feed client (Some f) h = (f, refl)

pub last-of : (client : Feed) (before : Sink) (k : Kept) (s : State) → Represents client before k s → LastKept (last_slot s.reached.slots) (last_body k.requests)
last-of client before k s h = last-kept s.reached.slots k.marks k.requests h.numbers

-- the last body isn't read from the input, and the next head waits for no answer
abbrev pub IsQuiet : List (Option Unfinished) → Type 0
IsQuiet us = (is_streaming_body (last_body us) ≡ false) × (last_holds_next_head us ≡ false)

unheld : (client : Feed) (before : Sink) (k : Kept) (s : State) → Represents client before k s → IsQuiet k.requests → last_holds_reader (last_slot s.reached.slots) ≡ false
unheld client before k s h quiet =
    held-by (last_slot s.reached.slots) (last_body k.requests) (last-of client before k s h)
    ∙ rw (quiet.0, and-false (not (is_last_slot (last_slot s.reached.slots))), last-awaits s.reached.slots k.marks k.requests h.numbers) quiet.1

pub going : (client : Feed) (before : Sink) (k : Kept) (s : State) → Represents client before k s → k.asking_ended ≡ false → is_past_last k.input_state ≡ false → IsQuiet k.requests → (InputEnded k → ⊥) → Going client k s
going client before k s h e o quiet open_input =
    let f = stated-feed client k.feed h.reader.source in
    let next = h.reader.next e in
    let kept : last_was_abandoned (last_slot s.reached.slots) ≡ false = by next (last_was_abandoned (last_slot s.reached.slots)) refl in
    let here : behind_body (last_body k.requests) k.feed ≡ Some f.0 = ap (behind_body (last_body k.requests)) f.1 ∙ behind-settled (last_slot s.reached.slots) (last_body k.requests) f.0 (last-of client before k s h) quiet.0 in
    let P : Bool → Type 0 = λ x. PlaceIn client k.profile x (behind_body (last_body k.requests) k.feed) s.reached.rest in
    let Q : Option Feed → Type 0 = λ x. PlaceIn client k.profile false x s.reached.rest in
    let place = subst Q here (subst P o (next.place kept)) in
    record { feed = f.0; stated = f.1; unheld = unheld client before k s h quiet; kept = kept; pipeline = place.0; begins = place.1 refl }
  where
    by : NextHead client k (last_slot s.reached.slots) s.reached.rest → (t : Bool) → last_was_abandoned (last_slot s.reached.slots) ≡ t → t ≡ false
    by next true z = absurd (open_input (next.lost z).0)
    by next false z = refl

-- the text of a dropped request
pub dropped-whole : (asked : HandedOut) (r : Request) (given : ℕ) (end_reported : Bool) → is_slot_broken (dropped asked r given end_reported) ≡ false
unfolding text_of
dropped-whole asked r given end_reported =
    ap is_broken (own-whole 500 (coding_for r.framing.by_standard r.message.headers) r.message.version (is_head_method r.message.method) (persistence_of r.framing.by_standard (closes_now r asked.closes asked.owed given end_reported)) asked.date)

-- the answer to a head that is refused
pub refused-whole : (refusal : Refusal) (date : HttpDate) (v : Manner) (no_body last : Bool) → is_slot_broken (new_slot date (Refuses refusal v no_body last)) ≡ false
refused-whole refusal date v no_body last = ap is_broken (refusal-whole refusal v no_body date)

pub refused-text : (refusal : Refusal) (date : HttpDate) (v : Manner) (no_body last : Bool) → segment (new_slot date (Refuses refusal v no_body last)) ≡ refused_text (refusal_response refusal) v no_body date
refused-text refusal date v no_body last = refl

-- a request that is handed out has sent nothing
abbrev pub handed_slot : HttpDate → Request → Slot
handed_slot date r = new_slot date (Asks r)

output-waiting : (before sink : Sink) (e : Bool) (slots : List Slot) (date : HttpDate) (r : Request) (flushed : List ℕ) (failure : Option Failure) → OutputAt before sink e slots flushed failure → OutputAt before sink e (slots ++ (handed_slot date r ∷ [])) flushed failure
output-waiting before sink e slots date r flushed failure h =
    let n = handed_slot date r in
    output-same before sink e slots (slots ++ (n ∷ [])) flushed failure (sym (joined-waits slots n [] refl refl)) (sym (breaks-waits slots n [] refl refl)) h

-- a body that isn't read from the input gives the same wherever that stands
pub settled-any : (b : UnreadBody) (p : Option Feed) (content behind : Feed) → remaining b p ≡ Some (record { body = content; behind = behind }) → is_streaming b ≡ false → (f : Feed) → remaining b (Some f) ≡ Some (taken_remaining content f)
settled-any (body.Over stop) None content behind h e f = cc
settled-any (body.Over stop) (Some g) content behind h e f = ap (λ (x : Option Remaining). option_map (λ (r : Remaining). taken_remaining r.body f) x) h
settled-any (body.WithHead bytes) None content behind h e f = cc
settled-any (body.WithHead bytes) (Some g) content behind h e f = ap (λ (x : Option Remaining). option_map (λ (r : Remaining). taken_remaining r.body f) x) h
settled-any (body.Counted left by_standard) p content behind h e f = cc
settled-any (body.Chunked d) p content behind h e f = cc
settled-any body.Rest p content behind h e f = cc

-- what is kept of it
kept-handed : (profile : Profile) (date : HttpDate) (x : Exchange) (p : Option Feed) (content behind : Feed) → KeepsRequest x date → remaining x.open_request.body p ≡ Some (record { body = content; behind = behind }) → IsFramed profile (request_of x.head content behind)
    → IsWaiting (handed_slot date (request_of x.head content behind)) x.open_request
kept-handed profile date x p content behind k left framed = record {
  request = request_of x.head content behind;
  handed = record { date = date; continued = None; owed = x.head.framing.owes_continue; closes = false };
  given = 0;
  end_reported = false;
  is = refl;
  owed = k.answer.owes_continue;
  holds = k.answer.holds_next_head;
  standard = k.answer.by_standard;
  connect = k.answer.is_connect;
  closes = k.answer.closes;
  upgrades = λ protocol. k.answer.upgrades protocol ∙ ap (λ b. b && names_protocol x.head.headers.items protocol) k.answer.holds_next_head;
  unsent = λ owed. refl;
  rest_is_last = framed.framed;
  response_context =
      let c = x.open_request.response_context in
      let F : HTTPVersion → Option Coding → Bool → Option Persistence → ResponseContext = λ v a b p. record { version = v; asked_coding = a; no_body = b; persistence = p } in
      ap (λ v. F v c.asked_coding c.no_body c.persistence) k.answer.version ∙ ap (λ a. F x.head.version a c.no_body c.persistence) k.answer.asked_coding
      ∙ ap (λ b. F x.head.version (coding_for x.head.framing.by_standard x.head.headers.items) b c.persistence) k.answer.no_body ∙ ap (F x.head.version (coding_for x.head.framing.by_standard x.head.headers.items) (is_head_method x.head.method)) k.answer.persistence;
  dropped = k.answer.dropped;
  fits = k.body;
  settled = settled-any x.open_request.body p content behind left;
}

pub no-items : (profile : Profile) (stop : Stop) (items : List Item) → Pipeline profile None stop items → items ≡ []
no-items profile stop [] h = refl
no-items profile stop (x ∷ xs) h = elim h [ ]

pub handed-place : (profile : Profile) (last : Bool) (stop : Stop) (next : Place) (more : List Item) → Pipeline profile (place_after last next) stop more → PlaceAt profile last (Some (place_feed stop next)) more
handed-place profile true stop next more items = no-items profile stop more items
handed-place profile false stop None more items = let P : List Item → Type 0 = λ x. Pipeline profile (Some []) End x in subst P (sym (no-items profile stop more items)) (empty-pipeline profile)
handed-place profile false stop (Some bytes) more items = items

-- the same, of the client's pipeline
pub handed-of : (client : Feed) (profile : Profile) (last : Bool) (stop : Stop) (next : Place) (more : List Item) → Pipeline profile (place_after last next) stop more → (BeginsBehind profile (place_after last next) stop more → BeginsMore profile client) → PlaceIn client profile last (Some (place_feed stop next)) more
handed-of client profile true stop next more items begins = (handed-place profile true stop next more items, λ no. cc)
handed-of client profile false stop None more items begins = (handed-place profile false stop None more items, λ open_is b. absurd (none more items b))
  where
    none : (xs : List Item) → Pipeline profile None stop xs → BeginsBehindAt profile (Some (place_feed stop None)) xs → ⊥
    none [] h (inl b) = b refl
    none [] h (inr b) = let no : false ≡ true = b.1 in cc
    none (x ∷ xs) h b = elim h [ ]
handed-of client profile false stop (Some bytes) more items begins = (handed-place profile false stop (Some bytes) more items, λ open_is b. begins b)

-- what begins behind the rest begins behind it and the head before it
pub begins-from : (client : Feed) (profile : Profile) (f : Feed) (item : Item) (next : Place) (rest more : List Item) → (BeginsBehind profile (Some f.bytes) f.stop rest → BeginsMore profile client) → rest ≡ item ∷ more → OneHead profile f.bytes f.stop (Some item) next → BeginsBehind profile next f.stop more → BeginsMore profile client
begins-from client profile f item next rest more begins is head b = let P : List Item → Type 0 = λ x. BeginsBehind profile (Some f.bytes) f.stop x in begins (subst P (sym is) (next, head, b))

-- the input as it stands now
abbrev pub with_input : Kept → Option Feed → Option Stop → Bool → InputState → Kept
with_input k p stop over at = record k { feed = p; stop = stop; is_over = over; input_state = at }

abbrev pub after_handed : Kept → OpenRequest UnreadBody → Option Feed → Option Stop → Bool → InputState → Kept
after_handed k w p stop over at = record k { marks = k.marks ++ (Open ∷ []); requests = k.requests ++ (Some (still.Waiting w) ∷ []); feed = p; stop = stop; is_over = over; input_state = at }

-- where the input stands after the head of a request
pub record StandsFor (r : Request) (w : OpenRequest UnreadBody) (at : InputState) : Type 0 where
  pub past : is_past_last at ≡ r.framing.is_last
  pub within : is_in_body at ≡ (not r.framing.is_last && is_streaming w.body)

pub represents-for : (x : Exchange) (content behind : Feed) (at : InputState) → at ≡ input_state_of x → StandsFor (request_of x.head content behind) x.open_request at
represents-for x content behind at e =
    let S : InputState → Type 0 = λ y. StandsFor (request_of x.head content behind) x.open_request y in
    subst S (sym e) (by x.head.framing.is_last (is_streaming x.open_request.body) refl refl)
  where
    by : (last streaming : Bool) → x.head.framing.is_last ≡ last → is_streaming x.open_request.body ≡ streaming → StandsFor (request_of x.head content behind) x.open_request (input_state_of x)
    by true streaming l t = record { past = rw l refl; within = rw l refl }
    by false true l t = record { past = rw (l, t) refl; within = rw (l, t) refl }
    by false false l t = record { past = rw (l, t) refl; within = rw (l, t) refl }

handed-reader : (client : Feed) (k : Kept) (slots : List Slot) (rest more : List Item) (date : HttpDate) (r : Request) (w : OpenRequest UnreadBody) (p : Option Feed) (stop : Option Stop) (over : Bool) (at : InputState) (close : Stop) (next : Place) → InputMatches client k slots rest → IsQuiet k.requests → r.behind ≡ place_feed close next
    → remaining w.body p ≡ Some (record { body = r.body; behind = place_feed close next }) → Pipeline k.profile (place_after r.framing.is_last next) close more → (BeginsBehind k.profile (place_after r.framing.is_last next) close more → BeginsMore k.profile client) → GoesOn (Some client) p → StandsFor r w at
    → InputMatches client (after_handed k w p stop over at) (slots ++ (handed_slot date r ∷ [])) more
handed-reader client k slots rest more date r w p stop over at close next old quiet after left items begins source represents =
    let x = handed_slot date r in
    let last : last_slot (slots ++ (x ∷ [])) ≡ Some x = last-snoc None slots x in
    let content : last_body (k.requests ++ (Some (still.Waiting w) ∷ [])) ≡ Some w.body = body-snoc k.requests (Some (still.Waiting w)) in
    let B : Option Remaining → Option Feed = λ o. option_map (λ (y : Remaining). y.body) o in
    let P : Option Slot → Option UnreadBody → Type 0 = λ o b. GivesRest b o p in
    let here : P (Some x) (Some w.body) = ap B left in
    let Q : Bool → Option UnreadBody → Type 0 = λ y b. PlaceIn client k.profile y (behind_body b p) more in
    let W : Option Slot → Option UnreadBody → Bool = λ o b. not (is_last_slot o) && is_streaming_body b in
    let F : Option Feed → Type 0 = λ o. PlaceIn client k.profile r.framing.is_last o more in
    let behind : behind_body (Some w.body) p ≡ Some (place_feed close next) = ap (λ (o : Option Remaining). option_map (λ (y : Remaining). y.behind) o) left in
    let L : Option Slot → Option UnreadBody → Type 0 = λ o b. FollowsLast b o p in
    let k2 : Kept = after_handed k w p stop over at in
    record {
      settled = settled-snoc k.requests (Some (still.Waiting w)) old.settled quiet;
      gives = subst (λ o. P o (last_body (k.requests ++ (Some (still.Waiting w) ∷ [])))) (sym last) (subst (λ b. P (Some x) b) (sym content) here);
      next = λ e. record {
        is_last = represents.past ∙ ap is_last_slot (sym last);
        within = represents.within ∙ ap (λ b. W (Some x) b) (sym content) ∙ ap (λ o. W o (last_body (k.requests ++ (Some (still.Waiting w) ∷ [])))) (sym last);
        lost = λ lost. (let no : true ≡ false = sym lost ∙ (ap last_was_abandoned last ∙ and-false (is_chunked_form r.framing.form)) in cc);
        place = λ e. subst (λ y. Q y (last_body (k.requests ++ (Some (still.Waiting w) ∷ [])))) (sym represents.past) (subst (λ y. Q r.framing.is_last y) (sym content) (subst F (sym behind) (handed-of client k.profile r.framing.is_last close next more items begins)));
      };
      follows = λ holds. subst (λ o. L o (last_body (k.requests ++ (Some (still.Waiting w) ∷ [])))) (sym last) (subst (λ b. L (Some x) b) (sym content) (behind ∙ ap Some (sym after)));
      source = source;
    }

pub ask-handed : (client : Feed) (before : Sink) (k : Kept) (s : State) (date : HttpDate) (x : Exchange) (from_here : InputState) (p : Option Feed) (stop : Option Stop) (over : Bool) (at : InputState) (n : ℕ) → Represents client before k s → k.asking_ended ≡ false → is_past_last k.input_state ≡ false → IsQuiet k.requests
    → (InputEnded k → ⊥) → ReadsHead k.profile from_here date k.feed p (Ok (read.Request x)) → GoesOn k.feed p → n ≡ length k.marks → AreInShape (k.marks ++ (Open ∷ [])) → at ≡ input_state_of x
    → StepIsAnswered client before (after_handed k x.open_request p stop over at) s date Ask (Handed n (head_message x.head) (head_framing x.head))
ask-handed client before k s date x from_here p stop over at n st e o quiet open_input reads goes number shape represents =
    let g = going client before k s st e o quiet open_input in
    let P : Option Feed → Type 0 = λ y. ReadsHead k.profile from_here date y p (Ok (read.Request x)) in
    let found = subst P g.stated reads in
    let h = x.head in
    let r = request_of h found.0 (place_feed g.feed.stop found.1) in
    let first = pipeline-first k.profile g.feed.bytes g.feed.stop (Asks r) (place_after h.framing.is_last found.1) s.reached.rest found.2 g.pipeline in
    let y = handed_slot date r in
    let slots = s.reached.slots ++ (y ∷ []) in
    let ends : s.reached.asking_ended ≡ false = st.asking_ended ∙ e in
    let F : List Item → Outcome = λ z. asks_from date Unused s.reached.slots z in
    let is : ask date s.reached ≡ asks_from date Unused s.reached.slots (Asks r ∷ first.0) = ask-goes date s.reached ends g.unheld g.kept ∙ ap F first.1 in
    let new : State = record { reached = record { slots = slots; rest = first.0; asking_ended = false }; flushed = s.flushed; failure = s.failure } in
    let G : Outcome → Type 0 = λ z. HasOutcome z s (Handed n (head_message h) (head_framing h)) new in
    let end_reported : n ≡ length s.reached.slots = number ∙ sym (kept-length s.reached.slots k.marks k.requests st.numbers) in
    let waits = kept-handed k.profile date x p found.0 (place_feed g.feed.stop found.1) found.4 found.3 (one-head-framed k.profile g.feed.bytes g.feed.stop r (place_after h.framing.is_last found.1) found.2) in (
      new,
      record {
        numbers = kept-append s.reached.slots k.marks k.requests (y ∷ []) (Open ∷ []) (Some (still.Waiting x.open_request) ∷ []) st.numbers (waits, tt);
        shape = shape;
        in_turn = turn-more s.reached.slots y st.in_turn (refl, λ z. refl);
        asking_ended = sym e;
        reader = handed-reader client k s.reached.slots s.reached.rest first.0 date r x.open_request p stop over at g.feed.stop found.1 st.reader quiet refl found.3 first.2 (begins-from client k.profile g.feed (Asks r) (place_after h.framing.is_last found.1) s.reached.rest first.0 g.begins first.1 found.2) (goes-on_more (Some client) k.feed p st.reader.source goes) (represents-for x found.0 (place_feed g.feed.stop found.1) at represents);
        output = output-waiting before k.sink k.output_ended s.reached.slots date r s.flushed s.failure st.output;
      },
      inl (true, tt, subst G (sym is) (refl, refl, (ap (λ z. Handed z (head_message h) (head_framing h)) end_reported, refl))),
    )

-- the body of the last request holds the reader
pub ask-not_yet : (client : Feed) (before : Sink) (k : Kept) (s : State) (date : HttpDate) → Represents client before k s → k.asking_ended ≡ false → k.input_state ≡ in_place.Body → StepIsAnswered client before k s date Ask NotYet
ask-not_yet client before k s date st e held =
    let slots = s.reached.slots in
    let within : (not (is_last_slot (last_slot slots)) && is_streaming_body (last_body k.requests)) ≡ true = sym (st.reader.next e).within ∙ ap is_in_body held in
    let is : last_holds_reader (last_slot slots) ≡ true = held-by (last_slot slots) (last_body k.requests) (last-of client before k s st) ∙ rw within refl in
    step-unchanged client before k s date Ask NotYet st (ask-held date s.reached (st.asking_ended ∙ e) is)

-- the next head waits for the answer to the last request
pub ask-waits : (client : Feed) (before : Sink) (k : Kept) (s : State) (date : HttpDate) → Represents client before k s → k.asking_ended ≡ false → last_holds_next_head k.requests ≡ true → StepIsAnswered client before k s date Ask NotYet
ask-waits client before k s date st e held =
    let slots = s.reached.slots in
    let awaits : last_is_holding (last_slot slots) ≡ true = last-awaits slots k.marks k.requests st.numbers ∙ held in
    let is : last_holds_reader (last_slot slots) ≡ true = rw awaits (or-true (not (is_last_slot (last_slot slots)) && last_is_open (last_slot slots))) in
    step-unchanged client before k s date Ask NotYet st (ask-held date s.reached (st.asking_ended ∙ e) is)

-- in front of a head the last body isn't read from the input, and the last head wasn't read
pub record BeforeHead (k : Kept) (s : State) : Type 0 where
  pub unread : is_past_last k.input_state ≡ false
  pub more : is_last_slot (last_slot s.reached.slots) ≡ false
  pub quiet : IsQuiet k.requests

pub before-head : (client : Feed) (before : Sink) (k : Kept) (s : State) → Represents client before k s → k.asking_ended ≡ false → IsBeforeHead k.input_state → last_holds_next_head k.requests ≡ false → BeforeHead k s
before-head client before k s st e here free =
    let n = st.reader.next e in
    let past = not-past k.input_state here in
    let last : is_last_slot (last_slot s.reached.slots) ≡ false = sym n.is_last ∙ past in
    let within : (not (is_last_slot (last_slot s.reached.slots)) && is_streaming_body (last_body k.requests)) ≡ false = sym n.within ∙ not-within k.input_state here in
    let U : Bool → Bool = λ x. not x && is_streaming_body (last_body k.requests) in
    record { unread = past; more = last; quiet = (ap U (sym last) ∙ within, free) }
  where
    not-past : (x : InputState) → IsBeforeHead x → is_past_last x ≡ false
    not-past in_place.Head h = refl
    not-past in_place.Abandoned h = refl
    not-past (in_place.Broken kind) h = refl
    not-past in_place.Body h = elim h [ ]
    not-past in_place.Last h = elim h [ ]

    not-within : (x : InputState) → IsBeforeHead x → is_in_body x ≡ false
    not-within in_place.Head h = refl
    not-within in_place.Abandoned h = refl
    not-within (in_place.Broken kind) h = refl
    not-within in_place.Body h = elim h [ ]
    not-within in_place.Last h = elim h [ ]

-- the pipeline has ended
abbrev ends_with : Reached → Outcome
ends_with old = record { reply = Ended; slots = old.slots; rest = []; asking_ended = true; writer = Unused }

abbrev pub after_end : Kept → Option Feed → Option Stop → Bool → InputState → Kept
after_end k p stop over at = record k { asking_ended = true; feed = p; stop = stop; is_over = over; input_state = at }

-- the input was read, and the last body isn't read from it
end-reader : (client : Feed) (before : Sink) (k : Kept) (s : State) (p : Option Feed) (stop : Option Stop) (over : Bool) (at : InputState) (rest : List Item) → Represents client before k s → IsQuiet k.requests → GoesOn k.feed p
    → InputMatches client (after_end k p stop over at) s.reached.slots rest
end-reader client before k s p stop over at rest st quiet goes =
    let source = goes-on_more (Some client) k.feed p st.reader.source goes in
    let f = stated-feed client p source in
    let P : Option Feed → Type 0 = λ y. GivesRest (last_body k.requests) (last_slot s.reached.slots) y in
    record { settled = st.reader.settled; gives = subst P (sym f.1) (gives-settled (last_slot s.reached.slots) (last_body k.requests) f.0 (last-of client before k s st) quiet.0); next = λ e. cc; follows = λ holds. (let no : false ≡ true = sym quiet.1 ∙ holds in cc); source = source }

pub ask-over : (client : Feed) (before : Sink) (k : Kept) (s : State) (date : HttpDate) → Represents client before k s → k.asking_ended ≡ false → is_past_last k.input_state ≡ true
    → StepIsAnswered client before (after_end k k.feed k.stop k.is_over k.input_state) s date Ask Ended
ask-over client before k s date st e o = by (last_was_abandoned (last_slot s.reached.slots)) refl
  where
    slots : List Slot
    slots = s.reached.slots

    next : NextHead client k (last_slot slots) s.reached.rest
    next = st.reader.next e

    unheld_now : last_holds_reader (last_slot slots) ≡ false
    unheld_now =
        let last : is_last_slot (last_slot slots) ≡ true = sym next.is_last ∙ o in
        held-by (last_slot slots) (last_body k.requests) (last-of client before k s st) ∙ rw last (last-awaits-none (last_slot slots) last)

    ended_reader : (rest : List Item) → InputMatches client (after_end k k.feed k.stop k.is_over k.input_state) slots rest
    ended_reader rest = record { settled = st.reader.settled; gives = st.reader.gives; next = λ z. cc; follows = st.reader.follows; source = st.reader.source }

    by : (t : Bool) → last_was_abandoned (last_slot slots) ≡ t → StepIsAnswered client before (after_end k k.feed k.stop k.is_over k.input_state) s date Ask Ended
    by true l =
        let new : State = record { reached = record { slots = slots; rest = s.reached.rest; asking_ended = true }; flushed = s.flushed; failure = s.failure } in
        let G : Outcome → Type 0 = λ x. HasOutcome x s Ended new in (
          new,
          record { numbers = st.numbers; shape = st.shape; in_turn = st.in_turn; asking_ended = refl; reader = ended_reader s.reached.rest; output = st.output },
          inl (true, tt, subst G (sym (ask-lost date s.reached (st.asking_ended ∙ e) unheld_now l)) (refl, refl, (refl, refl))),
        )
    by false l =
        let P : Bool → Type 0 = λ x. PlaceAt k.profile x (behind_body (last_body k.requests) k.feed) s.reached.rest in
        let none : s.reached.rest ≡ [] = subst P o (next.place l).0 in
        let F : List Item → Outcome = λ x. asks_from date Unused slots x in
        let is : ask date s.reached ≡ ends_with s.reached = ask-goes date s.reached (st.asking_ended ∙ e) unheld_now l ∙ ap F none in
        let new : State = record { reached = record { slots = slots; rest = []; asking_ended = true }; flushed = s.flushed; failure = s.failure } in
        let G : Outcome → Type 0 = λ x. HasOutcome x s Ended new in (
          new,
          record { numbers = st.numbers; shape = st.shape; in_turn = st.in_turn; asking_ended = refl; reader = ended_reader []; output = st.output },
          inl (true, tt, subst G (sym is) (refl, refl, (refl, refl))),
        )

-- no head follows
pub ask-none : (client : Feed) (before : Sink) (k : Kept) (s : State) (date : HttpDate) (from_here : InputState) (why : EndOfRequests) (p : Option Feed) (stop : Option Stop) (over : Bool) (at : InputState) → Represents client before k s → k.asking_ended ≡ false → is_past_last k.input_state ≡ false → IsQuiet k.requests
    → ReadsHead k.profile from_here date k.feed p (Ok (read.Ended why)) → GoesOn k.feed p
    → StepIsAnswered client before (after_end k p stop over at) s date Ask Ended
ask-none client before k s date from_here why p stop over at st e o quiet reads goes = by (last_was_abandoned (last_slot s.reached.slots)) refl
  where
    slots : List Slot
    slots = s.reached.slots

    quiet_now : last_holds_reader (last_slot slots) ≡ false
    quiet_now = unheld client before k s st quiet

    by : (t : Bool) → last_was_abandoned (last_slot slots) ≡ t → StepIsAnswered client before (after_end k p stop over at) s date Ask Ended
    by true l =
        let new : State = record { reached = record { slots = slots; rest = s.reached.rest; asking_ended = true }; flushed = s.flushed; failure = s.failure } in
        let G : Outcome → Type 0 = λ x. HasOutcome x s Ended new in (
          new,
          record { numbers = st.numbers; shape = st.shape; in_turn = st.in_turn; asking_ended = refl; reader = end-reader client before k s p stop over at s.reached.rest st quiet goes; output = st.output },
          inl (true, tt, subst G (sym (ask-lost date s.reached (st.asking_ended ∙ e) quiet_now l)) (refl, refl, (refl, refl))),
        )
    by false l =
        let f = stated-feed client k.feed st.reader.source in
        let here : behind_body (last_body k.requests) k.feed ≡ Some f.0 = ap (behind_body (last_body k.requests)) f.1 ∙ behind-settled (last_slot slots) (last_body k.requests) f.0 (last-of client before k s st) quiet.0 in
        let P : Bool → Type 0 = λ x. PlaceAt k.profile x (behind_body (last_body k.requests) k.feed) s.reached.rest in
        let Q : Option Feed → Type 0 = λ x. PlaceAt k.profile false x s.reached.rest in
        let R : Option Feed → Type 0 = λ x. ReadsHead k.profile from_here date x p (Ok (read.Ended why)) in
        let none = pipeline-none k.profile f.0.bytes f.0.stop s.reached.rest (subst R f.1 reads).0 (subst Q here (subst P o ((st.reader.next e).place l).0)) in
        let F : List Item → Outcome = λ x. asks_from date Unused slots x in
        let is : ask date s.reached ≡ ends_with s.reached = ask-goes date s.reached (st.asking_ended ∙ e) quiet_now l ∙ ap F none in
        let new : State = record { reached = record { slots = slots; rest = []; asking_ended = true }; flushed = s.flushed; failure = s.failure } in
        let G : Outcome → Type 0 = λ x. HasOutcome x s Ended new in (
          new,
          record { numbers = st.numbers; shape = st.shape; in_turn = st.in_turn; asking_ended = refl; reader = end-reader client before k s p stop over at [] st quiet goes; output = st.output },
          inl (true, tt, subst G (sym is) (refl, refl, (refl, refl))),
        )

-- no memory was found
pub ask-memory : (client : Feed) (before : Sink) (k : Kept) (s : State) (date : HttpDate) (p : Option Feed) (stop : Option Stop) (over : Bool) (at : InputState) → Represents client before k s → k.asking_ended ≡ false → is_past_last k.input_state ≡ false → IsQuiet k.requests → is_last_slot (last_slot s.reached.slots) ≡ false → (InputEnded k → ⊥) → HasByteOrTimedOut k.profile k.feed → GoesOn k.feed p
    → AskIsAnswered client before (after_end k p stop over at) s date Memory
ask-memory client before k s date p stop over at st e o quiet more open_input begun goes =
    let g = going client before k s st e o quiet open_input in
    let new : State = record { reached = record { slots = s.reached.slots; rest = s.reached.rest; asking_ended = true }; flushed = s.flushed; failure = s.failure } in
    let R : List Slot → Reached = λ x. record { slots = x; rest = s.reached.rest; asking_ended = true } in (
      new,
      record { numbers = st.numbers; shape = st.shape; in_turn = st.in_turn; asking_ended = refl; reader = end-reader client before k s p stop over at s.reached.rest st quiet goes; output = st.output },
      inr (
        st.asking_ended ∙ e,
        more,
        g.unheld,
        g.kept,
        [],
        s.reached.rest,
        refl,
        tt,
        (ap R (sym (append-nil s.reached.slots)), refl, (refl, refl)),
      ),
      λ none. g.begins (subst (λ x. BeginsBehind k.profile (Some g.feed.bytes) g.feed.stop x) (sym none) (subst (λ o. HasByteOrTimedOut k.profile o) g.stated begun)),
    )

-- a refused head has its number, and its answer was sent, or waits for its turn
abbrev pub after_refused : Kept → List Mark → Option Feed → Option Stop → Bool → InputState → Sink → Bool → Kept
after_refused k marks p stop over at sink ended = record k { marks = marks; requests = k.requests ++ (None ∷ []); asking_ended = true; feed = p; stop = stop; is_over = over; input_state = at; sink = sink; output_ended = ended }

refused-output : (before sink new : Sink) (e ended : Bool) (slots : List Slot) (n : Slot) (s : State) → OutputAt before sink e slots s.flushed s.failure → s.reached.slots ≡ slots → list_all is_finished slots ≡ true → is_finished n ≡ true → is_slot_broken n ≡ false
    → before.failures < 2 ^ 64 - 1 → SendsUnlessEnded e sink new ended (segment n ++ []) → IsFlushed new → Goes before new e ended (slots ++ (n ∷ [])) s.flushed s.failure
refused-output before sink new e ended slots n s h same fin over whole low sends firm =
    output-more before sink new e ended slots (slots ++ (n ∷ [])) (segment n ++ []) s.flushed s.failure h (more-behind slots (n ∷ []) (segment n ++ []) fin (rw (over, whole) refl) (rw (over, whole) refl)) low sends firm

refused-waits : (before sink : Sink) (e : Bool) (slots : List Slot) (n : Slot) (flushed : List ℕ) (failure : Option Failure) → OutputAt before sink e slots flushed failure → list_all is_finished slots ≡ false → OutputAt before sink e (slots ++ (n ∷ [])) flushed failure
refused-waits before sink e slots n flushed failure h hidden = output-same before sink e slots (slots ++ (n ∷ [])) flushed failure (sym (joined-hidden slots (n ∷ []) hidden)) (sym (breaks-hidden slots (n ∷ []) hidden)) h

-- what is said of it, whether its turn has come or not
pub record RefusedOutput (before new : Sink) (ended : Bool) (slots : List Slot) (n : Slot) (s : State) (marks : List Mark) (requests : List (Option Unfinished)) : Type 0 where
  pub failure : Option Failure
  pub output : OutputAt before new ended (slots ++ (n ∷ [])) (flushed_after (if turn_has_come (length s.reached.slots) s.reached.slots then Unreported else Unused) s (slots ++ (n ∷ []))) failure
  pub writes : WriterPart (if turn_has_come (length s.reached.slots) s.reached.slots then Unreported else Unused) s Ended (slots ++ (n ∷ [])) Ended failure
  pub numbers : AreKept (slots ++ (n ∷ [])) marks requests
  pub shape : AreInShape marks

-- the turn of the next number has come when all are finished
pub turn-next : (slots : List Slot) → turn_has_come (length slots) slots ≡ list_all is_finished slots
turn-next slots = ap (list_all is_finished) (take_all (length slots) slots (omega arith))

pub refuses : (before sink new : Sink) (e ended : Bool) (s : State) (marks final : List Mark) (requests : List (Option Unfinished)) (n : Slot) (text : List ℕ) → OutputAt before sink e s.reached.slots s.flushed s.failure → AreKept s.reached.slots marks requests → AreInShape marks
    → is_finished n ≡ true → n.given_up ≡ true → is_slot_broken n ≡ false → segment n ≡ text → before.failures < 2 ^ 64 - 1 → LeavesText (length marks == first_unfinished marks) marks [] final text e sink new ended
    → RefusedOutput before new ended s.reached.slots n s final (requests ++ (None ∷ []))
refuses before sink new e ended s marks final requests n text h kept shape over given_up whole same low leaves =
    let slots = s.reached.slots in
    let over_is = ended-is before sink e slots s.flushed s.failure h in
    let U : Bool → Option Failure → Type 0 = λ t f. WriterPart (if t then Unreported else Unused) s Ended (slots ++ (n ∷ [])) Ended f in
    let L : Bool → Option Failure → Type 0 = λ t f. OutputAt before new ended (slots ++ (n ∷ [])) (flushed_after (if t then Unreported else Unused) s (slots ++ (n ∷ []))) f in
    ⊎_elim
    (λ (t : InTurn slots marks []).
    let come : (length marks == first_unfinished marks) ≡ true = eq-eqb (length marks) (first_unfinished marks) (t.turn ∙ first-issued marks) in
    let l = subst (λ (b : Bool). LeavesText b marks [] final text e sink new ended) come leaves in
    let S : List ℕ → Type 0 = λ x. SendsUnlessEnded e sink new ended (x ++ []) in
    let go = refused-output before sink new e ended slots n s h refl t.finished over whole low (subst S (sym same) l.1) l.2 in
    let M : List Mark → Type 0 = λ y. AreKept (slots ++ (n ∷ [])) y (requests ++ (None ∷ [])) in
    let A : List Mark → Type 0 = λ y. AreInShape y in
    record {
      failure = go.failure;
      output = subst (λ (b : Bool). L b go.failure) (sym (turn-next slots ∙ t.finished)) (subst (λ (f : List ℕ). OutputAt before new ended (slots ++ (n ∷ [])) f go.failure) (sym (flushed-is s e (slots ++ (n ∷ [])) over_is)) go.output);
      writes = subst (λ (b : Bool). U b go.failure) (sym (turn-next slots ∙ t.finished)) (unreported s e Ended (slots ++ (n ∷ [])) go.failure over_is go.writes);
      numbers = subst M (sym l.0) (kept-append slots marks requests (n ∷ []) (Finished ∷ []) (None ∷ []) kept (record { finished = over; given_up = given_up }, tt));
      shape = subst A (sym l.0) t.shape;
    })
    (λ (t : OutOfTurn slots marks []).
    let come : (length marks == first_unfinished marks) ≡ false = ne_eqb (length marks) (first_unfinished marks) (λ x. t.turn (x ∙ sym (first-issued marks))) in
    let l = subst (λ (b : Bool). LeavesText b marks [] final text e sink new ended) come leaves in
    let M : List Mark → Type 0 = λ y. AreKept (slots ++ (n ∷ [])) y (requests ++ (None ∷ [])) in
    let O : Sink → Bool → Type 0 = λ x b. OutputAt before x b (slots ++ (n ∷ [])) s.flushed s.failure in
    record {
      failure = s.failure;
      output = subst (λ (b : Bool). L b s.failure) (sym (turn-next slots ∙ t.unfinished)) (subst (λ (b : Bool). O new b) (sym l.3) (subst (λ (x : Sink). O x e) (sym l.2) (refused-waits before sink e slots n s.flushed s.failure h t.unfinished)));
      writes = subst (λ (b : Bool). U b s.failure) (sym (turn-next slots ∙ t.unfinished)) (refl, refl);
      numbers = subst M (sym l.0) (kept-append slots marks requests (n ∷ []) (Left text ∷ []) (None ∷ []) kept (record { done = record { finished = over; given_up = given_up }; whole = whole; same = same }, tt));
      shape = l.1;
    })
    (turn-at slots marks requests [] kept (shape-issued marks shape))

pub ask-refused : (client : Feed) (before : Sink) (k : Kept) (s : State) (date : HttpDate) (from_here : InputState) (status : StatusCode) (text : Vec ℕ) (p : Option Feed) (stop : Option Stop) (over : Bool) (at : InputState) (marks : List Mark) (sink : Sink) (ended : Bool) → Represents client before k s → before.failures < 2 ^ 64 - 1
    → k.asking_ended ≡ false → is_past_last k.input_state ≡ false → IsQuiet k.requests → (InputEnded k → ⊥) → ReadsHead k.profile from_here date k.feed p (Ok (read.Refused status text true)) → GoesOn k.feed p
    → LeavesText (length k.marks == first_unfinished k.marks) k.marks [] marks text.items k.output_ended k.sink sink ended
    → StepIsAnswered client before (after_refused k marks p stop over at sink ended) s date Ask Ended
ask-refused client before k s date from_here status text p stop over at marks sink ended st low e o quiet open_input reads goes leaves =
    let g = going client before k s st e o quiet open_input in
    let P : Option Feed → Type 0 = λ y. ReadsHead k.profile from_here date y p (Ok (read.Refused status text true)) in
    let found = subst P g.stated reads in
    let refusal = found.0 in
    let v = found.1 in
    let no_body = found.2 in
    let item : Item = Refuses refusal v no_body true in
    let first = pipeline-first k.profile g.feed.bytes g.feed.stop item found.3 s.reached.rest found.4 g.pipeline in
    let E : Place → Type 0 = λ y. Pipeline k.profile y g.feed.stop first.0 in
    let none = no-items k.profile g.feed.stop first.0 (subst E found.7 first.2) in
    let n = new_slot date item in
    let slots = s.reached.slots ++ (n ∷ []) in
    let F : List Item → Outcome = λ y. asks_from date Unused s.reached.slots y in
    let is : ask date s.reached ≡ asks_from date Unused s.reached.slots (item ∷ []) = ask-goes date s.reached (st.asking_ended ∙ e) g.unheld g.kept ∙ ap F (first.1 ∙ ap (λ y. item ∷ y) none) in
    let out = refuses before k.sink sink k.output_ended ended s k.marks marks k.requests n text.items st.output st.numbers st.shape refl refl (refused-whole refusal date v no_body true) (refused-text refusal date v no_body true ∙ sym found.5) low leaves in
    let new : State = record { reached = record { slots = slots; rest = []; asking_ended = true }; flushed = flushed_after (if turn_has_come (length s.reached.slots) s.reached.slots then Unreported else Unused) s slots; failure = out.failure } in
    let G : Outcome → Type 0 = λ y. HasOutcome y s Ended new in
    let B : Option UnreadBody → Type 0 = λ b. GivesRest b (last_slot slots) p in (
      new,
      record {
        numbers = out.numbers;
        shape = out.shape;
        in_turn = turn-more s.reached.slots n st.in_turn (refl, λ z. (let no : true ≡ false = z in cc));
        asking_ended = refl;
        reader = record {
          settled = settled-snoc k.requests None st.reader.settled quiet;
          gives = subst B (sym (body-snoc k.requests None)) tt;
          next = λ z. cc;
          follows = λ holds. subst (λ b. FollowsLast b (last_slot slots) p) (sym (body-snoc k.requests None)) tt;
          source = goes-on_more (Some client) k.feed p st.reader.source goes;
        };
        output = out.output;
      },
      inl (true, tt, subst G (sym is) (refl, refl, out.writes)),
    )

pub ask-ended : (client : Feed) (before : Sink) (k : Kept) (s : State) (date : HttpDate) → Represents client before k s → k.asking_ended ≡ true → StepIsAnswered client before k s date Ask Ended
ask-ended client before k s date st e = step-unchanged client before k s date Ask Ended st (ask-ends date s.reached (st.asking_ended ∙ e))

-- no request follows: the last one was read, or none stands in front of the input
pub ask-final : (client : Feed) (before : Sink) (k : Kept) (s : State) (date : HttpDate) (why : EndOfRequests) (p : Option Feed) (stop : Option Stop) (over : Bool) (at : InputState) → Represents client before k s → k.asking_ended ≡ false → (k.input_state ≡ in_place.Body → ⊥) → last_holds_next_head k.requests ≡ false
    → (k.input_state ≡ in_place.Last → (p ≡ k.feed) × (stop ≡ k.stop) × (over ≡ k.is_over) × (at ≡ k.input_state)) → (IsBeforeHead k.input_state → ReadsHead k.profile k.input_state date k.feed p (Ok (read.Ended why))) → GoesOn k.feed p
    → StepIsAnswered client before (after_end k p stop over at) s date Ask Ended
ask-final client before k s date why p stop over at st e outside free left reads goes = by k.input_state refl
  where
    none : IsBeforeHead k.input_state → StepIsAnswered client before (after_end k p stop over at) s date Ask Ended
    none here =
        let h = before-head client before k s st e here free in
        ask-none client before k s date k.input_state why p stop over at st e h.unread h.quiet (reads here) goes

    by : (x : InputState) → k.input_state ≡ x → StepIsAnswered client before (after_end k p stop over at) s date Ask Ended
    by in_place.Head i = none (let P : InputState → Type 0 = λ y. IsBeforeHead y in subst P (sym i) tt)
    by in_place.Abandoned i = none (let P : InputState → Type 0 = λ y. IsBeforeHead y in subst P (sym i) tt)
    by (in_place.Broken kind) i = none (let P : InputState → Type 0 = λ y. IsBeforeHead y in subst P (sym i) tt)
    by in_place.Body i = absurd (outside i)
    by in_place.Last i =
        let h = left i in
        let P : Option Feed → Option Stop → Bool → InputState → Type 0 = λ a b c d. StepIsAnswered client before (after_end k a b c d) s date Ask Ended in
        subst (λ a. P a stop over at) (sym h.0) (subst (λ b. P k.feed b over at) (sym h.1) (subst (λ c. P k.feed k.stop c at) (sym h.2) (subst (λ d. P k.feed k.stop k.is_over d) (sym h.3)
        (ask-over client before k s date st e (ap is_past_last i)))))

-- neither within a body nor after the last request the input stands in front of a head
pub represents-before : (at : InputState) → (at ≡ in_place.Body → ⊥) → (at ≡ in_place.Last → ⊥) → IsBeforeHead at
represents-before in_place.Head b l = tt
represents-before in_place.Abandoned b l = tt
represents-before (in_place.Broken kind) b l = tt
represents-before in_place.Body b l = absurd (b refl)
represents-before in_place.Last b l = absurd (l refl)
