-- A Respond: from where the connection stands to where it stands after it.
use Rattle.std.proofs.Common.{◌≡◌, refl, sym, ap, ◌∙◌, subst, ℕ, ◌+◌, ◌-◌, ◌<◌, ◌^◌, ◌⊎◌, inl, inr, ⊎_elim, Bool, true, false, ◌&&◌, ◌||◌, List, [], ◌∷◌, ◌++◌, length, Option, Some, None, Result, Ok, Err, arith, append_assoc, append-nil}
use Rattle.std.specs.Prelude.{MatchBool, is_some, slice_get, slice_set}
use Rattle.std.specs.List.{list_all, AllByRecursion}
use Rattle.std.specs.Io.KnownBytes.{append_known}
use Rattle.std.specs.IoError.{error_kind}
use Rattle.std.specs.declared.io.Error.{Error}
use Rattle.std.specs.declared.io.ErrorKind.{ErrorKind}
use Rattle.httpdate.specs.declared.date.HttpDate.{HttpDate}
use Rattle.tiny_http_io.specs.Device.{Feed, Sink}
use Rattle.tiny_http_body.specs.Text.{Text, Ending, Whole, Broken}
use Rattle.tiny_http_response.specs.declared.response_context.ResponseContext.{ResponseContext}
use Rattle.tiny_http_body.specs.declared.body.UnreadBody.{UnreadBody}
use Rattle.tiny_http_open_request.specs.declared.open_request.OpenRequest.{OpenRequest}
use Rattle.tiny_http_connection.specs.declared.pending.Unfinished.{Unfinished}
use Rattle.tiny_http_connection.specs.declared.pending.Unfinished.TheVariants as still
use Rattle.tiny_http_connection.proofs.ConnectionReader.{waiting-final, waiting-remainder, open-waiting}
use Rattle.tiny_http_open_request.specs.Pipeline.{Item, Asks, Refuses, Request, is_connect_method, is_head_method}
use Rattle.tiny_http_open_request.specs.OpenRequest.{coding_for, final_context, refuses_code}
use Rattle.tiny_http_response.specs.ResponseValue.{ResponseValue, printing_to}
use Rattle.tiny_http_response.specs.Answer.{IsGathered, answer_coding}
use Rattle.tiny_http_connection.specs.Segments.{Slot, Stage, Unanswered, Answered as AnsweredBy, ByServer, Raw, Upgraded, is_stage_finished, is_finished, is_broken, is_slot_broken, segment, stage_text, opening, to_request, text_if}
use Rattle.tiny_http_connection.specs.Slots.{is_output_broken, joined, turn_has_come, remainder_of, closes_now, ends_when_finished, refuses_response, last_slot}
use Rattle.tiny_http_connection.specs.Steps.{StepValue, Respond, ReplyValue, Done, NoSuch, NotYet}
use Rattle.tiny_http_connection.specs.Outcomes.{outcome, Outcome, Reached, unchanged, changes, ends_asking, ends_with_stream, finished_as, accepts_step, fault_in, fault_reply, at_item, at_slot, at_number, asked_to_close, answers, answers_slot}
use Rattle.tiny_http_connection.specs.Conversation.{Failure, State, has_output_ended, finished_front, flushed_after, CanMeet, WriterPart, HasOutcome, GathersAt, MayLack, GathersFor, StepsTo}
use Rattle.tiny_http_connection.proofs.ConversationWriting.{FailsBetween, FailsReported, FailsBehind, broken_reply, used, WritesIf, flushed_if, reported, flushed-is}
use Rattle.tiny_http_response.specs.ResponseValue.{printing_in}
use Rattle.tiny_http_connection.specs.Seen.{Answers, reply_to}
use Rattle.tiny_http_response.specs.Sending.{CanSend, OutletTook, OutletFailed, IsFlushed, SendsText, SendsUnlessEnded}
use Rattle.tiny_http_turns.specs.Turns.{Mark, Open, Held, Finished, AreInShape, first_unfinished}
use Rattle.tiny_http_connection.specs.Pending.{is_last_once_finished_at as kept_lacks, refuses_at, left_text, with_left_finished, begins_left, SendsLeft, FinishesFront, waiting_response_context}
use Rattle.tiny_http_connection.specs.Connection.{Kept, response_context_of, HandedOut, open_slot, IsWaiting, KeepsUnfinished, HasSentNothing, AreSentInTurn, AreKept, OutputAt, InputMatches, Represents}
use Rattle.tiny_http_io.specs.Source.{SourceState}
use Rattle.tiny_http_body.specs.Body.{remainder, is_long, GivesUp}
use Rattle.tiny_http_connection.proofs.ConnectionBody.{IsInput, with_reader, next-same, reader-given_up}
use Rattle.tiny_http_connection.proofs.ConnectionAsk.{StepIsAnswered, step-unchanged}
use Rattle.tiny_http_connection.proofs.SlotsLemmas.{all-snoc, joined-front, joined-broken, breaks-front}
use Rattle.tiny_http_connection.proofs.ConnectionKept.{get-at, set-at, take-at, kept-append, kept-many, kept-passed, kept-slot, place-of, InTurn, OutOfTurn, turn-at}
use Rattle.tiny_http_connection.proofs.ConnectionOutput.{joined_behind, front-all, left-finished, lost-output, all-firm, ended-is, output-same, plain-more, can-send, more-behind, output-more, Longer, longer-at, longer-alone}
use Rattle.tiny_http_connection.proofs.ConnectionTurns.{turn-set, behind-turn}
use Rattle.tiny_http_connection.proofs.PendingLemmas.{none-left}
use Rattle.tiny_http_connection.proofs.ConnectionClosing.{asked_state, outcome-asked, twice-asked, leads-asked}
use Rattle.tiny_http_response.specs.declared.coding.Coding.{Coding}
use Rattle.tiny_http_head.specs.declared.common.HTTPVersion.{HTTPVersion}
use Rattle.tiny_http_open_request.specs.ErrorResponse.{persistence_of}
use Rattle.tiny_http_response.proofs.SendingLemmas.{or-parts}

-- a number that is finished takes no such step
abbrev pub TakesNone : StepValue → Type 0
TakesNone step = (stage : Stage) (owed : Bool) → is_stage_finished stage ≡ true → accepts_step stage owed step ≡ false

abbrev pub is_unanswered : Stage → Bool
is_unanswered Unanswered = true
is_unanswered (AnsweredBy response date found) = false
is_unanswered ByServer = false
is_unanswered (Raw written closed) = false
is_unanswered (Upgraded protocol response date written closed) = false

-- only a number that waits for its answer takes such a step
abbrev pub NeedsWaiting : StepValue → Type 0
NeedsWaiting step = (stage : Stage) (owed : Bool) → is_unanswered stage ≡ false → accepts_step stage owed step ≡ false

pub respond-not_taken : (n : ℕ) (v : ResponseValue) → NeedsWaiting (Respond n v)
respond-not_taken n v Unanswered owed e = cc
respond-not_taken n v (AnsweredBy r d f) owed e = refl
respond-not_taken n v ByServer owed e = refl
respond-not_taken n v (Raw w c) owed e = refl
respond-not_taken n v (Upgraded p r d w c) owed e = refl

-- no number at this place takes the step
respond-nothing-at : (date : HttpDate) (old : Reached) (n : ℕ) (step : StepValue) → ((x : Slot) → slice_get old.slots n ≡ Some x → accepts_step x.stage x.owed step ≡ false) → at_number true date old n step ≡ unchanged old NoSuch
respond-nothing-at date old n step free = at (slice_get old.slots n) refl
  where
    of : (x : Slot) (item : Item) → accepts_step x.stage x.owed step ≡ false → at_item true date old n step x item ≡ unchanged old NoSuch
    of x (Refuses a b c d) f = refl
    of x (Asks r) f = rw f refl

    at : (o : Option Slot) → slice_get old.slots n ≡ o → at_slot true date old n step o ≡ unchanged old NoSuch
    at None e = refl
    at (Some x) e = of x x.item (free x e)

-- no request of this number takes the step: it is finished, or what is kept of it doesn't take it
pub not-taken : (client : Feed) (before : Sink) (k : Kept) (s : State) (date : HttpDate) (n : ℕ) (step : StepValue) → outcome true date s.reached step ≡ at_number true date s.reached n step → TakesNone step → Represents client before k s
    → ((x : Slot) (u : Unfinished) → slice_get k.requests n ≡ Some (Some u) → KeepsUnfinished x u → accepts_step x.stage x.owed step ≡ false) → StepIsAnswered client before k s date step NoSuch
not-taken client before k s date n step at free st unfit =
    step-unchanged client before k s date step NoSuch st
    (at ∙ respond-nothing-at date s.reached n step (λ x e. ⊎_elim (λ h. free x.stage x.owed h.1) (λ h. unfit x h.0 h.1 h.2) (kept-slot s.reached.slots k.marks k.requests n st.numbers x e)))

finished-none : (step : StepValue) → NeedsWaiting step → TakesNone step
finished-none step needs Unanswered owed e = cc
finished-none step needs (AnsweredBy r d f) owed e = needs (AnsweredBy r d f) owed refl
finished-none step needs ByServer owed e = needs ByServer owed refl
finished-none step needs (Raw w c) owed e = needs (Raw w c) owed refl
finished-none step needs (Upgraded p r d w c) owed e = needs (Upgraded p r d w c) owed refl

-- no number that waits for its answer takes the step
pub no-such : (client : Feed) (before : Sink) (k : Kept) (s : State) (date : HttpDate) (n : ℕ) (step : StepValue) → outcome true date s.reached step ≡ at_number true date s.reached n step → NeedsWaiting step → Represents client before k s → waiting_response_context (slice_get k.requests n) ≡ None
    → StepIsAnswered client before k s date step NoSuch
no-such client before k s date n step at needs st none = not-taken client before k s date n step at (finished-none step needs) st by
  where
    by : (x : Slot) (u : Unfinished) → slice_get k.requests n ≡ Some (Some u) → KeepsUnfinished x u → accepts_step x.stage x.owed step ≡ false
    by x (still.Waiting w) e h = let no : Some (final_context w (remainder w.body)) ≡ None = ap waiting_response_context (sym e) ∙ none in cc
    by x still.Raw e h = needs x.stage x.owed (ap is_unanswered h.stage)
    by x (still.Upgraded b) e h = needs x.stage x.owed (ap (λ (y : Slot). is_unanswered y.stage) h.opened.is ∙ ap is_unanswered h.stage)

-- a number that waits is kept
pub answer-form-some : (o : Option (Option Unfinished)) (response_context : ResponseContext) → waiting_response_context o ≡ Some response_context → (w : OpenRequest UnreadBody) × (o ≡ Some (Some (still.Waiting w))) × (final_context w (remainder w.body) ≡ response_context)
answer-form-some None response_context e = cc
answer-form-some (Some None) response_context e = cc
answer-form-some (Some (Some (still.Waiting w))) response_context e = (w, refl, (let same : final_context w (remainder w.body) ≡ response_context = cc in same))
answer-form-some (Some (Some still.Raw)) response_context e = cc
answer-form-some (Some (Some (still.Upgraded b))) response_context e = cc

-- the same by whether it is
pub waits-some : (o : Option (Option Unfinished)) → is_some (waiting_response_context o) ≡ true → (w : OpenRequest UnreadBody) × (o ≡ Some (Some (still.Waiting w)))
waits-some None e = cc
waits-some (Some None) e = cc
waits-some (Some (Some (still.Waiting w))) e = (w, refl)
waits-some (Some (Some still.Raw)) e = cc
waits-some (Some (Some (still.Upgraded b))) e = cc

pub waits-none : (o : Option (Option Unfinished)) → is_some (waiting_response_context o) ≡ false → waiting_response_context o ≡ None
waits-none None e = refl
waits-none (Some None) e = refl
waits-none (Some (Some (still.Waiting w))) e = cc
waits-none (Some (Some still.Raw)) e = refl
waits-none (Some (Some (still.Upgraded b))) e = refl

-- the place of such a number, in the slots
pub record SlotAt (slots bs cs : List Slot) (s0 : Slot) (n : ℕ) : Type 0 where
  pub get : slice_get slots n ≡ Some s0
  pub set : (s1 : Slot) → slice_set slots n s1 ≡ bs ++ (s1 ∷ cs)
  pub turn : turn_has_come n slots ≡ list_all is_finished bs

pub slot-at : (slots bs cs : List Slot) (s0 : Slot) (n : ℕ) → slots ≡ bs ++ (s0 ∷ cs) → length bs ≡ n → SlotAt slots bs cs s0 n
slot-at slots bs cs s0 n e place =
    let P : ℕ → Type 0 = λ m. SlotAt slots bs cs s0 m in
    let Q : List Slot → Type 0 = λ l. SlotAt l bs cs s0 (length bs) in
    subst P place (subst Q (sym e) (record {
      get = get-at bs s0 cs;
      set = λ s1. set-at bs s0 s1 cs;
      turn = ap (list_all is_finished) (take-at bs (s0 ∷ cs));
    }))

-- its turn hasn't come
-- whether an answer is refused, by what is kept of the request
pub refuses-same : (s : Slot) (w : OpenRequest UnreadBody) (h : IsWaiting s w) (v : ResponseValue) → refuses_response h.request v ≡ refuses_code w.by_standard w.is_connect v.answer.status
refuses-same s w h v =
    ap (λ b. refuses_code b (is_connect_method h.request.message.method) v.answer.status) (sym h.standard) ∙ ap (λ b. refuses_code w.by_standard b v.answer.status) (sym h.connect)

pub respond-not_yet : (client : Feed) (before : Sink) (k : Kept) (s : State) (date : HttpDate) (n : ℕ) (v : ResponseValue) (w : OpenRequest UnreadBody) → Represents client before k s → slice_get k.requests n ≡ Some (Some (still.Waiting w)) → refuses_at v.answer.status (slice_get k.requests n) ≡ false
    → ((slice_get k.marks n ≡ Some Open) × (n ≡ first_unfinished k.marks) → ⊥) → StepIsAnswered client before k s date (Respond n v) NotYet
respond-not_yet client before k s date n v w st e good never =
    let p = place-of s.reached.slots k.marks k.requests n (still.Waiting w) st.numbers e in
    let at = slot-at s.reached.slots p.bs p.cs p.s n p.slots_are p.slots_before in
    let S : List Mark → Type 0 = λ m. AreInShape m in
    let early : (t : InTurn p.bs p.fs p.rs) → ⊥ = λ t. never (ap (λ m. slice_get m n) p.marks_are ∙ ap (λ x. slice_get (p.fs ++ (Open ∷ p.rs)) x) (sym p.marks_before) ∙ get-at p.fs Open p.rs, sym p.marks_before ∙ t.turn ∙ ap first_unfinished (sym p.marks_are)) in
    let late : list_all is_finished p.bs ≡ false = ⊎_elim (λ (t : InTurn p.bs p.fs p.rs). absurd (early t)) (λ (t : OutOfTurn p.bs p.fs p.rs). t.unfinished) (turn-at p.bs p.fs p.us p.rs p.before (subst S p.marks_are st.shape)) in
    let T : Slot → Type 0 = λ x. at_slot true date s.reached n (Respond n v) (Some x) ≡ unchanged s.reached NotYet in
    let takes = refuses-same p.s w p.waiting v ∙ ap (refuses_at v.answer.status) (sym e) ∙ good in
    let is = subst T (sym p.waiting.is) (rw (takes, at.turn ∙ late) refl) in
    step-unchanged client before k s date (Respond n v) NotYet st (ap (at_slot true date s.reached n (Respond n v)) at.get ∙ is)

-- the slot after the response
abbrev pub answered_slot : HandedOut → Request → ℕ → Bool → ResponseValue → HttpDate → Bool → Slot
answered_slot asked r given end_reported v date found = finished_as (closes_now r asked.closes asked.owed given end_reported) (open_slot asked r given end_reported) (AnsweredBy v date found)

abbrev pub response_sent : Bool → ResponseValue → Bool → Request → HttpDate → Text
response_sent found v closes r date = text_if found v (to_request closes r date)

-- a request that waits, in its turn: the response answers it, once the last number was told what it asks
at-answers : (found : Bool) (date : HttpDate) (old : Reached) (n : ℕ) (v : ResponseValue) (r : Request) (x : Slot) → slice_get old.slots n ≡ Some x → x.item ≡ Asks r → x.stage ≡ Unanswered → refuses_response r v ≡ false → turn_has_come n old.slots ≡ true
    → at_number found date old n (Respond n v) ≡ answers found date (asked_to_close v.answer.closes old) r n v
at-answers found date old n v r x e item stage takes t =
    ap (at_slot found date old n (Respond n v)) e ∙ ap (at_item found date old n (Respond n v) x) item ∙ rw (stage, takes, t) refl

at-turn : (date : HttpDate) (asked : HandedOut) (old : Reached) (n : ℕ) (v : ResponseValue) (r : Request) (given : ℕ) (end_reported found : Bool) → slice_get old.slots n ≡ Some (open_slot asked r given end_reported) → refuses_response r v ≡ false → turn_has_come n old.slots ≡ true → asked_to_close v.answer.closes old ≡ old
    → at_number found date old n (Respond n v) ≡ ends_asking (ends_when_finished r asked.owed given end_reported) (changes old n (answered_slot asked r given end_reported v date found) Done (used (response_sent found v (closes_now r asked.closes asked.owed given end_reported) r date)))
at-turn date asked old n v r given end_reported found e takes t fixed =
    at-answers found date old n v r (open_slot asked r given end_reported) e refl refl takes t
    ∙ ap (λ o. answers found date o r n v) fixed ∙ ap (answers_slot found date old r n v) e

-- how the response is printed
printed-for : (closes : Bool) (r : Request) (response_context : ResponseContext) (date : HttpDate) → response_context ≡ response_context_of closes r → printing_in response_context date ≡ to_request closes r date
printed-for closes r response_context date e = ap (λ x. printing_in x date) e

-- what becomes of the response's own text, with the step's reply: it was sent, or broke off, or the writer failed in it
abbrev pub OwnWrites : Bool → Option Failure → List ℕ → List ℕ → Text → ReplyValue → Option Failure → Type 0
OwnWrites was failed flushed known text reply failure =
    MatchBool was ((reply ≡ Done) × (failure ≡ failed))
    (((reply ≡ broken_reply fault_reply Done (fault_in text.ending)) × (failure ≡ None))
    ⊎ ((CanMeet text.bytes (fault_in text.ending) × FailsReported fault_reply reply flushed (known ++ text.bytes) failure)
    ⊎ ((kind : ErrorKind) × (text.ending ≡ Broken kind) × (reply ≡ broken_reply fault_reply Done (fault_in text.ending)) × FailsBetween flushed (known ++ text.bytes) failure)))

pub record OwnSaid (before mid : Sink) (was ended : Bool) (old bs : List Slot) (s1 : Slot) (text : Text) (flushed : List ℕ) (failed : Option Failure) (reply : ReplyValue) : Type 0 where
  pub failure : Option Failure
  pub output : OutputAt before mid ended (bs ++ (s1 ∷ [])) (flushed_if was flushed (bs ++ (s1 ∷ []))) failure
  pub writes : OwnWrites was failed flushed (joined old) text reply failure

reported-broken : (text : Text) (kind : ErrorKind) (reply : ReplyValue) → text.ending ≡ Broken kind → reply ≡ fault_reply kind → reply ≡ broken_reply fault_reply Done (fault_in text.ending)
reported-broken text kind reply e t = t ∙ ap (λ x. broken_reply fault_reply Done (fault_in x)) (sym e)

own-said : {T : Type 0} (before sink mid : Sink) (ended : Bool) (old bs : List Slot) (s1 : Slot) (text : Text) (known : List ℕ) (r : Result T Error) (reply : ReplyValue) → OutputAt before sink false old known None → Longer old bs s1 text.bytes → list_all is_finished bs ≡ true → is_finished s1 ≡ true
    → is_slot_broken s1 ≡ is_broken text.ending → before.failures < 2 ^ 64 - 1 → SendsText sink mid ended r text → IsFlushed mid → reply ≡ reply_to r → OwnSaid before mid false ended old bs s1 text known None reply
own-said before sink mid ended old bs s1 text known (Ok x) reply h l fin over broken low d flushed t =
    let none : is_output_broken bs ≡ false = sym l.breaks ∙ sym h.3 in
    let whole : is_slot_broken s1 ≡ false = broken ∙ ap is_broken d.0 in
    let longer : joined old ++ text.bytes ≡ joined (bs ++ (s1 ∷ [])) = longer-alone old bs s1 text.bytes l none in
    let breaks : is_output_broken (bs ++ (s1 ∷ [])) ≡ false = breaks-front bs (s1 ∷ []) fin ∙ rw (none, over, whole) refl in
    let taken : mid.taken ≡ Some (joined (bs ++ (s1 ∷ []))) = d.1.bytes ∙ ap (λ y. append_known y text.bytes) h.0 ∙ ap Some longer in
    record {
      failure = None;
      output = (taken, d.1.failures ∙ h.1, d.3 ∙ sym d.2, d.2 ∙ sym breaks, ([], sym (append-nil (joined (bs ++ (s1 ∷ []))))), λ z. all-firm mid (joined (bs ++ (s1 ∷ []))) taken (flushed d.3));
      writes = inl (t ∙ ap (λ y. broken_reply fault_reply Done (fault_in y)) (sym d.0), refl);
    }
own-said before sink mid ended old bs s1 text known (Err e) reply h l fin over broken low d flushed t =
    ⊎_elim (λ k. ⊎_elim (λ x. broken-sent k.0 x) (λ x. broken-lost k.0 x.0 x.1) k.1) (λ k. lost k.0 k.1 text.bytes refl) d.2
  where
    none : is_output_broken bs ≡ false
    none = sym l.breaks ∙ sym h.3

    broken-sent : text.ending ≡ Broken (error_kind e) → OutletTook sink mid text.bytes → OwnSaid before mid false ended old bs s1 text known None reply
    broken-sent b x =
        let breaks_is : is_slot_broken s1 ≡ true = broken ∙ ap is_broken b in
        let longer : joined old ++ text.bytes ≡ joined (bs ++ (s1 ∷ [])) = longer-alone old bs s1 text.bytes l none in
        let breaks : is_output_broken (bs ++ (s1 ∷ [])) ≡ true = breaks-front bs (s1 ∷ []) fin ∙ rw (none, breaks_is) refl in
        record {
          failure = None;
          output = (x.bytes ∙ ap (λ y. append_known y text.bytes) h.0 ∙ ap Some longer, x.failures ∙ h.1, d.1 ∙ sym d.0, d.0 ∙ sym breaks, ([], sym (append-nil (joined (bs ++ (s1 ∷ []))))), λ z. (let absent : true ≡ false = sym d.0 ∙ z in cc));
          writes = inl (reported-broken text (error_kind e) reply b t, refl);
        }

    broken-lost : text.ending ≡ Broken (error_kind e) → (kind : ErrorKind) → OutletFailed sink mid text.bytes kind → OwnSaid before mid false ended old bs s1 text known None reply
    broken-lost b kind k =
        let z = lost-output before sink mid (joined old) text.bytes known kind h.0 h.1 (h.5 refl) low k in
        let f : Failure = record { kind = kind; output = z.output } in
        record {
          failure = Some f;
          output = (z.taken, z.failures, z.stated, d.0);
          writes = inr (inr (error_kind e, b, reported-broken text (error_kind e) reply b t, (f, refl, z.begins, z.front)));
        }

    within : OutletFailed sink mid text.bytes (error_kind e) → CanMeet text.bytes (fault_in text.ending) → OwnSaid before mid false ended old bs s1 text known None reply
    within k can =
        let z = lost-output before sink mid (joined old) text.bytes known (error_kind e) h.0 h.1 (h.5 refl) low k in
        let f : Failure = record { kind = error_kind e; output = z.output } in
        record {
          failure = Some f;
          output = (z.taken, z.failures, z.stated, d.0);
          writes = inr (inl (can, (f, refl, t, z.begins, z.front)));
        }

    lost : (text.bytes ≡ [] → ⊥) → OutletFailed sink mid text.bytes (error_kind e) → (own : List ℕ) → text.bytes ≡ own → OwnSaid before mid false ended old bs s1 text known None reply
    lost u k [] z = absurd (u z)
    lost u k (b ∷ more) z = within k (let C : List ℕ → Type 0 = λ x. CanMeet x (fault_in text.ending) in subst C (sym z) tt)

pub own-sent : {T : Type 0} (before sink mid : Sink) (was ended : Bool) (old bs : List Slot) (s1 : Slot) (text : Text) (known : List ℕ) (failed : Option Failure) (r : Result T Error) (reply : ReplyValue) → OutputAt before sink was old known failed → Longer old bs s1 text.bytes → list_all is_finished bs ≡ true → is_finished s1 ≡ true
    → is_slot_broken s1 ≡ is_broken text.ending → before.failures < 2 ^ 64 - 1 → was ≡ false → SendsText sink mid ended r text → IsFlushed mid → reply ≡ reply_to r → OwnSaid before mid was ended old bs s1 text known failed reply
own-sent before sink mid was ended old bs s1 text known (Some f) r reply h l fin over broken low z d flushed t = let absent : false ≡ true = sym z ∙ h.3 in cc
own-sent {T = T} before sink mid was ended old bs s1 text known None r reply h l fin over broken low z d flushed t =
    let P : Bool → Type 0 = λ b. OutputAt before sink b old known None in
    let Q : Bool → Type 0 = λ b. OwnSaid before mid b ended old bs s1 text known None reply in
    subst Q (sym z) (own-said {T = T} before sink mid ended old bs s1 text known r reply (subst P z h) l fin over broken low d flushed t)

-- an output that has ended sends nothing
pub own-past : (before sink : Sink) (was : Bool) (old bs : List Slot) (s1 : Slot) (text : Text) (known : List ℕ) (failed : Option Failure) → OutputAt before sink was old known failed → Longer old bs s1 text.bytes → list_all is_finished bs ≡ true → was ≡ true → OwnSaid before sink was was old bs s1 text known failed Done
own-past before sink was old bs s1 text known None h l fin z =
    let breaks : is_output_broken bs ≡ true = sym l.breaks ∙ sym h.3 ∙ z in
    let all : is_output_broken (bs ++ (s1 ∷ [])) ≡ is_output_broken old = breaks-front bs (s1 ∷ []) fin ∙ rw (l.breaks, breaks) refl in
    let M : Bool → Type 0 = λ b. OwnWrites b None known (joined old) text Done None in
    let F : Bool → Type 0 = λ b. OutputAt before sink was (bs ++ (s1 ∷ [])) (flushed_if b known (bs ++ (s1 ∷ []))) None in
    record { failure = None; output = subst F (sym z) (output-same before sink was old (bs ++ (s1 ∷ [])) known None (sym (l.broken breaks [])) (sym all) h); writes = subst M (sym z) (refl, refl) }
own-past before sink was old bs s1 text known (Some f) h l fin z =
    let M : Bool → Type 0 = λ b. OwnWrites b (Some f) known (joined old) text Done (Some f) in
    record { failure = Some f; output = h; writes = subst M (sym z) (refl, refl) }

-- The response and the texts after it, as the step's part of the output.
pub record Said (before new : Sink) (ended : Bool) (slots : List Slot) (was : State) (text : Text) (reply : ReplyValue) : Type 0 where
  pub failure : Option Failure
  pub output : OutputAt before new ended slots (flushed_after (used text) was slots) failure
  pub writes : WriterPart (used text) was Done slots reply failure

-- where nothing is written after the response, it is as it was
own-alternatives : (was : Bool) (failed : Option Failure) (known : List ℕ) (old : List Slot) (text : Text) (slots : List Slot) (reply : ReplyValue) (failure : Option Failure) → OwnWrites was failed known (joined old) text reply failure → WritesIf was failed known old text slots reply failure
own-alternatives true failed known old text slots reply failure h = h
own-alternatives false failed known old text slots reply failure (inl h) = inl h
own-alternatives false failed known old text slots reply failure (inr (inl h)) = inr (inl h)
own-alternatives false failed known old text slots reply failure (inr (inr h)) =
    let P : Ending → Type 0 = λ x. FailsBehind known old text.bytes (fault_in x) slots failure in
    inr (inr (h.2, subst P (sym h.1) h.3))

-- a fault after the response, in the texts that were left
behind-alternatives : (was : Bool) (failed : Option Failure) (known : List ℕ) (old : List Slot) (text : Text) (slots : List Slot) (reply : ReplyValue) (own failure : Option Failure) → OwnWrites was failed known (joined old) text reply own → is_some own ≡ false → text.ending ≡ Whole
    → finished_front old + 1 < finished_front slots → (failure ≡ None) ⊎ FailsBetween (joined old ++ text.bytes) (joined slots) failure → was ≡ false → WritesIf was failed known old text slots reply failure
behind-alternatives true failed known old text slots reply own failure h none whole more left z = cc
behind-alternatives false failed known old text slots reply own failure (inl h) none whole more left z =
    let P : Ending → Type 0 = λ x. FailsBehind known old text.bytes (fault_in x) slots failure in
    ⊎_elim (λ k. inl (h.0, k)) (λ k. inr (inr (h.0, subst P (sym whole) (more, k)))) left
behind-alternatives false failed known old text slots reply own failure (inr (inl h)) none whole more left z = let absent : true ≡ false = ap is_some (sym h.1.1) ∙ none in cc
behind-alternatives false failed known old text slots reply own failure (inr (inr h)) none whole more left z = let absent : true ≡ false = ap is_some (sym h.3.1) ∙ none in cc

-- the output is open after the response only where the response is whole, and was open before it
open-whole : (before mid : Sink) (was : Bool) (old bs : List Slot) (s1 : Slot) (text : Text) (known : List ℕ) (failed : Option Failure) (reply : ReplyValue) → list_all is_finished bs ≡ true → is_slot_broken s1 ≡ is_broken text.ending → (is_some failed || is_output_broken bs) ≡ was
    → (o : OwnSaid before mid was false old bs s1 text known failed reply) → (is_some o.failure ≡ false) × (text.ending ≡ Whole) × (was ≡ false)
open-whole before mid was old bs s1 text known failed reply fin broken over o =
    let open_is : (is_some o.failure || is_output_broken (bs ++ (s1 ∷ []))) ≡ false = ended-is before mid false (bs ++ (s1 ∷ [])) (flushed_if was known (bs ++ (s1 ∷ []))) o.failure o.output in
    let parts = or-parts (is_some o.failure) (is_output_broken (bs ++ (s1 ∷ []))) open_is in
    let breaks : (is_output_broken bs || is_output_broken (s1 ∷ [])) ≡ false = sym (breaks-front bs (s1 ∷ []) fin) ∙ parts.1 in
    let two = or-parts (is_output_broken bs) (is_output_broken (s1 ∷ [])) breaks in
    let whole : is_slot_broken s1 ≡ false = (or-parts (is_slot_broken s1) (is_finished s1 && false) two.1).0 in
    (parts.0, unbroken text.ending (sym broken ∙ whole), by-was was refl)
  where
    unbroken : (x : Ending) → is_broken x ≡ false → x ≡ Whole
    unbroken Whole e = refl
    unbroken (Broken kind) e = cc

    by-was : (t : Bool) → was ≡ t → was ≡ false
    by-was false e = e
    by-was true e =
        let M : Bool → Type 0 = λ b. OwnWrites b failed known (joined old) text reply o.failure in
        let kept = subst M e o.writes in
        let open_is = ended-is before mid false (bs ++ (s1 ∷ [])) (flushed_if was known (bs ++ (s1 ∷ []))) o.failure o.output in
        let parts = or-parts (is_some o.failure) (is_output_broken (bs ++ (s1 ∷ []))) open_is in
        let two = or-parts (is_output_broken bs) (is_output_broken (s1 ∷ [])) (sym (breaks-front bs (s1 ∷ []) fin) ∙ parts.1) in
        sym over ∙ ap (λ f. is_some f || is_output_broken bs) (sym kept.1) ∙ ap (λ b. b || is_output_broken bs) parts.0 ∙ two.0

pub respond-left : (before mid new : Sink) (was mid_ended ended : Bool) (bs : List Slot) (s0 s1 : Slot) (cs : List Slot) (fs rs : List Mark) (vs : List (Option Unfinished)) (old : State) (text : Text) (reply : ReplyValue)
    → old.reached.slots ≡ bs ++ (s0 ∷ cs) → has_output_ended old ≡ was → list_all is_finished bs ≡ true → is_finished s0 ≡ false → is_finished s1 ≡ true → is_slot_broken s1 ≡ is_broken text.ending → Longer old.reached.slots bs s1 text.bytes
    → OwnSaid before mid was mid_ended old.reached.slots bs s1 text old.flushed old.failure reply → InTurn bs fs rs → AllByRecursion HasSentNothing cs → AreKept cs rs vs → before.failures < 2 ^ 64 - 1 → SendsLeft rs mid_ended mid new ended
    → Said before new ended (bs ++ (s1 ∷ cs)) old text reply
respond-left before mid new was mid_ended ended bs s0 s1 cs fs rs vs old text reply slots_are over fin open_is done broken l o t uncontinued kept low sends = by-left (begins_left rs) refl sends
  where
    all : List Slot
    all = bs ++ (s1 ∷ cs)

    same : (bs ++ (s1 ∷ [])) ++ cs ≡ bs ++ (s1 ∷ cs)
    same = append_assoc bs (s1 ∷ []) cs

    over2 : (is_some old.failure || is_output_broken bs) ≡ was
    over2 = ap (λ b. is_some old.failure || b) (sym l.breaks) ∙ over

    all-finished : list_all is_finished (bs ++ (s1 ∷ [])) ≡ true
    all-finished = all-snoc is_finished bs s1 fin done

    by-has_ended : (reply : ReplyValue) (failure : Option Failure) → WritesIf was old.failure old.flushed old.reached.slots text all reply failure → WriterPart (used text) old Done all reply failure
    by-has_ended reply failure h = reported old was text all reply failure over h

    -- what is flushed after the step
    flushed_all : flushed_if was old.flushed all ≡ flushed_after (used text) old all
    flushed_all = sym (flushed-is old was all over)

    mid_slots : List Slot
    mid_slots = bs ++ (s1 ∷ [])

    mid_flushed : List ℕ
    mid_flushed = flushed_if was old.flushed mid_slots

    whole_writes : (failure : Option Failure) → OwnWrites was old.failure old.flushed (joined old.reached.slots) text reply failure → WritesIf was old.failure old.flushed old.reached.slots text all reply failure
    whole_writes failure h = own-alternatives was old.failure old.flushed old.reached.slots text all reply failure h

    -- nothing more is sent: what was flushed is all
    joined_alone : joined cs ≡ [] → is_output_broken bs ≡ false → joined mid_slots ≡ joined all
    joined_alone none open_bs = by (is_slot_broken s1) refl
      where
        by : (b : Bool) → is_slot_broken s1 ≡ b → joined mid_slots ≡ joined all
        by b e = joined-front bs (s1 ∷ []) fin open_bs ∙ ap (λ y. joined bs ++ y) (nothing-behind b e) ∙ sym (joined-front bs (s1 ∷ cs) fin open_bs)
          where
            nothing-behind : (b : Bool) → is_slot_broken s1 ≡ b → joined (s1 ∷ []) ≡ joined (s1 ∷ cs)
            nothing-behind true e = rw (done, e) refl
            nothing-behind false e = rw (done, e) (ap (λ y. segment s1 ++ y) (sym none))

    nothing-left : begins_left rs ≡ false → new ≡ mid → ended ≡ mid_ended → Said before new ended all old text reply
    nothing-left e n z =
        let b = joined_behind cs rs vs t.waiting uncontinued kept in
        let no_text : joined cs ≡ [] = b.0 ∙ (none-left rs e).0 in
        let out = plain-more before mid mid_ended mid_slots cs mid_flushed o.failure o.output all-finished no_text b.1 in
        let P : List Slot → Type 0 = λ l. OutputAt before mid mid_ended l mid_flushed o.failure in
        let S : Sink → Bool → Type 0 = λ x y. OutputAt before x y all mid_flushed o.failure in
        let F : List ℕ → Type 0 = λ f. OutputAt before new ended all f o.failure in
        record {
          failure = o.failure;
          output = subst F (same_flushed no_text b.1 ∙ flushed_all) (subst (λ y. S new y) (sym z) (subst (λ x. S x mid_ended) (sym n) (subst P same out)));
          writes = by-has_ended reply o.failure (whole_writes o.failure o.writes);
        }
      where
        same_flushed : joined cs ≡ [] → is_output_broken cs ≡ false → mid_flushed ≡ flushed_if was old.flushed all
        same_flushed none whole = by was refl
          where
            by : (w : Bool) → was ≡ w → flushed_if w old.flushed mid_slots ≡ flushed_if w old.flushed all
            by true e = refl
            by false e = joined_alone none (or-parts (is_some old.failure) (is_output_broken bs) (over2 ∙ e)).1

    left-behind : begins_left rs ≡ true → SendsUnlessEnded mid_ended mid new ended (left_text rs) → IsFlushed new → Said before new ended all old text reply
    left-behind e sent flushed =
        let b = joined_behind cs rs vs t.waiting uncontinued kept in
        let go = output-more before mid new mid_ended ended mid_slots (mid_slots ++ cs) (left_text rs) mid_flushed o.failure o.output (more-behind mid_slots cs (left_text rs) all-finished b.0 b.1) low sent flushed in
        let P : List Slot → Type 0 = λ l. OutputAt before new ended l (flushed_if mid_ended mid_flushed l) go.failure in
        record {
          failure = go.failure;
          output = by-flushed mid_ended refl go.failure go.writes (subst P same go.output);
          writes = by-has_ended reply go.failure (by-mid mid_ended refl go.failure go.writes);
        }
      where
        more : finished_front old.reached.slots + 1 < finished_front all
        more =
            let x : finished_front old.reached.slots ≡ length bs = ap finished_front slots_are ∙ front-all bs (s0 ∷ cs) fin ∙ rw open_is (omega arith) in
            let y : finished_front all ≡ length bs + (finished_front cs + 1) = front-all bs (s1 ∷ cs) fin ∙ rw done refl in
            let z = left-finished cs rs vs kept e in
            omega (arith, x, y, z)

        open-mid : (o2 : OwnSaid before mid was false old.reached.slots bs s1 text old.flushed old.failure reply) → (is_some o2.failure ≡ false) × (text.ending ≡ Whole) × (was ≡ false)
        open-mid o2 = open-whole before mid was old.reached.slots bs s1 text old.flushed old.failure reply fin broken over2 o2

        -- what is flushed where the output goes on behind the answer, and where it has ended by then
        by-flushed : (m : Bool) → mid_ended ≡ m → (failure : Option Failure) → MatchBool mid_ended (failure ≡ o.failure) ((failure ≡ None) ⊎ FailsBetween mid_flushed (joined (mid_slots ++ cs)) failure)
            → OutputAt before new ended all (flushed_if mid_ended mid_flushed all) failure → OutputAt before new ended all (flushed_after (used text) old all) failure
        by-flushed false z failure k h =
            let O : Bool → Type 0 = λ m. OwnSaid before mid was m old.reached.slots bs s1 text old.flushed old.failure reply in
            let w = open-mid (subst O z o) in
            let F : List ℕ → Type 0 = λ f. OutputAt before new ended all f failure in
            let is : flushed_if mid_ended mid_flushed all ≡ flushed_if was old.flushed all = ap (λ m. flushed_if m mid_flushed all) z ∙ sym (ap (λ x. flushed_if x old.flushed all) w.2) in
            subst F (is ∙ flushed_all) h
        by-flushed true z (Some f) k h = h
        by-flushed true z None k h =
            let N : Option Failure = None in
            let M : Bool → Type 0 = λ m. MatchBool m (N ≡ o.failure) ((N ≡ None) ⊎ FailsBetween mid_flushed (joined (mid_slots ++ cs)) N) in
            let none : N ≡ o.failure = subst M z k in
            let gone : (is_some o.failure || is_output_broken mid_slots) ≡ mid_ended = ended-is before mid mid_ended mid_slots mid_flushed o.failure o.output in
            let broken_mid : is_output_broken mid_slots ≡ true = ap (λ x. is_some x || is_output_broken mid_slots) none ∙ gone ∙ z in
            let F : List ℕ → Type 0 = λ f. OutputAt before new ended all f None in
            subst F (ap (λ m. flushed_if m mid_flushed all) z ∙ alike was broken_mid ∙ flushed_all) h
          where
            alike : (w : Bool) → is_output_broken mid_slots ≡ true → flushed_if w old.flushed mid_slots ≡ flushed_if w old.flushed all
            alike true e = refl
            alike false e = sym (joined-broken mid_slots cs e) ∙ ap joined same

        by-mid : (m : Bool) → mid_ended ≡ m → (failure : Option Failure) → MatchBool mid_ended (failure ≡ o.failure) ((failure ≡ None) ⊎ FailsBetween mid_flushed (joined (mid_slots ++ cs)) failure)
            → WritesIf was old.failure old.flushed old.reached.slots text all reply failure
        by-mid true z failure h =
            let M : Bool → Type 0 = λ m. MatchBool m (failure ≡ o.failure) ((failure ≡ None) ⊎ FailsBetween mid_flushed (joined (mid_slots ++ cs)) failure) in
            let k = subst M z h in
            let W : Option Failure → Type 0 = λ f. WritesIf was old.failure old.flushed old.reached.slots text all reply f in
            subst W (sym k) (whole_writes o.failure o.writes)
        by-mid false z failure h =
            let M : Bool → Type 0 = λ m. MatchBool m (failure ≡ o.failure) ((failure ≡ None) ⊎ FailsBetween mid_flushed (joined (mid_slots ++ cs)) failure) in
            let k = subst M z h in
            let O : Bool → Type 0 = λ m. OwnSaid before mid was m old.reached.slots bs s1 text old.flushed old.failure reply in
            let said = subst O z o in
            let w = open-mid said in
            let none_broken : is_output_broken bs ≡ false = (or-parts (is_some old.failure) (is_output_broken bs) (over2 ∙ w.2)).1 in
            let from : mid_flushed ≡ joined old.reached.slots ++ text.bytes = ap (λ x. flushed_if x old.flushed mid_slots) w.2 ∙ sym (longer-alone old.reached.slots bs s1 text.bytes l none_broken) in
            let F : List ℕ → Type 0 = λ y. (failure ≡ None) ⊎ FailsBetween y (joined (mid_slots ++ cs)) failure in
            let G : List Slot → Type 0 = λ l. (failure ≡ None) ⊎ FailsBetween (joined old.reached.slots ++ text.bytes) (joined l) failure in
            behind-alternatives was old.failure old.flushed old.reached.slots text all reply said.failure failure said.writes w.0 w.1 more (subst G same (subst F from k)) w.2

    by-left : (l : Bool) → begins_left rs ≡ l → MatchBool l (SendsUnlessEnded mid_ended mid new ended (left_text rs) × IsFlushed new) ((new ≡ mid) × (ended ≡ mid_ended)) → Said before new ended all old text reply
    by-left true e h = left-behind e h.0 h.1
    by-left false e h = nothing-left e h.0 h.1

-- a number that waits, in its turn
pub record Answerable (k : Kept) (s : State) (n : ℕ) (response_context : ResponseContext) : Type 0 where
  pub bs : List Slot
  pub cs : List Slot
  pub fs : List Mark
  pub rs : List Mark
  pub us : List (Option Unfinished)
  pub vs : List (Option Unfinished)
  pub waiting : OpenRequest UnreadBody
  pub slot : Slot
  pub waits : IsWaiting slot waiting
  pub slots_were : s.reached.slots ≡ bs ++ (slot ∷ cs)
  pub slots_are : s.reached.slots ≡ bs ++ (open_slot waits.handed waits.request waits.given waits.end_reported ∷ cs)
  pub marks_are : k.marks ≡ fs ++ (Open ∷ rs)
  pub requests_are : k.requests ≡ us ++ (Some (still.Waiting waiting) ∷ vs)
  pub at : SlotAt s.reached.slots bs cs (open_slot waits.handed waits.request waits.given waits.end_reported) n
  pub place : length fs ≡ n
  pub response_context_is : response_context ≡ response_context_of (closes_now waits.request waits.handed.closes waits.handed.owed waits.given waits.end_reported) waits.request
  pub kept : slice_get k.requests n ≡ Some (Some (still.Waiting waiting))
  pub slots_place : length bs ≡ n
  pub as_many : length cs ≡ length vs
  pub requests_set : slice_set k.requests n None ≡ us ++ (None ∷ vs)
  pub marks_set : slice_set k.marks n Held ≡ fs ++ (Held ∷ rs)
  pub before : AreKept bs fs us
  pub behind : AreKept cs rs vs
  pub turn : InTurn bs fs rs

pub set-place : {X : Type 0} (xs us vs : List X) (n : ℕ) (x y : X) → xs ≡ us ++ (x ∷ vs) → length us ≡ n → slice_set xs n y ≡ us ++ (y ∷ vs)
set-place xs us vs n x y e place = ap (λ l. slice_set l n y) e ∙ ap (λ m. slice_set (us ++ (x ∷ vs)) m y) (sym place) ∙ set-at us x y vs

pub answerable : (client : Feed) (before : Sink) (k : Kept) (s : State) (n : ℕ) (response_context : ResponseContext) → Represents client before k s → waiting_response_context (slice_get k.requests n) ≡ Some response_context → n ≡ first_unfinished k.marks → Answerable k s n response_context
answerable client before k s n response_context st e first =
    let w = answer-form-some (slice_get k.requests n) response_context e in
    let p = place-of s.reached.slots k.marks k.requests n (still.Waiting w.0) st.numbers w.1 in
    let slots_are = p.slots_are ∙ ap (λ x. p.bs ++ (x ∷ p.cs)) p.waiting.is in
    let S : List Mark → Type 0 = λ m. AreInShape m in
    record {
      bs = p.bs;
      cs = p.cs;
      fs = p.fs;
      rs = p.rs;
      us = p.us;
      vs = p.vs;
      waiting = w.0;
      slot = p.s;
      waits = p.waiting;
      slots_were = p.slots_are;
      slots_are = slots_are;
      marks_are = p.marks_are;
      requests_are = p.requests_are;
      at = slot-at s.reached.slots p.bs p.cs (open_slot p.waiting.handed p.waiting.request p.waiting.given p.waiting.end_reported) n slots_are p.slots_before;
      place = p.marks_before;
      response_context_is = sym w.2 ∙ waiting-final p.s w.0 p.waiting;
      kept = w.1;
      slots_place = p.slots_before;
      as_many = kept-many p.cs p.rs p.vs p.behind;
      requests_set = set-place k.requests p.us p.vs n (Some (still.Waiting w.0)) None p.requests_are p.requests_before;
      marks_set = set-place k.marks p.fs p.rs n Open Held p.marks_are p.marks_before;
      before = p.before;
      behind = p.behind;
      turn = ⊎_elim (λ (t : InTurn p.bs p.fs p.rs). t) (λ (t : OutOfTurn p.bs p.fs p.rs). absurd (t.turn (p.marks_before ∙ first ∙ ap first_unfinished p.marks_are))) (turn-at p.bs p.fs p.us p.rs p.before (subst S p.marks_are st.shape));
    }

-- what a number that waits sends as it ends, behind the 100 that was sent
pub longer-open : {closes : Bool} (old bs cs : List Slot) (asked : HandedOut) (r : Request) (given : ℕ) (end_reported : Bool) (stage : Stage) → old ≡ bs ++ (open_slot asked r given end_reported ∷ cs) → list_all is_finished bs ≡ true
    → Longer old bs (finished_as closes (open_slot asked r given end_reported) stage) (stage_text closes (Asks r) asked.date stage).bytes
longer-open {closes = closes} old bs cs asked r given end_reported stage e fin =
    longer-at old bs cs (open_slot asked r given end_reported) (finished_as closes (open_slot asked r given end_reported) stage) (stage_text closes (Asks r) asked.date stage).bytes e fin refl refl
    (ap (λ y. y ++ (stage_text closes (Asks r) asked.date stage).bytes) (sym (append-nil (opening (Asks r) asked.continued))))

-- what the connection keeps after a step of a number
abbrev pub after_number : Kept → List Mark → List (Option Unfinished) → {R : Type 0} → SourceState R → Sink → Bool → Kept
after_number k marks requests source sink ended =
    record k { marks = marks; requests = requests; input_state = source.input_state; feed = source.feed; stop = source.stop; is_over = source.is_over; sink = sink; output_ended = ended }

-- the reader doesn't see the turns and the output
pub reader-after : {R : Type 0} (client : Feed) (k : Kept) (marks : List Mark) (requests : List (Option Unfinished)) (source : SourceState R) (sink : Sink) (ended : Bool) (slots : List Slot) (rest : List Item) → InputMatches client (with_reader k requests source) slots rest
    → InputMatches client (after_number k marks requests source sink ended) slots rest
reader-after client k marks requests source sink ended slots rest r =
    record { settled = r.settled; gives = r.gives; next = λ e. next-same client (with_reader k requests source) (after_number k marks requests source sink ended) (last_slot slots) (last_slot slots) rest refl refl refl refl refl refl refl refl (r.next e); follows = r.follows; source = r.source }

-- whether the asking has ended after a step
abbrev pub with_ended : Bool → Kept → Kept
with_ended ended k = record k { asking_ended = ended }

-- it has if it had, or if it ends behind the number of the step
abbrev pub with_asking_ended : Bool → Kept → Kept
with_asking_ended ends k = with_ended (k.asking_ended || ends) k

pub neither : (a b : Bool) → (a || b) ≡ false → a ≡ false
neither true b e = let no : true ≡ false = e in cc
neither false b e = refl

pub reader-ended : (client : Feed) (k : Kept) (ended : Bool) (slots : List Slot) (rest : List Item) → (ended ≡ false → k.asking_ended ≡ false) → InputMatches client k slots rest → InputMatches client (with_ended ended k) slots rest
reader-ended client k ended slots rest stays r =
    record { settled = r.settled; gives = r.gives; next = λ e. next-same client k (with_ended ended k) (last_slot slots) (last_slot slots) rest refl refl refl refl refl refl refl refl (r.next (stays e)); follows = r.follows; source = r.source }

-- whether the asking ends behind a number that waits, by what is kept of it
pub lacks-same : (s : Slot) (w : OpenRequest UnreadBody) (h : IsWaiting s w) → ends_when_finished h.request h.handed.owed h.given h.end_reported ≡ (w.by_standard && (w.owes_continue || is_long (remainder w.body)))
lacks-same s w h =
    ap (λ x. x && (h.handed.owed || is_long (remainder_of h.request h.given h.end_reported))) (sym h.standard)
    ∙ (ap (λ x. w.by_standard && (x || is_long (remainder_of h.request h.given h.end_reported))) (sym h.owed)
    ∙ ap (λ l. w.by_standard && (w.owes_continue || is_long l)) (waiting-remainder s w h))

pub stream-same : (s : Slot) (w : OpenRequest UnreadBody) (h : IsWaiting s w) → ends_with_stream h.request h.handed.owed h.given h.end_reported ≡ (w.holds_next_head || (w.by_standard && (w.owes_continue || is_long (remainder w.body))))
stream-same s w h = ap (λ x. x || ends_when_finished h.request h.handed.owed h.given h.end_reported) (sym h.holds) ∙ ap (λ x. w.holds_next_head || x) (lacks-same s w h)

pub both-end : (a b x y : Bool) → a ≡ b → x ≡ y → (a || x) ≡ (b || y)
both-end a b x y e f = ap (λ z. z || x) e ∙ ap (λ z. b || z) f

-- that the data are read whole doesn't see what the answer says of the connection
gathered-by : (by_standard a b : Bool) (v : ResponseValue) (coding : Option Coding) (version : HTTPVersion) (no_body : Bool) (date : HttpDate) → IsGathered v.answer (printing_to coding version no_body (persistence_of by_standard a) date) → IsGathered v.answer (printing_to coding version no_body (persistence_of by_standard b) date)
unfolding answer_coding
gathered-by true a b v coding version no_body date h = h
gathered-by false a b v coding version no_body date h = h

gathered-any : (v : ResponseValue) (r : Request) (date : HttpDate) (closes : Bool) → IsGathered v.answer (to_request closes r date) → IsGathered v.answer (to_request r.framing.is_last r date)
gathered-any v r date closes h = gathered-by r.framing.by_standard closes r.framing.is_last v (coding_for r.framing.by_standard r.message.headers) r.message.version (is_head_method r.message.method) date h

respond-represents : {R : Type 0} (client : Feed) (before : Sink) (k : Kept) (s : State) (date : HttpDate) (n : ℕ) (v : ResponseValue) (response_context : ResponseContext) (found : Bool) (mid new : Sink) (mid_ended ended : Bool) (final : List Mark) (requests : List (Option Unfinished)) (source : SourceState R) (reply : ReplyValue)
    → Represents client before k s → before.failures < 2 ^ 64 - 1 → (a : Answerable k s n response_context) → refuses_at v.answer.status (slice_get k.requests n) ≡ false → asked_to_close v.answer.closes s.reached ≡ s.reached → (found ≡ true) ⊎ IsGathered v.answer (to_request (closes_now a.waits.request a.waits.handed.closes a.waits.handed.owed a.waits.given a.waits.end_reported) a.waits.request date) → requests ≡ slice_set k.requests n None → InputMatches client (with_reader k (a.us ++ (None ∷ a.vs)) source) (a.bs ++ (answered_slot a.waits.handed a.waits.request a.waits.given a.waits.end_reported v date found ∷ a.cs)) s.reached.rest → FinishesFront a.fs a.rs final
    → OwnSaid before mid k.output_ended mid_ended s.reached.slots a.bs (answered_slot a.waits.handed a.waits.request a.waits.given a.waits.end_reported v date found) (response_sent found v (closes_now a.waits.request a.waits.handed.closes a.waits.handed.owed a.waits.given a.waits.end_reported) a.waits.request date) s.flushed s.failure reply → SendsLeft a.rs mid_ended mid new ended
    → StepIsAnswered client before (with_asking_ended (kept_lacks (slice_get k.requests n)) (after_number k final requests source new ended)) s date (Respond n v) reply
respond-represents client before k s date n v response_context found mid new mid_ended ended final requests source reply st low a good fixed lack requests_are reader passes own sends =
    let s0 = open_slot a.waits.handed a.waits.request a.waits.given a.waits.end_reported in
    let s1 = answered_slot a.waits.handed a.waits.request a.waits.given a.waits.end_reported v date found in
    let text = response_sent found v (closes_now a.waits.request a.waits.handed.closes a.waits.handed.owed a.waits.given a.waits.end_reported) a.waits.request date in
    let l = longer-open s.reached.slots a.bs a.cs a.waits.handed a.waits.request a.waits.given a.waits.end_reported (AnsweredBy v date found) a.slots_are a.turn.finished in
    let T : List Slot → Type 0 = λ x. AreSentInTurn x in
    let turns = subst T a.slots_are st.in_turn in
    let said = respond-left before mid new k.output_ended mid_ended ended a.bs s0 s1 a.cs a.fs a.rs a.vs s text reply a.slots_are (ended-is before k.sink k.output_ended s.reached.slots s.flushed s.failure st.output) a.turn.finished refl refl refl l own a.turn (behind-turn a.bs a.cs s0 a.turn.finished refl turns) a.behind low sends in
    let takes = refuses-same a.slot a.waiting a.waits v ∙ ap (refuses_at v.answer.status) (sym a.kept) ∙ good in
    let is = at-turn date a.waits.handed s.reached n v a.waits.request a.waits.given a.waits.end_reported found a.at.get takes (a.at.turn ∙ a.turn.finished) fixed in
    let slots = a.bs ++ (s1 ∷ a.cs) in
    let last = ends_when_finished a.waits.request a.waits.handed.owed a.waits.given a.waits.end_reported in
    let new_state : State = record { reached = record { slots = slots; rest = s.reached.rest; asking_ended = s.reached.asking_ended || last }; flushed = flushed_after (used text) s slots; failure = said.failure } in
    let R : List Slot → Reached = λ l. record { slots = l; rest = s.reached.rest; asking_ended = s.reached.asking_ended || last } in
    let W : List Slot → Type 0 = λ l. WriterPart (used text) s Done l reply said.failure in
    let G : Outcome → Type 0 = λ x. HasOutcome x s reply new_state in
    let has = subst G (sym is) (ap R (sym (a.at.set s1)), ap (flushed_after (used text) s) (sym (a.at.set s1)), subst W (sym (a.at.set s1)) said.writes) in
    let M : List Mark → Type 0 = λ y. AreKept slots y requests in
    let Q : List (Option Unfinished) → Type 0 = λ y. AreKept slots (a.fs ++ (Finished ∷ with_left_finished a.rs)) y in
    let K : List Mark → Type 0 = λ y. AreInShape y in (
      new_state,
      record {
        numbers = subst M (sym passes) (subst Q (sym (requests_are ∙ a.requests_set)) (kept-append a.bs a.fs a.us (s1 ∷ a.cs) (Finished ∷ with_left_finished a.rs) (None ∷ a.vs) a.before (record { finished = refl; given_up = refl }, kept-passed a.cs a.rs a.vs a.behind)));
        shape = subst K (sym passes) a.turn.shape;
        in_turn = turn-set a.bs a.cs s0 s1 (λ q. (q.0, λ z. (let no : true ≡ false = z in cc))) (λ none. refl) turns;
        asking_ended = both-end s.reached.asking_ended k.asking_ended last (kept_lacks (slice_get k.requests n)) st.asking_ended (lacks-same a.slot a.waiting a.waits ∙ sym (ap kept_lacks a.kept));
        reader = reader-ended client (after_number k final requests source new ended) (k.asking_ended || kept_lacks (slice_get k.requests n)) slots s.reached.rest (neither k.asking_ended (kept_lacks (slice_get k.requests n)))
            (reader-after client k final requests source new ended slots s.reached.rest (subst (λ q. InputMatches client (with_reader k q source) slots s.reached.rest) (sym (requests_are ∙ a.requests_set)) reader));
        output = said.output;
      },
      inl (found, lacks found lack a.at.get, has),
    )
  where
    lacks : (t : Bool) → (t ≡ true) ⊎ IsGathered v.answer (to_request (closes_now a.waits.request a.waits.handed.closes a.waits.handed.owed a.waits.given a.waits.end_reported) a.waits.request date) → slice_get s.reached.slots n ≡ Some (open_slot a.waits.handed a.waits.request a.waits.given a.waits.end_reported) → MayLack t date s.reached (Respond n v)
    lacks true l g = tt
    lacks false (inl e) g = cc
    lacks false (inr x) g =
        let P : Option Slot → Type 0 = λ o. GathersAt date v o in
        subst P (sym g) (gathered-any v a.waits.request date (closes_now a.waits.request a.waits.handed.closes a.waits.handed.owed a.waits.given a.waits.end_reported) x)

-- what the call that answers did
pub RespondsBy : Kept → Sink → Bool → ReplyValue → ResponseValue → ResponseContext → HttpDate → Type 0
RespondsBy k mid mid_ended reply v response_context date =
    ((k.output_ended ≡ true) × (mid ≡ k.sink) × (mid_ended ≡ k.output_ended) × (reply ≡ Done))
    ⊎ ((k.output_ended ≡ false) × Answers k.sink mid mid_ended reply v.answer v.content (printing_in response_context date))

pub respond-done : {R : Type 0} (client : Feed) (before : Sink) (k : Kept) (s : State) (date : HttpDate) (n : ℕ) (v : ResponseValue) (response_context : ResponseContext) (mid new : Sink) (mid_ended ended : Bool) (marks final : List Mark) (requests : List (Option Unfinished)) (old source : SourceState R) (reply : ReplyValue)
    → Represents client before k s → IsInput k old → ((w : OpenRequest UnreadBody) → slice_get k.requests n ≡ Some (Some (still.Waiting w)) → GivesUp w.body old source) → before.failures < 2 ^ 64 - 1 → waiting_response_context (slice_get k.requests n) ≡ Some response_context → refuses_at v.answer.status (slice_get k.requests n) ≡ false → asked_to_close v.answer.closes s.reached ≡ s.reached → n ≡ first_unfinished k.marks → marks ≡ slice_set k.marks n Held → requests ≡ slice_set k.requests n None
    → RespondsBy k mid mid_ended reply v response_context date
    → ((front rest : List Mark) → marks ≡ front ++ (Held ∷ rest) → length front ≡ n → FinishesFront front rest final)
    → ((front rest : List Mark) → marks ≡ front ++ (Held ∷ rest) → length front ≡ n → (mid_ended ≡ false → CanSend mid) → SendsLeft rest mid_ended mid new ended)
    → StepIsAnswered client before (with_asking_ended (kept_lacks (slice_get k.requests n)) (after_number k final requests source new ended)) s date (Respond n v) reply
unfolding RespondsBy
respond-done {R = R} client before k s date n v response_context mid new mid_ended ended marks final requests old source reply st from gives low e good fixed first marks_are requests_are own passes sends = by-own own
  where
    a : Answerable k s n response_context
    a = answerable client before k s n response_context st e first

    held : marks ≡ a.fs ++ (Held ∷ a.rs)
    held = marks_are ∙ a.marks_set

    longer_by : (found : Bool) → Longer s.reached.slots a.bs (answered_slot a.waits.handed a.waits.request a.waits.given a.waits.end_reported v date found) (response_sent found v (closes_now a.waits.request a.waits.handed.closes a.waits.handed.owed a.waits.given a.waits.end_reported) a.waits.request date).bytes
    longer_by found = longer-open s.reached.slots a.bs a.cs a.waits.handed a.waits.request a.waits.given a.waits.end_reported (AnsweredBy v date found) a.slots_are a.turn.finished

    reader : (found : Bool) → InputMatches client (with_reader k (a.us ++ (None ∷ a.vs)) source) (a.bs ++ (answered_slot a.waits.handed a.waits.request a.waits.given a.waits.end_reported v date found ∷ a.cs)) s.reached.rest
    reader found =
        let P : List Slot → Type 0 = λ l. InputMatches client k l s.reached.rest in
        reader-given_up (closes_now a.waits.request a.waits.handed.closes a.waits.handed.owed a.waits.given a.waits.end_reported) client k old source a.bs a.cs a.us a.vs s.reached.rest a.slot (Some (still.Waiting a.waiting)) None a.waiting.body (AnsweredBy v date found) (open-waiting a.slot a.waiting a.waits) refl refl from (subst P a.slots_were st.reader) a.requests_are a.as_many (gives a.waiting a.kept)

    answered : (found : Bool) → (found ≡ true) ⊎ IsGathered v.answer (to_request (closes_now a.waits.request a.waits.handed.closes a.waits.handed.owed a.waits.given a.waits.end_reported) a.waits.request date) → OwnSaid before mid k.output_ended mid_ended s.reached.slots a.bs (answered_slot a.waits.handed a.waits.request a.waits.given a.waits.end_reported v date found) (response_sent found v (closes_now a.waits.request a.waits.handed.closes a.waits.handed.owed a.waits.given a.waits.end_reported) a.waits.request date) s.flushed s.failure reply
        → StepIsAnswered client before (with_asking_ended (kept_lacks (slice_get k.requests n)) (after_number k final requests source new ended)) s date (Respond n v) reply
    answered found lack o =
        respond-represents client before k s date n v response_context found mid new mid_ended ended final requests source reply st low a good fixed lack requests_are (reader found) (passes a.fs a.rs held a.place) o
        (sends a.fs a.rs held a.place (can-send before mid mid_ended (a.bs ++ (answered_slot a.waits.handed a.waits.request a.waits.given a.waits.end_reported v date found ∷ [])) (flushed_if k.output_ended s.flushed (a.bs ++ (answered_slot a.waits.handed a.waits.request a.waits.given a.waits.end_reported v date found ∷ []))) o.failure o.output low))

    by-own : RespondsBy k mid mid_ended reply v response_context date → StepIsAnswered client before (with_asking_ended (kept_lacks (slice_get k.requests n)) (after_number k final requests source new ended)) s date (Respond n v) reply
    by-own (inl h) =
        let s1 = answered_slot a.waits.handed a.waits.request a.waits.given a.waits.end_reported v date true in
        let o = own-past before k.sink k.output_ended s.reached.slots a.bs s1 (response_sent true v (closes_now a.waits.request a.waits.handed.closes a.waits.handed.owed a.waits.given a.waits.end_reported) a.waits.request date) s.flushed s.failure st.output (longer_by true) a.turn.finished h.0 in
        let P : Sink → Bool → ReplyValue → Type 0 = λ x y z. OwnSaid before x k.output_ended y s.reached.slots a.bs s1 (response_sent true v (closes_now a.waits.request a.waits.handed.closes a.waits.handed.owed a.waits.given a.waits.end_reported) a.waits.request date) s.flushed s.failure z in
        answered true (inl refl) (subst (λ x. P x mid_ended reply) (sym h.1) (subst (λ y. P k.sink y reply) (sym h.2) (subst (λ z. P k.sink k.output_ended z) (sym h.3) o)))
    by-own (inr h) =
        let own = subst (λ p. Answers k.sink mid mid_ended reply v.answer v.content p) (printed-for (closes_now a.waits.request a.waits.handed.closes a.waits.handed.owed a.waits.given a.waits.end_reported) a.waits.request response_context date a.response_context_is) h.1 in
        let r = own.0 in
        ⊎_elim
        (λ x. answered true (inl refl)
        (own-sent {T = Unit {0}} before k.sink mid k.output_ended mid_ended s.reached.slots a.bs (answered_slot a.waits.handed a.waits.request a.waits.given a.waits.end_reported v date true) (response_sent true v (closes_now a.waits.request a.waits.handed.closes a.waits.handed.owed a.waits.given a.waits.end_reported) a.waits.request date) s.flushed s.failure r reply st.output (longer_by true) a.turn.finished refl refl low h.0
        x own.3 own.1))
        (λ x. answered false (inr x.0)
        (own-sent {T = Unit {0}} before k.sink mid k.output_ended mid_ended s.reached.slots a.bs (answered_slot a.waits.handed a.waits.request a.waits.given a.waits.end_reported v date false) (response_sent false v (closes_now a.waits.request a.waits.handed.closes a.waits.handed.owed a.waits.given a.waits.end_reported) a.waits.request date) s.flushed s.failure r reply st.output (longer_by false) a.turn.finished refl refl low h.0 x.1 own.3 own.1))
        own.2

pub responds-by : (k : Kept) (mid : Sink) (mid_ended : Bool) (reply : ReplyValue) (v : ResponseValue) (response_context : ResponseContext) (date : HttpDate) → (k.output_ended ≡ true → (mid ≡ k.sink) × (mid_ended ≡ k.output_ended) × (reply ≡ Done))
    → (k.output_ended ≡ false → Answers k.sink mid mid_ended reply v.answer v.content (printing_in response_context date)) → RespondsBy k mid mid_ended reply v response_context date
unfolding RespondsBy
responds-by k mid mid_ended reply v response_context date past open_is = by k.output_ended refl
  where
    by : (t : Bool) → k.output_ended ≡ t → RespondsBy k mid mid_ended reply v response_context date
    by true e = let h = past e in inl (e, h.0, h.1, h.2)
    by false e = inr (e, open_is e)

-- what the response gathers, by the slot that it answers
gathers-same : (date : HttpDate) (v : ResponseValue) (r : Request) (x y : Slot) → x.item ≡ Asks r → y.item ≡ Asks r → GathersFor date v x x.item → GathersFor date v y y.item
gathers-same date v r x y e f h =
    let G : Slot → Item → Type 0 = λ z i. GathersFor date v z i in
    subst (λ i. G y i) (sym f) (subst (λ i. G x i) e h)

-- A number is answered, once the last number was told what the response asks: that is the step.
pub respond-asked : (client : Feed) (before : Sink) (k final : Kept) (s : State) (date : HttpDate) (n : ℕ) (v : ResponseValue) (response_context : ResponseContext) (reply : ReplyValue)
    → Represents client before k s → waiting_response_context (slice_get k.requests n) ≡ Some response_context → refuses_at v.answer.status (slice_get k.requests n) ≡ false → n ≡ first_unfinished k.marks
    → StepIsAnswered client before final (asked_state v.answer.closes s) date (Respond n v) reply → StepIsAnswered client before final s date (Respond n v) reply
respond-asked client before k final s date n v response_context reply st e good first h = (h.0, h.1, by h.2)
  where
    a : Answerable k s n response_context
    a = answerable client before k s n response_context st e first

    r : Request
    r = a.waits.request

    was : Slot
    was = open_slot a.waits.handed r a.waits.given a.waits.end_reported

    asked : State
    asked = asked_state v.answer.closes s

    l : (t : Slot) × (ds : List Slot) × (asked.reached.slots ≡ a.bs ++ (t ∷ ds)) × (t.item ≡ was.item) × (t.stage ≡ was.stage)
    l = leads-asked v.answer.closes s a.bs was a.cs a.slots_are

    at : SlotAt asked.reached.slots a.bs l.1 l.0 n
    at = slot-at asked.reached.slots a.bs l.1 l.0 n l.2 a.slots_place

    takes : refuses_response r v ≡ false
    takes = refuses-same a.slot a.waiting a.waits v ∙ ap (refuses_at v.answer.status) (sym a.kept) ∙ good

    same : (found : Bool) → at_number found date asked.reached n (Respond n v) ≡ at_number found date s.reached n (Respond n v)
    same found =
        at-answers found date asked.reached n v r l.0 at.get l.3 l.4 takes (at.turn ∙ a.turn.finished) ∙ ap (λ o. answers found date o r n v) (twice-asked v.answer.closes s)
        ∙ sym (at-answers found date s.reached n v r was a.at.get refl refl takes (a.at.turn ∙ a.turn.finished))

    lacks : (found : Bool) → MayLack found date asked.reached (Respond n v) → MayLack found date s.reached (Respond n v)
    lacks true m = tt
    lacks false m =
        let P : Option Slot → Type 0 = λ o. GathersAt date v o in
        subst P (sym a.at.get) (gathers-same date v r l.0 was l.3 refl (subst P at.get m))

    by : StepsTo asked date (Respond n v) reply h.0 → StepsTo s date (Respond n v) reply h.0
    by (inl x) =
        let O : Outcome → Type 0 = λ o. HasOutcome o asked reply h.0 in
        inl (x.0, lacks x.0 x.1, outcome-asked v.answer.closes (at_number x.0 date s.reached n (Respond n v)) s reply h.0 (subst O (same x.0) x.2))
    by (inr x) = absurd x
