-- An IntoWriter, a Write, a Flush and a Finish: from where the connection stands to where it stands after each.
use Rattle.std.proofs.Common.{◌≡◌, refl, sym, ap, ◌∙◌, subst, ℕ, ◌-◌, ◌<◌, ◌^◌, ◌⊎◌, inl, inr, ⊎_elim, Bool, true, false, not, ◌&&◌, ◌||◌, List, [], ◌∷◌, ◌++◌, length, Option, Some, None, Result, Ok, Err, append_assoc, append-nil, eq-eqb}
use Rattle.std.proofs.lemmas.Bool.{eqb-true}
use Rattle.std.specs.Prelude.{MatchBool, is_some, ◌==◌, OnOk, OnErr, slice_get, slice_set, if◌then◌else◌}
use Rattle.std.specs.List.{list_all}
use Rattle.std.specs.Io.KnownBytes.{append_known}
use Rattle.std.specs.IoError.{error_kind}
use Rattle.std.specs.declared.io.Error.{Error}
use Rattle.std.specs.declared.io.ErrorKind.{ErrorKind}
use Rattle.httpdate.specs.declared.date.HttpDate.{HttpDate}
use Rattle.tiny_http_io.specs.Device.{Feed, Sink, IsFront, Puts, StatesKind}
use Rattle.tiny_http_io.proofs.DeviceLemmas.{IsFront-append}
use Rattle.tiny_http_response.specs.Sending.{CanSend, IsFlushed, Idles, OutletTook, OutletFailed, FailsOnceUnlessEnded}
use Rattle.tiny_http_response.proofs.SendingLemmas.{taken-sent, begins_known}
use Rattle.tiny_http_io.specs.Source.{SourceState}
use Rattle.tiny_http_turns.specs.Turns.{Mark, Open, AreInShape, first_unfinished}
use Rattle.tiny_http_open_request.specs.declared.open_request.OpenRequest.{OpenRequest}
use Rattle.tiny_http_body.specs.declared.body.UnreadBody.{UnreadBody}
use Rattle.tiny_http_body.specs.Body.{remainder, is_long, GivesUp}
use Rattle.tiny_http_open_request.specs.Pipeline.{Item, Asks, Refuses, Request}
use Rattle.tiny_http_body.specs.Text.{Whole}
use Rattle.tiny_http_response.specs.ResponseValue.{ResponseValue}
use Rattle.tiny_http_connection.specs.declared.pending.Unfinished.{Unfinished}
use Rattle.tiny_http_connection.specs.declared.pending.Unfinished.TheVariants as still
use Rattle.tiny_http_connection.specs.Segments.{Slot, Stage, Unanswered, Answered as AnsweredBy, ByServer, Raw, Upgraded, is_stage_finished, is_finished, is_broken, is_slot_broken, opening, stage_text, segment, is_last_item}
use Rattle.tiny_http_connection.specs.Slots.{is_output_broken, joined, turn_has_come, body_was_abandoned}
use Rattle.tiny_http_connection.specs.Steps.{StepValue, IntoWriter, Write, Flush, Finish, ReplyValue, Done, Fault, NotYet, NoSuch, is_done}
use Rattle.tiny_http_connection.specs.Outcomes.{WriterUse, Unused, Reported, Outcome, Reached, unchanged, changes, ends_asking, ends_with_stream, finished_as, written_to, stage_closed, accepts_step, needs_turn, effect, at_item, at_slot, at_number, outcome}
use Rattle.tiny_http_connection.specs.Seen.{write_reply, IsOfWriter, ReportsOfWriter}
use Rattle.tiny_http_connection.specs.Driving.{IsDeclined}
use Rattle.tiny_http_connection.specs.declared.driver.Step.TheVariants as step
use Rattle.std.specs.Global.{Vec}
use Rattle.tiny_http_connection.specs.Conversation.{Failure, State, flushed_after, WriterPart, HasOutcome}
use Rattle.tiny_http_connection.specs.Pending.{kept_body, is_writable, GivesUpIfKept, LeavesText}
use Rattle.tiny_http_connection.specs.Connection.{Kept, rest_in, open_slot, IsWaiting, IsRaw, IsUpgraded, KeepsUnfinished, AreSentInTurn, AreKept, OutputAt, InputMatches, Represents, behind_item}
use Rattle.tiny_http_connection.proofs.ConversationWriting.{FailsReported, flushed_if, written, flushed-is}
use Rattle.tiny_http_connection.proofs.ConnectionAsk.{StepIsAnswered, step-unchanged}
use Rattle.tiny_http_connection.proofs.ConnectionBody.{IsInput, Alike, with_reader, reader-alike, reader-given_up}
use Rattle.tiny_http_connection.proofs.ConnectionKept.{kept-append, kept-many, KeptAt, place-of, unfinished-is, unfinished-whole, unfinished-asks, InTurn, OutOfTurn, turn-at}
use Rattle.tiny_http_connection.proofs.ConnectionLeaving.{EndsAs, leave-done}
use Rattle.tiny_http_connection.proofs.ConnectionOutput.{ended-is, output-same, lost-output, all-firm, More, longer-at, more-ended}
use Rattle.tiny_http_connection.proofs.ConnectionReader.{open-waiting}
use Rattle.tiny_http_connection.proofs.ConnectionRespond.{TakesNone, NeedsWaiting, not-taken, SlotAt, slot-at, set-place, after_number, reader-after, with_asking_ended, reader-ended, neither, both-end, stream-same}
use Rattle.tiny_http_connection.proofs.ConnectionTurns.{turn-set, turn-continued}
use Rattle.tiny_http_connection.proofs.SlotsLemmas.{joined-alike, breaks-waits}

pub into_writer-not_taken : (n : ℕ) → NeedsWaiting (IntoWriter n)
into_writer-not_taken n Unanswered owed e = cc
into_writer-not_taken n (AnsweredBy r d f) owed e = refl
into_writer-not_taken n ByServer owed e = refl
into_writer-not_taken n (Raw w c) owed e = refl
into_writer-not_taken n (Upgraded p r d w c) owed e = refl

-- the slot whose raw writer was taken
abbrev raw_slot : (s : Slot) (w : OpenRequest UnreadBody) → IsWaiting s w → Slot
raw_slot s w h = finished_as h.handed.closes (open_slot h.handed h.request h.given h.end_reported) (Raw [] false)

pub into_writer-done : {R : Type 0} (client : Feed) (before : Sink) (k : Kept) (s : State) (date : HttpDate) (n : ℕ) (w : OpenRequest UnreadBody) (requests : List (Option Unfinished)) (old source : SourceState R) → Represents client before k s → IsInput k old → GivesUp w.body old source → slice_get k.requests n ≡ Some (Some (still.Waiting w))
    → requests ≡ slice_set k.requests n (Some still.Raw) → StepIsAnswered client before (with_asking_ended (w.holds_next_head || (w.by_standard && (w.owes_continue || is_long (remainder w.body)))) (with_reader k requests source)) s date (IntoWriter n) Done
into_writer-done {R = R} client before k s date n w requests old source st from gives e requests_are =
    let L : List (Option Unfinished) → Type 0 = λ l. StepIsAnswered client before (with_asking_ended (w.holds_next_head || (w.by_standard && (w.owes_continue || is_long (remainder w.body)))) (with_reader k l source)) s date (IntoWriter n) Done in
    subst L (sym set) (
      state,
      record {
        numbers = subst M (sym p.marks_are) (kept-append p.bs p.fs p.us (s1 ∷ p.cs) (Open ∷ p.rs) (Some still.Raw ∷ p.vs) p.before (record { request = h.request; item = refl; written = []; stage = refl; given_up = refl }, p.behind));
        shape = st.shape;
        in_turn = turn-set p.bs p.cs s0 s1 (λ q. (q.0, λ z. refl)) (λ done. done) (subst T open_is st.in_turn);
        asking_ended = both-end s.reached.asking_ended k.asking_ended (ends_with_stream h.request h.handed.owed h.given h.end_reported) ends st.asking_ended (stream-same p.s w h);
        reader = reader-ended client (with_reader k (p.us ++ (Some still.Raw ∷ p.vs)) source) (k.asking_ended || ends) slots s.reached.rest (neither k.asking_ended ends)
            (reader-given_up p.waiting.handed.closes client k old source p.bs p.cs p.us p.vs s.reached.rest p.s (Some (still.Waiting w)) (Some still.Raw) w.body (Raw [] false) (open-waiting p.s w h) refl refl from (subst P p.slots_are st.reader) p.requests_are (kept-many p.cs p.rs p.vs p.behind) gives);
        output = output-same before k.sink k.output_ended s.reached.slots slots s.flushed s.failure joined_same breaks_same st.output;
      },
      inl (true, tt, subst G (sym is) (ap A (sym (at.set s1)), refl, (refl, refl))),
    )
  where
    p : KeptAt s.reached.slots k.marks k.requests n (still.Waiting w)
    p = place-of s.reached.slots k.marks k.requests n (still.Waiting w) st.numbers e

    h : IsWaiting p.s w
    h = p.waiting

    ends : Bool
    ends = w.holds_next_head || (w.by_standard && (w.owes_continue || is_long (remainder w.body)))

    s0 : Slot
    s0 = open_slot h.handed h.request h.given h.end_reported

    s1 : Slot
    s1 = raw_slot p.s w h

    slots : List Slot
    slots = p.bs ++ (s1 ∷ p.cs)

    P : List Slot → Type 0
    P l = InputMatches client k l s.reached.rest

    M : List Mark → Type 0
    M m = AreKept slots m (p.us ++ (Some still.Raw ∷ p.vs))

    T : List Slot → Type 0
    T x = AreSentInTurn x

    set : requests ≡ p.us ++ (Some still.Raw ∷ p.vs)
    set = requests_are ∙ set-place k.requests p.us p.vs n (Some (still.Waiting w)) (Some still.Raw) p.requests_are p.requests_before

    at : SlotAt s.reached.slots p.bs p.cs p.s n
    at = slot-at s.reached.slots p.bs p.cs p.s n p.slots_are p.slots_before

    open_is : s.reached.slots ≡ p.bs ++ (s0 ∷ p.cs)
    open_is = p.slots_are ∙ ap (λ x. p.bs ++ (x ∷ p.cs)) h.is

    joined_same : joined s.reached.slots ≡ joined slots
    joined_same = ap joined open_is ∙ joined-alike p.bs s0 s1 p.cs refl refl refl

    breaks_same : is_output_broken s.reached.slots ≡ is_output_broken slots
    breaks_same = ap is_output_broken open_is ∙ breaks-waits p.bs s0 p.cs refl refl ∙ sym (breaks-waits p.bs s1 p.cs refl refl)

    state : State
    state = record { reached = record { slots = slots; rest = s.reached.rest; asking_ended = s.reached.asking_ended || ends_with_stream h.request h.handed.owed h.given h.end_reported }; flushed = s.flushed; failure = s.failure }

    A : List Slot → Reached
    A l = record { slots = l; rest = s.reached.rest; asking_ended = s.reached.asking_ended || ends_with_stream h.request h.handed.owed h.given h.end_reported }

    G : Outcome → Type 0
    G o = HasOutcome o s Done state

    is : at_number true date s.reached n (IntoWriter n) ≡ ends_asking (ends_with_stream h.request h.handed.owed h.given h.end_reported) (changes s.reached n s1 Done Unused)
    is =
        let B : Slot → Outcome = λ x. at_slot true date s.reached n (IntoWriter n) (Some x) in
        ap (at_slot true date s.reached n (IntoWriter n)) at.get ∙ ap B h.is

-- a step of a raw writer or an upgraded stream
pub record OfWriter (step : StepValue) : Type 0 where
  pub finished : TakesNone step
  pub waiting : (owed : Bool) → accepts_step Unanswered owed step ≡ false
  pub raw : (bytes : List ℕ) (owed : Bool) → accepts_step (Raw bytes false) owed step ≡ true
  pub upgraded : (protocol : List ℕ) (response : ResponseValue) (date : HttpDate) (bytes : List ℕ) (owed : Bool) → accepts_step (Upgraded protocol response date bytes false) owed step ≡ true

write-not_taken : (n : ℕ) (bytes : List ℕ) → TakesNone (Write n bytes)
write-not_taken n bytes Unanswered owed e = refl
write-not_taken n bytes (AnsweredBy r d f) owed e = refl
write-not_taken n bytes ByServer owed e = refl
write-not_taken n bytes (Raw w c) owed e = ap not e
write-not_taken n bytes (Upgraded p r d w c) owed e = ap not e

flush-not_taken : (n : ℕ) → TakesNone (Flush n)
flush-not_taken n Unanswered owed e = refl
flush-not_taken n (AnsweredBy r d f) owed e = refl
flush-not_taken n ByServer owed e = refl
flush-not_taken n (Raw w c) owed e = ap not e
flush-not_taken n (Upgraded p r d w c) owed e = ap not e

finish-not_taken : (n : ℕ) → TakesNone (Finish n)
finish-not_taken n Unanswered owed e = refl
finish-not_taken n (AnsweredBy r d f) owed e = refl
finish-not_taken n ByServer owed e = refl
finish-not_taken n (Raw w c) owed e = ap not e
finish-not_taken n (Upgraded p r d w c) owed e = ap not e

pub a-write : (n : ℕ) (bytes : List ℕ) → OfWriter (Write n bytes)
a-write n bytes = record { finished = write-not_taken n bytes; waiting = λ owed. refl; raw = λ b owed. refl; upgraded = λ p r d b owed. refl }

pub a-flush : (n : ℕ) → OfWriter (Flush n)
a-flush n = record { finished = flush-not_taken n; waiting = λ owed. refl; raw = λ b owed. refl; upgraded = λ p r d b owed. refl }

pub a-finish : (n : ℕ) → OfWriter (Finish n)
a-finish n = record { finished = finish-not_taken n; waiting = λ owed. refl; raw = λ b owed. refl; upgraded = λ p r d b owed. refl }

-- a number that waits takes none of them
unfit : (step : StepValue) → OfWriter step → (x : Slot) (u : Unfinished) → KeepsUnfinished x u → is_writable (Some (Some u)) ≡ false → accepts_step x.stage x.owed step ≡ false
unfit step o x (still.Waiting w) h e = ap (λ (y : Slot). accepts_step y.stage y.owed step) h.is ∙ o.waiting h.handed.owed
unfit step o x still.Raw h e = cc
unfit step o x (still.Upgraded b) h e = cc

-- one whose raw writer or stream is in use takes all
fit : (step : StepValue) → OfWriter step → (x : Slot) (u : Unfinished) → KeepsUnfinished x u → is_writable (Some (Some u)) ≡ true → accepts_step x.stage x.owed step ≡ true
fit step o x (still.Waiting w) h e = cc
fit step o x still.Raw h e = ap (λ y. accepts_step y x.owed step) h.stage ∙ o.raw h.written x.owed
fit step o x (still.Upgraded b) h e = ap (λ (y : Slot). accepts_step y.stage x.owed step) h.opened.is ∙ ap (λ y. accepts_step y x.owed step) h.stage ∙ o.upgraded h.protocol h.response h.date h.written x.owed

-- no raw writer and no stream of this number is in use
pub no-writer : (client : Feed) (before : Sink) (k : Kept) (s : State) (date : HttpDate) (n : ℕ) (step : StepValue) → outcome true date s.reached step ≡ at_number true date s.reached n step → OfWriter step → Represents client before k s → is_writable (slice_get k.requests n) ≡ false
    → StepIsAnswered client before k s date step NoSuch
no-writer client before k s date n step at o st free = not-taken client before k s date n step at o.finished st (λ x u e h. unfit step o x u h (ap is_writable (sym e) ∙ free))

-- one that is in use
pub writable-some : (o : Option (Option Unfinished)) → is_writable o ≡ true → (u : Unfinished) × (o ≡ Some (Some u)) × (is_writable (Some (Some u)) ≡ true)
writable-some None e = cc
writable-some (Some None) e = cc
writable-some (Some (Some (still.Waiting w))) e = cc
writable-some (Some (Some still.Raw)) e = (still.Raw, refl, refl)
writable-some (Some (Some (still.Upgraded b))) e = (still.Upgraded b, refl, refl)

-- the step of a number of which this is kept, where it is accepted
at-accepted : (date : HttpDate) (old : Reached) (n : ℕ) (step : StepValue) (x : Slot) (r : Request) (t : Bool) → slice_get old.slots n ≡ Some x → x.item ≡ Asks r → accepts_step x.stage x.owed step ≡ true → turn_has_come n old.slots ≡ t
    → at_number true date old n step ≡ (if (needs_turn r x step && not t) then unchanged old NotYet else effect true date old r x t step)
at-accepted date old n step x r t get item accepts turn =
    let I : Item → Outcome = λ i. at_item true date old n step x i in
    ap (at_slot true date old n step) get ∙ ap I item ∙ rw (accepts, turn) refl

-- its turn hasn't come
pub writer-not_yet : (client : Feed) (before : Sink) (k : Kept) (s : State) (date : HttpDate) (n : ℕ) (step : StepValue) (u : Unfinished) → outcome true date s.reached step ≡ at_number true date s.reached n step → OfWriter step → ((r : Request) (x : Slot) → needs_turn r x step ≡ true) → Represents client before k s
    → slice_get k.requests n ≡ Some (Some u) → is_writable (Some (Some u)) ≡ true → (n == first_unfinished k.marks) ≡ false → StepIsAnswered client before k s date step NotYet
writer-not_yet client before k s date n step u is o needs st e writable early =
    let p = place-of s.reached.slots k.marks k.requests n u st.numbers e in
    let at = slot-at s.reached.slots p.bs p.cs p.s n p.slots_are p.slots_before in
    let S : List Mark → Type 0 = λ m. AreInShape m in
    let never : (t : InTurn p.bs p.fs p.rs) → ⊥ = λ t. (let come = eq-eqb n (first_unfinished k.marks) (sym p.marks_before ∙ t.turn ∙ ap first_unfinished (sym p.marks_are)) in let no : true ≡ false = sym come ∙ early in cc) in
    let late : list_all is_finished p.bs ≡ false = ⊎_elim (λ (t : InTurn p.bs p.fs p.rs). absurd (never t)) (λ (t : OutOfTurn p.bs p.fs p.rs). t.unfinished) (turn-at p.bs p.fs p.us p.rs p.before (subst S p.marks_are st.shape)) in
    let r = unfinished-asks p.s u p.waiting in
    step-unchanged client before k s date step NotYet st
    (is ∙ at-accepted date s.reached n step p.s r.0 false at.get r.1 (fit step o p.s u p.waiting writable) (at.turn ∙ late) ∙ rw (needs r.0 p.s) refl)

-- slots of one request, alike in what was read of its body
alike-by : (s t : Slot) (r : Request) → s.item ≡ Asks r → t.item ≡ s.item → t.given ≡ s.given → t.end_reported ≡ s.end_reported → t.given_up ≡ s.given_up → Alike s t
alike-by s t r asks item given reported up = record {
  last = ap is_last_item item;
  abandoned = ap (body_was_abandoned t) item ∙ at s.item asks;
  left = ap (rest_in t.given) item ∙ ap (λ g. rest_in g s.item) given;
  behind = ap behind_item item;
}
  where
    at : (i : Item) → i ≡ Asks r → body_was_abandoned t i ≡ body_was_abandoned s i
    at (Refuses a b c d) e = refl
    at (Asks q) e = rw (reported, up) refl

-- A step that keeps a number's writer in use, and after which its slot sends this more.
pub record KeepsOn (s t : Slot) (u : Unfinished) (own : List ℕ) : Type 0 where
  pub kept : KeepsUnfinished t u
  pub sends : segment t ≡ segment s ++ own
  pub alike : Alike s t

-- the slot after a Write
abbrev pub written_slot : List ℕ → Slot → Slot
written_slot bytes s = record s { stage = written_to bytes s.stage }

-- what it sends
longer-by : (bytes : List ℕ) (s : Slot) (stage : Stage) → ((item : Item) → (stage_text s.closes item s.date (written_to bytes stage)).bytes ≡ (stage_text s.closes item s.date stage).bytes ++ bytes) → s.stage ≡ stage → segment (written_slot bytes s) ≡ segment s ++ bytes
longer-by bytes s stage more e =
    let A : Stage → List ℕ = λ x. opening s.item s.continued ++ (stage_text s.closes s.item s.date (written_to bytes x)).bytes in
    let B : Stage → List ℕ = λ x. (opening s.item s.continued ++ (stage_text s.closes s.item s.date x).bytes) ++ bytes in
    ap A e ∙ ap (λ x. opening s.item s.continued ++ x) (more s.item) ∙ sym (append_assoc (opening s.item s.continued) (stage_text s.closes s.item s.date stage).bytes bytes) ∙ ap B (sym e)

keeps-raw : (bytes : List ℕ) (s : Slot) → IsRaw s → KeepsOn s (written_slot bytes s) still.Raw bytes
keeps-raw bytes s h = record {
  kept = record { request = h.request; item = h.item; written = h.written ++ bytes; stage = ap (written_to bytes) h.stage; given_up = h.given_up };
  sends = longer-by bytes s (Raw h.written false) (λ item. refl) h.stage;
  alike = alike-by s (written_slot bytes s) h.request h.item refl refl refl refl;
}

still-upgraded : (bytes : List ℕ) (s : Slot) (b : UnreadBody) → IsUpgraded s b → IsUpgraded (written_slot bytes s) b
still-upgraded bytes s b h =
    let o = h.opened in
    record {
      opened = record { request = o.request; handed = o.handed; stage = written_to bytes o.stage; given = o.given; end_reported = o.end_reported; is = ap (written_slot bytes) o.is; rest_is_last = o.rest_is_last; fits = o.fits; settled = o.settled };
      protocol = h.protocol;
      response = h.response;
      date = h.date;
      written = h.written ++ bytes;
      stage = ap (written_to bytes) h.stage;
    }

keeps-upgraded : (bytes : List ℕ) (s : Slot) (b : UnreadBody) → IsUpgraded s b → KeepsOn s (written_slot bytes s) (still.Upgraded b) bytes
keeps-upgraded bytes s b h =
    let o = h.opened in
    let stage_is : s.stage ≡ Upgraded h.protocol h.response h.date h.written false = ap (λ (x : Slot). x.stage) o.is ∙ h.stage in
    record {
      kept = still-upgraded bytes s b h;
      sends = longer-by bytes s (Upgraded h.protocol h.response h.date h.written false) (λ item. sym (append_assoc _ h.written bytes)) stage_is;
      alike = alike-by s (written_slot bytes s) o.request (ap (λ (x : Slot). x.item) o.is) refl refl refl refl;
    }

no-writer_waits : {X : Type 0} (w : OpenRequest UnreadBody) → is_writable (Some (Some (still.Waiting w))) ≡ true → X
no-writer_waits w e = cc

pub keeps-written : (bytes : List ℕ) (s : Slot) (u : Unfinished) → KeepsUnfinished s u → is_writable (Some (Some u)) ≡ true → KeepsOn s (written_slot bytes s) u bytes
keeps-written bytes s (still.Waiting w) h e = no-writer_waits w e
keeps-written bytes s still.Raw h e = keeps-raw bytes s h
keeps-written bytes s (still.Upgraded b) h e = keeps-upgraded bytes s b h

pub keeps-same : (s : Slot) (u : Unfinished) → KeepsUnfinished s u → KeepsOn s s u []
keeps-same s u h = record { kept = h; sends = sym (append-nil (segment s)); alike = record { last = refl; abandoned = refl; left = refl; behind = refl } }

-- what the call does: an output that has ended takes nothing; else the bytes were taken, or the writer failed in them
abbrev pub WritesOwn : {T : Type 0} → Bool → Sink → Sink → Bool → Result T Error → List ℕ → Type 0
WritesOwn was old new ended r own =
    MatchBool was (Idles old new × (ended ≡ true) × (write_reply r ≡ Done))
    (((ended ≡ false) × (new.has_ended ≡ false) × OutletTook old new own × (write_reply r ≡ Done)) ⊎ ((kind : ErrorKind) × (ended ≡ true) × OutletFailed old new own kind × (write_reply r ≡ Fault kind)))

pub writes-own : {T : Type 0} (old new : Sink) (was ended : Bool) (r : Result T Error) (own : List ℕ) → old.has_ended ≡ was → Puts old new r own → OnErr r (ended ≡ true) → OnOk r (ended ≡ was) → WritesOwn was old new ended r own
writes-own {T = T} old new was ended (Ok x) own open_is puts err ok = by was open_is ok
  where
    by : (b : Bool) → old.has_ended ≡ b → ended ≡ b → WritesOwn {T = T} b old new ended (Ok x) own
    by true e z =
        let same : new.taken ≡ old.taken = puts.bytes ∙ rw e refl in
        (record { bytes = same; failures = puts.failures; last_kind = puts.last_kind; stays = puts.stays }, z, refl)
    by false e z = inl (z, puts.stays ∙ e, taken-sent old new own e puts, refl)
writes-own {T = T} old new was ended (Err x) own open_is puts err ok = by was (sym open_is ∙ puts.was_open)
  where
    by : (b : Bool) → b ≡ false → WritesOwn {T = T} b old new ended (Err x) own
    by true e = cc
    by false e = inr (error_kind x, err, record { bytes = puts.bytes; keeps = begins_known old.sent new.sent new.taken puts.sent puts.keeps; failures = puts.failures; last_kind = puts.last_kind }, refl)

-- what is flushed after the call, by whether it flushes and whether the output had ended
abbrev pub flushed_by : Bool → Bool → List ℕ → List Slot → List ℕ
flushed_by true was flushed slots = flushed_if was flushed slots
flushed_by false was flushed slots = flushed

-- the output after it
pub record OwnGoes (before new : Sink) (flushes was ended : Bool) (old slots : List Slot) (own flushed : List ℕ) (failed : Option Failure) (reply : ReplyValue) : Type 0 where
  pub failure : Option Failure
  pub output : OutputAt before new ended slots (flushed_by flushes was flushed slots) failure
  pub writes : MatchBool was ((reply ≡ Done) × (failure ≡ failed)) (((reply ≡ Done) × (failure ≡ None)) ⊎ FailsReported Fault reply flushed (joined old ++ own) failure)

ended-flushed : (flushes : Bool) (before new : Sink) (ended : Bool) (slots : List Slot) (flushed : List ℕ) (failure : Option Failure) → OutputAt before new ended slots flushed failure → OutputAt before new ended slots (flushed_by flushes true flushed slots) failure
ended-flushed true before new ended slots flushed failure h = h
ended-flushed false before new ended slots flushed failure h = h

pub own-goes : {T : Type 0} (flushes : Bool) (before sink new : Sink) (e ended : Bool) (old slots : List Slot) (own flushed : List ℕ) (failure : Option Failure) (r : Result T Error) → OutputAt before sink e old flushed failure → More old slots own → before.failures < 2 ^ 64 - 1 → WritesOwn {T = T} e sink new ended r own
    → (flushes ≡ true → IsFlushed new) → OwnGoes before new flushes e ended old slots own flushed failure (write_reply r)
own-goes flushes before sink new true ended old slots own flushed failure r h m low w firm =
    record { failure = failure; output = ended-flushed flushes before new ended slots flushed failure (more-ended before sink new ended old slots own flushed failure h m w.0 w.1); writes = (w.2, refl) }
own-goes flushes before sink new false ended old slots own flushed (Some f) r h m low w firm = let none : false ≡ true = h.3 in cc
own-goes {T = T} flushes before sink new false ended old slots own flushed None r h m low w firm = ⊎_elim took failed w
  where
    none : is_output_broken old ≡ false
    none = sym h.3

    longer : joined old ++ own ≡ joined slots
    longer = m.longer none

    took : (ended ≡ false) × (new.has_ended ≡ false) × OutletTook sink new own × (write_reply r ≡ Done) → OwnGoes before new flushes false ended old slots own flushed None (write_reply r)
    took k =
        let taken : new.taken ≡ Some (joined slots) = k.2.bytes ∙ ap (λ x. append_known x own) h.0 ∙ ap Some longer in
        record {
          failure = None;
          output = by flushes firm taken;
          writes = inl (k.3, refl);
        }
      where
        by : (b : Bool) → (b ≡ true → IsFlushed new) → new.taken ≡ Some (joined slots) → OutputAt before new ended slots (flushed_by b false flushed slots) None
        by true firm taken = (taken, k.2.failures ∙ h.1, k.1 ∙ sym k.0, k.0 ∙ sym (m.breaks ∙ none), ([], sym (append-nil (joined slots))), λ z. all-firm new (joined slots) taken (firm refl k.1))
        by false firm taken =
            let grows : IsFront (joined old) (joined slots) = (own, sym longer) in
            (taken, k.2.failures ∙ h.1, k.1 ∙ sym k.0, k.0 ∙ sym (m.breaks ∙ none), IsFront-append flushed (joined old) (joined slots) h.4 grows, λ z. IsFront-append flushed sink.sent new.sent (h.5 refl) k.2.sent)

    failed : (kind : ErrorKind) × (ended ≡ true) × OutletFailed sink new own kind × (write_reply r ≡ Fault kind) → OwnGoes before new flushes false ended old slots own flushed None (write_reply r)
    failed k =
        let z = lost-output before sink new (joined old) own flushed k.0 h.0 h.1 (h.5 refl) low k.2 in
        let f : Failure = record { kind = k.0; output = z.output } in
        record {
          failure = Some f;
          output = (z.taken, z.failures, z.stated, k.1);
          writes = inr (f, refl, k.3, z.begins, z.front);
        }

-- how such a step uses the writer
abbrev pub own_use : Bool → List ℕ → WriterUse
own_use flushes own = Reported own None flushes Fault

flushed-own : (flushes : Bool) (s : State) (was : Bool) (own : List ℕ) (slots : List Slot) → (is_some s.failure || is_output_broken s.reached.slots) ≡ was → flushed_after (own_use flushes own) s slots ≡ flushed_by flushes was s.flushed slots
flushed-own true s was own slots over = flushed-is s was slots over
flushed-own false s was own slots over = refl

-- A Write or a Flush of a number whose turn has come. `u`: what is kept of it; `s1`: its slot after the step.
pub own-done : {R T : Type 0} (client : Feed) (before : Sink) (k : Kept) (s : State) (date : HttpDate) (n : ℕ) (u : Unfinished) (p : KeptAt s.reached.slots k.marks k.requests n u) (s1 : Slot) (step : StepValue) (flushes : Bool) (own : List ℕ) (new : Sink) (ended : Bool) (r : Result T Error) (source : SourceState R)
    → Represents client before k s → IsInput k source → before.failures < 2 ^ 64 - 1 → (n == first_unfinished k.marks) ≡ true → KeepsOn p.s s1 u own → (turn_has_come n s.reached.slots ≡ true → outcome true date s.reached step ≡ changes s.reached n s1 Done (own_use flushes own))
    → k.sink.has_ended ≡ k.output_ended → WritesOwn {T = T} k.output_ended k.sink new ended r own → (flushes ≡ true → IsFlushed new) → StepIsAnswered client before (after_number k k.marks k.requests source new ended) s date step (write_reply r)
own-done {R = R} {T = T} client before k s date n u p s1 step flushes own new ended r source st from low come keeps is open_sink writes firm =
    ⊎_elim in-turn (λ (t : OutOfTurn p.bs p.fs p.rs). absurd (t.turn (p.marks_before ∙ eqb-true n (first_unfinished k.marks) come ∙ ap first_unfinished p.marks_are))) (turn-at p.bs p.fs p.us p.rs p.before (subst S p.marks_are st.shape))
  where
    S : List Mark → Type 0
    S m = AreInShape m

    slots : List Slot
    slots = p.bs ++ (s1 ∷ p.cs)

    unfinished : is_finished p.s ≡ false
    unfinished = unfinished-is p.s u p.waiting

    still_unfinished : is_finished s1 ≡ false
    still_unfinished = unfinished-is s1 u keeps.kept

    whole : is_slot_broken p.s ≡ false
    whole = unfinished-whole p.s u p.waiting

    still_whole : is_slot_broken s1 ≡ false
    still_whole = unfinished-whole s1 u keeps.kept

    reader : InputMatches client (with_reader k k.requests source) slots s.reached.rest
    reader =
        let P : List Slot → Type 0 = λ l. InputMatches client k l s.reached.rest in
        let Q : List (Option Unfinished) → Type 0 = λ q. InputMatches client (with_reader k q source) slots s.reached.rest in
        subst Q (sym p.requests_are) (reader-alike client k source p.bs p.cs p.us p.vs s.reached.rest p.s s1 (Some u) (Some u) from (subst P p.slots_are st.reader) p.requests_are (kept-many p.cs p.rs p.vs p.behind) refl (λ e. e) keeps.alike)

    in-turn : InTurn p.bs p.fs p.rs → StepIsAnswered client before (after_number k k.marks k.requests source new ended) s date step (write_reply r)
    in-turn t =
        let long = longer-at s.reached.slots p.bs p.cs p.s s1 own p.slots_are t.finished unfinished whole keeps.sends in
        let m : More s.reached.slots slots own = record {
          breaks = breaks-waits p.bs s1 p.cs still_whole still_unfinished ∙ sym long.breaks;
          longer = λ none. sym (append-nil (joined s.reached.slots ++ own)) ∙ sym (long.longer (sym long.breaks ∙ none) p.cs ∙ rw still_unfinished refl);
          broken = λ z. sym (long.broken (sym long.breaks ∙ z) p.cs);
        } in
        let go = own-goes {T = T} flushes before k.sink new k.output_ended ended s.reached.slots slots own s.flushed s.failure r st.output m low writes firm in
        let over = ended-is before k.sink k.output_ended s.reached.slots s.flushed s.failure st.output in
        let at = slot-at s.reached.slots p.bs p.cs p.s n p.slots_are p.slots_before in
        let is_now : outcome true date s.reached step ≡ changes s.reached n s1 Done (own_use flushes own) = is (at.turn ∙ t.finished) in
        let own_writer : WriterUse = own_use flushes own in
        let new_state : State = record { reached = record { slots = slots; rest = s.reached.rest; asking_ended = s.reached.asking_ended }; flushed = flushed_after own_writer s slots; failure = go.failure } in
        let L : List Slot → Reached = λ l. record { slots = l; rest = s.reached.rest; asking_ended = s.reached.asking_ended } in
        let W : List Slot → Type 0 = λ l. WriterPart own_writer s Done l (write_reply r) go.failure in
        let G : Outcome → Type 0 = λ x. HasOutcome x s (write_reply r) new_state in
        let M : List Mark → Type 0 = λ y. AreKept slots y k.requests in
        let Q : List (Option Unfinished) → Type 0 = λ y. AreKept slots (p.fs ++ (Open ∷ p.rs)) y in
        let C : List Slot → Type 0 = λ x. AreSentInTurn x in
        let F : List ℕ → Type 0 = λ f. OutputAt before new ended slots f go.failure in (
          new_state,
          record {
            numbers = subst M (sym p.marks_are) (subst Q (sym p.requests_are) (kept-append p.bs p.fs p.us (s1 ∷ p.cs) (Open ∷ p.rs) (Some u ∷ p.vs) p.before (keeps.kept, p.behind)));
            shape = st.shape;
            in_turn = turn-continued p.bs p.cs p.s s1 t.finished unfinished still_unfinished (subst C p.slots_are st.in_turn);
            asking_ended = st.asking_ended;
            reader = reader-after client k k.marks k.requests source new ended slots s.reached.rest reader;
            output = subst F (sym (flushed-own flushes s k.output_ended own slots over)) go.output;
          },
          inl (true, tt, subst G (sym is_now) (ap L (sym (at.set s1)), ap (flushed_after own_writer s) (sym (at.set s1)), subst W (sym (at.set s1)) (written s k.output_ended flushes own slots (write_reply r) go.failure over go.writes))),
        )

-- a Write whose turn has come
pub write-done : {R T : Type 0} (client : Feed) (before : Sink) (k : Kept) (s : State) (date : HttpDate) (n : ℕ) (bytes : List ℕ) (u : Unfinished) (new : Sink) (ended : Bool) (r : Result T Error) (source : SourceState R) → Represents client before k s → IsInput k source → before.failures < 2 ^ 64 - 1 → slice_get k.requests n ≡ Some (Some u)
    → is_writable (Some (Some u)) ≡ true → (n == first_unfinished k.marks) ≡ true → k.sink.has_ended ≡ k.output_ended → WritesOwn {T = T} k.output_ended k.sink new ended r bytes → StepIsAnswered client before (after_number k k.marks k.requests source new ended) s date (Write n bytes) (write_reply r)
write-done {R = R} {T = T} client before k s date n bytes u new ended r source st from low e writable come open_sink writes =
    let p = place-of s.reached.slots k.marks k.requests n u st.numbers e in
    let at = slot-at s.reached.slots p.bs p.cs p.s n p.slots_are p.slots_before in
    let q = unfinished-asks p.s u p.waiting in
    own-done {T = T} client before k s date n u p (written_slot bytes p.s) (Write n bytes) false bytes new ended r source st from low come (keeps-written bytes p.s u p.waiting writable)
    (λ turn. at-accepted date s.reached n (Write n bytes) p.s q.0 true at.get q.1 (fit (Write n bytes) (a-write n bytes) p.s u p.waiting writable) turn) open_sink writes (λ none. (let no : false ≡ true = none in cc))

-- a Flush whose turn has come
pub flush-done : {R T : Type 0} (client : Feed) (before : Sink) (k : Kept) (s : State) (date : HttpDate) (n : ℕ) (u : Unfinished) (new : Sink) (ended : Bool) (r : Result T Error) (source : SourceState R) → Represents client before k s → IsInput k source → before.failures < 2 ^ 64 - 1 → slice_get k.requests n ≡ Some (Some u)
    → is_writable (Some (Some u)) ≡ true → (n == first_unfinished k.marks) ≡ true → k.sink.has_ended ≡ k.output_ended → WritesOwn {T = T} k.output_ended k.sink new ended r [] → IsFlushed new → StepIsAnswered client before (after_number k k.marks k.requests source new ended) s date (Flush n) (write_reply r)
flush-done {R = R} {T = T} client before k s date n u new ended r source st from low e writable come open_sink writes firm =
    let p = place-of s.reached.slots k.marks k.requests n u st.numbers e in
    let at = slot-at s.reached.slots p.bs p.cs p.s n p.slots_are p.slots_before in
    let q = unfinished-asks p.s u p.waiting in
    own-done {T = T} client before k s date n u p p.s (Flush n) true [] new ended r source st from low come (keeps-same p.s u p.waiting)
    (λ turn. at-accepted date s.reached n (Flush n) p.s q.0 true at.get q.1 (fit (Flush n) (a-flush n) p.s u p.waiting writable) turn) open_sink writes (λ some. firm)

-- the slot after a Finish
abbrev pub closed_slot : Slot → Slot
closed_slot s = finished_as s.closes s (stage_closed s.stage)

ends-closed : (s : Slot) (stage : Stage) → s.stage ≡ stage → is_stage_finished (stage_closed stage) ≡ true → ((item : Item) → (stage_text s.closes item s.date (stage_closed stage)).ending ≡ Whole) → ((item : Item) → (stage_text s.closes item s.date (stage_closed stage)).bytes ≡ (stage_text s.closes item s.date stage).bytes) → EndsAs s (closed_slot s) []
ends-closed s stage e finished whole same =
    let A : Stage → List ℕ = λ x. opening s.item s.continued ++ (stage_text s.closes s.item s.date (stage_closed x)).bytes in
    let B : Stage → List ℕ = λ x. opening s.item s.continued ++ (stage_text s.closes s.item s.date x).bytes in
    record {
      finished = ap (λ x. is_stage_finished (stage_closed x)) e ∙ finished;
      given_up = refl;
      whole = ap (λ x. is_broken (stage_text s.closes s.item s.date (stage_closed x)).ending) e ∙ ap is_broken (whole s.item);
      continued = refl;
      own = ap A e ∙ ap (λ x. opening s.item s.continued ++ x) (same s.item) ∙ ap B (sym e) ∙ sym (append-nil (segment s));
    }

pub closes : (s : Slot) (u : Unfinished) → KeepsUnfinished s u → is_writable (Some (Some u)) ≡ true → EndsAs s (closed_slot s) []
closes s (still.Waiting w) h e = cc
closes s still.Raw h e = ends-closed s (Raw h.written false) h.stage refl (λ item. refl) (λ item. refl)
closes s (still.Upgraded b) h e = ends-closed s (Upgraded h.protocol h.response h.date h.written false) (ap (λ (x : Slot). x.stage) h.opened.is ∙ h.stage) refl (λ item. refl) (λ item. refl)

-- the input after a Finish
reader-closed : {R : Type 0} (client : Feed) (k : Kept) (bs cs : List Slot) (us vs : List (Option Unfinished)) (rest : List Item) (s : Slot) (u : Unfinished) (old source : SourceState R) → KeepsUnfinished s u → is_writable (Some (Some u)) ≡ true → IsInput k old → InputMatches client k (bs ++ (s ∷ cs)) rest → k.requests ≡ us ++ (Some u ∷ vs) → length cs ≡ length vs
    → GivesUpIfKept (kept_body (Some u)) old source → InputMatches client (with_reader k (us ++ (None ∷ vs)) source) (bs ++ (closed_slot s ∷ cs)) rest
reader-closed client k bs cs us vs rest s (still.Waiting w) old source h e from reader is same closes = cc
reader-closed {R = R} client k bs cs us vs rest s still.Raw old source h e from reader is same closes =
    let P : SourceState R → Type 0 = λ x. InputMatches client (with_reader k (us ++ (None ∷ vs)) x) (bs ++ (closed_slot s ∷ cs)) rest in
    subst P (sym closes) (reader-alike client k old bs cs us vs rest s (closed_slot s) (Some still.Raw) None from reader is same refl (λ e. refl) (alike-by s (closed_slot s) h.request h.item refl refl refl (sym h.given_up)))
reader-closed client k bs cs us vs rest s (still.Upgraded b) old source h e from reader is same closes =
    let o = h.opened in
    let P : Slot → Type 0 = λ x. InputMatches client (with_reader k (us ++ (None ∷ vs)) source) (bs ++ (x ∷ cs)) rest in
    subst P (sym (ap closed_slot o.is)) (reader-given_up o.handed.closes client k old source bs cs us vs rest s (Some (still.Upgraded b)) None b (stage_closed o.stage) o refl refl from reader is same closes)

pub finish-done : {R : Type 0} (client : Feed) (before : Sink) (k : Kept) (s : State) (date : HttpDate) (n : ℕ) (u : Unfinished) (new : Sink) (ended : Bool) (final : List Mark) (requests : List (Option Unfinished)) (old source : SourceState R) → Represents client before k s → IsInput k old → GivesUpIfKept (kept_body (Some u)) old source → before.failures < 2 ^ 64 - 1
    → slice_get k.requests n ≡ Some (Some u) → is_writable (Some (Some u)) ≡ true → requests ≡ slice_set k.requests n None
    → ((front rest : List Mark) → k.marks ≡ front ++ (Open ∷ rest) → length front ≡ n → (k.output_ended ≡ false → CanSend k.sink) → LeavesText (n == first_unfinished k.marks) front rest final [] k.output_ended k.sink new ended)
    → StepIsAnswered client before (after_number k final requests source new ended) s date (Finish n) Done
finish-done {R = R} client before k s date n u new ended final requests old source st from gives low e writable requests_are leaves =
    let p = place-of s.reached.slots k.marks k.requests n u st.numbers e in
    let at = slot-at s.reached.slots p.bs p.cs p.s n p.slots_are p.slots_before in
    let q = unfinished-asks p.s u p.waiting in
    let P : List Slot → Type 0 = λ l. InputMatches client k l s.reached.rest in
    leave-done client before k s date n u p (closed_slot p.s) (Finish n) Done [] s.reached.asking_ended k.asking_ended new ended final requests source st low (closes p.s u p.waiting writable)
    (at-accepted date s.reached n (Finish n) p.s q.0 (turn_has_come n s.reached.slots) at.get q.1 (fit (Finish n) (a-finish n) p.s u p.waiting writable) refl) st.asking_ended (λ e. e) requests_are
    (reader-closed client k p.bs p.cs p.us p.vs s.reached.rest p.s u old source p.waiting writable from (subst P p.slots_are st.reader) p.requests_are (kept-many p.cs p.rs p.vs p.behind) gives) leaves

-- a Write or a Flush that was done, and what it reports
pub write-done_reply : {T : Type 0} (r : Result T Error) → is_done (write_reply r) ≡ true
write-done_reply (Ok x) = refl
write-done_reply (Err e) = refl

pub write-not_declined : {T : Type 0} (n : ℕ) (v : Vec ℕ) (r : Result T Error) → IsDeclined (step.Write n v) (write_reply r) → ⊥
write-not_declined {T = T} n v (Ok x) d = elim d [ ]
write-not_declined {T = T} n v (Err e) d = elim d [ ]

pub flush-not_declined : {T : Type 0} (n : ℕ) (r : Result T Error) → IsDeclined (step.Flush n) (write_reply r) → ⊥
flush-not_declined {T = T} n (Ok x) d = elim d [ ]
flush-not_declined {T = T} n (Err e) d = elim d [ ]

-- a fault that is reported is the writer's
pub write-honest : {T : Type 0} (old new : Sink) (r : Result T Error) (own : List ℕ) (kind : ErrorKind) → Puts old new r own → write_reply r ≡ Fault kind → IsOfWriter old new kind
write-honest {T = T} old new (Ok x) own kind puts e = let no : Done ≡ Fault kind = e in cc
write-honest {T = T} old new (Err x) own kind puts e =
    let same : error_kind x ≡ kind = kind-of (error_kind x) kind e in
    (puts.failures, subst (λ k. StatesKind new.last_kind k) same puts.last_kind)
  where
    kind-of : (a b : ErrorKind) → Fault a ≡ Fault b → a ≡ b
    kind-of a b e = cc

-- and the output has ended
pub write-ended : {T : Type 0} (r : Result T Error) (kind : ErrorKind) (ended : Bool) → OnErr r (ended ≡ true) → write_reply r ≡ Fault kind → ended ≡ true
write-ended (Ok x) kind ended h e = let no : Done ≡ Fault kind = e in cc
write-ended (Err x) kind ended h e = h

-- a failure of the writer is reported
pub write-tells : {T : Type 0} (old new : Sink) (r : Result T Error) (own : List ℕ) → Puts old new r own → ReportsOfWriter old new (write_reply r)
write-tells {T = T} old new (Ok x) own puts = inl puts.failures
write-tells {T = T} old new (Err x) own puts = inr (error_kind x, refl, (puts.failures, puts.last_kind))

-- the writer fails once at most
pub write-once : {T : Type 0} (old new : Sink) (was ended : Bool) (r : Result T Error) (own : List ℕ) → (was ≡ true → old.has_ended ≡ true) → Puts old new r own → OnErr r (ended ≡ true) → OnOk r (ended ≡ was) → FailsOnceUnlessEnded was old new ended
write-once {T = T} old new true ended (Ok x) own over puts err ok = (puts.failures, ok)
write-once {T = T} old new false ended (Ok x) own over puts err ok = inl puts.failures
write-once {T = T} old new true ended (Err x) own over puts err ok = let no : true ≡ false = sym (over refl) ∙ puts.was_open in cc
write-once {T = T} old new false ended (Err x) own over puts err ok = inr (puts.failures, err)
