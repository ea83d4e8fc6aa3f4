-- An AsReader: from where the connection stands to where it stands after it.
use Rattle.std.proofs.Common.{◌≡◌, refl, sym, ap, ◌∙◌, subst, ℕ, ◌-◌, ◌<◌, ◌^◌, inl, ⊎_elim, Bool, true, false, List, [], ◌∷◌, ◌++◌, Option, Some, append-nil, eq-eqb}
use Rattle.std.proofs.lemmas.Bool.{eqb-true}
use Rattle.std.specs.Prelude.{◌==◌, slice_get, slice_set}
use Rattle.std.specs.List.{list_all}
use Rattle.httpdate.specs.declared.date.HttpDate.{HttpDate}
use Rattle.tiny_http_io.specs.Device.{Feed, Sink}
use Rattle.tiny_http_response.specs.declared.response_context.ResponseContext.{ResponseContext}
use Rattle.tiny_http_io.specs.Source.{SourceState}
use Rattle.tiny_http_response.specs.ResponseValue.{printing_in}
use Rattle.tiny_http_response.specs.Sending.{CanSend, IsFlushed, SendsUnlessEnded}
use Rattle.tiny_http_body.specs.declared.body.UnreadBody.{UnreadBody}
use Rattle.tiny_http_open_request.specs.declared.open_request.OpenRequest.{OpenRequest}
use Rattle.tiny_http_open_request.specs.ErrorResponse.{own_text_by}
use Rattle.tiny_http_open_request.specs.Pipeline.{Asks}
use Rattle.tiny_http_turns.specs.Turns.{Mark, Open, AreInShape, first_unfinished}
use Rattle.tiny_http_connection.specs.Segments.{Slot, Unanswered, Answered as AnsweredBy, ByServer, Raw, Upgraded, is_finished, segment, opening, to_request}
use Rattle.tiny_http_connection.specs.Slots.{joined, is_chunked_form, is_last_slot}
use Rattle.tiny_http_connection.specs.Steps.{AsReader, Done, NotYet}
use Rattle.tiny_http_connection.specs.Outcomes.{Unreported, Outcome, Reached, changes, at_slot, at_number}
use Rattle.tiny_http_connection.specs.Conversation.{State, flushed_after, WriterPart, HasOutcome}
use Rattle.tiny_http_connection.specs.declared.pending.Unfinished.{Unfinished}
use Rattle.tiny_http_connection.specs.declared.pending.Unfinished.TheVariants as still
use Rattle.tiny_http_connection.specs.Connection.{Kept, HandedOut, open_slot, IsWaiting, AreSentInTurn, AreKept, OutputAt, slot_rest, InputMatches, Represents, behind_item}
use Rattle.tiny_http_connection.proofs.SlotsLemmas.{breaks-waits}
use Rattle.tiny_http_connection.proofs.ConversationWriting.{unreported, flushed-is}
use Rattle.tiny_http_connection.proofs.ConnectionAsk.{StepIsAnswered, step-unchanged}
use Rattle.tiny_http_connection.proofs.ConnectionBody.{IsInput, Alike, with_reader, reader-alike}
use Rattle.tiny_http_connection.proofs.ConnectionReader.{open-waiting, waiting-kept, and-false}
use Rattle.tiny_http_connection.proofs.ConnectionKept.{kept-append, kept-many, KeptAt, place-of, InTurn, OutOfTurn, turn-at}
use Rattle.tiny_http_connection.proofs.ConnectionOutput.{ended-is, can-send, More, output-more, longer-at}
use Rattle.tiny_http_connection.proofs.ConnectionTurns.{turn-continued}
use Rattle.tiny_http_connection.proofs.ConnectionRespond.{NeedsWaiting, slot-at, set-place, after_number, reader-after}

pub continue-not_taken : (n : ℕ) → NeedsWaiting (AsReader n)
continue-not_taken n Unanswered owed e = cc
continue-not_taken n (AnsweredBy r d f) owed e = refl
continue-not_taken n ByServer owed e = refl
continue-not_taken n (Raw w c) owed e = refl
continue-not_taken n (Upgraded p r d w c) owed e = refl

-- no 100 is owed
pub continue-unowed : (client : Feed) (before : Sink) (k : Kept) (s : State) (date : HttpDate) (n : ℕ) (w : OpenRequest UnreadBody) → Represents client before k s → slice_get k.requests n ≡ Some (Some (still.Waiting w)) → w.owes_continue ≡ false → StepIsAnswered client before k s date (AsReader n) Done
continue-unowed client before k s date n w st e free =
    let p = place-of s.reached.slots k.marks k.requests n (still.Waiting w) st.numbers e in
    let at = slot-at s.reached.slots p.bs p.cs p.s n p.slots_are p.slots_before in
    let T : Slot → Outcome = λ x. at_slot true date s.reached n (AsReader n) (Some x) in
    step-unchanged client before k s date (AsReader n) Done st (ap (at_slot true date s.reached n (AsReader n)) at.get ∙ ap T p.waiting.is ∙ rw (sym p.waiting.owed ∙ free) refl)

-- its turn hasn't come
pub continue-not_yet : (client : Feed) (before : Sink) (k : Kept) (s : State) (date : HttpDate) (n : ℕ) (w : OpenRequest UnreadBody) → Represents client before k s → slice_get k.requests n ≡ Some (Some (still.Waiting w)) → w.owes_continue ≡ true → (n == first_unfinished k.marks) ≡ false
    → StepIsAnswered client before k s date (AsReader n) NotYet
continue-not_yet client before k s date n w st e owed early =
    let p = place-of s.reached.slots k.marks k.requests n (still.Waiting w) st.numbers e in
    let at = slot-at s.reached.slots p.bs p.cs p.s n p.slots_are p.slots_before in
    let S : List Mark → Type 0 = λ m. AreInShape m in
    let never : (t : InTurn p.bs p.fs p.rs) → ⊥ = λ t. (let come = eq-eqb n (first_unfinished k.marks) (sym p.marks_before ∙ t.turn ∙ ap first_unfinished (sym p.marks_are)) in let no : true ≡ false = sym come ∙ early in cc) in
    let late : list_all is_finished p.bs ≡ false = ⊎_elim (λ (t : InTurn p.bs p.fs p.rs). absurd (never t)) (λ (t : OutOfTurn p.bs p.fs p.rs). t.unfinished) (turn-at p.bs p.fs p.us p.rs p.before (subst S p.marks_are st.shape)) in
    let T : Slot → Outcome = λ x. at_slot true date s.reached n (AsReader n) (Some x) in
    step-unchanged client before k s date (AsReader n) NotYet st (ap (at_slot true date s.reached n (AsReader n)) at.get ∙ ap T p.waiting.is ∙ rw (sym p.waiting.owed ∙ owed, at.turn ∙ late) refl)

-- the request to which the 100 was sent
abbrev continued : HttpDate → HandedOut → HandedOut
continued date h = record { date = h.date; continued = Some date; owed = false; closes = h.closes }

abbrev continued_slot : HttpDate → (s : Slot) (w : OpenRequest UnreadBody) → IsWaiting s w → Slot
continued_slot date s w h = open_slot (continued date h.handed) h.request h.given h.end_reported

abbrev pub unowed : OpenRequest UnreadBody → OpenRequest UnreadBody
unowed w = record w { owes_continue = false }

still-waiting : (date : HttpDate) (s : Slot) (w : OpenRequest UnreadBody) (h : IsWaiting s w) → IsWaiting (continued_slot date s w h) (unowed w)
still-waiting date s w h = record {
  request = h.request;
  handed = continued date h.handed;
  given = h.given;
  end_reported = h.end_reported;
  is = refl;
  owed = refl;
  holds = h.holds;
  standard = h.standard;
  upgrades = h.upgrades;
  connect = h.connect;
  closes = h.closes;
  unsent = λ owed. (let no : false ≡ true = owed in cc);
  rest_is_last = h.rest_is_last;
  response_context = h.response_context;
  dropped = h.dropped;
  fits = h.fits;
  settled = h.settled;
}

pub continue-done : {R : Type 0} (client : Feed) (before : Sink) (k : Kept) (s : State) (date : HttpDate) (n : ℕ) (w : OpenRequest UnreadBody) (context : ResponseContext) (new : Sink) (ended : Bool) (final : List Mark) (requests : List (Option Unfinished)) (source : SourceState R) → Represents client before k s → IsInput k source → before.failures < 2 ^ 64 - 1
    → slice_get k.requests n ≡ Some (Some (still.Waiting w)) → w.response_context ≡ context → w.owes_continue ≡ true → (n == first_unfinished k.marks) ≡ true → final ≡ k.marks → requests ≡ slice_set k.requests n (Some (still.Waiting (unowed w)))
    → ((k.output_ended ≡ false → CanSend k.sink) → SendsUnlessEnded k.output_ended k.sink new ended (own_text_by 100 (printing_in context date))) → IsFlushed new
    → StepIsAnswered client before (after_number k final requests source new ended) s date (AsReader n) Done
continue-done {R = R} client before k s date n w context new ended final requests source st from low e context_is owed come final_is requests_are sends firm =
    ⊎_elim in-turn (λ (t : OutOfTurn p.bs p.fs p.rs). absurd (t.turn (p.marks_before ∙ eqb-true n (first_unfinished k.marks) come ∙ ap first_unfinished p.marks_are))) (turn-at p.bs p.fs p.us p.rs p.before (subst S p.marks_are st.shape))
  where
    S : List Mark → Type 0
    S m = AreInShape m

    p : KeptAt s.reached.slots k.marks k.requests n (still.Waiting w)
    p = place-of s.reached.slots k.marks k.requests n (still.Waiting w) st.numbers e

    h : IsWaiting p.s w
    h = p.waiting

    s0 : Slot
    s0 = open_slot h.handed h.request h.given h.end_reported

    s1 : Slot
    s1 = continued_slot date p.s w h

    slots : List Slot
    slots = p.bs ++ (s1 ∷ p.cs)

    text : List ℕ
    text = own_text_by 100 (to_request h.request.framing.is_last h.request date)

    slots_are : s.reached.slots ≡ p.bs ++ (s0 ∷ p.cs)
    slots_are = p.slots_are ∙ ap (λ x. p.bs ++ (x ∷ p.cs)) h.is

    alike : Alike p.s s1
    alike = record {
      last = ap (λ (x : Slot). is_last_slot (Some x)) (sym h.is);
      abandoned = sym (waiting-kept p.s w.body (open-waiting p.s w h) ∙ sym (and-false (is_chunked_form h.request.framing.form)));
      left = ap slot_rest (sym h.is);
      behind = ap (λ (x : Slot). behind_item x.item) (sym h.is);
    }

    requests_now : requests ≡ p.us ++ (Some (still.Waiting (unowed w)) ∷ p.vs)
    requests_now = requests_are ∙ set-place k.requests p.us p.vs n (Some (still.Waiting w)) (Some (still.Waiting (unowed w))) p.requests_are p.requests_before

    reader : InputMatches client (with_reader k requests source) slots s.reached.rest
    reader =
        let P : List Slot → Type 0 = λ l. InputMatches client k l s.reached.rest in
        let Q : List (Option Unfinished) → Type 0 = λ q. InputMatches client (with_reader k q source) slots s.reached.rest in
        subst Q (sym requests_now) (reader-alike client k source p.bs p.cs p.us p.vs s.reached.rest p.s s1 (Some (still.Waiting w)) (Some (still.Waiting (unowed w))) from (subst P p.slots_are st.reader) p.requests_are (kept-many p.cs p.rs p.vs p.behind) refl (λ e. e) alike)

    printed : printing_in context date ≡ to_request h.request.framing.is_last h.request date
    printed = ap (λ c. printing_in c date) (sym context_is ∙ h.response_context)

    own : segment s1 ≡ segment s0 ++ text
    own = append-nil text ∙ ap (λ o. (opening (Asks h.request) o ++ []) ++ text) (sym (h.unsent (sym h.owed ∙ owed)))

    in-turn : InTurn p.bs p.fs p.rs → StepIsAnswered client before (after_number k final requests source new ended) s date (AsReader n) Done
    in-turn t =
        let long = longer-at s.reached.slots p.bs p.cs s0 s1 text slots_are t.finished refl refl own in
        let m : More s.reached.slots slots text = record {
          breaks = breaks-waits p.bs s1 p.cs refl refl ∙ sym long.breaks;
          longer = λ none. sym (append-nil (joined s.reached.slots ++ text)) ∙ sym (long.longer (sym long.breaks ∙ none) p.cs);
          broken = λ z. sym (long.broken (sym long.breaks ∙ z) p.cs);
        } in
        let T : List ℕ → Type 0 = λ y. SendsUnlessEnded k.output_ended k.sink new ended y in
        let sent = subst T (ap (own_text_by 100) printed) (sends (can-send before k.sink k.output_ended s.reached.slots s.flushed s.failure st.output low)) in
        let go = output-more before k.sink new k.output_ended ended s.reached.slots slots text s.flushed s.failure st.output m low sent firm in
        let over = ended-is before k.sink k.output_ended s.reached.slots s.flushed s.failure st.output in
        let at = slot-at s.reached.slots p.bs p.cs s0 n slots_are p.slots_before in
        let is : at_number true date s.reached n (AsReader n) ≡ changes s.reached n s1 Done Unreported =
        ap (at_slot true date s.reached n (AsReader n)) at.get ∙ rw (sym h.owed ∙ owed, at.turn ∙ t.finished) refl in
        let C : List Slot → Type 0 = λ x. AreSentInTurn x in
        let new_state : State = record { reached = record { slots = slots; rest = s.reached.rest; asking_ended = s.reached.asking_ended }; flushed = flushed_after Unreported s slots; failure = go.failure } in
        let L : List Slot → Reached = λ l. record { slots = l; rest = s.reached.rest; asking_ended = s.reached.asking_ended } in
        let W : List Slot → Type 0 = λ l. WriterPart Unreported s Done l Done go.failure in
        let G : Outcome → Type 0 = λ x. HasOutcome x s Done new_state in
        let M : List Mark → Type 0 = λ y. AreKept slots y requests in
        let Q : List (Option Unfinished) → Type 0 = λ y. AreKept slots (p.fs ++ (Open ∷ p.rs)) y in
        let F : List ℕ → Type 0 = λ f. OutputAt before new ended slots f go.failure in
        let K : List Mark → Type 0 = λ y. AreInShape y in (
          new_state,
          record {
            numbers = subst M (sym (final_is ∙ p.marks_are)) (subst Q (sym requests_now) (kept-append p.bs p.fs p.us (s1 ∷ p.cs) (Open ∷ p.rs) (Some (still.Waiting (unowed w)) ∷ p.vs) p.before (still-waiting date p.s w h, p.behind)));
            shape = subst K (sym final_is) st.shape;
            in_turn = turn-continued p.bs p.cs s0 s1 t.finished refl refl (subst C slots_are st.in_turn);
            asking_ended = st.asking_ended;
            reader = reader-after client k final requests source new ended slots s.reached.rest reader;
            output = subst F (sym (flushed-is s k.output_ended slots over)) go.output;
          },
          inl (true, tt, subst G (sym is) (ap L (sym (at.set s1)), ap (flushed_after Unreported s) (sym (at.set s1)), subst W (sym (at.set s1)) (unreported s k.output_ended Done slots go.failure over go.writes))),
        )
