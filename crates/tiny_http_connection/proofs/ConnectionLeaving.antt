-- A number that ends, in its turn or before it: from where the connection stands to where it stands after it.
use Rattle.std.proofs.Common.{◌≡◌, refl, sym, ap, ◌∙◌, subst, ℕ, ◌-◌, ◌<◌, ◌^◌, inl, ⊎_elim, Bool, true, false, List, [], ◌∷◌, ◌++◌, length, Option, Some, None, eq-eqb, append_assoc}
use Rattle.std.proofs.Math.Bool.{or-false}
use Rattle.std.proofs.lemmas.Bool.{ne_eqb}
use Rattle.std.specs.Prelude.{◌==◌, slice_set}
use Rattle.std.specs.List.{list_all}
use Rattle.httpdate.specs.declared.date.HttpDate.{HttpDate}
use Rattle.tiny_http_io.specs.Device.{Feed, Sink}
use Rattle.tiny_http_response.specs.Sending.{CanSend}
use Rattle.tiny_http_io.specs.Source.{SourceState}
use Rattle.tiny_http_turns.specs.Turns.{Mark, Open, Left, Finished, AreInShape, first_unfinished}
use Rattle.tiny_http_connection.specs.declared.pending.Unfinished.{Unfinished}
use Rattle.tiny_http_connection.specs.Segments.{Slot, is_finished, is_slot_broken, opening, stage_text, segment}
use Rattle.tiny_http_connection.specs.Slots.{is_output_broken, joined, turn_has_come}
use Rattle.tiny_http_connection.specs.Steps.{StepValue, ReplyValue}
use Rattle.tiny_http_connection.specs.Outcomes.{Outcome, Reached, outcome, changes, use_in_turn}
use Rattle.tiny_http_connection.specs.Conversation.{Failure, State, flushed_after, WriterPart, HasOutcome}
use Rattle.tiny_http_connection.specs.Pending.{left_text, with_left_finished, LeavesText}
use Rattle.tiny_http_connection.specs.Connection.{Kept, HasSentNothing, AreSentInTurn, AreKept, OutputAt, InputMatches, Represents}
use Rattle.tiny_http_connection.proofs.ConversationWriting.{unreported, flushed-is}
use Rattle.tiny_http_connection.proofs.ConnectionBody.{with_reader}
use Rattle.tiny_http_connection.proofs.ConnectionAsk.{StepIsAnswered}
use Rattle.tiny_http_connection.proofs.SlotsLemmas.{joined-hidden, breaks-hidden, breaks-front}
use Rattle.tiny_http_connection.proofs.ConnectionTurns.{turn-set, behind-turn, early-turn}
use Rattle.tiny_http_connection.proofs.ConnectionKept.{kept-append, kept-passed, KeptAt, unfinished-is, unfinished-whole, InTurn, OutOfTurn, turn-at}
use Rattle.tiny_http_connection.proofs.ConnectionOutput.{joined_behind, ended-is, output-same, can-send, More, output-more, longer-at}
use Rattle.tiny_http_connection.proofs.ConnectionRespond.{slot-at, set-place, after_number, reader-after, with_ended, reader-ended}

-- one slot ends as the other, after this text more
pub record EndsAs (s t : Slot) (text : List ℕ) : Type 0 where
  pub finished : is_finished t ≡ true
  pub given_up : t.given_up ≡ true
  pub whole : is_slot_broken t ≡ false
  pub continued : t.continued ≡ s.continued
  pub own : segment t ≡ segment s ++ text

-- a number under which nothing was sent
nothing-sent : (s : Slot) → HasSentNothing s → is_finished s ≡ false → segment s ≡ []
nothing-sent s h f = ap (λ o. opening s.item o ++ (stage_text s.closes s.item s.date s.stage).bytes) h.0 ∙ h.1 f

-- what the end of a number leaves, in its turn or before it
record EndSaid (before new : Sink) (ended : Bool) (slots : List Slot) (old : State) (t : Bool) (reply : ReplyValue) (final : List Mark) (requests : List (Option Unfinished)) : Type 0 where
  failure : Option Failure
  output : OutputAt before new ended slots (flushed_after (use_in_turn t) old slots) failure
  writes : WriterPart (use_in_turn t) old reply slots reply failure
  numbers : AreKept slots final requests
  shape : AreInShape final
  in_turn : AreSentInTurn slots

-- A number ends with this text: in its turn it is sent, with the texts behind it; else it waits.
pub leave-done : {R : Type 0} (client : Feed) (before : Sink) (k : Kept) (s : State) (date : HttpDate) (n : ℕ) (u : Unfinished) (p : KeptAt s.reached.slots k.marks k.requests n u) (s1 : Slot) (step : StepValue) (reply : ReplyValue) (text : List ℕ) (asked_last kept_last : Bool) (new : Sink) (ended : Bool) (final : List Mark) (requests : List (Option Unfinished))
    (source : SourceState R) → Represents client before k s → before.failures < 2 ^ 64 - 1 → EndsAs p.s s1 text → outcome true date s.reached step ≡ record (changes s.reached n s1 reply (use_in_turn (turn_has_come n s.reached.slots))) { asking_ended = asked_last }
    → asked_last ≡ kept_last → (kept_last ≡ false → k.asking_ended ≡ false) → requests ≡ slice_set k.requests n None → InputMatches client (with_reader k (p.us ++ (None ∷ p.vs)) source) (p.bs ++ (s1 ∷ p.cs)) s.reached.rest
    → ((front rest : List Mark) → k.marks ≡ front ++ (Open ∷ rest) → length front ≡ n → (k.output_ended ≡ false → CanSend k.sink) → LeavesText (n == first_unfinished k.marks) front rest final text k.output_ended k.sink new ended)
    → StepIsAnswered client before (with_ended kept_last (after_number k final requests source new ended)) s date step reply
leave-done {R = R} client before k s date n u p s1 step reply text asked_last kept_last new ended final requests source st low e is same_last stays requests_are reader leaves = ⊎_elim in-turn out-of-turn (turn-at p.bs p.fs p.us p.rs p.before (subst S p.marks_are st.shape))
  where
    S : List Mark → Type 0
    S m = AreInShape m

    s0 : Slot
    s0 = p.s

    slots : List Slot
    slots = p.bs ++ (s1 ∷ p.cs)

    requests_now : requests ≡ p.us ++ (None ∷ p.vs)
    requests_now = requests_are ∙ set-place k.requests p.us p.vs n (Some u) None p.requests_are p.requests_before

    open_is : is_finished s0 ≡ false
    open_is = unfinished-is s0 u p.waiting

    turns : AreSentInTurn (p.bs ++ (s0 ∷ p.cs))
    turns = (let T : List Slot → Type 0 = λ x. AreSentInTurn x in subst T p.slots_are st.in_turn)

    in_turn_now : AreSentInTurn slots
    in_turn_now = turn-set p.bs p.cs s0 s1 (λ q. (e.continued ∙ q.0, λ z. (let no : true ≡ false = sym e.finished ∙ z in cc))) (λ none. e.finished) turns

    left : LeavesText (n == first_unfinished k.marks) p.fs p.rs final text k.output_ended k.sink new ended
    left = leaves p.fs p.rs p.marks_are p.marks_before (can-send before k.sink k.output_ended s.reached.slots s.flushed s.failure st.output low)

    kept : (m : Mark) (rs : List Mark) → final ≡ p.fs ++ (m ∷ rs) → AreKept slots (p.fs ++ (m ∷ rs)) (p.us ++ (None ∷ p.vs)) → AreKept slots final requests
    kept m rs f h =
        let M : List Mark → Type 0 = λ y. AreKept slots y requests in
        let Q : List (Option Unfinished) → Type 0 = λ y. AreKept slots (p.fs ++ (m ∷ rs)) y in
        subst M (sym f) (subst Q (sym requests_now) h)

    ends : (t : Bool) → list_all is_finished p.bs ≡ t → EndSaid before new ended slots s t reply final requests → StepIsAnswered client before (with_ended kept_last (after_number k final requests source new ended)) s date step reply
    ends t turn said =
        let at = slot-at s.reached.slots p.bs p.cs s0 n p.slots_are p.slots_before in
        let is_now : outcome true date s.reached step ≡ record (changes s.reached n s1 reply (use_in_turn t)) { asking_ended = asked_last } = is ∙ ap (λ b. record (changes s.reached n s1 reply (use_in_turn b)) { asking_ended = asked_last }) (at.turn ∙ turn) in
        let new_state : State = record { reached = record { slots = slots; rest = s.reached.rest; asking_ended = asked_last }; flushed = flushed_after (use_in_turn t) s slots; failure = said.failure } in
        let L : List Slot → Reached = λ l. record { slots = l; rest = s.reached.rest; asking_ended = asked_last } in
        let W : List Slot → Type 0 = λ l. WriterPart (use_in_turn t) s reply l reply said.failure in
        let G : Outcome → Type 0 = λ x. HasOutcome x s reply new_state in
        let Q : List (Option Unfinished) → Type 0 = λ q. InputMatches client (with_reader k q source) slots s.reached.rest in (
          new_state,
          record {
            numbers = said.numbers;
            shape = said.shape;
            in_turn = said.in_turn;
            asking_ended = same_last;
            reader = reader-ended client (after_number k final requests source new ended) kept_last slots s.reached.rest stays (reader-after client k final requests source new ended slots s.reached.rest (subst Q (sym requests_now) reader));
            output = said.output;
          },
          inl (true, tt, subst G (sym is_now) (ap L (sym (at.set s1)), ap (flushed_after (use_in_turn t) s) (sym (at.set s1)), subst W (sym (at.set s1)) said.writes)),
        )

    in-turn : InTurn p.bs p.fs p.rs → StepIsAnswered client before (with_ended kept_last (after_number k final requests source new ended)) s date step reply
    in-turn t =
        let come : (n == first_unfinished k.marks) ≡ true = eq-eqb n (first_unfinished k.marks) (sym p.marks_before ∙ t.turn ∙ ap first_unfinished (sym p.marks_are)) in
        let l = subst (λ (b : Bool). LeavesText b p.fs p.rs final text k.output_ended k.sink new ended) come left in
        let b = joined_behind p.cs p.rs p.vs t.waiting (behind-turn p.bs p.cs s0 t.finished open_is turns) p.behind in
        let long = longer-at s.reached.slots p.bs p.cs s0 s1 text p.slots_are t.finished open_is (unfinished-whole s0 u p.waiting) e.own in
        let longer : is_output_broken s.reached.slots ≡ false → joined s.reached.slots ++ (text ++ left_text p.rs) ≡ joined slots =
        λ none. sym (append_assoc (joined s.reached.slots) text (left_text p.rs)) ∙ ap (λ y. (joined s.reached.slots ++ text) ++ y) (sym b.0) ∙ sym (long.longer (sym long.breaks ∙ none) p.cs ∙ rw (e.finished, e.whole) refl) in
        let m : More s.reached.slots slots (text ++ left_text p.rs) = record {
          breaks = breaks-front p.bs (s1 ∷ p.cs) t.finished ∙ rw (e.whole, e.finished, b.1) (or-false (is_output_broken p.bs)) ∙ sym long.breaks;
          longer = longer;
          broken = λ z. sym (long.broken (sym long.breaks ∙ z) p.cs);
        } in
        let go = output-more before k.sink new k.output_ended ended s.reached.slots slots (text ++ left_text p.rs) s.flushed s.failure st.output m low l.1 l.2 in
        let over = ended-is before k.sink k.output_ended s.reached.slots s.flushed s.failure st.output in
        let K : List Mark → Type 0 = λ y. AreInShape y in
        let F : List ℕ → Type 0 = λ f. OutputAt before new ended slots f go.failure in
        ends true t.finished (record {
          failure = go.failure;
          output = subst F (sym (flushed-is s k.output_ended slots over)) go.output;
          writes = unreported s k.output_ended reply slots go.failure over go.writes;
          numbers = kept Finished (with_left_finished p.rs) l.0 (kept-append p.bs p.fs p.us (s1 ∷ p.cs) (Finished ∷ with_left_finished p.rs) (None ∷ p.vs) p.before (record { finished = e.finished; given_up = e.given_up }, kept-passed p.cs p.rs p.vs p.behind));
          shape = subst K (sym l.0) t.shape;
          in_turn = in_turn_now;
        })

    out-of-turn : OutOfTurn p.bs p.fs p.rs → StepIsAnswered client before (with_ended kept_last (after_number k final requests source new ended)) s date step reply
    out-of-turn t =
        let come : (n == first_unfinished k.marks) ≡ false = ne_eqb n (first_unfinished k.marks) (λ x. t.turn (p.marks_before ∙ x ∙ ap first_unfinished p.marks_are)) in
        let l = subst (λ (b : Bool). LeavesText b p.fs p.rs final text k.output_ended k.sink new ended) come left in
        let O : Sink → Bool → Type 0 = λ x y. OutputAt before x y slots s.flushed s.failure in
        let known : joined s.reached.slots ≡ joined slots = ap joined p.slots_are ∙ joined-hidden p.bs (s0 ∷ p.cs) t.unfinished ∙ sym (joined-hidden p.bs (s1 ∷ p.cs) t.unfinished) in
        let breaks : is_output_broken s.reached.slots ≡ is_output_broken slots = ap is_output_broken p.slots_are ∙ breaks-hidden p.bs (s0 ∷ p.cs) t.unfinished ∙ sym (breaks-hidden p.bs (s1 ∷ p.cs) t.unfinished) in
        let hidden = output-same before k.sink k.output_ended s.reached.slots slots s.flushed s.failure known breaks st.output in
        let none : segment s0 ≡ [] = nothing-sent s0 (early-turn p.bs p.cs s0 t.unfinished turns) open_is in
        ends false t.unfinished (record {
          failure = s.failure;
          output = subst (λ y. O new y) (sym l.3) (subst (λ x. O x k.output_ended) (sym l.2) hidden);
          writes = (refl, refl);
          numbers = kept (Left text) p.rs l.0 (kept-append p.bs p.fs p.us (s1 ∷ p.cs) (Left text ∷ p.rs) (None ∷ p.vs) p.before (record { done = record { finished = e.finished; given_up = e.given_up }; whole = e.whole; same = e.own ∙ ap (λ x. x ++ text) none }, p.behind));
          shape = l.1;
          in_turn = in_turn_now;
        })
