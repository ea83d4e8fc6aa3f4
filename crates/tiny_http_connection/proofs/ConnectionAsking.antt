-- An Ask that goes on behind a refused head, as one from in front of it.
use Rattle.std.proofs.Common.{◌≡◌, refl, sym, ap, ◌∙◌, subst, ℕ, ◌-◌, ◌<◌, ◌^◌, ◌⊎◌, inl, inr, Bool, true, false, not, ◌&&◌, ◌||◌, List, [], ◌∷◌, ◌++◌, map, length, Option, Some, None, Ok, append_assoc, append-nil}
use Rattle.std.specs.Prelude.{◌==◌, MatchBool, is_some, if◌then◌else◌}
use Rattle.std.specs.Global.{Vec}
use Rattle.std.specs.List.{list_all}
use Rattle.httpdate.specs.declared.date.HttpDate.{HttpDate}
use Rattle.tiny_http_head.specs.declared.common.StatusCode.{StatusCode}
use Rattle.tiny_http_io.specs.declared.device.Stop.{Stop}
use Rattle.tiny_http_io.specs.Device.{Feed, Sink, IsFront}
use Rattle.tiny_http_io.proofs.DeviceLemmas.{IsFront-append}
use Rattle.tiny_http_io.specs.Source.{GoesOn}
use Rattle.tiny_http_io.specs.declared.source.InputState.{InputState}
use Rattle.tiny_http_io.specs.declared.source.InputState.TheVariants as in_place
use Rattle.tiny_http_io.proofs.SourceGoesOn.{goes-on_more}
use Rattle.tiny_http_body.specs.declared.body.UnreadBody.{UnreadBody}
use Rattle.tiny_http_open_request.specs.declared.exchange.HeadRead.TheVariants as read
use Rattle.tiny_http_open_request.specs.HeadReads.{ReadsHead}
use Rattle.tiny_http_open_request.specs.Pipeline.{Item, Asks, Refuses, Place, Pipeline, place_feed}
use Rattle.tiny_http_open_request.proofs.PipelineLemmas.{pipeline-first}
use Rattle.tiny_http_turns.specs.Turns.{Mark, first_unfinished}
use Rattle.tiny_http_connection.specs.Segments.{Slot, is_finished, is_slot_broken, segment}
use Rattle.tiny_http_connection.specs.Slots.{is_output_broken, joined, turn_has_come, new_slot, last_slot, last_holds_reader, last_was_abandoned, is_last_slot}
use Rattle.tiny_http_connection.specs.Steps.{Ask, ReplyValue, Handed, Ended, Given, Fault, NotYet, Done, Refused, NoSuch, Memory}
use Rattle.tiny_http_connection.specs.Outcomes.{WriterUse, Unused, Unreported, Outcome, Reached, use_in_turn, ask, asks_from}
use Rattle.tiny_http_connection.specs.Conversation.{Failure, State, IsPassedOver, BeginsBehind, Fares, Well, FailsWithin, FailsAfter, MayFare, WriterPart, reply_in, failure_in, has_output_ended, flushed_after, answers_to, HasOutcome, StepsTo}
use Rattle.tiny_http_connection.specs.Pending.{LeavesText, last_body, is_streaming_body}
use Rattle.tiny_http_connection.specs.Connection.{Kept, OutputAt, behind_body, GivesRest, InputEnded, is_past_last, is_in_body, BeginsMore, PlaceIn, InputMatches, Represents, FollowsLast}
use Rattle.tiny_http_connection.proofs.SlotsLemmas.{joined-waits}
use Rattle.tiny_http_connection.proofs.ConversationWriting.{unreported, flushed-is}
use Rattle.tiny_http_connection.proofs.ConnectionAsk.{AskIsAnswered, FoundHead, IsQuiet, going, ask-goes, handed-of, begins-from, turn-next, refused-whole, refused-text, refuses}
use Rattle.tiny_http_connection.proofs.ConnectionReader.{last-snoc, body-snoc, settled-snoc}
use Rattle.tiny_http_connection.proofs.ConnectionTurns.{turn-more}

-- more numbers send as much, and more
grows : (c : Bool) (w u v : List ℕ) → IsFront u v → IsFront (w ++ (if c then u else [])) (w ++ (if c then v else []))
grows true w u v h = (h.0, ap (λ r. w ++ r) h.1 ∙ sym (append_assoc w u h.0))
grows false w u v h = ([], sym (append-nil (w ++ [])))

joined-grows : (xs ys : List Slot) → IsFront (joined xs) (joined (xs ++ ys))
joined-grows [] ys = (joined ys, refl)
joined-grows (x ∷ xs) ys = grows (is_finished x && not (is_slot_broken x)) (segment x) (joined xs) (joined (xs ++ ys)) (joined-grows xs ys)

-- the turn of what comes behind a finished number has come if that of the number had
all-more : (xs : List Slot) (n : Slot) → is_finished n ≡ true → list_all is_finished (xs ++ (n ∷ [])) ≡ list_all is_finished xs
all-more [] n h = rw h refl
all-more (x ∷ xs) n h = ap (λ b. is_finished x && b) (all-more xs n h)

-- a whole number behind others breaks nothing off
breaks-more : (xs : List Slot) (n : Slot) → is_slot_broken n ≡ false → is_output_broken (xs ++ (n ∷ [])) ≡ is_output_broken xs
breaks-more [] n h = rw h (none (is_finished n))
  where
    none : (b : Bool) → (b && false) ≡ false
    none true = refl
    none false = refl
breaks-more (x ∷ xs) n h = ap (λ b. is_slot_broken x || (is_finished x && b)) (breaks-more xs n h)

-- What an Ask that goes on from these numbers comes to: more numbers stand behind them; and it leaves the writer alone, or the
-- turn of the first head that is refused has come.
abbrev WriterBehind : List Slot → Outcome → Type 0
WriterBehind slots o =
    ((o.writer ≡ Unused) × (list_all is_finished slots ≡ true → joined o.slots ≡ joined slots))
    ⊎ ((o.writer ≡ Unreported) × (list_all is_finished slots ≡ true))

record Behind (slots : List Slot) (o : Outcome) : Type 0 where
  pub more : List Slot
  pub slots_are : o.slots ≡ slots ++ more
  pub writer : WriterBehind slots o

abbrev with_writer : WriterUse → Outcome → Outcome
with_writer w o = record o { writer = w }

asks-slots : (date : HttpDate) (w : WriterUse) (slots : List Slot) (items : List Item) → (more : List Slot) × ((asks_from date w slots items).slots ≡ slots ++ more)
asks-slots date w slots [] = ([], sym (append-nil slots))
asks-slots date w slots (Asks r ∷ items) = (new_slot date (Asks r) ∷ [], refl)
asks-slots date w slots (Refuses refusal v no_body last ∷ items) =
    let n = new_slot date (Refuses refusal v no_body last) in
    let h = asks-slots date (if turn_has_come (length slots) slots then Unreported else w) (slots ++ (n ∷ [])) items in
    (n ∷ h.0, h.1 ∙ append_assoc slots (n ∷ []) h.0)

asks-writer : (date : HttpDate) (w : WriterUse) (slots : List Slot) (items : List Item) → asks_from date Unreported slots items ≡ with_writer Unreported (asks_from date w slots items)
asks-writer date w slots [] = refl
asks-writer date w slots (Asks r ∷ items) = refl
asks-writer date w slots (Refuses refusal v no_body last ∷ items) = by (turn_has_come (length slots) slots) (λ x. asks-writer date x (slots ++ (new_slot date (Refuses refusal v no_body last) ∷ [])) items)
  where
    more : List Slot
    more = slots ++ (new_slot date (Refuses refusal v no_body last) ∷ [])

    by : (t : Bool) → ((x : WriterUse) → asks_from date Unreported more items ≡ with_writer Unreported (asks_from date x more items))
        → asks_from date (if t then Unreported else Unreported) more items ≡ with_writer Unreported (asks_from date (if t then Unreported else w) more items)
    by true go = go Unreported
    by false go = go w

asks-behind : (date : HttpDate) (slots : List Slot) (items : List Item) → WriterBehind slots (asks_from date Unused slots items)
asks-behind date slots [] = inl (refl, λ fin. refl)
asks-behind date slots (Asks r ∷ items) = inl (refl, λ fin. joined-waits slots (new_slot date (Asks r)) [] refl refl)
asks-behind date slots (Refuses refusal v no_body last ∷ items) = by (turn_has_come (length slots) slots) refl (asks-behind date (slots ++ (new_slot date (Refuses refusal v no_body last) ∷ [])) items)
  where
    n : Slot
    n = new_slot date (Refuses refusal v no_body last)

    more : List Slot
    more = slots ++ (n ∷ [])

    hidden : list_all is_finished slots ≡ false → WriterBehind more (asks_from date Unused more items) → WriterBehind slots (asks_from date Unused more items)
    hidden none (inl h) = inl (h.0, λ fin. (let no : false ≡ true = sym none ∙ fin in cc))
    hidden none (inr h) = let no : false ≡ true = sym none ∙ sym (all-more slots n refl) ∙ h.1 in cc

    by : (t : Bool) → turn_has_come (length slots) slots ≡ t → WriterBehind more (asks_from date Unused more items) → WriterBehind slots (asks_from date (if t then Unreported else Unused) more items)
    by true e go = inr (ap (λ (o : Outcome). o.writer) (asks-writer date Unreported more items), sym (turn-next slots) ∙ e)
    by false e go = hidden (sym (turn-next slots) ∙ e) go

-- the writer's part of a refused head that is passed
abbrev used_by : Bool → WriterUse
used_by t = if t then Unreported else Unused

-- a step as it was answered from behind, seen from in front
record Composed (s : State) (t : Bool) (o : Outcome) (reply : ReplyValue) (new : State) : Type 0 where
  pub flushed : List ℕ
  pub outcome : HasOutcome (with_writer (used_by t) o) s reply (record { reached = new.reached; flushed = flushed; failure = new.failure })
  pub same : new.failure ≡ None → flushed ≡ new.flushed

-- a step that leaves the writer alone, or comes to an output that has ended
record Silent (m : State) (o : Outcome) (reply : ReplyValue) (new : State) : Type 0 where
  pub flushed : new.flushed ≡ m.flushed
  pub reply_is : reply ≡ o.reply
  pub failure : new.failure ≡ m.failure

unused-is : (m : State) (o : Outcome) (reply : ReplyValue) (new : State) → o.writer ≡ Unused → HasOutcome o m reply new → Silent m o reply new
unused-is m o reply new e h =
    let P : WriterUse → Type 0 = λ w. (new.flushed ≡ flushed_after w m o.slots) × WriterPart w m o.reply o.slots reply new.failure in
    let k = subst P e (h.1, h.2) in
    record { flushed = k.0; reply_is = k.1.0; failure = k.1.1 }

-- the same where its faults aren't reported
abbrev UnreportedAt : State → Outcome → ReplyValue → State → Bool → Type 0
UnreportedAt m o reply new b =
    (new.flushed ≡ (if not b then joined o.slots else m.flushed))
    × MatchBool b ((reply ≡ o.reply) × (new.failure ≡ m.failure)) ((fares : Fares) × MayFare Unreported m o.slots fares × (reply ≡ o.reply) × (new.failure ≡ failure_in fares))

reply-same : (planned : ReplyValue) (fares : Fares) → reply_in Unreported planned fares ≡ planned
reply-same planned Well = refl
reply-same planned (FailsWithin f) = refl
reply-same planned (FailsAfter f) = refl

unreported-at : (m : State) (o : Outcome) (reply : ReplyValue) (new : State) (b : Bool) → o.writer ≡ Unreported → has_output_ended m ≡ b → HasOutcome o m reply new → UnreportedAt m o reply new b
unreported-at m o reply new b e over h =
    let P : WriterUse → Type 0 = λ w. (new.flushed ≡ flushed_after w m o.slots) × WriterPart w m o.reply o.slots reply new.failure in
    let k = subst P e (h.1, h.2) in
    let Q : Bool → Type 0 = λ x. (new.flushed ≡ (if not x then joined o.slots else m.flushed))
    × MatchBool x ((reply ≡ o.reply) × (new.failure ≡ m.failure)) ((fares : Fares) × MayFare Unreported m o.slots fares × (reply ≡ reply_in Unreported o.reply fares) × (new.failure ≡ failure_in fares)) in
    by b (subst Q over k)
  where
    by : (x : Bool) → (new.flushed ≡ (if not x then joined o.slots else m.flushed))
        × MatchBool x ((reply ≡ o.reply) × (new.failure ≡ m.failure)) ((fares : Fares) × MayFare Unreported m o.slots fares × (reply ≡ reply_in Unreported o.reply fares) × (new.failure ≡ failure_in fares)) → UnreportedAt m o reply new x
    by true k = k
    by false k = (k.0, (k.1.0, k.1.1, k.1.2 ∙ reply-same o.reply k.1.0, k.1.3))

silent-is : (m : State) (slots : List Slot) (o : Outcome) (reply : ReplyValue) (new : State) → WriterBehind slots o → has_output_ended m ≡ true → HasOutcome o m reply new → Silent m o reply new
silent-is m slots o reply new (inl w) over h = unused-is m o reply new w.0 h
silent-is m slots o reply new (inr w) over h = let k = unreported-at m o reply new true w.0 over h in record { flushed = k.0; reply_is = k.1.0; failure = k.1.1 }

-- a writer that has failed, or whose output broke off, has ended the output; and no other has
ended-as : (m : State) (f : Option Failure) (b : Bool) → m.failure ≡ f → is_output_broken m.reached.slots ≡ b → has_output_ended m ≡ (is_some f || b)
ended-as m f b e broken = ap (λ (x : Option Failure). is_some x || is_output_broken m.reached.slots) e ∙ ap (λ x. is_some f || x) broken

or-true : (b : Bool) → (b || true) ≡ true
or-true true = refl
or-true false = refl

or-left : (a b : Bool) → (a || b) ≡ false → a ≡ false
or-left true b h = h
or-left false b h = refl

or-right : (a b : Bool) → (a || b) ≡ false → b ≡ false
or-right true b h = cc
or-right false b h = h

-- what stands between a state and the one behind a refused head
record Passes (s m : State) (t : Bool) : Type 0 where
  pub grows : IsFront (joined s.reached.slots) (joined m.reached.slots)
  pub breaks : is_output_broken m.reached.slots ≡ is_output_broken s.reached.slots
  pub turn : list_all is_finished m.reached.slots ≡ t
  pub flushed : m.flushed ≡ flushed_after (used_by t) s m.reached.slots
  pub writes : WriterPart (used_by t) s Ended m.reached.slots Ended m.failure
  pub firm : s.failure ≡ None → IsFront s.flushed (joined s.reached.slots)

-- the turn of the refused head hasn't come: nothing is written
compose-hidden : (s m : State) (o : Outcome) (reply : ReplyValue) (new : State) → Passes s m false → Behind m.reached.slots o → HasOutcome o m reply new → Composed s false o reply new
compose-hidden s m o reply new p b h = by b.writer
  where
    by : WriterBehind m.reached.slots o → Composed s false o reply new
    by (inl w) =
        let k = unused-is m o reply new w.0 h in
        record { flushed = new.flushed; outcome = (h.0, k.flushed ∙ p.flushed, (k.reply_is, k.failure ∙ p.writes.1)); same = λ none. refl }
    by (inr w) = let no : false ≡ true = sym p.turn ∙ w.1 in cc

-- it has come, and the output had ended
compose-ended : (s m : State) (o : Outcome) (reply : ReplyValue) (new : State) → Passes s m true → Behind m.reached.slots o → has_output_ended s ≡ true → HasOutcome o m reply new → Composed s true o reply new
compose-ended s m o reply new p b over h =
    let mw : m.failure ≡ s.failure = (let W : Bool → Type 0 = λ x. MatchBool x ((Ended ≡ Ended) × (m.failure ≡ s.failure)) ((fares : Fares) × MayFare Unreported s m.reached.slots fares × (Ended ≡ reply_in Unreported Ended fares) × (m.failure ≡ failure_in fares)) in subst W over p.writes).1 in
    let mf : m.flushed ≡ s.flushed = p.flushed ∙ flushed-is s true m.reached.slots over in
    let over_m : has_output_ended m ≡ true = ended-as m s.failure (is_output_broken s.reached.slots) mw p.breaks ∙ over in
    let k = silent-is m m.reached.slots o reply new b.writer over_m h in
    let R : ReplyValue → Type 0 = λ r. WriterPart Unreported s o.reply o.slots r new.failure in
    record {
      flushed = new.flushed;
      outcome = (h.0, k.flushed ∙ mf ∙ sym (flushed-is s true o.slots over), subst R (sym k.reply_is) (unreported s true o.reply o.slots new.failure over (k.failure ∙ mw)));
      same = λ none. refl;
    }

-- it has come, and the output goes on
compose-open : (s m : State) (o : Outcome) (reply : ReplyValue) (new : State) → Passes s m true → Behind m.reached.slots o → has_output_ended s ≡ false → HasOutcome o m reply new → Composed s true o reply new
compose-open s m o reply new p b over h =
    let W : Bool → Type 0 = λ x. MatchBool x ((Ended ≡ Ended) × (m.failure ≡ s.failure)) ((fares : Fares) × MayFare Unreported s m.reached.slots fares × (Ended ≡ reply_in Unreported Ended fares) × (m.failure ≡ failure_in fares)) in
    let k = subst W over p.writes in
    by k.0 k.1 k.3
  where
    mf : m.flushed ≡ joined m.reached.slots
    mf = p.flushed ∙ flushed-is s false m.reached.slots over

    Answered : Option Failure → Type 0
    Answered f = WriterPart Unreported s o.reply o.slots reply f

    unbroken : is_output_broken m.reached.slots ≡ false
    unbroken = p.breaks ∙ or-right (is_some s.failure) (is_output_broken s.reached.slots) over

    unfailed : (f : Option Failure) → is_some f ≡ false → f ≡ None
    unfailed None e = refl
    unfailed (Some x) e = cc

    firm : IsFront s.flushed (joined m.reached.slots)
    firm = IsFront-append s.flushed (joined s.reached.slots) (joined m.reached.slots) (p.firm (unfailed s.failure (or-left (is_some s.failure) (is_output_broken s.reached.slots) over))) p.grows

    longer : IsFront (joined m.reached.slots) (joined o.slots)
    longer = let P : List Slot → Type 0 = λ x. IsFront (joined m.reached.slots) (joined x) in subst P (sym b.slots_are) (joined-grows m.reached.slots b.more)

    made : reply ≡ o.reply → (new.failure ≡ None) ⊎ ((f : Failure) × (new.failure ≡ Some f) × IsFront s.flushed f.output × IsFront f.output (joined o.slots)) → (new.failure ≡ None → joined o.slots ≡ new.flushed) → Composed s true o reply new
    made is fails same =
        let R : ReplyValue → Type 0 = λ r. WriterPart Unreported s o.reply o.slots r new.failure in
        record { flushed = joined o.slots; outcome = (h.0, sym (flushed-is s false o.slots over), subst R (sym is) (unreported s false o.reply o.slots new.failure over fails)); same = same }

    well : m.failure ≡ None → WriterBehind m.reached.slots o → Composed s true o reply new
    well none (inl w) =
        let k = unused-is m o reply new w.0 h in
        made k.reply_is (inl (k.failure ∙ none)) (λ z. w.1 p.turn ∙ sym mf ∙ sym k.flushed)
    well none (inr w) =
        let k = unreported-at m o reply new false w.0 (ended-as m None false none unbroken) h in
        fares-on k.1.0 k.1.1 k.1.2 k.1.3 k.0
      where
        fares-on : (fares : Fares) → MayFare Unreported m o.slots fares → reply ≡ o.reply → new.failure ≡ failure_in fares → new.flushed ≡ joined o.slots → Composed s true o reply new
        fares-on Well may is fails flushed = made is (inl fails) (λ z. sym flushed)
        fares-on (FailsWithin f) may is fails flushed = absurd may
        fares-on (FailsAfter f) may is fails flushed =
            let F : List ℕ → Type 0 = λ x. IsFront x f.output in
            made is (inr (f, fails, IsFront-append s.flushed (joined m.reached.slots) f.output firm (subst F mf may.0), may.1)) (λ z. (let no : Some f ≡ None = sym fails ∙ z in cc))

    by : (fares : Fares) → MayFare Unreported s m.reached.slots fares → m.failure ≡ failure_in fares → Composed s true o reply new
    by Well may fails = well fails b.writer
    by (FailsWithin f) may fails = absurd may
    by (FailsAfter f) may fails =
        let k = silent-is m m.reached.slots o reply new b.writer (ended-as m (Some f) false fails unbroken) h in
        made k.reply_is (inr (f, k.failure ∙ fails, may.0, IsFront-append f.output (joined m.reached.slots) (joined o.slots) may.1 longer)) (λ z. (let no : Some f ≡ None = sym fails ∙ (sym k.failure ∙ z) in cc))

compose : (s m : State) (t : Bool) (o : Outcome) (reply : ReplyValue) (new : State) → Passes s m t → Behind m.reached.slots o → HasOutcome o m reply new → Composed s t o reply new
compose s m false o reply new p b h = compose-hidden s m o reply new p b h
compose s m true o reply new p b h = by (has_output_ended s) refl
  where
    by : (x : Bool) → has_output_ended s ≡ x → Composed s true o reply new
    by true e = compose-ended s m o reply new p b e h
    by false e = compose-open s m o reply new p b e h

-- what was flushed matters only while the writer hasn't failed
represents-as : (client : Feed) (before : Sink) (k : Kept) (new : State) (flushed : List ℕ) → (new.failure ≡ None → flushed ≡ new.flushed) → Represents client before k new → Represents client before k (record { reached = new.reached; flushed = flushed; failure = new.failure })
represents-as client before k new flushed same st =
    record { numbers = st.numbers; shape = st.shape; in_turn = st.in_turn; asking_ended = st.asking_ended; reader = st.reader; output = by new.failure refl st.output }
  where
    by : (f : Option Failure) → new.failure ≡ f → OutputAt before k.sink k.output_ended new.reached.slots new.flushed f → OutputAt before k.sink k.output_ended new.reached.slots flushed f
    by None e h = let P : List ℕ → Type 0 = λ x. OutputAt before k.sink k.output_ended new.reached.slots x None in subst P (sym (same e)) h
    by (Some f) e h = h

firm-of : (before sink : Sink) (ended : Bool) (slots : List Slot) (flushed : List ℕ) (failure : Option Failure) → OutputAt before sink ended slots flushed failure → failure ≡ None → IsFront flushed (joined slots)
firm-of before sink ended slots flushed None h e = h.4
firm-of before sink ended slots flushed (Some f) h e = cc

-- WHERE AN ASK GOES ON: the connection stands behind the refused head, and an Ask from there is one from in front of it.
pub record AskGoesOn (client : Feed) (before : Sink) (k : Kept) (s : State) (date : HttpDate) : Type 0 where
  pub mid : State
  pub represents : Represents client before k mid
  pub asks : (later : Kept) (reply : ReplyValue) → AskIsAnswered client before later mid date reply → AskIsAnswered client before later s date reply

-- a refused head has its number, and the input stands behind its body
abbrev pub after_passed : Kept → List Mark → Option Feed → Option Stop → Bool → InputState → Sink → Bool → Kept
after_passed k marks p stop over at sink ended = record k { marks = marks; requests = k.requests ++ (None ∷ []); feed = p; stop = stop; is_over = over; input_state = at; sink = sink; output_ended = ended }

-- the input stands in front of the next head
passed-reader : (client : Feed) (k : Kept) (slots : List Slot) (rest more : List Item) (n : Slot) (p : Option Feed) (stop : Option Stop) (over : Bool) (at : InputState) (marks : List Mark) (sink : Sink) (ended : Bool) (close : Stop) (next : Place)
    → InputMatches client k slots rest → IsQuiet k.requests → is_last_slot (Some n) ≡ false → last_was_abandoned (Some n) ≡ false
    → p ≡ Some (place_feed close next) → Pipeline k.profile next close more → (BeginsBehind k.profile next close more → BeginsMore k.profile client) → GoesOn (Some client) p → at ≡ in_place.Head
    → InputMatches client (after_passed k marks p stop over at sink ended) (slots ++ (n ∷ [])) more
passed-reader client k slots rest more n p stop over at marks sink ended close next old quiet unread unlost here items begins source represents =
    let last : last_slot (slots ++ (n ∷ [])) ≡ Some n = last-snoc None slots n in
    let content : last_body (k.requests ++ (None ∷ [])) ≡ None = body-snoc k.requests None in
    let B : Option UnreadBody → Type 0 = λ b. GivesRest b (last_slot (slots ++ (n ∷ []))) p in
    let Q : Option UnreadBody → Type 0 = λ b. PlaceIn client k.profile (is_past_last at) (behind_body b p) more in
    let F : Bool → Option Feed → Type 0 = λ y o. PlaceIn client k.profile y o more in
    record {
      settled = settled-snoc k.requests None old.settled quiet;
      gives = subst B (sym content) tt;
      next = λ e. record {
        is_last = ap is_past_last represents ∙ sym (ap is_last_slot last ∙ unread);
        within = ap is_in_body represents ∙ sym (ap (λ o. not (is_last_slot o) && is_streaming_body (last_body (k.requests ++ (None ∷ [])))) last ∙ rw unread (ap is_streaming_body content));
        lost = λ lost. (let no : true ≡ false = sym lost ∙ (ap last_was_abandoned last ∙ unlost) in cc);
        place = λ e. subst Q (sym content) (subst (λ y. F y p) (sym (ap is_past_last represents)) (subst (λ o. F false o) (sym here) (handed-of client k.profile false close next more items begins)));
      };
      follows = λ holds. subst (λ b. FollowsLast b (last_slot (slots ++ (n ∷ []))) p) (sym content) tt;
      source = source;
    }

answers-by : (slots : List Slot) (item : Item) (refused : List Item) (t : Bool) → turn_has_come (length slots) slots ≡ t → answers_to slots (item ∷ refused) ≡ used_by t
answers-by slots item refused true e = ap use_in_turn e
answers-by slots item refused false e = ap use_in_turn e

answers-behind : (date : HttpDate) (slots : List Slot) (refused rest : List Item) → Behind slots (record { reply = Memory; slots = slots ++ map (new_slot date) refused; rest = rest; asking_ended = true; writer = answers_to slots refused })
answers-behind date slots [] rest = record { more = []; slots_are = refl; writer = inl (refl, λ fin. ap joined (append-nil slots)) }
answers-behind date slots (x ∷ xs) rest = record { more = map (new_slot date) (x ∷ xs); slots_are = refl; writer = by (turn_has_come (length slots) slots) refl }
  where
    o : WriterUse → Outcome
    o w = record { reply = Memory; slots = slots ++ map (new_slot date) (x ∷ xs); rest = rest; asking_ended = true; writer = w }

    by : (t : Bool) → turn_has_come (length slots) slots ≡ t → WriterBehind slots (o (use_in_turn t))
    by true e = inr (refl, sym (turn-next slots) ∙ e)
    by false e = inl (refl, λ fin. (let no : false ≡ true = sym e ∙ (turn-next slots ∙ fin) in cc))

asks-with : (date : HttpDate) (slots : List Slot) (items : List Item) (t : Bool) → list_all is_finished slots ≡ t → asks_from date (used_by t) slots items ≡ with_writer (used_by t) (asks_from date Unused slots items)
asks-with date slots items true fin = asks-writer date Unused slots items
asks-with date slots items false fin = by (asks-behind date slots items)
  where
    o : Outcome
    o = asks_from date Unused slots items

    by : WriterBehind slots o → o ≡ with_writer Unused o
    by (inl w) = ap (λ (x : WriterUse). with_writer x o) w.0
    by (inr w) = let no : false ≡ true = sym fin ∙ w.1 in cc

-- AN ASK FROM BEHIND a refused head is one from in front of it
ask-from-behind : (client : Feed) (before : Sink) (later : Kept) (s m : State) (date : HttpDate) (item : Item) (rest : List Item) (t : Bool) (reply : ReplyValue) → Passes s m t → turn_has_come (length s.reached.slots) s.reached.slots ≡ t → IsPassedOver item
    → m.reached ≡ record { slots = s.reached.slots ++ (new_slot date item ∷ []); rest = rest; asking_ended = false } → s.reached.rest ≡ item ∷ rest
    → s.reached.asking_ended ≡ false → is_last_slot (last_slot s.reached.slots) ≡ false → last_holds_reader (last_slot s.reached.slots) ≡ false → last_was_abandoned (last_slot s.reached.slots) ≡ false
    → ask date s.reached ≡ asks_from date (used_by t) m.reached.slots rest
    → AskIsAnswered client before later m date reply → AskIsAnswered client before later s date reply
ask-from-behind client before later s m date item rest t reply p turn passed reached items open_is more unheld kept is a = by a.2
  where
    new : State
    new = a.0

    found : (flushed : List ℕ) (y : ReplyValue) → FoundHead client later.profile y new → FoundHead client later.profile y (record { reached = new.reached; flushed = flushed; failure = new.failure })
    found flushed (Handed k m f) h = tt
    found flushed Ended h = tt
    found flushed (Given bytes) h = tt
    found flushed (Fault kind) h = tt
    found flushed NotYet h = tt
    found flushed Done h = tt
    found flushed Refused h = tt
    found flushed NoSuch h = tt
    found flushed Memory h = h

    answered : (flushed : List ℕ) → (new.failure ≡ None → flushed ≡ new.flushed) → StepsTo s date Ask reply (record { reached = new.reached; flushed = flushed; failure = new.failure }) → AskIsAnswered client before later s date reply
    answered flushed same steps = (record { reached = new.reached; flushed = flushed; failure = new.failure }, represents-as client before later new flushed same a.1, steps, found flushed reply a.3)

    slots_are : m.reached.slots ≡ s.reached.slots ++ (new_slot date item ∷ [])
    slots_are = ap (λ (x : Reached). x.slots) reached

    rest_is : m.reached.rest ≡ rest
    rest_is = ap (λ (x : Reached). x.rest) reached

    last_is : last_slot m.reached.slots ≡ Some (new_slot date item)
    last_is = ap last_slot slots_are ∙ last-snoc None s.reached.slots (new_slot date item)

    holds-none : (x : Item) → IsPassedOver x → last_holds_reader (Some (new_slot date x)) ≡ false
    holds-none (Asks r) h = elim h [ ]
    holds-none (Refuses refusal v no_body last) h = rw h refl

    lost-none : (x : Item) → IsPassedOver x → last_was_abandoned (Some (new_slot date x)) ≡ false
    lost-none (Asks r) h = elim h [ ]
    lost-none (Refuses refusal v no_body last) h = refl

    by : StepsTo m date Ask reply new → AskIsAnswered client before later s date reply
    by (inl x) =
        let o = asks_from date Unused m.reached.slots rest in
        let H : Outcome → Type 0 = λ z. HasOutcome z m reply new in
        let goes : ask date m.reached ≡ o = ask-goes date m.reached (ap (λ (y : Reached). y.asking_ended) reached) (ap last_holds_reader last_is ∙ holds-none item passed) (ap last_was_abandoned last_is ∙ lost-none item passed) ∙ ap (asks_from date Unused m.reached.slots) rest_is in
        let h = asks-slots date Unused m.reached.slots rest in
        let c = compose s m t o reply new p (record { more = h.0; slots_are = h.1; writer = asks-behind date m.reached.slots rest }) (subst H goes x.2) in
        let G : Outcome → Type 0 = λ z. HasOutcome z s reply (record { reached = new.reached; flushed = c.flushed; failure = new.failure }) in
        answered c.flushed c.same (inl (true, tt, subst G (sym (is ∙ asks-with date m.reached.slots rest t p.turn)) c.outcome))
    by (inr (ended, last, held, lost, refused, behind, eq, all, h)) =
        let c = compose s m t (record { reply = Memory; slots = m.reached.slots ++ map (new_slot date) refused; rest = behind; asking_ended = true; writer = answers_to m.reached.slots refused }) reply new p (answers-behind date m.reached.slots refused behind) h in
        let left : State = record { reached = new.reached; flushed = c.flushed; failure = new.failure } in
        let G : List Slot → WriterUse → Type 0 = λ xs w. HasOutcome (record { reply = Memory; slots = xs; rest = behind; asking_ended = true; writer = w }) s reply left in
        let same : m.reached.slots ++ map (new_slot date) refused ≡ s.reached.slots ++ map (new_slot date) (item ∷ refused) = ap (λ xs. xs ++ map (new_slot date) refused) slots_are ∙ append_assoc s.reached.slots (new_slot date item ∷ []) (map (new_slot date) refused) in
        let outcome = subst (λ w. G (s.reached.slots ++ map (new_slot date) (item ∷ refused)) w) (sym (answers-by s.reached.slots item refused t turn)) (subst (λ xs. G xs (used_by t)) same c.outcome) in
        answered c.flushed c.same (inr (open_is, more, unheld, kept, item ∷ refused, behind, items ∙ ap (λ xs. item ∷ xs) (sym rest_is ∙ eq), (passed, all), outcome))

-- a head is refused, and the next one stands behind its body
pub ask-passes : (client : Feed) (before : Sink) (k : Kept) (s : State) (date : HttpDate) (from_here : InputState) (status : StatusCode) (text : Vec ℕ) (p : Option Feed) (stop : Option Stop) (over : Bool) (at : InputState) (marks : List Mark) (sink : Sink) (ended : Bool) → Represents client before k s → before.failures < 2 ^ 64 - 1
    → k.asking_ended ≡ false → is_past_last k.input_state ≡ false → IsQuiet k.requests → is_last_slot (last_slot s.reached.slots) ≡ false → (InputEnded k → ⊥) → ReadsHead k.profile from_here date k.feed p (Ok (read.Refused status text false)) → GoesOn k.feed p
    → LeavesText (length k.marks == first_unfinished k.marks) k.marks [] marks text.items k.output_ended k.sink sink ended → at ≡ in_place.Head
    → AskGoesOn client before (after_passed k marks p stop over at sink ended) s date
ask-passes client before k s date from_here status text p stop over at marks sink ended st low e o quiet more open_input reads goes leaves head =
    let g = going client before k s st e o quiet open_input in
    let P : Option Feed → Type 0 = λ y. ReadsHead k.profile from_here date y p (Ok (read.Refused status text false)) in
    let found = subst P g.stated reads in
    let refusal = found.0 in
    let v = found.1 in
    let no_body = found.2 in
    let item : Item = Refuses refusal v no_body false in
    let first = pipeline-first k.profile g.feed.bytes g.feed.stop item found.3 s.reached.rest found.4 g.pipeline in
    let n = new_slot date item in
    let slots = s.reached.slots ++ (n ∷ []) in
    let t = turn_has_come (length s.reached.slots) s.reached.slots in
    let whole = refused-whole refusal date v no_body false in
    let out = refuses before k.sink sink k.output_ended ended s k.marks marks k.requests n text.items st.output st.numbers st.shape refl refl whole (refused-text refusal date v no_body false ∙ sym found.5) low leaves in
    let mid : State = record { reached = record { slots = slots; rest = first.0; asking_ended = false }; flushed = flushed_after (used_by t) s slots; failure = out.failure } in
    let passes : Passes s mid t = record {
      grows = joined-grows s.reached.slots (n ∷ []);
      breaks = breaks-more s.reached.slots n whole;
      turn = all-more s.reached.slots n refl ∙ sym (turn-next s.reached.slots);
      flushed = refl;
      writes = out.writes;
      firm = firm-of before k.sink k.output_ended s.reached.slots s.flushed s.failure st.output;
    } in
    let F : List Item → Outcome = λ y. asks_from date Unused s.reached.slots y in
    let is : ask date s.reached ≡ asks_from date (used_by t) slots first.0 = ask-goes date s.reached (st.asking_ended ∙ e) g.unheld g.kept ∙ ap F first.1 in
    record {
      mid = mid;
      represents = record {
        numbers = out.numbers;
        shape = out.shape;
        in_turn = turn-more s.reached.slots n st.in_turn (refl, λ z. (let no : true ≡ false = z in cc));
        asking_ended = sym e;
        reader = passed-reader client k s.reached.slots s.reached.rest first.0 n p stop over at marks sink ended g.feed.stop found.3 st.reader quiet refl refl found.7 first.2 (begins-from client k.profile g.feed item found.3 s.reached.rest first.0 g.begins first.1 found.4) (goes-on_more (Some client) k.feed p st.reader.source goes) head;
        output = out.output;
      };
      asks = λ later reply a. ask-from-behind client before later s mid date item first.0 t reply passes refl refl refl first.1 (st.asking_ended ∙ e) more g.unheld g.kept is a;
    }
