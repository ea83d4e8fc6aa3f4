-- An answer that asks that the connection ends: where the connection stands once the last number was told so.
use Rattle.std.proofs.Common.{◌≡◌, refl, sym, ap, ◌∙◌, subst, ℕ, suc, ◌+◌, ◌<◌, Bool, true, false, not, ◌&&◌, ◌||◌, List, [], ◌∷◌, ◌++◌, Option, Some, None}
use Prim.Native.Nat.{zero}
use Rattle.std.specs.Prelude.{MatchBool, is_some, if◌then◌else◌, slice_get}
use Rattle.std.specs.Option.{option_map}
use Rattle.std.specs.List.{last_or, AllByRecursion}
use Rattle.std.proofs.Math.Bool.{or-false, or-true}
use Rattle.httpdate.specs.declared.date.HttpDate.{HttpDate}
use Rattle.tiny_http_io.specs.Device.{Feed, Sink, IsFront}
use Rattle.tiny_http_body.specs.Text.{Text}
use Rattle.tiny_http_body.specs.declared.body.UnreadBody.{UnreadBody}
use Rattle.tiny_http_open_request.specs.declared.open_request.OpenRequest.{OpenRequest}
use Rattle.tiny_http_open_request.specs.Pipeline.{Item}
use Rattle.tiny_http_body.specs.Body.{remaining, Remaining}
use Rattle.tiny_http_open_request.specs.OpenRequest.{closing as closing_request}
use Rattle.tiny_http_turns.specs.Turns.{Mark, Open, Held, Left, Finished}
use Rattle.tiny_http_connection.specs.declared.pending.Unfinished.{Unfinished}
use Rattle.tiny_http_connection.specs.declared.pending.Unfinished.TheVariants as still
use Rattle.tiny_http_connection.specs.Segments.{Slot, Stage, Unanswered, Answered, ByServer, Raw, Upgraded, is_stage_finished, is_finished, is_broken, is_slot_broken, stage_text, opening, segment}
use Rattle.tiny_http_connection.specs.Slots.{is_output_broken, joined, is_unanswered, closing_slot, with_last, last_slot}
use Rattle.tiny_http_connection.specs.Pending.{kept_body, last_body, holds_next_head_at, last_holds_next_head, closing_number, closing_if_asked}
use Rattle.tiny_http_connection.specs.Connection.{Kept, IsWaiting, IsRaw, IsUpgraded, IsDone, IsLeft, IsKept, AreKept, HasSentNothing, AreSentInTurn, AreSettled, GivesRest, FollowsLast, behind_body, slot_rest, behind_item, OutputAt, InputMatches, Represents}
use Rattle.tiny_http_connection.specs.Steps.{ReplyValue}
use Rattle.tiny_http_connection.specs.Outcomes.{asked_to_close, WriterUse, Unused, Unreported, Reported, Outcome}
use Rattle.tiny_http_connection.specs.Conversation.{Failure, State, finished_front, Fares, Well, FailsWithin, FailsAfter, FallsBetween, MayFare, reply_in, failure_in, writes_nothing, flushes, HasOutcome}
use Rattle.tiny_http_connection.proofs.SlotsLemmas.{joined-cons}

-- ---- one slot

-- what holds of a slot that is told, and of one that is left alone, holds of it
pub by-closing : (P : Slot → Type 0) (s : Slot) → (is_unanswered s.stage ≡ true → P (record s { closes = true })) → P s → P (closing_slot s)
by-closing P s stop_count same = go (is_unanswered s.stage) refl
  where
    go : (b : Bool) → is_unanswered s.stage ≡ b → P (if b then record s { closes = true } else s)
    go true e = stop_count e
    go false e = same

closing-stop_count : (s : Slot) → is_unanswered s.stage ≡ true → closing_slot s ≡ record s { closes = true }
closing-stop_count s e = rw e refl

closing-same : (s : Slot) → is_unanswered s.stage ≡ false → closing_slot s ≡ s
closing-same s e = rw e refl

-- an answer that isn't made has no text yet
unanswered-text : (a b : Bool) (item : Item) (date : HttpDate) (stage : Stage) → is_unanswered stage ≡ true → stage_text a item date stage ≡ stage_text b item date stage
unanswered-text a b item date Unanswered e = refl
unanswered-text a b item date (Answered response at found) e = cc
unanswered-text a b item date ByServer e = cc
unanswered-text a b item date (Raw written ends) e = cc
unanswered-text a b item date (Upgraded protocol response at written ends) e = cc

finished-answered : (stage : Stage) → is_stage_finished stage ≡ true → is_unanswered stage ≡ false
finished-answered Unanswered e = cc
finished-answered (Answered response at found) e = refl
finished-answered ByServer e = refl
finished-answered (Raw written ends) e = refl
finished-answered (Upgraded protocol response at written ends) e = refl

pub closing-item : (s : Slot) → (closing_slot s).item ≡ s.item
closing-item s = by-closing (λ t. t.item ≡ s.item) s (λ e. refl) refl

pub closing-stage : (s : Slot) → (closing_slot s).stage ≡ s.stage
closing-stage s = by-closing (λ t. t.stage ≡ s.stage) s (λ e. refl) refl

closing-finished : (s : Slot) → is_finished (closing_slot s) ≡ is_finished s
closing-finished s = by-closing (λ t. is_finished t ≡ is_finished s) s (λ e. refl) refl

closing-text : (s : Slot) → (stage_text (closing_slot s).closes (closing_slot s).item (closing_slot s).date (closing_slot s).stage) ≡ stage_text s.closes s.item s.date s.stage
closing-text s = by-closing (λ t. stage_text t.closes t.item t.date t.stage ≡ stage_text s.closes s.item s.date s.stage) s (λ e. unanswered-text true s.closes s.item s.date s.stage e) refl

closing-opening : (s : Slot) → opening (closing_slot s).item (closing_slot s).continued ≡ opening s.item s.continued
closing-opening s = by-closing (λ t. opening t.item t.continued ≡ opening s.item s.continued) s (λ e. refl) refl

closing-segment : (s : Slot) → segment (closing_slot s) ≡ segment s
closing-segment s = ap (λ o. o ++ (stage_text (closing_slot s).closes (closing_slot s).item (closing_slot s).date (closing_slot s).stage).bytes) (closing-opening s) ∙ ap (λ (x : Text). opening s.item s.continued ++ x.bytes) (closing-text s)

closing-broken : (s : Slot) → is_slot_broken (closing_slot s) ≡ is_slot_broken s
closing-broken s = ap (λ (x : Text). is_broken x.ending) (closing-text s)

-- ---- all slots

pub joined-closing : (slots : List Slot) → joined (with_last closing_slot slots) ≡ joined slots
joined-closing [] = refl
joined-closing (s ∷ []) =
    ap (λ x. x ++ (if (is_finished (closing_slot s) && not (is_slot_broken (closing_slot s))) then [] else [])) (closing-segment s)
    ∙ ap (λ f. segment s ++ (if (f && not (is_slot_broken (closing_slot s))) then [] else [])) (closing-finished s)
    ∙ ap (λ b. segment s ++ (if (is_finished s && not b) then [] else [])) (closing-broken s)
joined-closing (s ∷ t ∷ slots) = joined-cons s (with_last closing_slot (t ∷ slots)) (t ∷ slots) (λ f b. joined-closing (t ∷ slots))

pub broken-closing : (slots : List Slot) → is_output_broken (with_last closing_slot slots) ≡ is_output_broken slots
broken-closing [] = refl
broken-closing (s ∷ []) = ap (λ b. b || (is_finished (closing_slot s) && false)) (closing-broken s) ∙ ap (λ f. is_slot_broken s || (f && false)) (closing-finished s)
broken-closing (s ∷ t ∷ slots) = ap (λ b. is_slot_broken s || (is_finished s && b)) (broken-closing (t ∷ slots))

front-closing : (slots : List Slot) → finished_front (with_last closing_slot slots) ≡ finished_front slots
front-closing [] = refl
front-closing (s ∷ []) = ap (λ f. if f then 0 + 1 else 0) (closing-finished s)
front-closing (s ∷ t ∷ slots) = ap (λ n. if is_finished s then n + 1 else 0) (front-closing (t ∷ slots))

closing-sent : (s : Slot) → HasSentNothing s → HasSentNothing (closing_slot s)
closing-sent s h = by-closing HasSentNothing s (λ e. (h.0, λ f. ap (λ (x : Text). x.bytes) (unanswered-text true s.closes s.item s.date s.stage e) ∙ h.1 f)) h

all-closing : (slots : List Slot) → AllByRecursion HasSentNothing slots → AllByRecursion HasSentNothing (with_last closing_slot slots)
all-closing [] h = h
all-closing (s ∷ []) h = (closing-sent s h.0, h.1)
all-closing (s ∷ t ∷ slots) h = (h.0, all-closing (t ∷ slots) h.1)

either-way : (b : Bool) (A B C D : Type 0) → (A → C) → (B → D) → MatchBool b A B → MatchBool b C D
either-way true A B C D f g h = f h
either-way false A B C D f g h = g h

sent-closing : (slots : List Slot) → AreSentInTurn slots → AreSentInTurn (with_last closing_slot slots)
sent-closing [] h = h
sent-closing (s ∷ []) h = subst (λ b. MatchBool b (AreSentInTurn []) (AllByRecursion HasSentNothing [])) (sym (closing-finished s)) h
sent-closing (s ∷ t ∷ slots) h =
    either-way (is_finished s) (AreSentInTurn (t ∷ slots)) (AllByRecursion HasSentNothing (t ∷ slots)) (AreSentInTurn (with_last closing_slot (t ∷ slots))) (AllByRecursion HasSentNothing (with_last closing_slot (t ∷ slots)))
    (λ x. sent-closing (t ∷ slots) x) (λ x. all-closing (t ∷ slots) x) h

last-or-closing : (d : Option Slot) (s : Slot) (slots : List Slot) → last_or d (with_last closing_slot (s ∷ slots)) ≡ option_map closing_slot (last_or d (s ∷ slots))
last-or-closing d s [] = refl
last-or-closing d s (t ∷ slots) = last-or-closing (Some s) t slots

last-closing : (slots : List Slot) → last_slot (with_last closing_slot slots) ≡ option_map closing_slot (last_slot slots)
last-closing [] = refl
last-closing (s ∷ slots) = last-or-closing None s slots

-- a second time it changes nothing
closing-twice : (s : Slot) → closing_slot (closing_slot s) ≡ closing_slot s
closing-twice s = by (is_unanswered s.stage) refl
  where
    by : (b : Bool) → is_unanswered s.stage ≡ b → closing_slot (closing_slot s) ≡ closing_slot s
    by true e = ap closing_slot (closing-stop_count s e) ∙ closing-stop_count (record s { closes = true }) e ∙ sym (closing-stop_count s e)
    by false e = ap closing_slot (closing-same s e)

-- the list of the slots behind one, and the slot itself, which keeps its item
pub record Leads (s : Slot) (cs : List Slot) : Type 0 where
  pub slot : Slot
  pub behind : List Slot
  pub is : with_last closing_slot (s ∷ cs) ≡ slot ∷ behind
  pub item : slot.item ≡ s.item
  pub stage : slot.stage ≡ s.stage

pub leads : (s : Slot) (cs : List Slot) → Leads s cs
leads s [] = record { slot = closing_slot s; behind = []; is = refl; item = closing-item s; stage = closing-stage s }
leads s (c ∷ cs) = record { slot = s; behind = with_last closing_slot (c ∷ cs); is = refl; item = refl; stage = refl }

pub closing-behind : (bs : List Slot) (s : Slot) (cs : List Slot) → with_last closing_slot (bs ++ (s ∷ cs)) ≡ bs ++ with_last closing_slot (s ∷ cs)
closing-behind [] s cs = refl
closing-behind (b ∷ []) s cs = refl
closing-behind (b ∷ c ∷ bs) s cs = ap (λ l. b ∷ l) (closing-behind (c ∷ bs) s cs)

-- ---- what is kept

waiting-closing : (s : Slot) (w : OpenRequest UnreadBody) → IsWaiting s w → IsWaiting (closing_slot s) (closing_request w)
waiting-closing s w h =
    let waits : is_unanswered s.stage ≡ true = ap (λ (x : Slot). is_unanswered x.stage) h.is in
    record {
      request = h.request;
      handed = record h.handed { closes = true };
      given = h.given;
      end_reported = h.end_reported;
      is = closing-stop_count s waits ∙ ap (λ (x : Slot). record x { closes = true }) h.is;
      owed = h.owed;
      holds = h.holds;
      standard = h.standard;
      connect = h.connect;
      upgrades = h.upgrades;
      closes = refl;
      unsent = h.unsent;
      rest_is_last = h.rest_is_last;
      response_context = h.response_context;
      dropped = h.dropped;
      fits = h.fits;
      settled = h.settled;
    }

kept-is-closing : (s : Slot) (m : Mark) (u : Option Unfinished) → IsKept s m u → IsKept (closing_slot s) m (closing_number u)
kept-is-closing s Open None h = absurd h
kept-is-closing s Open (Some (still.Waiting w)) h = waiting-closing s w h
kept-is-closing s Open (Some still.Raw) h = subst (λ t. IsRaw t) (sym (closing-same s (ap is_unanswered h.stage))) h
kept-is-closing s Open (Some (still.Upgraded b)) h =
    subst (λ t. IsUpgraded t b) (sym (closing-same s (ap (λ (x : Slot). is_unanswered x.stage) h.opened.is ∙ ap is_unanswered h.stage))) h
kept-is-closing s Held u h = absurd h
kept-is-closing s (Left text) None h = subst (λ t. IsLeft t text) (sym (closing-same s (finished-answered s.stage h.done.finished))) h
kept-is-closing s (Left text) (Some u) h = absurd h
kept-is-closing s Finished None h = subst (λ t. IsDone t) (sym (closing-same s (finished-answered s.stage h.finished))) h
kept-is-closing s Finished (Some u) h = absurd h

kept-closing : (slots : List Slot) (marks : List Mark) (requests : List (Option Unfinished)) → AreKept slots marks requests → AreKept (with_last closing_slot slots) marks (with_last closing_number requests)
kept-closing [] [] [] h = h
kept-closing [] [] (u ∷ us) h = absurd h
kept-closing [] (m ∷ marks) us h = absurd h
kept-closing (s ∷ slots) [] us h = absurd h
kept-closing (s ∷ slots) (m ∷ marks) [] h = absurd h
kept-closing (s ∷ []) (m ∷ []) (u ∷ []) h = (kept-is-closing s m u h.0, h.1)
kept-closing (s ∷ []) (m ∷ []) (u ∷ v ∷ us) h = absurd h.1
kept-closing (s ∷ []) (m ∷ n ∷ marks) (u ∷ us) h = absurd h.1
kept-closing (s ∷ t ∷ slots) (m ∷ []) (u ∷ us) h = absurd h.1
kept-closing (s ∷ t ∷ slots) (m ∷ n ∷ marks) (u ∷ []) h = absurd h.1
kept-closing (s ∷ t ∷ slots) (m ∷ n ∷ marks) (u ∷ v ∷ us) h = (h.0, kept-closing (t ∷ slots) (n ∷ marks) (v ∷ us) h.1)

body-number : (u : Option Unfinished) → kept_body (closing_number u) ≡ kept_body u
body-number None = refl
body-number (Some (still.Waiting w)) = refl
body-number (Some still.Raw) = refl
body-number (Some (still.Upgraded b)) = refl

body-closing : (us : List (Option Unfinished)) → last_body (with_last closing_number us) ≡ last_body us
body-closing [] = refl
body-closing (u ∷ []) = body-number u
body-closing (u ∷ v ∷ []) = body-number v
body-closing (u ∷ v ∷ w ∷ us) = body-closing (v ∷ w ∷ us)

holds-number : (u : Option Unfinished) → holds_next_head_at (Some (closing_number u)) ≡ holds_next_head_at (Some u)
holds-number None = refl
holds-number (Some (still.Waiting w)) = refl
holds-number (Some still.Raw) = refl
holds-number (Some (still.Upgraded b)) = refl

holds-closing : (us : List (Option Unfinished)) → last_holds_next_head (with_last closing_number us) ≡ last_holds_next_head us
holds-closing [] = refl
holds-closing (u ∷ []) = holds-number u
holds-closing (u ∷ v ∷ []) = holds-number v
holds-closing (u ∷ v ∷ w ∷ us) = holds-closing (v ∷ w ∷ us)

settled-closing : (us : List (Option Unfinished)) → AreSettled us → AreSettled (with_last closing_number us)
settled-closing [] h = h
settled-closing (u ∷ []) h = h
settled-closing (u ∷ v ∷ []) h = h
settled-closing (u ∷ v ∷ w ∷ us) h = (h.0, settled-closing (v ∷ w ∷ us) h.1)

-- what doesn't see whether a number was told is the same of each number
pub at-closing : {X : Type 0} (f : Option (Option Unfinished) → X) → ((u : Option Unfinished) → f (Some (closing_number u)) ≡ f (Some u)) → (us : List (Option Unfinished)) (n : ℕ) → f (slice_get (with_last closing_number us) n) ≡ f (slice_get us n)
at-closing f same [] n = refl
at-closing f same (u ∷ []) zero = same u
at-closing f same (u ∷ []) (suc n) = refl
at-closing f same (u ∷ v ∷ us) zero = refl
at-closing f same (u ∷ v ∷ us) (suc n) = at-closing f same (v ∷ us) n

pub at-asked : {X : Type 0} (f : Option (Option Unfinished) → X) → ((u : Option Unfinished) → f (Some (closing_number u)) ≡ f (Some u)) → (closes : Bool) (us : List (Option Unfinished)) (n : ℕ) → f (slice_get (closing_if_asked closes us) n) ≡ f (slice_get us n)
at-asked f same true us n = at-closing f same us n
at-asked f same false us n = refl

-- ---- where the connection stands

-- what is kept, once an answer asks for it or doesn't
abbrev pub asked_kept : Bool → Kept → Kept
asked_kept closes k = record k { requests = closing_if_asked closes k.requests; asking_ended = k.asking_ended || closes }

abbrev pub asked_state : Bool → State → State
asked_state closes s = record s { reached = asked_to_close closes s.reached }

abbrev closed_kept : Kept → Kept
closed_kept k = record k { requests = with_last closing_number k.requests; asking_ended = true }

gives-closing : (b : Option UnreadBody) (o : Option Slot) (feed : Option Feed) → GivesRest b o feed → GivesRest b (option_map closing_slot o) feed
gives-closing None o feed h = h
gives-closing (Some b) None feed h = h
gives-closing (Some b) (Some s) feed h = by-closing (λ t. option_map (λ (r : Remaining). r.body) (remaining b feed) ≡ Some (slot_rest t)) s (λ e. h) h

follows-closing : (b : Option UnreadBody) (o : Option Slot) (feed : Option Feed) → FollowsLast b o feed → FollowsLast b (option_map closing_slot o) feed
follows-closing None o feed h = h
follows-closing (Some b) None feed h = h
follows-closing (Some b) (Some s) feed h = by-closing (λ t. behind_body (Some b) feed ≡ Some (behind_item t.item)) s (λ e. h) h

input-closing : (client : Feed) (k : Kept) (slots : List Slot) (rest : List Item) → InputMatches client k slots rest → InputMatches client (closed_kept k) (with_last closing_slot slots) rest
input-closing client k slots rest r =
    let G : Option UnreadBody → Type 0 = λ b. GivesRest b (last_slot (with_last closing_slot slots)) k.feed in
    let H : Option Slot → Type 0 = λ o. GivesRest (last_body k.requests) o k.feed in
    let F : Option UnreadBody → Type 0 = λ b. FollowsLast b (last_slot (with_last closing_slot slots)) k.feed in
    let E : Option Slot → Type 0 = λ o. FollowsLast (last_body k.requests) o k.feed in
    record {
      settled = settled-closing k.requests r.settled;
      gives = subst G (sym (body-closing k.requests)) (subst H (sym (last-closing slots)) (gives-closing (last_body k.requests) (last_slot slots) k.feed r.gives));
      next = λ e. absurd (let no : true ≡ false = e in cc);
      follows = λ e. subst F (sym (body-closing k.requests)) (subst E (sym (last-closing slots)) (follows-closing (last_body k.requests) (last_slot slots) k.feed (r.follows (sym (holds-closing k.requests) ∙ e))));
      source = r.source;
    }

output-closing : (before sink : Sink) (ended : Bool) (slots : List Slot) (flushed : List ℕ) (failure : Option Failure) → OutputAt before sink ended slots flushed failure → OutputAt before sink ended (with_last closing_slot slots) flushed failure
output-closing before sink ended slots flushed None h =
    let J : List ℕ → Type 0 = λ j. IsFront flushed j in
    (h.0 ∙ ap Some (sym (joined-closing slots)), h.1, h.2, h.3 ∙ sym (broken-closing slots), subst J (sym (joined-closing slots)) h.4, h.5)
output-closing before sink ended slots flushed (Some f) h = h

represents-closing : (client : Feed) (before : Sink) (k : Kept) (s : State) → Represents client before k s → Represents client before (closed_kept k) (asked_state true s)
represents-closing client before k s st =
    record {
      numbers = kept-closing s.reached.slots k.marks k.requests st.numbers;
      shape = st.shape;
      in_turn = sent-closing s.reached.slots st.in_turn;
      asking_ended = refl;
      reader = input-closing client k s.reached.slots s.reached.rest st.reader;
      output = output-closing before k.sink k.output_ended s.reached.slots s.flushed s.failure st.output;
    }

pub represents-asked : (closes : Bool) (client : Feed) (before : Sink) (k : Kept) (s : State) → Represents client before k s → Represents client before (asked_kept closes k) (asked_state closes s)
represents-asked true client before k s st = subst (λ e. Represents client before (record k { requests = with_last closing_number k.requests; asking_ended = e }) (asked_state true s)) (sym (or-true k.asking_ended)) (represents-closing client before k s st)
represents-asked false client before k s st = subst (λ e. Represents client before (record k { asking_ended = e }) s) (sym (or-false k.asking_ended)) st

-- ---- what a step comes to doesn't see it

silent-closing : (w : WriterUse) (s : State) → writes_nothing w (asked_state true s) ≡ writes_nothing w s
silent-closing Unused s = refl
silent-closing Unreported s = ap (λ b. is_some s.failure || b) (broken-closing s.reached.slots)
silent-closing (Reported own broken flushed report) s = ap (λ b. is_some s.failure || b) (broken-closing s.reached.slots)

fares-closing : (w : WriterUse) (s : State) (slots : List Slot) (f : Fares) → MayFare w (asked_state true s) slots f → MayFare w s slots f
fares-closing w s slots Well h = h
fares-closing Unused s slots (FailsWithin f) h = h
fares-closing Unused s slots (FailsAfter f) h = h
fares-closing Unreported s slots (FailsWithin f) h = h
fares-closing Unreported s slots (FailsAfter f) h = h
fares-closing (Reported own broken flushed report) s slots (FailsWithin f) h = (h.0, subst (λ j. FallsBetween s.flushed (j ++ own) f) (joined-closing s.reached.slots) h.1)
fares-closing (Reported own None flushed report) s slots (FailsAfter f) h =
    (subst (λ n. n + 1 < finished_front slots) (front-closing s.reached.slots) h.0, subst (λ j. FallsBetween (j ++ own) (joined slots) f) (joined-closing s.reached.slots) h.1)
fares-closing (Reported own (Some kind) flushed report) s slots (FailsAfter f) h = subst (λ j. FallsBetween s.flushed (j ++ own) f) (joined-closing s.reached.slots) h

writes-closing : (b : Bool) (w : WriterUse) (s : State) (planned : ReplyValue) (slots : List Slot) (reply : ReplyValue) (failure : Option Failure)
    → MatchBool b ((reply ≡ planned) × (failure ≡ s.failure)) ((fares : Fares) × MayFare w (asked_state true s) slots fares × (reply ≡ reply_in w planned fares) × (failure ≡ failure_in fares))
    → MatchBool b ((reply ≡ planned) × (failure ≡ s.failure)) ((fares : Fares) × MayFare w s slots fares × (reply ≡ reply_in w planned fares) × (failure ≡ failure_in fares))
writes-closing true w s planned slots reply failure h = h
writes-closing false w s planned slots reply failure h = (h.0, fares-closing w s slots h.0 h.1, h.2, h.3)

outcome-closing : (o : Outcome) (s : State) (reply : ReplyValue) (new : State) → HasOutcome o (asked_state true s) reply new → HasOutcome o s reply new
outcome-closing o s reply new h =
    let W : Bool → Type 0 = λ b. MatchBool b ((reply ≡ o.reply) × (new.failure ≡ s.failure)) ((fares : Fares) × MayFare o.writer s o.slots fares × (reply ≡ reply_in o.writer o.reply fares) × (new.failure ≡ failure_in fares)) in (
      h.0,
      h.1 ∙ ap (λ b. if (flushes o.writer && not b) then joined o.slots else s.flushed) (silent-closing o.writer s),
      subst W (silent-closing o.writer s) (writes-closing (writes_nothing o.writer (asked_state true s)) o.writer s o.reply o.slots reply new.failure h.2),
    )

pub outcome-asked : (closes : Bool) (o : Outcome) (s : State) (reply : ReplyValue) (new : State) → HasOutcome o (asked_state closes s) reply new → HasOutcome o s reply new
outcome-asked true o s reply new h = outcome-closing o s reply new h
outcome-asked false o s reply new h = h

twice-closing : (slots : List Slot) → with_last closing_slot (with_last closing_slot slots) ≡ with_last closing_slot slots
twice-closing [] = refl
twice-closing (s ∷ []) = ap (λ x. x ∷ []) (closing-twice s)
twice-closing (s ∷ t ∷ []) = ap (λ x. s ∷ x ∷ []) (closing-twice t)
twice-closing (s ∷ t ∷ u ∷ slots) = ap (λ l. s ∷ l) (twice-closing (t ∷ u ∷ slots))

-- asked a second time it changes nothing
pub twice-asked : (closes : Bool) (s : State) → asked_to_close closes (asked_state closes s).reached ≡ (asked_state closes s).reached
twice-asked true s = ap (λ l. record s.reached { slots = l; asking_ended = true }) (twice-closing s.reached.slots)
twice-asked false s = refl

-- the slot of a number, which keeps its item
pub leads-asked : (closes : Bool) (s : State) (bs : List Slot) (x : Slot) (cs : List Slot) → s.reached.slots ≡ bs ++ (x ∷ cs) → (t : Slot) × (ds : List Slot) × ((asked_state closes s).reached.slots ≡ bs ++ (t ∷ ds)) × (t.item ≡ x.item) × (t.stage ≡ x.stage)
leads-asked true s bs x cs e =
    let l = leads x cs in
    (l.slot, l.behind, ap (with_last closing_slot) e ∙ closing-behind bs x cs ∙ ap (λ y. bs ++ y) l.is, l.item, l.stage)
leads-asked false s bs x cs e = (x, cs, e, refl, refl)
