-- An Upgrade: from where the connection stands to where it stands after it.
use Rattle.tiny_http_connection.proofs.ConnectionDrop.{IsKeptOf, refusal-same}
use Rattle.tiny_http_connection.specs.Pending.{last_body, last_holds_next_head}
use Rattle.tiny_http_open_request.specs.OpenRequest.{upgrade_check, request_check}
use Rattle.tiny_http_body.specs.Body.{remainder, is_long, Remaining, remaining, is_streaming, is_whole, stream_body}
use Rattle.tiny_http_standard_head.specs.Validation.{names_protocol}
use Rattle.std.proofs.Math.Bool.{or-true}
use Rattle.std.specs.Option.{option_map}
use Rattle.std.proofs.Common.{inr, ◌≡◌, refl, sym, ap, ◌∙◌, subst, ℕ, ◌-◌, ◌<◌, ◌^◌, inl, ⊎_elim, Bool, true, false, ◌&&◌, ◌||◌, List, [], ◌∷◌, ◌++◌, Option, Some, append-nil, eq-eqb, not, length, None, Ok, Err, arith}
use Rattle.std.proofs.lemmas.Bool.{eqb-true}
use Rattle.std.specs.Prelude.{Result, ⊤, ◌==◌, slice_get, slice_set, is_err, if◌then◌else◌}
use Rattle.std.specs.List.{list_all}
use Rattle.httpdate.specs.declared.date.HttpDate.{HttpDate}
use Rattle.tiny_http_text.specs.Bytes.{is_ascii}
use Rattle.tiny_http_io.specs.Device.{Feed, Sink}
use Rattle.tiny_http_response.specs.declared.response_context.ResponseContext.{ResponseContext}
use Rattle.tiny_http_io.specs.Source.{SourceState, GoesOn}
use Rattle.tiny_http_response.specs.ResponseValue.{ResponseValue, printing_in, upgrade_text}
use Rattle.tiny_http_response.specs.Sending.{CanSend, IsFlushed, SendsUnlessEnded}
use Rattle.tiny_http_body.specs.declared.body.UnreadBody.{UnreadBody}
use Rattle.tiny_http_body.specs.declared.body.UnreadBody.TheVariants as body
use Rattle.tiny_http_open_request.specs.declared.upgrading.UpgradeError.{UpgradeError}
use Rattle.tiny_http_open_request.specs.declared.upgrading.UpgradeError.TheVariants.{Protocol, NotAsked, Status, UnfinishedBody}
use Rattle.tiny_http_open_request.specs.declared.open_request.OpenRequest.{OpenRequest}
use Rattle.tiny_http_open_request.specs.Pipeline.{Asks, Item, Request}
use Rattle.tiny_http_response.specs.Answer.{text_of}
use Rattle.tiny_http_turns.specs.Turns.{Mark, Open, AreInShape, first_unfinished}
use Rattle.tiny_http_connection.specs.declared.pending.Unfinished.{Unfinished}
use Rattle.tiny_http_connection.specs.declared.pending.Unfinished.TheVariants as still
use Rattle.tiny_http_connection.specs.Segments.{Slot, Unanswered, Answered as AnsweredBy, ByServer, Raw, Upgraded, is_finished, segment, opening, to_request, Stage, is_slot_broken}
use Rattle.tiny_http_connection.specs.Slots.{joined, is_chunked_form, is_last_slot, as_stream, upgraded_slot, refuses_upgrade, last_slot}
use Rattle.tiny_http_connection.specs.Steps.{Upgrade, Done, NotYet}
use Rattle.tiny_http_connection.specs.Outcomes.{Unreported, Outcome, Reached, ends_asking, ends_with_stream, changes, at_slot, at_number}
use Rattle.tiny_http_connection.specs.Conversation.{State, flushed_after, WriterPart, HasOutcome}
use Rattle.tiny_http_connection.specs.Connection.{Kept, open_slot, IsWaiting, IsUpgraded, AreSentInTurn, AreKept, OutputAt, slot_rest, InputMatches, Represents, AreSettled, GivesRest, behind_body, behind_item}
use Rattle.tiny_http_connection.proofs.SlotsLemmas.{breaks-waits}
use Rattle.tiny_http_connection.proofs.ConversationWriting.{unreported, flushed-is}
use Rattle.tiny_http_connection.proofs.ConnectionAsk.{StepIsAnswered, step-unchanged}
use Rattle.tiny_http_connection.proofs.ConnectionBody.{IsInput, Alike, with_reader, reader-alike, last-waits}
use Rattle.tiny_http_connection.proofs.ConnectionReader.{open-waiting, waiting-kept, and-false, holds-snoc, last-snoc, body-snoc, settled-place, settled-set, waiting-whole}
use Rattle.tiny_http_connection.proofs.ConnectionKept.{kept-append, kept-many, KeptAt, place-of, InTurn, OutOfTurn, turn-at}
use Rattle.tiny_http_connection.proofs.ConnectionOutput.{joined_if, ended-is, can-send, More, output-more, longer-at}
use Rattle.tiny_http_connection.proofs.ConnectionTurns.{turn-continued}
use Rattle.tiny_http_connection.proofs.ConnectionRespond.{NeedsWaiting, slot-at, set-place, after_number, reader-after, with_asking_ended, reader-ended, neither, both-end, stream-same, with_ended}

pub upgrade-not_taken : (n : ℕ) (protocol : List ℕ) (v : ResponseValue) → NeedsWaiting (Upgrade n protocol v)
upgrade-not_taken n protocol v Unanswered owed e = cc
upgrade-not_taken n protocol v (AnsweredBy r d f) owed e = refl
upgrade-not_taken n protocol v ByServer owed e = refl
upgrade-not_taken n protocol v (Raw w c) owed e = refl
upgrade-not_taken n protocol v (Upgraded p r d w c) owed e = refl

-- what is kept of a request that waits is that of its slot
kept-of : (s : Slot) (w : OpenRequest UnreadBody) (h : IsWaiting s w) → IsKeptOf w h.request h.given h.end_reported
kept-of s w h = (h.standard, h.connect, h.upgrades, waiting-whole s w h)

-- the slot says the same of an upgrade as what is kept
refuses-same : (s : Slot) (w : OpenRequest UnreadBody) (h : IsWaiting s w) (protocol : List ℕ) (v : ResponseValue)
    → refuses_upgrade h.request (open_slot h.handed h.request h.given h.end_reported) protocol v ≡ is_err (request_check w protocol v.answer.status (is_whole w.body))
refuses-same s w h protocol v = refusal-same w h.request h.given h.end_reported (open_slot h.handed h.request h.given h.end_reported) protocol v (kept-of s w h) refl refl

-- its turn hasn't come
pub upgrade-not_yet : (client : Feed) (before : Sink) (k : Kept) (s : State) (date : HttpDate) (n : ℕ) (protocol : List ℕ) (v : ResponseValue) (w : OpenRequest UnreadBody) → Represents client before k s → slice_get k.requests n ≡ Some (Some (still.Waiting w))
    → is_err (request_check w protocol v.answer.status (is_whole w.body)) ≡ false → (n == first_unfinished k.marks) ≡ false → StepIsAnswered client before k s date (Upgrade n protocol v) NotYet
upgrade-not_yet client before k s date n protocol v w st e granted early =
    let p = place-of s.reached.slots k.marks k.requests n (still.Waiting w) st.numbers e in
    let at = slot-at s.reached.slots p.bs p.cs p.s n p.slots_are p.slots_before in
    let S : List Mark → Type 0 = λ m. AreInShape m in
    let never : (t : InTurn p.bs p.fs p.rs) → ⊥ = λ t. (let come = eq-eqb n (first_unfinished k.marks) (sym p.marks_before ∙ t.turn ∙ ap first_unfinished (sym p.marks_are)) in let no : true ≡ false = sym come ∙ early in cc) in
    let late : list_all is_finished p.bs ≡ false = ⊎_elim (λ (t : InTurn p.bs p.fs p.rs). absurd (never t)) (λ (t : OutOfTurn p.bs p.fs p.rs). t.unfinished) (turn-at p.bs p.fs p.us p.rs p.before (subst S p.marks_are st.shape)) in
    let T : Slot → Outcome = λ x. at_slot true date s.reached n (Upgrade n protocol v) (Some x) in
    let goes = refuses-same p.s w p.waiting protocol v ∙ granted in
    step-unchanged client before k s date (Upgrade n protocol v) NotYet st (ap (at_slot true date s.reached n (Upgrade n protocol v)) at.get ∙ ap T p.waiting.is ∙ rw (goes, at.turn ∙ late) refl)

-- a request that was upgraded, by what its slot became
record Becomes (protocol : List ℕ) (v : ResponseValue) (date : HttpDate) (s : Slot) (w : OpenRequest UnreadBody) (h : IsWaiting s w) (t : Slot) (b : UnreadBody) : Type 0 where
  upgraded : IsUpgraded t b
  unfinished : is_finished t ≡ false
  whole : is_slot_broken t ≡ false
  segment_is : segment t ≡ segment (open_slot h.handed h.request h.given h.end_reported) ++ upgrade_text v protocol (to_request h.request.framing.is_last h.request date)

-- the stage of such a slot
abbrev begun_stage : List ℕ → ResponseValue → HttpDate → Stage
begun_stage protocol v date = Upgraded protocol v date [] false

abbrev slot_upgraded : List ℕ → ResponseValue → HttpDate → (s : Slot) (w : OpenRequest UnreadBody) → IsWaiting s w → Slot
slot_upgraded protocol v date s w h = upgraded_slot h.request (open_slot h.handed h.request h.given h.end_reported) (begun_stage protocol v date)

-- its segment: what was sent before, and the text of the upgrade
segment-more : (item : Item) (continued : Option HttpDate) (text : List ℕ) → opening item continued ++ (text ++ []) ≡ (opening item continued ++ []) ++ text
segment-more item continued text = ap (λ y. opening item continued ++ y) (append-nil text) ∙ ap (λ y. y ++ text) (sym (append-nil (opening item continued)))

-- by the rules of tiny_http the stream reads the request's own body
becomes-lenient : (protocol : List ℕ) (v : ResponseValue) (date : HttpDate) (s : Slot) (w : OpenRequest UnreadBody) (h : IsWaiting s w) → Becomes protocol v date s w h (record (open_slot h.handed h.request h.given h.end_reported) { stage = begun_stage protocol v date; owed = false }) w.body
becomes-lenient protocol v date s w h = record {
  upgraded = record {
    opened = record {
      request = h.request;
      handed = record { date = h.handed.date; continued = h.handed.continued; owed = false; closes = h.handed.closes };
      stage = begun_stage protocol v date;
      given = h.given;
      end_reported = h.end_reported;
      is = refl;
      rest_is_last = h.rest_is_last;
      fits = h.fits;
      settled = h.settled;
    };
    protocol = protocol;
    response = v;
    date = date;
    written = [];
    stage = refl;
  };
  unfinished = refl;
  whole = refl;
  segment_is = segment-more (Asks h.request) h.handed.continued (upgrade_text v protocol (to_request h.request.framing.is_last h.request date));
}

-- by the standard the request and the stream in its place are answered alike, but for what is said of the connection
stream-opening : (r : Request) (continued : Option HttpDate) → r.framing.by_standard ≡ true → opening (Asks (as_stream r)) continued ≡ opening (Asks r) continued
unfolding text_of
stream-opening r None e = refl
stream-opening r (Some d) e = rw e refl

stream-text : (v : ResponseValue) (protocol : List ℕ) (r : Request) (date : HttpDate) → r.framing.by_standard ≡ true → upgrade_text v protocol (to_request true (as_stream r) date) ≡ upgrade_text v protocol (to_request r.framing.is_last r date)
unfolding text_of
stream-text v protocol r date e = rw e refl

-- by the standard it reads all that follows
becomes-stream : (protocol : List ℕ) (v : ResponseValue) (date : HttpDate) (s : Slot) (w : OpenRequest UnreadBody) (h : IsWaiting s w) → h.request.framing.by_standard ≡ true
    → Becomes protocol v date s w h (record (open_slot h.handed h.request h.given h.end_reported) { item = Asks (as_stream h.request); given = 0; end_reported = false; stage = begun_stage protocol v date; owed = false }) body.Rest
becomes-stream protocol v date s w h standard = record {
  upgraded = record {
    opened = record {
      request = as_stream h.request;
      handed = record { date = h.handed.date; continued = h.handed.continued; owed = false; closes = h.handed.closes };
      stage = begun_stage protocol v date;
      given = 0;
      end_reported = false;
      is = refl;
      rest_is_last = λ e. refl;
      fits = (refl, refl);
      settled = λ e. cc;
    };
    protocol = protocol;
    response = v;
    date = date;
    written = [];
    stage = refl;
  };
  unfinished = refl;
  whole = refl;
  segment_is =
      let r = h.request in
      let c = h.handed.continued in
      let text = upgrade_text v protocol (to_request true (as_stream r) date) in
      segment-more (Asks (as_stream r)) c text
      ∙ (ap (λ (o : List ℕ). (o ++ []) ++ text) (stream-opening r c standard)
      ∙ ap (λ (t : List ℕ). (opening (Asks r) c ++ []) ++ t) (stream-text v protocol r date standard));
}

becomes : (protocol : List ℕ) (v : ResponseValue) (date : HttpDate) (s : Slot) (w : OpenRequest UnreadBody) (h : IsWaiting s w) → Becomes protocol v date s w h (slot_upgraded protocol v date s w h) (stream_body w.by_standard w.body)
becomes protocol v date s w h = by h.request.framing.by_standard refl h.standard
  where
    s0 : Slot
    s0 = open_slot h.handed h.request h.given h.end_reported

    at : Bool → Slot
    at t = if t then record s0 { item = Asks (as_stream h.request); given = 0; end_reported = false; stage = begun_stage protocol v date; owed = false } else record s0 { stage = begun_stage protocol v date; owed = false }

    by : (t : Bool) → h.request.framing.by_standard ≡ t → w.by_standard ≡ t → Becomes protocol v date s w h (at t) (stream_body w.by_standard w.body)
    by true z e = let B : Bool → Type 0 = λ t. Becomes protocol v date s w h (at true) (stream_body t w.body) in subst B (sym e) (becomes-stream protocol v date s w h z)
    by false z e = let B : Bool → Type 0 = λ t. Becomes protocol v date s w h (at false) (stream_body t w.body) in subst B (sym e) (becomes-lenient protocol v date s w h)

-- What the input gives once the connection is upgraded: it stands as before; by the standard it stands behind the body of the last
-- request, and all that follows is read.
upgraded-lenient : {R : Type 0} (client : Feed) (k : Kept) (n : ℕ) (source : SourceState R) (slots : List Slot) (rest : List Item) (protocol : List ℕ) (v : ResponseValue) (date : HttpDate) (w : OpenRequest UnreadBody) (p : KeptAt slots k.marks k.requests n (still.Waiting w)) → IsInput k source → InputMatches client k slots rest
    → (let h = p.waiting in let s1 = record (open_slot h.handed h.request h.given h.end_reported) { stage = begun_stage protocol v date; owed = false } in
    InputMatches client (with_reader k (p.us ++ (Some (still.Upgraded w.body) ∷ p.vs)) source) (p.bs ++ (s1 ∷ p.cs)) rest)
upgraded-lenient client k n source slots rest protocol v date w p from reader =
    let h = p.waiting in
    let s1 = record (open_slot h.handed h.request h.given h.end_reported) { stage = begun_stage protocol v date; owed = false } in
    let alike : Alike p.s s1 = record {
      last = ap (λ (x : Slot). is_last_slot (Some x)) (sym h.is);
      abandoned = sym (waiting-kept p.s w.body (open-waiting p.s w h) ∙ sym (and-false (is_chunked_form h.request.framing.form)));
      left = ap slot_rest (sym h.is);
      behind = ap (λ (x : Slot). behind_item x.item) (sym h.is);
    } in
    let P : List Slot → Type 0 = λ l. InputMatches client k l rest in
    reader-alike client k source p.bs p.cs p.us p.vs rest p.s s1 (Some (still.Waiting w)) (Some (still.Upgraded w.body)) from (subst P p.slots_are reader) p.requests_are (kept-many p.cs p.rs p.vs p.behind) refl (λ e. refl) alike

-- a request that holds the next head is the last
last-holding : (us vs : List (Option Unfinished)) (w : OpenRequest UnreadBody) → AreSettled (us ++ (Some (still.Waiting w) ∷ vs)) → w.holds_next_head ≡ true → vs ≡ []
last-holding us [] w h holds = refl
last-holding us (v ∷ vs) w h holds = let no : true ≡ false = sym holds ∙ (settled-place us (Some (still.Waiting w)) v vs h).1 in cc

none-of : (vs : List (Option Unfinished)) (cs : List Slot) → length cs ≡ length vs → vs ≡ [] → cs ≡ []
none-of [] [] e z = refl
none-of [] (c ∷ cs) e z = absurd (omega (arith, e))
none-of (v ∷ vs) cs e z = cc

stream-last : {R : Type 0} (client : Feed) (k : Kept) (source : SourceState R) (bs : List Slot) (us : List (Option Unfinished)) (rest : List Item) (protocol : List ℕ) (v : ResponseValue) (date : HttpDate) (s : Slot) (w : OpenRequest UnreadBody) (h : IsWaiting s w) → IsInput k source → InputMatches client k (bs ++ (s ∷ [])) rest → k.requests ≡ us ++ (Some (still.Waiting w) ∷ [])
    → w.holds_next_head ≡ true → is_streaming w.body ≡ false
    → (let s1 = record (open_slot h.handed h.request h.given h.end_reported) { item = Asks (as_stream h.request); given = 0; end_reported = false; stage = begun_stage protocol v date; owed = false } in
    InputMatches client (with_ended true (with_reader k (us ++ (Some (still.Upgraded body.Rest) ∷ [])) source)) (bs ++ (s1 ∷ [])) rest)
stream-last client k source bs us rest protocol v date s w h from reader is holds quiet =
    let s1 = record (open_slot h.handed h.request h.given h.end_reported) { item = Asks (as_stream h.request); given = 0; end_reported = false; stage = begun_stage protocol v date; owed = false } in
    let u : Option Unfinished = Some (still.Upgraded body.Rest) in
    let l = last-waits client k source bs us rest s (Some (still.Waiting w)) w.body (open-waiting s w h) refl from reader is in
    let held : last_holds_next_head k.requests ≡ true = ap last_holds_next_head is ∙ holds-snoc us (Some (still.Waiting w)) ∙ holds in
    let represents : source.feed ≡ Some h.request.behind =
    l.stated ∙ sym (ap (λ (o : Option Remaining). option_map (λ (r : Remaining). r.behind) o) (h.settled quiet l.feed)) ∙ ap (behind_body (Some w.body)) (sym l.stated) ∙ l.follows held ∙ ap (λ (x : Slot). Some (behind_item x.item)) h.is in
    let last : last_slot (bs ++ (s1 ∷ [])) ≡ Some s1 = last-snoc None bs s1 in
    let content : last_body (us ++ (u ∷ [])) ≡ Some body.Rest = body-snoc us u in
    let A : List (Option Unfinished) → Type 0 = λ x. AreSettled x in
    let G : Option UnreadBody → Option Slot → Type 0 = λ b o. GivesRest b o source.feed in
    let free : last_holds_next_head (us ++ (u ∷ [])) ≡ false = holds-snoc us u in
    let S : Option Feed → Type 0 = λ f. GoesOn (Some client) f in
    record {
      settled = settled-set us (Some (still.Waiting w)) u [] (subst A is reader.settled) (inr refl);
      gives = subst (λ b. G b (last_slot (bs ++ (s1 ∷ [])))) (sym content) (subst (λ o. G (Some body.Rest) o) (sym last) (ap (λ (o : Option Feed). option_map (λ (r : Remaining). r.body) (remaining body.Rest o)) represents));
      next = λ e. cc;
      follows = λ e. (let no : false ≡ true = sym free ∙ e in cc);
      source = subst S from.feed reader.source;
    }

stream-any : {R : Type 0} (client : Feed) (k : Kept) (source : SourceState R) (bs cs : List Slot) (us vs : List (Option Unfinished)) (rest : List Item) (protocol : List ℕ) (v : ResponseValue) (date : HttpDate) (s : Slot) (w : OpenRequest UnreadBody) (h : IsWaiting s w) → IsInput k source → InputMatches client k (bs ++ (s ∷ cs)) rest → k.requests ≡ us ++ (Some (still.Waiting w) ∷ vs)
    → vs ≡ [] → cs ≡ [] → w.holds_next_head ≡ true → is_streaming w.body ≡ false
    → (let s1 = record (open_slot h.handed h.request h.given h.end_reported) { item = Asks (as_stream h.request); given = 0; end_reported = false; stage = begun_stage protocol v date; owed = false } in
    InputMatches client (with_ended true (with_reader k (us ++ (Some (still.Upgraded body.Rest) ∷ vs)) source)) (bs ++ (s1 ∷ cs)) rest)
stream-any client k source bs [] us [] rest protocol v date s w h from reader is alone none holds quiet = stream-last client k source bs us rest protocol v date s w h from reader is holds quiet
stream-any client k source bs (c ∷ cs) us [] rest protocol v date s w h from reader is alone none holds quiet = cc
stream-any client k source bs cs us (x ∷ vs) rest protocol v date s w h from reader is alone none holds quiet = cc

-- what an upgrade by the standard that isn't refused says of the request
abbrev checked : Bool → Bool → Bool → Bool → Result ⊤ UpgradeError
checked ascii asked switching whole = if not ascii then Err Protocol else if not true then Ok tt else if not asked then Err NotAsked else if not switching then Err Status else if not whole then Err UnfinishedBody else Ok tt

granted-by : (asked : Bool) (protocol : List ℕ) (code : ℕ) (whole : Bool) → is_err (upgrade_check true asked protocol code whole) ≡ false → (asked ≡ true) × (whole ≡ true)
granted-by asked protocol code whole = by (list_all is_ascii protocol) asked (code == 101) whole
  where
    by : (a b c d : Bool) → is_err (checked a b c d) ≡ false → (b ≡ true) × (d ≡ true)
    by true true true true e = (refl, refl)
    by true true true false e = cc
    by true true false d e = cc
    by true false c d e = cc
    by false b c d e = cc

whole-quiet : (b : UnreadBody) → is_whole b ≡ true → is_streaming b ≡ false
whole-quiet (body.Over stop) e = refl
whole-quiet (body.WithHead bytes) e = refl
whole-quiet (body.Counted left by_standard) e = cc
whole-quiet (body.Chunked d) e = cc
whole-quiet body.Rest e = cc

first-true : (a b : Bool) → (a && b) ≡ true → a ≡ true
first-true true b e = refl
first-true false b e = cc

reader-upgraded : {R : Type 0} (client : Feed) (k : Kept) (n : ℕ) (source : SourceState R) (slots : List Slot) (rest : List Item) (protocol : List ℕ) (v : ResponseValue) (date : HttpDate) (w : OpenRequest UnreadBody) (p : KeptAt slots k.marks k.requests n (still.Waiting w)) → IsInput k source → InputMatches client k slots rest
    → is_err (request_check w protocol v.answer.status (is_whole w.body)) ≡ false
    → InputMatches client (with_ended (k.asking_ended || (w.holds_next_head || (w.by_standard && (w.owes_continue || is_long (remainder w.body))))) (with_reader k (p.us ++ (Some (still.Upgraded (stream_body w.by_standard w.body)) ∷ p.vs)) source)) (p.bs ++ (slot_upgraded protocol v date p.s w p.waiting ∷ p.cs)) rest
reader-upgraded {R = R} client k n source slots rest protocol v date w p from reader granted = by p.waiting.request.framing.by_standard p.waiting.standard
  where
    h : IsWaiting p.s w
    h = p.waiting

    ends : Bool
    ends = w.holds_next_head || (w.by_standard && (w.owes_continue || is_long (remainder w.body)))

    s0 : Slot
    s0 = open_slot h.handed h.request h.given h.end_reported

    at : Bool → Slot
    at t = if t then record s0 { item = Asks (as_stream h.request); given = 0; end_reported = false; stage = begun_stage protocol v date; owed = false } else record s0 { stage = begun_stage protocol v date; owed = false }

    Stood : Bool → Bool → Bool → Type 0
    Stood t u over = InputMatches client (with_ended over (with_reader k (p.us ++ (Some (still.Upgraded (stream_body u w.body)) ∷ p.vs)) source)) (p.bs ++ (at t ∷ p.cs)) rest

    by : (t : Bool) → w.by_standard ≡ t → Stood t w.by_standard (k.asking_ended || ends)
    by false e =
        subst (λ u. Stood false u (k.asking_ended || ends)) (sym e)
        (reader-ended client (with_reader k (p.us ++ (Some (still.Upgraded w.body) ∷ p.vs)) source) (k.asking_ended || ends) (p.bs ++ (at false ∷ p.cs)) rest (neither k.asking_ended ends) (upgraded-lenient client k n source slots rest protocol v date w p from reader))
    by true e =
        let named : Bool = w.holds_next_head && names_protocol w.upgrades.items protocol in
        let asked = granted-by named protocol v.answer.status (is_whole w.body) (ap (λ b. is_err (upgrade_check b named protocol v.answer.status (is_whole w.body))) (sym e) ∙ granted) in
        let holds : w.holds_next_head ≡ true = first-true w.holds_next_head (names_protocol w.upgrades.items protocol) asked.0 in
        let A : List (Option Unfinished) → Type 0 = λ x. AreSettled x in
        let P : List Slot → Type 0 = λ l. InputMatches client k l rest in
        let alone : p.vs ≡ [] = last-holding p.us p.vs w (subst A p.requests_are reader.settled) holds in
        let over : (k.asking_ended || ends) ≡ true = ap (λ b. k.asking_ended || (b || (w.by_standard && (w.owes_continue || is_long (remainder w.body))))) holds ∙ or-true k.asking_ended in
        subst (λ u. Stood true u (k.asking_ended || ends)) (sym e) (subst (λ o. Stood true true o) (sym over)
        (stream-any client k source p.bs p.cs p.us p.vs rest protocol v date p.s w h from (subst P p.slots_are reader) p.requests_are alone (none-of p.vs p.cs (kept-many p.cs p.rs p.vs p.behind) alone) holds (whole-quiet w.body asked.1)))

pub upgrade-done : {R : Type 0} (client : Feed) (before : Sink) (k : Kept) (s : State) (date : HttpDate) (n : ℕ) (protocol : List ℕ) (v : ResponseValue) (w : OpenRequest UnreadBody) (context : ResponseContext) (new : Sink) (ended : Bool) (final : List Mark) (requests : List (Option Unfinished)) (source : SourceState R) → Represents client before k s → IsInput k source → before.failures < 2 ^ 64 - 1
    → slice_get k.requests n ≡ Some (Some (still.Waiting w)) → w.response_context ≡ context → is_err (request_check w protocol v.answer.status (is_whole w.body)) ≡ false → (n == first_unfinished k.marks) ≡ true → final ≡ k.marks → requests ≡ slice_set k.requests n (Some (still.Upgraded (stream_body w.by_standard w.body)))
    → ((k.output_ended ≡ false → CanSend k.sink) → SendsUnlessEnded k.output_ended k.sink new ended (upgrade_text v protocol (printing_in context date))) → IsFlushed new
    → StepIsAnswered client before (with_asking_ended (w.holds_next_head || (w.by_standard && (w.owes_continue || is_long (remainder w.body)))) (after_number k final requests source new ended)) s date (Upgrade n protocol v) Done
upgrade-done {R = R} client before k s date n protocol v w context new ended final requests source st from low e context_is granted come final_is requests_are sends firm =
    ⊎_elim in-turn (λ (t : OutOfTurn p.bs p.fs p.rs). absurd (t.turn (p.marks_before ∙ eqb-true n (first_unfinished k.marks) come ∙ ap first_unfinished p.marks_are))) (turn-at p.bs p.fs p.us p.rs p.before (subst S p.marks_are st.shape))
  where
    S : List Mark → Type 0
    S m = AreInShape m

    p : KeptAt s.reached.slots k.marks k.requests n (still.Waiting w)
    p = place-of s.reached.slots k.marks k.requests n (still.Waiting w) st.numbers e

    h : IsWaiting p.s w
    h = p.waiting

    ends : Bool
    ends = w.holds_next_head || (w.by_standard && (w.owes_continue || is_long (remainder w.body)))

    s0 : Slot
    s0 = open_slot h.handed h.request h.given h.end_reported

    s1 : Slot
    s1 = slot_upgraded protocol v date p.s w h

    kept_now : UnreadBody
    kept_now = stream_body w.by_standard w.body

    now : Becomes protocol v date p.s w h s1 kept_now
    now = becomes protocol v date p.s w h

    slots : List Slot
    slots = p.bs ++ (s1 ∷ p.cs)

    text : List ℕ
    text = upgrade_text v protocol (to_request h.request.framing.is_last h.request date)

    slots_are : s.reached.slots ≡ p.bs ++ (s0 ∷ p.cs)
    slots_are = p.slots_are ∙ ap (λ x. p.bs ++ (x ∷ p.cs)) h.is

    requests_now : requests ≡ p.us ++ (Some (still.Upgraded kept_now) ∷ p.vs)
    requests_now = requests_are ∙ set-place k.requests p.us p.vs n (Some (still.Waiting w)) (Some (still.Upgraded kept_now)) p.requests_are p.requests_before

    reader : InputMatches client (with_ended (k.asking_ended || ends) (after_number k final requests source new ended)) slots s.reached.rest
    reader =
        let over : Kept = with_ended (k.asking_ended || ends) k in
        let Q : List (Option Unfinished) → Type 0 = λ q. InputMatches client (with_reader over q source) slots s.reached.rest in
        reader-after client over final requests source new ended slots s.reached.rest (subst Q (sym requests_now) (reader-upgraded client k n source s.reached.slots s.reached.rest protocol v date w p from st.reader granted))

    printed : printing_in context date ≡ to_request h.request.framing.is_last h.request date
    printed = ap (λ c. printing_in c date) (sym context_is ∙ h.response_context)

    in-turn : InTurn p.bs p.fs p.rs → StepIsAnswered client before (with_asking_ended (w.holds_next_head || (w.by_standard && (w.owes_continue || is_long (remainder w.body)))) (after_number k final requests source new ended)) s date (Upgrade n protocol v) Done
    in-turn t =
        let long = longer-at s.reached.slots p.bs p.cs s0 s1 text slots_are t.finished refl refl now.segment_is in
        let m : More s.reached.slots slots text = record {
          breaks = breaks-waits p.bs s1 p.cs now.whole now.unfinished ∙ sym long.breaks;
          longer = λ none. sym (append-nil (joined s.reached.slots ++ text)) ∙ sym (ap (λ b. (joined s.reached.slots ++ text) ++ joined_if (b && not (is_slot_broken s1)) p.cs) now.unfinished) ∙ sym (long.longer (sym long.breaks ∙ none) p.cs);
          broken = λ z. sym (long.broken (sym long.breaks ∙ z) p.cs);
        } in
        let T : List ℕ → Type 0 = λ y. SendsUnlessEnded k.output_ended k.sink new ended y in
        let sent = subst T (ap (upgrade_text v protocol) printed) (sends (can-send before k.sink k.output_ended s.reached.slots s.flushed s.failure st.output low)) in
        let go = output-more before k.sink new k.output_ended ended s.reached.slots slots text s.flushed s.failure st.output m low sent firm in
        let over = ended-is before k.sink k.output_ended s.reached.slots s.flushed s.failure st.output in
        let at = slot-at s.reached.slots p.bs p.cs s0 n slots_are p.slots_before in
        let is : at_number true date s.reached n (Upgrade n protocol v) ≡ ends_asking (ends_with_stream h.request h.handed.owed h.given h.end_reported) (changes s.reached n s1 Done Unreported) =
        ap (at_slot true date s.reached n (Upgrade n protocol v)) at.get ∙ rw (refuses-same p.s w h protocol v ∙ granted, at.turn ∙ t.finished) refl in
        let C : List Slot → Type 0 = λ x. AreSentInTurn x in
        let new_state : State = record { reached = record { slots = slots; rest = s.reached.rest; asking_ended = s.reached.asking_ended || ends_with_stream h.request h.handed.owed h.given h.end_reported }; flushed = flushed_after Unreported s slots; failure = go.failure } in
        let L : List Slot → Reached = λ l. record { slots = l; rest = s.reached.rest; asking_ended = s.reached.asking_ended || ends_with_stream h.request h.handed.owed h.given h.end_reported } in
        let W : List Slot → Type 0 = λ l. WriterPart Unreported s Done l Done go.failure in
        let G : Outcome → Type 0 = λ x. HasOutcome x s Done new_state in
        let M : List Mark → Type 0 = λ y. AreKept slots y requests in
        let Q : List (Option Unfinished) → Type 0 = λ y. AreKept slots (p.fs ++ (Open ∷ p.rs)) y in
        let F : List ℕ → Type 0 = λ f. OutputAt before new ended slots f go.failure in
        let K : List Mark → Type 0 = λ y. AreInShape y in (
          new_state,
          record {
            numbers = subst M (sym (final_is ∙ p.marks_are)) (subst Q (sym requests_now) (kept-append p.bs p.fs p.us (s1 ∷ p.cs) (Open ∷ p.rs) (Some (still.Upgraded kept_now) ∷ p.vs) p.before (now.upgraded, p.behind)));
            shape = subst K (sym final_is) st.shape;
            in_turn = turn-continued p.bs p.cs s0 s1 t.finished refl now.unfinished (subst C slots_are st.in_turn);
            asking_ended = both-end s.reached.asking_ended k.asking_ended (ends_with_stream h.request h.handed.owed h.given h.end_reported) ends st.asking_ended (stream-same p.s w h);
            reader = reader;
            output = subst F (sym (flushed-is s k.output_ended slots over)) go.output;
          },
          inl (true, tt, subst G (sym is) (ap L (sym (at.set s1)), ap (flushed_after Unreported s) (sym (at.set s1)), subst W (sym (at.set s1)) (unreported s k.output_ended Done slots go.failure over go.writes))),
        )
