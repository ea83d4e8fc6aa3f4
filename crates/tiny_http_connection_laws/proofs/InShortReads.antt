-- The reads of a run give the body of their request.
use Rattle.std.proofs.Common.{◌≡◌, refl, sym, ap, ◌∙◌, subst, arith, ℕ, zero, suc, ◌+◌, ◌⊎◌, inl, inr, Bool, true, false, not, ◌&&◌, List, [], ◌∷◌, ◌++◌, map, length, Option, Some, None, append_assoc, append-nil, ⊎_elim}
use Rattle.std.specs.Prelude.{⊤, if◌then◌else◌, slice_get, slice_set, take, drop, nat_lt, ◌==◌, ◌||◌, MatchBool}
use Rattle.std.proofs.lemmas.Bool.{eqb-true, eq-eqb}
use Rattle.std.proofs.lemmas.Bool.Decides.{eqb_tells}
use Rattle.std.proofs.lemmas.List.{drop-drop}
use Rattle.std.proofs.lemmas.Option.{slice_get_past}
use Rattle.httpdate.specs.declared.date.HttpDate.{HttpDate}
use Rattle.tiny_http_io.specs.declared.device.Stop.{Stop}
use Rattle.tiny_http_io.specs.declared.device.Stop.TheVariants.{End, Fault as Faults}
use Rattle.tiny_http_io.specs.Device.{Feed, Sink, whole_feed}
use Rattle.tiny_http_body.specs.declared.framing.Profile.{Profile}
use Rattle.tiny_http_open_request.specs.Pipeline.{Item, Asks, Refuses, Request}
use Rattle.tiny_http_response.specs.ResponseValue.{ResponseValue}
use Rattle.tiny_http_connection.specs.Segments.{Slot, Stage, Unanswered, Answered, ByServer, Raw, Upgraded, to_request, text_if}
use Rattle.tiny_http_connection.specs.Slots.{turn_has_come, new_slot, rest_of, last_slot, with_last, closing_slot, last_holds_reader, last_was_abandoned, ends_when_finished, closes_now, refuses_response, refuses_upgrade, upgraded_slot, as_stream}
use Rattle.tiny_http_connection.specs.Steps.{StepValue, Ask, AsReader, Read, Respond, IntoWriter, Write, Flush, Upgrade, Finish, Drop, ReplyValue, Handed, Ended, Given, Fault, NotYet, Done, Refused, NoSuch, Memory, TimedValue, number_of}
use Rattle.tiny_http_connection.specs.Outcomes.{WriterUse, Unused, Unreported, Reported, Outcome, Reached, unchanged, changes, asks_from, ask, read_reply, finished_as, written_to, stage_closed, fault_in, fault_reply, accepts_step, needs_turn, use_in_turn, ends_asking, ends_with_stream, asked_to_close, answers_slot, answers, effect, at_item, at_slot, at_number, outcome}
use Rattle.tiny_http_connection.specs.Conversation.{Failure, State, Fares, MayFare, reply_in, failure_in, writes_nothing, HasOutcome, FindsNoMemory, answers_to, StepsTo, Run, start_state, IsConversation}
use Rattle.tiny_http_connection.proofs.ConnectionClosing.{by-closing}
use Rattle.tiny_http_connection.specs.Giving.{ReadsNext}
use Rattle.tiny_http_connection_laws.specs.InShort.{LeavesBody, ReadsInOrder}
use Rattle.tiny_http_connection_laws.proofs.InShortHanded.{closing-length, set-length, one-more}
use Rattle.tiny_http_connection_laws.proofs.StepsAdd.{by-upgrade}

-- ---- numbers in a list

pub same-some : {A : Type 0} (x y : A) → Some x ≡ Some y → x ≡ y
same-some x y e = cc

pub get-set : (slots : List Slot) (k : ℕ) (s t : Slot) → slice_get slots k ≡ Some s → slice_get (slice_set slots k t) k ≡ Some t
get-set [] k s t e = cc
get-set (x ∷ xs) zero s t e = refl
get-set (x ∷ xs) (suc k) s t e = get-set xs k s t e

pub get-other : (slots : List Slot) (j k : ℕ) (t : Slot) → (j ≡ k → ⊥) → slice_get (slice_set slots j t) k ≡ slice_get slots k
get-other [] j k t n = refl
get-other (x ∷ xs) zero zero t n = elim (n refl) [ ]
get-other (x ∷ xs) zero (suc k) t n = refl
get-other (x ∷ xs) (suc j) zero t n = refl
get-other (x ∷ xs) (suc j) (suc k) t n = get-other xs j k t (λ e. n (ap suc e))

get-past : (slots : List Slot) (n : ℕ) (s : Slot) → slice_get slots (length slots + n) ≡ Some s → ⊥
get-past slots n s e =
    let none : slice_get slots (length slots + n) ≡ None = slice_get_past slots (length slots + n) (omega arith) in
    let no : None ≡ Some s = sym none ∙ e in
    cc

pub get-append : (slots more : List Slot) (k : ℕ) (s : Slot) → slice_get slots k ≡ Some s → slice_get (slots ++ more) k ≡ Some s
get-append [] more k s e = cc
get-append (x ∷ xs) more zero s e = e
get-append (x ∷ xs) more (suc k) s e = get-append xs more k s e

get-last : (slots : List Slot) (s : Slot) (k : ℕ) → k ≡ length slots → slice_get (slots ++ s ∷ []) k ≡ Some s
get-last [] s zero e = refl
get-last [] s (suc k) e = cc
get-last (x ∷ xs) s zero e = cc
get-last (x ∷ xs) s (suc k) e = get-last xs s k (omega (arith, e))

drop-taken : (n : ℕ) (xs : List ℕ) → drop (length (take n xs)) xs ≡ drop n xs
drop-taken zero xs = refl
drop-taken (suc n) [] = refl
drop-taken (suc n) (x ∷ xs) = drop-taken n xs

-- ---- where the body of request k stands

-- it was reached: this is left of it, or of the stream of its upgrade
record Under (k : ℕ) (r : Request) (feed : Feed) (slots : List Slot) : Type 0 where
  slot : Slot
  asked : Request
  get : slice_get slots k ≡ Some slot
  item : slot.item ≡ Asks asked
  left : feed ≡ rest_of asked slot.given
  own : slot.stage ≡ Unanswered → asked ≡ r

-- it wasn't
record Ahead (k : ℕ) (r : Request) (feed : Feed) (slots : List Slot) (rest : List Item) : Type 0 where
  behind : ℕ
  place : k ≡ length slots + behind
  get : slice_get rest behind ≡ Some (Asks r)
  left : feed ≡ r.body

abbrev Represents : ℕ → Request → Feed → List Slot → List Item → Type 0
Represents k r feed slots rest = Under k r feed slots ⊎ Ahead k r feed slots rest

-- a number whose body is left alone
record Same (s t : Slot) : Type 0 where
  item : t.item ≡ s.item
  given : t.given ≡ s.given
  stage : t.stage ≡ Unanswered → s.stage ≡ Unanswered

same-under : (k : ℕ) (r : Request) (feed : Feed) (slots : List Slot) (u : Under k r feed slots) (now : List Slot) (t : Slot) → slice_get now k ≡ Some t → Same u.slot t → Under k r feed now
same-under k r feed slots u now t e same =
    record {
      slot = t;
      asked = u.asked;
      get = e;
      item = same.item ∙ u.item;
      left = u.left ∙ ap (λ n. rest_of u.asked n) (sym same.given);
      own = λ x. u.own (same.stage x);
    }

ahead-of : (k : ℕ) (r : Request) (feed : Feed) (slots : List Slot) (rest : List Item) (a : Ahead k r feed slots rest) (now : List Slot) → length now ≡ length slots → Ahead k r feed now rest
ahead-of k r feed slots rest a now e = record { behind = a.behind; place = a.place ∙ ap (λ n. n + a.behind) (sym e); get = a.get; left = a.left }

-- another number is changed
elsewhere : (k : ℕ) (r : Request) (feed : Feed) (slots : List Slot) (rest : List Item) (j : ℕ) (t : Slot) → (j ≡ k → ⊥) → Represents k r feed slots rest → Represents k r feed (slice_set slots j t) rest
elsewhere k r feed slots rest j t n h =
    ⊎_elim
    (λ u. inl (same-under k r feed slots u (slice_set slots j t) u.slot (get-other slots j k t n ∙ u.get) (record { item = refl; given = refl; stage = λ e. e })))
    (λ a. inr (ahead-of k r feed slots rest a (slice_set slots j t) (set-length slots j t)))
    h

-- a number is changed, and its body is left alone
stays : (k : ℕ) (r : Request) (feed : Feed) (slots : List Slot) (rest : List Item) (j : ℕ) (s t : Slot) → slice_get slots j ≡ Some s → Same s t → Represents k r feed slots rest → Represents k r feed (slice_set slots j t) rest
stays k r feed slots rest j s t here same h =
    ⊎_elim
    (λ yes.
    ⊎_elim
    (λ u.
    let there : slice_get slots k ≡ Some s = ap (λ x. slice_get slots x) (sym yes.1) ∙ here in
    let is : s ≡ u.slot = same-some s u.slot (sym there ∙ u.get) in
    let S : Slot → Type 0 = λ x. Same x t in
    let set : slice_get (slice_set slots j t) k ≡ Some t = ap (λ x. slice_get (slice_set slots j t) x) (sym yes.1) ∙ get-set slots j s t here in
    inl (same-under k r feed slots u (slice_set slots j t) t set (subst S is same)))
    (λ a. inr (ahead-of k r feed slots rest a (slice_set slots j t) (set-length slots j t)))
    h)
    (λ no. elsewhere k r feed slots rest j t no.1 h)
    (eqb_tells j k)

-- ---- a step

-- a reply that the writer has no say in
abbrev Planned : WriterUse → ReplyValue → ReplyValue → Type 0
Planned Unused planned reply = reply ≡ planned
Planned Unreported planned reply = reply ≡ planned
Planned (Reported own broken flushes report) planned reply = ⊤

record Reads (k : ℕ) (r : Request) (feed : Feed) (step : StepValue) (o : Outcome) : Type 0 where
  next : Feed
  leaves : (reply : ReplyValue) → Planned o.writer o.reply reply → LeavesBody k r feed step reply next
  represents : Represents k r next o.slots o.rest

reads-if : (k : ℕ) (r : Request) (feed : Feed) (step : StepValue) (b : Bool) (x y : Outcome) → (b ≡ true → Reads k r feed step x) → (b ≡ false → Reads k r feed step y) → Reads k r feed step (if b then x else y)
reads-if k r feed step true x y h g = h refl
reads-if k r feed step false x y h g = g refl

reads-ended : (k : ℕ) (r : Request) (feed : Feed) (step : StepValue) (ends : Bool) (o : Outcome) → Reads k r feed step o → Reads k r feed step (ends_asking ends o)
reads-ended k r feed step ends o h = record { next = h.next; leaves = h.leaves; represents = h.represents }

either : (b : Bool) {A : Type 0} → A → MatchBool b A A
either true a = a
either false a = a

no-such : (k : ℕ) (r : Request) (feed : Feed) (step : StepValue) → LeavesBody k r feed step NoSuch feed
no-such k r feed Ask = refl
no-such k r feed (AsReader j) = refl
no-such k r feed (Read j n) = either (j == k) refl
no-such k r feed (Respond j a) = refl
no-such k r feed (IntoWriter j) = refl
no-such k r feed (Write j b) = refl
no-such k r feed (Flush j) = refl
no-such k r feed (Upgrade j p a) = refl
no-such k r feed (Finish j) = refl
no-such k r feed (Drop j) = refl

not-yet : (k : ℕ) (r : Request) (feed : Feed) (step : StepValue) → LeavesBody k r feed step NotYet feed
not-yet k r feed Ask = refl
not-yet k r feed (AsReader j) = refl
not-yet k r feed (Read j n) = either (j == k) refl
not-yet k r feed (Respond j a) = refl
not-yet k r feed (IntoWriter j) = refl
not-yet k r feed (Write j b) = refl
not-yet k r feed (Flush j) = refl
not-yet k r feed (Upgrade j p a) = refl
not-yet k r feed (Finish j) = refl
not-yet k r feed (Drop j) = refl

idle : (k : ℕ) (r : Request) (feed : Feed) (step : StepValue) (old : Reached) (reply : ReplyValue) → LeavesBody k r feed step reply feed → Represents k r feed old.slots old.rest → Reads k r feed step (unchanged old reply)
idle k r feed step old reply l h =
    let L : ReplyValue → Type 0 = λ x. LeavesBody k r feed step x feed in
    record { next = feed; leaves = λ x p. subst L (sym p) l; represents = h }

-- the steps that don't read
abbrev IsQuiet : ℕ → Request → Feed → StepValue → Type 0
IsQuiet k r feed step = (reply : ReplyValue) → LeavesBody k r feed step reply feed

changed : (k : ℕ) (r : Request) (feed : Feed) (step : StepValue) (old : Reached) (j : ℕ) (s t : Slot) (reply : ReplyValue) (w : WriterUse)
    → IsQuiet k r feed step → slice_get old.slots j ≡ Some s → Same s t → Represents k r feed old.slots old.rest → Reads k r feed step (changes old j t reply w)
changed k r feed step old j s t reply w q here same h =
    record { next = feed; leaves = λ x p. q x; represents = stays k r feed old.slots old.rest j s t here same h }

never : {G : Type 0} (s : Stage) → s ≡ Unanswered → s ≡ ByServer → G
never s e f = cc

finished-same : (closes : Bool) (s : Slot) (stage : Stage) → (stage ≡ Unanswered → s.stage ≡ Unanswered) → Same s (finished_as closes s stage)
finished-same closes s stage e = record { item = refl; given = refl; stage = e }

dropped-same : (closes : Bool) (s : Slot) → Same s (finished_as closes s ByServer)
dropped-same closes s = finished-same closes s ByServer (λ e. cc)

written-stage : (bytes : List ℕ) (stage : Stage) → written_to bytes stage ≡ Unanswered → stage ≡ Unanswered
written-stage bytes Unanswered e = refl
written-stage bytes (Answered response date found) e = e
written-stage bytes ByServer e = e
written-stage bytes (Raw written closed) e = cc
written-stage bytes (Upgraded protocol response date written closed) e = cc

closed-stage : (stage : Stage) → stage_closed stage ≡ Unanswered → stage ≡ Unanswered
closed-stage Unanswered e = refl
closed-stage (Answered response date found) e = e
closed-stage ByServer e = e
closed-stage (Raw written closed) e = cc
closed-stage (Upgraded protocol response date written closed) e = cc

-- ---- the last number is told that the connection ends

record Told (s : Slot) (slots : List Slot) (k : ℕ) : Type 0 where
  slot : Slot
  get : slice_get (with_last closing_slot slots) k ≡ Some slot
  same : Same s slot

accounts : (s : Slot) (slots : List Slot) (k : ℕ) → slice_get slots k ≡ Some s → Told s slots k
accounts s [] k e = cc
accounts s (x ∷ []) zero e =
    let is : x ≡ s = same-some x s e in
    let same : Same x (closing_slot x) = by-closing (λ t. Same x t) x (λ u. record { item = refl; given = refl; stage = λ v. v }) (record { item = refl; given = refl; stage = λ v. v }) in
    let T : Slot → Type 0 = λ y. Told y (x ∷ []) zero in
    subst T is (record { slot = closing_slot x; get = refl; same = same })
accounts s (x ∷ []) (suc k) e = cc
accounts s (x ∷ y ∷ slots) zero e = record { slot = s; get = e; same = record { item = refl; given = refl; stage = λ v. v } }
accounts s (x ∷ y ∷ slots) (suc k) e = let t = accounts s (y ∷ slots) k e in record { slot = t.slot; get = t.get; same = t.same }

asked-represents : (k : ℕ) (r : Request) (feed : Feed) (old : Reached) (closes : Bool) → Represents k r feed old.slots old.rest → Represents k r feed (asked_to_close closes old).slots (asked_to_close closes old).rest
asked-represents k r feed old false h = h
asked-represents k r feed old true h =
    ⊎_elim
    (λ u. let t = accounts u.slot old.slots k u.get in inl (same-under k r feed old.slots u (with_last closing_slot old.slots) t.slot t.get t.same))
    (λ a. inr (ahead-of k r feed old.slots old.rest a (with_last closing_slot old.slots) (closing-length old.slots)))
    h

answered-reads : (k : ℕ) (r : Request) (feed : Feed) (found : Bool) (date : HttpDate) (old : Reached) (q : Request) (j : ℕ) (response : ResponseValue)
    → Represents k r feed old.slots old.rest → Reads k r feed (Respond j response) (answers found date old q j response)
answered-reads k r feed found date old q j response h = go (slice_get old.slots j) refl
  where
    go : (o : Option Slot) → slice_get old.slots j ≡ o → Reads k r feed (Respond j response) (answers_slot found date old q j response o)
    go None e = idle k r feed (Respond j response) old NoSuch refl h
    go (Some s) e =
        let closes = closes_now q s.closes s.owed s.given s.end_reported in
        let text = text_if found response (to_request closes q date) in
        let t = finished_as closes s (Answered response date found) in
        let w = Reported text.bytes (fault_in text.ending) true fault_reply in
        reads-ended k r feed (Respond j response) (ends_when_finished q s.owed s.given s.end_reported) (changes old j t Done w)
        (changed k r feed (Respond j response) old j s t Done w (λ x. refl) e (finished-same closes s (Answered response date found) (λ v. cc)) h)

-- ---- a read

eta : (f : Feed) → f ≡ record { bytes = f.bytes; stop = f.stop }
eta f = refl

-- what is left once n bytes were given
read-on : (q : Request) (given n : ℕ) → record { bytes = drop n (rest_of q given).bytes; stop = q.body.stop } ≡ rest_of q (given + length (take n (rest_of q given).bytes))
read-on q given n =
    let xs = drop given q.body.bytes in
    let same : drop n xs ≡ drop (given + length (take n xs)) q.body.bytes = sym (drop-taken n xs) ∙ drop-drop (length (take n xs)) given q.body.bytes in
    ap (λ (x : List ℕ). record { bytes = x; stop = q.body.stop }) same

no-byte : (n : ℕ) (b : ℕ) (xs : List ℕ) → (n == 0) ≡ false → take n (b ∷ xs) ≡ [] → ⊥
no-byte zero b xs e f = let yes : (0 == 0) ≡ true = eq-eqb 0 0 refl in cc
no-byte (suc n) b xs e f = cc

record Gives (n : ℕ) (left : Feed) : Type 0 where
  next : Feed
  reads : ReadsNext n left (read_reply n left.bytes left.stop) next
  is : next ≡ record { bytes = drop n left.bytes; stop = left.stop }

drop-none : (n : ℕ) → (let none : List ℕ = [] in drop n none ≡ none)
drop-none zero = refl
drop-none (suc n) = refl

take-none : (n : ℕ) → (let none : List ℕ = [] in none ≡ take n none)
take-none zero = refl
take-none (suc n) = refl

gives : (n : ℕ) (bytes : List ℕ) (stop : Stop) → (n == 0) ≡ false → Gives n (record { bytes = bytes; stop = stop })
gives n [] End e =
    let same = ap (λ (x : List ℕ). record { bytes = x; stop = End }) (sym (drop-none n)) in
    record { next = record { bytes = []; stop = End }; reads = (take-none n, same, λ x. inr refl); is = same }
gives n [] (Faults kind) e =
    record { next = record { bytes = []; stop = Faults kind }; reads = (refl, refl); is = ap (λ (x : List ℕ). record { bytes = x; stop = Faults kind }) (sym (drop-none n)) }
gives n (b ∷ xs) stop e =
    record { next = record { bytes = drop n (b ∷ xs); stop = stop }; reads = (refl, refl, λ f. elim (no-byte n b xs e f) [ ]); is = refl }

here-or : (b : Bool) (A B : Type 0) → b ≡ true → A → MatchBool b A B
here-or true A B e a = a
here-or false A B e a = cc

else-or : (b : Bool) (A B : Type 0) → b ≡ false → B → MatchBool b A B
else-or true A B e a = cc
else-or false A B e a = a

read-here : (k : ℕ) (r : Request) (feed : Feed) (old : Reached) (q : Request) (s : Slot) (n : ℕ) → slice_get old.slots k ≡ Some s → s.item ≡ Asks q → (n == 0) ≡ false → (k == k) ≡ true → Represents k r feed old.slots old.rest
    → Reads k r feed (Read k n) (changes old k (record s { given = s.given + length (take n (rest_of q s.given).bytes); end_reported = s.end_reported || nat_lt (length (rest_of q s.given).bytes) n }) (read_reply n (rest_of q s.given).bytes q.body.stop) Unused)
read-here k r feed old q s n here is e self h =
    let left = rest_of q s.given in
    let t : Slot = record s { given = s.given + length (take n left.bytes); end_reported = s.end_reported || nat_lt (length left.bytes) n } in
    ⊎_elim
    (λ u.
    let slot_is : u.slot ≡ s = same-some u.slot s (sym u.get ∙ here) in
    let item_is : Asks u.asked ≡ Asks q = sym u.item ∙ ap (λ (x : Slot). x.item) slot_is ∙ is in
    let asked_is : u.asked ≡ q = cc in
    let feed_is : feed ≡ left = u.left ∙ ap (λ (x : Request). rest_of x u.slot.given) asked_is ∙ ap (λ (x : Slot). rest_of q x.given) slot_is in
    let g = gives n left.bytes left.stop e in
    let R : Feed → Type 0 = λ x. ReadsNext n x (read_reply n left.bytes left.stop) g.next in
    let reads : ReadsNext n feed (read_reply n left.bytes left.stop) g.next = subst R (sym feed_is) g.reads in
    let L : ReplyValue → Type 0 = λ x. LeavesBody k r feed (Read k n) x g.next in
    let leaves = here-or (k == k) (ReadsNext n feed (read_reply n left.bytes left.stop) g.next) (g.next ≡ feed) self reads in
    let under : Under k r g.next (slice_set old.slots k t) = record {
      slot = t;
      asked = q;
      get = get-set old.slots k s t here;
      item = is;
      left = g.is ∙ read-on q s.given n;
      own = λ x. sym asked_is ∙ u.own (ap (λ (y : Slot). y.stage) slot_is ∙ x);
    } in
    record { next = g.next; leaves = λ x p. subst L (sym p) leaves; represents = inl under })
    (λ a. elim (get-past old.slots a.behind s (ap (λ x. slice_get old.slots x) (sym a.place) ∙ here)) [ ])
    h

read-effect : (k : ℕ) (r : Request) (feed : Feed) (old : Reached) (q : Request) (s : Slot) (j n : ℕ) → slice_get old.slots j ≡ Some s → s.item ≡ Asks q → (n == 0) ≡ false → Represents k r feed old.slots old.rest
    → Reads k r feed (Read j n) (changes old j (record s { given = s.given + length (take n (rest_of q s.given).bytes); end_reported = s.end_reported || nat_lt (length (rest_of q s.given).bytes) n }) (read_reply n (rest_of q s.given).bytes q.body.stop) Unused)
read-effect k r feed old q s j n here is e h =
    let left = rest_of q s.given in
    let t : Slot = record s { given = s.given + length (take n left.bytes); end_reported = s.end_reported || nat_lt (length left.bytes) n } in
    let reply = read_reply n left.bytes q.body.stop in
    ⊎_elim
    (λ yes.
    let P : ℕ → Type 0 = λ x. Reads x r feed (Read j n) (changes old j t reply Unused) in
    let S : ℕ → Type 0 = λ x. Represents x r feed old.slots old.rest in
    subst P yes.1 (read-here j r feed old q s n here is e (eq-eqb j j refl) (subst S (sym yes.1) h)))
    (λ no.
    record {
      next = feed;
      leaves = λ x p. else-or (j == k) (ReadsNext n feed x feed) (feed ≡ feed) no.0 refl;
      represents = elsewhere k r feed old.slots old.rest j t no.1 h;
    })
    (eqb_tells j k)

zero-read : (k : ℕ) (r : Request) (feed : Feed) (j n : ℕ) → (n == 0) ≡ true → LeavesBody k r feed (Read j n) (Given []) feed
zero-read k r feed j n e =
    let none : n ≡ 0 = eqb-true n 0 e in
    let R : ℕ → Type 0 = λ m. LeavesBody k r feed (Read j m) (Given []) feed in
    subst R (sym none) (by (j == k))
  where
    by : (b : Bool) → MatchBool b (ReadsNext 0 feed (Given []) feed) (feed ≡ feed)
    by true = (refl, refl, λ x. inl refl)
    by false = refl

-- ---- an upgrade

upgraded-same : (q : Request) (s : Slot) (stage : Stage) → q.framing.by_standard ≡ false → (stage ≡ Unanswered → s.stage ≡ Unanswered) → Same s (upgraded_slot q s stage)
upgraded-same q s stage e never = go q.framing.by_standard e
  where
    go : (b : Bool) → b ≡ false → Same s (if b then record s { item = Asks (as_stream q); given = 0; end_reported = false; stage = stage; owed = false } else record s { stage = stage; owed = false })
    go true f = cc
    go false f = record { item = refl; given = refl; stage = never }

upgraded-under : (k : ℕ) (r : Request) (slots : List Slot) (s : Slot) (stage : Stage) → slice_get slots k ≡ Some s → r.framing.by_standard ≡ true → (stage ≡ Unanswered → ⊥) → Under k r r.behind (slice_set slots k (upgraded_slot r s stage))
upgraded-under k r slots s stage here e never = go r.framing.by_standard e
  where
    go : (b : Bool) → b ≡ true → Under k r r.behind (slice_set slots k (if b then record s { item = Asks (as_stream r); given = 0; end_reported = false; stage = stage; owed = false } else record s { stage = stage; owed = false }))
    go true f =
        let t : Slot = record s { item = Asks (as_stream r); given = 0; end_reported = false; stage = stage; owed = false } in
        record { slot = t; asked = as_stream r; get = get-set slots k s t here; item = refl; left = refl; own = λ x. elim (never x) [ ] }
    go false f = cc

upgrade-here : (k : ℕ) (r : Request) (feed : Feed) (old : Reached) (q : Request) (s : Slot) (protocol : List ℕ) (response : ResponseValue) (stage : Stage)
    → slice_get old.slots k ≡ Some s → s.item ≡ Asks q → s.stage ≡ Unanswered → (stage ≡ Unanswered → ⊥) → (k == k) ≡ true → Represents k r feed old.slots old.rest
    → Reads k r feed (Upgrade k protocol response) (changes old k (upgraded_slot q s stage) Done Unreported)
upgrade-here k r feed old q s protocol response stage here is u never self h =
    ⊎_elim
    (λ under.
    let slot_is : under.slot ≡ s = same-some under.slot s (sym under.get ∙ here) in
    let item_is : Asks under.asked ≡ Asks q = sym under.item ∙ ap (λ (x : Slot). x.item) slot_is ∙ is in
    let asked_is : under.asked ≡ q = cc in
    let q_is : r ≡ q = sym (under.own (ap (λ (x : Slot). x.stage) slot_is ∙ u)) ∙ asked_is in
    let P : Request → Type 0 = λ x. Reads k r feed (Upgrade k protocol response) (changes old k (upgraded_slot x s stage) Done Unreported) in
    subst P q_is (go r.framing.by_standard refl))
    (λ a. elim (get-past old.slots a.behind s (ap (λ x. slice_get old.slots x) (sym a.place) ∙ here)) [ ])
    h
  where
    L : Feed → ReplyValue → Type 0
    L next x = LeavesBody k r feed (Upgrade k protocol response) x next

    go : (b : Bool) → r.framing.by_standard ≡ b → Reads k r feed (Upgrade k protocol response) (changes old k (upgraded_slot r s stage) Done Unreported)
    go true e =
        let both : (k == k && r.framing.by_standard) ≡ true = ap (λ x. x && r.framing.by_standard) self ∙ e in
        let next : r.behind ≡ (if (k == k && r.framing.by_standard) then r.behind else feed) = ap (λ (x : Bool). if x then r.behind else feed) (sym both) in
        record {
          next = r.behind;
          leaves = λ x p. subst (L r.behind) (sym p) next;
          represents = inl (upgraded-under k r old.slots s stage here e never);
        }
    go false e =
        let both : (k == k && r.framing.by_standard) ≡ false = ap (λ x. x && r.framing.by_standard) self ∙ e in
        let next : feed ≡ (if (k == k && r.framing.by_standard) then r.behind else feed) = ap (λ (x : Bool). if x then r.behind else feed) (sym both) in
        record {
          next = feed;
          leaves = λ x p. subst (L feed) (sym p) next;
          represents = stays k r feed old.slots old.rest k s (upgraded_slot r s stage) here (upgraded-same r s stage e (λ x. u)) h;
        }

upgrade-effect : (k : ℕ) (r : Request) (feed : Feed) (old : Reached) (q : Request) (s : Slot) (j : ℕ) (protocol : List ℕ) (response : ResponseValue) (stage : Stage)
    → slice_get old.slots j ≡ Some s → s.item ≡ Asks q → s.stage ≡ Unanswered → (stage ≡ Unanswered → ⊥) → Represents k r feed old.slots old.rest
    → Reads k r feed (Upgrade j protocol response) (changes old j (upgraded_slot q s stage) Done Unreported)
upgrade-effect k r feed old q s j protocol response stage here is u never h =
    let t = upgraded_slot q s stage in
    ⊎_elim
    (λ yes.
    let P : ℕ → Type 0 = λ x. Reads x r feed (Upgrade j protocol response) (changes old j t Done Unreported) in
    let S : ℕ → Type 0 = λ x. Represents x r feed old.slots old.rest in
    subst P yes.1 (upgrade-here j r feed old q s protocol response stage here is u never (eq-eqb j j refl) (subst S (sym yes.1) h)))
    (λ no.
    let L : ReplyValue → Type 0 = λ x. LeavesBody k r feed (Upgrade j protocol response) x feed in
    let other : feed ≡ (if (j == k && r.framing.by_standard) then r.behind else feed) = ap (λ (x : Bool). if (x && r.framing.by_standard) then r.behind else feed) (sym no.0) in
    record {
      next = feed;
      leaves = λ x p. subst L (sym p) other;
      represents = elsewhere k r feed old.slots old.rest j t no.1 h;
    })
    (eqb_tells j k)

refused-reads : (k : ℕ) (r : Request) (feed : Feed) (old : Reached) (j : ℕ) (s t : Slot) (protocol : List ℕ) (response : ResponseValue) (turn : Bool)
    → slice_get old.slots j ≡ Some s → Same s t → Represents k r feed old.slots old.rest → Reads k r feed (Upgrade j protocol response) (changes old j t Refused (use_in_turn turn))
refused-reads k r feed old j s t protocol response turn here same h =
    record { next = feed; leaves = λ x p. by turn x p; represents = stays k r feed old.slots old.rest j s t here same h }
  where
    by : (b : Bool) (x : ReplyValue) → Planned (use_in_turn b) Refused x → LeavesBody k r feed (Upgrade j protocol response) x feed
    by true x p = let L : ReplyValue → Type 0 = λ y. LeavesBody k r feed (Upgrade j protocol response) y feed in subst L (sym p) refl
    by false x p = let L : ReplyValue → Type 0 = λ y. LeavesBody k r feed (Upgrade j protocol response) y feed in subst L (sym p) refl

-- ---- what a number does in its time

effect-reads : (k : ℕ) (r : Request) (feed : Feed) (found : Bool) (date : HttpDate) (old : Reached) (q : Request) (s : Slot) (turn : Bool) (step : StepValue)
    → slice_get old.slots (number_of step) ≡ Some s → s.item ≡ Asks q → accepts_step s.stage s.owed step ≡ true → Represents k r feed old.slots old.rest
    → Reads k r feed step (effect found date old q s turn step)
effect-reads k r feed found date old q s turn Ask here is takes h = idle k r feed Ask old NoSuch refl h
effect-reads k r feed found date old q s turn (AsReader j) here is takes h =
    let step = AsReader j in
    let t : Slot = record s { owed = false; continued = Some date } in
    reads-if k r feed step s.owed (changes old j t Done Unreported) (unchanged old Done)
    (λ o. changed k r feed step old j s t Done Unreported (λ x. refl) here (record { item = refl; given = refl; stage = λ v. v }) h)
    (λ o. idle k r feed step old Done refl h)
effect-reads k r feed found date old q s turn (Read j n) here is takes h =
    let left = (rest_of q s.given).bytes in
    let t : Slot = record s { given = s.given + length (take n left); end_reported = s.end_reported || nat_lt (length left) n } in
    reads-if k r feed (Read j n) (n == 0) (unchanged old (Given [])) (changes old j t (read_reply n left q.body.stop) Unused)
    (λ e. idle k r feed (Read j n) old (Given []) (zero-read k r feed j n e) h)
    (λ e. read-effect k r feed old q s j n here is e h)
effect-reads k r feed found date old q s turn (Respond j response) here is takes h =
    let step = Respond j response in
    let closes = closes_now q s.closes s.owed s.given s.end_reported in
    let d = finished_as closes s ByServer in
    let ends = ends_when_finished q s.owed s.given s.end_reported in
    let refused = changes old j d Refused (use_in_turn turn) in
    reads-if k r feed step (refuses_response q response) (ends_asking ends refused) (answers found date (asked_to_close response.answer.closes old) q j response)
    (λ e. reads-ended k r feed step ends refused (changed k r feed step old j s d Refused (use_in_turn turn) (λ x. refl) here (dropped-same closes s) h))
    (λ e. answered-reads k r feed found date (asked_to_close response.answer.closes old) q j response (asked-represents k r feed old response.answer.closes h))
effect-reads k r feed found date old q s turn (IntoWriter j) here is takes h =
    let step = IntoWriter j in
    let t : Slot = record s { stage = Raw [] false; given_up = true; owed = false } in
    reads-ended k r feed step (ends_with_stream q s.owed s.given s.end_reported) (changes old j t Done Unused)
    (changed k r feed step old j s t Done Unused (λ x. refl) here (record { item = refl; given = refl; stage = λ v. cc }) h)
effect-reads k r feed found date old q s turn (Write j bytes) here is takes h =
    let t : Slot = record s { stage = written_to bytes s.stage } in
    changed k r feed (Write j bytes) old j s t Done (Reported bytes None false Fault) (λ x. refl) here (record { item = refl; given = refl; stage = λ v. written-stage bytes s.stage v }) h
effect-reads k r feed found date old q s turn (Flush j) here is takes h =
    changed k r feed (Flush j) old j s s Done (Reported [] None true Fault) (λ x. refl) here (record { item = refl; given = refl; stage = λ v. v }) h
effect-reads k r feed found date old q s turn (Upgrade j protocol response) here is takes h =
    let step = Upgrade j protocol response in
    let closes = closes_now q s.closes s.owed s.given s.end_reported in
    let d = finished_as closes s ByServer in
    let ends = ends_when_finished q s.owed s.given s.end_reported in
    let refused = changes old j d Refused (use_in_turn turn) in
    let stage = Upgraded protocol response date [] false in
    let goes = ends_with_stream q s.owed s.given s.end_reported in
    let u = by-upgrade s.stage s.owed j protocol response takes in
    reads-if k r feed step (refuses_upgrade q s protocol response) (ends_asking ends refused) (ends_asking goes (changes old j (upgraded_slot q s stage) Done Unreported))
    (λ e. reads-ended k r feed step ends refused (refused-reads k r feed old j s d protocol response turn here (dropped-same closes s) h))
    (λ e. reads-ended k r feed step goes (changes old j (upgraded_slot q s stage) Done Unreported) (upgrade-effect k r feed old q s j protocol response stage here is u (λ v. cc) h))
effect-reads k r feed found date old q s turn (Finish j) here is takes h =
    let t = finished_as s.closes s (stage_closed s.stage) in
    changed k r feed (Finish j) old j s t Done (use_in_turn turn) (λ x. refl) here (finished-same s.closes s (stage_closed s.stage) (λ v. closed-stage s.stage v)) h
effect-reads k r feed found date old q s turn (Drop j) here is takes h =
    let step = Drop j in
    let closes = closes_now q s.closes s.owed s.given s.end_reported in
    let d = finished_as closes s ByServer in
    reads-ended k r feed step (ends_when_finished q s.owed s.given s.end_reported) (changes old j d Done (use_in_turn turn))
    (changed k r feed step old j s d Done (use_in_turn turn) (λ x. refl) here (dropped-same closes s) h)

pub not-true : {b : Bool} → not b ≡ false → b ≡ true
not-true {b = true} e = refl
not-true {b = false} e = cc

number-reads : (k : ℕ) (r : Request) (feed : Feed) (found : Bool) (date : HttpDate) (old : Reached) (step : StepValue) → Represents k r feed old.slots old.rest → Reads k r feed step (at_number found date old (number_of step) step)
number-reads k r feed found date old step h = go (slice_get old.slots (number_of step)) refl
  where
    item : (s : Slot) (i : Item) → slice_get old.slots (number_of step) ≡ Some s → s.item ≡ i → Reads k r feed step (at_item found date old (number_of step) step s i)
    item s (Refuses refusal manner no_body last) here is = idle k r feed step old NoSuch (no-such k r feed step) h
    item s (Asks q) here is =
        let turn = turn_has_come (number_of step) old.slots in
        reads-if k r feed step (not (accepts_step s.stage s.owed step)) (unchanged old NoSuch)
        (if (needs_turn q s step && not turn) then unchanged old NotYet else effect found date old q s turn step)
        (λ no. idle k r feed step old NoSuch (no-such k r feed step) h)
        (λ takes. reads-if k r feed step (needs_turn q s step && not turn) (unchanged old NotYet) (effect found date old q s turn step)
        (λ waits. idle k r feed step old NotYet (not-yet k r feed step) h)
        (λ goes. effect-reads k r feed found date old q s turn step here is (not-true takes) h))

    go : (o : Option Slot) → slice_get old.slots (number_of step) ≡ o → Reads k r feed step (at_slot found date old (number_of step) step o)
    go None e = idle k r feed step old NoSuch (no-such k r feed step) h
    go (Some s) e = item s s.item e refl

-- ---- an Ask

new-under : (k : ℕ) (r : Request) (feed : Feed) (slots : List Slot) (date : HttpDate) (item : Item) → k ≡ length slots + 0 → item ≡ Asks r → feed ≡ r.body → Under k r feed (slots ++ new_slot date item ∷ [])
new-under k r feed slots date item place is left =
    let s = new_slot date (Asks r) in
    let U : Item → Type 0 = λ x. Under k r feed (slots ++ new_slot date x ∷ []) in
    let get : slice_get (slots ++ s ∷ []) k ≡ Some s = get-last slots s k (omega (arith, place)) in
    subst U (sym is) (record { slot = s; asked = r; get = get; item = refl; left = left; own = λ x. refl })

further : (k : ℕ) (r : Request) (feed : Feed) (slots : List Slot) (rest : List Item) (date : HttpDate) (item : Item) (behind : ℕ)
    → k ≡ length slots + behind → slice_get (item ∷ rest) behind ≡ Some (Asks r) → feed ≡ r.body → Represents k r feed (slots ++ new_slot date item ∷ []) rest
further k r feed slots rest date item zero place get left =
    let is : item ≡ Asks r = cc in
    inl (new-under k r feed slots date item place is left)
further k r feed slots rest date item (suc n) place get left =
    let more = one-more slots (new_slot date item) in
    inr (record { behind = n; place = omega (arith, place, more); get = get; left = left })

one-on : (k : ℕ) (r : Request) (feed : Feed) (slots : List Slot) (rest : List Item) (date : HttpDate) (item : Item) → Represents k r feed slots (item ∷ rest) → Represents k r feed (slots ++ new_slot date item ∷ []) rest
one-on k r feed slots rest date item h =
    ⊎_elim
    (λ u. inl (same-under k r feed slots u (slots ++ new_slot date item ∷ []) u.slot (get-append slots (new_slot date item ∷ []) k u.slot u.get) (record { item = refl; given = refl; stage = λ v. v })))
    (λ a. further k r feed slots rest date item a.behind a.place a.get a.left)
    h

asks-stand : (k : ℕ) (r : Request) (feed : Feed) (date : HttpDate) (w : WriterUse) (slots : List Slot) (items : List Item) → Represents k r feed slots items
    → Represents k r feed (asks_from date w slots items).slots (asks_from date w slots items).rest
asks-stand k r feed date w slots [] h = h
asks-stand k r feed date w slots (Asks q ∷ items) h = one-on k r feed slots items date (Asks q) h
asks-stand k r feed date w slots (Refuses refusal manner no_body last ∷ items) h =
    let item = Refuses refusal manner no_body last in
    asks-stand k r feed date (if turn_has_come (length slots) slots then Unreported else w) (slots ++ new_slot date item ∷ []) items (one-on k r feed slots items date item h)

all-on : (k : ℕ) (r : Request) (feed : Feed) (slots : List Slot) (rest : List Item) (date : HttpDate) (items : List Item) → Represents k r feed slots (items ++ rest) → Represents k r feed (slots ++ map (new_slot date) items) rest
all-on k r feed slots rest date [] h = subst (λ (x : List Slot). Represents k r feed x rest) (sym (append-nil slots)) h
all-on k r feed slots rest date (item ∷ items) h =
    let more = all-on k r feed (slots ++ new_slot date item ∷ []) rest date items (one-on k r feed slots (items ++ rest) date item h) in
    subst (λ (x : List Slot). Represents k r feed x rest) (append_assoc slots (new_slot date item ∷ []) (map (new_slot date) items)) more

ask-reads : (k : ℕ) (r : Request) (feed : Feed) (date : HttpDate) (old : Reached) → Represents k r feed old.slots old.rest → Reads k r feed Ask (ask date old)
ask-reads k r feed date old h =
    let left : Outcome = record { reply = Ended; slots = old.slots; rest = old.rest; asking_ended = true; writer = Unused } in
    let goes = asks_from date Unused old.slots old.rest in
    reads-if k r feed Ask old.asking_ended (unchanged old Ended) (if last_holds_reader (last_slot old.slots) then unchanged old NotYet else if last_was_abandoned (last_slot old.slots) then left else goes)
    (λ e. idle k r feed Ask old Ended refl h)
    (λ e. reads-if k r feed Ask (last_holds_reader (last_slot old.slots)) (unchanged old NotYet) (if last_was_abandoned (last_slot old.slots) then left else goes)
    (λ e. idle k r feed Ask old NotYet refl h)
    (λ e. reads-if k r feed Ask (last_was_abandoned (last_slot old.slots)) left goes
    (λ e. record { next = feed; leaves = λ x p. refl; represents = h })
    (λ e. record { next = feed; leaves = λ x p. refl; represents = asks-stand k r feed date Unused old.slots old.rest h })))

outcome-reads : (k : ℕ) (r : Request) (feed : Feed) (found : Bool) (date : HttpDate) (old : Reached) (step : StepValue) → Represents k r feed old.slots old.rest → Reads k r feed step (outcome found date old step)
outcome-reads k r feed found date old Ask h = ask-reads k r feed date old h
outcome-reads k r feed found date old (AsReader j) h = number-reads k r feed found date old (AsReader j) h
outcome-reads k r feed found date old (Read j n) h = number-reads k r feed found date old (Read j n) h
outcome-reads k r feed found date old (Respond j response) h = number-reads k r feed found date old (Respond j response) h
outcome-reads k r feed found date old (IntoWriter j) h = number-reads k r feed found date old (IntoWriter j) h
outcome-reads k r feed found date old (Write j bytes) h = number-reads k r feed found date old (Write j bytes) h
outcome-reads k r feed found date old (Flush j) h = number-reads k r feed found date old (Flush j) h
outcome-reads k r feed found date old (Upgrade j protocol response) h = number-reads k r feed found date old (Upgrade j protocol response) h
outcome-reads k r feed found date old (Finish j) h = number-reads k r feed found date old (Finish j) h
outcome-reads k r feed found date old (Drop j) h = number-reads k r feed found date old (Drop j) h

-- ---- a run

part-planned : (w : WriterUse) (old : State) (planned reply : ReplyValue) (slots : List Slot) (failure : Option Failure) (silent : Bool)
    → MatchBool silent ((reply ≡ planned) × (failure ≡ old.failure)) ((fares : Fares) × MayFare w old slots fares × (reply ≡ reply_in w planned fares) × (failure ≡ failure_in fares))
    → Planned w planned reply
part-planned Unused old planned reply slots failure true p = p.0
part-planned Unused old planned reply slots failure false p = p.2
part-planned Unreported old planned reply slots failure true p = p.0
part-planned Unreported old planned reply slots failure false p = p.2
part-planned (Reported own broken flushes report) old planned reply slots failure silent p = tt

record StepReads (k : ℕ) (r : Request) (feed : Feed) (step : StepValue) (reply : ReplyValue) (new : State) : Type 0 where
  next : Feed
  leaves : LeavesBody k r feed step reply next
  represents : Represents k r next new.reached.slots new.reached.rest

outcome-step : (k : ℕ) (r : Request) (feed : Feed) (step : StepValue) (o : Outcome) (old : State) (reply : ReplyValue) (new : State) → Reads k r feed step o → HasOutcome o old reply new → StepReads k r feed step reply new
outcome-step k r feed step o old reply new h has =
    let planned = part-planned o.writer old o.reply reply o.slots new.failure (writes_nothing o.writer old) has.2 in
    let S : Reached → Type 0 = λ x. Represents k r h.next x.slots x.rest in
    record { next = h.next; leaves = h.leaves reply planned; represents = subst S (sym has.0) h.represents }

memory-leaves : (k : ℕ) (r : Request) (feed : Feed) (j n : ℕ) → LeavesBody k r feed (Read j n) Memory feed
memory-leaves k r feed j n = either (j == k) refl

no-memory-reads : (k : ℕ) (r : Request) (feed : Feed) (date : HttpDate) (old : State) (step : StepValue) (reply : ReplyValue) (new : State)
    → Represents k r feed old.reached.slots old.reached.rest → FindsNoMemory date old step reply new → StepReads k r feed step reply new
no-memory-reads k r feed date old Ask reply new h f =
    let refused = f.4 in
    let rest = f.5 in
    let slots = old.reached.slots ++ map (new_slot date) refused in
    let o : Outcome = record { reply = Memory; slots = slots; rest = rest; asking_ended = true; writer = answers_to old.reached.slots refused } in
    let S : List Item → Type 0 = λ x. Represents k r feed old.reached.slots x in
    let represents = all-on k r feed old.reached.slots rest date refused (subst S f.6 h) in
    outcome-step k r feed Ask o old reply new (record { next = feed; leaves = λ x p. refl; represents = represents }) f.8
no-memory-reads k r feed date old (Read j n) reply new h f =
    let L : ReplyValue → Type 0 = λ x. LeavesBody k r feed (Read j n) x feed in
    let S : State → Type 0 = λ x. Represents k r feed x.reached.slots x.reached.rest in
    record { next = feed; leaves = subst L (sym f.2) (memory-leaves k r feed j n); represents = subst S (sym f.3) h }
no-memory-reads k r feed date old (AsReader j) reply new h f = elim f [ ]
no-memory-reads k r feed date old (Respond j a) reply new h f = elim f [ ]
no-memory-reads k r feed date old (IntoWriter j) reply new h f = elim f [ ]
no-memory-reads k r feed date old (Write j b) reply new h f = elim f [ ]
no-memory-reads k r feed date old (Flush j) reply new h f = elim f [ ]
no-memory-reads k r feed date old (Upgrade j p a) reply new h f = elim f [ ]
no-memory-reads k r feed date old (Finish j) reply new h f = elim f [ ]
no-memory-reads k r feed date old (Drop j) reply new h f = elim f [ ]

step-reads : (k : ℕ) (r : Request) (feed : Feed) (old : State) (date : HttpDate) (step : StepValue) (reply : ReplyValue) (new : State)
    → Represents k r feed old.reached.slots old.reached.rest → StepsTo old date step reply new → StepReads k r feed step reply new
step-reads k r feed old date step reply new h s =
    ⊎_elim
    (λ g. outcome-step k r feed step (outcome g.0 date old.reached step) old reply new (outcome-reads k r feed g.0 date old.reached step h) g.2)
    (λ f. no-memory-reads k r feed date old step reply new h f)
    s

run-reads : (k : ℕ) (r : Request) (feed : Feed) (old new : State) (steps : List TimedValue) (replies : List ReplyValue)
    → Represents k r feed old.reached.slots old.reached.rest → Run old steps replies new → ReadsInOrder k r feed steps replies
run-reads k r feed old new [] [] h run = tt
run-reads k r feed old new [] (x ∷ replies) h run = elim run [ ]
run-reads k r feed old new (s ∷ steps) [] h run = elim run [ ]
run-reads k r feed old new (s ∷ steps) (x ∷ replies) h run =
    let one = step-reads k r feed old s.0 s.1 x run.0 h run.1 in
    (one.next, one.leaves, run-reads k r one.next run.0 new steps replies one.represents run.2)

pub conversation-reads : (p : Profile) (client : Feed) (before after : Sink) (steps : List TimedValue) (replies : List ReplyValue) (held : List ℕ) (ended : Bool) (unread : Option Feed)
    → (c : IsConversation p client before steps replies after held ended unread) (k : ℕ) (r : Request) → slice_get c.items k ≡ Some (Asks r) → ReadsInOrder k r r.body steps replies
conversation-reads p client before after steps replies held ended unread c k r here =
    run-reads k r r.body (start_state c.items) c.end steps replies (inr (record { behind = k; place = omega arith; get = here; left = refl })) c.run
