-- A step is done or refused where a request takes it in its turn, and finds one nowhere else.
use Rattle.std.proofs.Common.{◌≡◌, refl, sym, ap, ◌∙◌, subst, arith, ℕ, zero, suc, ◌+◌, ◌<◌, ◌⊎◌, inl, inr, Bool, true, false, not, ◌&&◌, List, [], ◌∷◌, ◌++◌, length, Option, Some, None, ⊎_elim, append-nil}
use Rattle.std.specs.Prelude.{if◌then◌else◌, slice_get, take, ◌||◌, MatchBool}
use Rattle.std.specs.List.{list_all}
use Rattle.std.proofs.lemmas.List.{append_cancel_right}
use Rattle.httpdate.specs.declared.date.HttpDate.{HttpDate}
use Rattle.tiny_http_io.specs.Device.{Feed, Sink}
use Rattle.tiny_http_body.specs.declared.framing.Profile.{Profile}
use Rattle.tiny_http_open_request.specs.Pipeline.{Item, Asks, Refuses, Request}
use Rattle.tiny_http_response.specs.ResponseValue.{ResponseValue}
use Rattle.tiny_http_connection.specs.Segments.{Slot, Stage, Unanswered, Answered, ByServer, Raw, Upgraded, is_finished}
use Rattle.tiny_http_connection.specs.Slots.{turn_has_come, refuses_response, refuses_upgrade, upgraded_slot}
use Rattle.tiny_http_connection.specs.Steps.{StepValue, Ask, AsReader, Read, Respond, IntoWriter, Write, Flush, Upgrade, Finish, Drop, ReplyValue, NotYet, Done, Refused, NoSuch, TimedValue, number_of, is_done, is_refused}
use Rattle.tiny_http_connection.specs.Outcomes.{WriterUse, Unused, Unreported, Reported, Outcome, Reached, unchanged, changes, accepts_step, needs_turn, asked_to_close, answers_slot, answers, drops, streams, effect, at_item, at_slot, at_number, outcome}
use Rattle.tiny_http_connection.specs.Conversation.{Failure, State, Fares, MayFare, reply_in, failure_in, writes_nothing, HasOutcome, FindsNoMemory, StepsTo, Run, start_state, IsConversation}
use Rattle.tiny_http_connection_laws.specs.InShort.{handed, requests_from, AreOfOneHead}
use Rattle.tiny_http_connection_laws.specs.Accounts.{Condition, Waits, Writes, Finished, Account, untouched, account, condition_of, takes, is_done_early, IsTaken, is_ask, IsThrough, IsHanded, is_read}
use Rattle.tiny_http_connection_laws.proofs.InShortReads.{same-some}
use Rattle.tiny_http_connection_laws.proofs.InShortHanded.{run-moves}
use Rattle.tiny_http_connection_laws.proofs.InShortSlots.{Matches, matches-get, run-fits}
use Rattle.tiny_http_connection_laws.proofs.StepsAdd.{accounts}
use Rattle.tiny_http_connection_laws.proofs.AccountsHold.{Told, IsTold, AllTold, Alike, IsOwn, planned-alike, outcome-tells, run-accounts, none-accounts}

-- ---- a run in two parts

pub record Parts (old : State) (xs ys : List TimedValue) (rs qs : List ReplyValue) (new : State) : Type 0 where
  pub mid : State
  pub first : Run old xs rs mid
  pub second : Run mid ys qs new

pub run-parts : (old new : State) (xs ys : List TimedValue) (rs qs : List ReplyValue) → length rs ≡ length xs → Run old (xs ++ ys) (rs ++ qs) new → Parts old xs ys rs qs new
run-parts old new [] ys [] qs e run = record { mid = old; first = refl; second = run }
run-parts old new [] ys (r ∷ rs) qs e run = absurd (omega (arith, e))
run-parts old new (x ∷ xs) ys [] qs e run = absurd (omega (arith, e))
run-parts old new (x ∷ xs) ys (r ∷ rs) qs e run =
    let p = run-parts run.0 new xs ys rs qs (omega (arith, e)) run.2 in
    record { mid = p.mid; first = (run.0, run.1, p.first); second = p.second }

-- ---- the requests that were handed out

requests-append : (n : ℕ) (xs ys : List Item) → requests_from n (xs ++ ys) ≡ requests_from n xs ++ requests_from (n + length xs) ys
requests-append n [] ys = let none : n + 0 ≡ n = omega arith in ap (λ k. requests_from k ys) (sym none)
requests-append n (Asks r ∷ xs) ys =
    let more : (n + 1) + length xs ≡ n + suc (length xs) = omega arith in
    ap (λ l. (n, r.message, r.framing) ∷ l) (requests-append (n + 1) xs ys ∙ ap (λ k. requests_from (n + 1) xs ++ requests_from k ys) more)
requests-append n (Refuses refusal manner no_body last ∷ xs) ys =
    let more : (n + 1) + length xs ≡ n + suc (length xs) = omega arith in
    requests-append (n + 1) xs ys ∙ ap (λ k. requests_from (n + 1) xs ++ requests_from k ys) more

pub matches-length : (slots : List Slot) (items : List Item) → Matches slots items → length items ≡ length slots
matches-length [] [] h = refl
matches-length [] (i ∷ items) h = elim h [ ]
matches-length (s ∷ slots) [] h = elim h [ ]
matches-length (s ∷ slots) (i ∷ items) h = ap suc (matches-length slots items h.1)

-- the items that a run reached, each of a number
pub record Found (items : List Item) (replies : List ReplyValue) (new : State) : Type 0 where
  pub reached : List Item
  pub splits : items ≡ reached ++ new.reached.rest
  pub matches : Matches new.reached.slots reached
  pub handed : handed replies ≡ requests_from 0 reached

pub run-found : (items : List Item) (new : State) (steps : List TimedValue) (replies : List ReplyValue) → Run (start_state items) steps replies new → Found items replies new
run-found items new steps replies run =
    let g = (run-fits (start_state items) new steps replies run).goes [] tt in
    let rest = new.reached.rest in
    let many = matches-length new.reached.slots g.0 g.2 in
    let count : 0 + length g.0 ≡ length new.reached.slots = omega (arith, many) in
    let all : requests_from 0 items ≡ requests_from 0 g.0 ++ requests_from (length new.reached.slots) rest =
    ap (requests_from 0) g.1 ∙ requests-append 0 g.0 rest ∙ ap (λ k. requests_from 0 g.0 ++ requests_from k rest) count in
    let moves = (run-moves (start_state items) new steps replies run).requests in
    record {
      reached = g.0;
      splits = g.1;
      matches = g.2;
      handed = append_cancel_right (handed replies) (requests_from 0 g.0) (requests_from (length new.reached.slots) rest) (sym moves ∙ all);
    }

-- a request stands where one was handed out, and the other way
handed-item : (n : ℕ) (items : List Item) (k : ℕ) → IsHanded k (requests_from n items) → (j : ℕ) × (r : Request) × (k ≡ n + j) × (slice_get items j ≡ Some (Asks r))
handed-item n [] k h = elim h [ ]
handed-item n (Asks r ∷ items) k (inl e) = let none : n + 0 ≡ n = omega arith in (0, r, sym e ∙ sym none, refl)
handed-item n (Asks r ∷ items) k (inr h) =
    let i = handed-item (n + 1) items k h in
    let at = i.2 in
    (suc i.0, i.1, omega (arith, at), i.3)
handed-item n (Refuses refusal manner no_body last ∷ items) k h =
    let i = handed-item (n + 1) items k h in
    let at = i.2 in
    (suc i.0, i.1, omega (arith, at), i.3)

item-handed : (n : ℕ) (items : List Item) (j : ℕ) (r : Request) → slice_get items j ≡ Some (Asks r) → IsHanded (n + j) (requests_from n items)
item-handed n [] j r e = cc
item-handed n (Asks q ∷ items) zero r e = let none : n ≡ n + 0 = omega arith in inl none
item-handed n (Asks q ∷ items) (suc j) r e =
    let more : (n + 1) + j ≡ n + suc j = omega arith in
    inr (subst (λ k. IsHanded k (requests_from (n + 1) items)) more (item-handed (n + 1) items j r e))
item-handed n (Refuses refusal manner no_body last ∷ items) zero r e = cc
item-handed n (Refuses refusal manner no_body last ∷ items) (suc j) r e =
    let more : (n + 1) + j ≡ n + suc j = omega arith in
    subst (λ k. IsHanded k (requests_from (n + 1) items)) more (item-handed (n + 1) items j r e)

-- the number of an item that was reached
matches-slot : (slots : List Slot) (items : List Item) (k : ℕ) (item : Item) → Matches slots items → slice_get items k ≡ Some item → (s : Slot) × (slice_get slots k ≡ Some s) × AreOfOneHead s.item item
matches-slot [] [] k item h e = cc
matches-slot [] (i ∷ items) k item h e = elim h [ ]
matches-slot (s ∷ slots) [] k item h e = elim h [ ]
matches-slot (s ∷ slots) (i ∷ items) zero item h e = (s, refl, subst (λ x. AreOfOneHead s.item x) (same-some i item e) h.0)
matches-slot (s ∷ slots) (i ∷ items) (suc k) item h e = matches-slot slots items k item h.1 e

one-head-asks : (item : Item) (r : Request) → AreOfOneHead item (Asks r) → (q : Request) × (item ≡ Asks q)
one-head-asks (Asks q) r h = (q, refl)
one-head-asks (Refuses refusal manner no_body last) r h = cc

asks-one-head : (q : Request) (item : Item) → AreOfOneHead (Asks q) item → (r : Request) × (item ≡ Asks r)
asks-one-head q (Asks r) h = (r, refl)
asks-one-head q (Refuses refusal manner no_body last) h = cc

-- ---- turns

if-writes : (b : Bool) → (if b then Finished else Writes) ≡ Waits → ⊥
if-writes true e = cc
if-writes false e = cc

waits-unanswered : (stage : Stage) → condition_of stage ≡ Waits → stage ≡ Unanswered
waits-unanswered Unanswered e = refl
waits-unanswered (Answered response date found) e = cc
waits-unanswered ByServer e = cc
waits-unanswered (Raw written closed) e = absurd (if-writes closed e)
waits-unanswered (Upgraded protocol response date written closed) e = absurd (if-writes closed e)

pub if-finished : (b : Bool) → (if b then Finished else Writes) ≡ Finished → b ≡ true
if-finished true e = refl
if-finished false e = cc

finished-stage : (s : Slot) (stage : Stage) → s.stage ≡ stage → condition_of stage ≡ Finished → is_finished s ≡ true
finished-stage s Unanswered is e = cc
finished-stage s (Answered response date found) is e = rw is refl
finished-stage s ByServer is e = rw is refl
finished-stage s (Raw written closed) is e = rw is (if-finished closed e)
finished-stage s (Upgraded protocol response date written closed) is e = rw is (if-finished closed e)

-- a number whose account says that it is finished is so
through-finished : (k : ℕ) (s : Slot) (at item : Item) (a : Account) → s.item ≡ at → AreOfOneHead at item → IsTold k s at a → IsThrough (Some item) a → is_finished s ≡ true
through-finished k s (Asks q) (Asks r) a is one h done = finished-stage s s.stage refl (h.condition ∙ done)
through-finished k s (Asks q) (Refuses refusal manner no_body last) a is one h done = cc
through-finished k s (Refuses refusal manner no_body last) item a is one h done = rw h.stage refl

pub never : {G : Type 0} → false ≡ true → G
never e = cc

finished-takes : (step : StepValue) → takes Finished step ≡ false
finished-takes Ask = refl
finished-takes (AsReader k) = refl
finished-takes (Read k n) = refl
finished-takes (Respond k response) = refl
finished-takes (IntoWriter k) = refl
finished-takes (Write k bytes) = refl
finished-takes (Flush k) = refl
finished-takes (Upgrade k protocol response) = refl
finished-takes (Finish k) = refl
finished-takes (Drop k) = refl

ask-takes : (condition : Condition) → takes condition Ask ≡ false
ask-takes Waits = refl
ask-takes Writes = refl
ask-takes Finished = refl

turn-of : (slots : List Slot) (k : ℕ) → ((j : ℕ) (s : Slot) → j < k → slice_get slots j ≡ Some s → is_finished s ≡ true) → turn_has_come k slots ≡ true
turn-of slots zero h = refl
turn-of [] (suc k) h = refl
turn-of (s ∷ slots) (suc k) h =
    let first : is_finished s ≡ true = h 0 s (omega arith) refl in
    let more : list_all is_finished (take k slots) ≡ true = turn-of slots k (λ j t low e. h (suc j) t (omega (arith, low)) e) in
    rw (first, more) refl

-- ---- replies

-- the reply of a text of the server's own
own-reply : (w : WriterUse) (planned : ReplyValue) (fares : Fares) → IsOwn w → reply_in w planned fares ≡ planned
own-reply Unused planned fares o = refl
own-reply Unreported planned fares o = refl
own-reply (Reported own broken flushes report) planned fares o = elim o [ ]

pub own-part : (w : WriterUse) (old : State) (planned reply : ReplyValue) (slots : List Slot) (failure : Option Failure) (silent : Bool)
    → MatchBool silent ((reply ≡ planned) × (failure ≡ old.failure)) ((fares : Fares) × MayFare w old slots fares × (reply ≡ reply_in w planned fares) × (failure ≡ failure_in fares))
    → IsOwn w → reply ≡ planned
own-part w old planned reply slots failure true p o = p.0
own-part w old planned reply slots failure false p o = p.2 ∙ own-reply w planned p.0 o

pub own-planned : (o : Outcome) (old : State) (reply : ReplyValue) (new : State) → IsOwn o.writer → HasOutcome o old reply new → reply ≡ o.reply
own-planned o old reply new own has = own-part o.writer old o.reply reply o.slots new.failure (writes_nothing o.writer old) has.2 own

-- ---- a step that a number takes

taken-alike : (step : StepValue) (x y : ReplyValue) → Alike x y → IsTaken step y → IsTaken step x
taken-alike Ask x y h m = rw (h.done, h.refused) m
taken-alike (AsReader k) x y h m = rw (h.done, h.refused) m
taken-alike (Read k n) x y h m = tt
taken-alike (Respond k response) x y h m = rw (h.done, h.refused) m
taken-alike (IntoWriter k) x y h m = rw (h.done, h.refused) m
taken-alike (Write k bytes) x y h m = rw (h.done, h.refused) m
taken-alike (Flush k) x y h m = rw (h.done, h.refused) m
taken-alike (Upgrade k protocol response) x y h m = rw (h.done, h.refused) m
taken-alike (Finish k) x y h m = rw (h.done, h.refused) m
taken-alike (Drop k) x y h m = rw (h.done, h.refused) m

taken-if : (step : StepValue) (b : Bool) (x y : Outcome) → IsTaken step x.reply → IsTaken step y.reply → IsTaken step (if b then x else y).reply
taken-if step true x y h k = h
taken-if step false x y h k = k

answered-taken : (found : Bool) (date : HttpDate) (old : Reached) (r : Request) (k : ℕ) (response : ResponseValue) (s : Slot) → slice_get old.slots k ≡ Some s → IsTaken (Respond k response) (answers found date old r k response).reply
answered-taken found date old r k response s at =
    let P : Option Slot → Type 0 = λ o. IsTaken (Respond k response) (answers_slot found date old r k response o).reply in
    subst P (sym at) refl

asked-taken : (found : Bool) (date : HttpDate) (old : Reached) (r : Request) (k : ℕ) (response : ResponseValue) (s : Slot) (closes : Bool) → slice_get old.slots k ≡ Some s → IsTaken (Respond k response) (answers found date (asked_to_close closes old) r k response).reply
asked-taken found date old r k response s false at = answered-taken found date old r k response s at
asked-taken found date old r k response s true at = let t = accounts s old.slots k at in answered-taken found date (asked_to_close true old) r k response t.slot t.get

effect-taken : (found : Bool) (date : HttpDate) (old : Reached) (r : Request) (s : Slot) (turn : Bool) (step : StepValue) → is_ask step ≡ false → slice_get old.slots (number_of step) ≡ Some s → IsTaken step (effect found date old r s turn step).reply
effect-taken found date old r s turn Ask other at = never (sym other)
effect-taken found date old r s turn (AsReader k) other at = taken-if (AsReader k) s.owed (changes old k (record s { owed = false; continued = Some date }) Done Unreported) (unchanged old Done) refl refl
effect-taken found date old r s turn (Read k n) other at = tt
effect-taken found date old r s turn (Respond k response) other at =
    taken-if (Respond k response) (refuses_response r response) (drops old r s turn k Refused) (answers found date (asked_to_close response.answer.closes old) r k response)
    refl (asked-taken found date old r k response s response.answer.closes at)
effect-taken found date old r s turn (IntoWriter k) other at = refl
effect-taken found date old r s turn (Write k bytes) other at = refl
effect-taken found date old r s turn (Flush k) other at = refl
effect-taken found date old r s turn (Upgrade k protocol response) other at =
    taken-if (Upgrade k protocol response) (refuses_upgrade r s protocol response) (drops old r s turn k Refused) (streams old r s k (upgraded_slot r s (Upgraded protocol response date [] false)) Unreported) refl refl
effect-taken found date old r s turn (Finish k) other at = refl
effect-taken found date old r s turn (Drop k) other at = refl

-- what a number in this condition takes, a number in this stage does; of a read the other way alone
if-takes : (closed : Bool) (step : StepValue) → takes (if closed then Finished else Writes) step ≡ true → (closed ≡ false) × (takes Writes step ≡ true)
if-takes true Ask e = never e
if-takes true (AsReader k) e = never e
if-takes true (Read k n) e = never e
if-takes true (Respond k response) e = never e
if-takes true (IntoWriter k) e = never e
if-takes true (Write k bytes) e = never e
if-takes true (Flush k) e = never e
if-takes true (Upgrade k protocol response) e = never e
if-takes true (Finish k) e = never e
if-takes true (Drop k) e = never e
if-takes false step e = (refl, e)

-- a read is no such step
stage-accepts : (stage : Stage) (owed : Bool) (step : StepValue) → is_read step ≡ false → takes (condition_of stage) step ≡ true → accepts_step stage owed step ≡ true
stage-accepts Unanswered owed Ask read e = never e
stage-accepts Unanswered owed (AsReader k) read e = refl
stage-accepts Unanswered owed (Read k n) read e = never (sym read)
stage-accepts Unanswered owed (Respond k response) read e = refl
stage-accepts Unanswered owed (IntoWriter k) read e = refl
stage-accepts Unanswered owed (Write k bytes) read e = never e
stage-accepts Unanswered owed (Flush k) read e = never e
stage-accepts Unanswered owed (Upgrade k protocol response) read e = refl
stage-accepts Unanswered owed (Finish k) read e = never e
stage-accepts Unanswered owed (Drop k) read e = refl
stage-accepts (Answered response date found) owed step read e = never (sym (finished-takes step) ∙ e)
stage-accepts ByServer owed step read e = never (sym (finished-takes step) ∙ e)
stage-accepts (Raw written closed) owed step read e = by step (if-takes closed step e).1 read
  where
    shut : not closed ≡ true
    shut = ap not (if-takes closed step e).0

    by : (x : StepValue) → takes Writes x ≡ true → is_read x ≡ false → accepts_step (Raw written closed) owed x ≡ true
    by Ask t r = never t
    by (AsReader k) t r = never t
    by (Read k n) t r = never (sym r)
    by (Respond k response) t r = never t
    by (IntoWriter k) t r = never t
    by (Write k bytes) t r = shut
    by (Flush k) t r = shut
    by (Upgrade k protocol response) t r = never t
    by (Finish k) t r = shut
    by (Drop k) t r = never t
stage-accepts (Upgraded protocol response date written closed) owed step read e = by step (if-takes closed step e).1 read
  where
    shut : not closed ≡ true
    shut = ap not (if-takes closed step e).0

    by : (x : StepValue) → takes Writes x ≡ true → is_read x ≡ false → accepts_step (Upgraded protocol response date written closed) owed x ≡ true
    by Ask t r = never t
    by (AsReader k) t r = never t
    by (Read k n) t r = never (sym r)
    by (Respond k answer) t r = never t
    by (IntoWriter k) t r = never t
    by (Write k bytes) t r = shut
    by (Flush k) t r = shut
    by (Upgrade k named answer) t r = never t
    by (Finish k) t r = shut
    by (Drop k) t r = never t

open-writes : (closed : Bool) → not closed ≡ true → (if closed then Finished else Writes) ≡ Writes
open-writes true e = never e
open-writes false e = refl

accepts-takes : (stage : Stage) (owed : Bool) (step : StepValue) → is_ask step ≡ false → accepts_step stage owed step ≡ true → takes (condition_of stage) step ≡ true
accepts-takes stage owed Ask other e = never (sym other)
accepts-takes Unanswered owed (AsReader k) other e = refl
accepts-takes Unanswered owed (Read k n) other e = refl
accepts-takes Unanswered owed (Respond k response) other e = refl
accepts-takes Unanswered owed (IntoWriter k) other e = refl
accepts-takes Unanswered owed (Write k bytes) other e = never e
accepts-takes Unanswered owed (Flush k) other e = never e
accepts-takes Unanswered owed (Upgrade k protocol response) other e = refl
accepts-takes Unanswered owed (Finish k) other e = never e
accepts-takes Unanswered owed (Drop k) other e = refl
accepts-takes (Answered answer date found) owed (AsReader k) other e = never e
accepts-takes (Answered answer date found) owed (Read k n) other e = never e
accepts-takes (Answered answer date found) owed (Respond k response) other e = never e
accepts-takes (Answered answer date found) owed (IntoWriter k) other e = never e
accepts-takes (Answered answer date found) owed (Write k bytes) other e = never e
accepts-takes (Answered answer date found) owed (Flush k) other e = never e
accepts-takes (Answered answer date found) owed (Upgrade k protocol response) other e = never e
accepts-takes (Answered answer date found) owed (Finish k) other e = never e
accepts-takes (Answered answer date found) owed (Drop k) other e = never e
accepts-takes ByServer owed (AsReader k) other e = never e
accepts-takes ByServer owed (Read k n) other e = never e
accepts-takes ByServer owed (Respond k response) other e = never e
accepts-takes ByServer owed (IntoWriter k) other e = never e
accepts-takes ByServer owed (Write k bytes) other e = never e
accepts-takes ByServer owed (Flush k) other e = never e
accepts-takes ByServer owed (Upgrade k protocol response) other e = never e
accepts-takes ByServer owed (Finish k) other e = never e
accepts-takes ByServer owed (Drop k) other e = never e
accepts-takes (Raw written closed) owed (AsReader k) other e = never e
accepts-takes (Raw written closed) owed (Read k n) other e = never e
accepts-takes (Raw written closed) owed (Respond k response) other e = never e
accepts-takes (Raw written closed) owed (IntoWriter k) other e = never e
accepts-takes (Raw written closed) owed (Write k bytes) other e = rw (open-writes closed e) refl
accepts-takes (Raw written closed) owed (Flush k) other e = rw (open-writes closed e) refl
accepts-takes (Raw written closed) owed (Upgrade k protocol response) other e = never e
accepts-takes (Raw written closed) owed (Finish k) other e = rw (open-writes closed e) refl
accepts-takes (Raw written closed) owed (Drop k) other e = never e
accepts-takes (Upgraded named answer date written closed) owed (AsReader k) other e = never e
accepts-takes (Upgraded named answer date written closed) owed (Read k n) other e = rw (open-writes closed e) refl
accepts-takes (Upgraded named answer date written closed) owed (Respond k response) other e = never e
accepts-takes (Upgraded named answer date written closed) owed (IntoWriter k) other e = never e
accepts-takes (Upgraded named answer date written closed) owed (Write k bytes) other e = rw (open-writes closed e) refl
accepts-takes (Upgraded named answer date written closed) owed (Flush k) other e = rw (open-writes closed e) refl
accepts-takes (Upgraded named answer date written closed) owed (Upgrade k protocol response) other e = never e
accepts-takes (Upgraded named answer date written closed) owed (Finish k) other e = rw (open-writes closed e) refl
accepts-takes (Upgraded named answer date written closed) owed (Drop k) other e = never e

-- a step that is done early waits for no turn
early-turn : (r : Request) (s : Slot) (step : StepValue) → is_done_early step ≡ true → needs_turn r s step ≡ false
early-turn r s Ask e = never e
early-turn r s (AsReader k) e = never e
early-turn r s (Read k n) e = never e
early-turn r s (Respond k response) e = never e
early-turn r s (IntoWriter k) e = refl
early-turn r s (Write k bytes) e = never e
early-turn r s (Flush k) e = never e
early-turn r s (Upgrade k protocol response) e = never e
early-turn r s (Finish k) e = refl
early-turn r s (Drop k) e = refl

pub and-none : (b : Bool) → (b && false) ≡ false
and-none true = refl
and-none false = refl

no-wait : (r : Request) (s : Slot) (step : StepValue) (turn : Bool) → (is_done_early step ≡ false → turn ≡ true) → (needs_turn r s step && not turn) ≡ false
no-wait r s step turn comes = by (is_done_early step) refl
  where
    by : (b : Bool) → is_done_early step ≡ b → (needs_turn r s step && not turn) ≡ false
    by true e = rw (early-turn r s step e) refl
    by false e = rw (comes e) (and-none (needs_turn r s step))

-- the outcome of a step of a number
number-outcome : (found : Bool) (date : HttpDate) (old : Reached) (step : StepValue) → is_ask step ≡ false → outcome found date old step ≡ at_number found date old (number_of step) step
number-outcome found date old Ask other = never (sym other)
number-outcome found date old (AsReader k) other = refl
number-outcome found date old (Read k n) other = refl
number-outcome found date old (Respond k response) other = refl
number-outcome found date old (IntoWriter k) other = refl
number-outcome found date old (Write k bytes) other = refl
number-outcome found date old (Flush k) other = refl
number-outcome found date old (Upgrade k protocol response) other = refl
number-outcome found date old (Finish k) other = refl
number-outcome found date old (Drop k) other = refl

outcome-taken : (found : Bool) (date : HttpDate) (old : Reached) (r : Request) (s : Slot) (step : StepValue) → is_ask step ≡ false → slice_get old.slots (number_of step) ≡ Some s → s.item ≡ Asks r → accepts_step s.stage s.owed step ≡ true → (is_done_early step ≡ false → turn_has_come (number_of step) old.slots ≡ true)
    → IsTaken step (outcome found date old step).reply
outcome-taken found date old r s step other at is accepts comes =
    let k = number_of step in
    let turn = turn_has_come k old.slots in
    let N : Outcome → Type 0 = λ o. IsTaken step o.reply in
    let O : Option Slot → Type 0 = λ o. IsTaken step (at_slot found date old k step o).reply in
    let I : Item → Type 0 = λ i. IsTaken step (at_item found date old k step s i).reply in
    let goes : IsTaken step (if (needs_turn r s step && not turn) then unchanged old NotYet else effect found date old r s turn step).reply =
    rw (no-wait r s step turn comes) (effect-taken found date old r s turn step other at) in
    subst N (sym (number-outcome found date old step other)) (subst O (sym at) (subst I (sym is) (rw accepts goes)))

step-taken : (old : State) (date : HttpDate) (r : Request) (s : Slot) (step : StepValue) (reply : ReplyValue) (new : State) (f : ℕ → Account) → AllTold old.reached.slots f → is_ask step ≡ false → is_read step ≡ false → slice_get old.reached.slots (number_of step) ≡ Some s → s.item ≡ Asks r → accepts_step s.stage s.owed step ≡ true
    → (is_done_early step ≡ false → turn_has_come (number_of step) old.reached.slots ≡ true) → StepsTo old date step reply new → IsTaken step reply
step-taken old date r s step reply new f h other read at is accepts comes (inl g) =
    let o = outcome g.0 date old.reached step in
    let t = outcome-tells f g.0 date old.reached step h in
    taken-alike step reply o.reply (planned-alike o old reply new t.may g.2) (outcome-taken g.0 date old.reached r s step other at is accepts comes)
step-taken old date r s step reply new f h other read at is accepts comes (inr m) = by step other read m
  where
    by : (x : StepValue) → is_ask x ≡ false → is_read x ≡ false → FindsNoMemory date old x reply new → IsTaken step reply
    by Ask a b m = never (sym a)
    by (Read k n) a b m = never (sym b)
    by (AsReader k) a b m = elim m [ ]
    by (Respond k response) a b m = elim m [ ]
    by (IntoWriter k) a b m = elim m [ ]
    by (Write k bytes) a b m = elim m [ ]
    by (Flush k) a b m = elim m [ ]
    by (Upgrade k protocol response) a b m = elim m [ ]
    by (Finish k) a b m = elim m [ ]
    by (Drop k) a b m = elim m [ ]

-- where a run stands after its first steps, and what is known there of its numbers
pub record Represents (items : List Item) (steps : List TimedValue) (replies : List ReplyValue) (mid : State) : Type 0 where
  pub found : Found items replies mid
  pub accounts : AllTold mid.reached.slots (λ j. account j steps replies)

pub represents-at : (items : List Item) (steps : List TimedValue) (replies : List ReplyValue) (mid : State) → Run (start_state items) steps replies mid → Represents items steps replies mid
represents-at items steps replies mid run = record { found = run-found items mid steps replies run; accounts = run-accounts (λ j. untouched) (start_state items) mid steps replies none-accounts run }

-- the number of a request that was handed out
pub record HandedSlot (items : List Item) (steps : List TimedValue) (replies : List ReplyValue) (mid : State) (k : ℕ) : Type 0 where
  pub slot : Slot
  pub request : Request
  pub at : slice_get mid.reached.slots k ≡ Some slot
  pub is : slot.item ≡ Asks request
  pub accounts : Told k request slot (account k steps replies)

pub handed-slot : (items : List Item) (steps : List TimedValue) (replies : List ReplyValue) (mid : State) (k : ℕ) → Represents items steps replies mid → IsHanded k (handed replies) → HandedSlot items steps replies mid k
handed-slot items steps replies mid k st known =
    let at = handed-item 0 st.found.reached k (subst (λ l. IsHanded k l) st.found.handed known) in
    let place = at.2 in
    let here : k ≡ at.0 = omega (arith, place) in
    let there : slice_get st.found.reached k ≡ Some (Asks at.1) = ap (λ n. slice_get st.found.reached n) here ∙ at.3 in
    let slot = matches-slot mid.reached.slots st.found.reached k (Asks at.1) st.found.matches there in
    let q = one-head-asks slot.0.item at.1 slot.2 in
    let S : Item → Type 0 = λ i. IsTold k slot.0 i (account k steps replies) in
    record { slot = slot.0; request = q.0; at = slot.1; is = q.1; accounts = subst S q.1 (st.accounts.here k slot.0 slot.1) }

-- each number of a request was handed out
pub slot-handed : (items : List Item) (steps : List TimedValue) (replies : List ReplyValue) (mid : State) (k : ℕ) (s : Slot) (r : Request) → Represents items steps replies mid → slice_get mid.reached.slots k ≡ Some s → s.item ≡ Asks r → IsHanded k (handed replies)
slot-handed items steps replies mid k s r st at is =
    let g = matches-get mid.reached.slots st.found.reached [] k s st.found.matches at in
    let W : Item → Type 0 = λ i. AreOfOneHead i g.0 in
    let asks = asks-one-head r g.0 (subst W is g.2) in
    let there : slice_get st.found.reached k ≡ Some (Asks asks.0) = ap (λ l. slice_get l k) (sym (append-nil st.found.reached)) ∙ g.1 ∙ ap (λ (i : Item). Some i) asks.1 in
    let same : 0 + k ≡ k = omega arith in
    subst (λ l. IsHanded k l) (sym st.found.handed) (subst (λ n. IsHanded n (requests_from 0 st.found.reached)) same (item-handed 0 st.found.reached k asks.0 there))

pub handed-reached : (p : Profile) (feed : Feed) (before after : Sink) (steps : List TimedValue) (replies : List ReplyValue) (held : List ℕ) (ended : Bool) (unread : Option Feed) (c : IsConversation p feed before steps replies after held ended unread) (k : ℕ) → IsHanded k (handed replies)
    → (s : Slot) × (slice_get c.end.reached.slots k ≡ Some s)
handed-reached p feed before after steps replies held ended unread c k known =
    let h = handed-slot c.items steps replies c.end k (represents-at c.items steps replies c.end c.run) known in
    (h.slot, h.at)

pub step-done : (p : Profile) (feed : Feed) (before after : Sink) (steps later : List TimedValue) (replies more : List ReplyValue) (held : List ℕ) (ended : Bool) (unread : Option Feed) (date : HttpDate) (step : StepValue) (reply : ReplyValue)
    → (c : IsConversation p feed before (steps ++ (date, step) ∷ later) (replies ++ reply ∷ more) after held ended unread) → length replies ≡ length steps → IsHanded (number_of step) (handed replies) → takes (account (number_of step) steps replies).condition step ≡ true
    → (is_done_early step ≡ false → (j : ℕ) → j < number_of step → IsThrough (slice_get c.items j) (account j steps replies)) → IsTaken step reply
step-done p feed before after steps later replies more held ended unread date step reply c count known can through = by step refl
  where
    k : ℕ
    k = number_of step

    parts : Parts (start_state c.items) steps ((date, step) ∷ later) replies (reply ∷ more) c.end
    parts = run-parts (start_state c.items) c.end steps ((date, step) ∷ later) replies (reply ∷ more) count c.run

    st : Represents c.items steps replies parts.mid
    st = represents-at c.items steps replies parts.mid parts.first

    h : HandedSlot c.items steps replies parts.mid k
    h = handed-slot c.items steps replies parts.mid k st known

    turn : is_done_early step ≡ false → turn_has_come k parts.mid.reached.slots ≡ true
    turn late = turn-of parts.mid.reached.slots k (λ j s low e.
        let m = matches-get parts.mid.reached.slots st.found.reached parts.mid.reached.rest j s st.found.matches e in
        let T : Option Item → Type 0 = λ o. IsThrough o (account j steps replies) in
        through-finished j s s.item m.0 (account j steps replies) refl m.2 (st.accounts.here j s e) (subst T (ap (λ l. slice_get l j) st.found.splits ∙ m.1) (through late j low)))

    goes : is_ask step ≡ false → is_read step ≡ false → IsTaken step reply
    goes other read =
        let accepts = stage-accepts h.slot.stage h.slot.owed step read (ap (λ x. takes x step) h.accounts.condition ∙ can) in
        step-taken parts.mid date h.request h.slot step reply parts.second.0 (λ j. account j steps replies) st.accounts other read h.at h.is accepts turn parts.second.1

    by : (x : StepValue) → step ≡ x → IsTaken step reply
    by Ask e = never (sym (ask-takes (account k steps replies).condition) ∙ sym (ap (λ y. takes (account k steps replies).condition y) e) ∙ can)
    by (Read j n) e = subst (λ y. IsTaken y reply) (sym e) tt
    by (AsReader j) e = goes (ap is_ask e) (ap is_read e)
    by (Respond j response) e = goes (ap is_ask e) (ap is_read e)
    by (IntoWriter j) e = goes (ap is_ask e) (ap is_read e)
    by (Write j bytes) e = goes (ap is_ask e) (ap is_read e)
    by (Flush j) e = goes (ap is_ask e) (ap is_read e)
    by (Upgrade j protocol response) e = goes (ap is_ask e) (ap is_read e)
    by (Finish j) e = goes (ap is_ask e) (ap is_read e)
    by (Drop j) e = goes (ap is_ask e) (ap is_read e)

-- ---- a step that a request takes is answered

-- it waits, or it is taken
outcome-waits : (found : Bool) (date : HttpDate) (old : Reached) (r : Request) (s : Slot) (step : StepValue) → is_ask step ≡ false → slice_get old.slots (number_of step) ≡ Some s → s.item ≡ Asks r → accepts_step s.stage s.owed step ≡ true
    → (outcome found date old step ≡ unchanged old NotYet) ⊎ IsTaken step (outcome found date old step).reply
outcome-waits found date old r s step other at is accepts = by (needs_turn r s step && not turn) refl
  where
    k : ℕ
    k = number_of step

    turn : Bool
    turn = turn_has_come k old.slots

    here : outcome found date old step ≡ (if (needs_turn r s step && not turn) then unchanged old NotYet else effect found date old r s turn step)
    here = number-outcome found date old step other ∙ ap (at_slot found date old k step) at ∙ ap (at_item found date old k step s) is ∙ rw accepts refl

    by : (b : Bool) → (needs_turn r s step && not turn) ≡ b → (outcome found date old step ≡ unchanged old NotYet) ⊎ IsTaken step (outcome found date old step).reply
    by true e = inl (here ∙ rw e refl)
    by false e =
        let N : Outcome → Type 0 = λ o. IsTaken step o.reply in
        let goes : outcome found date old step ≡ effect found date old r s turn step = here ∙ rw e refl in
        inr (subst N (sym goes) (effect-taken found date old r s turn step other at))

done-some : (reply : ReplyValue) → (is_done reply || is_refused reply) ≡ true → reply ≡ NoSuch → ⊥
done-some reply h none = let P : ReplyValue → Type 0 = λ y. (is_done y || is_refused y) ≡ true in never (subst P none h)

taken-some : (step : StepValue) (reply : ReplyValue) → is_read step ≡ false → IsTaken step reply → reply ≡ NoSuch → ⊥
taken-some Ask reply read h none = done-some reply h none
taken-some (AsReader k) reply read h none = done-some reply h none
taken-some (Read k n) reply read h none = never (sym read)
taken-some (Respond k response) reply read h none = done-some reply h none
taken-some (IntoWriter k) reply read h none = done-some reply h none
taken-some (Write k bytes) reply read h none = done-some reply h none
taken-some (Flush k) reply read h none = done-some reply h none
taken-some (Upgrade k protocol response) reply read h none = done-some reply h none
taken-some (Finish k) reply read h none = done-some reply h none
taken-some (Drop k) reply read h none = done-some reply h none

waits-some : (reply : ReplyValue) → reply ≡ NotYet → reply ≡ NoSuch → ⊥
waits-some reply waits none = let no : NotYet ≡ NoSuch = sym waits ∙ none in cc

step-answered : (old : State) (date : HttpDate) (r : Request) (s : Slot) (step : StepValue) (reply : ReplyValue) (new : State) (f : ℕ → Account) → AllTold old.reached.slots f → is_ask step ≡ false → is_read step ≡ false → slice_get old.reached.slots (number_of step) ≡ Some s → s.item ≡ Asks r → accepts_step s.stage s.owed step ≡ true
    → StepsTo old date step reply new → reply ≡ NoSuch → ⊥
step-answered old date r s step reply new f h other read at is accepts (inl g) =
    let o = outcome g.0 date old.reached step in
    let t = outcome-tells f g.0 date old.reached step h in
    ⊎_elim
    (λ waits.
    let H : Outcome → Type 0 = λ o. HasOutcome o old reply new in
    let has = subst H waits g.2 in
    waits-some reply (own-planned (unchanged old.reached NotYet) old reply new tt has))
    (λ taken. taken-some step reply read (taken-alike step reply o.reply (planned-alike o old reply new t.may g.2) taken))
    (outcome-waits g.0 date old.reached r s step other at is accepts)
step-answered old date r s step reply new f h other read at is accepts (inr m) = by step other read m
  where
    by : (x : StepValue) → is_ask x ≡ false → is_read x ≡ false → FindsNoMemory date old x reply new → reply ≡ NoSuch → ⊥
    by Ask a b m = never (sym a)
    by (Read k n) a b m = never (sym b)
    by (AsReader k) a b m = elim m [ ]
    by (Respond k response) a b m = elim m [ ]
    by (IntoWriter k) a b m = elim m [ ]
    by (Write k bytes) a b m = elim m [ ]
    by (Flush k) a b m = elim m [ ]
    by (Upgrade k protocol response) a b m = elim m [ ]
    by (Finish k) a b m = elim m [ ]
    by (Drop k) a b m = elim m [ ]

pub step-known : (p : Profile) (feed : Feed) (before after : Sink) (steps later : List TimedValue) (replies more : List ReplyValue) (held : List ℕ) (ended : Bool) (unread : Option Feed) (date : HttpDate) (step : StepValue) (reply : ReplyValue)
    → IsConversation p feed before (steps ++ (date, step) ∷ later) (replies ++ reply ∷ more) after held ended unread → length replies ≡ length steps → is_ask step ≡ false → is_read step ≡ false
    → IsHanded (number_of step) (handed replies) → takes (account (number_of step) steps replies).condition step ≡ true → reply ≡ NoSuch → ⊥
step-known p feed before after steps later replies more held ended unread date step reply c count other read known can =
    let parts = run-parts (start_state c.items) c.end steps ((date, step) ∷ later) replies (reply ∷ more) count c.run in
    let st = represents-at c.items steps replies parts.mid parts.first in
    let h = handed-slot c.items steps replies parts.mid (number_of step) st known in
    let accepts = stage-accepts h.slot.stage h.slot.owed step read (ap (λ x. takes x step) h.accounts.condition ∙ can) in
    step-answered parts.mid date h.request h.slot step reply parts.second.0 (λ j. account j steps replies) st.accounts other read h.at h.is accepts parts.second.1

-- ---- a step that finds no number

-- a step of a number finds none, or a request that takes it
abbrev FindsNumber : Bool → HttpDate → Reached → StepValue → Type 0
FindsNumber found date old step =
    (at_number found date old (number_of step) step ≡ unchanged old NoSuch)
    ⊎ ((s : Slot) × (r : Request) × (slice_get old.slots (number_of step) ≡ Some s) × (s.item ≡ Asks r) × (accepts_step s.stage s.owed step ≡ true))

finds-number : (found : Bool) (date : HttpDate) (old : Reached) (step : StepValue) → FindsNumber found date old step
finds-number found date old step = go (slice_get old.slots (number_of step)) refl
  where
    k : ℕ
    k = number_of step

    takes-it : (s : Slot) (r : Request) → slice_get old.slots k ≡ Some s → s.item ≡ Asks r → (b : Bool) → accepts_step s.stage s.owed step ≡ b → FindsNumber found date old step
    takes-it s r at is true e = inr (s, r, at, is, e)
    takes-it s r at is false e =
        let here : at_number found date old k step ≡ at_item found date old k step s (Asks r) = ap (at_slot found date old k step) at ∙ ap (at_item found date old k step s) is in
        inl (here ∙ rw e refl)

    item : (s : Slot) (i : Item) → slice_get old.slots k ≡ Some s → s.item ≡ i → FindsNumber found date old step
    item s (Refuses refusal manner no_body last) at is = inl (ap (at_slot found date old k step) at ∙ ap (at_item found date old k step s) is)
    item s (Asks r) at is = takes-it s r at is (accepts_step s.stage s.owed step) refl

    go : (o : Option Slot) → slice_get old.slots k ≡ o → FindsNumber found date old step
    go None e = inl (ap (at_slot found date old k step) e)
    go (Some s) e = item s s.item e refl

-- a step that isn't answered `NoSuch` found a request that takes it
pub step-finds : (old : State) (date : HttpDate) (step : StepValue) (reply : ReplyValue) (new : State) → is_ask step ≡ false → (reply ≡ NoSuch → ⊥) → StepsTo old date step reply new
    → (s : Slot) × (r : Request) × (slice_get old.reached.slots (number_of step) ≡ Some s) × (s.item ≡ Asks r) × (accepts_step s.stage s.owed step ≡ true)
step-finds old date step reply new other some (inl g) =
    ⊎_elim
    (λ none.
    let H : Outcome → Type 0 = λ o. HasOutcome o old reply new in
    let has = subst H (number-outcome g.0 date old.reached step other ∙ none) g.2 in
    absurd (some (own-planned (unchanged old.reached NoSuch) old reply new tt has)))
    (λ found. found)
    (finds-number g.0 date old.reached step)
step-finds old date Ask reply new other some (inr m) = never (sym other)
step-finds old date (Read k n) reply new other some (inr m) =
    ⊎_elim (λ none. absurd (m.1 (ap (λ (o : Outcome). o.reply) none))) (λ found. found) (finds-number true date old.reached (Read k n))
step-finds old date (AsReader k) reply new other some (inr m) = elim m [ ]
step-finds old date (Respond k response) reply new other some (inr m) = elim m [ ]
step-finds old date (IntoWriter k) reply new other some (inr m) = elim m [ ]
step-finds old date (Write k bytes) reply new other some (inr m) = elim m [ ]
step-finds old date (Flush k) reply new other some (inr m) = elim m [ ]
step-finds old date (Upgrade k protocol response) reply new other some (inr m) = elim m [ ]
step-finds old date (Finish k) reply new other some (inr m) = elim m [ ]
step-finds old date (Drop k) reply new other some (inr m) = elim m [ ]

pub step-found : (p : Profile) (feed : Feed) (before after : Sink) (steps later : List TimedValue) (replies more : List ReplyValue) (held : List ℕ) (ended : Bool) (unread : Option Feed) (date : HttpDate) (step : StepValue) (reply : ReplyValue)
    → IsConversation p feed before (steps ++ (date, step) ∷ later) (replies ++ reply ∷ more) after held ended unread → length replies ≡ length steps → is_ask step ≡ false → (reply ≡ NoSuch → ⊥)
    → IsHanded (number_of step) (handed replies) × (takes (account (number_of step) steps replies).condition step ≡ true)
step-found p feed before after steps later replies more held ended unread date step reply c count other some =
    let parts = run-parts (start_state c.items) c.end steps ((date, step) ∷ later) replies (reply ∷ more) count c.run in
    let st = represents-at c.items steps replies parts.mid parts.first in
    let f = step-finds parts.mid date step reply parts.second.0 other some parts.second.1 in
    let k = number_of step in
    let I : Item → Type 0 = λ i. IsTold k f.0 i (account k steps replies) in
    let mine : Told k f.1 f.0 (account k steps replies) = subst I f.3 (st.accounts.here k f.0 f.2) in
    (slot-handed c.items steps replies parts.mid k f.0 f.1 st f.2 f.3, ap (λ x. takes x step) (sym mine.condition) ∙ accepts-takes f.0.stage f.0.owed step other f.4)
