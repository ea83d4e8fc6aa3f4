-- A step that waits for its turn is done only then, and an Ask waits for a request that isn't finished.
use Rattle.std.proofs.Common.{◌≡◌, refl, sym, ap, ◌∙◌, subst, arith, ℕ, zero, suc, ◌+◌, ◌<◌, ◌≤◌, ◌⊎◌, inl, inr, Bool, true, false, not, ◌&&◌, List, [], ◌∷◌, ◌++◌, length, Option, Some, None}
use Rattle.std.specs.Prelude.{if◌then◌else◌, slice_get, take, ◌||◌}
use Rattle.std.specs.List.{last_or, list_all}
use Rattle.std.proofs.Math.Bool.{or-true}
use Rattle.httpdate.specs.declared.date.HttpDate.{HttpDate}
use Rattle.tiny_http_io.specs.Device.{Feed, Sink}
use Rattle.tiny_http_body.specs.declared.framing.Profile.{Profile}
use Rattle.tiny_http_open_request.specs.Pipeline.{Item, Asks, Refuses, Request}
use Rattle.tiny_http_response.specs.ResponseValue.{ResponseValue}
use Rattle.tiny_http_connection.specs.Segments.{Slot, Stage, Unanswered, Answered, ByServer, Raw, Upgraded, is_finished, is_stage_finished, is_last_item}
use Rattle.tiny_http_connection.specs.Slots.{turn_has_come, refuses_response, last_slot, last_holds_reader, last_was_abandoned, body_is_open, is_holding, is_form_streamed, is_body_finished, is_unanswered, holds_next_head, refuses_upgrade}
use Rattle.tiny_http_connection.specs.Steps.{StepValue, Ask, AsReader, Read, Respond, IntoWriter, Write, Flush, Upgrade, Finish, Drop, ReplyValue, Ended, NotYet, NoSuch, Memory, TimedValue, number_of, is_done}
use Rattle.tiny_http_connection.specs.Outcomes.{WriterUse, Unused, Unreported, Outcome, Reached, unchanged, asks_from, ask, accepts_step, needs_turn, effect, at_item, at_slot, outcome}
use Rattle.tiny_http_connection.specs.Conversation.{State, writes_nothing, answers_to, StepsTo, start_state, IsConversation}
use Rattle.tiny_http_connection_laws.specs.InShort.{handed, AreOfOneHead}
use Rattle.std.proofs.lemmas.Option.{slice_get_within}
use Rattle.tiny_http_connection_laws.specs.Accounts.{Finished, Account, account, condition_of, waits_its_turn, is_ask, IsThrough, IsHanded}
use Rattle.tiny_http_connection_laws.proofs.InShortReads.{same-some}
use Rattle.tiny_http_connection_laws.proofs.InShortSlots.{matches-get}
use Rattle.tiny_http_connection_laws.proofs.StepsAdd.{accounts}
use Rattle.tiny_http_connection_laws.proofs.AccountsHold.{Told, IsTold, AllTold, Alike, IsOwn, is_given_up, own-answers, planned-alike, outcome-tells}
use Rattle.tiny_http_connection_laws.proofs.AccountsTurns.{Parts, run-parts, if-finished, never, own-part, own-planned, and-none, Represents, represents-at, handed-slot, slot-handed, step-finds}

-- ---- a step that is done in its turn alone

both-true : (a b : Bool) → (a && b) ≡ true → (a ≡ true) × (b ≡ true)
both-true true b e = (refl, e)
both-true false b e = never e

-- an outcome of which a step that comes too early isn't done
pick-undone : (old : Reached) (a b : Bool) (x : Outcome) → (b ≡ true) ⊎ (is_done x.reply ≡ false) → is_done (if a then unchanged old NoSuch else if (b && true) then unchanged old NotYet else x).reply ≡ false
pick-undone old true b x h = refl
pick-undone old false true x h = refl
pick-undone old false false x (inl e) = never e
pick-undone old false false x (inr e) = e

-- it waits, or it isn't done anyway
abbrev WaitsOrNot : Bool → HttpDate → Reached → StepValue → Type 0
WaitsOrNot found date old step = (r : Request) (s : Slot) → (needs_turn r s step ≡ true) ⊎ (is_done (effect found date old r s false step).reply ≡ false)

undone-at : (found : Bool) (date : HttpDate) (old : Reached) (k : ℕ) (step : StepValue) (o : Option Slot) → WaitsOrNot found date old step → turn_has_come k old.slots ≡ false → is_done (at_slot found date old k step o).reply ≡ false
undone-at found date old k step None h e = refl
undone-at found date old k step (Some s) h e = by s.item
  where
    by : (i : Item) → is_done (at_item found date old k step s i).reply ≡ false
    by (Refuses refusal manner no_body last) = refl
    by (Asks r) = rw e (pick-undone old (not (accepts_step s.stage s.owed step)) (needs_turn r s step) (effect found date old r s false step) (h r s))

respond-waits : (found : Bool) (date : HttpDate) (old : Reached) (k : ℕ) (response : ResponseValue) → WaitsOrNot found date old (Respond k response)
respond-waits found date old k response r s = by (refuses_response r response) refl
  where
    by : (b : Bool) → refuses_response r response ≡ b → (not (refuses_response r response) ≡ true) ⊎ (is_done (effect found date old r s false (Respond k response)).reply ≡ false)
    by false e = inl (ap not e)
    by true e = inr (rw e refl)

upgrade-waits : (found : Bool) (date : HttpDate) (old : Reached) (k : ℕ) (protocol : List ℕ) (response : ResponseValue) → WaitsOrNot found date old (Upgrade k protocol response)
upgrade-waits found date old k protocol response r s = by (refuses_upgrade r s protocol response) refl
  where
    by : (b : Bool) → refuses_upgrade r s protocol response ≡ b → (not (refuses_upgrade r s protocol response) ≡ true) ⊎ (is_done (effect found date old r s false (Upgrade k protocol response)).reply ≡ false)
    by false e = inl (ap not e)
    by true e = inr (rw e refl)

early-undone : (found : Bool) (date : HttpDate) (old : Reached) (step : StepValue) → waits_its_turn step ≡ true → turn_has_come (number_of step) old.slots ≡ false → is_done (outcome found date old step).reply ≡ false
early-undone found date old Ask w e = never w
early-undone found date old (AsReader k) w e = never w
early-undone found date old (Read k n) w e = never w
early-undone found date old (Respond k response) w e = undone-at found date old k (Respond k response) (slice_get old.slots k) (respond-waits found date old k response) e
early-undone found date old (IntoWriter k) w e = never w
early-undone found date old (Write k bytes) w e = undone-at found date old k (Write k bytes) (slice_get old.slots k) (λ r s. inl refl) e
early-undone found date old (Flush k) w e = undone-at found date old k (Flush k) (slice_get old.slots k) (λ r s. inl refl) e
early-undone found date old (Upgrade k protocol response) w e = undone-at found date old k (Upgrade k protocol response) (slice_get old.slots k) (upgrade-waits found date old k protocol response) e
early-undone found date old (Finish k) w e = never w
early-undone found date old (Drop k) w e = never w

step-in_turn : (old : State) (date : HttpDate) (step : StepValue) (reply : ReplyValue) (new : State) (f : ℕ → Account) → AllTold old.reached.slots f → waits_its_turn step ≡ true → is_done reply ≡ true → StepsTo old date step reply new → turn_has_come (number_of step) old.reached.slots ≡ true
step-in_turn old date step reply new f h waits done (inl g) = by (turn_has_come (number_of step) old.reached.slots) refl
  where
    alike : Alike reply (outcome g.0 date old.reached step).reply
    alike = planned-alike (outcome g.0 date old.reached step) old reply new (outcome-tells f g.0 date old.reached step h).may g.2

    by : (b : Bool) → turn_has_come (number_of step) old.reached.slots ≡ b → turn_has_come (number_of step) old.reached.slots ≡ true
    by true e = e
    by false e = never (sym (early-undone g.0 date old.reached step waits e) ∙ sym alike.done ∙ done)
step-in_turn old date Ask reply new f h waits done (inr m) = never waits
step-in_turn old date (Read k n) reply new f h waits done (inr m) = never waits
step-in_turn old date (AsReader k) reply new f h waits done (inr m) = elim m [ ]
step-in_turn old date (Respond k response) reply new f h waits done (inr m) = elim m [ ]
step-in_turn old date (IntoWriter k) reply new f h waits done (inr m) = elim m [ ]
step-in_turn old date (Write k bytes) reply new f h waits done (inr m) = elim m [ ]
step-in_turn old date (Flush k) reply new f h waits done (inr m) = elim m [ ]
step-in_turn old date (Upgrade k protocol response) reply new f h waits done (inr m) = elim m [ ]
step-in_turn old date (Finish k) reply new f h waits done (inr m) = elim m [ ]
step-in_turn old date (Drop k) reply new f h waits done (inr m) = elim m [ ]

-- a number in front of one whose turn has come is finished
turn-slot : (slots : List Slot) (k j : ℕ) (s : Slot) → turn_has_come k slots ≡ true → j < k → slice_get slots j ≡ Some s → is_finished s ≡ true
turn-slot slots zero j s t low e = absurd (omega (arith, low))
turn-slot [] (suc k) j s t low e = cc
turn-slot (x ∷ xs) (suc k) zero s t low e =
    let is : x ≡ s = same-some x s e in
    subst (λ (y : Slot). is_finished y ≡ true) is (both-true (is_finished x) (list_all is_finished (take k xs)) t).0
turn-slot (x ∷ xs) (suc k) (suc j) s t low e = turn-slot xs k j s (both-true (is_finished x) (list_all is_finished (take k xs)) t).1 (omega (arith, low)) e

at-within : (slots : List Slot) (j : ℕ) → j < length slots → (s : Slot) × (slice_get slots j ≡ Some s)
at-within [] j low = absurd (omega (arith, low))
at-within (s ∷ slots) zero low = (s, refl)
at-within (s ∷ slots) (suc j) low = at-within slots j (omega (arith, low))

finished-condition : (stage : Stage) → is_stage_finished stage ≡ true → condition_of stage ≡ Finished
finished-condition Unanswered e = never e
finished-condition (Answered response date found) e = refl
finished-condition ByServer e = refl
finished-condition (Raw written closed) e = rw e refl
finished-condition (Upgraded protocol response date written closed) e = rw e refl

finished-through : (k : ℕ) (s : Slot) (at item : Item) (a : Account) → AreOfOneHead at item → IsTold k s at a → is_finished s ≡ true → IsThrough (Some item) a
finished-through k s (Asks q) (Asks r) a one h done = sym h.condition ∙ finished-condition s.stage done
finished-through k s at (Refuses refusal manner no_body last) a one h done = tt
finished-through k s (Refuses refusal manner no_body last) (Asks r) a one h done = cc

pub done-in_turn : (p : Profile) (feed : Feed) (before after : Sink) (steps later : List TimedValue) (replies more : List ReplyValue) (held : List ℕ) (ended : Bool) (unread : Option Feed) (date : HttpDate) (step : StepValue) (reply : ReplyValue)
    → (c : IsConversation p feed before (steps ++ (date, step) ∷ later) (replies ++ reply ∷ more) after held ended unread) → length replies ≡ length steps → waits_its_turn step ≡ true → is_done reply ≡ true
    → (j : ℕ) → j < number_of step → IsThrough (slice_get c.items j) (account j steps replies)
done-in_turn p feed before after steps later replies more held ended unread date step reply c count waits done j low =
    let parts = run-parts (start_state c.items) c.end steps ((date, step) ∷ later) replies (reply ∷ more) count c.run in
    let st = represents-at c.items steps replies parts.mid parts.first in
    let slots = parts.mid.reached.slots in
    let turn = step-in_turn parts.mid date step reply parts.second.0 (λ i. account i steps replies) st.accounts waits done parts.second.1 in
    let f = step-finds parts.mid date step reply parts.second.0 (waits-other step waits) (λ e. never (sym (ap is_done e) ∙ done)) parts.second.1 in
    let within = slice_get_within slots (number_of step) f.0 f.2 in
    let x = at-within slots j (omega (arith, low, within)) in
    let m = matches-get slots st.found.reached parts.mid.reached.rest j x.0 st.found.matches x.1 in
    let T : Option Item → Type 0 = λ o. IsThrough o (account j steps replies) in
    subst T (sym (ap (λ l. slice_get l j) st.found.splits ∙ m.1)) (finished-through j x.0 x.0.item m.0 (account j steps replies) m.2 (st.accounts.here j x.0 x.1) (turn-slot slots (number_of step) j x.0 turn low x.1))
  where
    waits-other : (x : StepValue) → waits_its_turn x ≡ true → is_ask x ≡ false
    waits-other Ask w = never w
    waits-other (AsReader k) w = refl
    waits-other (Read k n) w = refl
    waits-other (Respond k response) w = refl
    waits-other (IntoWriter k) w = refl
    waits-other (Write k bytes) w = refl
    waits-other (Flush k) w = refl
    waits-other (Upgrade k protocol response) w = refl
    waits-other (Finish k) w = refl
    waits-other (Drop k) w = refl

-- ---- an Ask that has to wait

-- an Ask that reads heads doesn't wait
pub record Goes (o : Outcome) : Type 0 where
  pub own : IsOwn o.writer
  pub reply : o.reply ≡ NotYet → ⊥

own-if : (b : Bool) (w : WriterUse) → IsOwn w → IsOwn (if b then Unreported else w)
own-if true w o = tt
own-if false w o = o

asks-go : (date : HttpDate) (w : WriterUse) (slots : List Slot) (items : List Item) → IsOwn w → Goes (asks_from date w slots items)
asks-go date w slots [] o = record { own = o; reply = λ e. cc }
asks-go date w slots (Asks r ∷ items) o = record { own = o; reply = λ e. cc }
asks-go date w slots (Refuses refusal manner no_body last ∷ items) o = asks-go date _ _ items (own-if (turn_has_come (length slots) slots) w o)

ask-waits : (date : HttpDate) (old : Reached) → IsOwn (ask date old).writer × ((ask date old).reply ≡ NotYet → last_holds_reader (last_slot old.slots) ≡ true)
ask-waits date old = by old.asking_ended (last_holds_reader (last_slot old.slots)) refl (last_was_abandoned (last_slot old.slots))
  where
    left : Outcome
    left = record { reply = Ended; slots = old.slots; rest = old.rest; asking_ended = true; writer = Unused }

    goes : Outcome
    goes = asks_from date Unused old.slots old.rest

    by : (a b : Bool) → last_holds_reader (last_slot old.slots) ≡ b → (c : Bool)
        → IsOwn (if a then unchanged old Ended else if b then unchanged old NotYet else if c then left else goes).writer
        × ((if a then unchanged old Ended else if b then unchanged old NotYet else if c then left else goes).reply ≡ NotYet → last_holds_reader (last_slot old.slots) ≡ true)
    by true b e c = (tt, λ n. cc)
    by false true e c = (tt, λ n. e)
    by false false e true = (tt, λ n. cc)
    by false false e false = let g = asks-go date Unused old.slots old.rest tt in (g.own, λ n. absurd (g.reply n))

step-waits : (old : State) (date : HttpDate) (new : State) → StepsTo old date Ask NotYet new → last_holds_reader (last_slot old.reached.slots) ≡ true
step-waits old date new (inl g) =
    let a = ask-waits date old.reached in
    a.1 (sym (own-planned (ask date old.reached) old NotYet new a.0 g.2))
step-waits old date new (inr m) =
    let slots = m.4 in
    let same : NotYet ≡ Memory = own-part (answers_to old.reached.slots slots) old Memory NotYet _ new.failure (writes_nothing (answers_to old.reached.slots slots) old) m.8.2 (own-answers old.reached.slots slots) in
    cc

-- the last of the numbers
last-at : (slots : List Slot) (first s : Slot) → last_or (Some first) slots ≡ Some s → (k : ℕ) × (slice_get (first ∷ slots) k ≡ Some s) × (k ≡ length slots)
last-at [] first s e = (0, e, refl)
last-at (x ∷ slots) first s e = let l = last-at slots x s e in (suc l.0, l.1, ap suc l.2)

pub last-number : (slots : List Slot) (s : Slot) → last_slot slots ≡ Some s → (k : ℕ) × (slice_get slots k ≡ Some s) × (suc k ≡ length slots)
last-number [] s e = cc
last-number (x ∷ slots) s e = let l = last-at slots x s e in (l.0, l.1, ap suc l.2)

finished-given : (stage : Stage) → condition_of stage ≡ Finished → (is_given_up stage ≡ true) × (is_unanswered stage ≡ false)
finished-given Unanswered e = cc
finished-given (Answered response date found) e = (refl, refl)
finished-given ByServer e = (refl, refl)
finished-given (Raw written closed) e = (refl, refl)
finished-given (Upgraded protocol response date written closed) e = (if-finished closed e, refl)

-- a number that holds the reader isn't finished
holds-unfinished : (k : ℕ) (r : Request) (s : Slot) (a : Account) → Told k r s a → ((not r.framing.is_last && body_is_open s (Asks r)) || is_holding s (Asks r)) ≡ true → a.condition ≡ Finished → ⊥
holds-unfinished k r s a h holds done =
    let g = finished-given s.stage (h.condition ∙ done) in
    let given : s.given_up ≡ true = h.given_up ∙ g.0 in
    let shut : body_is_open s (Asks r) ≡ false = rw (given, or-true (is_body_finished r s)) (and-none (is_form_streamed r.framing.form)) in
    let idle : is_holding s (Asks r) ≡ false = rw g.1 (and-none (holds_next_head r)) in
    let no : false ≡ true = sym (rw (shut, idle, and-none (not r.framing.is_last)) refl) ∙ holds in
    cc

-- which request an Ask waits for: the last that was handed out
abbrev WaitsFor : List TimedValue → List ReplyValue → Type 0
WaitsFor steps replies = (k : ℕ) × IsHanded k (handed replies) × ((j : ℕ) → IsHanded j (handed replies) → j ≤ k) × ((account k steps replies).condition ≡ Finished → ⊥)

pub ask-waits-for : (p : Profile) (feed : Feed) (before after : Sink) (steps later : List TimedValue) (replies more : List ReplyValue) (held : List ℕ) (ended : Bool) (unread : Option Feed) (date : HttpDate)
    → IsConversation p feed before (steps ++ (date, Ask) ∷ later) (replies ++ NotYet ∷ more) after held ended unread → length replies ≡ length steps → WaitsFor steps replies
ask-waits-for p feed before after steps later replies more held ended unread date c count = by (last_slot parts.mid.reached.slots) refl (step-waits parts.mid date parts.second.0 parts.second.1)
  where
    parts : Parts (start_state c.items) steps ((date, Ask) ∷ later) replies (NotYet ∷ more) c.end
    parts = run-parts (start_state c.items) c.end steps ((date, Ask) ∷ later) replies (NotYet ∷ more) count c.run

    st : Represents c.items steps replies parts.mid
    st = represents-at c.items steps replies parts.mid parts.first

    no-later : (k : ℕ) → suc k ≡ length parts.mid.reached.slots → (j : ℕ) → IsHanded j (handed replies) → j ≤ k
    no-later k last j known =
        let h = handed-slot c.items steps replies parts.mid j st known in
        let within = slice_get_within parts.mid.reached.slots j h.slot h.at in
        omega (arith, last, within)

    at : (s : Slot) (item : Item) (k : ℕ) → slice_get parts.mid.reached.slots k ≡ Some s → suc k ≡ length parts.mid.reached.slots → s.item ≡ item → IsTold k s item (account k steps replies) → ((not (is_last_item item) && body_is_open s item) || is_holding s item) ≡ true → WaitsFor steps replies
    at s (Refuses refusal manner no_body last) k e end is h holds = let no : false ≡ true = sym (rw (and-none (not last)) refl) ∙ holds in cc
    at s (Asks r) k e end is h holds =
        (k, slot-handed c.items steps replies parts.mid k s r st e is, no-later k end, λ done. holds-unfinished k r s (account k steps replies) h holds done)

    by : (o : Option Slot) → last_slot parts.mid.reached.slots ≡ o → last_holds_reader (last_slot parts.mid.reached.slots) ≡ true → WaitsFor steps replies
    by None e holds = let no : false ≡ true = ap last_holds_reader (sym e) ∙ holds in cc
    by (Some s) e holds =
        let n = last-number parts.mid.reached.slots s e in
        at s s.item n.0 n.1 n.2 refl (st.accounts.here n.0 s n.1) (ap last_holds_reader (sym e) ∙ holds)
