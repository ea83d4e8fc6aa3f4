-- Each step keeps that no number follows one whose answer says by the standard that the connection ends.
use Rattle.std.proofs.Common.{◌≡◌, refl, sym, ap, ◌∙◌, subst, ℕ, ◌+◌, ◌≤◌, ◌⊎◌, inl, inr, ⊎_elim, Bool, true, false, not, ◌&&◌, ◌||◌, List, [], ◌∷◌, ◌++◌, map, take, length, Option, Some, None, arith, append-nil, append_assoc}
use Rattle.std.specs.Prelude.{if◌then◌else◌, slice_get, slice_set, nat_lt, ◌==◌, ⊤, is_err, Result, Ok, Err}
use Rattle.std.specs.List.{AllByRecursion, list_all}
use Rattle.std.proofs.Math.Bool.{or-false}
use Rattle.std.proofs.lemmas.Bool.{and_parts, eqb-true}
use Rattle.httpdate.specs.declared.date.HttpDate.{HttpDate}
use Rattle.tiny_http_text.specs.Bytes.{is_ascii}
use Rattle.tiny_http_io.specs.Device.{Feed, Sink}
use Rattle.tiny_http_body.specs.declared.framing.Form.{Form}
use Rattle.tiny_http_body.specs.declared.framing.Form.TheVariants as form
use Rattle.tiny_http_body.specs.declared.framing.Profile.TheVariants.{Standard}
use Rattle.tiny_http_open_request.specs.declared.upgrading.UpgradeError.{UpgradeError}
use Rattle.tiny_http_open_request.specs.declared.upgrading.UpgradeError.TheVariants.{Protocol, NotAsked, Status, UnfinishedBody}
use Rattle.tiny_http_body.specs.Body.{body_finished}
use Rattle.tiny_http_open_request.specs.Pipeline.{Item, Asks, Refuses, Request, body_length_or_0}
use Rattle.tiny_http_response.specs.ResponseValue.{ResponseValue}
use Rattle.tiny_http_connection.specs.Segments.{Slot, Stage, Unanswered, Answered, ByServer, Raw, Upgraded, is_last_item}
use Rattle.tiny_http_connection.specs.Slots.{turn_has_come, is_unanswered, is_end, is_form_streamed, is_chunked_form, is_counted, body_is_open, body_was_abandoned, ends_when_finished, closes_now, holds_next_head, asks_protocol, is_body_whole, refuses_response, refuses_upgrade, as_stream, upgraded_slot, rest_of, new_slot, last_slot, is_holding, last_holds_reader, last_was_abandoned}
use Rattle.tiny_http_connection.specs.Steps.{StepValue, Ask, AsReader, Read, Respond, IntoWriter, Write, Flush, Upgrade, Finish, Drop, ReplyValue, Given, Done, NoSuch, NotYet, Ended, Refused, TimedValue, number_of}
use Rattle.tiny_http_connection.specs.Outcomes.{WriterUse, Unused, Unreported, Outcome, Reached, unchanged, changes, ends_asking, ends_with_stream, finished_as, written_to, stage_closed, accepts_step, needs_turn, use_in_turn, asked_to_close, answers, answers_slot, asks_from, ask, effect, at_item, at_slot, at_number, outcome}
use Rattle.tiny_http_connection.specs.Conversation.{State, FindsNoMemory, IsPassedOver, StepsTo, Run, start_state, IsConversation}
use Rattle.tiny_http_connection.proofs.ConnectionReader.{last-snoc}
use Rattle.tiny_http_connection_laws.specs.Closes.{says_close_by, NoneFollowsClose}
use Rattle.tiny_http_connection_laws.proofs.StepsAdd.{accounts, by-respond, by-upgrade, by-drop}
use Rattle.tiny_http_connection_laws.proofs.PipelineEnds.{lasts, AllEnd, Owes, pipeline-ends, pipeline-owes}
use Rattle.tiny_http_connection_laws.proofs.CloseIsLast.{IsPassedRequest, IsPassed, IsLastRequest, IsLastItem, Fit, Inv, InvAt, InvOf, no-both, so-false, or-none, not-true, weaken, snoc-fit, closing-fit, fit-none, change, change-kept, finishes, streams}

keeps : (old : Reached) (reply : ReplyValue) → InvAt old → InvOf (unchanged old reply)
keeps old reply h = h

inv-if : (b : Bool) (x y : Outcome) → (b ≡ true → InvOf x) → (b ≡ false → InvOf y) → InvOf (if b then x else y)
inv-if true x y h k = h refl
inv-if false x y h k = k refl

-- a number with a raw writer or a stream says no close
streaming-silent : (stage : Stage) (owed closes : Bool) (r : Request) (k : ℕ) (bytes : List ℕ) → accepts_step stage owed (Write k bytes) ≡ true → (is_unanswered (written_to bytes stage) ≡ false) × (says_close_by closes (Asks r) (written_to bytes stage) ≡ false)
streaming-silent Unanswered owed closes r k bytes e = cc
streaming-silent (Answered response date found) owed closes r k bytes e = cc
streaming-silent ByServer owed closes r k bytes e = cc
streaming-silent (Raw written ends) owed closes r k bytes e = (refl, refl)
streaming-silent (Upgraded protocol response date written ends) owed closes r k bytes e = (refl, refl)

closed-silent : (stage : Stage) (owed closes : Bool) (r : Request) (k : ℕ) → accepts_step stage owed (Finish k) ≡ true → (is_unanswered (stage_closed stage) ≡ false) × (says_close_by closes (Asks r) (stage_closed stage) ≡ false)
closed-silent Unanswered owed closes r k e = cc
closed-silent (Answered response date found) owed closes r k e = cc
closed-silent ByServer owed closes r k e = cc
closed-silent (Raw written ends) owed closes r k e = (refl, refl)
closed-silent (Upgraded protocol response date written ends) owed closes r k e = (refl, refl)

streams-stage : (stage : Stage) (owed : Bool) (k : ℕ) (bytes : List ℕ) → accepts_step stage owed (Write k bytes) ≡ true → is_unanswered stage ≡ false
streams-stage Unanswered owed k bytes e = cc
streams-stage (Answered response date found) owed k bytes e = cc
streams-stage ByServer owed k bytes e = cc
streams-stage (Raw written ends) owed k bytes e = refl
streams-stage (Upgraded protocol response date written ends) owed k bytes e = refl

-- a number whose body is read says no close yet, and owes no 100 while it waits
read-silent : (stage : Stage) (owed closes : Bool) (r : Request) (k n : ℕ) → accepts_step stage owed (Read k n) ≡ true → (says_close_by closes (Asks r) stage ≡ false) × (is_unanswered stage ≡ true → owed ≡ false)
read-silent Unanswered true closes r k n e = cc
read-silent Unanswered false closes r k n e = (refl, λ u. refl)
read-silent (Answered response date found) owed closes r k n e = cc
read-silent ByServer owed closes r k n e = cc
read-silent (Raw written ends) owed closes r k n e = cc
read-silent (Upgraded protocol response date written ends) owed closes r k n e = (refl, λ u. cc)

-- ---- an upgrade that is taken was asked for

abbrev checked : Bool → Bool → Bool → Bool → Bool → Result ⊤ UpgradeError
checked ascii standard asked code whole =
    if not ascii then Err Protocol else if not standard then Ok tt else if not asked then Err NotAsked else if not code then Err Status else if not whole then Err UnfinishedBody else Ok tt

checked-asked : (ascii asked code whole : Bool) → is_err (checked ascii true asked code whole) ≡ false → asked ≡ true
checked-asked false asked code whole e = cc
checked-asked true true code whole e = refl
checked-asked true false code whole e = cc

pub upgrade-holds : (r : Request) (s : Slot) (protocol : List ℕ) (response : ResponseValue) → r.framing.by_standard ≡ true → refuses_upgrade r s protocol response ≡ false → holds_next_head r ≡ true
upgrade-holds r s protocol response standard e =
    let C : Bool → Bool = λ b. is_err (checked (list_all is_ascii protocol) b (asks_protocol r protocol) (response.answer.status == 101) (is_body_whole r s)) in
    let asked = checked-asked (list_all is_ascii protocol) (asks_protocol r protocol) (response.answer.status == 101) (is_body_whole r s) (sym (ap C standard) ∙ e) in
    (and_parts (holds_next_head r) _ asked).0

-- ---- the steps

answers-inv : (found : Bool) (date : HttpDate) (old : Reached) (r : Request) (s : Slot) (k : ℕ) (response : ResponseValue) → InvAt old → slice_get old.slots k ≡ Some s → s.item ≡ Asks r → s.stage ≡ Unanswered → InvOf (answers found date old r k response)
answers-inv found date old r s k response h here is u =
    let P : Option Slot → Type 0 = λ o. InvOf (answers_slot found date old r k response o) in
    subst P (sym here) (finishes old r k s (Answered response date found) h here is u refl refl)

asked-inv : (found : Bool) (date : HttpDate) (old : Reached) (r : Request) (s : Slot) (k : ℕ) (response : ResponseValue) (closes : Bool) → InvAt old → slice_get old.slots k ≡ Some s → s.item ≡ Asks r → s.stage ≡ Unanswered
    → InvOf (answers found date (asked_to_close closes old) r k response)
asked-inv found date old r s k response false h here is u = answers-inv found date old r s k response h here is u
asked-inv found date old r s k response true h here is u =
    let t = accounts s old.slots k here in
    answers-inv found date (asked_to_close true old) r t.slot k response (record { ends = h.ends; owes = h.owes; fit = closing-fit old.asking_ended old.rest old.slots h.fit }) t.get (t.item ∙ is) (t.stage ∙ u)

read-short : (f : Form) (n given more : ℕ) (reported now : Bool) → (is_counted f ≡ true → (reported ≡ true) ⊎ (n ≤ given)) → is_counted f ≡ true → ((reported || now) ≡ true) ⊎ (n ≤ given + more)
read-short f n given more reported now h c = ⊎_elim (λ e. inl (ap (λ b. b || now) e)) (λ e. inr (omega (arith, e))) (h c)

-- a number that is upgraded: by the standard no head is read behind it
upgraded-inv : (old : Reached) (r : Request) (k : ℕ) (s : Slot) (stage : Stage) (ends : Bool) → InvAt old → slice_get old.slots k ≡ Some s → s.item ≡ Asks r → (r.framing.by_standard ≡ true → ends ≡ true)
    → is_unanswered stage ≡ false → ((item : Item) → says_close_by s.closes item stage ≡ false) → Inv (old.asking_ended || ends) old.rest (slice_set old.slots k (upgraded_slot r s stage))
upgraded-inv old r k s stage ends h here is last done silent = by r.framing.by_standard refl
  where
    less : (old.asking_ended || ends) ≡ false → old.asking_ended ≡ false
    less e = (or-none old.asking_ended ends e).0

    stream : Slot
    stream = record s { item = Asks (as_stream r); given = 0; end_reported = false; stage = stage; owed = false }

    plain : Slot
    plain = record s { stage = stage; owed = false }

    by : (b : Bool) → r.framing.by_standard ≡ b → Inv (old.asking_ended || ends) old.rest (slice_set old.slots k (if b then stream else plain))
    by true e =
        change old (old.asking_ended || ends) r k s stream h here is less
        (λ p. record { silent = silent (Asks (as_stream r)); settled = λ x. no-both (is_unanswered stage) x done })
        (λ x l. no-both ends (last e) (or-none old.asking_ended ends x).1)
    by false e = streams old (old.asking_ended || ends) r k s plain h here is refl less done (silent (Asks r)) (λ o. let no : false ≡ true = o in cc)

effect-inv : (found : Bool) (date : HttpDate) (old : Reached) (r : Request) (s : Slot) (turn : Bool) (step : StepValue) → InvAt old → slice_get old.slots (number_of step) ≡ Some s → s.item ≡ Asks r → accepts_step s.stage s.owed step ≡ true
    → InvOf (effect found date old r s turn step)
effect-inv found date old r s turn Ask h here is takes = h
effect-inv found date old r s turn (AsReader k) h here is takes =
    let t : Slot = record s { owed = false; continued = Some date } in
    inv-if s.owed (changes old k t Done Unreported) (unchanged old Done)
    (λ e. change-kept old old.asking_ended r k s t h here is refl (λ x. x)
    (λ p. record { silent = p.silent; settled = λ u. let q = p.settled u in record { is_last = q.is_last; closes = q.closes; owed = refl; whole = q.whole; chunks = q.chunks; short = q.short } })
    (λ x l. record { ends = l.ends; unasked = l.unasked; kept = l.kept; owed = λ o. cc; closed = l.closed }))
    (λ e. h)
effect-inv found date old r s turn (Read k n) h here is takes =
    let left = (rest_of r s.given).bytes in
    let more = length (take n left) in
    let now = nat_lt (length left) n in
    let t : Slot = record s { given = s.given + more; end_reported = s.end_reported || now } in
    let quiet = read-silent s.stage s.owed s.closes r k n takes in
    inv-if (n == 0) (unchanged old (Given [])) (changes old k t _ Unused)
    (λ e. h)
    (λ e. change-kept old old.asking_ended r k s t h here is refl (λ x. x)
    (λ p. record { silent = p.silent; settled = λ u. let q = p.settled u in record { is_last = q.is_last; closes = q.closes; owed = q.owed; whole = q.whole; chunks = λ c. ap (λ b. b || now) (q.chunks c); short = read-short r.framing.form (body_length_or_0 r.framing) s.given more s.end_reported now q.short } })
    (λ x l. record { ends = l.ends; unasked = l.unasked; kept = l.kept; owed = λ o. no-both s.owed o (quiet.1 (l.owed o).0); closed = λ y. no-both (says_close_by s.closes (Asks r) s.stage) y quiet.0 }))
effect-inv found date old r s turn (Respond k response) h here is takes =
    let u = by-respond s.stage s.owed k response takes in
    let d = finished_as (closes_now r s.closes s.owed s.given s.end_reported) s ByServer in
    inv-if (refuses_response r response) (ends_asking (ends_when_finished r s.owed s.given s.end_reported) (changes old k d Refused (use_in_turn turn))) (answers found date (asked_to_close response.answer.closes old) r k response)
    (λ e. finishes old r k s ByServer h here is u refl refl)
    (λ e. asked-inv found date old r s k response response.answer.closes h here is u)
effect-inv found date old r s turn (IntoWriter k) h here is takes =
    let ends = ends_with_stream r s.owed s.given s.end_reported in
    streams old (old.asking_ended || ends) r k s (record s { stage = Raw [] false; given_up = true; owed = false }) h here is refl (λ e. (or-none old.asking_ended ends e).0) refl refl (λ o. let no : false ≡ true = o in cc)
effect-inv found date old r s turn (Write k bytes) h here is takes =
    let quiet = streaming-silent s.stage s.owed s.closes r k bytes takes in
    let was = streams-stage s.stage s.owed k bytes takes in
    let t : Slot = record s { stage = written_to bytes s.stage } in
    change-kept old old.asking_ended r k s t h here is refl (λ x. x)
    (λ p. record { silent = quiet.1; settled = λ e. no-both (is_unanswered t.stage) e quiet.0 })
    (λ e x. record { ends = x.ends; unasked = λ y. no-both (is_unanswered t.stage) y quiet.0; kept = λ y. no-both (is_unanswered t.stage) y quiet.0; owed = λ o. no-both (is_unanswered s.stage) (x.owed o).0 was; closed = λ y. no-both (says_close_by s.closes (Asks r) t.stage) y quiet.1 })
effect-inv found date old r s turn (Flush k) h here is takes = change-kept old old.asking_ended r k s s h here is refl (λ x. x) (λ p. p) (λ e x. x)
effect-inv found date old r s turn (Upgrade k protocol response) h here is takes =
    let u = by-upgrade s.stage s.owed k protocol response takes in
    let d = finished_as (closes_now r s.closes s.owed s.given s.end_reported) s ByServer in
    let stage = Upgraded protocol response date [] false in
    let t = upgraded_slot r s stage in
    let ends = ends_with_stream r s.owed s.given s.end_reported in
    inv-if (refuses_upgrade r s protocol response) (ends_asking (ends_when_finished r s.owed s.given s.end_reported) (changes old k d Refused (use_in_turn turn))) (ends_asking ends (changes old k t Done Unreported))
    (λ e. finishes old r k s ByServer h here is u refl refl)
    (λ e. upgraded-inv old r k s stage ends h here is (λ standard. ap (λ b. b || ends_when_finished r s.owed s.given s.end_reported) (upgrade-holds r s protocol response standard e)) refl (λ i. refl))
effect-inv found date old r s turn (Finish k) h here is takes =
    let quiet = closed-silent s.stage s.owed s.closes r k takes in
    streams old old.asking_ended r k s (finished_as s.closes s (stage_closed s.stage)) h here is refl (λ x. x) quiet.0 quiet.1 (λ o. let no : false ≡ true = o in cc)
effect-inv found date old r s turn (Drop k) h here is takes = finishes old r k s ByServer h here is (by-drop s.stage s.owed k takes) refl refl

-- ---- an Ask

-- the last request, once its body doesn't hold the reader
open-not : (f : Form) (n given : ℕ) (reported given_up : Bool) → (is_form_streamed f && not (body_finished f n given reported || given_up)) ≡ false → given_up ≡ false
    → (is_chunked_form f ≡ true → reported ≡ true) × (is_counted f ≡ true → (reported ≡ true) ⊎ (n ≤ given))
open-not form.Nothing n given reported given_up e g = (λ c. cc, λ c. cc)
open-not form.WithHead n given reported given_up e g = (λ c. cc, λ c. cc)
open-not form.Rest n given reported given_up e g = (λ c. cc, λ c. cc)
open-not form.Chunked n given reported given_up e g = (λ c. sym (or-false reported) ∙ ap (λ b. reported || b) (sym g) ∙ not-true (reported || given_up) e, λ c. cc)
open-not form.Counted n given reported given_up e g = (λ c. cc, λ c. by (given == n) refl)
  where
    whole : ((given == n || reported) || false) ≡ true
    whole = ap (λ b. (given == n || reported) || b) (sym g) ∙ not-true ((given == n || reported) || given_up) e

    by : (b : Bool) → (given == n) ≡ b → (reported ≡ true) ⊎ (n ≤ given)
    by true k = let same : given ≡ n = eqb-true given n k in inr (omega (arith, same))
    by false k = inl (sym (ap (λ b. (b || reported) || false) k ∙ or-false reported) ∙ whole)

pass-request : (r : Request) (s : Slot) (item : Item) (more rest : List Item) → rest ≡ item ∷ more → ((not r.framing.is_last && body_is_open s (Asks r)) || is_holding s (Asks r)) ≡ false → body_was_abandoned s (Asks r) ≡ false → IsLastRequest r s rest → IsPassedRequest r s
pass-request r s item more rest goes free kept h = record {
  silent = so-false (says_close_by s.closes (Asks r) s.stage) (λ y. ⊎_elim (λ e. stays e) (λ e. no-both (body_was_abandoned s (Asks r)) e kept) (h.closed y));
  settled = λ u. (let shape = open-not r.framing.form (body_length_or_0 r.framing) s.given s.end_reported s.given_up shut (h.kept u) in record {
    is_last = goes_on.0;
    closes = h.unasked u;
    owed = so-false s.owed (λ o. no-both (body_is_open s (Asks r)) (h.owed o).1 shut);
    whole = not-true (is_end r.body.stop) goes_on.1;
    chunks = shape.0;
    short = shape.1;
  });
}
  where
    stays : lasts (Asks r) ≡ true → ⊥
    stays e = let no : [] ≡ item ∷ more = sym (h.ends e) ∙ goes in cc

    goes_on : (r.framing.is_last ≡ false) × (not (is_end r.body.stop) ≡ false)
    goes_on = or-none r.framing.is_last (not (is_end r.body.stop)) (so-false (lasts (Asks r)) stays)

    shut : body_is_open s (Asks r) ≡ false
    shut = ap (λ b. not b && body_is_open s (Asks r)) (sym goes_on.0) ∙ (or-none (not r.framing.is_last && body_is_open s (Asks r)) (is_holding s (Asks r)) free).0

pass-item : (s : Slot) (at item : Item) (more rest : List Item) → rest ≡ item ∷ more → ((not (is_last_item at) && body_is_open s at) || is_holding s at) ≡ false → body_was_abandoned s at ≡ false → IsLastItem s at rest → IsPassed s at
pass-item s (Asks r) item more rest goes free kept h = pass-request r s item more rest goes free kept h
pass-item s (Refuses refusal manner no_body last) item more rest goes free kept h =
    (or-none last manner.by_standard (so-false (last || manner.by_standard) (λ e. let no : [] ≡ item ∷ more = sym (h e) ∙ goes in cc))).1

-- what is asked of the last number before another is reached
abbrev PassesLast : List Slot → List Item → Type 0
PassesLast slots rest = (item : Item) (more : List Item) → rest ≡ item ∷ more → (s : Slot) → last_slot slots ≡ Some s → IsLastItem s s.item rest → IsPassed s s.item

passes : (slots : List Slot) (rest : List Item) → last_holds_reader (last_slot slots) ≡ false → last_was_abandoned (last_slot slots) ≡ false → PassesLast slots rest
passes slots rest free kept = λ item more goes s is h.
    let F : Option Slot → Type 0 = λ o. last_holds_reader o ≡ false in
    let K : Option Slot → Type 0 = λ o. last_was_abandoned o ≡ false in
    pass-item s s.item item more rest goes (subst F is free) (subst K is kept) h

new-last : (date : HttpDate) (item : Item) (items : List Item) → (lasts item ≡ true → items ≡ []) → Owes item → IsLastItem (new_slot date item) item items
new-last date (Asks r) items ends owes = record {
  ends = ends;
  unasked = λ u. refl;
  kept = λ u. refl;
  owed = λ o. (let opens = owes o in (refl, rw (opens.0, opens.1) refl));
  closed = λ e. cc;
}
new-last date (Refuses refusal manner no_body last) items ends owes = ends

new-at : (date : HttpDate) (item : Item) (items : List Item) → IsLastItem (new_slot date item) item items → IsLastItem (new_slot date item) (new_slot date item).item items
new-at date (Asks r) items h = h
new-at date (Refuses refusal manner no_body last) items h = h

-- a refused head that another item follows is passed
new-passes : (date : HttpDate) (slots : List Slot) (items : List Item) (refusal : _) (manner : _) (no_body last : Bool) → PassesLast (slots ++ new_slot date (Refuses refusal manner no_body last) ∷ []) items
new-passes date slots items refusal manner no_body last = λ item more goes s is h.
    let new = new_slot date (Refuses refusal manner no_body last) in
    let same : s ≡ new = (let one : Some new ≡ Some s = sym (last-snoc None slots new) ∙ is in cc) in
    let L : Slot → Type 0 = λ y. IsLastItem y y.item items in
    let P : Slot → Type 0 = λ y. IsPassed y y.item in
    subst P (sym same) (pass-item new (Refuses refusal manner no_body last) item more items goes (ap (λ b. b || false) (and-no (not last))) refl (subst L same h))
  where
    and-no : (b : Bool) → (b && false) ≡ false
    and-no true = refl
    and-no false = refl

asks-inv : (date : HttpDate) (w : WriterUse) (slots : List Slot) (items : List Item) → Inv false items slots → PassesLast slots items → InvOf (asks_from date w slots items)
asks-inv date w slots [] h p = record { ends = tt; owes = tt; fit = weaken false true [] slots (λ e. cc) h.fit }
asks-inv date w slots (Asks r ∷ items) h p = record {
  ends = h.ends.1;
  owes = h.owes.1;
  fit = snoc-fit false (Asks r ∷ items) items slots (new_slot date (Asks r)) h.fit (λ s is l. p (Asks r) items refl s is l) (λ e. new-last date (Asks r) items h.ends.0 h.owes.0);
}
asks-inv date w slots (Refuses refusal manner no_body last ∷ items) h p =
    let item = Refuses refusal manner no_body last in
    asks-inv date (if turn_has_come (length slots) slots then Unreported else w) (slots ++ new_slot date item ∷ []) items
    (record { ends = h.ends.1; owes = h.owes.1; fit = snoc-fit false (item ∷ items) items slots (new_slot date item) h.fit (λ s is l. p item items refl s is l) (λ e. new-last date item items h.ends.0 tt) })
    (new-passes date slots items refusal manner no_body last)

ask-inv : (date : HttpDate) (old : Reached) → InvAt old → InvOf (ask date old)
ask-inv date old h =
    let left : Outcome = record { reply = Ended; slots = old.slots; rest = old.rest; asking_ended = true; writer = Unused } in
    let goes = asks_from date Unused old.slots old.rest in
    inv-if old.asking_ended (unchanged old Ended) (if last_holds_reader (last_slot old.slots) then unchanged old NotYet else if last_was_abandoned (last_slot old.slots) then left else goes)
    (λ e. h)
    (λ e. inv-if (last_holds_reader (last_slot old.slots)) (unchanged old NotYet) (if last_was_abandoned (last_slot old.slots) then left else goes)
    (λ f. h)
    (λ f. inv-if (last_was_abandoned (last_slot old.slots)) left goes
    (λ a. record { ends = h.ends; owes = h.owes; fit = weaken old.asking_ended true old.rest old.slots (λ x. cc) h.fit })
    (λ a. asks-inv date Unused old.slots old.rest (record { ends = h.ends; owes = h.owes; fit = weaken old.asking_ended false old.rest old.slots (λ x. e) h.fit }) (passes old.slots old.rest f a))))

-- ---- an outcome

item-inv : (found : Bool) (date : HttpDate) (old : Reached) (step : StepValue) (s : Slot) (item : Item) → InvAt old → slice_get old.slots (number_of step) ≡ Some s → s.item ≡ item → InvOf (at_item found date old (number_of step) step s item)
item-inv found date old step s (Refuses refusal manner no_body last) h here is = h
item-inv found date old step s (Asks r) h here is =
    let turn = turn_has_come (number_of step) old.slots in
    inv-if (not (accepts_step s.stage s.owed step)) (unchanged old NoSuch) (if (needs_turn r s step && not turn) then unchanged old NotYet else effect found date old r s turn step)
    (λ no. h)
    (λ takes. inv-if (needs_turn r s step && not turn) (unchanged old NotYet) (effect found date old r s turn step) (λ waits. h) (λ goes. effect-inv found date old r s turn step h here is (not-true (accepts_step s.stage s.owed step) takes)))

slot-inv : (found : Bool) (date : HttpDate) (old : Reached) (step : StepValue) (o : Option Slot) → InvAt old → slice_get old.slots (number_of step) ≡ o → InvOf (at_slot found date old (number_of step) step o)
slot-inv found date old step None h here = h
slot-inv found date old step (Some s) h here = item-inv found date old step s s.item h here refl

number-inv : (found : Bool) (date : HttpDate) (old : Reached) (step : StepValue) → InvAt old → InvOf (at_number found date old (number_of step) step)
number-inv found date old step h = slot-inv found date old step (slice_get old.slots (number_of step)) h refl

outcome-inv : (found : Bool) (date : HttpDate) (old : Reached) (step : StepValue) → InvAt old → InvOf (outcome found date old step)
outcome-inv found date old Ask h = ask-inv date old h
outcome-inv found date old (AsReader k) h = number-inv found date old (AsReader k) h
outcome-inv found date old (Read k n) h = number-inv found date old (Read k n) h
outcome-inv found date old (Respond k response) h = number-inv found date old (Respond k response) h
outcome-inv found date old (IntoWriter k) h = number-inv found date old (IntoWriter k) h
outcome-inv found date old (Write k bytes) h = number-inv found date old (Write k bytes) h
outcome-inv found date old (Flush k) h = number-inv found date old (Flush k) h
outcome-inv found date old (Upgrade k protocol response) h = number-inv found date old (Upgrade k protocol response) h
outcome-inv found date old (Finish k) h = number-inv found date old (Finish k) h
outcome-inv found date old (Drop k) h = number-inv found date old (Drop k) h

-- refused heads that were passed as memory was refused
ends-behind : (refused rest : List Item) → AllEnd (refused ++ rest) → AllEnd rest
ends-behind [] rest h = h
ends-behind (x ∷ xs) rest h = ends-behind xs rest h.1

owes-behind : (refused rest : List Item) → AllByRecursion Owes (refused ++ rest) → AllByRecursion Owes rest
owes-behind [] rest h = h
owes-behind (x ∷ xs) rest h = owes-behind xs rest h.1

refused-fit : (date : HttpDate) (slots : List Slot) (refused rest : List Item) → Fit false (refused ++ rest) slots → AllEnd (refused ++ rest) → AllByRecursion IsPassedOver refused → PassesLast slots (refused ++ rest) → Fit true rest (slots ++ map (new_slot date) refused)
refused-fit date slots [] rest h ends over p =
    let F : List Slot → Type 0 = λ l. Fit true rest l in
    subst F (sym (append-nil slots)) (weaken false true rest slots (λ e. cc) h)
refused-fit date slots (Asks r ∷ refused) rest h ends over p = elim over.0 [ ]
refused-fit date slots (Refuses refusal manner no_body last ∷ refused) rest h ends over p =
    let item = Refuses refusal manner no_body last in
    let F : List Slot → Type 0 = λ l. Fit true rest l in
    subst F (append_assoc slots (new_slot date item ∷ []) (map (new_slot date) refused))
    (refused-fit date (slots ++ new_slot date item ∷ []) refused rest (snoc-fit false (item ∷ (refused ++ rest)) (refused ++ rest) slots (new_slot date item) h (λ s is l. p item (refused ++ rest) refl s is l) (λ e. new-last date item (refused ++ rest) ends.0 tt))
    ends.1 over.1 (new-passes date slots (refused ++ rest) refusal manner no_body last))

memory-inv : (date : HttpDate) (old : State) (step : StepValue) (reply : ReplyValue) (new : State) → InvAt old.reached → FindsNoMemory date old step reply new → InvAt new.reached
memory-inv date old (Read k n) reply new h m = subst (λ x. InvAt x.reached) (sym m.3) h
memory-inv date old Ask reply new h m =
    let rest = m.5 in
    let refused = m.4 in
    let slots = old.reached.slots in
    let E : List Item → Type 0 = λ l. AllEnd l in
    let O : List Item → Type 0 = λ l. AllByRecursion Owes l in
    let F : List Item → Type 0 = λ l. Fit false l slots in
    let ends = subst E m.6 h.ends in
    let fit = subst F m.6 (weaken old.reached.asking_ended false old.reached.rest slots (λ e. m.0) h.fit) in
    let all : Inv true rest (slots ++ map (new_slot date) refused) = record {
      ends = ends-behind refused rest ends;
      owes = owes-behind refused rest (subst O m.6 h.owes);
      fit = refused-fit date slots refused rest fit ends m.7 (passes slots (refused ++ rest) m.2 m.3);
    } in
    subst InvAt (sym m.8.0) all
memory-inv date old (AsReader k) reply new h m = elim m [ ]
memory-inv date old (Respond k response) reply new h m = elim m [ ]
memory-inv date old (IntoWriter k) reply new h m = elim m [ ]
memory-inv date old (Write k bytes) reply new h m = elim m [ ]
memory-inv date old (Flush k) reply new h m = elim m [ ]
memory-inv date old (Upgrade k protocol response) reply new h m = elim m [ ]
memory-inv date old (Finish k) reply new h m = elim m [ ]
memory-inv date old (Drop k) reply new h m = elim m [ ]

step-inv : (old : State) (date : HttpDate) (step : StepValue) (reply : ReplyValue) (new : State) → InvAt old.reached → StepsTo old date step reply new → InvAt new.reached
step-inv old date step reply new h (inl x) = subst InvAt (sym x.2.0) (outcome-inv x.0 date old.reached step h)
step-inv old date step reply new h (inr x) = memory-inv date old step reply new h x

run-inv : (steps : List TimedValue) (old new : State) (replies : List ReplyValue) → InvAt old.reached → Run old steps replies new → InvAt new.reached
run-inv [] old new [] h r = subst (λ x. InvAt x.reached) (sym r) h
run-inv [] old new (reply ∷ replies) h r = elim r [ ]
run-inv (step ∷ steps) old new [] h r = elim r [ ]
run-inv (step ∷ steps) old new (reply ∷ replies) h r = run-inv steps r.0 new replies (step-inv old step.0 step.1 reply r.0 h r.1) r.2

pub close-is_last : (feed : Feed) (before after : Sink) (steps : List TimedValue) (replies : List ReplyValue) (held : List ℕ) (ended : Bool) (unread : Option Feed) → (c : IsConversation Standard feed before steps replies after held ended unread) → NoneFollowsClose c.end.reached.slots
close-is_last feed before after steps replies held ended unread c =
    let start : InvAt (start_state c.items).reached = record { ends = pipeline-ends Standard (Some feed.bytes) feed.stop c.items c.pipeline; owes = pipeline-owes (Some feed.bytes) feed.stop c.items c.pipeline; fit = tt } in
    let end = run-inv steps (start_state c.items) c.end replies start c.run in
    fit-none c.end.reached.asking_ended c.end.reached.rest c.end.reached.slots end.fit
