-- Where an Ask is answered by the end, all requests were handed out, or a step or a number ended them.
use Rattle.std.proofs.Common.{◌≡◌, refl, sym, ap, ◌∙◌, subst, ℕ, zero, suc, ◌+◌, ◌⊎◌, inl, inr, Bool, true, false, not, ◌&&◌, List, [], ◌∷◌, ◌++◌, map, length, Option, Some, None, append_assoc, append-nil, ⊎_elim}
use Rattle.std.specs.Prelude.{⊤, if◌then◌else◌, slice_get, slice_set, take, nat_lt, ◌==◌, ◌||◌, is_some}
use Rattle.std.proofs.Math.Bool.{or-true}
use Rattle.std.proofs.lemmas.Bool.{and_parts}
use Rattle.std.proofs.lemmas.Bool.Decides.{eqb_tells}
use Rattle.httpdate.specs.declared.date.HttpDate.{HttpDate}
use Rattle.tiny_http_io.specs.Device.{Feed, Sink}
use Rattle.tiny_http_body.specs.Body.{is_long}
use Rattle.tiny_http_body.specs.declared.framing.Profile.{Profile}
use Rattle.tiny_http_open_request.specs.Pipeline.{Item, Asks, Refuses, Request}
use Rattle.tiny_http_response.specs.ResponseValue.{ResponseValue}
use Rattle.tiny_http_connection.specs.Segments.{Slot, Stage, Unanswered, Answered, ByServer, Raw, Upgraded, to_request, text_if}
use Rattle.tiny_http_connection.specs.Slots.{turn_has_come, new_slot, rest_of, last_slot, with_last, closing_slot, is_unanswered, is_chunked_form, last_holds_reader, last_was_abandoned, body_was_abandoned, remainder_of, ends_when_finished, closes_now, holds_next_head, refuses_response, refuses_upgrade, upgraded_slot, as_stream}
use Rattle.tiny_http_connection.specs.Steps.{StepValue, Ask, AsReader, Read, Respond, IntoWriter, Write, Flush, Upgrade, Finish, Drop, ReplyValue, Handed, Ended, Given, NotYet, Done, Refused, NoSuch, Memory, Fault, TimedValue, number_of, is_done}
use Rattle.tiny_http_connection.specs.Outcomes.{WriterUse, Unused, Unreported, Reported, Outcome, Reached, unchanged, changes, asks_from, ask, read_reply, finished_as, written_to, stage_closed, fault_in, fault_reply, accepts_step, needs_turn, use_in_turn, ends_asking, ends_with_stream, asked_to_close, answers_slot, answers, effect, at_item, at_slot, at_number, outcome}
use Rattle.tiny_http_connection.specs.Conversation.{State, HasOutcome, FindsNoMemory, answers_to, StepsTo, Run, start_state, IsConversation}
use Rattle.tiny_http_connection.proofs.ConnectionClosing.{by-closing}
use Rattle.tiny_http_connection.proofs.ConversationEnded.{steps-stay}
use Rattle.tiny_http_connection_laws.specs.InShort.{handed, requests_from}
use Rattle.tiny_http_connection_laws.specs.Accounts.{Account, untouched, account_now, HasEnd, IsEnd, EndsRequests, OneEndsRequests, was_cut_short, stops_by, stops, OneStops}
use Rattle.tiny_http_connection_laws.proofs.InShortReads.{same-some, get-set, get-other, get-append}
use Rattle.tiny_http_connection_laws.proofs.InShortHanded.{run-moves}
use Rattle.tiny_http_connection_laws.proofs.RunFronts.{not-true}
use Rattle.tiny_http_connection_laws.proofs.StepsAdd.{accounts, by-asreader, by-respond, by-writer, by-upgrade, by-drop}
use Rattle.tiny_http_connection_laws.proofs.CloseSteps.{upgrade-holds}
use Rattle.tiny_http_connection_laws.proofs.AccountsHold.{Told, IsTold, AllTold, Alike, IsOwn, is_given_up, accounts-at, last-accounts, own-answers, planned-alike, outcome-tells, step-accounts, none-accounts}
use Rattle.tiny_http_connection_laws.proofs.AccountsTurns.{own-planned, run-found, matches-length}
use Rattle.tiny_http_connection_laws.proofs.AccountsWaits.{last-number}

-- ---- booleans

never : {G : Type 0} → false ≡ true → G
never e = cc

or-map : (a b c d : Bool) → (a ≡ true → c ≡ true) → (b ≡ true → d ≡ true) → (a || b) ≡ true → (c || d) ≡ true
or-map true b c d f g e = rw (f refl) refl
or-map false b c d f g e = rw (g e) (or-true c)

or-cases : (a b : Bool) → (a || b) ≡ true → (a ≡ true) ⊎ (b ≡ true)
or-cases true b e = inl refl
or-cases false b e = inr e

or-left : (a b : Bool) → a ≡ true → (a || b) ≡ true
or-left a b e = rw e refl

or-right : (a b : Bool) → b ≡ true → (a || b) ≡ true
or-right a b e = rw e (or-true a)

-- ---- numbers that stop the requests

one-set : (slots : List Slot) (j : ℕ) (s t : Slot) → slice_get slots j ≡ Some s → (stops s s.item ≡ true → stops t t.item ≡ true) → OneStops slots → OneStops (slice_set slots j t)
one-set slots j s t at keeps one =
    ⊎_elim
    (λ yes.
    let same : s ≡ one.1 = same-some s one.1 (sym at ∙ ap (λ n. slice_get slots n) yes.1 ∙ one.2) in
    (j, t, get-set slots j s t at, keeps (ap (λ (y : Slot). stops y y.item) same ∙ one.3)))
    (λ no. (one.0, one.1, get-other slots j one.0 t no.1 ∙ one.2, one.3))
    (eqb_tells j one.0)

one-here : (slots : List Slot) (j : ℕ) (s t : Slot) → slice_get slots j ≡ Some s → stops t t.item ≡ true → OneStops (slice_set slots j t)
one-here slots j s t at st = (j, t, get-set slots j s t at, st)

one-more : (slots more : List Slot) → OneStops slots → OneStops (slots ++ more)
one-more slots more one = (one.0, one.1, get-append slots more one.0 one.1 one.2, one.3)

-- a number that waits stops nothing
quiet : (s : Slot) (r : Request) → s.item ≡ Asks r → s.stage ≡ Unanswered → stops s s.item ≡ false
quiet s r is u = ap (stops s) is ∙ ap (stops_by s r) u

quiet-keeps : (s t : Slot) (r : Request) → s.item ≡ Asks r → s.stage ≡ Unanswered → stops s s.item ≡ true → stops t t.item ≡ true
quiet-keeps s t r is u e = never (sym (quiet s r is u) ∙ e)

-- by the item
stops-item : (t : Slot) (item : Item) (r : Request) → t.item ≡ item → item ≡ Asks r → stops_by t r t.stage ≡ true → stops t t.item ≡ true
stops-item t item r same is e = ap (stops t) (same ∙ is) ∙ e

item-stops : (s : Slot) (r : Request) → s.item ≡ Asks r → stops s s.item ≡ true → stops_by s r s.stage ≡ true
item-stops s r is e = ap (stops s) (sym is) ∙ e

-- ---- the last number is told that the connection ends

closing-kept : (s : Slot) → stops s s.item ≡ true → closing_slot s ≡ s
closing-kept s e = by-closing (λ t. t ≡ s) s (λ u. never (sym (waits s.item s.stage u) ∙ e)) refl
  where
    waits : (item : Item) (stage : Stage) → is_unanswered s.stage ≡ true → stops s item ≡ false
    waits (Asks r) stage u = ap (stops_by s r) (one s.stage u)
      where
        one : (x : Stage) → is_unanswered x ≡ true → x ≡ Unanswered
        one Unanswered e = refl
        one (Answered response date found) e = never e
        one ByServer e = never e
        one (Raw written closed) e = never e
        one (Upgraded protocol response date written closed) e = never e
    waits (Refuses refusal manner no_body last) stage u = refl

last-stops : (slots : List Slot) (k : ℕ) (s : Slot) → slice_get slots k ≡ Some s → stops s s.item ≡ true → slice_get (with_last closing_slot slots) k ≡ Some s
last-stops [] k s at e = at
last-stops (x ∷ []) zero s at e = let same : x ≡ s = same-some x s at in subst (λ (y : Slot). Some (closing_slot y) ≡ Some s) (sym same) (ap (λ (y : Slot). Some y) (closing-kept s e))
last-stops (x ∷ []) (suc k) s at e = at
last-stops (x ∷ y ∷ slots) zero s at e = at
last-stops (x ∷ y ∷ slots) (suc k) s at e = last-stops (y ∷ slots) k s at e

one-closing : (slots : List Slot) → OneStops slots → OneStops (with_last closing_slot slots)
one-closing slots one = (one.0, one.1, last-stops slots one.0 one.1 one.2 one.3, one.3)

-- ---- a step

-- why the asking ends at a step: all is reached, a number stops the requests, or the step ends them
abbrev Ended_by : StepValue → Outcome → Type 0
Ended_by step o = (o.rest ≡ []) ⊎ (OneStops o.slots ⊎ ((x : ReplyValue) → Alike x o.reply → EndsRequests step x))

record Ends (old : Reached) (step : StepValue) (o : Outcome) : Type 0 where
  keeps : OneStops old.slots → OneStops o.slots
  begins : o.asking_ended ≡ true → (old.asking_ended ≡ true) ⊎ Ended_by step o

ends-none : (old : Reached) (step : StepValue) (x : ReplyValue) → Ends old step (unchanged old x)
ends-none old step x = record { keeps = λ one. one; begins = λ e. inl e }

ends-if : (old : Reached) (step : StepValue) (b : Bool) (x y : Outcome) → (b ≡ true → Ends old step x) → (b ≡ false → Ends old step y) → Ends old step (if b then x else y)
ends-if old step true x y h g = h refl
ends-if old step false x y h g = g refl

-- a number is changed, and the asking goes on as before
ends-kept : (old : Reached) (step : StepValue) (k : ℕ) (s t : Slot) (x : ReplyValue) (w : WriterUse) → slice_get old.slots k ≡ Some s → (stops s s.item ≡ true → stops t t.item ≡ true) → Ends old step (changes old k t x w)
ends-kept old step k s t x w at keeps = record { keeps = one-set old.slots k s t at keeps; begins = λ e. inl e }

-- or ends
ends-set : (old : Reached) (step : StepValue) (k : ℕ) (s t : Slot) (x : ReplyValue) (w : WriterUse) (ends : Bool) → slice_get old.slots k ≡ Some s → (stops s s.item ≡ true → stops t t.item ≡ true) → (ends ≡ true → stops t t.item ≡ true) → Ends old step (ends_asking ends (changes old k t x w))
ends-set old step k s t x w ends at keeps stop = record {
  keeps = one-set old.slots k s t at keeps;
  begins = λ e. ⊎_elim (λ was. inl was) (λ now. inr (inr (inl (one-here old.slots k s t at (stop now))))) (or-cases old.asking_ended ends e);
}

-- a 100 that is owed wasn't sent
owed-unsent : (k : ℕ) (r : Request) (s : Slot) (a : Account) → Told k r s a → s.stage ≡ Unanswered → s.owed ≡ true → (r.framing.owes_continue && not (is_some s.continued)) ≡ true
owed-unsent k r s a h u owed =
    let parts = and_parts r.framing.owes_continue (not (is_some a.asked)) (sym (h.owed (ap is_unanswered u)) ∙ owed) in
    let same : s.continued ≡ a.asked = h.continued ∙ if-true r.framing.owes_continue a.asked parts.0 in
    rw (parts.0, same) parts.1
  where
    if-true : (b : Bool) (x : Option HttpDate) → b ≡ true → (if b then x else None) ≡ x
    if-true true x e = refl
    if-true false x e = never e

cut-short : (k : ℕ) (r : Request) (s : Slot) (a : Account) (ab : Bool) → Told k r s a → s.stage ≡ Unanswered → ends_when_finished r s.owed s.given s.end_reported ≡ true
    → (ab || (r.framing.by_standard && ((r.framing.owes_continue && not (is_some s.continued)) || is_long (remainder_of r s.given s.end_reported)))) ≡ true
cut-short k r s a ab h u last =
    let unsent = r.framing.owes_continue && not (is_some s.continued) in
    let long = is_long (remainder_of r s.given s.end_reported) in
    let parts = and_parts r.framing.by_standard (s.owed || long) last in
    let early : (unsent || long) ≡ true = ⊎_elim (λ owed. or-left unsent long (owed-unsent k r s a h u owed)) (λ l. or-right unsent long l) (or-cases s.owed long parts.1) in
    or-right ab (r.framing.by_standard && (unsent || long)) (rw (parts.0, early) refl)

-- the server's answer, or that of a response
finished-ends : (old : Reached) (step : StepValue) (k : ℕ) (r : Request) (s : Slot) (a : Account) (x : ReplyValue) (w : WriterUse) → slice_get old.slots k ≡ Some s → s.item ≡ Asks r → s.stage ≡ Unanswered → Told k r s a
    → Ends old step (ends_asking (ends_when_finished r s.owed s.given s.end_reported) (changes old k (finished_as (closes_now r s.closes s.owed s.given s.end_reported) s ByServer) x w))
finished-ends old step k r s a x w at is u h =
    let t = finished_as (closes_now r s.closes s.owed s.given s.end_reported) s ByServer in
    ends-set old step k s t x w (ends_when_finished r s.owed s.given s.end_reported) at (quiet-keeps s t r is u)
    (λ last. stops-item t s.item r refl is (cut-short k r s a (body_was_abandoned t (Asks r)) h u last))

answered-ends : (found : Bool) (date : HttpDate) (old : Reached) (r : Request) (s : Slot) (a : Account) (k : ℕ) (response : ResponseValue) → slice_get old.slots k ≡ Some s → s.item ≡ Asks r → s.stage ≡ Unanswered → Told k r s a
    → Ends old (Respond k response) (answers found date old r k response) × (is_done (answers found date old r k response).reply ≡ true)
answered-ends found date old r s a k response at is u h =
    let P : Option Slot → Type 0 = λ o. Ends old (Respond k response) (answers_slot found date old r k response o) × (is_done (answers_slot found date old r k response o).reply ≡ true) in
    let closes = closes_now r s.closes s.owed s.given s.end_reported in
    let text = text_if found response (to_request closes r date) in
    let t = finished_as closes s (Answered response date found) in
    let w = Reported text.bytes (fault_in text.ending) true fault_reply in
    subst P (sym at) (
      ends-set old (Respond k response) k s t Done w (ends_when_finished r s.owed s.given s.end_reported) at (quiet-keeps s t r is u)
          (λ last. stops-item t s.item r refl is (cut-short k r s a (body_was_abandoned t (Asks r)) h u last)),
      refl,
    )

asked-ends : (f : ℕ → Account) (found : Bool) (date : HttpDate) (old : Reached) (r : Request) (s : Slot) (k : ℕ) (response : ResponseValue) (closes : Bool) → response.answer.closes ≡ closes → AllTold old.slots f → slice_get old.slots k ≡ Some s → s.item ≡ Asks r → s.stage ≡ Unanswered
    → Ends old (Respond k response) (answers found date (asked_to_close closes old) r k response)
asked-ends f found date old r s k response false c h at is u = (answered-ends found date old r s (f k) k response at is u (accounts-at old.slots f k s r h at is)).0
asked-ends f found date old r s k response true c h at is u =
    let t = accounts s old.slots k at in
    let e = answered-ends found date (asked_to_close true old) r t.slot (f k) k response t.get (t.item ∙ is) (t.stage ∙ u) (accounts-at (with_last closing_slot old.slots) f k t.slot r (last-accounts old.slots f h) t.get (t.item ∙ is)) in
    record { keeps = λ one. e.0.keeps (one-closing old.slots one); begins = λ x. inr (inr (inr (λ y alike. (alike.done ∙ e.1, c)))) }

-- ---- a raw writer or a stream goes on

written-stops : (s : Slot) (r : Request) (bytes : List ℕ) (new stage : Stage) → stops_by (record s { stage = new }) r (written_to bytes stage) ≡ stops_by s r stage
written-stops s r bytes new Unanswered = refl
written-stops s r bytes new (Answered response date found) = refl
written-stops s r bytes new ByServer = refl
written-stops s r bytes new (Raw written closed) = refl
written-stops s r bytes new (Upgraded protocol response date written closed) = refl

-- a body that was given up counts as one
abandoned-more : (s t : Slot) (r : Request) → t.given_up ≡ true → t.end_reported ≡ s.end_reported → body_was_abandoned s (Asks r) ≡ true → body_was_abandoned t (Asks r) ≡ true
abandoned-more s t r given same e =
    let parts = and_parts (is_chunked_form r.framing.form) (s.given_up && not s.end_reported) e in
    let more = and_parts s.given_up (not s.end_reported) parts.1 in
    rw (parts.0, given, same) more.1

closed-stops : (s t : Slot) (r : Request) (stage : Stage) → t.given_up ≡ true → t.end_reported ≡ s.end_reported → t.continued ≡ s.continued → t.given ≡ s.given → stops_by s r stage ≡ true → stops_by t r (stage_closed stage) ≡ true
closed-stops s t r Unanswered given same continued count e = never e
closed-stops s t r (Answered response date found) given same continued count e = cut-more s t r given same continued count e
  where
    cut-more : (s t : Slot) (r : Request) → t.given_up ≡ true → t.end_reported ≡ s.end_reported → t.continued ≡ s.continued → t.given ≡ s.given → was_cut_short s r ≡ true → was_cut_short t r ≡ true
    cut-more s t r given same continued count e =
        or-map (body_was_abandoned s (Asks r)) _ (body_was_abandoned t (Asks r)) _ (abandoned-more s t r given same) (λ x. rw (continued, same, count) x) e
closed-stops s t r ByServer given same continued count e =
    or-map (body_was_abandoned s (Asks r)) _ (body_was_abandoned t (Asks r)) _ (abandoned-more s t r given same) (λ x. rw (continued, same, count) x) e
closed-stops s t r (Raw written closed) given same continued count e =
    or-map r.framing.asks_upgrade (was_cut_short s r) r.framing.asks_upgrade (was_cut_short t r) (λ x. x)
    (λ c. or-map (body_was_abandoned s (Asks r)) _ (body_was_abandoned t (Asks r)) _ (abandoned-more s t r given same) (λ x. rw (continued, same, count) x) c) e
closed-stops s t r (Upgraded protocol response date written closed) given same continued count e =
    or-map r.framing.asks_upgrade (body_was_abandoned s (Asks r)) r.framing.asks_upgrade (body_was_abandoned t (Asks r)) (λ x. x) (abandoned-more s t r given same) e

-- a body that is read wasn't given up
read-stops : (s t : Slot) (r : Request) (stage : Stage) (owed : Bool) (k n : ℕ) → s.given_up ≡ is_given_up stage → accepts_step stage owed (Read k n) ≡ true → stops_by s r stage ≡ true → stops_by t r stage ≡ true
read-stops s t r Unanswered owed k n given takes e = never e
read-stops s t r (Answered response date found) owed k n given takes e = never takes
read-stops s t r ByServer owed k n given takes e = never takes
read-stops s t r (Raw written ends) owed k n given takes e = never takes
read-stops s t r (Upgraded protocol response date written ends) owed k n given takes e =
    or-left r.framing.asks_upgrade (body_was_abandoned t (Asks r))
    (⊎_elim (λ asks. asks)
    (λ lost.
    let parts = and_parts (is_chunked_form r.framing.form) (s.given_up && not s.end_reported) lost in
    let up = (and_parts s.given_up (not s.end_reported) parts.1).0 in
    let no : not true ≡ true = ap not (sym (sym given ∙ up)) ∙ takes in
    never no)
    (or-cases r.framing.asks_upgrade (body_was_abandoned s (Asks r)) e))

-- the connection's stream is given to a request
stream-asks : (r : Request) → holds_next_head r ≡ true → r.framing.asks_upgrade ≡ true
stream-asks r e = (and_parts r.framing.asks_upgrade (not r.framing.is_last) e).0

upgraded-stops : (r : Request) (s : Slot) (stage : Stage) (protocol : List ℕ) (response : ResponseValue) (date : HttpDate) → stage ≡ Upgraded protocol response date [] false → s.item ≡ Asks r → r.framing.asks_upgrade ≡ true → stops (upgraded_slot r s stage) (upgraded_slot r s stage).item ≡ true
upgraded-stops r s stage protocol response date is at asks = go r.framing.by_standard
  where
    stream : Slot
    stream = record s { item = Asks (as_stream r); given = 0; end_reported = false; stage = stage; owed = false }

    plain : Slot
    plain = record s { stage = stage; owed = false }

    go : (b : Bool) → stops (if b then stream else plain) (if b then stream else plain).item ≡ true
    go true = ap (stops_by stream (as_stream r)) is ∙ or-left r.framing.asks_upgrade _ asks
    go false = ap (stops plain) at ∙ ap (stops_by plain r) is ∙ or-left r.framing.asks_upgrade _ asks

effect-ends : (f : ℕ → Account) (found : Bool) (date : HttpDate) (old : Reached) (r : Request) (s : Slot) (turn : Bool) (step : StepValue) → AllTold old.slots f → slice_get old.slots (number_of step) ≡ Some s → s.item ≡ Asks r → accepts_step s.stage s.owed step ≡ true
    → Ends old step (effect found date old r s turn step)
effect-ends f found date old r s turn Ask h at is takes = ends-none old Ask NoSuch
effect-ends f found date old r s turn (AsReader k) h at is takes =
    let t : Slot = record s { owed = false; continued = Some date } in
    ends-if old (AsReader k) s.owed (changes old k t Done Unreported) (unchanged old Done)
    (λ owed. ends-kept old (AsReader k) k s t Done Unreported at (quiet-keeps s t r is (by-asreader s.stage s.owed k takes)))
    (λ owed. ends-none old (AsReader k) Done)
effect-ends f found date old r s turn (Read k n) h at is takes =
    let left = (rest_of r s.given).bytes in
    let t : Slot = record s { given = s.given + length (take n left); end_reported = s.end_reported || nat_lt (length left) n } in
    let i = accounts-at old.slots f k s r h at is in
    ends-if old (Read k n) (n == 0) (unchanged old (Given [])) (changes old k t (read_reply n left r.body.stop) Unused)
    (λ e. ends-none old (Read k n) (Given []))
    (λ e. ends-kept old (Read k n) k s t (read_reply n left r.body.stop) Unused at (λ st. stops-item t s.item r refl is (read-stops s t r s.stage s.owed k n i.given_up takes (item-stops s r is st))))
effect-ends f found date old r s turn (Respond k response) h at is takes =
    let u = by-respond s.stage s.owed k response takes in
    ends-if old (Respond k response) (refuses_response r response) (ends_asking (ends_when_finished r s.owed s.given s.end_reported) (changes old k (finished_as (closes_now r s.closes s.owed s.given s.end_reported) s ByServer) Refused (use_in_turn turn))) (answers found date (asked_to_close response.answer.closes old) r k response)
    (λ e. finished-ends old (Respond k response) k r s (f k) Refused (use_in_turn turn) at is u (accounts-at old.slots f k s r h at is))
    (λ e. asked-ends f found date old r s k response response.answer.closes refl h at is u)
effect-ends f found date old r s turn (IntoWriter k) h at is takes =
    let t : Slot = record s { stage = Raw [] false; given_up = true; owed = false } in
    let u = by-writer s.stage s.owed k takes in
    ends-set old (IntoWriter k) k s t Done Unused (ends_with_stream r s.owed s.given s.end_reported) at (quiet-keeps s t r is u)
    (λ last. stops-item t s.item r refl is (⊎_elim
    (λ holds. or-left r.framing.asks_upgrade (was_cut_short t r) (stream-asks r holds))
    (λ once. or-right r.framing.asks_upgrade (was_cut_short t r) (cut-short k r s (f k) (body_was_abandoned t (Asks r)) (accounts-at old.slots f k s r h at is) u once))
    (or-cases (holds_next_head r) (ends_when_finished r s.owed s.given s.end_reported) last)))
effect-ends f found date old r s turn (Write k bytes) h at is takes =
    let t : Slot = record s { stage = written_to bytes s.stage } in
    ends-kept old (Write k bytes) k s t Done (Reported bytes None false Fault) at (λ st. stops-item t s.item r refl is (written-stops s r bytes (written_to bytes s.stage) s.stage ∙ item-stops s r is st))
effect-ends f found date old r s turn (Flush k) h at is takes = ends-kept old (Flush k) k s s Done (Reported [] None true Fault) at (λ st. st)
effect-ends f found date old r s turn (Upgrade k protocol response) h at is takes =
    let u = by-upgrade s.stage s.owed k protocol response takes in
    let stage = Upgraded protocol response date [] false in
    let t = upgraded_slot r s stage in
    let goes = ends_with_stream r s.owed s.given s.end_reported in
    ends-if old (Upgrade k protocol response) (refuses_upgrade r s protocol response) (ends_asking (ends_when_finished r s.owed s.given s.end_reported) (changes old k (finished_as (closes_now r s.closes s.owed s.given s.end_reported) s ByServer) Refused (use_in_turn turn))) (ends_asking goes (changes old k t Done Unreported))
    (λ e. finished-ends old (Upgrade k protocol response) k r s (f k) Refused (use_in_turn turn) at is u (accounts-at old.slots f k s r h at is))
    (λ e. ends-set old (Upgrade k protocol response) k s t Done Unreported goes at (quiet-keeps s t r is u)
    (λ last. upgraded-stops r s stage protocol response date refl is (stream-asks r (⊎_elim
    (λ holds. holds)
    (λ once. upgrade-holds r s protocol response (and_parts r.framing.by_standard _ once).0 e)
    (or-cases (holds_next_head r) (ends_when_finished r s.owed s.given s.end_reported) last)))))
effect-ends f found date old r s turn (Finish k) h at is takes =
    let t = finished_as s.closes s (stage_closed s.stage) in
    ends-kept old (Finish k) k s t Done (use_in_turn turn) at (λ st. stops-item t s.item r refl is (closed-stops s t r s.stage refl refl refl refl (item-stops s r is st)))
effect-ends f found date old r s turn (Drop k) h at is takes =
    finished-ends old (Drop k) k r s (f k) Done (use_in_turn turn) at is (by-drop s.stage s.owed k takes) (accounts-at old.slots f k s r h at is)

number-ends : (f : ℕ → Account) (found : Bool) (date : HttpDate) (old : Reached) (step : StepValue) → AllTold old.slots f → Ends old step (at_number found date old (number_of step) step)
number-ends f found date old step h = go (slice_get old.slots (number_of step)) refl
  where
    item : (s : Slot) (i : Item) → slice_get old.slots (number_of step) ≡ Some s → s.item ≡ i → Ends old step (at_item found date old (number_of step) step s i)
    item s (Refuses refusal manner no_body last) at is = ends-none old step NoSuch
    item s (Asks r) at is =
        let turn = turn_has_come (number_of step) old.slots in
        ends-if old step (not (accepts_step s.stage s.owed step)) (unchanged old NoSuch)
        (if (needs_turn r s step && not turn) then unchanged old NotYet else effect found date old r s turn step)
        (λ no. ends-none old step NoSuch)
        (λ takes. ends-if old step (needs_turn r s step && not turn) (unchanged old NotYet) (effect found date old r s turn step)
        (λ waits. ends-none old step NotYet)
        (λ goes. effect-ends f found date old r s turn step h at is (not-true takes)))

    go : (o : Option Slot) → slice_get old.slots (number_of step) ≡ o → Ends old step (at_slot found date old (number_of step) step o)
    go None e = ends-none old step NoSuch
    go (Some s) e = item s s.item e refl

-- ---- an Ask

-- a chunked body that was given up stops the requests
abandoned-stops : (s : Slot) (r : Request) (stage : Stage) → s.given_up ≡ is_given_up stage → body_was_abandoned s (Asks r) ≡ true → stops_by s r stage ≡ true
abandoned-stops s r Unanswered given lost =
    let parts = and_parts (is_chunked_form r.framing.form) (s.given_up && not s.end_reported) lost in
    let up = (and_parts s.given_up (not s.end_reported) parts.1).0 in
    never (sym given ∙ up)
abandoned-stops s r (Answered response date found) given lost = or-left (body_was_abandoned s (Asks r)) _ lost
abandoned-stops s r ByServer given lost = or-left (body_was_abandoned s (Asks r)) _ lost
abandoned-stops s r (Raw written closed) given lost = or-right r.framing.asks_upgrade (was_cut_short s r) (or-left (body_was_abandoned s (Asks r)) _ lost)
abandoned-stops s r (Upgraded protocol response date written closed) given lost = or-right r.framing.asks_upgrade (body_was_abandoned s (Asks r)) lost

last-abandoned : (f : ℕ → Account) (slots : List Slot) (o : Option Slot) → last_slot slots ≡ o → AllTold slots f → last_was_abandoned o ≡ true → OneStops slots
last-abandoned f slots None e h lost = never lost
last-abandoned f slots (Some s) e h lost =
    let n = last-number slots s e in
    (n.0, s, n.1, by s.item (f n.0) n.0 (h.here n.0 s n.1) lost)
  where
    by : (item : Item) (a : Account) (k : ℕ) → IsTold k s item a → body_was_abandoned s item ≡ true → stops s item ≡ true
    by (Asks r) a k i l = abandoned-stops s r s.stage i.given_up l
    by (Refuses refusal manner no_body last) a k i l = never l

record Asked (old slots : List Slot) (o : Outcome) : Type 0 where
  keeps : OneStops old → OneStops o.slots
  begins : o.asking_ended ≡ true → o.rest ≡ []

asks-end : (old : List Slot) (date : HttpDate) (w : WriterUse) (slots : List Slot) (items : List Item) → (OneStops old → OneStops slots) → Asked old slots (asks_from date w slots items)
asks-end old date w slots [] keeps = record { keeps = keeps; begins = λ e. refl }
asks-end old date w slots (Asks r ∷ items) keeps = record { keeps = λ one. one-more slots (new_slot date (Asks r) ∷ []) (keeps one); begins = λ e. never e }
asks-end old date w slots (Refuses refusal manner no_body last ∷ items) keeps =
    let item = Refuses refusal manner no_body last in
    let more = asks-end old date (if turn_has_come (length slots) slots then Unreported else w) (slots ++ new_slot date item ∷ []) items (λ one. one-more slots (new_slot date item ∷ []) (keeps one)) in
    record { keeps = more.keeps; begins = more.begins }

ask-ends : (f : ℕ → Account) (date : HttpDate) (old : Reached) → AllTold old.slots f → Ends old Ask (ask date old)
ask-ends f date old h =
    let left : Outcome = record { reply = Ended; slots = old.slots; rest = old.rest; asking_ended = true; writer = Unused } in
    let goes = asks_from date Unused old.slots old.rest in
    ends-if old Ask old.asking_ended (unchanged old Ended) (if last_holds_reader (last_slot old.slots) then unchanged old NotYet else if last_was_abandoned (last_slot old.slots) then left else goes)
    (λ e. ends-none old Ask Ended)
    (λ e. ends-if old Ask (last_holds_reader (last_slot old.slots)) (unchanged old NotYet) (if last_was_abandoned (last_slot old.slots) then left else goes)
    (λ e. ends-none old Ask NotYet)
    (λ e. ends-if old Ask (last_was_abandoned (last_slot old.slots)) left goes
    (λ lost. record { keeps = λ one. one; begins = λ x. inr (inr (inl (last-abandoned f old.slots (last_slot old.slots) refl h lost))) })
    (λ e. (let a = asks-end old.slots date Unused old.slots old.rest (λ one. one) in record { keeps = a.keeps; begins = λ x. inr (inl (a.begins x)) }))))

outcome-ends : (f : ℕ → Account) (found : Bool) (date : HttpDate) (old : Reached) (step : StepValue) → AllTold old.slots f → Ends old step (outcome found date old step)
outcome-ends f found date old Ask h = ask-ends f date old h
outcome-ends f found date old (AsReader k) h = number-ends f found date old (AsReader k) h
outcome-ends f found date old (Read k n) h = number-ends f found date old (Read k n) h
outcome-ends f found date old (Respond k response) h = number-ends f found date old (Respond k response) h
outcome-ends f found date old (IntoWriter k) h = number-ends f found date old (IntoWriter k) h
outcome-ends f found date old (Write k bytes) h = number-ends f found date old (Write k bytes) h
outcome-ends f found date old (Flush k) h = number-ends f found date old (Flush k) h
outcome-ends f found date old (Upgrade k protocol response) h = number-ends f found date old (Upgrade k protocol response) h
outcome-ends f found date old (Finish k) h = number-ends f found date old (Finish k) h
outcome-ends f found date old (Drop k) h = number-ends f found date old (Drop k) h

-- ---- a run

-- the same of a step and its reply
record StepEnds (old : State) (step : StepValue) (reply : ReplyValue) (new : State) : Type 0 where
  keeps : OneStops old.reached.slots → OneStops new.reached.slots
  begins : new.reached.asking_ended ≡ true → (old.reached.asking_ended ≡ true) ⊎ ((new.reached.rest ≡ []) ⊎ (OneStops new.reached.slots ⊎ EndsRequests step reply))

step-ends : (f : ℕ → Account) (old : State) (date : HttpDate) (step : StepValue) (reply : ReplyValue) (new : State) → AllTold old.reached.slots f → StepsTo old date step reply new → StepEnds old step reply new
step-ends f old date step reply new h (inl g) =
    let o = outcome g.0 date old.reached step in
    let ends = outcome-ends f g.0 date old.reached step h in
    let alike = planned-alike o old reply new (outcome-tells f g.0 date old.reached step h).may g.2 in
    let slots : new.reached.slots ≡ o.slots = ap (λ (x : Reached). x.slots) g.2.0 in
    let rest : new.reached.rest ≡ o.rest = ap (λ (x : Reached). x.rest) g.2.0 in
    let ended : new.reached.asking_ended ≡ o.asking_ended = ap (λ (x : Reached). x.asking_ended) g.2.0 in
    record {
      keeps = λ one. subst OneStops (sym slots) (ends.keeps one);
      begins = λ e. ⊎_elim (λ was. inl was)
          (λ now. inr (⊎_elim (λ all. inl (rest ∙ all)) (λ more. inr (⊎_elim (λ one. inl (subst OneStops (sym slots) one)) (λ x. inr (x reply alike)) more)) now))
          (ends.begins (sym ended ∙ e));
    }
step-ends f old date Ask reply new h (inr m) =
    let refused = m.4 in
    let w = answers_to old.reached.slots refused in
    let o : Outcome = record { reply = Memory; slots = old.reached.slots ++ map (new_slot date) refused; rest = m.5; asking_ended = true; writer = w } in
    let slots : new.reached.slots ≡ o.slots = ap (λ (x : Reached). x.slots) m.8.0 in
    record {
      keeps = λ one. subst OneStops (sym slots) (one-more old.reached.slots (map (new_slot date) refused) one);
      begins = λ e. inr (inr (inr (own-planned o old reply new (own-answers old.reached.slots refused) m.8)));
    }
step-ends f old date (Read k n) reply new h (inr m) =
    let P : State → Type 0 = λ x. StepEnds old (Read k n) reply x in
    subst P (sym m.3) (record { keeps = λ one. one; begins = λ e. inl e })
step-ends f old date (AsReader k) reply new h (inr m) = elim m [ ]
step-ends f old date (Respond k a) reply new h (inr m) = elim m [ ]
step-ends f old date (IntoWriter k) reply new h (inr m) = elim m [ ]
step-ends f old date (Write k b) reply new h (inr m) = elim m [ ]
step-ends f old date (Flush k) reply new h (inr m) = elim m [ ]
step-ends f old date (Upgrade k p a) reply new h (inr m) = elim m [ ]
step-ends f old date (Finish k) reply new h (inr m) = elim m [ ]
step-ends f old date (Drop k) reply new h (inr m) = elim m [ ]

-- once the asking has ended
ended-run : (f : ℕ → Account) (old new : State) (steps : List TimedValue) (replies : List ReplyValue) → AllTold old.reached.slots f → Run old steps replies new → old.reached.asking_ended ≡ true → (old.reached.rest ≡ []) ⊎ OneStops old.reached.slots
    → (new.reached.rest ≡ []) ⊎ OneStops new.reached.slots
ended-run f old new [] [] h run e why = let P : State → Type 0 = λ x. (x.reached.rest ≡ []) ⊎ OneStops x.reached.slots in subst P (sym run) why
ended-run f old new [] (x ∷ replies) h run e why = elim run [ ]
ended-run f old new (s ∷ steps) [] h run e why = elim run [ ]
ended-run f old new (s ∷ steps) (x ∷ replies) h run e why =
    let stay = steps-stay old s.0 s.1 x run.0 e run.1 in
    let step = step-ends f old s.0 s.1 x run.0 h run.1 in
    ended-run (λ k. account_now k s.0 s.1 x (f k)) run.0 new steps replies (step-accounts f old s.0 s.1 x run.0 h run.1) run.2 stay.0
    (⊎_elim (λ all. inl (stay.1 ∙ all)) (λ one. inr (step.keeps one)) why)

run-ends : (f : ℕ → Account) (old new : State) (steps : List TimedValue) (replies : List ReplyValue) → AllTold old.reached.slots f → Run old steps replies new → old.reached.asking_ended ≡ false → new.reached.asking_ended ≡ true
    → (new.reached.rest ≡ []) ⊎ (OneStops new.reached.slots ⊎ OneEndsRequests steps replies)
run-ends f old new [] [] h run goes e = let no : false ≡ true = sym goes ∙ ap (λ (x : State). x.reached.asking_ended) (sym run) ∙ e in cc
run-ends f old new [] (x ∷ replies) h run goes e = elim run [ ]
run-ends f old new (s ∷ steps) [] h run goes e = elim run [ ]
run-ends f old new (s ∷ steps) (x ∷ replies) h run goes e = by (λ on. run-ends g mid new steps replies told_mid run.2 on e) mid.reached.asking_ended refl
  where
    mid : State
    mid = run.0

    g : ℕ → Account
    g k = account_now k s.0 s.1 x (f k)

    told_mid : AllTold mid.reached.slots g
    told_mid = step-accounts f old s.0 s.1 x mid h run.1

    from : (mid.reached.rest ≡ []) ⊎ OneStops mid.reached.slots → mid.reached.asking_ended ≡ true → (new.reached.rest ≡ []) ⊎ (OneStops new.reached.slots ⊎ OneEndsRequests (s ∷ steps) (x ∷ replies))
    from why ended = ⊎_elim (λ all. inl all) (λ one. inr (inl one)) (ended-run g mid new steps replies told_mid run.2 ended why)

    by : (mid.reached.asking_ended ≡ false → (new.reached.rest ≡ []) ⊎ (OneStops new.reached.slots ⊎ OneEndsRequests steps replies)) → (b : Bool) → mid.reached.asking_ended ≡ b → (new.reached.rest ≡ []) ⊎ (OneStops new.reached.slots ⊎ OneEndsRequests (s ∷ steps) (x ∷ replies))
    by later false on = ⊎_elim (λ all. inl all) (λ more. inr (⊎_elim (λ one. inl one) (λ after. inr (inr after)) more)) (later on)
    by later true ended =
        ⊎_elim (λ was. let no : false ≡ true = sym goes ∙ was in cc)
        (λ now. ⊎_elim (λ all. from (inl all) ended) (λ more. ⊎_elim (λ one. from (inr one) ended) (λ step. inr (inr (inl step))) more) now)
        ((step-ends f old s.0 s.1 x mid h run.1).begins ended)

-- an Ask that is answered by the end has ended the asking
ask-ended : (date : HttpDate) (old : Reached) → IsOwn (ask date old).writer × ((ask date old).reply ≡ Ended → (ask date old).asking_ended ≡ true)
ask-ended date old = by old.asking_ended refl (last_holds_reader (last_slot old.slots)) (last_was_abandoned (last_slot old.slots))
  where
    left : Outcome
    left = record { reply = Ended; slots = old.slots; rest = old.rest; asking_ended = true; writer = Unused }

    goes : Outcome
    goes = asks_from date Unused old.slots old.rest

    own-if : (b : Bool) (w : WriterUse) → IsOwn w → IsOwn (if b then Unreported else w)
    own-if true w o = tt
    own-if false w o = o

    heads : (w : WriterUse) (slots : List Slot) (items : List Item) → IsOwn w → IsOwn (asks_from date w slots items).writer × ((asks_from date w slots items).reply ≡ Ended → (asks_from date w slots items).asking_ended ≡ true)
    heads w slots [] o = (o, λ e. refl)
    heads w slots (Asks r ∷ items) o = (o, λ e. cc)
    heads w slots (Refuses refusal manner no_body last ∷ items) o = heads (if turn_has_come (length slots) slots then Unreported else w) (slots ++ new_slot date (Refuses refusal manner no_body last) ∷ []) items (own-if (turn_has_come (length slots) slots) w o)

    by : (a : Bool) → old.asking_ended ≡ a → (b c : Bool)
        → IsOwn (if a then unchanged old Ended else if b then unchanged old NotYet else if c then left else goes).writer
        × ((if a then unchanged old Ended else if b then unchanged old NotYet else if c then left else goes).reply ≡ Ended → (if a then unchanged old Ended else if b then unchanged old NotYet else if c then left else goes).asking_ended ≡ true)
    by true e b c = (tt, λ x. e)
    by false e true c = (tt, λ x. cc)
    by false e false true = (tt, λ x. refl)
    by false e false false = heads Unused old.slots old.rest tt

step-ended : (old : State) (date : HttpDate) (new : State) → StepsTo old date Ask Ended new → new.reached.asking_ended ≡ true
step-ended old date new (inl g) =
    let a = ask-ended date old.reached in
    ap (λ (x : Reached). x.asking_ended) g.2.0 ∙ a.1 (sym (own-planned (ask date old.reached) old Ended new a.0 g.2))
step-ended old date new (inr m) = ap (λ (x : Reached). x.asking_ended) m.8.0

run-ended : (old new : State) (steps : List TimedValue) (replies : List ReplyValue) → Run old steps replies new → old.reached.asking_ended ≡ true → new.reached.asking_ended ≡ true
run-ended old new [] [] run e = ap (λ (x : State). x.reached.asking_ended) run ∙ e
run-ended old new [] (x ∷ replies) run e = elim run [ ]
run-ended old new (s ∷ steps) [] run e = elim run [ ]
run-ended old new (s ∷ steps) (x ∷ replies) run e = run-ended run.0 new steps replies run.2 (steps-stay old s.0 s.1 x run.0 e run.1).0

has-ended : (old new : State) (steps : List TimedValue) (replies : List ReplyValue) → Run old steps replies new → HasEnd steps replies → new.reached.asking_ended ≡ true
has-ended old new [] [] run e = elim e [ ]
has-ended old new [] (x ∷ replies) run e = elim run [ ]
has-ended old new (s ∷ steps) [] run e = elim run [ ]
has-ended old new (s ∷ steps) (x ∷ replies) run (inr e) = has-ended run.0 new steps replies run.2 e
has-ended old new (s ∷ steps) (x ∷ replies) run (inl e) = run-ended run.0 new steps replies run.2 (by s.1 x e run.1)
  where
    by : (step : StepValue) (reply : ReplyValue) → IsEnd step reply → StepsTo old s.0 step reply run.0 → run.0.reached.asking_ended ≡ true
    by Ask Ended end step = step-ended old s.0 run.0 step
    by Ask (Handed k message framing) end step = elim end [ ]
    by Ask (Given bytes) end step = elim end [ ]
    by Ask (Fault kind) end step = elim end [ ]
    by Ask NotYet end step = elim end [ ]
    by Ask Done end step = elim end [ ]
    by Ask Refused end step = elim end [ ]
    by Ask NoSuch end step = elim end [ ]
    by Ask Memory end step = elim end [ ]
    by (AsReader k) reply end step = elim end [ ]
    by (Read k n) reply end step = elim end [ ]
    by (Respond k a) reply end step = elim end [ ]
    by (IntoWriter k) reply end step = elim end [ ]
    by (Write k b) reply end step = elim end [ ]
    by (Flush k) reply end step = elim end [ ]
    by (Upgrade k p a) reply end step = elim end [ ]
    by (Finish k) reply end step = elim end [ ]
    by (Drop k) reply end step = elim end [ ]

pub end-has_reason : (p : Profile) (feed : Feed) (before after : Sink) (steps : List TimedValue) (replies : List ReplyValue) (held : List ℕ) (ended : Bool) (unread : Option Feed)
    → (c : IsConversation p feed before steps replies after held ended unread) → HasEnd steps replies
    → ((requests_from 0 c.items ≡ handed replies) × (length c.end.reached.slots ≡ length c.items)) ⊎ (OneStops c.end.reached.slots ⊎ OneEndsRequests steps replies)
end-has_reason p feed before after steps replies held ended unread c e =
    let start = start_state c.items in
    let over = has-ended start c.end steps replies c.run e in
    ⊎_elim
    (λ all.
    let f = run-found c.items c.end steps replies c.run in
    let whole : c.items ≡ f.reached = f.splits ∙ ap (λ l. f.reached ++ l) all ∙ append-nil f.reached in
    inl ((run-moves start c.end steps replies c.run).requests ∙ ap (λ l. handed replies ++ requests_from (length c.end.reached.slots) l) all ∙ append-nil (handed replies), sym (matches-length c.end.reached.slots f.reached f.matches) ∙ ap length (sym whole)))
    (λ more. inr more)
    (run-ends (λ k. untouched) start c.end steps replies none-accounts c.run refl over)
