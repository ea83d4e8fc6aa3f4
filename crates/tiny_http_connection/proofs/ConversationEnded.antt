-- Once the asking has ended, what isn't reached stays so; and what comes behind a pipeline.
use Rattle.std.proofs.Common.{◌≡◌, refl, sym, ap, ◌∙◌, subst, ℕ, Bool, true, false, not, ◌&&◌, ◌||◌, ◌==◌, ◌⊎◌, inl, inr, List, [], ◌∷◌, ◌++◌, Option, Some, None}
use Rattle.std.specs.Prelude.{if◌then◌else◌, slice_get}
use Rattle.httpdate.specs.declared.date.HttpDate.{HttpDate}
use Rattle.tiny_http_io.specs.Device.{Feed}
use Rattle.tiny_http_io.specs.declared.device.Stop.{Stop}
use Rattle.tiny_http_body.specs.declared.framing.Profile.{Profile}
use Rattle.tiny_http_open_request.specs.Pipeline.{Item, Asks, Refuses, Request, Place, Pipeline}
use Rattle.tiny_http_open_request.proofs.PipelineLemmas.{pipeline-first, pipeline-none}
use Rattle.tiny_http_response.specs.ResponseValue.{ResponseValue}
use Rattle.tiny_http_connection.specs.Segments.{Slot}
use Rattle.tiny_http_connection.specs.Slots.{turn_has_come, refuses_response, refuses_upgrade, ends_when_finished}
use Rattle.tiny_http_connection.specs.Steps.{StepValue, Ask, AsReader, Read, Respond, IntoWriter, Write, Flush, Upgrade, Finish, Drop, ReplyValue, Ended, TimedValue}
use Rattle.tiny_http_connection.specs.Outcomes.{Reached, Outcome, unchanged, asked_to_close, ends_with_stream, answers_slot, effect, at_item, at_slot, accepts_step, needs_turn, ask, outcome}
use Rattle.tiny_http_connection.specs.Conversation.{State, StepsTo, Run, HasAskOutOfMemory, IsAskOutOfMemory, BeginsBehind}
use Rattle.tiny_http_connection.specs.Connection.{BeginsMore}

-- what isn't reached stays so, and no head is read any more
abbrev Stays : Reached → Outcome → Type 0
Stays old o = (o.rest ≡ old.rest) × (o.asking_ended ≡ true)

if-stays : (old : Reached) (b : Bool) (x y : Outcome) → Stays old x → Stays old y → Stays old (if b then x else y)
if-stays old true x y h k = h
if-stays old false x y h k = k

asked-ended : (closes : Bool) (old : Reached) → old.asking_ended ≡ true → (asked_to_close closes old).asking_ended ≡ true
asked-ended true old e = refl
asked-ended false old e = e

asked-rest : (closes : Bool) (old : Reached) → (asked_to_close closes old).rest ≡ old.rest
asked-rest true old = refl
asked-rest false old = refl

answers-stay : (found : Bool) (date : HttpDate) (old : Reached) (r : Request) (k : ℕ) (response : ResponseValue) (o : Option Slot) → old.asking_ended ≡ true → Stays old (answers_slot found date old r k response o)
answers-stay found date old r k response None e = (refl, e)
answers-stay found date old r k response (Some s) e = (refl, ap (λ x. x || ends_when_finished r s.owed s.given s.end_reported) e)

-- whatever the step is
effect-stays : (found : Bool) (date : HttpDate) (old : Reached) (r : Request) (s : Slot) (turn : Bool) (step : StepValue) → old.asking_ended ≡ true → Stays old (effect found date old r s turn step)
effect-stays found date old r s turn Ask e = (refl, e)
effect-stays found date old r s turn (AsReader k) e = if-stays old s.owed _ _ (refl, e) (refl, e)
effect-stays found date old r s turn (Read k n) e = if-stays old (n == 0) _ _ (refl, e) (refl, e)
effect-stays found date old r s turn (Respond k response) e =
    let closed = asked_to_close response.answer.closes old in
    let h = answers-stay found date closed r k response (slice_get closed.slots k) (asked-ended response.answer.closes old e) in
    if-stays old (refuses_response r response) _ _ (refl, ap (λ x. x || ends_when_finished r s.owed s.given s.end_reported) e) (h.0 ∙ asked-rest response.answer.closes old, h.1)
effect-stays found date old r s turn (IntoWriter k) e = (refl, ap (λ x. x || ends_with_stream r s.owed s.given s.end_reported) e)
effect-stays found date old r s turn (Write k bytes) e = (refl, e)
effect-stays found date old r s turn (Flush k) e = (refl, e)
effect-stays found date old r s turn (Upgrade k protocol response) e =
    if-stays old (refuses_upgrade r s protocol response) _ _ (refl, ap (λ x. x || ends_when_finished r s.owed s.given s.end_reported) e) (refl, ap (λ x. x || ends_with_stream r s.owed s.given s.end_reported) e)
effect-stays found date old r s turn (Finish k) e = (refl, e)
effect-stays found date old r s turn (Drop k) e = (refl, ap (λ x. x || ends_when_finished r s.owed s.given s.end_reported) e)

item-stays : (found : Bool) (date : HttpDate) (old : Reached) (k : ℕ) (step : StepValue) (s : Slot) (item : Item) → old.asking_ended ≡ true → Stays old (at_item found date old k step s item)
item-stays found date old k step s (Refuses refusal manner no_body last) e = (refl, e)
item-stays found date old k step s (Asks r) e =
    if-stays old (not (accepts_step s.stage s.owed step)) _ _ (refl, e)
    (if-stays old (needs_turn r s step && not (turn_has_come k old.slots)) _ _ (refl, e) (effect-stays found date old r s (turn_has_come k old.slots) step e))

slot-stays : (found : Bool) (date : HttpDate) (old : Reached) (k : ℕ) (step : StepValue) (o : Option Slot) → old.asking_ended ≡ true → Stays old (at_slot found date old k step o)
slot-stays found date old k step None e = (refl, e)
slot-stays found date old k step (Some s) e = item-stays found date old k step s s.item e

outcome-stays : (found : Bool) (date : HttpDate) (old : Reached) (step : StepValue) → old.asking_ended ≡ true → Stays old (outcome found date old step)
outcome-stays found date old Ask e = let is : ask date old ≡ unchanged old Ended = rw e refl in subst (λ o. Stays old o) (sym is) (refl, e)
outcome-stays found date old (AsReader k) e = slot-stays found date old k (AsReader k) (slice_get old.slots k) e
outcome-stays found date old (Read k n) e = slot-stays found date old k (Read k n) (slice_get old.slots k) e
outcome-stays found date old (Respond k response) e = slot-stays found date old k (Respond k response) (slice_get old.slots k) e
outcome-stays found date old (IntoWriter k) e = slot-stays found date old k (IntoWriter k) (slice_get old.slots k) e
outcome-stays found date old (Write k bytes) e = slot-stays found date old k (Write k bytes) (slice_get old.slots k) e
outcome-stays found date old (Flush k) e = slot-stays found date old k (Flush k) (slice_get old.slots k) e
outcome-stays found date old (Upgrade k protocol response) e = slot-stays found date old k (Upgrade k protocol response) (slice_get old.slots k) e
outcome-stays found date old (Finish k) e = slot-stays found date old k (Finish k) (slice_get old.slots k) e
outcome-stays found date old (Drop k) e = slot-stays found date old k (Drop k) (slice_get old.slots k) e

-- once the asking has ended a step leaves the rest
pub steps-stay : (s : State) (date : HttpDate) (step : StepValue) (reply : ReplyValue) (new : State) → s.reached.asking_ended ≡ true → StepsTo s date step reply new → (new.reached.asking_ended ≡ true) × (new.reached.rest ≡ s.reached.rest)
steps-stay s date step reply new e (inl (found, lacks, h)) =
    let k = outcome-stays found date s.reached step e in
    (ap (λ (x : Reached). x.asking_ended) h.0 ∙ k.1, ap (λ (x : Reached). x.rest) h.0 ∙ k.0)
steps-stay s date Ask reply new e (inr h) = let no : true ≡ false = sym e ∙ h.0 in cc
steps-stay s date (Read k n) reply new e (inr h) = (ap (λ (x : State). x.reached.asking_ended) h.3 ∙ e, ap (λ (x : State). x.reached.rest) h.3)
steps-stay s date (AsReader k) reply new e (inr h) = elim h [ ]
steps-stay s date (Respond k response) reply new e (inr h) = elim h [ ]
steps-stay s date (IntoWriter k) reply new e (inr h) = elim h [ ]
steps-stay s date (Write k bytes) reply new e (inr h) = elim h [ ]
steps-stay s date (Flush k) reply new e (inr h) = elim h [ ]
steps-stay s date (Upgrade k protocol response) reply new e (inr h) = elim h [ ]
steps-stay s date (Finish k) reply new e (inr h) = elim h [ ]
steps-stay s date (Drop k) reply new e (inr h) = elim h [ ]

-- one step more
pub vain-snoc : (old end : State) (steps : List TimedValue) (replies : List ReplyValue) (x : TimedValue) (r : ReplyValue) → Run old steps replies end → HasAskOutOfMemory (steps ++ x ∷ []) (replies ++ r ∷ []) → HasAskOutOfMemory steps replies ⊎ IsAskOutOfMemory x.1 r
vain-snoc old end [] [] x r run (inl v) = inr v
vain-snoc old end [] [] x r run (inr v) = elim v [ ]
vain-snoc old end [] (y ∷ replies) x r run v = absurd run
vain-snoc old end (s ∷ steps) [] x r run v = absurd run
vain-snoc old end (s ∷ steps) (y ∷ replies) x r run (inl v) = inl (inl v)
vain-snoc old end (s ∷ steps) (y ∷ replies) x r run (inr v) = by (vain-snoc run.0 end steps replies x r run.2 v)
  where
    by : HasAskOutOfMemory steps replies ⊎ IsAskOutOfMemory x.1 r → HasAskOutOfMemory (s ∷ steps) (y ∷ replies) ⊎ IsAskOutOfMemory x.1 r
    by (inl h) = inl (inr h)
    by (inr h) = inr h

-- one pipeline stands in the bytes
one-pipeline : (p : Profile) (place : Place) (stop : Stop) (xs ys : List Item) → Pipeline p place stop xs → Pipeline p place stop ys → xs ≡ ys
one-pipeline p None stop [] [] h k = refl
one-pipeline p None stop [] (y ∷ ys) h k = elim k [ ]
one-pipeline p None stop (x ∷ xs) ys h k = elim h [ ]
one-pipeline p (Some bytes) stop [] ys h k = sym (pipeline-none p bytes stop ys h k)
one-pipeline p (Some bytes) stop (x ∷ xs) ys h k =
    let f = pipeline-first p bytes stop x h.0 ys h.1 k in
    ap (λ l. x ∷ l) (one-pipeline p h.0 stop xs f.0 h.2 f.2) ∙ sym f.1

pub begins-behind_items : (p : Profile) (client : Feed) (items : List Item) → Pipeline p (Some client.bytes) client.stop items → BeginsMore p client → BeginsBehind p (Some client.bytes) client.stop items
begins-behind_items p client items h m = subst (λ l. BeginsBehind p (Some client.bytes) client.stop l) (one-pipeline p (Some client.bytes) client.stop m.0 items m.1 h) m.2
