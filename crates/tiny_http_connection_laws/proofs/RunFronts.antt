-- The output of a run is a front of the joined output, however the writer failed.
use Rattle.std.proofs.Common.{◌≡◌, refl, sym, ap, ◌∙◌, subst, ℕ, Bool, true, false, not, ◌&&◌, List, [], ◌∷◌, ◌++◌, map, length, Option, Some, None, append-nil, ⊎_elim}
use Rattle.std.specs.Prelude.{if◌then◌else◌, slice_get, is_some, MatchBool}
use Rattle.httpdate.specs.declared.date.HttpDate.{HttpDate}
use Rattle.tiny_http_io.specs.Device.{Sink, IsFront}
use Rattle.tiny_http_open_request.specs.Pipeline.{Item, Asks, Refuses}
use Rattle.tiny_http_io.proofs.DeviceLemmas.{IsFront-append}
use Rattle.tiny_http_response.proofs.SendingLemmas.{or-parts}
use Rattle.tiny_http_connection.specs.Segments.{Slot}
use Rattle.tiny_http_connection.specs.Slots.{is_output_broken, joined, turn_has_come, new_slot, last_slot, last_holds_reader, last_was_abandoned}
use Rattle.tiny_http_connection.specs.Steps.{StepValue, Ask, AsReader, Read, Respond, IntoWriter, Write, Flush, Upgrade, Finish, Drop, ReplyValue, Ended, NotYet, NoSuch, Memory, TimedValue, number_of}
use Rattle.tiny_http_connection.specs.Outcomes.{WriterUse, Unused, Unreported, Reported, Outcome, Reached, unchanged, asks_from, ask, accepts_step, needs_turn, effect, at_item, at_slot, at_number, outcome}
use Rattle.tiny_http_connection.specs.Conversation.{Failure, State, Fares, Well, FailsWithin, FailsAfter, MayFare, failure_in, writes_nothing, reply_in, HasOutcome, FindsNoMemory, answers_to, StepsTo, Run, start_state, IsOutput}
use Rattle.tiny_http_connection_laws.proofs.JoinedGrows.{joined-grows, AddsOwn, in-turn-ownless}
use Rattle.tiny_http_connection_laws.proofs.StepsAdd.{ItemFits, IsSound, AllSound, AllFit, all-append, all-parts, Keeps, Holds, keeps-if, effect-keeps}

keeps-unchanged : (bs : Bool) (old : Reached) (reply : ReplyValue) → Holds bs old → Keeps bs old (unchanged old reply)
keeps-unchanged bs old reply h = record { adds = record { front = ([], sym (append-nil (joined old.slots))); own = tt }; slots = h.slots; rest = h.rest }

pub not-true : {b : Bool} → not b ≡ false → b ≡ true
not-true {b = true} e = refl
not-true {b = false} e = cc

-- a turn that has come, where the step had to wait for it
come : (needs turn : Bool) → (needs && not turn) ≡ false → needs ≡ true → turn ≡ true
come true true e n = refl
come true false e n = cc
come false turn e n = cc

item-keeps : (bs : Bool) (found : Bool) (date : HttpDate) (old : Reached) (step : StepValue) (s : Slot) (item : Item) → Holds bs old → slice_get old.slots (number_of step) ≡ Some s → s.item ≡ item
    → Keeps bs old (at_item found date old (number_of step) step s item)
item-keeps bs found date old step s (Refuses refusal version no_body last) h here is = keeps-unchanged bs old NoSuch h
item-keeps bs found date old step s (Asks r) h here is =
    let k = number_of step in
    let turn = turn_has_come k old.slots in
    keeps-if bs old (not (accepts_step s.stage s.owed step)) (unchanged old NoSuch)
    (if (needs_turn r s step && not turn) then unchanged old NotYet else effect found date old r s turn step)
    (λ no. keeps-unchanged bs old NoSuch h)
    (λ takes. keeps-if bs old (needs_turn r s step && not turn) (unchanged old NotYet) (effect found date old r s turn step)
    (λ waits. keeps-unchanged bs old NotYet h)
    (λ goes. effect-keeps bs found date old r s turn step h here is (not-true takes) (come (needs_turn r s step) turn goes)))

slot-keeps : (bs : Bool) (found : Bool) (date : HttpDate) (old : Reached) (step : StepValue) (o : Option Slot) → Holds bs old → slice_get old.slots (number_of step) ≡ o → Keeps bs old (at_slot found date old (number_of step) step o)
slot-keeps bs found date old step None h here = keeps-unchanged bs old NoSuch h
slot-keeps bs found date old step (Some s) h here = item-keeps bs found date old step s s.item h here refl

number-keeps : (bs : Bool) (found : Bool) (date : HttpDate) (old : Reached) (step : StepValue) → Holds bs old → Keeps bs old (at_number found date old (number_of step) step)
number-keeps bs found date old step h = slot-keeps bs found date old step (slice_get old.slots (number_of step)) h refl

-- heads that are asked for, and refused on the way
new-sound : (bs : Bool) (date : HttpDate) (item : Item) → ItemFits bs item → IsSound bs (new_slot date item)
new-sound bs date (Asks r) f = record { unsent = λ o. refl; fits = f }
new-sound bs date (Refuses refusal version no_body last) f = record { unsent = λ o. refl; fits = f }

abbrev IsOwnless : WriterUse → Type 0
IsOwnless Unused = Unit {0}
IsOwnless Unreported = Unit {0}
IsOwnless (Reported own broken flushes report) = ⊥

ownless-adds : (w : WriterUse) (old new : List Slot) → IsOwnless w → AddsOwn w old new
ownless-adds Unused old new h = tt
ownless-adds Unreported old new h = tt
ownless-adds (Reported own broken flushes report) old new h = elim h [ ]

ownless-if : (b : Bool) (w : WriterUse) → IsOwnless w → IsOwnless (if b then Unreported else w)
ownless-if true w h = tt
ownless-if false w h = h

asks-keep : (bs : Bool) (date : HttpDate) (w : WriterUse) (old : Reached) (slots : List Slot) (items : List Item) → IsOwnless w → IsFront (joined old.slots) (joined slots) → AllSound bs slots → AllFit bs items → Keeps bs old (asks_from date w slots items)
asks-keep bs date w old slots [] o f h i = record { adds = record { front = f; own = ownless-adds w old.slots slots o }; slots = h; rest = tt }
asks-keep bs date w old slots (Asks r ∷ items) o f h i =
    let more = slots ++ new_slot date (Asks r) ∷ [] in
    let front = IsFront-append (joined old.slots) (joined slots) (joined more) f (joined-grows slots (new_slot date (Asks r) ∷ [])) in
    record { adds = record { front = front; own = ownless-adds w old.slots more o }; slots = all-append (IsSound bs) slots (new_slot date (Asks r) ∷ []) h (new-sound bs date (Asks r) i.0, tt); rest = i.1 }
asks-keep bs date w old slots (Refuses refusal version no_body last ∷ items) o f h i =
    let item = Refuses refusal version no_body last in
    let more = slots ++ new_slot date item ∷ [] in
    let front = IsFront-append (joined old.slots) (joined slots) (joined more) f (joined-grows slots (new_slot date item ∷ [])) in
    asks-keep bs date (if turn_has_come (length slots) slots then Unreported else w) old more items (ownless-if (turn_has_come (length slots) slots) w o) front
    (all-append (IsSound bs) slots (new_slot date item ∷ []) h (new-sound bs date item i.0, tt)) i.1

ask-keeps : (bs : Bool) (date : HttpDate) (old : Reached) → Holds bs old → Keeps bs old (ask date old)
ask-keeps bs date old h =
    let left : Outcome = record { reply = Ended; slots = old.slots; rest = old.rest; asking_ended = true; writer = Unused } in
    let goes = asks_from date Unused old.slots old.rest in
    let same : IsFront (joined old.slots) (joined old.slots) = ([], sym (append-nil (joined old.slots))) in
    keeps-if bs old old.asking_ended (unchanged old Ended) (if last_holds_reader (last_slot old.slots) then unchanged old NotYet else if last_was_abandoned (last_slot old.slots) then left else goes)
    (λ e. keeps-unchanged bs old Ended h)
    (λ e. keeps-if bs old (last_holds_reader (last_slot old.slots)) (unchanged old NotYet) (if last_was_abandoned (last_slot old.slots) then left else goes)
    (λ e. keeps-unchanged bs old NotYet h)
    (λ e. keeps-if bs old (last_was_abandoned (last_slot old.slots)) left goes
    (λ e. record { adds = record { front = same; own = tt }; slots = h.slots; rest = h.rest })
    (λ e. asks-keep bs date Unused old old.slots old.rest tt same h.slots h.rest)))

pub outcome-keeps : (bs : Bool) (found : Bool) (date : HttpDate) (old : Reached) (step : StepValue) → Holds bs old → Keeps bs old (outcome found date old step)
outcome-keeps bs found date old Ask h = ask-keeps bs date old h
outcome-keeps bs found date old (AsReader k) h = number-keeps bs found date old (AsReader k) h
outcome-keeps bs found date old (Read k n) h = number-keeps bs found date old (Read k n) h
outcome-keeps bs found date old (Respond k response) h = number-keeps bs found date old (Respond k response) h
outcome-keeps bs found date old (IntoWriter k) h = number-keeps bs found date old (IntoWriter k) h
outcome-keeps bs found date old (Write k bytes) h = number-keeps bs found date old (Write k bytes) h
outcome-keeps bs found date old (Flush k) h = number-keeps bs found date old (Flush k) h
outcome-keeps bs found date old (Upgrade k protocol response) h = number-keeps bs found date old (Upgrade k protocol response) h
outcome-keeps bs found date old (Finish k) h = number-keeps bs found date old (Finish k) h
outcome-keeps bs found date old (Drop k) h = number-keeps bs found date old (Drop k) h

-- what the writer took before it failed begins the joined output
abbrev pub TookFront : Option Failure → List Slot → Type 0
TookFront None slots = Unit {0}
TookFront (Some f) slots = IsFront f.output (joined slots)

took-more : (failure : Option Failure) (old new : List Slot) → TookFront failure old → IsFront (joined old) (joined new) → TookFront failure new
took-more None old new h g = tt
took-more (Some f) old new h g = IsFront-append f.output (joined old) (joined new) h g

fares-front : (w : WriterUse) (old : State) (slots : List Slot) (fares : Fares) → MayFare w old slots fares → is_output_broken old.reached.slots ≡ false → AddsOwn w old.reached.slots slots → TookFront (failure_in fares) slots
fares-front w old slots Well m none own = tt
fares-front Unused old slots (FailsWithin f) m none own = elim m [ ]
fares-front Unused old slots (FailsAfter f) m none own = elim m [ ]
fares-front Unreported old slots (FailsWithin f) m none own = elim m [ ]
fares-front Unreported old slots (FailsAfter f) m none own = m.1
fares-front (Reported text broken flushes report) old slots (FailsWithin f) m none own = IsFront-append f.output (joined old.reached.slots ++ text) (joined slots) m.1.1 (own none)
fares-front (Reported text None flushes report) old slots (FailsAfter f) m none own = m.1.1
fares-front (Reported text (Some kind) flushes report) old slots (FailsAfter f) m none own = IsFront-append f.output (joined old.reached.slots ++ text) (joined slots) m.1 (own none)

not-silent : (w : WriterUse) (old : State) → writes_nothing w old ≡ false → is_output_broken old.reached.slots ≡ false
not-silent Unused old e = cc
not-silent Unreported old e = (or-parts (is_some old.failure) (is_output_broken old.reached.slots) e).1
not-silent (Reported own broken flushes report) old e = (or-parts (is_some old.failure) (is_output_broken old.reached.slots) e).1

part-front : (w : WriterUse) (old : State) (planned reply : ReplyValue) (slots : List Slot) (failure : Option Failure) (silent : Bool) → writes_nothing w old ≡ silent
    → MatchBool silent ((reply ≡ planned) × (failure ≡ old.failure)) ((fares : Fares) × MayFare w old slots fares × (reply ≡ reply_in w planned fares) × (failure ≡ failure_in fares))
    → TookFront old.failure old.reached.slots → IsFront (joined old.reached.slots) (joined slots) → AddsOwn w old.reached.slots slots → TookFront failure slots
part-front w old planned reply slots failure true e p t g own =
    let P : Option Failure → Type 0 = λ x. TookFront x slots in
    subst P (sym p.1) (took-more old.failure old.reached.slots slots t g)
part-front w old planned reply slots failure false e p t g own =
    let P : Option Failure → Type 0 = λ x. TookFront x slots in
    subst P (sym p.3) (fares-front w old slots p.0 p.1 (not-silent w old e) own)

-- what holds of a state
pub record IsSoundState (bs : Bool) (s : State) : Type 0 where
  pub holds : Holds bs s.reached
  pub took : TookFront s.failure s.reached.slots

outcome-sound : (bs : Bool) (o : Outcome) (old new : State) (reply : ReplyValue) → IsSoundState bs old → Keeps bs old.reached o → HasOutcome o old reply new → IsSoundState bs new
outcome-sound bs o old new reply h k has =
    let took = part-front o.writer old o.reply reply o.slots new.failure (writes_nothing o.writer old) refl has.2 h.took k.adds.front k.adds.own in
    let H : Reached → Type 0 = λ x. Holds bs x in
    let T : Reached → Type 0 = λ x. TookFront new.failure x.slots in
    record {
      holds = subst H (sym has.0) (record { slots = k.slots; rest = k.rest });
      took = subst T (sym has.0) took;
    }

-- heads that were refused before memory ran out
news-sound : (bs : Bool) (date : HttpDate) (items : List Item) → AllFit bs items → AllSound bs (map (new_slot date) items)
news-sound bs date [] h = tt
news-sound bs date (x ∷ xs) h = (new-sound bs date x h.0, news-sound bs date xs h.1)

answers-ownless : (slots : List Slot) (refused : List Item) (old new : List Slot) → AddsOwn (answers_to slots refused) old new
answers-ownless slots [] old new = tt
answers-ownless slots (item ∷ refused) old new = in-turn-ownless (turn_has_come (length slots) slots) old new

no-memory-sound : (bs : Bool) (date : HttpDate) (old new : State) (step : StepValue) (reply : ReplyValue) → IsSoundState bs old → FindsNoMemory date old step reply new → IsSoundState bs new
no-memory-sound bs date old new Ask reply h f =
    let refused = f.4 in
    let rest = f.5 in
    let P : List Item → Type 0 = λ x. AllFit bs x in
    let fit = all-parts (ItemFits bs) refused rest (subst P f.6 h.holds.rest) in
    let slots = old.reached.slots ++ map (new_slot date) refused in
    let o : Outcome = record { reply = Memory; slots = slots; rest = rest; asking_ended = true; writer = answers_to old.reached.slots refused } in
    let keeps : Keeps bs old.reached o = record {
      adds = record { front = joined-grows old.reached.slots (map (new_slot date) refused); own = answers-ownless old.reached.slots refused old.reached.slots slots };
      slots = all-append (IsSound bs) old.reached.slots (map (new_slot date) refused) h.holds.slots (news-sound bs date refused fit.0);
      rest = fit.1;
    } in
    outcome-sound bs o old new reply h keeps f.8
no-memory-sound bs date old new (Read k n) reply h f = let P : State → Type 0 = λ x. IsSoundState bs x in subst P (sym f.3) h
no-memory-sound bs date old new (AsReader k) reply h f = elim f [ ]
no-memory-sound bs date old new (Respond k a) reply h f = elim f [ ]
no-memory-sound bs date old new (IntoWriter k) reply h f = elim f [ ]
no-memory-sound bs date old new (Write k b) reply h f = elim f [ ]
no-memory-sound bs date old new (Flush k) reply h f = elim f [ ]
no-memory-sound bs date old new (Upgrade k p a) reply h f = elim f [ ]
no-memory-sound bs date old new (Finish k) reply h f = elim f [ ]
no-memory-sound bs date old new (Drop k) reply h f = elim f [ ]

step-sound : (bs : Bool) (old new : State) (date : HttpDate) (step : StepValue) (reply : ReplyValue) → IsSoundState bs old → StepsTo old date step reply new → IsSoundState bs new
step-sound bs old new date step reply h s =
    ⊎_elim
    (λ k. outcome-sound bs (outcome k.0 date old.reached step) old new reply h (outcome-keeps bs k.0 date old.reached step h.holds) k.2)
    (λ f. no-memory-sound bs date old new step reply h f)
    s

pub run-sound : (bs : Bool) (old new : State) (steps : List TimedValue) (replies : List ReplyValue) → IsSoundState bs old → Run old steps replies new → IsSoundState bs new
run-sound bs old new [] [] h r = let P : State → Type 0 = λ x. IsSoundState bs x in subst P (sym r) h
run-sound bs old new [] (x ∷ replies) h r = elim r [ ]
run-sound bs old new (s ∷ steps) [] h r = elim r [ ]
run-sound bs old new (s ∷ steps) (x ∷ replies) h r = run-sound bs r.0 new steps replies (step-sound bs old r.0 s.0 s.1 x h r.1) r.2

pub start-sound : (bs : Bool) (items : List Item) → AllFit bs items → IsSoundState bs (start_state items)
start-sound bs items h = record { holds = record { slots = tt; rest = h }; took = tt }

-- the output is a front of the joined output
pub output-front : (slots : List Slot) (flushed : List ℕ) (failure : Option Failure) (before after : Sink) (held taken out : List ℕ) (ended : Bool) → TookFront failure slots → IsOutput slots flushed failure before after held ended
    → after.taken ≡ Some taken → out ≡ taken ++ held → IsFront out (joined slots)
output-front slots flushed None before after held taken out ended t o e j =
    let same : o.1 ≡ taken = cc (o.2, e) in
    let all : out ≡ joined slots = j ∙ ap (λ x. x ++ held) (sym same) ∙ o.3 in
    ([], sym all ∙ sym (append-nil out))
output-front slots flushed (Some f) before after held taken out ended t o e j =
    let same : f.output ≡ taken = cc (o.2, e) in
    let all : out ≡ f.output = j ∙ ap (λ x. taken ++ x) o.3 ∙ append-nil taken ∙ sym same in
    let P : List ℕ → Type 0 = λ x. IsFront x (joined slots) in
    subst P (sym all) t

-- all of it, where the writer did not fail
pub output-all : (slots : List Slot) (flushed : List ℕ) (failure : Option Failure) (before after : Sink) (held taken out : List ℕ) (ended : Bool) → IsOutput slots flushed failure before after held ended
    → failure ≡ None → after.taken ≡ Some taken → out ≡ taken ++ held → joined slots ≡ out
output-all slots flushed None before after held taken out ended o n e j =
    let same : o.1 ≡ taken = cc (o.2, e) in
    sym (j ∙ ap (λ x. x ++ held) (sym same) ∙ o.3)
output-all slots flushed (Some f) before after held taken out ended o n e j = cc

-- an output that has not ended: the writer did not fail, and nothing broke off
pub record Unended (slots : List Slot) (failure : Option Failure) : Type 0 where
  pub unfailed : failure ≡ None
  pub whole : is_output_broken slots ≡ false

pub output-unended : (slots : List Slot) (flushed : List ℕ) (failure : Option Failure) (before after : Sink) (held : List ℕ) → IsOutput slots flushed failure before after held false → Unended slots failure
output-unended slots flushed None before after held o = record { unfailed = refl; whole = sym o.5 }
output-unended slots flushed (Some f) before after held o = cc (o.4)
