-- Steps that can be read leave numbers that can be read.
use Rattle.std.proofs.Common.{◌≡◌, refl, sym, ◌∙◌, subst, ℕ, zero, suc, ◌+◌, Bool, true, false, not, ◌&&◌, ◌||◌, List, [], ◌∷◌, ◌++◌, map, take, length, Option, Some, None, ⊎_elim, arith}
use Rattle.std.specs.Prelude.{if◌then◌else◌, slice_get, slice_set, ◌==◌, nat_lt}
use Rattle.std.specs.List.{AllByRecursion}
use Rattle.httpdate.specs.declared.date.HttpDate.{HttpDate}
use Rattle.tiny_http_io.specs.Device.{Feed, Sink}
use Rattle.tiny_http_open_request.specs.Pipeline.{Item, Asks, Refuses, Request}
use Rattle.tiny_http_body.specs.declared.framing.Profile.{Profile}
use Rattle.tiny_http_connection.specs.Segments.{Slot, Stage, Unanswered, Answered, ByServer, Raw, Upgraded}
use Rattle.tiny_http_connection.specs.Slots.{turn_has_come, ends_when_finished, closes_now, refuses_response, new_slot, rest_of, last_slot, last_holds_reader, last_was_abandoned, upgraded_slot, refuses_upgrade, with_last, closing_slot}
use Rattle.tiny_http_connection.specs.Steps.{StepValue, Ask, AsReader, Read, Respond, IntoWriter, Write, Flush, Upgrade, Finish, Drop, ReplyValue, Ended, Given, Done, Refused, NoSuch, NotYet, TimedValue, number_of}
use Rattle.tiny_http_connection.specs.Outcomes.{WriterUse, Unused, Unreported, Outcome, Reached, unchanged, changes, ends_asking, ends_with_stream, read_reply, finished_as, written_to, stage_closed, accepts_step, needs_turn, use_in_turn, effect, at_item, at_slot, at_number, asks_from, ask, outcome, answers, answers_slot, asked_to_close}
use Rattle.tiny_http_connection.specs.Conversation.{Failure, State, HasOutcome, FindsNoMemory, StepsTo, Run, start_state, IsOutput, IsConversation}
use Rattle.tiny_http_connection_laws.specs.ClientReads.{CanBeRead, goes_by_standard, IsReadableStage, CanBeReadAt, IsReadableStep, AreReadable}
use Rattle.tiny_http_connection_laws.proofs.StepsAdd.{all-append}
use Rattle.tiny_http_connection.proofs.ConnectionClosing.{by-closing}
use Rattle.tiny_http_response.specs.ResponseValue.{ResponseValue}

abbrev pub CanAllBeRead : Profile → List Slot → Type 0
CanAllBeRead p slots = AllByRecursion (CanBeReadAt p) slots

all-set : (p : Profile) (xs : List Slot) (k : ℕ) (s : Slot) → CanAllBeRead p xs → CanBeReadAt p s → CanAllBeRead p (slice_set xs k s)
all-set p [] k s h c = tt
all-set p (x ∷ xs) zero s h c = (c, h.1)
all-set p (x ∷ xs) (suc k) s h c = (h.0, all-set p xs k s h.1 c)

all-get : (p : Profile) (xs : List Slot) (k : ℕ) (s : Slot) → CanAllBeRead p xs → slice_get xs k ≡ Some s → CanBeReadAt p s
all-get p [] k s h e = cc
all-get p (x ∷ xs) zero s h e =
    let same : x ≡ s = cc in
    let P : Slot → Type 0 = λ y. CanBeReadAt p y in
    subst P same h.0
all-get p (x ∷ xs) (suc k) s h e = all-get p xs k s h.1 e

-- bytes that are written raw, and a stream that ends, are none of a number that can be read
written-readable : (p : Profile) (bytes : List ℕ) (stage : Stage) → IsReadableStage (goes_by_standard p) stage → IsReadableStage (goes_by_standard p) (written_to bytes stage)
written-readable p bytes Unanswered h = h
written-readable p bytes (Answered response date found) h = h
written-readable p bytes ByServer h = h
written-readable p bytes (Raw written ends) h = elim h [ ]
written-readable p bytes (Upgraded protocol response date written ends) h = elim h [ ]

closed-readable : (p : Profile) (stage : Stage) → IsReadableStage (goes_by_standard p) stage → IsReadableStage (goes_by_standard p) (stage_closed stage)
closed-readable p Unanswered h = h
closed-readable p (Answered response date found) h = h
closed-readable p ByServer h = h
closed-readable p (Raw written ends) h = elim h [ ]
closed-readable p (Upgraded protocol response date written ends) h = elim h [ ]

readable-if : (p : Profile) (b : Bool) (x y : Outcome) → (b ≡ true → CanAllBeRead p x.slots) → (b ≡ false → CanAllBeRead p y.slots) → CanAllBeRead p (if b then x else y).slots
readable-if p true x y h k = h refl
readable-if p false x y h k = k refl

never : {G : Type 0} → false ≡ true → G
never e = cc

-- a number is answered
answered-readable : (p : Profile) (found : Bool) (date : HttpDate) (old : Reached) (r : Request) (k : ℕ) (response : ResponseValue) (o : Option Slot) → CanBeRead (goes_by_standard p) response → CanAllBeRead p old.slots → CanAllBeRead p (answers_slot found date old r k response o).slots
answered-readable p found date old r k response None c h = h
answered-readable p found date old r k response (Some s) c h =
    all-set p old.slots k (finished_as (closes_now r s.closes s.owed s.given s.end_reported) s (Answered response date found)) h c

-- the last number is told that the connection ends
closing-readable : (p : Profile) (slots : List Slot) → CanAllBeRead p slots → CanAllBeRead p (with_last closing_slot slots)
closing-readable p [] h = h
closing-readable p (s ∷ []) h = (by-closing (λ t. CanBeReadAt p t) s (λ e. h.0) h.0, h.1)
closing-readable p (s ∷ t ∷ slots) h = (h.0, closing-readable p (t ∷ slots) h.1)

asked-readable : (p : Profile) (closes : Bool) (old : Reached) → CanAllBeRead p old.slots → CanAllBeRead p (asked_to_close closes old).slots
asked-readable p true old h = closing-readable p old.slots h
asked-readable p false old h = h

-- a step that a number takes in its time
effect-readable : (p : Profile) (found : Bool) (date : HttpDate) (old : Reached) (r : Request) (s : Slot) (turn : Bool) (step : StepValue) → IsReadableStep (goes_by_standard p) step → CanAllBeRead p old.slots → CanBeReadAt p s
    → CanAllBeRead p (effect found date old r s turn step).slots
effect-readable p found date old r s turn Ask c h here = h
effect-readable p found date old r s turn (AsReader k) c h here =
    let t : Slot = record s { owed = false; continued = Some date } in
    readable-if p s.owed (changes old k t Done Unreported) (unchanged old Done) (λ e. all-set p old.slots k t h here) (λ e. h)
effect-readable p found date old r s turn (Read k n) c h here =
    let left = (rest_of r s.given).bytes in
    let t : Slot = record s { given = s.given + length (take n left); end_reported = s.end_reported || nat_lt (length left) n } in
    readable-if p (n == 0) (unchanged old (Given [])) (changes old k t (read_reply n left r.body.stop) Unused) (λ e. h) (λ e. all-set p old.slots k t h here)
effect-readable p found date old r s turn (Respond k response) c h here =
    let d = finished_as (closes_now r s.closes s.owed s.given s.end_reported) s ByServer in
    readable-if p (refuses_response r response) (ends_asking (ends_when_finished r s.owed s.given s.end_reported) (changes old k d Refused (use_in_turn turn))) (answers found date (asked_to_close response.answer.closes old) r k response)
    (λ e. all-set p old.slots k d h tt)
    (λ e. answered-readable p found date (asked_to_close response.answer.closes old) r k response (slice_get (asked_to_close response.answer.closes old).slots k) c (asked-readable p response.answer.closes old h))
effect-readable p found date old r s turn (IntoWriter k) c h here = elim c [ ]
effect-readable p found date old r s turn (Write k bytes) c h here = all-set p old.slots k (record s { stage = written_to bytes s.stage }) h (written-readable p bytes s.stage here)
effect-readable p found date old r s turn (Flush k) c h here = all-set p old.slots k s h here
effect-readable p found date old r s turn (Upgrade k protocol response) c h here =
    let t : Slot = upgraded_slot r s (Upgraded protocol response date [] false) in
    let d = finished_as (closes_now r s.closes s.owed s.given s.end_reported) s ByServer in
    let refused : refuses_upgrade r s protocol response ≡ true = rw c refl in
    readable-if p (refuses_upgrade r s protocol response) (ends_asking (ends_when_finished r s.owed s.given s.end_reported) (changes old k d Refused (use_in_turn turn))) (ends_asking (ends_with_stream r s.owed s.given s.end_reported) (changes old k t Done Unreported)) (λ e. all-set p old.slots k d h tt) (λ e. never (sym e ∙ refused))
effect-readable p found date old r s turn (Finish k) c h here = all-set p old.slots k (finished_as s.closes s (stage_closed s.stage)) h (closed-readable p s.stage here)
effect-readable p found date old r s turn (Drop k) c h here = all-set p old.slots k (finished_as (closes_now r s.closes s.owed s.given s.end_reported) s ByServer) h tt

item-readable : (p : Profile) (found : Bool) (date : HttpDate) (old : Reached) (k : ℕ) (step : StepValue) (s : Slot) (item : Item) → IsReadableStep (goes_by_standard p) step → CanAllBeRead p old.slots → CanBeReadAt p s
    → CanAllBeRead p (at_item found date old k step s item).slots
item-readable p found date old k step s (Refuses refusal version no_body last) c h here = h
item-readable p found date old k step s (Asks r) c h here =
    let turn = turn_has_come k old.slots in
    readable-if p (not (accepts_step s.stage s.owed step)) (unchanged old NoSuch)
    (if (needs_turn r s step && not turn) then unchanged old NotYet else effect found date old r s turn step)
    (λ e. h)
    (λ e. readable-if p (needs_turn r s step && not turn) (unchanged old NotYet) (effect found date old r s turn step) (λ e. h) (λ e. effect-readable p found date old r s turn step c h here))

slot-readable : (p : Profile) (found : Bool) (date : HttpDate) (old : Reached) (k : ℕ) (step : StepValue) (o : Option Slot) → IsReadableStep (goes_by_standard p) step → CanAllBeRead p old.slots → slice_get old.slots k ≡ o
    → CanAllBeRead p (at_slot found date old k step o).slots
slot-readable p found date old k step None c h e = h
slot-readable p found date old k step (Some s) c h e = item-readable p found date old k step s s.item c h (all-get p old.slots k s h e)

number-readable : (p : Profile) (found : Bool) (date : HttpDate) (old : Reached) (step : StepValue) → IsReadableStep (goes_by_standard p) step → CanAllBeRead p old.slots → CanAllBeRead p (at_number found date old (number_of step) step).slots
number-readable p found date old step c h = slot-readable p found date old (number_of step) step (slice_get old.slots (number_of step)) c h refl

-- a number that is reached waits for its answer, or is a refused head
new-readable : (p : Profile) (date : HttpDate) (item : Item) → CanBeReadAt p (new_slot date item)
new-readable p date (Asks r) = tt
new-readable p date (Refuses refusal version no_body last) = tt

news-readable : (p : Profile) (date : HttpDate) (items : List Item) → CanAllBeRead p (map (new_slot date) items)
news-readable p date [] = tt
news-readable p date (x ∷ xs) = (new-readable p date x, news-readable p date xs)

asks-readable : (p : Profile) (date : HttpDate) (w : WriterUse) (slots : List Slot) (items : List Item) → CanAllBeRead p slots → CanAllBeRead p (asks_from date w slots items).slots
asks-readable p date w slots [] h = h
asks-readable p date w slots (Asks r ∷ items) h = all-append (CanBeReadAt p) slots (new_slot date (Asks r) ∷ []) h (tt, tt)
asks-readable p date w slots (Refuses refusal version no_body last ∷ items) h =
    let s = new_slot date (Refuses refusal version no_body last) in
    asks-readable p date (if turn_has_come (length slots) slots then Unreported else w) (slots ++ s ∷ []) items (all-append (CanBeReadAt p) slots (s ∷ []) h (tt, tt))

ask-readable : (p : Profile) (date : HttpDate) (old : Reached) → CanAllBeRead p old.slots → CanAllBeRead p (ask date old).slots
ask-readable p date old h =
    let left : Outcome = record { reply = Ended; slots = old.slots; rest = old.rest; asking_ended = true; writer = Unused } in
    let goes = asks_from date Unused old.slots old.rest in
    readable-if p old.asking_ended (unchanged old Ended) (if last_holds_reader (last_slot old.slots) then unchanged old NotYet else if last_was_abandoned (last_slot old.slots) then left else goes)
    (λ e. h)
    (λ e. readable-if p (last_holds_reader (last_slot old.slots)) (unchanged old NotYet) (if last_was_abandoned (last_slot old.slots) then left else goes)
    (λ e. h)
    (λ e. readable-if p (last_was_abandoned (last_slot old.slots)) left goes (λ e. h) (λ e. asks-readable p date Unused old.slots old.rest h)))

outcome-readable : (p : Profile) (found : Bool) (date : HttpDate) (old : Reached) (step : StepValue) → IsReadableStep (goes_by_standard p) step → CanAllBeRead p old.slots → CanAllBeRead p (outcome found date old step).slots
outcome-readable p found date old Ask c h = ask-readable p date old h
outcome-readable p found date old (AsReader k) c h = number-readable p found date old (AsReader k) c h
outcome-readable p found date old (Read k n) c h = number-readable p found date old (Read k n) c h
outcome-readable p found date old (Respond k response) c h = number-readable p found date old (Respond k response) c h
outcome-readable p found date old (IntoWriter k) c h = number-readable p found date old (IntoWriter k) c h
outcome-readable p found date old (Write k bytes) c h = number-readable p found date old (Write k bytes) c h
outcome-readable p found date old (Flush k) c h = number-readable p found date old (Flush k) c h
outcome-readable p found date old (Upgrade k protocol response) c h = number-readable p found date old (Upgrade k protocol response) c h
outcome-readable p found date old (Finish k) c h = number-readable p found date old (Finish k) c h
outcome-readable p found date old (Drop k) c h = number-readable p found date old (Drop k) c h

has-readable : (p : Profile) (o : Outcome) (old new : State) (reply : ReplyValue) → CanAllBeRead p o.slots → HasOutcome o old reply new → CanAllBeRead p new.reached.slots
has-readable p o old new reply h has = let P : Reached → Type 0 = λ x. CanAllBeRead p x.slots in subst P (sym has.0) h

-- heads that were refused before memory ran out
no-memory-readable : (p : Profile) (date : HttpDate) (old new : State) (step : StepValue) (reply : ReplyValue) → CanAllBeRead p old.reached.slots → FindsNoMemory date old step reply new → CanAllBeRead p new.reached.slots
no-memory-readable p date old new Ask reply h f =
    let refused = f.4 in
    let P : Reached → Type 0 = λ x. CanAllBeRead p x.slots in
    subst P (sym f.8.0) (all-append (CanBeReadAt p) old.reached.slots (map (new_slot date) refused) h (news-readable p date refused))
no-memory-readable p date old new (Read k n) reply h f = let P : State → Type 0 = λ x. CanAllBeRead p x.reached.slots in subst P (sym f.3) h
no-memory-readable p date old new (AsReader k) reply h f = elim f [ ]
no-memory-readable p date old new (Respond k a) reply h f = elim f [ ]
no-memory-readable p date old new (IntoWriter k) reply h f = elim f [ ]
no-memory-readable p date old new (Write k b) reply h f = elim f [ ]
no-memory-readable p date old new (Flush k) reply h f = elim f [ ]
no-memory-readable p date old new (Upgrade k protocol a) reply h f = elim f [ ]
no-memory-readable p date old new (Finish k) reply h f = elim f [ ]
no-memory-readable p date old new (Drop k) reply h f = elim f [ ]

step-readable : (p : Profile) (old new : State) (date : HttpDate) (step : StepValue) (reply : ReplyValue) → IsReadableStep (goes_by_standard p) step → CanAllBeRead p old.reached.slots → StepsTo old date step reply new → CanAllBeRead p new.reached.slots
step-readable p old new date step reply c h s =
    ⊎_elim
    (λ k. has-readable p (outcome k.0 date old.reached step) old new reply (outcome-readable p k.0 date old.reached step c h) k.2)
    (λ f. no-memory-readable p date old new step reply h f)
    s

run-readable : (p : Profile) (old new : State) (steps : List TimedValue) (replies : List ReplyValue) → AreReadable p steps → CanAllBeRead p old.reached.slots → Run old steps replies new → CanAllBeRead p new.reached.slots
run-readable p old new [] [] c h r = let P : State → Type 0 = λ x. CanAllBeRead p x.reached.slots in subst P (sym r) h
run-readable p old new [] (x ∷ replies) c h r = elim r [ ]
run-readable p old new (s ∷ steps) [] c h r = elim r [ ]
run-readable p old new (s ∷ steps) (x ∷ replies) c h r = run-readable p r.0 new steps replies c.1 (step-readable p old r.0 s.0 s.1 x c.0 h r.1) r.2

pub steps-can_be_read : (p : Profile) (feed : Feed) (before after : Sink) (steps : List TimedValue) (replies : List ReplyValue) (held : List ℕ) (ended : Bool) (unread : Option Feed)
    → (c : IsConversation p feed before steps replies after held ended unread) → AreReadable p steps → CanAllBeRead p c.end.reached.slots
steps-can_be_read p feed before after steps replies held ended unread c can = run-readable p (start_state c.items) c.end steps replies can tt c.run

-- the writer did not fail where its count did not rise
unfailed : (slots : List Slot) (flushed : List ℕ) (failure : Option Failure) (before after : Sink) (held : List ℕ) (ended : Bool) → IsOutput slots flushed failure before after held ended
    → after.failures ≡ before.failures → failure ≡ None
unfailed slots flushed None before after held ended o e = refl
unfailed slots flushed (Some f) before after held ended o e =
    let rose : after.failures ≡ before.failures + 1 = o.0 in
    absurd (omega arith)

pub run-unfailed : (p : Profile) (feed : Feed) (before after : Sink) (steps : List TimedValue) (replies : List ReplyValue) (held : List ℕ) (ended : Bool) (unread : Option Feed)
    → (c : IsConversation p feed before steps replies after held ended unread) → after.failures ≡ before.failures → c.end.failure ≡ None
run-unfailed p feed before after steps replies held ended unread c e = unfailed c.end.reached.slots c.end.flushed c.end.failure before after held ended c.output e
