-- The requests that a run hands out begin those of its pipeline, and each number that is reached is one of its items.
use Rattle.std.proofs.Common.{◌≡◌, refl, sym, ap, ◌∙◌, subst, arith, ℕ, zero, suc, ◌+◌, Bool, true, false, not, ◌&&◌, List, [], ◌∷◌, ◌++◌, map, length, Option, Some, None, append_assoc, append-nil, length-append, ⊎_elim}
use Rattle.std.specs.Prelude.{if◌then◌else◌, slice_get, slice_set, take, nat_lt, ◌==◌, ◌||◌, MatchBool, unwrap_or, option_map}
use Rattle.std.specs.List.{AllByRecursion}
use Rattle.std.specs.declared.io.ErrorKind.{ErrorKind}
use Rattle.httpdate.specs.declared.date.HttpDate.{HttpDate}
use Rattle.tiny_http_io.specs.declared.device.Stop.{Stop}
use Rattle.tiny_http_io.specs.declared.device.Stop.TheVariants.{End, Fault as Faults}
use Rattle.tiny_http_io.specs.Device.{Feed, Sink}
use Rattle.tiny_http_head.specs.Heads.{Message}
use Rattle.tiny_http_body.specs.declared.framing.Framing.{Framing}
use Rattle.tiny_http_body.specs.declared.framing.Profile.{Profile}
use Rattle.tiny_http_open_request.specs.Pipeline.{Item, Asks, Refuses, Request}
use Rattle.tiny_http_response.specs.Sending.{is_closed_client}
use Rattle.tiny_http_response.specs.ResponseValue.{ResponseValue}
use Rattle.tiny_http_connection.specs.Segments.{Slot, Stage, Answered, ByServer, Raw, Upgraded, to_request, text_if}
use Rattle.tiny_http_connection.specs.Slots.{turn_has_come, new_slot, rest_of, last_slot, with_last, last_holds_reader, last_was_abandoned, ends_when_finished, closes_now, refuses_response, refuses_upgrade, upgraded_slot, closing_slot}
use Rattle.tiny_http_connection.specs.Steps.{StepValue, Ask, AsReader, Read, Respond, IntoWriter, Write, Flush, Upgrade, Finish, Drop, ReplyValue, Handed, Ended, Given, Fault, NotYet, Done, Refused, NoSuch, Memory, TimedValue, number_of}
use Rattle.tiny_http_connection.specs.Outcomes.{WriterUse, Unused, Unreported, Reported, Outcome, Reached, unchanged, changes, asks_from, ask, read_reply, finished_as, written_to, stage_closed, fault_in, fault_reply, accepts_step, needs_turn, use_in_turn, ends_asking, ends_with_stream, asked_to_close, answers_slot, answers, effect, at_item, at_slot, at_number, outcome}
use Rattle.tiny_http_connection.specs.Conversation.{Failure, State, Fares, Well, FailsWithin, FailsAfter, MayFare, reply_in, failure_in, writes_nothing, HasOutcome, FindsNoMemory, IsPassedOver, answers_to, StepsTo, Run, start_state, IsConversation}
use Rattle.tiny_http_connection_laws.specs.InShort.{handed, requests_from}

handed-more : (reply : ReplyValue) (replies : List ReplyValue) → handed (reply ∷ replies) ≡ handed (reply ∷ []) ++ handed replies
handed-more (Handed k message framing) replies = refl
handed-more Ended replies = refl
handed-more (Given bytes) replies = refl
handed-more (Fault kind) replies = refl
handed-more NotYet replies = refl
handed-more Done replies = refl
handed-more Refused replies = refl
handed-more NoSuch replies = refl
handed-more Memory replies = refl

-- a reply hands nothing out
abbrev Quiet : ReplyValue → Type 0
Quiet reply = handed (reply ∷ []) ≡ []

quiet-fault : (kind : ErrorKind) → Quiet (fault_reply kind)
quiet-fault kind = go (is_closed_client kind)
  where
    go : (b : Bool) → Quiet (if b then Done else Fault kind)
    go true = refl
    go false = refl

quiet-read : (n : ℕ) (left : List ℕ) (close : Stop) → Quiet (read_reply n left close)
quiet-read n [] End = refl
quiet-read n [] (Faults kind) = refl
quiet-read n (b ∷ left) close = refl

-- where a fault of the writer may be reported, nothing is handed out
abbrev MayReport : WriterUse → ReplyValue → Type 0
MayReport Unused reply = Unit {0}
MayReport Unreported reply = Unit {0}
MayReport (Reported own broken flushes report) reply = Quiet reply × ((kind : ErrorKind) → Quiet (report kind))

in-turn : (turn : Bool) (reply : ReplyValue) → MayReport (use_in_turn turn) reply
in-turn true reply = tt
in-turn false reply = tt

-- what a step hands out is what the pipeline has less afterwards
pub record Moves (slots : List Slot) (rest : List Item) (o : Outcome) : Type 0 where
  pub requests : requests_from (length slots) rest ≡ handed (o.reply ∷ []) ++ requests_from (length o.slots) o.rest
  pub reports : MayReport o.writer o.reply

pub set-length : (slots : List Slot) (k : ℕ) (s : Slot) → length (slice_set slots k s) ≡ length slots
set-length [] k s = refl
set-length (x ∷ xs) zero s = refl
set-length (x ∷ xs) (suc k) s = ap suc (set-length xs k s)

pub closing-length : (slots : List Slot) → length (with_last closing_slot slots) ≡ length slots
closing-length [] = refl
closing-length (s ∷ []) = refl
closing-length (s ∷ t ∷ slots) = ap suc (closing-length (t ∷ slots))

still : (old : Reached) (reply : ReplyValue) → Quiet reply → Moves old.slots old.rest (unchanged old reply)
still old reply q =
    record {
      requests = ap (λ x. x ++ requests_from (length old.slots) old.rest) (sym q);
      reports = tt;
    }

changed : (old : Reached) (k : ℕ) (t : Slot) (reply : ReplyValue) (w : WriterUse) → Quiet reply → MayReport w reply → Moves old.slots old.rest (changes old k t reply w)
changed old k t reply w q m =
    let same = set-length old.slots k t in
    record {
      requests = ap (λ x. x ++ requests_from (length old.slots) old.rest) (sym q) ∙ ap (λ n. handed (reply ∷ []) ++ requests_from n old.rest) (sym same);
      reports = m;
    }

moves-if : (slots : List Slot) (rest : List Item) (b : Bool) (x y : Outcome) → Moves slots rest x → Moves slots rest y → Moves slots rest (if b then x else y)
moves-if slots rest true x y h k = h
moves-if slots rest false x y h k = k

moves-ended : (slots : List Slot) (rest : List Item) (ends : Bool) (o : Outcome) → Moves slots rest o → Moves slots rest (ends_asking ends o)
moves-ended slots rest ends o h = record { requests = h.requests; reports = h.reports }

answered-moves : (found : Bool) (date : HttpDate) (old : Reached) (r : Request) (k : ℕ) (response : ResponseValue) → Moves old.slots old.rest (answers found date old r k response)
answered-moves found date old r k response = go (slice_get old.slots k)
  where
    go : (o : Option Slot) → Moves old.slots old.rest (answers_slot found date old r k response o)
    go None = still old NoSuch refl
    go (Some s) =
        let closes = closes_now r s.closes s.owed s.given s.end_reported in
        let text = text_if found response (to_request closes r date) in
        let t = finished_as closes s (Answered response date found) in
        let w = Reported text.bytes (fault_in text.ending) true fault_reply in
        moves-ended old.slots old.rest (ends_when_finished r s.owed s.given s.end_reported) (changes old k t Done w) (changed old k t Done w refl (refl, quiet-fault))

asked-moves : (found : Bool) (date : HttpDate) (old : Reached) (r : Request) (k : ℕ) (response : ResponseValue) (closes : Bool) → Moves old.slots old.rest (answers found date (asked_to_close closes old) r k response)
asked-moves found date old r k response false = answered-moves found date old r k response
asked-moves found date old r k response true =
    let h = answered-moves found date (asked_to_close true old) r k response in
    let same = closing-length old.slots in
    record {
      requests = ap (λ n. requests_from n old.rest) (sym same) ∙ h.requests;
      reports = h.reports;
    }

effect-moves : (found : Bool) (date : HttpDate) (old : Reached) (r : Request) (s : Slot) (turn : Bool) (step : StepValue) → Moves old.slots old.rest (effect found date old r s turn step)
effect-moves found date old r s turn Ask = still old NoSuch refl
effect-moves found date old r s turn (AsReader k) =
    let t : Slot = record s { owed = false; continued = Some date } in
    moves-if old.slots old.rest s.owed (changes old k t Done Unreported) (unchanged old Done) (changed old k t Done Unreported refl tt) (still old Done refl)
effect-moves found date old r s turn (Read k n) =
    let left = (rest_of r s.given).bytes in
    let t : Slot = record s { given = s.given + length (take n left); end_reported = s.end_reported || nat_lt (length left) n } in
    let reply = read_reply n left r.body.stop in
    moves-if old.slots old.rest (n == 0) (unchanged old (Given [])) (changes old k t reply Unused) (still old (Given []) refl) (changed old k t reply Unused (quiet-read n left r.body.stop) tt)
effect-moves found date old r s turn (Respond k response) =
    let d = finished_as (closes_now r s.closes s.owed s.given s.end_reported) s ByServer in
    let ends = ends_when_finished r s.owed s.given s.end_reported in
    let refused = changes old k d Refused (use_in_turn turn) in
    moves-if old.slots old.rest (refuses_response r response) (ends_asking ends refused) (answers found date (asked_to_close response.answer.closes old) r k response)
    (moves-ended old.slots old.rest ends refused (changed old k d Refused (use_in_turn turn) refl (in-turn turn Refused)))
    (asked-moves found date old r k response response.answer.closes)
effect-moves found date old r s turn (IntoWriter k) =
    let t : Slot = record s { stage = Raw [] false; given_up = true; owed = false } in
    moves-ended old.slots old.rest (ends_with_stream r s.owed s.given s.end_reported) (changes old k t Done Unused) (changed old k t Done Unused refl tt)
effect-moves found date old r s turn (Write k bytes) =
    changed old k (record s { stage = written_to bytes s.stage }) Done (Reported bytes None false Fault) refl (refl, λ kind. refl)
effect-moves found date old r s turn (Flush k) = changed old k s Done (Reported [] None true Fault) refl (refl, λ kind. refl)
effect-moves found date old r s turn (Upgrade k protocol response) =
    let d = finished_as (closes_now r s.closes s.owed s.given s.end_reported) s ByServer in
    let ends = ends_when_finished r s.owed s.given s.end_reported in
    let refused = changes old k d Refused (use_in_turn turn) in
    let t = upgraded_slot r s (Upgraded protocol response date [] false) in
    let goes = ends_with_stream r s.owed s.given s.end_reported in
    moves-if old.slots old.rest (refuses_upgrade r s protocol response) (ends_asking ends refused) (ends_asking goes (changes old k t Done Unreported))
    (moves-ended old.slots old.rest ends refused (changed old k d Refused (use_in_turn turn) refl (in-turn turn Refused)))
    (moves-ended old.slots old.rest goes (changes old k t Done Unreported) (changed old k t Done Unreported refl tt))
effect-moves found date old r s turn (Finish k) =
    changed old k (finished_as s.closes s (stage_closed s.stage)) Done (use_in_turn turn) refl (in-turn turn Done)
effect-moves found date old r s turn (Drop k) =
    let d = finished_as (closes_now r s.closes s.owed s.given s.end_reported) s ByServer in
    let ends = ends_when_finished r s.owed s.given s.end_reported in
    moves-ended old.slots old.rest ends (changes old k d Done (use_in_turn turn)) (changed old k d Done (use_in_turn turn) refl (in-turn turn Done))

item-moves : (found : Bool) (date : HttpDate) (old : Reached) (k : ℕ) (step : StepValue) (s : Slot) (item : Item) → Moves old.slots old.rest (at_item found date old k step s item)
item-moves found date old k step s (Refuses refusal manner no_body last) = still old NoSuch refl
item-moves found date old k step s (Asks r) =
    let turn = turn_has_come k old.slots in
    moves-if old.slots old.rest (not (accepts_step s.stage s.owed step)) (unchanged old NoSuch)
    (if (needs_turn r s step && not turn) then unchanged old NotYet else effect found date old r s turn step)
    (still old NoSuch refl)
    (moves-if old.slots old.rest (needs_turn r s step && not turn) (unchanged old NotYet) (effect found date old r s turn step) (still old NotYet refl) (effect-moves found date old r s turn step))

number-moves : (found : Bool) (date : HttpDate) (old : Reached) (k : ℕ) (step : StepValue) → Moves old.slots old.rest (at_number found date old k step)
number-moves found date old k step = go (slice_get old.slots k)
  where
    go : (o : Option Slot) → Moves old.slots old.rest (at_slot found date old k step o)
    go None = still old NoSuch refl
    go (Some s) = item-moves found date old k step s s.item

-- ---- an Ask

-- texts of the server's own are never reported
abbrev IsOwn : WriterUse → Type 0
IsOwn w = (reply : ReplyValue) → MayReport w reply

own-if : (b : Bool) (w : WriterUse) → IsOwn w → IsOwn (if b then Unreported else w)
own-if true w o = λ reply. tt
own-if false w o = o

pub one-more : (slots : List Slot) (s : Slot) → length (slots ++ s ∷ []) ≡ length slots + 1
one-more slots s = length-append slots (s ∷ [])

asks-move : (date : HttpDate) (w : WriterUse) (slots : List Slot) (items : List Item) → IsOwn w → Moves slots items (asks_from date w slots items)
asks-move date w slots [] o = record { requests = refl; reports = o Ended }
asks-move date w slots (Asks r ∷ items) o =
    let more = one-more slots (new_slot date (Asks r)) in
    record {
      requests = ap (λ n. (length slots, r.message, r.framing) ∷ requests_from n items) (sym more);
      reports = o (Handed (length slots) r.message r.framing);
    }
asks-move date w slots (Refuses refusal manner no_body last ∷ items) o =
    let item = Refuses refusal manner no_body last in
    let more = one-more slots (new_slot date item) in
    let b = turn_has_come (length slots) slots in
    let h = asks-move date (if b then Unreported else w) (slots ++ new_slot date item ∷ []) items (own-if b w o) in
    record {
      requests = ap (λ n. requests_from n items) (sym more) ∙ h.requests;
      reports = h.reports;
    }

ask-moves : (date : HttpDate) (old : Reached) → Moves old.slots old.rest (ask date old)
ask-moves date old =
    let left : Outcome = record { reply = Ended; slots = old.slots; rest = old.rest; asking_ended = true; writer = Unused } in
    let goes = asks_from date Unused old.slots old.rest in
    let ends : Moves old.slots old.rest left = record { requests = refl; reports = tt } in
    moves-if old.slots old.rest old.asking_ended (unchanged old Ended) (if last_holds_reader (last_slot old.slots) then unchanged old NotYet else if last_was_abandoned (last_slot old.slots) then left else goes) (still old Ended refl)
    (moves-if old.slots old.rest (last_holds_reader (last_slot old.slots)) (unchanged old NotYet) (if last_was_abandoned (last_slot old.slots) then left else goes) (still old NotYet refl)
    (moves-if old.slots old.rest (last_was_abandoned (last_slot old.slots)) left goes ends (asks-move date Unused old.slots old.rest (λ reply. tt))))

outcome-moves : (found : Bool) (date : HttpDate) (old : Reached) (step : StepValue) → Moves old.slots old.rest (outcome found date old step)
outcome-moves found date old Ask = ask-moves date old
outcome-moves found date old (AsReader k) = number-moves found date old k (AsReader k)
outcome-moves found date old (Read k n) = number-moves found date old k (Read k n)
outcome-moves found date old (Respond k response) = number-moves found date old k (Respond k response)
outcome-moves found date old (IntoWriter k) = number-moves found date old k (IntoWriter k)
outcome-moves found date old (Write k bytes) = number-moves found date old k (Write k bytes)
outcome-moves found date old (Flush k) = number-moves found date old k (Flush k)
outcome-moves found date old (Upgrade k protocol response) = number-moves found date old k (Upgrade k protocol response)
outcome-moves found date old (Finish k) = number-moves found date old k (Finish k)
outcome-moves found date old (Drop k) = number-moves found date old k (Drop k)

-- ---- a step, and a run

-- the writer's fault doesn't hand out, nor take back
fared : (w : WriterUse) (planned : ReplyValue) (fares : Fares) → MayReport w planned → handed (reply_in w planned fares ∷ []) ≡ handed (planned ∷ [])
fared Unused planned fares m = refl
fared Unreported planned fares m = refl
fared (Reported own broken flushes report) planned (FailsWithin f) m = m.1 f.kind ∙ sym m.0
fared (Reported own None flushes report) planned Well m = refl
fared (Reported own (Some kind) flushes report) planned Well m = m.1 kind ∙ sym m.0
fared (Reported own None flushes report) planned (FailsAfter f) m = refl
fared (Reported own (Some kind) flushes report) planned (FailsAfter f) m = m.1 kind ∙ sym m.0

part-hands : (w : WriterUse) (old : State) (planned reply : ReplyValue) (slots : List Slot) (failure : Option Failure) (silent : Bool)
    → MatchBool silent ((reply ≡ planned) × (failure ≡ old.failure)) ((fares : Fares) × MayFare w old slots fares × (reply ≡ reply_in w planned fares) × (failure ≡ failure_in fares))
    → MayReport w planned → handed (reply ∷ []) ≡ handed (planned ∷ [])
part-hands w old planned reply slots failure true p m = ap (λ x. handed (x ∷ [])) p.0
part-hands w old planned reply slots failure false p m = ap (λ x. handed (x ∷ [])) p.2 ∙ fared w planned p.0 m

-- what a step hands out, of a state
pub record StepMoves (old : State) (reply : ReplyValue) (new : State) : Type 0 where
  pub requests : requests_from (length old.reached.slots) old.reached.rest ≡ handed (reply ∷ []) ++ requests_from (length new.reached.slots) new.reached.rest

outcome-step : (o : Outcome) (old : State) (reply : ReplyValue) (new : State) → Moves old.reached.slots old.reached.rest o → HasOutcome o old reply new → StepMoves old reply new
outcome-step o old reply new h has =
    let same = part-hands o.writer old o.reply reply o.slots new.failure (writes_nothing o.writer old) has.2 h.reports in
    let requests = h.requests ∙ ap (λ x. x ++ requests_from (length o.slots) o.rest) (sym same) in
    let R : Reached → Type 0 = λ x. requests_from (length old.reached.slots) old.reached.rest ≡ handed (reply ∷ []) ++ requests_from (length x.slots) x.rest in
    record { requests = subst R (sym has.0) requests }

abbrev AllPassedOver : List Item → Type 0
AllPassedOver refused = AllByRecursion IsPassedOver refused

-- refused heads are no requests
behind-refused : (date : HttpDate) (slots : List Slot) (refused rest : List Item) → AllPassedOver refused
    → requests_from (length slots) (refused ++ rest) ≡ requests_from (length (slots ++ map (new_slot date) refused)) rest
behind-refused date slots [] rest h = ap (λ x. requests_from (length x) rest) (sym (append-nil slots))
behind-refused date slots (Asks r ∷ refused) rest h = elim h.0 [ ]
behind-refused date slots (Refuses refusal manner no_body last ∷ refused) rest h =
    let item = Refuses refusal manner no_body last in
    ap (λ n. requests_from n (refused ++ rest)) (sym (one-more slots (new_slot date item)))
    ∙ behind-refused date (slots ++ new_slot date item ∷ []) refused rest h.1
    ∙ ap (λ x. requests_from (length x) rest) (append_assoc slots (new_slot date item ∷ []) (map (new_slot date) refused))

own-answers : (slots : List Slot) (refused : List Item) → IsOwn (answers_to slots refused)
own-answers slots [] = λ reply. tt
own-answers slots (item ∷ refused) = λ reply. in-turn (turn_has_come (length slots) slots) reply

no-memory-moves : (date : HttpDate) (old : State) (step : StepValue) (reply : ReplyValue) (new : State) → FindsNoMemory date old step reply new → StepMoves old reply new
no-memory-moves date old Ask reply new f =
    let refused = f.4 in
    let rest = f.5 in
    let slots = old.reached.slots ++ map (new_slot date) refused in
    let w = answers_to old.reached.slots refused in
    let o : Outcome = record { reply = Memory; slots = slots; rest = rest; asking_ended = true; writer = w } in
    let moves : Moves old.reached.slots old.reached.rest o = record {
      requests = ap (λ x. requests_from (length old.reached.slots) x) f.6 ∙ behind-refused date old.reached.slots refused rest f.7;
      reports = own-answers old.reached.slots refused Memory;
    } in
    outcome-step o old reply new moves f.8
no-memory-moves date old (Read k n) reply new f =
    let P : State → Type 0 = λ x. StepMoves old reply x in
    let quiet : handed (reply ∷ []) ≡ [] = ap (λ x. handed (x ∷ [])) f.2 in
    subst P (sym f.3) (record { requests = ap (λ x. x ++ requests_from (length old.reached.slots) old.reached.rest) (sym quiet) })
no-memory-moves date old (AsReader k) reply new f = elim f [ ]
no-memory-moves date old (Respond k a) reply new f = elim f [ ]
no-memory-moves date old (IntoWriter k) reply new f = elim f [ ]
no-memory-moves date old (Write k b) reply new f = elim f [ ]
no-memory-moves date old (Flush k) reply new f = elim f [ ]
no-memory-moves date old (Upgrade k p a) reply new f = elim f [ ]
no-memory-moves date old (Finish k) reply new f = elim f [ ]
no-memory-moves date old (Drop k) reply new f = elim f [ ]

step-moves : (old : State) (date : HttpDate) (step : StepValue) (reply : ReplyValue) (new : State) → StepsTo old date step reply new → StepMoves old reply new
step-moves old date step reply new s =
    ⊎_elim
    (λ k. outcome-step (outcome k.0 date old.reached step) old reply new (outcome-moves k.0 date old.reached step) k.2)
    (λ f. no-memory-moves date old step reply new f)
    s

-- what a run hands out, and what its pipeline has left
pub record RunMoves (old : State) (replies : List ReplyValue) (new : State) : Type 0 where
  pub requests : requests_from (length old.reached.slots) old.reached.rest ≡ handed replies ++ requests_from (length new.reached.slots) new.reached.rest

pub run-moves : (old new : State) (steps : List TimedValue) (replies : List ReplyValue) → Run old steps replies new → RunMoves old replies new
run-moves old new [] [] r = let P : State → Type 0 = λ x. RunMoves old [] x in subst P (sym r) (record { requests = refl })
run-moves old new [] (x ∷ replies) r = elim r [ ]
run-moves old new (s ∷ steps) [] r = elim r [ ]
run-moves old new (s ∷ steps) (x ∷ replies) r =
    let one = step-moves old s.0 s.1 x r.0 r.1 in
    let more = run-moves r.0 new steps replies r.2 in
    let all = requests_from (length new.reached.slots) new.reached.rest in
    record {
      requests = one.requests ∙ ap (λ l. handed (x ∷ []) ++ l) more.requests ∙ sym (append_assoc (handed (x ∷ [])) (handed replies) all) ∙ ap (λ l. l ++ all) (sym (handed-more x replies));
    }

pub conversation-moves : (p : Profile) (feed : Feed) (before after : Sink) (steps : List TimedValue) (replies : List ReplyValue) (held : List ℕ) (ended : Bool) (unread : Option Feed)
    → (c : IsConversation p feed before steps replies after held ended unread) → RunMoves (start_state c.items) replies c.end
conversation-moves p feed before after steps replies held ended unread c = run-moves (start_state c.items) c.end steps replies c.run
