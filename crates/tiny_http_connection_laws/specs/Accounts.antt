-- The account of each number, according to the steps and their replies, and why the requests end.
use Rattle.std.specs.Prelude.{◌≡◌, ℕ, ◌⊎◌, ⊤, ◌==◌, Bool, true, false, not, ◌&&◌, ◌||◌, List, [], ◌∷◌, ◌++◌, Option}
use Rattle.std.specs.Prelude.{Some, None, is_some, slice_get, if◌then◌else◌}
use Rattle.httpdate.specs.declared.date.HttpDate.{HttpDate}
use Rattle.tiny_http_head.specs.Heads.{Message}
use Rattle.tiny_http_body.specs.declared.framing.Framing.{Framing}
use Rattle.tiny_http_body.specs.Body.{is_long}
use Rattle.tiny_http_open_request.specs.Pipeline.{Item, Asks, Refuses, Request}
use Rattle.tiny_http_connection.specs.Segments.{Slot, Stage, Unanswered, Answered, ByServer, Raw, Upgraded}
use Rattle.tiny_http_connection.specs.Slots.{remainder_of, body_was_abandoned}
use Rattle.tiny_http_connection.specs.Steps.{StepValue, Ask, AsReader, Read, Respond, IntoWriter, Write, Flush, Upgrade}
use Rattle.tiny_http_connection.specs.Steps.{Finish, Drop, ReplyValue, Ended, Refused, Memory, TimedValue, number_of}
use Rattle.tiny_http_connection.specs.Steps.{is_done, is_refused}
use Rattle.tiny_http_connection_laws.specs.InShort.{maker}

-- ---- what was done for a number

-- The condition of a number. `Waits`: it awaits its response. `Writes`: bytes can be written under it, through its raw
-- writer or to the stream of its upgrade. `Finished`: it is finished.
pub data Condition : Type 0 where
  Waits : Condition
  Writes : Condition
  Finished : Condition

-- The account of a number: its condition; the step that answered it with a response, if one did; the bytes that were
-- written under it; and the date on which its 100 was first asked for, if it was.
pub record Account : Type 0 where
  pub condition : Condition
  pub by : Option TimedValue
  pub written : List ℕ
  pub asked : Option HttpDate

-- the account of a number for which nothing was done
abbrev pub untouched : Account
untouched = record { condition = Waits; by = None; written = []; asked = None }

-- the account, with this condition if `holds` is true, and otherwise unchanged
abbrev pub becomes : Condition → Bool → Account → Account
becomes condition holds a = if holds then record a { condition = condition } else a

-- the account, answered by this step if `holds` is true, and otherwise unchanged
abbrev pub answered_by : TimedValue → Bool → Account → Account
answered_by step holds a = if holds then record a { by = Some step } else a

abbrev pub first_date : Option HttpDate → HttpDate → Option HttpDate
first_date None date = Some date
first_date (Some first) date = Some first

-- The account of a number after a step for it, given the reply. An Ask, a Read, a Flush, and a step that was neither
-- done nor refused change nothing.
abbrev pub account_after : HttpDate → StepValue → ReplyValue → Account → Account
account_after date Ask reply a = a
account_after date (AsReader k) reply a = if is_done reply then record a { asked = first_date a.asked date } else a
account_after date (Read k n) reply a = a
account_after date (Respond k response) reply a =
    becomes Finished (is_done reply || is_refused reply) (answered_by (date, Respond k response) (is_done reply) a)
account_after date (IntoWriter k) reply a = becomes Writes (is_done reply) a
account_after date (Write k bytes) reply a = if is_done reply then record a { written = a.written ++ bytes } else a
account_after date (Flush k) reply a = a
account_after date (Upgrade k protocol response) reply a =
    becomes Finished (is_refused reply)
    (becomes Writes (is_done reply) (answered_by (date, Upgrade k protocol response) (is_done reply) a))
account_after date (Finish k) reply a = becomes Finished (is_done reply) a
account_after date (Drop k) reply a = becomes Finished (is_done reply) a

-- the account of number k after a step, which may be for another number
abbrev pub account_now : ℕ → HttpDate → StepValue → ReplyValue → Account → Account
account_now k date step reply a = if number_of step == k then account_after date step reply a else a

abbrev pub account_from : ℕ → Account → List TimedValue → List ReplyValue → Account
account_from k a (s ∷ steps) (reply ∷ replies) = account_from k (account_now k s.0 s.1 reply a) steps replies
account_from k a _ _ = a

-- WHAT WAS DONE FOR NUMBER k, as the steps and their replies say
abbrev pub account : ℕ → List TimedValue → List ReplyValue → Account
account k steps replies = account_from k untouched steps replies

-- ---- what a number is in the end

abbrev pub condition_of : Stage → Condition
condition_of Unanswered = Waits
condition_of (Answered response date found) = Finished
condition_of ByServer = Finished
condition_of (Raw written closed) = if closed then Finished else Writes
condition_of (Upgraded protocol response date written closed) = if closed then Finished else Writes

abbrev pub written_in : Stage → List ℕ
written_in (Raw written closed) = written
written_in (Upgraded protocol response date written closed) = written
written_in _ = []

-- NUMBER k IS AS ITS ACCOUNT SAYS. Its condition is that of the account. Its response is that of the step that answered
-- it, if one did; otherwise it is the server's, or there is none. The bytes written under it are those of its writes.
-- If its head expects a 100 that was asked for, the 100 has the date on which it was first asked for; otherwise there
-- is none. Nothing is done for a refused head, which the server answers.
abbrev pub MatchesAccount : ℕ → Slot → Item → Account → Type 0
MatchesAccount k s (Asks r) a =
    (condition_of s.stage ≡ a.condition)
    × (maker k s.stage ≡ a.by)
    × (written_in s.stage ≡ a.written)
    × (s.continued ≡ (if r.framing.owes_continue then a.asked else None))
MatchesAccount k s (Refuses refusal manner no_body last) a = (s.stage ≡ ByServer)
    × (a ≡ untouched) × (s.continued ≡ None)

-- ---- turns

-- whether a number with this item and this account is finished, or is that of a refused head
abbrev pub IsThrough : Option Item → Account → Type 0
IsThrough (Some (Refuses refusal manner no_body last)) a = ⊤
IsThrough item a = a.condition ≡ Finished

-- whether a request was handed out under this number
abbrev pub IsHanded : ℕ → List (ℕ × Message × Framing) → Type 0
IsHanded k [] = ⊥
IsHanded k (h ∷ handed) = (h.0 ≡ k) ⊎ IsHanded k handed

-- whether a number in this condition accepts the step
abbrev pub takes : Condition → StepValue → Bool
takes Waits (AsReader k) = true
takes Waits (Read k n) = true
takes Waits (Respond k response) = true
takes Waits (IntoWriter k) = true
takes Waits (Upgrade k protocol response) = true
takes Waits (Drop k) = true
takes Writes (Read k n) = true
takes Writes (Write k bytes) = true
takes Writes (Flush k) = true
takes Writes (Finish k) = true
takes _ _ = false

-- whether the step may be done before the turn of its number
abbrev pub is_done_early : StepValue → Bool
is_done_early (IntoWriter k) = true
is_done_early (Drop k) = true
is_done_early (Finish k) = true
is_done_early _ = false

-- whether the step is done only in the turn of its number
abbrev pub waits_its_turn : StepValue → Bool
waits_its_turn (Respond k response) = true
waits_its_turn (Write k bytes) = true
waits_its_turn (Flush k) = true
waits_its_turn (Upgrade k protocol response) = true
waits_its_turn _ = false

-- whether a step that its number accepts was done or refused; a Read is unrestricted, since it isn't accepted while a
-- 100 is owed, and may be out of memory
abbrev pub IsTaken : StepValue → ReplyValue → Type 0
IsTaken (Read k n) reply = ⊤
IsTaken step reply = (is_done reply || is_refused reply) ≡ true

abbrev pub is_ask : StepValue → Bool
is_ask Ask = true
is_ask _ = false

abbrev pub is_read : StepValue → Bool
is_read (Read k n) = true
is_read _ = false

-- ---- why the requests end

-- whether the step is an Ask that reports that no further request comes
abbrev pub IsEnd : StepValue → ReplyValue → Type 0
IsEnd Ask Ended = ⊤
IsEnd _ _ = ⊥

abbrev pub HasEnd : List TimedValue → List ReplyValue → Type 0
HasEnd (s ∷ steps) (reply ∷ replies) = IsEnd s.1 reply ⊎ HasEnd steps replies
HasEnd _ _ = ⊥

-- whether the step ends the requests: an Ask that is out of memory, or a Respond that is done and asks to close the
-- connection
abbrev pub EndsRequests : StepValue → ReplyValue → Type 0
EndsRequests Ask reply = reply ≡ Memory
EndsRequests (Respond k response) reply = (is_done reply ≡ true) × (response.answer.closes ≡ true)
EndsRequests _ _ = ⊥

abbrev pub OneEndsRequests : List TimedValue → List ReplyValue → Type 0
OneEndsRequests (s ∷ steps) (reply ∷ replies) = EndsRequests s.1 reply ⊎ OneEndsRequests steps replies
OneEndsRequests _ _ = ⊥

-- Whether a request was cut short: under Standard, the 100 that it expects was not sent, or more of its body was left
-- than is skipped, when it was finished or its raw writer was taken; or its chunked body was given up before its end
-- was reported.
abbrev pub was_cut_short : Slot → Request → Bool
was_cut_short s r =
    body_was_abandoned s (Asks r)
    || (r.framing.by_standard
    && ((r.framing.owes_continue && not (is_some s.continued)) || is_long (remainder_of r s.given s.end_reported)))

-- whether no head is read after a number in this stage, whatever its own head says: its request was cut short (if it
-- was upgraded, only by giving up its chunked body), or asked for an upgrade and took over the connection's stream
abbrev pub stops_by : Slot → Request → Stage → Bool
stops_by s r Unanswered = false
stops_by s r (Answered response date found) = was_cut_short s r
stops_by s r ByServer = was_cut_short s r
stops_by s r (Raw written closed) = r.framing.asks_upgrade || was_cut_short s r
stops_by s r (Upgraded protocol response date written closed) =
    r.framing.asks_upgrade || body_was_abandoned s (Asks r)

abbrev pub stops : Slot → Item → Bool
stops s (Asks r) = stops_by s r s.stage
stops s (Refuses refusal manner no_body last) = false

-- whether one of these numbers stops the requests
abbrev pub OneStops : List Slot → Type 0
OneStops slots = (k : ℕ) × (s : Slot) × (slice_get slots k ≡ Some s) × (stops s s.item ≡ true)
