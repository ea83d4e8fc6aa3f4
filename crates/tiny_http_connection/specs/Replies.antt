-- Whether each step is done, given what is kept of its number. The laws of `InShort` (`tiny_http_connection_laws`) can
-- be understood without this file.
use Rattle.std.specs.Prelude.{◌≡◌, ⊤, ℕ, ◌==◌, Bool, true, false, not, ◌&&◌, Option, Some, is_some, slice_get}
use Rattle.std.specs.Prelude.{string_bytes}
use Rattle.tiny_http_io.specs.Device.{Feed}
use Rattle.tiny_http_turns.specs.Turns.{Mark, Open, first_unfinished}
use Rattle.tiny_http_connection.specs.declared.driver.Step.{Step}
use Rattle.tiny_http_connection.specs.declared.driver.Step.TheVariants as step
use Rattle.tiny_http_connection.specs.Steps.{ReplyValue, NoSuch, Refused, NotYet}
use Rattle.tiny_http_connection.specs.Seen.{IsAnswered}
use Rattle.tiny_http_connection.specs.Pending.{waiting_response_context, owes_continue, is_writable, refuses_at}
use Rattle.tiny_http_connection.specs.Pending.{refuses_upgrade_at}
use Rattle.tiny_http_connection.specs.Connection.{ConnectionState}

-- THE REPLY TO A STEP on a number, given whether a request accepts the step, whether the step is refused, and whether
-- it has to wait: `NoSuch` if no request accepts it; otherwise `Refused` if it is refused; otherwise `NotYet` if it has
-- to wait; otherwise the step was done, or its fault is reported.
abbrev pub IsReplied : Bool → Bool → Bool → ReplyValue → Type 0
IsReplied false refused waits reply = reply ≡ NoSuch
IsReplied true true waits reply = reply ≡ Refused
IsReplied true false true reply = reply ≡ NotYet
IsReplied true false false reply = IsAnswered reply

abbrev pub is_open_mark : Option Mark → Bool
is_open_mark (Some Open) = true
is_open_mark _ = false

-- whether this number awaits its response
abbrev pub is_waiting : {R W : Type 0} → ConnectionState R W → ℕ → Bool
is_waiting c k = is_some (waiting_response_context (slice_get c.requests k))

-- whether the turn of this number has come
abbrev pub is_in_turn : {R W : Type 0} → ConnectionState R W → ℕ → Bool
is_in_turn c k = k == first_unfinished c.marks

-- whether this number is open and its turn has come
abbrev pub can_take : {R W : Type 0} → ConnectionState R W → ℕ → Bool
can_take c k = is_open_mark (slice_get c.marks k) && is_in_turn c k

-- Whether the reply to a step fits what is kept of its number. `AskEnds` and `ReadLeaves` define the replies to an Ask
-- and a Read, which are unrestricted here.
abbrev pub StepReplies : {R W : Type 0} → ConnectionState R W → Step (Option Feed) → ReplyValue → Type 0
StepReplies c step.Ask reply = ⊤
StepReplies c (step.Read k n) reply = ⊤
StepReplies c (step.AsReader k) reply =
    IsReplied (is_waiting c k) false (owes_continue (slice_get c.requests k) && not (is_in_turn c k)) reply
StepReplies c (step.Respond k r) reply =
    IsReplied (is_waiting c k) (refuses_at r.answer.status (slice_get c.requests k)) (not (can_take c k)) reply
StepReplies c (step.IntoWriter k) reply = IsReplied (is_waiting c k) false false reply
StepReplies c (step.Write k bytes) reply =
    IsReplied (is_writable (slice_get c.requests k)) false (not (is_in_turn c k)) reply
StepReplies c (step.Flush k) reply =
    IsReplied (is_writable (slice_get c.requests k)) false (not (is_in_turn c k)) reply
StepReplies c (step.Upgrade k p r) reply =
    IsReplied (is_waiting c k) (refuses_upgrade_at (string_bytes p) r.answer.status (slice_get c.requests k))
    (not (is_in_turn c k)) reply
StepReplies c (step.Finish k) reply = IsReplied (is_writable (slice_get c.requests k)) false false reply
StepReplies c (step.Drop k) reply = IsReplied (is_waiting c k) false false reply
