-- The state of the numbers that aren't finished, and the texts that are sent when their turn comes. The laws of
-- `InShort` (`tiny_http_connection_laws`) can be understood without this file.
use Rattle.std.specs.Prelude.{◌≡◌, ◌==◌, ◌<◌, ◌^◌, ◌+◌, ℕ, Bool, true, false, not, ◌||◌, List, [], ◌∷◌, ◌++◌, length}
use Rattle.std.specs.Prelude.{Option, Some, None, MatchBool, is_err, slice_get, if◌then◌else◌}
use Rattle.tiny_http_io.specs.Device.{Sink}
use Rattle.tiny_http_response.specs.declared.response_context.ResponseContext.{ResponseContext}
use Rattle.std.specs.Global.{Vec}
use Rattle.tiny_http_connection.specs.declared.pending.HeldNumber.{HeldNumber}
use Rattle.tiny_http_connection.specs.declared.pending.Pending.{Pending}
use Rattle.tiny_http_connection.specs.declared.pending.Unfinished.{Unfinished}
use Rattle.tiny_http_connection.specs.declared.pending.Unfinished.TheVariants as still
use Rattle.tiny_http_body.specs.declared.body.UnreadBody.{UnreadBody}
use Rattle.tiny_http_open_request.specs.declared.open_request.OpenRequest.{OpenRequest}
use Rattle.tiny_http_body.specs.Body.{is_streaming, is_whole, remainder, GivesUp}
use Rattle.tiny_http_open_request.specs.OpenRequest.{closing, is_last_once_finished, final_context, refuses_code}
use Rattle.tiny_http_open_request.specs.OpenRequest.{request_check}
use Rattle.tiny_http_io.specs.Source.{SourceState}
use Rattle.tiny_http_io.specs.Outlet.{OutletState, output_of, outlet_ended, outlet_held, SentOn}
use Rattle.tiny_http_response.specs.Sending.{CanSend, SendsUnlessEnded, SendsQuietlyOn, IsFlushed, FailsOnce, KeepsSent}
use Rattle.tiny_http_connection.specs.Slots.{with_last}
use Rattle.tiny_http_turns.specs.Turns.{Mark, Open, Held, Left, Finished, AreInShape, first_unfinished, TurnsState}
use Rattle.tiny_http_turns.specs.Turns.{Finish, marks_after_step, turn_answer}
use Rattle.tiny_http_turns.specs.TurnsCalls.{Finishes}
use Rattle.tiny_http_turns.specs.declared.turns.Finishing.{Finishing}
use Rattle.tiny_http_turns.specs.declared.turns.Finishing.TheVariants.{Go}

-- the joined texts of the numbers at the front that are marked `Left`
abbrev pub left_text : List Mark → List ℕ
left_text [] = []
left_text (Open ∷ marks) = []
left_text (Held ∷ marks) = []
left_text (Left text ∷ marks) = text ++ left_text marks
left_text (Finished ∷ marks) = []

-- the marks, once the numbers at the front that are marked `Left` are finished
abbrev pub with_left_finished : List Mark → List Mark
with_left_finished [] = []
with_left_finished (Open ∷ marks) = Open ∷ marks
with_left_finished (Held ∷ marks) = Held ∷ marks
with_left_finished (Left text ∷ marks) = Finished ∷ with_left_finished marks
with_left_finished (Finished ∷ marks) = Finished ∷ marks

-- whether the first of these numbers is marked `Left`
abbrev pub begins_left : List Mark → Bool
begins_left [] = false
begins_left (Open ∷ marks) = false
begins_left (Held ∷ marks) = false
begins_left (Left text ∷ marks) = true
begins_left (Finished ∷ marks) = false

-- Whether the texts of the numbers at the front that are marked `Left` were sent, unless the output had ended, and
-- flushed. If there is no such number, nothing was done. `was` and `ended`: whether the output had ended before, and
-- has ended afterwards.
abbrev pub SendsLeft : List Mark → Bool → Sink → Sink → Bool → Type 0
SendsLeft rest was old new ended =
    MatchBool (begins_left rest) (SendsUnlessEnded was old new ended (left_text rest)
    × IsFlushed new) ((new ≡ old)
    × (ended ≡ was))

-- whether the held number between `front` and `rest` was finished, and so were those directly after it that were marked
-- `Left`
abbrev pub FinishesFront : List Mark → List Mark → List Mark → Type 0
FinishesFront front rest new = new ≡ front ++ (Finished ∷ with_left_finished rest)

-- Whether this text was left for the open number between `front` and `rest`. If its turn had come, the text was sent,
-- unless the output had ended, with the texts of the numbers directly after it that were marked `Left`; otherwise it
-- waits. `was` and `ended`: whether the output had ended before, and has ended afterwards.
abbrev pub LeavesText : Bool → List Mark → List Mark → List Mark → List ℕ → Bool → Sink → Sink → Bool → Type 0
LeavesText in_turn front rest marks text was old new ended =
    MatchBool in_turn
    (FinishesFront front rest marks × SendsUnlessEnded was old new ended (text ++ left_text rest) × IsFlushed new)
    ((marks ≡ front ++ (Left text ∷ rest)) × AreInShape marks × (new ≡ old) × (ended ≡ was))

-- the context of the response to a number if it is sent now, or `None` if the number doesn't await its response
abbrev pub waiting_response_context : Option (Option Unfinished) → Option ResponseContext
waiting_response_context (Some (Some (still.Waiting w))) = Some (final_context w (remainder w.body))
waiting_response_context (Some (Some still.Raw)) = None
waiting_response_context (Some (Some (still.Upgraded b))) = None
waiting_response_context (Some None) = None
waiting_response_context None = None

-- whether number `number` awaits its response, and `w` is what is kept of its request
abbrev pub WaitsAt : List (Option Unfinished) → ℕ → OpenRequest UnreadBody → Type 0
WaitsAt requests number w = slice_get requests number ≡ Some (Some (still.Waiting w))

-- whether the body of a number can be read: the number awaits its response and no 100 is owed, or the stream of its
-- upgrade is in use
abbrev pub is_readable : Option (Option Unfinished) → Bool
is_readable (Some (Some (still.Waiting w))) = not w.owes_continue
is_readable (Some (Some still.Raw)) = false
is_readable (Some (Some (still.Upgraded b))) = true
is_readable (Some None) = false
is_readable None = false

-- whether bytes can be written under a number: its raw writer or the stream of its upgrade is in use
abbrev pub is_writable : Option (Option Unfinished) → Bool
is_writable (Some (Some (still.Waiting w))) = false
is_writable (Some (Some still.Raw)) = true
is_writable (Some (Some (still.Upgraded b))) = true
is_writable (Some None) = false
is_writable None = false

-- whether a number awaits its response and a 100 is owed
abbrev pub owes_continue : Option (Option Unfinished) → Bool
owes_continue (Some (Some (still.Waiting w))) = w.owes_continue
owes_continue (Some (Some still.Raw)) = false
owes_continue (Some (Some (still.Upgraded b))) = false
owes_continue (Some None) = false
owes_continue None = false

-- whether a number awaits its response, and the next head isn't read before it is answered
abbrev pub holds_next_head_at : Option (Option Unfinished) → Bool
holds_next_head_at (Some (Some (still.Waiting w))) = w.holds_next_head
holds_next_head_at (Some (Some still.Raw)) = false
holds_next_head_at (Some (Some (still.Upgraded b))) = false
holds_next_head_at (Some None) = false
holds_next_head_at None = false

-- whether a number awaits its response, and no head is read after it if it is finished now
abbrev pub is_last_once_finished_at : Option (Option Unfinished) → Bool
is_last_once_finished_at (Some (Some (still.Waiting w))) = is_last_once_finished w (remainder w.body)
is_last_once_finished_at (Some (Some still.Raw)) = false
is_last_once_finished_at (Some (Some (still.Upgraded b))) = false
is_last_once_finished_at (Some None) = false
is_last_once_finished_at None = false

-- whether a number awaits its response, and a response with this status code is refused
abbrev pub refuses_at : ℕ → Option (Option Unfinished) → Bool
refuses_at code (Some (Some (still.Waiting w))) = refuses_code w.by_standard w.is_connect code
refuses_at code (Some (Some still.Raw)) = false
refuses_at code (Some (Some (still.Upgraded b))) = false
refuses_at code (Some None) = false
refuses_at code None = false

-- whether a number awaits its response, and an upgrade to this protocol with this status code is refused
abbrev pub refuses_upgrade_at : List ℕ → ℕ → Option (Option Unfinished) → Bool
refuses_upgrade_at protocol code (Some (Some (still.Waiting w))) =
    is_err (request_check w protocol code (is_whole w.body))
refuses_upgrade_at protocol code (Some (Some still.Raw)) = false
refuses_upgrade_at protocol code (Some (Some (still.Upgraded b))) = false
refuses_upgrade_at protocol code (Some None) = false
refuses_upgrade_at protocol code None = false

-- whether a number awaits its response, and no head is read after it once it takes over the connection's stream
abbrev pub is_last_with_stream_at : Option (Option Unfinished) → Bool
is_last_with_stream_at o = holds_next_head_at o || is_last_once_finished_at o

-- what is kept of a number once its response has to say that the connection closes; unchanged if the number doesn't
-- await its response
abbrev pub closing_number : Option Unfinished → Option Unfinished
closing_number (Some (still.Waiting w)) = Some (still.Waiting (closing w))
closing_number (Some still.Raw) = Some still.Raw
closing_number (Some (still.Upgraded b)) = Some (still.Upgraded b)
closing_number None = None

-- what is kept of these numbers; if `closes` holds, the response to the last has to say that the connection closes
abbrev pub closing_if_asked : Bool → List (Option Unfinished) → List (Option Unfinished)
closing_if_asked closes requests = if closes then with_last closing_number requests else requests

-- whether the last of these numbers awaits its response, and the next head isn't read before it is answered
abbrev pub last_holds_next_head : List (Option Unfinished) → Bool
last_holds_next_head [] = false
last_holds_next_head (u ∷ []) = holds_next_head_at (Some u)
last_holds_next_head (u ∷ v ∷ us) = last_holds_next_head (v ∷ us)

-- the body that is kept for a number, if any
abbrev pub kept_body : Option Unfinished → Option UnreadBody
kept_body None = None
kept_body (Some (still.Waiting w)) = Some w.body
kept_body (Some still.Raw) = None
kept_body (Some (still.Upgraded b)) = Some b

-- whether this body was given up; if there is none, whether the source is unchanged
abbrev pub GivesUpIfKept : {R : Type 0} → Option UnreadBody → SourceState R → SourceState R → Type 0
GivesUpIfKept None old new = new ≡ old
GivesUpIfKept (Some b) old new = GivesUp b old new

-- what is kept of a number, with `b` as its body if a body is kept
abbrev pub number_with_body : UnreadBody → Unfinished → Unfinished
number_with_body b (still.Waiting w) = still.Waiting (record w { body = b })
number_with_body b still.Raw = still.Raw
number_with_body b (still.Upgraded c) = still.Upgraded b

-- the body that is kept for the last of these numbers, if any
abbrev pub last_body : List (Option Unfinished) → Option UnreadBody
last_body [] = None
last_body (u ∷ []) = kept_body u
last_body (u ∷ v ∷ us) = last_body (v ∷ us)

-- whether a body is kept, and is read from the input
abbrev pub is_streaming_body : Option UnreadBody → Bool
is_streaming_body None = false
is_streaming_body (Some b) = is_streaming b

-- A REFUSED HEAD takes the next number, and its error response is left for that number; or, if `kept` is false, memory
-- for that is refused, and nothing changes. If the outlet held nothing back before, it holds nothing back afterwards.
pub record RefusesHead {W : Type 0} (p : Pending) (o : OutletState W) (text : List ℕ) (kept : Bool) (q : Pending)
    (u : OutletState W) : Type 0 where
  pub leaves : kept ≡ true → (outlet_ended o ≡ false → CanSend (output_of o))
      → LeavesText (length p.turns.marks == first_unfinished p.turns.marks) p.turns.marks [] q.turns.marks text
      (outlet_ended o) (output_of o) (output_of u) (outlet_ended u)
  pub counts : kept ≡ true → length q.turns.marks ≡ length p.turns.marks + 1
  pub requests : kept ≡ true → q.requests ≡ p.requests ++ (None ∷ [])
  pub bound : kept ≡ true → length q.requests < 2 ^ 64
  pub stays : kept ≡ false → (q.turns ≡ p.turns) × (q.requests ≡ p.requests) × (u ≡ o)
  pub fails_once : FailsOnce o u
  pub flushed : outlet_held o ≡ [] → outlet_held u ≡ []
  pub sent_on : SentOn o → SentOn u

-- whether this text was written in the turn of a held number
abbrev pub WritesHeld : {W : Type 0} → HeldNumber → OutletState W → List ℕ → HeldNumber → OutletState W → Type 0
WritesHeld k o text l u = (l ≡ k) × SendsQuietlyOn o u text × FailsOnce o u × KeepsSent o u

-- The successor of a held number once that number is finished: the next number, for which this text had been left and
-- which is now held, or, for `None`, no such number.
abbrev pub NextHeld : HeldNumber → Finishing (Unit {0}) → Option (Vec ℕ) → HeldNumber → Type 0
NextHeld k r None l = ((u : Unit {0}) (next : Vec ℕ) → r ≡ Go u next → ⊥)
NextHeld k r (Some text) l = ((u : Unit {0}) × (r ≡ Go u text)) × (l.0 ≡ k.0 + 1) × (l.0 < 2 ^ 64)

-- whether a held number was finished by the step `Finish` of the turns (`tiny_http_turns`), and the next number follows
-- as `NextHeld` defines
abbrev pub FinishesHeld : HeldNumber → TurnsState (Unit {0}) → Option (Vec ℕ) → HeldNumber → TurnsState (Unit {0})
    → Type 0
FinishesHeld k p left l q =
    (r : Finishing (Unit {0}))
    × (q.marks ≡ marks_after_step (Finish k.0) p.marks)
    × Finishes (turn_answer (Finish k.0) p.marks) tt p.resting r q.resting
    × NextHeld k r left l
