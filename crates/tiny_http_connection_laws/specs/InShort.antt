-- The connection theorem in short. The laws of this crate that use these definitions are on the parts of an
-- `IsConversation`: its `items`, which are the pipeline of the bytes (its field `pipeline`); `end.reached.slots`, the
-- numbers that were reached; and its replies and output. They can be understood with the definitions of what the bytes
-- hold (`Pipeline`, in `tiny_http_open_request`) and what a number sends (`segment`, in `tiny_http_connection`) alone,
-- without those of a step's outcome and of what the driver keeps.
use Rattle.std.specs.Prelude.{◌≡◌, ℕ, ◌+◌, ◌⊎◌, ⊤, ◌==◌, Bool, not, ◌&&◌, List, [], ◌∷◌, ◌++◌, MatchBool}
use Rattle.std.specs.Prelude.{Option, Some, None, if◌then◌else◌}
use Rattle.tiny_http_io.specs.Device.{Feed}
use Rattle.tiny_http_head.specs.Heads.{Message}
use Rattle.tiny_http_body.specs.declared.framing.Framing.{Framing}
use Rattle.tiny_http_open_request.specs.Pipeline.{Item, Asks, Refuses, Request}
use Rattle.tiny_http_connection.specs.Segments.{Slot, Stage, Answered, Upgraded, segment, is_slot_broken, is_finished}
use Rattle.tiny_http_connection.specs.Giving.{ReadsNext}
use Rattle.tiny_http_connection.specs.Steps.{StepValue, Read, Respond, Upgrade, ReplyValue, Handed}
use Rattle.tiny_http_connection.specs.Steps.{Done, TimedValue}

-- ---- which requests are handed out

-- the requests that the replies hand out, each with its number
abbrev pub handed : List ReplyValue → List (ℕ × Message × Framing)
handed [] = []
handed (Handed k message framing ∷ replies) = (k, message, framing) ∷ handed replies
handed (_ ∷ replies) = handed replies

-- the requests of a pipeline, each with its position, counted from k; a refused head has a position, too
abbrev pub requests_from : ℕ → List Item → List (ℕ × Message × Framing)
requests_from k [] = []
requests_from k (Asks r ∷ items) = (k, r.message, r.framing) ∷ requests_from (k + 1) items
requests_from k (Refuses refusal manner no_body last ∷ items) = requests_from (k + 1) items

-- ---- what a body gives

-- Whether `next` is left of the body of request k after a step with this reply, if `left` was left before the step.
-- After an upgrade under Standard, the bytes after the request are left.
abbrev pub LeavesBody : ℕ → Request → Feed → StepValue → ReplyValue → Feed → Type 0
LeavesBody k r left (Read j n) reply next = MatchBool (j == k) (ReadsNext n left reply next) (next ≡ left)
LeavesBody k r left (Upgrade j protocol response) Done next =
    next ≡ (if (j == k && r.framing.by_standard) then r.behind else left)
LeavesBody k r left _ reply next = next ≡ left

-- THE READS OF A BODY: each step leaves of the body of request k what the next step begins with.
abbrev pub ReadsInOrder : ℕ → Request → Feed → List TimedValue → List ReplyValue → Type 0
ReadsInOrder k r left (s ∷ steps) (reply ∷ replies) =
    (next : Feed) × LeavesBody k r left s.1 reply next × ReadsInOrder k r next steps replies
ReadsInOrder k r left _ _ = ⊤

-- ---- what is sent

-- The bytes that were made for one number, and whether they are all of its bytes, so that those of the next number
-- follow.
pub record Segment : Type 0 where
  pub bytes : List ℕ
  pub is_whole : Bool

-- the segments one after another up to the first that isn't whole, after which nothing follows
abbrev pub sent : List Segment → List ℕ
sent [] = []
sent (s ∷ segments) = s.bytes ++ (if s.is_whole then sent segments else [])

-- the segment of a number: whole once the number is finished, unless it breaks off
abbrev pub segment_of : Slot → Segment
segment_of s = record { bytes = segment s; is_whole = is_finished s && not (is_slot_broken s) }

-- whether two items have the same head, read by the same rules: an upgrade changes only how the bytes after the head
-- are read
abbrev pub AreOfOneHead : Item → Item → Type 0
AreOfOneHead (Asks q) (Asks r) =
    (q.message ≡ r.message)
    × (q.framing.by_standard ≡ r.framing.by_standard)
    × (q.framing.owes_continue ≡ r.framing.owes_continue)
    × (q.framing.asks_upgrade ≡ r.framing.asks_upgrade)
AreOfOneHead item other = item ≡ other

-- the step that made the response of number k, with its date, or `None` if no step of the program made it
abbrev pub maker : ℕ → Stage → Option TimedValue
maker k (Answered response date found) = Some (date, Respond k response)
maker k (Upgraded protocol response date written closed) = Some (date, Upgrade k protocol response)
maker k _ = None

-- whether this step is one of these
abbrev pub IsAmong : TimedValue → List TimedValue → Type 0
IsAmong t [] = ⊥
IsAmong t (s ∷ steps) = (s ≡ t) ⊎ IsAmong t steps
