-- The representation of a state of a conversation by a `Connection`. The laws of `InShort`
-- (`tiny_http_connection_laws`) can be understood without this file.
use Rattle.std.specs.Prelude.{◌≡◌, ℕ, ◌+◌, Bool, true, false, not, ◌&&◌, List, [], ◌∷◌, Option, Some, None, is_some}
use Rattle.std.specs.Prelude.{MatchBool, ⊤}
use Rattle.std.specs.Option.{option_map}
use Rattle.std.specs.List.{AllByRecursion}
use Rattle.httpdate.specs.declared.date.HttpDate.{HttpDate}
use Rattle.tiny_http_io.specs.declared.device.Stop.{Stop}
use Rattle.tiny_http_io.specs.declared.device.Stop.TheVariants.{End}
use Rattle.tiny_http_io.specs.Device.{Feed, Sink, IsFront, StatesKind, whole_feed}
use Rattle.tiny_http_open_request.specs.ErrorResponse.{persistence_of}
use Rattle.tiny_http_open_request.specs.OpenRequest.{coding_for}
use Rattle.tiny_http_body.specs.declared.body.UnreadBody.{UnreadBody}
use Rattle.tiny_http_response.specs.declared.response_context.ResponseContext.{ResponseContext}
use Rattle.tiny_http_open_request.specs.declared.open_request.OpenRequest.{OpenRequest}
use Rattle.tiny_http_connection.specs.declared.pending.Unfinished.{Unfinished}
use Rattle.tiny_http_connection.specs.declared.pending.Unfinished.TheVariants as still
use Rattle.tiny_http_body.specs.declared.framing.Profile.{Profile}
use Rattle.tiny_http_body.specs.declared.framing.Form.TheVariants.{Rest}
use Rattle.tiny_http_io.specs.Source.{SourceState, GoesOn}
use Rattle.tiny_http_io.specs.ToCome.{stopped}
use Rattle.tiny_http_body.specs.Body.{Remaining, remaining, taken_remaining, is_streaming, Fits}
use Rattle.tiny_http_connection.specs.Pending.{kept_body, last_body, is_streaming_body, holds_next_head_at}
use Rattle.tiny_http_connection.specs.Pending.{last_holds_next_head}
use Rattle.tiny_http_standard_head.specs.Validation.{names_protocol}
use Rattle.tiny_http_open_request.specs.declared.exchange.EndOfRequests.{EndOfRequests}
use Rattle.tiny_http_io.specs.declared.source.InputState.{InputState}
use Rattle.tiny_http_io.specs.declared.source.InputState.TheVariants as at
use Rattle.tiny_http_io.specs.Outlet.{OutletState, output_of}
use Rattle.tiny_http_open_request.specs.Pipeline.{Item, Asks, Refuses, Request, is_head_method, is_connect_method}
use Rattle.tiny_http_open_request.specs.Pipeline.{body_length_or_0, Pipeline}
use Rattle.tiny_http_connection.specs.Segments.{Slot, Stage, ByServer, Raw, Upgraded, is_finished}
use Rattle.tiny_http_connection.specs.Slots.{closes_now, is_output_broken, joined, new_slot}
use Rattle.tiny_http_connection.specs.Segments.{is_slot_broken, segment, stage_text}
use Rattle.tiny_http_connection.specs.Slots.{holds_next_head, asks_protocol, last_slot, is_last_slot}
use Rattle.tiny_http_connection.specs.Slots.{last_was_abandoned, rest_of}
use Rattle.tiny_http_connection.specs.Outcomes.{finished_as}
use Rattle.tiny_http_response.specs.ResponseValue.{ResponseValue}
use Rattle.tiny_http_turns.specs.Turns.{Mark, Open, Left, Finished, AreInShape}
use Rattle.tiny_http_connection.specs.Conversation.{State, Failure, PlaceAt, BeginsBehind}

-- The parts of a connection that represent a state: its profile, the turns of its numbers, and what is kept of those
-- that aren't finished; the input state, whether the requests have ended, what is still to come of the input, how it
-- stopped and whether it is over; what the writer states, with what is held, and whether the output has ended.
pub record Kept : Type 0 where
  pub profile : Profile
  pub marks : List Mark
  pub requests : List (Option Unfinished)
  pub input_state : InputState
  pub asking_ended : Bool
  pub feed : Option Feed
  pub stop : Option Stop
  pub is_over : Bool
  pub sink : Sink
  pub output_ended : Bool

-- The parts of a `Connection` that contracts refer to: its profile, the turns of its numbers, what is kept of those
-- that aren't finished, why the requests have ended, if they have, its input and its output.
pub record ConnectionState (R W : Type 0) : Type 0 where
  pub profile : Profile
  pub marks : List Mark
  pub requests : List (Option Unfinished)
  pub end : Option EndOfRequests
  pub source : SourceState R
  pub outlet : OutletState W

abbrev pub kept : {R W : Type 0} → ConnectionState R W → Kept
kept c =
    record {
      profile = c.profile;
      marks = c.marks;
      requests = c.requests;
      input_state = c.source.input_state;
      asking_ended = is_some c.end;
      feed = c.source.feed;
      stop = c.source.stop;
      is_over = c.source.is_over;
      sink = output_of c.outlet;
      output_ended = c.outlet.ended;
    }

-- the response context of a request; `closes`: whether, under Standard, the response says that the connection closes
abbrev pub response_context_of : Bool → Request → ResponseContext
response_context_of closes r =
    record {
      version = r.message.version;
      asked_coding = coding_for r.framing.by_standard r.message.headers;
      no_body = is_head_method r.message.method;
      persistence = persistence_of r.framing.by_standard closes;
    }

-- The account of a request, apart from its body and its response: the date on which it was handed out, the date of its
-- 100, if one was sent, whether a 100 is still owed, and whether a response asked to close the connection.
pub record HandedOut : Type 0 where
  pub date : HttpDate
  pub continued : Option HttpDate
  pub owed : Bool
  pub closes : Bool

-- the slot of a request that was handed out as `h` states and awaits its response, after `given` bytes of its body were
-- given out; `end_reported`: whether the body's end or fault was reported
abbrev pub open_slot : HandedOut → Request → ℕ → Bool → Slot
open_slot h r given end_reported =
    record (new_slot h.date (Asks r))
    { continued = h.continued; owed = h.owed; closes = h.closes; given = given; end_reported = end_reported }

-- the slot of a request that was handed out as `h` states, once it was dropped after `given` bytes of its body were
-- given out; `end_reported`: whether the body's end or fault was reported
abbrev pub dropped : HandedOut → Request → ℕ → Bool → Slot
dropped h r given end_reported =
    finished_as (closes_now r h.closes h.owed given end_reported) (open_slot h r given end_reported) ByServer

-- Whether `s` is the slot of a request that awaits its response, and `w` is what the connection keeps of that request.
pub record IsWaiting (s : Slot) (w : OpenRequest UnreadBody) : Type 0 where
  pub request : Request
  pub handed : HandedOut
  pub given : ℕ
  pub end_reported : Bool
  pub is : s ≡ open_slot handed request given end_reported
  pub owed : w.owes_continue ≡ handed.owed
  pub holds : w.holds_next_head ≡ holds_next_head request
  pub standard : w.by_standard ≡ request.framing.by_standard
  pub connect : w.is_connect ≡ is_connect_method request.message.method
  pub upgrades : (protocol : List ℕ)
      → (w.holds_next_head && names_protocol w.upgrades.items protocol) ≡ asks_protocol request protocol
  pub closes : w.closes ≡ handed.closes
  pub unsent : handed.owed ≡ true → handed.continued ≡ None
  pub rest_is_last : request.framing.form ≡ Rest → request.framing.is_last ≡ true
  pub response_context : w.response_context ≡ response_context_of request.framing.is_last request
  pub dropped : w.dropped ≡ record { is_taken = false; date = handed.date }
  pub fits : Fits request.framing.by_standard w.body request.framing.form (body_length_or_0 request.framing) given
      end_reported
  -- a body that isn't read from the input holds what is left of it
  pub settled : is_streaming w.body ≡ false → (f : Feed)
      → remaining w.body (Some f) ≡ Some (taken_remaining (rest_of request given) f)

-- Whether `s` is the slot of a request, in some stage, whose body wasn't given up, and `body` is the unread body that
-- the connection keeps.
pub record IsOpen (s : Slot) (body : UnreadBody) : Type 0 where
  pub request : Request
  pub handed : HandedOut
  pub stage : Stage
  pub given : ℕ
  pub end_reported : Bool
  pub is : s ≡ record (open_slot handed request given end_reported) { stage = stage }
  pub rest_is_last : request.framing.form ≡ Rest → request.framing.is_last ≡ true
  pub fits : Fits request.framing.by_standard body request.framing.form (body_length_or_0 request.framing) given
      end_reported
  pub settled : is_streaming body ≡ false → (f : Feed)
      → remaining body (Some f) ≡ Some (taken_remaining (rest_of request given) f)

-- Whether this is the slot of a number whose raw writer is in use.
pub record IsRaw (s : Slot) : Type 0 where
  pub request : Request
  pub item : s.item ≡ Asks request
  pub written : List ℕ
  pub stage : s.stage ≡ Raw written false
  pub given_up : s.given_up ≡ true

-- Whether `s` is the slot of a number that was upgraded and whose stream is in use, and `body` is the unread body that
-- the connection keeps.
pub record IsUpgraded (s : Slot) (body : UnreadBody) : Type 0 where
  pub opened : IsOpen s body
  pub protocol : List ℕ
  pub response : ResponseValue
  pub date : HttpDate
  pub written : List ℕ
  pub stage : opened.stage ≡ Upgraded protocol response date written false

-- whether this is the slot of an unfinished number for which the connection keeps this `Unfinished`
abbrev pub KeepsUnfinished : Slot → Unfinished → Type 0
KeepsUnfinished s (still.Waiting w) = IsWaiting s w
KeepsUnfinished s still.Raw = IsRaw s
KeepsUnfinished s (still.Upgraded body) = IsUpgraded s body

-- Whether this is the slot of a number that is finished, with its body given up.
pub record IsDone (s : Slot) : Type 0 where
  pub finished : is_finished s ≡ true
  pub given_up : s.given_up ≡ true

-- Whether this is the slot of a finished number whose text, the whole segment, waits for its turn.
pub record IsLeft (s : Slot) (text : List ℕ) : Type 0 where
  pub done : IsDone s
  pub whole : is_slot_broken s ≡ false
  pub same : segment s ≡ text

-- whether this is the slot of a number that has this mark and for which the connection keeps this `Unfinished`, if any
abbrev pub IsKept : Slot → Mark → Option Unfinished → Type 0
IsKept s Open (Some u) = KeepsUnfinished s u
IsKept s (Left text) None = IsLeft s text
IsKept s Finished None = IsDone s
IsKept s _ _ = ⊥

abbrev pub AreKept : List Slot → List Mark → List (Option Unfinished) → Type 0
AreKept [] [] [] = Unit {0}
AreKept (s ∷ slots) (m ∷ marks) (w ∷ requests) = IsKept s m w × AreKept slots marks requests
AreKept _ _ _ = ⊥

-- whether nothing was sent under a number: no 100, and, unless the number is finished, no other bytes (the text of a
-- finished number, which may be made already, waits for its turn)
abbrev pub HasSentNothing : Slot → Type 0
HasSentNothing s =
    (s.continued ≡ None) × (is_finished s ≡ false → (stage_text s.closes s.item s.date s.stage).bytes ≡ [])

-- whether texts were sent in their turn: nothing was sent under a number after the first that isn't finished
abbrev pub AreSentInTurn : List Slot → Type 0
AreSentInTurn [] = Unit {0}
AreSentInTurn (s ∷ slots) = MatchBool (is_finished s) (AreSentInTurn slots) (AllByRecursion HasSentNothing slots)

-- whether a number may come before another: its body isn't read from the input, and the next head doesn't wait for its
-- response
abbrev pub IsSettled : Option Unfinished → Type 0
IsSettled u = (is_streaming_body (kept_body u) ≡ false) × (holds_next_head_at (Some u) ≡ false)

-- whether, of these numbers, only the last may have a body that is read from the input, or a response for which the
-- next head waits
abbrev pub AreSettled : List (Option Unfinished) → Type 0
AreSettled [] = ⊤
AreSettled (u ∷ []) = ⊤
AreSettled (u ∷ v ∷ us) = IsSettled u × AreSettled (v ∷ us)

-- the input after this body, or the whole input if there is no body
abbrev pub behind_body : Option UnreadBody → Option Feed → Option Feed
behind_body None feed = feed
behind_body (Some b) feed = option_map (λ (r : Remaining). r.behind) (remaining b feed)

-- what is left of the body of this item after its first `given` bytes; nothing for a refused head
abbrev pub rest_in : ℕ → Item → Feed
rest_in given (Asks r) = rest_of r given
rest_in given (Refuses refusal manner no_body last) = whole_feed []

abbrev pub slot_rest : Slot → Feed
slot_rest s = rest_in s.given s.item

-- whether the input gives, for the body that is kept for a number, what is left of the body of its slot; always true
-- without a body or a slot
abbrev pub GivesRest : Option UnreadBody → Option Slot → Option Feed → Type 0
GivesRest None s feed = ⊤
GivesRest (Some b) None feed = ⊤
GivesRest (Some b) (Some s) feed = option_map (λ (r : Remaining). r.body) (remaining b feed) ≡ Some (slot_rest s)

-- what follows the body of this item; nothing for a refused head
abbrev pub behind_item : Item → Feed
behind_item (Asks r) = r.behind
behind_item (Refuses refusal manner no_body last) = whole_feed []

-- whether the input gives, after the body that is kept for the last number, what follows the body of its slot; always
-- true without a body or a slot
abbrev pub FollowsLast : Option UnreadBody → Option Slot → Option Feed → Type 0
FollowsLast None s feed = ⊤
FollowsLast (Some b) None feed = ⊤
FollowsLast (Some b) (Some s) feed = behind_body (Some b) feed ≡ Some (behind_item s.item)

-- whether the input is over, and stopped at its end
abbrev pub InputEnded : Kept → Type 0
InputEnded k = (k.is_over ≡ true) × (k.stop ≡ Some End)

-- whether the head of the connection's last request was read
abbrev pub is_past_last : InputState → Bool
is_past_last at.Last = true
is_past_last at.Head = false
is_past_last at.Body = false
is_past_last at.Abandoned = false
is_past_last (at.Broken kind) = false

-- whether bytes of a body come before the next head
abbrev pub is_in_body : InputState → Bool
is_in_body at.Body = true
is_in_body at.Head = false
is_in_body at.Last = false
is_in_body at.Abandoned = false
is_in_body (at.Broken kind) = false

-- whether, after the client's whole pipeline, a byte of a further head comes, or, except under Standard, the reader
-- times out there
abbrev pub BeginsMore : Profile → Feed → Type 0
BeginsMore p client =
    (items : List Item)
    × Pipeline p (Some client.bytes) client.stop items
    × BeginsBehind p (Some client.bytes) client.stop items

-- whether, after these heads, of which the first comes next in the feed, a byte of a further one comes, or, except
-- under Standard, the reader times out there
abbrev pub BeginsBehindAt : Profile → Option Feed → List Item → Type 0
BeginsBehindAt p None rest = ⊥
BeginsBehindAt p (Some f) rest = BeginsBehind p (Some f.bytes) f.stop rest

-- Whether the bytes to come hold this rest of the client's pipeline, or, if `past` holds, the rest is empty since the
-- last head was read. If `past` is false and the input goes on after this rest, as `BeginsBehindAt` defines, it also
-- does after the whole pipeline, as `BeginsMore` defines.
abbrev pub PlaceIn : Feed → Profile → Bool → Option Feed → List Item → Type 0
PlaceIn client p past feed rest =
    PlaceAt p past feed rest × (past ≡ false → BeginsBehindAt p feed rest → BeginsMore p client)

-- The place of the next head, while the requests haven't ended: after the last body. No further head is read after the
-- last head, or after a chunked body that was given up before its end was reported. The input state says whether the
-- position is within the last body.
pub record NextHead (client : Feed) (k : Kept) (last : Option Slot) (rest : List Item) : Type 0 where
  pub is_last : is_past_last k.input_state ≡ is_last_slot last
  pub within : is_in_body k.input_state ≡ (not (is_last_slot last) && is_streaming_body (last_body k.requests))
  pub lost : last_was_abandoned last ≡ true → InputEnded k × (k.feed ≡ Some (stopped End))
  pub place : last_was_abandoned last ≡ false
      → PlaceIn client k.profile (is_past_last k.input_state) (behind_body (last_body k.requests) k.feed) rest

-- Whether the input, at some position in the client's feed, matches the bodies of these slots and the rest of the
-- pipeline.
pub record InputMatches (client : Feed) (k : Kept) (slots : List Slot) (rest : List Item) : Type 0 where
  pub settled : AreSettled k.requests
  pub gives : GivesRest (last_body k.requests) (last_slot slots) k.feed
  pub next : k.asking_ended ≡ false → NextHead client k (last_slot slots) rest
  pub follows : last_holds_next_head k.requests ≡ true → FollowsLast (last_body k.requests) (last_slot slots) k.feed
  pub source : GoesOn (Some client) k.feed

-- Whether `sink`, what the writer states together with what is held, has the output so far. If the writer hasn't
-- failed, that output is the joined segments, which begin with `flushed`, and the writer has sent `flushed` on unless
-- the output has ended. If the writer has failed, that output is what the writer took until then.
abbrev pub OutputAt : Sink → Sink → Bool → List Slot → List ℕ → Option Failure → Type 0
OutputAt before sink ended slots flushed None =
    (sink.taken ≡ Some (joined slots))
    × (sink.failures ≡ before.failures)
    × (sink.has_ended ≡ ended)
    × (ended ≡ is_output_broken slots)
    × IsFront flushed (joined slots) × (ended ≡ false → IsFront flushed sink.sent)
OutputAt before sink ended slots flushed (Some f) =
    (sink.taken ≡ Some f.output)
    × (sink.failures ≡ before.failures + 1)
    × StatesKind sink.last_kind f.kind
    × (ended ≡ true)

-- Whether a connection represents this state, at some position in the client's feed, over a writer that stated `before`
-- when the connection was new.
pub record Represents (client : Feed) (before : Sink) (k : Kept) (s : State) : Type 0 where
  pub numbers : AreKept s.reached.slots k.marks k.requests
  pub shape : AreInShape k.marks
  pub in_turn : AreSentInTurn s.reached.slots
  pub asking_ended : s.reached.asking_ended ≡ k.asking_ended
  pub reader : InputMatches client k s.reached.slots s.reached.rest
  pub output : OutputAt before k.sink k.output_ended s.reached.slots s.flushed s.failure
