-- The parts of a request's body, and of a read of it, that contracts refer to.
use Rattle.std.specs.Prelude.{◌≡◌, ◌<◌, ◌==◌, ◌&&◌, ◌||◌, ℕ, Bool, true, false, List, length, take, Option, Some, None}
use Rattle.std.specs.Prelude.{Result, Ok, IfOk, IfErr, IfSome}
use Rattle.std.specs.Option.{option_map}
use Rattle.std.specs.IoError.{error_kind}
use Rattle.std.specs.declared.io.Error.{Error}
use Rattle.tiny_http_io.specs.Device.{AnswersStop, Feed}
use Rattle.tiny_http_io.specs.declared.device.Stop.TheVariants.{End, Fault}
use Rattle.tiny_http_io.specs.Source.{SourceState}
use Rattle.tiny_http_io.specs.ToCome.{stopped}
use Rattle.tiny_http_body.specs.declared.body.UnreadBody.{UnreadBody}
use Rattle.tiny_http_threads.specs.declared.held_reader.HeldReader.{HeldReader}
use Rattle.tiny_http_threads.specs.HeldReader.{held_item}
use Rattle.tiny_http_request.specs.declared.remembered.Remembered.{Remembered}
use Rattle.tiny_http_request.specs.declared.body.GivesOn.{GivesOn}
use Rattle.tiny_http_request.specs.declared.body.GivesOn.TheVariants.{AfterBody, AfterAnswer, Never}
use Rattle.tiny_http_body.specs.Body.{Remaining, is_streaming, body_stop, BodyStops, ReadsOn, remaining, prepended_body}
use Rattle.tiny_http_body.specs.Body.{is_whole, stream_body}

-- whether the body keeps the input after its own end, until its request is answered or dropped
abbrev pub outlasts_body : GivesOn → Bool
outlasts_body AfterBody = false
outlasts_body AfterAnswer = true
outlasts_body Never = false

-- The parts of a `Body` that contracts refer to.
pub record BodyState : Type 0 where
  -- the unread part of the body
  pub unread : UnreadBody
  -- The feed of the connection's input, if the body holds the input. If the body has passed the input on, the feed is
  -- that of the input when the body was made. If the body never held the input, the feed is an ended one.
  pub input : Option Feed
  -- whether the body holds the input, and whether it still does after the body's end, until its request is answered or
  -- dropped
  pub holds_input : Bool
  pub outlasts : Bool

-- the feed of the input when a body was made, or an ended feed if the body didn't hold the input then
abbrev pub begun_feed : {R : Type 0} → Option (Remembered (SourceState R)) → Option Feed
begun_feed (Some source) = source.value.feed
begun_feed None = Some (stopped End)

-- the feed of the input if a reader holds it, and otherwise its feed when the body was made (`begun_feed`)
abbrev pub input_of : {R Rt : Type 0} → Option (HeldReader (SourceState R) Rt) → Option (Remembered (SourceState R))
    → Option Feed
input_of (Some reader) begun = (held_item reader).feed
input_of None begun = begun_feed begun

-- the bytes of a body, and how they stop
abbrev pub body_part : Remaining → Feed
body_part r = r.body

-- WHAT IS LEFT OF A BODY, if the connection's reader states its feed or the body never held the input
abbrev pub body_left : BodyState → Option Feed
body_left b = option_map body_part (remaining b.unread b.input)

-- Whether the same is left of a body before and after a call.
pub record KeepsLeft (old new : BodyState) : Type 0 where
  pub unread : new.unread ≡ old.unread
  pub left : body_left new ≡ body_left old

-- the body of a request once its connection is upgraded: under `Standard`, if the body holds the input, all further
-- input; otherwise the same body
abbrev pub upgraded_body : Bool → BodyState → BodyState
upgraded_body by_standard b = record b { unread = stream_body (by_standard && b.holds_input) b.unread }

-- Whether a body holds the input after a call exactly if it is still read from there, or if it keeps the input until
-- its request is answered or dropped (`outlasts`), which doesn't change.
pub record GivesOnInput (old new : BodyState) : Type 0 where
  pub outlasts : new.outlasts ≡ old.outlasts
  pub holds_input : new.holds_input ≡ (is_streaming new.unread || old.outlasts)

-- ONE READ OF A BODY: what holds even if the connection's reader states no feed; `Reads` of `tiny_http_io` states which
-- bytes come. A body that came with its head returns its next bytes, and 0 only at its end. A body that reports its end
-- is read no further, and no fault ended it. A body that is over reports its end or fault again. A read into an empty
-- buffer changes nothing.
pub record ReadsUnread (old new : BodyState) (r : Result ℕ Error) (buf : List ℕ) : Type 0 where
  pub held : is_streaming old.unread ≡ false → (feed : Option Feed)
      → IfOk r (λ n. remaining old.unread feed ≡ prepended_body (take n buf) (remaining new.unread feed))
  pub end : is_streaming old.unread ≡ false → (feed : Option Feed)
      → IfOk r (λ n. n ≡ 0 → 0 < length buf → BodyStops End (remaining old.unread feed))
  pub moves : IfOk r (λ n. 0 < length buf → ReadsOn old.unread n (n == 0) new.unread)
  pub ended : IfOk r (λ n. n ≡ 0 → 0 < length buf → is_whole new.unread ≡ true)
  pub holds : 0 < length buf → GivesOnInput old new
  pub broken : IfErr r (λ e. body_stop new.unread ≡ Some (Fault (error_kind e)))
  pub reports_stop : IfSome (body_stop old.unread)
      (λ stop. 0 < length buf → AnswersStop stop r × (body_stop new.unread ≡ Some stop))
  pub empty : length buf ≡ 0 → (r ≡ Ok 0) × (new ≡ old)
