-- The steps of a connection, and the possible replies.
use Rattle.std.specs.Prelude.{ℕ, List, Bool, true, false}
use Rattle.std.specs.declared.io.ErrorKind.{ErrorKind}
use Rattle.httpdate.specs.declared.date.HttpDate.{HttpDate}
use Rattle.tiny_http_head.specs.Heads.{Message}
use Rattle.tiny_http_body.specs.declared.framing.Framing.{Framing}
use Rattle.tiny_http_response.specs.ResponseValue.{ResponseValue}

-- a step, with its response as a value
pub data StepValue : Type 0 where
  Ask : StepValue
  AsReader : (k : ℕ) → StepValue
  Read : (k n : ℕ) → StepValue
  Respond : (k : ℕ) (response : ResponseValue) → StepValue
  IntoWriter : (k : ℕ) → StepValue
  Write : (k : ℕ) (bytes : List ℕ) → StepValue
  Flush : (k : ℕ) → StepValue
  Upgrade : (k : ℕ) (protocol : List ℕ) (response : ResponseValue) → StepValue
  Finish : (k : ℕ) → StepValue
  Drop : (k : ℕ) → StepValue

-- the reply to a step
pub data ReplyValue : Type 0 where
  Handed : (k : ℕ) (message : Message) (framing : Framing) → ReplyValue
  Ended : ReplyValue
  Given : (bytes : List ℕ) → ReplyValue
  Fault : (kind : ErrorKind) → ReplyValue
  NotYet : ReplyValue
  Done : ReplyValue
  Refused : ReplyValue
  NoSuch : ReplyValue
  Memory : ReplyValue

-- whether the reply says that the step was done: whole, or up to a fault that is reported
abbrev pub is_done : ReplyValue → Bool
is_done Done = true
is_done (Fault kind) = true
is_done _ = false

-- whether the reply says that the step was refused, and its request dropped
abbrev pub is_refused : ReplyValue → Bool
is_refused Refused = true
is_refused _ = false

-- the number that a step is for; 0 for an Ask, which is for none
abbrev pub number_of : StepValue → ℕ
number_of Ask = 0
number_of (AsReader k) = k
number_of (Read k n) = k
number_of (Respond k response) = k
number_of (IntoWriter k) = k
number_of (Write k bytes) = k
number_of (Flush k) = k
number_of (Upgrade k protocol response) = k
number_of (Finish k) = k
number_of (Drop k) = k

-- a step with its date
abbrev pub TimedValue : Type 0
TimedValue = HttpDate × StepValue
