-- Greetings: each request that is handed out gets a response at once, according to its request target.
use Rattle.std.specs.Prelude.{◌≡◌, ℕ, List, [], ◌∷◌, ◌++◌, map, length, ◌-◌, ◌^◌, Option, Some, None, Bool, true, false}
use Rattle.httpdate.specs.declared.date.HttpDate.{HttpDate}
use Rattle.tiny_http_wire.specs.Device.{Feed, Sink, whole_feed}
use Rattle.tiny_http_wire.specs.declared.device.Budget.{Budget}
use Rattle.tiny_http_wire.specs.Budget.{budget_sink}
use Rattle.tiny_http_core.specs.declared.framing.Profile.TheVariants.{Lenient}
use Rattle.tiny_http_core.specs.declared.exchange.Head.{Head}
use Rattle.tiny_http_core.specs.declared.driver.Reply.{Reply}
use Rattle.tiny_http_core.specs.Seen.{seen}
use Rattle.tiny_http_core.specs.HeadReads.{head_message, head_framing}
use Rattle.tiny_http_core.specs.ResponseValue.{response_of}
use Rattle.tiny_http_core.specs.Steps.{Ask, Respond, ReplyValue, Handed, TimedValue}
use Rattle.tiny_http_core.specs.Conversation.{IsConversation}

-- Whether the status is the one for the request target `path`: 200 for `/`, and 404 for any other.
pub record IsStatus (path : List ℕ) (status : ℕ) : Type 0 where
  pub root : path ≡ 47 ∷ [] → status ≡ 200
  pub other : (path ≡ 47 ∷ [] → ⊥) → status ≡ 404

-- A request that was handed out, the status of its response, and the connection's reply to the Respond.
pub record Greeting : Type 0 where
  pub number : ℕ
  pub head : Head
  pub status : ℕ
  pub reply : ReplyValue

-- whether each response has the status for its request's target
abbrev pub AreByPath : List Greeting → Type 0
AreByPath [] = Unit {0}
AreByPath (g ∷ greetings) = IsStatus g.head.path g.status × AreByPath greetings

-- the steps of these greetings: for each an Ask, and a Respond with an empty response of this status
abbrev pub steps_of : HttpDate → List Greeting → List TimedValue
steps_of now [] = []
steps_of now (g ∷ greetings) =
    (now, Ask) ∷ (now, Respond g.number (response_of g.status [] [])) ∷ steps_of now greetings

-- the replies to the steps of these greetings
abbrev pub replies_of : List Greeting → List ReplyValue
replies_of [] = []
replies_of (g ∷ greetings) =
    Handed g.number (head_message g.head) (head_framing g.head) ∷ g.reply ∷ replies_of greetings

abbrev pub is_handed : ReplyValue → Bool
is_handed (Handed number message framing) = true
is_handed _ = false

-- the reply to the Ask after the greetings, if there was one
abbrev pub last_reply : Option Reply → List ReplyValue
last_reply None = []
last_reply (Some r) = seen r ∷ []

-- Whether the Ask after the greetings hands out no request. That Ask is absent only if there were 2^64 - 1 greetings.
abbrev pub EndsGreetings : List Greeting → Option Reply → Type 0
EndsGreetings greetings None = length greetings ≡ 2 ^ 64 - 1
EndsGreetings greetings (Some r) = is_handed (seen r) ≡ false

-- Whether some sequence of greetings, each with the status for its request's target, followed by an Ask with this
-- reply, forms a conversation with this client. The conversation's output is what the writer took, followed by what is
-- held.
pub record Greets (client : Feed) (before : Sink) (now : HttpDate) (after : Sink) (held : List ℕ) (ended : Bool)
    (unread : Option Feed) (last : Option Reply) : Type 0 where
  pub greetings : List Greeting
  pub by_path : AreByPath greetings
  pub ends : EndsGreetings greetings last
  pub conversation : IsConversation Lenient client before
      (steps_of now greetings ++ map (λ _. (now, Ask)) (last_reply last)) (replies_of greetings ++ last_reply last)
      after held ended unread

-- the sink of a writer that has taken nothing
abbrev pub nothing_taken : Sink
nothing_taken = record { taken = Some []; sent = []; failures = 0; last_kind = None; has_ended = false }

-- Whether some greetings, then an Ask with this reply, are a conversation with a client that sends these bytes and
-- ends, over a writer in memory that took nothing before.
pub record GreetsClient (client : List ℕ) (now : HttpDate) (writer : Budget) (held : List ℕ) (ended : Bool)
    (last : Option Reply) : Type 0 where
  pub unread : Option Feed
  pub greets : Greets (whole_feed client) nothing_taken now (budget_sink writer) held ended unread last
