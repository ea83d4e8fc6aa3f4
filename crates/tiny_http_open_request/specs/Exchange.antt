-- The parts of an `Exchange` that contracts refer to.
use Rattle.std.specs.Prelude.{◌≡◌, ℕ, Bool, false, List, Option, Result, ⊤, unwrap_or}
use Rattle.httpdate.specs.declared.date.HttpDate.{HttpDate}
use Rattle.tiny_http_io.specs.Device.{Feed}
use Rattle.tiny_http_open_request.specs.declared.exchange.Head.{Head}
use Rattle.tiny_http_body.specs.declared.body.UnreadBody.{UnreadBody}
use Rattle.tiny_http_open_request.specs.declared.open_request.OpenRequest.{OpenRequest}
use Rattle.tiny_http_open_request.specs.declared.exchange.Exchange.{Exchange}
use Rattle.tiny_http_open_request.specs.declared.upgrading.UpgradeError.{UpgradeError}
use Rattle.tiny_http_io.specs.Source.{SourceState}
use Rattle.tiny_http_response.specs.ResponseValue.{printing_in}
use Rattle.tiny_http_response.specs.Answer.{Printing}
use Rattle.tiny_http_open_request.specs.OpenRequest.{KeepsHead, final_context, request_check}
use Rattle.tiny_http_response.specs.declared.response_context.ResponseContext.{ResponseContext}
use Rattle.tiny_http_open_request.specs.TextState.{drop_text}
use Rattle.tiny_http_body.specs.Body.{Remaining, remaining, remainder, is_streaming, is_whole, Fits, GivesUp}

-- the exchange of a request, from its head and its state until the response
abbrev pub exchange_of : Head → OpenRequest UnreadBody → Exchange
exchange_of head request = record { head = head; open_request = request }

-- the head of an exchange's request
abbrev pub exchange_head : Exchange → Head
exchange_head x = x.head

-- the state of an exchange's request until the response
abbrev pub exchange_open : Exchange → OpenRequest UnreadBody
exchange_open x = x.open_request

-- the body of an exchange's request, and how far it was read
abbrev pub exchange_body : Exchange → UnreadBody
exchange_body x = x.open_request.body

-- what is still to come of the body of an exchange's request, and what follows the body, if the input still has this
-- feed
abbrev pub exchange_left : Exchange → Option Feed → Option Remaining
exchange_left x feed = remaining x.open_request.body feed

-- how a 100 to an exchange's request, or the response of its upgrade, is printed with this date
abbrev pub exchange_printing : Exchange → HttpDate → Printing
exchange_printing x date = printing_in x.open_request.response_context date

-- how the response to an exchange's request is printed now, given what is left of its body
abbrev pub exchange_context : Exchange → ResponseContext
exchange_context x = final_context x.open_request (remainder x.open_request.body)

-- whether the body of an exchange's request is read from the input, so that it must be read or discarded before the
-- next head is read
abbrev pub exchange_streams : Exchange → Bool
exchange_streams x = is_streaming x.open_request.body

-- whether a 100 is owed to an exchange's request
abbrev pub exchange_owes_continue : Exchange → Bool
exchange_owes_continue x = x.open_request.owes_continue

-- the text that is sent if an exchange's request is dropped, or no bytes once that text was taken
abbrev pub exchange_drop_text : Exchange → List ℕ
exchange_drop_text x = drop_text x.open_request.dropped (exchange_context x)

-- whether an exchange's request can be upgraded to this protocol with a response of this code, or why not
abbrev pub exchange_check : Exchange → List ℕ → ℕ → Result ⊤ UpgradeError
exchange_check x protocol code = request_check x.open_request protocol code (is_whole x.open_request.body)

-- whether the head of an exchange's request is unchanged, and `P` relates the state of the request before to its state
-- after
abbrev pub Changes : (OpenRequest UnreadBody → OpenRequest UnreadBody → Type 0) → Exchange → Exchange → Type 0
Changes P old new = (new.head ≡ old.head) × P old.open_request new.open_request

-- whether an exchange is unchanged except for how far the body was read
abbrev pub KeepsButBody : Exchange → Exchange → Type 0
KeepsButBody old new =
    (body : UnreadBody) × (new ≡ record old { open_request = record old.open_request { body = body } })

-- whether a call discards the rest of the body of an exchange's request
abbrev pub GivesUpBody : {R : Type 0} → Exchange → SourceState R → SourceState R → Type 0
GivesUpBody x old new = GivesUp x.open_request.body old new

-- Whether an exchange is that of a request that was read on this date, and of whose body nothing has been read yet.
pub record KeepsRequest (x : Exchange) (date : HttpDate) : Type 0 where
  pub answer : KeepsHead x.open_request x.head date
  pub body : Fits x.head.framing.by_standard x.open_request.body x.head.framing.form
      (unwrap_or x.head.framing.body_length 0) 0 false
