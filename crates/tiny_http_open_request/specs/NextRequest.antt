-- Reading one head after another. A refused head is passed over if another head follows it.
use Rattle.std.specs.Prelude.{◌≡◌, ℕ, zero, suc, ◌^◌, ◌⊎◌, Bool, true, false, List, Option, Some, None, Result, Ok, Err}
use Rattle.std.specs.declared.alloc.AllocError.{AllocError}
use Rattle.httpdate.specs.declared.date.HttpDate.{HttpDate}
use Rattle.tiny_http_head.specs.declared.common.StatusCode.{StatusCode}
use Rattle.tiny_http_io.specs.Source.{SourceState}
use Rattle.tiny_http_body.specs.declared.framing.Profile.{Profile}
use Rattle.tiny_http_open_request.specs.declared.exchange.Exchange.{Exchange}
use Rattle.tiny_http_open_request.specs.declared.exchange.HeadRead.{HeadRead}
use Rattle.tiny_http_open_request.specs.declared.exchange.HeadRead.TheVariants as read
use Rattle.tiny_http_open_request.specs.declared.exchange.EndOfRequests.TheVariants as because
use Rattle.tiny_http_open_request.specs.declared.next_request.NextRequest.{NextRequest}
use Rattle.tiny_http_open_request.specs.declared.next_request.NextRequest.TheVariants as next
use Rattle.tiny_http_open_request.specs.HeadReads.{TakesHead}

-- The state that the reading of heads changes: the source, the place for refusals, and the output that is lent to that
-- place.
pub record At (R P O : Type 0) : Type 0 where
  pub source : SourceState R
  pub place : P
  pub output : O

abbrev pub at : {R P O : Type 0} → SourceState R → P → O → At R P O
at source place output = record { source = source; place = place; output = output }

-- The type of the relation `refuses` of `RefusalPlace`: the place and the output before the call, the text, whether it
-- was put in the place, and the place and the output after the call.
abbrev pub Refuses : Type 0 → Type 0 → Type 1
Refuses P O = P → O → List ℕ → Bool → P → O → Type 0

-- The result of reading one head: a request, the end or refused memory; or `None` if another head follows.
abbrev pub Found : Type 0
Found = Option (Result NextRequest AllocError)

-- what is found after a refused head whose response was put in the place for refusals: the end if the head was the
-- last, otherwise `None`, since another head follows
abbrev pub after_refused : StatusCode → Bool → Found
after_refused status true = Some (Ok (next.Ended (because.Refused status)))
after_refused status false = None

-- whether `found` is what is found after a refused head. If the second flag is true, the head's response was put in the
-- place for refusals, and `after_refused` says what is found; otherwise memory for the response was refused.
abbrev pub FollowsRefusal : StatusCode → Bool → Bool → Found → Type 0
FollowsRefusal status last true found = found ≡ after_refused status last
FollowsRefusal status last false found = (e : AllocError) × (found ≡ Some (Err e))

-- the next request, as its head and its state until the response
abbrev pub next_of : Exchange → NextRequest
next_of x = next.Request x.head x.open_request

-- whether the place and the output are unchanged
abbrev pub Stays : {R P O : Type 0} → At R P O → At R P O → Type 0
Stays here there = (there.place ≡ here.place) × (there.output ≡ here.output)

-- Whether `found` is what is found once reading a head has had this result. The place and the output change only if the
-- head is refused.
abbrev pub Follows : {R P O : Type 0} → Refuses P O → Result HeadRead AllocError → At R P O → Found → At R P O → Type 0
Follows refuses (Ok (read.Request x)) here found there = (found ≡ Some (Ok (next_of x))) × Stays here there
Follows refuses (Ok (read.Ended why)) here found there = (found ≡ Some (Ok (next.Ended why))) × Stays here there
Follows refuses (Ok (read.Refused status text last)) here found there =
    (kept : Bool)
    × refuses here.place here.output text.items kept there.place there.output
    × FollowsRefusal status last kept found
Follows refuses (Err e) here found there = (found ≡ Some (Err e)) × Stays here there

-- ONE HEAD: whether a call reads one head, and finds this
abbrev pub FindsHead : {R P O : Type 0} → Refuses P O → Profile → HttpDate → At R P O → Found → At R P O → Type 0
FindsHead refuses profile date here found there =
    (r : Result HeadRead AllocError)
    × TakesHead profile date here.source there.source r
    × Follows refuses r here found there

-- whether n heads were refused, each followed by another one
abbrev pub PassesHeads : {R P O : Type 0} → Refuses P O → Profile → HttpDate → ℕ → At R P O → At R P O → Type 0
PassesHeads refuses profile date zero here there = there ≡ here
PassesHeads {R = R} {P = P} {O = O} refuses profile date (suc n) here there =
    (mid : At R P O) × PassesHeads refuses profile date n here mid × FindsHead refuses profile date mid None there

-- whether 2^64 heads were passed over, and the call fails without reading a further one
abbrev pub PassesTooMany : {R P O : Type 0} → ℕ → At R P O → Result NextRequest AllocError → At R P O → Type 0
PassesTooMany passed here r there = (passed ≡ 2 ^ 64) × ((e : AllocError) × (r ≡ Err e)) × (there ≡ here)

-- THE NEXT REQUEST: whether a call finds the next request, the end or refused memory after the heads that it passes
-- over.
pub record FindsNext {R P O : Type 0} (refuses : Refuses P O) (profile : Profile) (date : HttpDate) (here : At R P O)
    (r : Result NextRequest AllocError) (there : At R P O) : Type 0 where
  pub passed : ℕ
  pub mid : At R P O
  pub passes : PassesHeads refuses profile date passed here mid
  pub ends : FindsHead refuses profile date mid (Some r) there ⊎ PassesTooMany passed mid r there
