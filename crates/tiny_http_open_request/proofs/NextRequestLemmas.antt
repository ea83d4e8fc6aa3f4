-- What is found on a connection is what was read of it.
use Rattle.std.proofs.Common.{◌≡◌, ap, ◌∙◌, subst, Bool, true, false, Some, Ok, Err, Result, ⊎_elim}
use Rattle.std.specs.declared.alloc.AllocError.{AllocError}
use Rattle.httpdate.specs.declared.date.HttpDate.{HttpDate}
use Rattle.tiny_http_open_request.specs.declared.exchange.Exchange.{Exchange}
use Rattle.tiny_http_open_request.specs.declared.exchange.HeadRead.{HeadRead}
use Rattle.tiny_http_open_request.specs.declared.exchange.HeadRead.TheVariants as read
use Rattle.tiny_http_body.specs.declared.framing.Profile.{Profile}
use Rattle.tiny_http_open_request.specs.declared.next_request.NextRequest.{NextRequest}
use Rattle.tiny_http_open_request.specs.Exchange.{exchange_of}
use Rattle.tiny_http_open_request.specs.HeadReads.{TakesHead, IsFramedRequest}
use Rattle.tiny_http_open_request.specs.NextRequest.{At, Found, Refuses, Follows, FollowsRefusal, FindsHead, FindsNext, next_of}

-- what is handed out as the same is the same request
pub same-next : (x y : Exchange) → ◌≡◌ {A = Found} (Some (Ok (next_of x))) (Some (Ok (next_of y))) → y ≡ x
same-next x y e =
    let head : y.head ≡ x.head = cc in
    let kept : y.open_request ≡ x.open_request = cc in
    ap (λ h. exchange_of h y.open_request) head ∙ ap (λ o. exchange_of x.head o) kept

-- a request that is found is framed as its version and headers say, and its drop's text is that of its head
found-framed : {R P O : Type 0} (refuses : Refuses P O) (profile : Profile) (date : HttpDate) (here there : At R P O) (x : Exchange)
    → FindsHead refuses profile date here (Some (Ok (next_of x))) there → IsFramedRequest profile date (read.Request x)
found-framed refuses profile date here there x found = by found.0 found.1 found.2
  where
    by : (r : Result HeadRead AllocError) → TakesHead profile date here.source there.source r → Follows refuses r here (Some (Ok (next_of x))) there → IsFramedRequest profile date (read.Request x)
    by (Ok (read.Request y)) h f =
        let e = f.0 in
        let same : y ≡ x = same-next x y e in
        subst (λ z. IsFramedRequest profile date (read.Request z)) same h.framed
    by (Ok (read.Ended why)) h f = let no = f.0 in cc
    by (Err e) h f = let no = f.0 in cc
    by (Ok (read.Refused status text last)) h f = refused last f.0 f.2
      where
        refused : (last kept : Bool) → FollowsRefusal status last kept (Some (Ok (next_of x))) → IsFramedRequest profile date (read.Request x)
        refused true true g = let no = g in cc
        refused false true g = let no = g in cc
        refused true false g = let no = g.1 in cc
        refused false false g = let no = g.1 in cc

pub next-framed : {R P O : Type 0} (refuses : Refuses P O) (profile : Profile) (date : HttpDate) (here there : At R P O) (x : Exchange)
    → FindsNext refuses profile date here (Ok (next_of x)) there → IsFramedRequest profile date (read.Request x)
next-framed refuses profile date here there x f = ⊎_elim (λ h. found-framed refuses profile date f.mid there x h) (λ h. (let no = h.1.1 in cc)) f.ends
