-- The request that is found behind refused heads.
use Rattle.std.proofs.Common.{◌≡◌, refl, sym, ap, subst, ℕ, zero, suc, Bool, true, false, Option, Some, None, Result, Ok, Err, ◌⊎◌, inl, inr}
use Rattle.std.specs.declared.alloc.AllocError.{AllocError}
use Rattle.std.specs.Global.{Vec}
use Rattle.httpdate.specs.declared.date.HttpDate.{HttpDate}
use Rattle.tiny_http_head.specs.declared.common.StatusCode.{StatusCode}
use Rattle.tiny_http_io.specs.Source.{SourceState}
use Rattle.tiny_http_body.specs.declared.framing.Profile.{Profile}
use Rattle.tiny_http_open_request.specs.declared.exchange.Exchange.{Exchange}
use Rattle.tiny_http_open_request.specs.declared.exchange.HeadRead.{HeadRead}
use Rattle.tiny_http_open_request.specs.declared.exchange.HeadRead.TheVariants as read
use Rattle.tiny_http_open_request.specs.declared.next_request.NextRequest.{NextRequest}
use Rattle.tiny_http_open_request.specs.declared.next_request.NextRequest.TheVariants as next
use Rattle.tiny_http_open_request.specs.HeadReads.{TakesHead}
use Rattle.tiny_http_open_request.specs.NextRequest.{At, Refuses, Follows, FollowsRefusal, FindsHead, PassesHeads, PassesTooMany, FindsNext, after_refused, next_of}
use Rattle.tiny_http_open_request.proofs.NextRequestLemmas.{same-next}
use Rattle.tiny_http_request.specs.Client.{PassesRefused, FindsRequest}

-- a head behind which another one stands was refused
abbrev IsPassed : {R : Type 0} → Profile → HttpDate → SourceState R → SourceState R → Type 0
IsPassed p date here there = (status : StatusCode) × (text : Vec ℕ) × TakesHead p date here there (Ok (read.Refused status text false))

passed-by : {R P O : Type 0} (refuses : Refuses P O) (p : Profile) (date : HttpDate) (here there : At R P O) (r : Result HeadRead AllocError)
    → TakesHead p date here.source there.source r → Follows refuses r here None there → IsPassed p date here.source there.source
passed-by refuses p date here there (Ok (read.Request x)) t f = absurd (none-some f.0)
  where
    none-some : {A : Type 0} {x : A} → None ≡ Some x → ⊥
    none-some e = cc
passed-by refuses p date here there (Ok (read.Ended why)) t f = cc
passed-by refuses p date here there (Ok (read.Refused status text true)) t f = absurd (by f.0 f.2)
  where
    by : (kept : Bool) → FollowsRefusal status true kept None → ⊥
    by true e = cc
    by false e = cc
passed-by refuses p date here there (Ok (read.Refused status text false)) t f = (status, text, t)
passed-by refuses p date here there (Err e) t f = cc

pub passes-refused : {R P O : Type 0} (refuses : Refuses P O) (p : Profile) (date : HttpDate) (n : ℕ) (here there : At R P O)
    → PassesHeads refuses p date n here there → PassesRefused p date n here.source there.source
passes-refused refuses p date zero here there h = ap (λ a. a.source) h
passes-refused refuses p date (suc n) here there h =
    let one = passed-by refuses p date h.0 there h.2.0 h.2.1 h.2.2 in
    ((h.0).source, one.0, one.1, passes-refused refuses p date n here h.0 h.1, one.2)

-- a request is what was read of a head
found-by : {R P O : Type 0} (refuses : Refuses P O) (p : Profile) (date : HttpDate) (here there : At R P O) (x : Exchange) (r : Result HeadRead AllocError)
    → TakesHead p date here.source there.source r → Follows refuses r here (Some (Ok (next_of x))) there
    → TakesHead p date here.source there.source (Ok (read.Request x))
found-by refuses p date here there x (Ok (read.Request y)) t f = subst (λ (z : Exchange). TakesHead p date here.source there.source (Ok (read.Request z))) (same-next x y f.0) t
found-by refuses p date here there x (Ok (read.Ended why)) t f = cc
found-by refuses p date here there x (Ok (read.Refused status text last)) t f = absurd (by f.0 last f.2)
  where
    by : (kept last : Bool) → FollowsRefusal status last kept (Some (Ok (next_of x))) → ⊥
    by true true e = cc
    by true false e = cc
    by false last e = cc
found-by refuses p date here there x (Err e) t f = cc

pub finds-request : {R P O : Type 0} (refuses : Refuses P O) (p : Profile) (date : HttpDate) (here there : At R P O) (x : Exchange)
    → FindsNext refuses p date here (Ok (next_of x)) there → FindsRequest p date here.source x there.source
finds-request refuses p date here there x h = by h.ends
  where
    by : (FindsHead refuses p date h.mid (Some (Ok (next_of x))) there ⊎ PassesTooMany h.passed h.mid (Ok (next_of x)) there) → FindsRequest p date here.source x there.source
    by (inl f) = record {
      passed = h.passed;
      at = (h.mid).source;
      passes = passes-refused refuses p date h.passed here h.mid h.passes;
      reads = found-by refuses p date h.mid there x f.0 f.1 f.2;
    }
    by (inr f) = absurd (never f.1.1)
      where
        never : Ok (next_of x) ≡ Err f.1.0 → ⊥
        never e = cc
