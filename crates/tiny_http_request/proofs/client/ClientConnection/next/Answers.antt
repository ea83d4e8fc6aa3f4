use Rattle.std.proofs.Common.{rules, ◌≡◌, subst, sym, ap, ◌∙◌, Option, None, Some, Result, Ok}
use Rattle.std.specs.Prelude.{IfSome}
use Rattle.std.specs.Option.{option_and_then}
use Rattle.std.specs.declared.alloc.AllocError.{AllocError}
use Rattle.httpdate.specs.declared.date.HttpDate.{HttpDate}
use Rattle.tiny_http_open_request.specs.declared.exchange.Exchange.{Exchange}
use Rattle.tiny_http_open_request.specs.declared.exchange.HeadRead.TheVariants as read
use Rattle.tiny_http_body.specs.declared.framing.Profile.{Profile}
use Rattle.tiny_http_open_request.specs.declared.next_request.NextRequest.{NextRequest}
use Rattle.tiny_http_open_request.specs.declared.next_request.NextRequest.TheVariants as next
use Rattle.tiny_http_open_request.specs.Exchange.{exchange_of}
use Rattle.tiny_http_open_request.specs.HeadReads.{IsFramedRequest}
use Rattle.tiny_http_open_request.specs.NextRequest.{At, Refuses, FindsNext, next_of}
use Rattle.tiny_http_open_request.proofs.NextRequestLemmas.{next-framed}
use Rattle.tiny_http_io.specs.Source.{SourceState}
use Rattle.tiny_http_request.specs.Request.{request_head, request_open}
use Rattle.tiny_http_threads.specs.HeldReader.{held_item}
use Rattle.tiny_http_request.specs.Client.{FindsRequest, client_profile, client_source, source_here}
use Rattle.tiny_http_request.proofs.ClientLemmas.{finds-request}
use Rattle.tiny_http_request.proofs.client.ClientConnection.next.Goals as goal

-- a request that is found is framed as its version and headers say
framed-by : {R P O : Type 0} {refuses : Refuses P O} {profile : Profile} {date : HttpDate} {here there : At R P O} {r : Result NextRequest AllocError} (x : Exchange)
    → r ≡ Ok (next_of x) → FindsNext refuses profile date here r there → IsFramedRequest profile date (read.Request x)
framed-by {refuses = refuses} {profile = profile} {date = date} {here = here} {there = there} x same found =
    next-framed refuses profile date here there x (subst (λ r. FindsNext refuses profile date here r there) same found)

found-by : {R P O : Type 0} {refuses : Refuses P O} {profile : Profile} {date : HttpDate} {here there : At R P O} {r : Result NextRequest AllocError} (x : Exchange)
    → r ≡ Ok (next_of x) → FindsNext refuses profile date here r there → FindsRequest profile date here.source x there.source
found-by {refuses = refuses} {profile = profile} {date = date} {here = here} {there = there} x same found =
    finds-request refuses profile date here there x (subst (λ r. FindsNext refuses profile date here r there) same found)

pub returns-in-Ok-clause-handed : goal.returns-in-Ok-clause-handed
returns-in-Ok-clause-handed g c =
    let x = exchange_of (request_head c.in-Ok.request) (request_open c.in-Ok.request) in
    let same : c.next_request.result ≡ Ok (next_of x) = c.in-Ok-Request.is ∙ ap (λ y. Ok y) c.in-Ok-Request.field-0-is
    ∙ ap (λ h. Ok (next.Request h c.in-Ok-Request.open_request)) c.in-Ok.ensures.head ∙ ap (λ o. Ok (next.Request x.head o)) c.in-Ok.ensures.kept in
    record {
      framed = framed-by x same c.next_request.ensures;
      fits = (found-by x same c.next_request.ensures).reads.fits;
      client = c.in-Ok.ensures.client;
      holds = c.in-Ok.ensures.holds;
      last = c.in-Ok.ensures.last;
      goes_on = c.in-Ok.ensures.open;
    }

here-is : {S : Type 0} (o : Option S) (i s : S) → IfSome o (λ s. i ≡ s) → o ≡ Some s → i ≡ s
here-is None i s h e = cc
here-is (Some x) i s h e = h ∙ some-same x s e
  where
    some-same : {S : Type 0} (x s : S) → ◌≡◌ {A = Option S} (Some x) (Some s) → x ≡ s
    some-same x s e = cc

pub returns-in-Ok-clause-reads : goal.returns-in-Ok-clause-reads
returns-in-Ok-clause-reads g c = λ source held.
    let x = exchange_of (request_head c.in-Ok.request) (request_open c.in-Ok.request) in
    let same : c.next_request.result ≡ Ok (next_of x) = c.in-Ok-Request.is ∙ ap (λ y. Ok y) c.in-Ok-Request.field-0-is
    ∙ ap (λ h. Ok (next.Request h c.in-Ok-Request.open_request)) c.in-Ok.ensures.head ∙ ap (λ o. Ok (next.Request x.head o)) c.in-Ok.ensures.kept in
    let taken : c.take.result ≡ c.args.self.now.next_head = search rules in
    let here : source_here c.in-Some.next_head ≡ Some source = ap (option_and_then source_here) (sym c.in-Some.is ∙ taken) ∙ held in
    let mine : c.deref_mut-source.result.now ≡ source = c.deref_mut-source.ensures.value ∙ here-is (source_here c.in-Some.next_head) (held_item c.hold-reader.result) source c.hold-reader.ensures here in
    (_, subst (λ s. FindsRequest (client_profile c.args.self.now) c.args.now s x c.next_request.new.source) mine (found-by x same c.next_request.ensures), c.in-Ok.ensures.input)
