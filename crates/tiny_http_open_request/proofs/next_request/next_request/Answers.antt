use Rattle.std.proofs.Common.{◌≡◌, suc, refl, sym, ap, ◌∙◌, subst, arith, inl, inr, None, Ok, Err, Result, Bool, true, false}
use Rattle.std.specs.Result.{is_ok}
use Rattle.std.specs.declared.alloc.AllocError.{AllocError}
use Rattle.tiny_http_open_request.specs.declared.exchange.HeadRead.{HeadRead}
use Rattle.tiny_http_open_request.specs.declared.exchange.HeadRead.TheVariants as read
use Rattle.tiny_http_open_request.specs.Exchange.{exchange_of}
use Rattle.tiny_http_open_request.specs.HeadReads.{TakesHead}
use Rattle.tiny_http_open_request.specs.NextRequest.{at, after_refused, FindsHead}
use Rattle.tiny_http_open_request.proofs.next_request.next_request.Goals as goal

pub loop-exchange-init : goal.loop-exchange-init
loop-exchange-init g c = (0, refl, refl)

pub returns-in-Ok-Request : goal.returns-in-Ok-Request
returns-in-Ok-Request g c =
    let i = c.loop-exchange.invariant in
    let mid = at c.loop-exchange.source c.loop-exchange.place c.loop-exchange.output in
    let x = exchange_of c.into_parts-head.result.0 c.into_parts-head.result.1 in
    let T : Result HeadRead AllocError → Type 0 = λ r. TakesHead c.args.profile c.args.now c.loop-exchange.source c.read_head_with.new.source r in
    let is : c.read_head_with.result ≡ Ok (read.Request x) = c.in-Ok-Request.is ∙ ap (λ y. Ok y) c.in-Ok-Request.field-0-is ∙ ap (λ y. Ok (read.Request y)) c.into_parts-head.ensures in
    record { passed = i.0; mid = mid; passes = i.2; ends = inl (Ok (read.Request x), subst T is c.read_head_with.ensures, (refl, (refl, refl))) }

pub returns-in-Ok-Ended : goal.returns-in-Ok-Ended
returns-in-Ok-Ended g c =
    let i = c.loop-exchange.invariant in
    let mid = at c.loop-exchange.source c.loop-exchange.place c.loop-exchange.output in
    let T : Result HeadRead AllocError → Type 0 = λ r. TakesHead c.args.profile c.args.now c.loop-exchange.source c.read_head_with.new.source r in
    let is : c.read_head_with.result ≡ Ok (read.Ended c.in-Ok-Ended.why) = c.in-Ok-Ended.is ∙ ap (λ y. Ok y) c.in-Ok-Ended.field-0-is in
    record { passed = i.0; mid = mid; passes = i.2; ends = inl (Ok (read.Ended c.in-Ok-Ended.why), subst T is c.read_head_with.ensures, (refl, (refl, refl))) }

pub returns-in-Err : goal.returns-in-Err
returns-in-Err g c =
    let i = c.loop-exchange.invariant in
    let mid = at c.loop-exchange.source c.loop-exchange.place c.loop-exchange.output in
    let T : Result HeadRead AllocError → Type 0 = λ r. TakesHead c.args.profile c.args.now c.loop-exchange.source c.read_head_with.new.source r in
    record { passed = i.0; mid = mid; passes = i.2; ends = inl (Err c.in-Err.e, subst T c.in-Err.is c.read_head_with.ensures, (refl, (refl, refl))) }

pub returns-in-Ok : goal.returns-in-Ok
returns-in-Ok g c =
    let i = c.loop-exchange.invariant in
    let mid = at c.loop-exchange.source c.loop-exchange.place c.loop-exchange.output in
    let refused = c.in-Ok-Refused in
    let T : Result HeadRead AllocError → Type 0 = λ r. TakesHead c.args.profile c.args.now c.loop-exchange.source c.read_head_with.new.source r in
    let P : Bool → Type 0 = λ kept. g.P.RefusalPlace.refuses c.loop-exchange.place c.loop-exchange.output refused.text.items kept c.refuse.new.self c.refuse.new.output in
    let is : c.read_head_with.result ≡ Ok (read.Refused refused.status refused.text refused.last) = refused.is ∙ ap (λ y. Ok y) refused.field-0-is in
    record {
      passed = i.0;
      mid = mid;
      passes = i.2;
      ends = inl (Ok (read.Refused refused.status refused.text refused.last), subst T is c.read_head_with.ensures, (true, subst P (ap is_ok c.in-Ok.is) c.refuse.ensures, sym (ap (after_refused refused.status) c.if-last.true)));
    }

pub returns-in-Err-refuse : goal.returns-in-Err-refuse
returns-in-Err-refuse g c =
    let i = c.loop-exchange.invariant in
    let mid = at c.loop-exchange.source c.loop-exchange.place c.loop-exchange.output in
    let refused = c.in-Ok-Refused in
    let T : Result HeadRead AllocError → Type 0 = λ r. TakesHead c.args.profile c.args.now c.loop-exchange.source c.read_head_with.new.source r in
    let P : Bool → Type 0 = λ kept. g.P.RefusalPlace.refuses c.loop-exchange.place c.loop-exchange.output refused.text.items kept c.refuse.new.self c.refuse.new.output in
    let is : c.read_head_with.result ≡ Ok (read.Refused refused.status refused.text refused.last) = refused.is ∙ ap (λ y. Ok y) refused.field-0-is in
    record {
      passed = i.0;
      mid = mid;
      passes = i.2;
      ends = inl (Ok (read.Refused refused.status refused.text refused.last), subst T is c.read_head_with.ensures, (false, subst P (ap is_ok c.in-Err-refuse.is) c.refuse.ensures, (c.in-Err-refuse.e, refl)));
    }

pub loop-exchange-preserved : goal.loop-exchange-preserved
loop-exchange-preserved g c =
    let i = c.loop-exchange.invariant in
    let refused = c.in-Ok-Refused in
    let T : Result HeadRead AllocError → Type 0 = λ r. TakesHead c.args.profile c.args.now c.loop-exchange.source c.read_head_with.new.source r in
    let P : Bool → Type 0 = λ kept. g.P.RefusalPlace.refuses c.loop-exchange.place c.loop-exchange.output refused.text.items kept c.refuse.new.self c.refuse.new.output in
    let is : c.read_head_with.result ≡ Ok (read.Refused refused.status refused.text refused.last) = refused.is ∙ ap (λ y. Ok y) refused.field-0-is in
    let mid = at c.loop-exchange.source c.loop-exchange.place c.loop-exchange.output in
    let there = at c.read_head_with.new.source c.refuse.new.self c.refuse.new.output in
    let found : FindsHead g.P.RefusalPlace.refuses c.args.profile c.args.now mid None there =
    (Ok (read.Refused refused.status refused.text refused.last), subst T is c.read_head_with.ensures, (true, subst P (ap is_ok c.in-Ok.is) c.refuse.ensures, sym (ap (after_refused refused.status) c.if-last.false))) in
    let count = i.1 in
    let some = c.in-Some.ensures.1 in
    let less = c.in-Some.ensures.0 in
    (suc i.0, omega (arith, count, some, less), (mid, i.2, found))

pub returns-in-None : goal.returns-in-None
returns-in-None g c =
    let i = c.loop-exchange.invariant in
    let refused = c.in-Ok-Refused in
    let T : Result HeadRead AllocError → Type 0 = λ r. TakesHead c.args.profile c.args.now c.loop-exchange.source c.read_head_with.new.source r in
    let P : Bool → Type 0 = λ kept. g.P.RefusalPlace.refuses c.loop-exchange.place c.loop-exchange.output refused.text.items kept c.refuse.new.self c.refuse.new.output in
    let is : c.read_head_with.result ≡ Ok (read.Refused refused.status refused.text refused.last) = refused.is ∙ ap (λ y. Ok y) refused.field-0-is in
    let mid = at c.loop-exchange.source c.loop-exchange.place c.loop-exchange.output in
    let there = at c.read_head_with.new.source c.refuse.new.self c.refuse.new.output in
    let found : FindsHead g.P.RefusalPlace.refuses c.args.profile c.args.now mid None there =
    (Ok (read.Refused refused.status refused.text refused.last), subst T is c.read_head_with.ensures, (true, subst P (ap is_ok c.in-Ok.is) c.refuse.ensures, sym (ap (after_refused refused.status) c.if-last.false))) in
    let count = i.1 in
    let none = c.in-None.ensures in
    record {
      passed = suc i.0;
      mid = there;
      passes = (mid, i.2, found);
      ends = inr (omega (arith, count, none), (record {}, refl), refl {a = there});
    }
