use Rattle.std.proofs.Common.{◌≡◌, ◌∙◌, sym, ap, true, ℕ, List, Option, Bool}
use Rattle.tiny_http_head.specs.declared.common.Header.{Header}
use Rattle.tiny_http_response.specs.Answer.{Answer}
use Rattle.tiny_http_response.specs.AddHeader.{with_headers, is_some_put_last}
use Rattle.tiny_http_response.specs.HeaderPlace.{answer_of}
use Rattle.std.specs.Vec.Iter.{into_iter_items}
use Rattle.tiny_http_response.proofs.AddHeaderLemmas.{added-more, added-end, added-some_more, some-first, at_err}
use Rattle.tiny_http_response.proofs.ResponseHeadersLemmas.{IsResponseHeaders-AddsAll}
use Rattle.tiny_http_response.proofs.add_header.add_all.Goals as goal

pub loop-header-init : goal.loop-header-init
loop-header-init c =
    let all = c.into_iter-header-iterator.ensures.into_iter_gives in
    record { added = λ status threshold closes offered contentless. ap (λ (hs : List Header). with_headers hs (answer_of status threshold closes offered contentless c.args.headers.now.items c.args.data_length.now)) all.0; memory = λ status threshold closes offered contentless some. ap (λ (hs : List Header). is_some_put_last hs (answer_of status threshold closes offered contentless c.args.headers.now.items c.args.data_length.now)) (sym all.0) ∙ some }

pub loop-header-preserved : goal.loop-header-preserved
loop-header-preserved c =
    let loop = c.loop-header in
    let whole : ℕ → ℕ → Bool → Option (List ℕ) → Bool → Answer = λ status threshold closes offered contentless. with_headers c.args.more.items (answer_of status threshold closes offered contentless c.args.headers.now.items c.args.data_length.now) in
    record {
      added = added-more whole (into_iter_items loop.header-iterator) (into_iter_items c.next.new.self) c.in-Some.header loop.headers.items c.add.new.headers.items loop.data_length c.add.new.data_length c.in-Some.ensures.steps.0 c.in_ok-add.ensures.added loop.invariant.added;
      memory = λ status threshold closes offered contentless. added-some_more status threshold closes offered contentless _ (into_iter_items loop.header-iterator) (into_iter_items c.next.new.self) c.in-Some.header loop.headers.items c.add.new.headers.items loop.data_length c.add.new.data_length c.in-Some.ensures.steps.0 c.in_ok-add.ensures.added (loop.invariant.memory status threshold closes offered contentless);
    }

pub returns-in_err-add-clause-memory : goal.returns-in_err-add-clause-memory
returns-in_err-add-clause-memory c =
    let loop = c.loop-header in
    let some : (status threshold : ℕ) (closes : Bool) (offered : Option (List ℕ)) (contentless : Bool) → is_some_put_last c.args.more.items (answer_of status threshold closes offered contentless c.args.headers.now.items c.args.data_length.now) ≡ true =
    λ status threshold closes offered contentless. some-first status threshold closes offered contentless _ (into_iter_items loop.header-iterator) (into_iter_items c.next.new.self) c.in-Some.header loop.headers.items loop.data_length c.in-Some.ensures.steps.0 c.in_err-add.ensures.memory (loop.invariant.memory status threshold closes offered contentless) in
    at_err _ _ some

pub returns-clause-added : goal.returns-clause-added
returns-clause-added c =
    let loop = c.loop-header in
    let whole : ℕ → ℕ → Bool → Option (List ℕ) → Bool → Answer = λ status threshold closes offered contentless. with_headers c.args.more.items (answer_of status threshold closes offered contentless c.args.headers.now.items c.args.data_length.now) in
    added-end whole (into_iter_items loop.header-iterator) loop.headers.items loop.data_length (sym loop.header-iterator.rest.ok.0 ∙ c.in-None.ensures.steps.0) loop.invariant.added

pub returns-clause-law : goal.returns-clause-law
returns-clause-law c = IsResponseHeaders-AddsAll c.args.more.items c.args.headers.now.items c.loop-header.headers.items c.args.data_length.now c.loop-header.data_length (returns-clause-added c)
