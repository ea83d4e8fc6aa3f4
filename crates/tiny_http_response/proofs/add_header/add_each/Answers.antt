use Rattle.std.proofs.Common.{ℕ, ◌+◌, List, Option, [], take, drop, get_or, arith, Bool}
use Rattle.tiny_http_head.specs.declared.common.Header.{Header}
use Rattle.tiny_http_response.specs.Answer.{Answer}
use Rattle.tiny_http_response.specs.AddHeader.{with_headers}
use Rattle.tiny_http_response.specs.HeaderPlace.{answer_of}
use Rattle.tiny_http_response.proofs.AddHeaderLemmas.{added-more, added-end, left-first}
use Rattle.std.proofs.lemmas.Grind.{common_steps}
use Rattle.tiny_http_response.proofs.ResponseHeadersLemmas.{IsResponseHeaders-none, IsResponseHeaders-AddsAll}
use Rattle.tiny_http_response.proofs.add_header.add_each.Goals as goal

pub loop-at-preserved : goal.loop-at-preserved
loop-at-preserved c =
    let loop = c.loop-at in
    let after = c.add_at-kept in
    let none : Header = record { field = []; value = [] } in
    let whole : ℕ → ℕ → Bool → Option (List ℕ) → Bool → Answer = λ status threshold closes offered contentless. with_headers c.args.headers.now (answer_of status threshold closes offered contentless [] c.args.data_length.now) in
    record {
      order = after.ensures.bound;
      added = added-more whole (drop loop.at loop.headers) (drop (loop.at + 1) after.new.headers) (get_or loop.headers loop.at none) (take loop.kept loop.headers) (take after.result after.new.headers) loop.data_length after.new.data_length (left-first loop.headers after.new.headers loop.at none (omega arith) after.ensures.behind) (after.ensures.added none) loop.invariant.added;
    }

pub returns-clause-law : goal.returns-clause-law
returns-clause-law c =
    let loop = c.loop-at in
    let whole : ℕ → ℕ → Bool → Option (List ℕ) → Bool → Answer = λ status threshold closes offered contentless. with_headers c.args.headers.now (answer_of status threshold closes offered contentless [] c.args.data_length.now) in
    IsResponseHeaders-AddsAll c.args.headers.now [] (take loop.kept loop.headers) c.args.data_length.now loop.data_length (added-end whole (drop loop.at loop.headers) (take loop.kept loop.headers) loop.data_length (grind (arith, common_steps)) loop.invariant.added) IsResponseHeaders-none
