use Rattle.std.proofs.Common.{◌≡◌, ℕ, true, List, Option, Bool}
use Rattle.std.specs.Vec.Iter.{into_iter_items}
use Rattle.tiny_http_response.specs.AddHeader.{with_headers, is_some_put_last}
use Rattle.tiny_http_response.specs.HeaderPlace.{answer_of}
use Rattle.tiny_http_response.proofs.add_header.add_all.Given as goal

-- with the headers that are left it comes to the same as with all
abbrev pub invariant-loop-header : goal.invariant-loop-header
invariant-loop-header l = record {
  added : (status threshold : ℕ) (closes : Bool) (offered : Option (List ℕ)) (contentless : Bool) → with_headers (into_iter_items l.header-iterator) (answer_of status threshold closes offered contentless l.headers.items l.data_length) ≡ with_headers l.fn.more.items (answer_of status threshold closes offered contentless l.fn.headers.items l.fn.data_length);
  memory : (status threshold : ℕ) (closes : Bool) (offered : Option (List ℕ)) (contentless : Bool) → is_some_put_last (into_iter_items l.header-iterator) (answer_of status threshold closes offered contentless l.headers.items l.data_length) ≡ true → is_some_put_last l.fn.more.items (answer_of status threshold closes offered contentless l.fn.headers.items l.fn.data_length) ≡ true;
}
