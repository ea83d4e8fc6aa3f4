use Rattle.std.proofs.Common.{◌≡◌, ◌≤◌, ℕ, List, Option, [], take, drop, Bool}
use Rattle.tiny_http_response.specs.AddHeader.{with_headers}
use Rattle.tiny_http_response.specs.HeaderPlace.{answer_of}
use Rattle.tiny_http_response.proofs.add_header.add_each.Given as goal

-- with the headers that are left it comes to the same as with all
abbrev pub invariant-loop-at : goal.invariant-loop-at
invariant-loop-at l = record {
  order : l.kept ≤ l.at;
  added : (status threshold : ℕ) (closes : Bool) (offered : Option (List ℕ)) (contentless : Bool) → with_headers (drop l.at l.headers) (answer_of status threshold closes offered contentless (take l.kept l.headers) l.data_length) ≡ with_headers l.fn.headers (answer_of status threshold closes offered contentless [] l.fn.data_length);
}
