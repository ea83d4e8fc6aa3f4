use Rattle.std.proofs.Common.{◌≡◌, ◌++◌, drop}
use Rattle.tiny_http_files.specs.Listing.{escaped}
use Rattle.tiny_http_files.proofs.listing.push_escaped.Given as goal

abbrev pub invariant-loop-byte : goal.invariant-loop-byte
invariant-loop-byte l = l.html.items ++ escaped (drop l.byte-index l.name) ≡ l.fn.html.items ++ escaped l.name
