use Rattle.std.proofs.Common.{◌≡◌, drop, length, None}
use Rattle.tiny_http_text.specs.Bytes.{parts, comma}
use Rattle.tiny_http_response.proofs.AskedLemmas.{wanted_in}
use Rattle.tiny_http_response.proofs.coding.most_wanted.Given as goal

abbrev pub invariant-loop-text : goal.invariant-loop-text
invariant-loop-text l =
    wanted_in l.wanted l.greatest (drop (length l.yielded) (parts comma l.value)) ≡ wanted_in None 0 (parts comma l.value)
