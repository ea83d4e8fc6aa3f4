use Rattle.std.proofs.Common.{◌≡◌, length}
use Rattle.std.specs.List.{list_any}
use Rattle.tiny_http_text.specs.Bytes.{parts, comma}
use Rattle.tiny_http_standard_head.specs.Lists.{between_commas}
use Rattle.tiny_http_head.specs.Common.{same_name}
use Rattle.tiny_http_standard_head.proofs.ListsLemmas.{from_here}
use Rattle.tiny_http_standard_head.proofs.lists.has_word.Given as goal

abbrev pub invariant-loop-text : goal.invariant-loop-text
invariant-loop-text l = list_any (λ element. same_name element l.word) (from_here (parts comma l.value) (length l.yielded)) ≡ list_any (λ element. same_name element l.word) (between_commas l.value)
