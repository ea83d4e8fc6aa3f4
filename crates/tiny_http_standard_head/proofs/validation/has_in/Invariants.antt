use Rattle.std.proofs.Common.{◌≡◌, length}
use Rattle.std.specs.List.{list_any}
use Rattle.tiny_http_text.specs.Bytes.{parts, comma}
use Rattle.tiny_http_standard_head.specs.Lists.{between_commas}
use Rattle.tiny_http_standard_head.specs.ValidationReading.{is_wanted}
use Rattle.tiny_http_standard_head.proofs.ListsLemmas.{from_here}
use Rattle.tiny_http_standard_head.proofs.validation.has_in.Given as goal

abbrev pub invariant-loop-text : goal.invariant-loop-text
invariant-loop-text l = list_any (is_wanted l.wanted) (from_here (parts comma l.value) (length l.yielded)) ≡ list_any (is_wanted l.wanted) (between_commas l.value)
