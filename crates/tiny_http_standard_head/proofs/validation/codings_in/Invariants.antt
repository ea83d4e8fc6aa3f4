use Rattle.std.proofs.Common.{◌≡◌, length}
use Rattle.tiny_http_text.specs.Bytes.{parts, comma}
use Rattle.tiny_http_standard_head.specs.Lists.{between_commas}
use Rattle.tiny_http_standard_head.specs.ValidationReading.{codings_on}
use Rattle.tiny_http_standard_head.proofs.ListsLemmas.{from_here}
use Rattle.tiny_http_standard_head.proofs.validation.codings_in.Given as goal

abbrev pub invariant-loop-text : goal.invariant-loop-text
invariant-loop-text l = codings_on l.codings (from_here (parts comma l.value) (length l.yielded)) ≡ codings_on l.fn.was (between_commas l.value)
