use Rattle.std.proofs.Common.{◌≡◌, length}
use Rattle.tiny_http_text.specs.Bytes.{parts, comma}
use Rattle.tiny_http_head.specs.Lists.{is_left_out, elements_in}
use Rattle.tiny_http_head.specs.ContentLength.{lengths_after}
use Rattle.tiny_http_head.proofs.ListsLemmas.{from_here}
use Rattle.tiny_http_head.proofs.content_length.lengths_in.Given as goal

abbrev pub invariant-loop-text : goal.invariant-loop-text
invariant-loop-text l =
    lengths_after l.found (from_here (is_left_out l.blanks) (parts comma l.value) (length l.yielded)) ≡ lengths_after l.fn.found (elements_in (is_left_out l.blanks) l.value)
