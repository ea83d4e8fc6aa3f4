use Rattle.std.proofs.Common.{◌≡◌, length, drop}
use Rattle.std.specs.List.{list_any}
use Rattle.tiny_http_text.specs.Bytes.{parts, comma}
use Rattle.tiny_http_files.specs.Tags.{is_match_within}
use Rattle.tiny_http_files.proofs.tags.EntityTag.is_listed.Given as goal

abbrev pub invariant-loop-element : goal.invariant-loop-element
invariant-loop-element l = list_any (is_match_within l.comparison l.self.is_weak l.self.opaque.now) (drop (length l.yielded) (parts comma l.value)) ≡ list_any (is_match_within l.comparison l.self.is_weak l.self.opaque.now) (parts comma l.value)
