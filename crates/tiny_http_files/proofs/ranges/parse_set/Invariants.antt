use Rattle.std.proofs.Common.{◌≡◌, length, drop, Some}
use Rattle.tiny_http_text.specs.Bytes.{parts}
use Rattle.tiny_http_files.specs.Ranges.{both_lists, all_specs}
use Rattle.tiny_http_files.proofs.ranges.parse_set.Given as goal

abbrev pub invariant-loop-element : goal.invariant-loop-element
invariant-loop-element l = both_lists (Some l.specs.items) (all_specs (drop (length l.yielded) (parts 44 l.set))) ≡ all_specs (parts 44 l.set)
