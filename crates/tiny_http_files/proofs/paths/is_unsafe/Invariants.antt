use Rattle.std.proofs.Common.{◌≡◌, length, drop}
use Rattle.std.specs.List.{list_any}
use Rattle.tiny_http_text.specs.Bytes.{parts}
use Rattle.tiny_http_files.specs.Paths.{is_unsafe_part, slash}
use Rattle.tiny_http_files.proofs.paths.is_unsafe.Given as goal

abbrev pub invariant-loop-part : goal.invariant-loop-part
invariant-loop-part l = list_any is_unsafe_part (drop (length l.yielded) (parts slash l.path)) ≡ list_any is_unsafe_part (parts slash l.path)
