use Rattle.std.proofs.Common.{◌≡◌, ◌++◌, drop}
use Rattle.tiny_http_files.specs.Ranges.{ranges_of}
use Rattle.tiny_http_files.proofs.ranges.satisfied.Given as goal

abbrev pub invariant-loop-spec : goal.invariant-loop-spec
invariant-loop-spec l = l.ranges.items ++ ranges_of l.length (drop l.spec-index l.specs) ≡ ranges_of l.length l.specs
