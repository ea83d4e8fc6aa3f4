use Rattle.std.proofs.Common.{◌≡◌, ◌≤◌, ◌++◌, ◌-◌, length, take, drop}
use Rattle.tiny_http_standard_head.specs.Lines.{authority_in}
use Rattle.tiny_http_standard_head.proofs.lines.authority_in.Given as goal

abbrev pub invariant-loop-end : goal.invariant-loop-end
invariant-loop-end l = record {
  within : l.end ≤ length l.text;
  joins : take l.end l.text ++ authority_in (drop l.end l.text) ≡ authority_in l.text;
}

abbrev pub decreases-loop-end : goal.decreases-loop-end
decreases-loop-end l = length l.text - l.end
