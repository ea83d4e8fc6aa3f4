use Rattle.std.proofs.Common.{◌-◌, ◌≤◌, length}
use Rattle.tiny_http_io.specs.Device.{FilledTo}
use Rattle.tiny_http_body.proofs.gather.fill.Given as goal

abbrev pub invariant-loop-at : goal.invariant-loop-at
invariant-loop-at g l = record {
  within : l.at ≤ length l.buf;
  stop_count : g.D.ReadDevice.stop_count l.source ≤ g.D.ReadDevice.stop_count l.initial.source;
  filled : FilledTo (g.D.ReadDevice.feed l.initial.source) (g.D.ReadDevice.feed l.source) l.at l.buf;
}

abbrev pub decreases-loop-at : goal.decreases-loop-at
decreases-loop-at g l = length l.buf - l.at
