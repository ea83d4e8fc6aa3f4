use Rattle.std.proofs.Common.{◌-◌, ◌≤◌}
use Rattle.tiny_http_io.specs.Device.{CopiedKnown, SameFaults}
use Rattle.tiny_http_body.proofs.identity.put_through.Given as goal

abbrev pub invariant-loop-left : goal.invariant-loop-left
invariant-loop-left g l = record {
  within : l.left ≤ l.n;
  stop_count : g.D.ReadDevice.stop_count l.source ≤ g.D.ReadDevice.stop_count l.initial.source;
  copied : CopiedKnown (g.D.ReadDevice.feed l.initial.source) (g.D.ReadDevice.feed l.source) (g.W.WriteDevice.sink l.initial.writer) (g.W.WriteDevice.sink l.writer) (l.n - l.left);
  same : SameFaults (g.W.WriteDevice.sink l.initial.writer) (g.W.WriteDevice.sink l.writer);
}

abbrev pub decreases-loop-left : goal.decreases-loop-left
decreases-loop-left g l = l.left
