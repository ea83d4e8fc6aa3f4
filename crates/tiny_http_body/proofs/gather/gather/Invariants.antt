use Rattle.std.proofs.Common.{◌≡◌, ◌≤◌, length}
use Rattle.tiny_http_io.specs.Device.{GatheredTo}
use Rattle.tiny_http_body.proofs.gather.gather.Given as goal

abbrev pub invariant-loop-turn : goal.invariant-loop-turn
invariant-loop-turn g l = record {
  size : length l.buf ≡ 8192;
  stop_count : g.D.ReadDevice.stop_count l.source ≤ g.D.ReadDevice.stop_count l.initial.source;
  gathered : GatheredTo (g.D.ReadDevice.feed l.initial.source) (g.D.ReadDevice.feed l.source) l.all.items l._turn;
}
