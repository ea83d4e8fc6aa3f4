use Rattle.std.proofs.Common.{◌≡◌, ◌≤◌, length}
use Rattle.tiny_http_io.specs.Device.{SameFaults}
use Rattle.tiny_http_body.proofs.ChunkedBodies.{ChunkedTo}
use Rattle.tiny_http_body.proofs.chunks.put_chunked.Given as goal

abbrev pub invariant-loop-turn : goal.invariant-loop-turn
invariant-loop-turn g l = record {
  size : length l.buf ≡ 8192;
  stop_count : g.D.ReadDevice.stop_count l.source ≤ g.D.ReadDevice.stop_count l.initial.source;
  copied : ChunkedTo (g.D.ReadDevice.feed l.initial.source) (g.D.ReadDevice.feed l.source) (g.W.WriteDevice.sink l.initial.writer) (g.W.WriteDevice.sink l.writer) l._turn;
  same : SameFaults (g.W.WriteDevice.sink l.initial.writer) (g.W.WriteDevice.sink l.writer);
}
