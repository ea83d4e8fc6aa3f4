use Rattle.std.proofs.Common.{◌-◌, ◌≤◌, length, take}
use Rattle.tiny_http_io.specs.Device.{Took}
use Rattle.tiny_http_io.proofs.device.put.Given as goal

abbrev pub invariant-loop-at : goal.invariant-loop-at
invariant-loop-at g l = record {
  within : l.at ≤ length l.bytes;
  taken : Took (g.W.WriteDevice.sink l.initial.writer) (g.W.WriteDevice.sink l.writer) (take l.at l.bytes);
}

abbrev pub decreases-loop-at : goal.decreases-loop-at
decreases-loop-at g l = length l.bytes - l.at
