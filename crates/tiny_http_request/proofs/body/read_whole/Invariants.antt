use Rattle.std.proofs.Common.{◌≡◌, ◌-◌, ◌≤◌, length, take}
use Rattle.tiny_http_io.specs.Device.{prepended}
use Rattle.tiny_http_request.proofs.body.read_whole.Given as goal

abbrev pub invariant-loop-at : goal.invariant-loop-at
invariant-loop-at g l = record {
  within : l.at ≤ length l.buf;
  read : g.R.ReadDevice.feed l.initial.reader ≡ prepended (take l.at l.buf) (g.R.ReadDevice.feed l.reader);
}

abbrev pub decreases-loop-at : goal.decreases-loop-at
decreases-loop-at g l = length l.buf - l.at
