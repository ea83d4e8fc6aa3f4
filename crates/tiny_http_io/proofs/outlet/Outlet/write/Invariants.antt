use Rattle.std.proofs.Common.{◌≡◌, ◌-◌, ◌<◌, ◌≤◌, [], length, take}
use Rattle.std.specs.Prelude.{◌⊎◌}
use Rattle.tiny_http_io.specs.Device.{Took}
use Rattle.tiny_http_io.specs.Outlet.{output_of, outlet_held, outlet_writer}
use Rattle.tiny_http_io.specs.declared.buffer.TheConstants.{CAPACITY}
use Rattle.tiny_http_io.proofs.outlet.Outlet.write.Given as goal

abbrev pub invariant-loop-at : goal.invariant-loop-at
invariant-loop-at g l = record {
  within : l.at ≤ length l.bytes;
  taken : Took (output_of l.initial.self) (output_of l.self) (take l.at l.bytes);
  small : ((l.at ≡ 0) × (l.self ≡ l.initial.self)) ⊎ (outlet_held l.initial.self ≡ [] → length l.bytes < CAPACITY → (outlet_writer l.self ≡ outlet_writer l.initial.self) × (l.at ≡ length l.bytes));
  stays : l.self.ended ≡ l.initial.self.ended;
}

abbrev pub decreases-loop-at : goal.decreases-loop-at
decreases-loop-at g l = length l.bytes - l.at
