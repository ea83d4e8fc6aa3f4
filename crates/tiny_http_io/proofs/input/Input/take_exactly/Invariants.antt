use Rattle.std.proofs.Common.{◌≡◌, ◌+◌, ◌-◌, ◌≤◌, length, vec_len, vec_capacity}
use Rattle.std.specs.Prelude.{IsSome}
use Rattle.tiny_http_io.specs.Device.{prepended}
use Rattle.tiny_http_io.specs.Input.{input_feed, input_stop_count, input_stop, input_reader, input_held, input_skip}
use Rattle.tiny_http_io.proofs.input.Input.take_exactly.Given as goal

abbrev pub invariant-loop-self : goal.invariant-loop-self
invariant-loop-self g l = record {
  within : vec_len l.body ≤ l.n;
  room : l.n ≤ vec_capacity l.body;
  feed : input_feed g.R.ReadDevice.feed l.fn.self ≡ prepended l.body.items (input_feed g.R.ReadDevice.feed l.self);
  once : IsSome (input_stop l.fn.self) → IsSome (input_stop l.self) × (input_reader l.self ≡ input_reader l.fn.self);
  lazy : input_stop l.self ≡ input_stop l.fn.self;
  calls : input_stop_count g.R.ReadDevice.stop_count l.self ≤ input_stop_count g.R.ReadDevice.stop_count l.fn.self;
  held : input_skip l.fn.self + l.n ≤ length (input_held l.fn.self) → (input_reader l.self ≡ input_reader l.fn.self) × (input_skip l.self + (l.n - vec_len l.body) ≤ length (input_held l.self));
}

abbrev pub decreases-loop-self : goal.decreases-loop-self
decreases-loop-self g l = l.n - vec_len l.body
