use Rattle.std.proofs.Common.{◌≡◌, ℕ, ◌+◌, ◌<◌, ◌≤◌, List, [], ◌∷◌, length, Option, None, Some}
use Rattle.std.specs.Prelude.{IsSome}
use Rattle.tiny_http_io.specs.declared.device.Stop.{Stop}
use Rattle.tiny_http_io.specs.Input.{input_feed, input_stop_count, SkipsHeld}
use Rattle.tiny_http_io.proofs.input.Input.fill.Given as goal

abbrev empty_rank : List ℕ → ℕ
empty_rank [] = 1
empty_rank (b ∷ bs) = 0

abbrev open_rank : Option Stop → ℕ
open_rank None = 1
open_rank (Some stop) = 0

abbrev pub invariant-loop-self : goal.invariant-loop-self
invariant-loop-self g l = record {
  feed : input_feed g.R.ReadDevice.feed l.self ≡ input_feed g.R.ReadDevice.feed l.fn.self;
  passed : 0 < length l.self.held → l.self.skip ≡ 0;
  once : IsSome l.fn.self.stop → l.self.inner ≡ l.fn.self.inner;
  stop : IsSome l.fn.self.stop → l.self.stop ≡ l.fn.self.stop;
  none_more : l.fn.self.held ≡ [] → IsSome l.fn.self.stop → l.self.held ≡ [];
  none_skipped : l.fn.self.skip ≡ 0 → l.self.skip ≡ 0;
  lazy : 0 < length l.self.held → l.self.stop ≡ l.fn.self.stop;
  calls : input_stop_count g.R.ReadDevice.stop_count l.self ≤ input_stop_count g.R.ReadDevice.stop_count l.fn.self;
  held : l.fn.self.skip < length l.fn.self.held → SkipsHeld l.fn.self l.self;
}

abbrev pub decreases-loop-self : goal.decreases-loop-self
decreases-loop-self g l = l.self.skip + empty_rank l.self.held + open_rank l.self.stop
