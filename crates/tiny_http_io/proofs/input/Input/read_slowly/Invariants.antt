use Rattle.std.proofs.Common.{◌≡◌, ◌+◌, ◌-◌, ◌*◌, ◌^◌, ◌≤◌, ◌++◌, length, vec_len}
use Rattle.std.specs.Prelude.{IsSome}
use Rattle.tiny_http_io.specs.Device.{prepended}
use Rattle.tiny_http_io.specs.LineEnds.{BeginsNoLineEnd, held_return, IsRoom}
use Rattle.tiny_http_io.specs.Input.{input_feed, input_stop_count, input_stop, input_reader, IsInputOver}
use Rattle.tiny_http_io.proofs.input.Input.read_slowly.Given as goal

abbrev pub invariant-loop-room : goal.invariant-loop-room
invariant-loop-room g l = record {
  feed : input_feed g.R.ReadDevice.feed l.fn.self ≡ prepended (l.text.items ++ held_return l.after_return) (input_feed g.R.ReadDevice.feed l.self);
  passed : BeginsNoLineEnd l.text.items (held_return l.after_return);
  room : IsRoom l.fn.left l.room (length (l.text.items ++ held_return l.after_return));
  once : IsSome (input_stop l.fn.self) → IsSome (input_stop l.self) × (input_reader l.self ≡ input_reader l.fn.self);
  stays : IsInputOver l.fn.self → l.self ≡ l.fn.self;
  fresh : IsInputOver l.fn.self → l.room ≡ l.fn.left;
  lazy : input_stop l.self ≡ input_stop l.fn.self;
  calls : input_stop_count g.R.ReadDevice.stop_count l.self ≤ input_stop_count g.R.ReadDevice.stop_count l.fn.self;
}

abbrev pub decreases-loop-room : goal.decreases-loop-room
decreases-loop-room g l = 2 ^ 66 - (2 * vec_len l.text + length (held_return l.after_return))
