use Rattle.std.proofs.Common.{◌≡◌, ◌≤◌}
use Rattle.std.specs.Option.{option_map}
use Rattle.tiny_http_io.specs.FeedParts.{feed_behind}
use Rattle.tiny_http_io.proofs.equal_reader.read_away.Given as goal

abbrev pub invariant-loop-left : goal.invariant-loop-left
invariant-loop-left g l = record {
  feed : option_map (feed_behind l.left) (g.R.ReadDevice.feed l.inner) ≡ option_map (feed_behind l.fn.size) (g.R.ReadDevice.feed l.fn.inner);
  stop_count : g.R.ReadDevice.stop_count l.inner ≤ g.R.ReadDevice.stop_count l.fn.inner;
}

abbrev pub decreases-loop-left : goal.decreases-loop-left
decreases-loop-left g l = l.left
