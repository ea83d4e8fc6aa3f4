use Rattle.std.proofs.Common.{◌≡◌, ◌-◌, ◌<◌, [], length, take}
use Rattle.tiny_http_text.specs.Bytes.{HasNo}
use Rattle.tiny_http_head.specs.Heads.{line_feed}
use Rattle.tiny_http_standard_head.specs.SourceLines.{Passes}
use Rattle.tiny_http_standard_head.proofs.source_lines.take_line.Given as goal

abbrev pub invariant-loop-n : goal.invariant-loop-n
invariant-loop-n g l = record {
  passes : Passes l.fn.source.feed l.source.feed l.line.items;
  within : length l.line.items < l.limit;
  skip : l.source.skip ≡ 0;
  some : 0 < length l.source.held;
  begun : l.line.items ≡ [] → HasNo line_feed (take l.limit l.source.held);
  stop : l.source.stop ≡ l.fn.source.stop;
  input_state : l.source.input_state ≡ l.fn.source.input_state;
}

abbrev pub decreases-loop-n : goal.decreases-loop-n
decreases-loop-n g l = l.limit - length l.line.items
