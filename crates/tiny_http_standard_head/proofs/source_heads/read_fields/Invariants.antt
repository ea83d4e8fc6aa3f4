use Rattle.std.proofs.Common.{◌≡◌, ◌≤◌, [], length}
use Rattle.tiny_http_standard_head.specs.declared.heads.TheConstants.{MOST_HEADERS}
use Rattle.tiny_http_io.specs.Source.{GoesOn}
use Rattle.tiny_http_standard_head.specs.SourceHeads.{HasReadFields}
use Rattle.tiny_http_standard_head.proofs.source_heads.read_fields.Given as goal

abbrev pub invariant-loop-header : goal.invariant-loop-header
invariant-loop-header g l = record {
  reads : HasReadFields l.fn.left l.left l.fn.source.feed l.source.feed l.headers.items;
  few : length l.headers.items ≤ MOST_HEADERS;
  shorter : l.left ≤ l.fn.left;
  goes_on : GoesOn l.fn.source.feed l.source.feed;
  stop : l.source.stop ≡ l.fn.source.stop;
  first : l.headers.items ≡ [] → (l.left ≡ l.fn.left) × (l.source.feed ≡ l.fn.source.feed);
  input_state : l.source.input_state ≡ l.fn.source.input_state;
}

abbrev pub decreases-loop-header : goal.decreases-loop-header
decreases-loop-header g l = l.left
