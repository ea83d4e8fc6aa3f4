use Rattle.std.proofs.Common.{◌≡◌, ◌-◌, ◌^◌, vec_len}
use Rattle.tiny_http_open_request.specs.HeadReads.{HasReadFields}
use Rattle.tiny_http_io.specs.Source.{GoesOn}
use Rattle.tiny_http_open_request.proofs.heads.read_fields.Given as goal

abbrev pub invariant-loop-header : goal.invariant-loop-header
invariant-loop-header g l = record {
  fields : HasReadFields l.fn.left l.left l.fn.source.feed l.source.feed l.headers.items;
  goes_on : GoesOn l.fn.source.feed l.source.feed;
  lazy : l.source.stop ≡ l.fn.source.stop;
  input_state : l.source.input_state ≡ l.fn.source.input_state;
}

abbrev pub decreases-loop-header : goal.decreases-loop-header
decreases-loop-header g l = 2 ^ 64 - vec_len l.headers
