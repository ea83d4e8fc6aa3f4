use Rattle.std.proofs.Common.{◌≡◌, ◌-◌, ◌<◌, ◌≤◌, true, false, length, take}
use Rattle.tiny_http_io.specs.Source.{GoesOn}
use Rattle.tiny_http_body.specs.Body.{remaining, prepended_body, is_streaming, body_input_state, ReadsOn}
use Rattle.tiny_http_body.proofs.body.UnreadBody.fill.Given as goal

abbrev pub invariant-loop-at : goal.invariant-loop-at
invariant-loop-at g l = record {
  within : l.at ≤ length l.buf;
  given : remaining l.initial.self l.initial.source.feed ≡ prepended_body (take l.at l.buf) (remaining l.self l.source.feed);
  start : l.at ≡ 0 → l.self ≡ l.initial.self;
  moves : 0 < l.at → ReadsOn l.initial.self l.at false l.self;
  stop_count : g.R.ReadDevice.stop_count l.source.reader ≤ g.R.ReadDevice.stop_count l.initial.source.reader;
  settled : is_streaming l.initial.self ≡ false → (l.source ≡ l.initial.source) × (is_streaming l.self ≡ false);
  goes_on : GoesOn l.initial.source.feed l.source.feed;
  input_state : is_streaming l.initial.self ≡ true → l.source.input_state ≡ body_input_state l.self l.initial.source.input_state;
}

abbrev pub decreases-loop-at : goal.decreases-loop-at
decreases-loop-at g l = length l.buf - l.at
