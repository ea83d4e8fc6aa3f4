use Rattle.std.proofs.Common.{◌≡◌, ◌-◌, ◌≤◌, Option}
use Rattle.tiny_http_io.specs.Device.{Feed}
use Rattle.tiny_http_body.specs.Decoding.{trails, trailers_from, TakesNeeded}
use Rattle.tiny_http_body.proofs.chunked.skip_trailers.Given as goal

abbrev pub invariant-loop-lines : goal.invariant-loop-lines
invariant-loop-lines g l = record {
  comes : trails l.fn.rules (128 - l.lines) (g.R.ReadDevice.feed l.reader) ≡ trails l.fn.rules 128 (g.R.ReadDevice.feed l.fn.reader);
  stop_count : g.R.ReadDevice.stop_count l.reader ≤ g.R.ReadDevice.stop_count l.fn.reader;
  needed : (new : Option Feed) → TakesNeeded (trailers_from l.fn.rules (128 - l.lines)) (g.R.ReadDevice.feed l.reader) new → TakesNeeded (trailers_from l.fn.rules 128) (g.R.ReadDevice.feed l.fn.reader) new;
}
