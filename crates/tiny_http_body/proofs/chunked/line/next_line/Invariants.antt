use Rattle.std.proofs.Common.{◌≤◌}
use Rattle.tiny_http_body.proofs.ChunkLineLemmas.{LineSoFar}
use Rattle.tiny_http_body.proofs.chunked.line.next_line.Given as goal

abbrev pub invariant-loop-taken : goal.invariant-loop-taken
invariant-loop-taken g l = record {
  line : LineSoFar l.fn.rules (g.R.ReadDevice.feed l.fn.reader) (g.R.ReadDevice.feed l.reader) l.scan l.taken;
  stop_count : g.R.ReadDevice.stop_count l.reader ≤ g.R.ReadDevice.stop_count l.fn.reader;
}
