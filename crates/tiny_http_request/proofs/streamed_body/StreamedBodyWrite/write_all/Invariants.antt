use Rattle.std.proofs.Common.{length, ◌-◌}
use Rattle.tiny_http_request.proofs.streamed_body.StreamedBodyWrite.write_all.Given as goal

abbrev pub decreases-loop-at : goal.decreases-loop-at
decreases-loop-at g l = length l.buf - l.at
