use Rattle.tiny_http_events.proofs.StreamReading.{stream-read, cut-read}
use Rattle.tiny_http_events.proofs.laws.streams_are_read.Goals as goal

pub returns : goal.returns
returns c = record { whole = stream-read; cut = cut-read }
