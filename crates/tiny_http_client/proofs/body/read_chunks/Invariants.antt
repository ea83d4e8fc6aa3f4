use Rattle.std.proofs.Common.{Some}
use Rattle.tiny_http_io.specs.Device.{whole_feed}
use Rattle.tiny_http_body.specs.Decoding.{decoding_coming}
use Rattle.tiny_http_client.proofs.ChunksReading.{HasDecoded, coming_count}
use Rattle.tiny_http_client.proofs.body.read_chunks.Given as goal

abbrev pub invariant-loop-body : goal.invariant-loop-body
invariant-loop-body l = HasDecoded l.fn.rest l.body.items (decoding_coming l.decoding (Some (whole_feed l.rest)))

abbrev pub decreases-loop-body : goal.decreases-loop-body
decreases-loop-body l = coming_count (decoding_coming l.decoding (Some (whole_feed l.rest)))
