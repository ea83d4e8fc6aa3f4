use Rattle.tiny_http_io.proofs.DeviceReads.{reads-from}
use Rattle.tiny_http_io.proofs.device.read_some.Goals as goal

pub returns-clause-bytes : goal.returns-clause-bytes
returns-clause-bytes g c = let e = c.read_in.ensures.reads in reads-from _ _ c.read_in.result _ e.bytes e.end e.fault e.again
