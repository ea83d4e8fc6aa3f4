use Rattle.std.proofs.Common.{arith, take}
use Rattle.std.proofs.lemmas.List.{length-take-le}
use Rattle.std.specs.IoError.{error_kind}
use Rattle.tiny_http_io.proofs.FeedPartsLemmas.{part-none, part-fault, part-bytes, part-end, last-bytes}
use Rattle.tiny_http_io.proofs.equal_reader.EqualReader.read_part.Goals as goal

pub returns-in-Ok-clause-bytes : goal.returns-in-Ok-clause-bytes
returns-in-Ok-clause-bytes g c =
    let e = c.in-Ok.ensures in
    part-bytes _ _ (take c.in-Ok.n c.read_front.new.buf) c.args.self.now.left c.in-Ok.n e.bytes (length-take-le c.in-Ok.n c.read_front.new.buf e.bound) e.most

pub returns-in-Ok-clause-behind : goal.returns-in-Ok-clause-behind
returns-in-Ok-clause-behind g c =
    let e = c.in-Ok.ensures in
    last-bytes _ _ (take c.in-Ok.n c.read_front.new.buf) c.args.self.now.left c.in-Ok.n e.bytes (length-take-le c.in-Ok.n c.read_front.new.buf e.bound) e.most

pub returns-then-self-eq0-clause-end : goal.returns-then-self-eq0-clause-end
returns-then-self-eq0-clause-end g c none room = part-none _ c.args.self.now.left c.if-self-eq0.true

pub returns-in-Err-clause-fault : goal.returns-in-Err-clause-fault
returns-in-Err-clause-fault g c = part-fault _ c.args.self.now.left (error_kind c.in-Err.e) (omega (arith, c.if-self-eq0.false)) c.in-Err.ensures.fault

pub returns-in-Ok-clause-end : goal.returns-in-Ok-clause-end
returns-in-Ok-clause-end g c none room = part-end _ c.args.self.now.left (c.in-Ok.ensures.end none (omega (arith, c.if-self-eq0.false)) room)
