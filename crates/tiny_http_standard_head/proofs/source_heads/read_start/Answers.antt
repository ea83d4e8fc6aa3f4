use Rattle.std.proofs.Common.{◌≡◌, ap, Ok, Err}
use Rattle.tiny_http_standard_head.specs.declared.source_heads.NoHead.TheVariants.{Memory}
use Rattle.tiny_http_io.proofs.SourceGoesOn.{goes-on_more}
use Rattle.tiny_http_standard_head.proofs.SourceJoining.{first-some, first-err, then-empty, first-lacks, second-lacks}
use Rattle.tiny_http_standard_head.proofs.source_heads.read_start.Goals as goal

pub returns-in-Ok-Some-read_request-clause-goes_on : goal.returns-in-Ok-Some-read_request-clause-goes_on
returns-in-Ok-Some-read_request-clause-goes_on g c = goes-on_more _ _ _ c.read_request.ensures.goes_on c.read_request-2.ensures.goes_on

pub returns-in-Ok-None-read_request-clause-goes_on : goal.returns-in-Ok-None-read_request-clause-goes_on
returns-in-Ok-None-read_request-clause-goes_on g c = goes-on_more _ _ _ c.read_request.ensures.goes_on c.read_request-2.ensures.goes_on

pub returns-in-Err-read_request-clause-goes_on : goal.returns-in-Err-read_request-clause-goes_on
returns-in-Err-read_request-clause-goes_on g c = goes-on_more _ _ _ c.read_request.ensures.goes_on c.read_request-2.ensures.goes_on

pub returns-in-Ok-Some-clause-reads : goal.returns-in-Ok-Some-clause-reads
returns-in-Ok-Some-clause-reads g c =
    let reads = rw c.in-Ok-Some.field-0-is at c.in-Ok-Some.ensures.reads in
    first-some c.args.left.now c.read_request.new.left c.args.source.now.feed c.read_request.new.source.feed c.in-Ok-Some.start reads

pub returns-in-Err-clause-reads : goal.returns-in-Err-clause-reads
returns-in-Err-clause-reads g c =
    first-err c.args.left.now c.read_request.new.left c.args.source.now.feed c.read_request.new.source.feed c.in-Err.why c.in-Err.ensures.reads

pub returns-in-Ok-None-read_request-clause-reads : goal.returns-in-Ok-None-read_request-clause-reads
returns-in-Ok-None-read_request-clause-reads g c =
    let first = rw c.in-Ok-None.field-0-is at c.in-Ok-None.ensures.reads in
    let second = rw c.in-Ok-None-read_request.field-0-is at c.in-Ok-None-read_request.ensures.reads in
    then-empty c.args.left.now c.read_request.new.left c.read_request-2.new.left c.args.source.now.feed c.read_request.new.source.feed c.read_request-2.new.source.feed first second

pub returns-in-Err-clause-memory : goal.returns-in-Err-clause-memory
returns-in-Err-clause-memory g c memory =
    let why : c.in-Err.why ≡ Memory = cc in
    first-lacks c.args.left.now c.args.source.now.feed c.read_request.new.source.feed c.read_request.new.source.held (c.in-Err.ensures.memory (ap Err why))

pub returns-in-Err-read_request-clause-memory : goal.returns-in-Err-read_request-clause-memory
returns-in-Err-read_request-clause-memory g c memory =
    let why : c.in-Err-read_request.why ≡ Memory = cc in
    let empty = c.in-Ok-None.ensures.empty (ap Ok c.in-Ok-None.field-0-is) in
    let last = c.read_request-2.new.source in
    second-lacks c.args.left.now c.read_request.new.left c.args.source.now.feed c.read_request.new.source.feed last.feed last.held empty.0 empty.1 (c.in-Err-read_request.ensures.memory (ap Err why))
