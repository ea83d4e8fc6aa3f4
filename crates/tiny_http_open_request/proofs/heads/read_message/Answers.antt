use Rattle.std.proofs.Common.{refl}
use Rattle.tiny_http_open_request.specs.declared.heads.MessageHead.{MessageHead}
use Rattle.tiny_http_open_request.proofs.HeadReadsLemmas.{message-read, message-fields_err}
use Rattle.tiny_http_io.proofs.SourceGoesOn.{goes-on_more}
use Rattle.tiny_http_open_request.proofs.heads.read_message.Goals as goal

pub returns-in-Err-read_fields-clause-reads : goal.returns-in-Err-read_fields-clause-reads
returns-in-Err-read_fields-clause-reads g c =
    message-fields_err (λ hs. hs.items) c.args.limit c.read_start.new.left _ _ _ _ c.in-Ok.start.0 c.in-Ok.start.1 c.in-Ok.start.2 c.in-Err-read_fields.fault c.in-Ok.ensures.reads c.in-Err-read_fields.ensures.reads

pub returns-in-Ok-read_fields-clause-goes_on : goal.returns-in-Ok-read_fields-clause-goes_on
returns-in-Ok-read_fields-clause-goes_on g c = goes-on_more _ _ _ c.in-Ok.ensures.goes_on c.in-Ok-read_fields.ensures.goes_on

pub returns-in-Err-read_fields-clause-goes_on : goal.returns-in-Err-read_fields-clause-goes_on
returns-in-Err-read_fields-clause-goes_on g c = goes-on_more _ _ _ c.in-Ok.ensures.goes_on c.in-Err-read_fields.ensures.goes_on

pub returns-in-Ok-read_fields-clause-reads : goal.returns-in-Ok-read_fields-clause-reads
returns-in-Ok-read_fields-clause-reads g c =
    let m : MessageHead = record { method = c.in-Ok.start.0; path = c.in-Ok.start.1; version = c.in-Ok.start.2; headers = c.in-Ok-read_fields.headers } in
    message-read (λ hs. hs.items) c.args.limit c.read_start.new.left c.read_fields.new.left _ _ _ c.in-Ok-read_fields.headers m refl c.in-Ok.ensures.reads c.in-Ok-read_fields.ensures.reads
