use Rattle.std.proofs.Common.{rules, ◌≡◌, Some}
use Rattle.std.specs.IoError.{error_kind}
use Rattle.tiny_http_io.specs.declared.device.Stop.TheVariants.{Fault}
use Rattle.tiny_http_body.specs.Body.{body_stop}
use Rattle.tiny_http_request.proofs.whole_body.read_left.Goals.{in-Some, in-None}
use Rattle.tiny_http_request.proofs.whole_body.read_left.Goals as goal

pub returns-in-Err-Io-clause-fails : goal.returns-in-Err-Io-clause-fails
returns-in-Err-Io-clause-fails g c =
    let stop : body_stop c.match-left.body.unread ≡ Some (Fault (error_kind c.in-Err-Io.fault)) =
    elim c.match-left.branch [ in-Some w ↦ search rules | in-None w ↦ search rules ] in
    c.fault_error.ensures.fails c.args.most c.args.body.now.unread c.match-left.body.unread stop
