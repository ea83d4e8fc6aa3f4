use Rattle.std.proofs.Common.{◌≡◌, ◌-◌, ◌≤◌, false, length, Option, Some, None}
use Rattle.std.specs.declared.io.ErrorKind.{ErrorKind}
use Rattle.tiny_http_io.specs.Device.{Feed, prepended}
use Rattle.tiny_http_io.specs.declared.device.Stop.TheVariants.{Fault}
use Rattle.tiny_http_body.specs.Body.{remaining, prepended_body, is_streaming, bytes_left, body_stop}
use Rattle.tiny_http_request.specs.Body.{body_left}
use Rattle.tiny_http_request.proofs.whole_body.read_to_end.Given as goal

abbrev pub invariant-loop-bytes : goal.invariant-loop-bytes
invariant-loop-bytes g l = record {
  read : body_left l.initial.body ≡ prepended l.bytes.items (body_left l.body);
  within : length l.bytes.items ≤ l.most;
  held : is_streaming l.initial.body.unread ≡ false → (feed : Option Feed) → remaining l.initial.body.unread feed ≡ prepended_body l.bytes.items (remaining l.body.unread feed);
  settled : is_streaming l.initial.body.unread ≡ false → is_streaming l.body.unread ≡ false;
  unknown : bytes_left l.body.unread ≡ None;
  again : (kind : ErrorKind) → body_stop l.initial.body.unread ≡ Some (Fault kind) → body_stop l.body.unread ≡ Some (Fault kind);
}

abbrev pub decreases-loop-bytes : goal.decreases-loop-bytes
decreases-loop-bytes g l = l.most - length l.bytes.items
