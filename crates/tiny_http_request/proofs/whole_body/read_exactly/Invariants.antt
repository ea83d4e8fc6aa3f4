use Rattle.std.proofs.Common.{◌≡◌, ◌-◌, ◌≤◌, true, false, length, Option}
use Rattle.tiny_http_io.specs.Device.{Feed, prepended}
use Rattle.tiny_http_body.specs.Body.{remaining, prepended_body, is_streaming, IsWithHead}
use Rattle.tiny_http_request.specs.Body.{body_left}
use Rattle.tiny_http_request.proofs.WholeBodyLemmas.{StandsAt}
use Rattle.tiny_http_request.proofs.whole_body.read_exactly.Given as goal

abbrev pub invariant-loop-piece : goal.invariant-loop-piece
invariant-loop-piece g l = record {
  read : body_left l.initial.body ≡ prepended l.bytes.items (body_left l.body);
  within : length l.bytes.items ≤ l.count;
  held : is_streaming l.initial.body.unread ≡ false → (feed : Option Feed) → remaining l.initial.body.unread feed ≡ prepended_body l.bytes.items (remaining l.body.unread feed);
  settled : is_streaming l.initial.body.unread ≡ false → is_streaming l.body.unread ≡ false;
  represents : is_streaming l.initial.body.unread ≡ true → StandsAt (l.count - length l.bytes.items) (length l.bytes.items) l.body.unread;
  streams : is_streaming l.initial.body.unread ≡ true → IsWithHead l.body.unread → ⊥;
}

abbrev pub decreases-loop-piece : goal.decreases-loop-piece
decreases-loop-piece g l = l.count - length l.bytes.items
