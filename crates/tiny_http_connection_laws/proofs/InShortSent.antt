-- The joined output of a connection is the segments of its numbers.
use Rattle.std.proofs.Common.{◌≡◌, refl, sym, ap, ◌∙◌, subst, ℕ, Bool, not, ◌&&◌, List, [], ◌∷◌, ◌++◌, map}
use Rattle.std.specs.Prelude.{Option, if◌then◌else◌}
use Rattle.tiny_http_io.specs.Device.{Feed, Sink, IsFront}
use Rattle.tiny_http_body.specs.declared.framing.Profile.{Profile}
use Rattle.tiny_http_connection.specs.Segments.{Slot, segment, is_finished, is_slot_broken}
use Rattle.tiny_http_connection.specs.Slots.{joined}
use Rattle.tiny_http_connection.specs.Steps.{ReplyValue, TimedValue}
use Rattle.tiny_http_connection.specs.Conversation.{IsConversation}
use Rattle.tiny_http_connection_laws.specs.ClientReads.{IsOutputOf}
use Rattle.tiny_http_connection_laws.specs.InShort.{sent, segment_of}
use Rattle.tiny_http_connection_laws.proofs.ConversationReads.{end-sound}
use Rattle.tiny_http_connection_laws.proofs.ReadableSteps.{run-unfailed}
use Rattle.tiny_http_connection_laws.proofs.RunFronts.{output-front, output-all}

sent-joined : (slots : List Slot) → joined slots ≡ sent (map segment_of slots)
sent-joined [] = refl
sent-joined (s ∷ slots) = ap (λ x. segment s ++ (if (is_finished s && not (is_slot_broken s)) then x else [])) (sent-joined slots)

pub sent-front : (p : Profile) (feed : Feed) (before after : Sink) (steps : List TimedValue) (replies : List ReplyValue) (held out : List ℕ) (ended : Bool) (unread : Option Feed)
    → (c : IsConversation p feed before steps replies after held ended unread) → IsOutputOf after held out → IsFront out (sent (map segment_of c.end.reached.slots))
sent-front p feed before after steps replies held out ended unread c o =
    let s = end-sound p feed before after steps replies held ended unread c in
    let f = output-front c.end.reached.slots c.end.flushed c.end.failure before after held o.0 out ended s.took c.output o.1 o.2 in
    subst (λ x. IsFront out x) (sent-joined c.end.reached.slots) f

pub sent-whole : (p : Profile) (feed : Feed) (before after : Sink) (steps : List TimedValue) (replies : List ReplyValue) (held out : List ℕ) (ended : Bool) (unread : Option Feed)
    → (c : IsConversation p feed before steps replies after held ended unread) → IsOutputOf after held out → after.failures ≡ before.failures → out ≡ sent (map segment_of c.end.reached.slots)
sent-whole p feed before after steps replies held out ended unread c o same =
    let none = run-unfailed p feed before after steps replies held ended unread c same in
    sym (output-all c.end.reached.slots c.end.flushed c.end.failure before after held o.0 out ended c.output none o.1 o.2) ∙ sent-joined c.end.reached.slots
