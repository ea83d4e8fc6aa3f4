-- The output of a conversation whose numbers can be read.
use Rattle.std.proofs.Common.{◌≡◌, ℕ, Bool, false, List, [], Option, Some, None, subst}
use Rattle.std.specs.Prelude.{IsTrue}
use Rattle.std.specs.List.{list_all}
use Rattle.tiny_http_io.specs.Device.{Feed, Sink}
use Rattle.tiny_http_body.specs.declared.framing.Profile.{Profile}
use Rattle.tiny_http_connection.specs.Segments.{is_finished}
use Rattle.tiny_http_connection.specs.Steps.{ReplyValue, TimedValue}
use Rattle.tiny_http_connection.specs.Conversation.{start_state, IsConversation}
use Rattle.tiny_http_client.specs.ClientAnswer.{ClientAnswer, ReadsAnswers}
use Rattle.tiny_http_client.specs.SentTexts.{methods, whole_answers, remains}
use Rattle.tiny_http_connection_laws.specs.ClientReads.{goes_by_standard, IsOutputOf, HaveAnswers, ReadsNumbers, sent_texts}
use Rattle.tiny_http_connection_laws.proofs.ItemsFit.{items-fit}
use Rattle.tiny_http_connection_laws.proofs.RunFronts.{IsSoundState, run-sound, start-sound, output-front, output-all, output-unended}
use Rattle.tiny_http_connection_laws.proofs.ReadableSteps.{CanAllBeRead}
use Rattle.tiny_http_connection_laws.proofs.SlotsAreRead.{slots-are-read, slots-are-read-all, all-answered}
use Rattle.std.specs.List.{AllByRecursion}
use Rattle.tiny_http_body.specs.declared.framing.Profile.TheVariants.{Standard}
use Rattle.tiny_http_connection_laws.specs.Closes.{IsReadAsSaid}
use Rattle.tiny_http_connection_laws.proofs.CloseIsRead.{all-read}

pub end-sound : (p : Profile) (feed : Feed) (before after : Sink) (steps : List TimedValue) (replies : List ReplyValue) (held : List ℕ) (ended : Bool) (unread : Option Feed)
    → (c : IsConversation p feed before steps replies after held ended unread) → IsSoundState (goes_by_standard p) c.end
end-sound p feed before after steps replies held ended unread c =
    run-sound (goes_by_standard p) (start_state c.items) c.end steps replies (start-sound (goes_by_standard p) c.items (items-fit p (Some feed.bytes) feed.stop c.items c.pipeline)) c.run

pub all-closes_read : (feed : Feed) (before after : Sink) (steps : List TimedValue) (replies : List ReplyValue) (held : List ℕ) (ended : Bool) (unread : Option Feed)
    → (c : IsConversation Standard feed before steps replies after held ended unread) → AllByRecursion IsReadAsSaid c.end.reached.slots
all-closes_read feed before after steps replies held ended unread c =
    let s = end-sound Standard feed before after steps replies held ended unread c in
    all-read c.end.reached.slots s.holds.slots

pub all-sent : (p : Profile) (feed : Feed) (before after : Sink) (steps : List TimedValue) (replies : List ReplyValue) (held out : List ℕ) (ended : Bool) (unread : Option Feed)
    → (c : IsConversation p feed before steps replies after held ended unread) → CanAllBeRead p c.end.reached.slots → IsOutputOf after held out → ReadsNumbers c.end.reached.slots out
all-sent p feed before after steps replies held out ended unread c can o =
    let s = end-sound p feed before after steps replies held ended unread c in
    let f = output-front c.end.reached.slots c.end.flushed c.end.failure before after held o.0 out ended s.took c.output o.1 o.2 in
    let r = slots-are-read p c.end.reached.slots out can s.holds.slots f in
    record { answers = r.0; rest = r.1; reads = r.2; stand = r.3 }

pub all-whole : (p : Profile) (feed : Feed) (before after : Sink) (steps : List TimedValue) (replies : List ReplyValue) (held out : List ℕ) (ended : Bool) (unread : Option Feed)
    → (c : IsConversation p feed before steps replies after held ended unread) → CanAllBeRead p c.end.reached.slots → IsOutputOf after held out → c.end.failure ≡ None
    → (let texts = sent_texts c.end.reached.slots in ReadsAnswers (methods texts) out (whole_answers texts) (remains texts))
all-whole p feed before after steps replies held out ended unread c can o none =
    let s = end-sound p feed before after steps replies held ended unread c in
    slots-are-read-all p c.end.reached.slots out can s.holds.slots (output-all c.end.reached.slots c.end.flushed c.end.failure before after held o.0 out ended c.output none o.1 o.2)

pub all-complete : (p : Profile) (feed : Feed) (before after : Sink) (steps : List TimedValue) (replies : List ReplyValue) (held out : List ℕ) (unread : Option Feed)
    → (c : IsConversation p feed before steps replies after held false unread) → CanAllBeRead p c.end.reached.slots → IsOutputOf after held out → IsTrue (list_all is_finished c.end.reached.slots)
    → (answers : List ClientAnswer) × HaveAnswers c.end.reached.slots answers × ReadsAnswers (methods (sent_texts c.end.reached.slots)) out answers []
all-complete p feed before after steps replies held out unread c can o finished =
    let s = end-sound p feed before after steps replies held false unread c in
    let slots = c.end.reached.slots in
    let u = output-unended slots c.end.flushed c.end.failure before after held c.output in
    let a = all-answered p slots can finished u.whole in
    let all = slots-are-read-all p slots out can s.holds.slots (output-all slots c.end.flushed c.end.failure before after held o.0 out false c.output u.unfailed o.1 o.2) in
    let P : List ClientAnswer → List ℕ → Type 0 = λ list rest. ReadsAnswers (methods (sent_texts slots)) out list rest in
    (a.answers, a.have, subst (λ rest. P a.answers rest) a.nothing (subst (λ list. P list (remains (sent_texts slots))) a.whole all))
