use Rattle.std.proofs.Common.{refl, subst}
use Rattle.tiny_http_io.specs.Device.{Sink}
use Rattle.tiny_http_connection.specs.Conversation.{IsConversation}
use Rattle.tiny_http_connection.specs.Connection.{kept}
use Rattle.tiny_http_connection.proofs.DrivingLemmas.{viewed}
use Rattle.tiny_http_connection.proofs.ConversationRuns.{conversation}
use Rattle.tiny_http_connection.proofs.driver.Connection.into_parts.Goals as goal

pub returns-clause-conversation : goal.returns-clause-conversation
returns-clause-conversation g c p client before steps replies =
    let q = c.self.inside in
    let o = q.outlet in
    let old = viewed q.profile q.source o q.pending q.end in
    let P : Sink → Type 0 = λ s. IsConversation p client before steps replies s o.held o.ended q.source.feed in
    rw (← c.self.view_is) (λ done. subst P c.facts.ensures.sink (conversation p client before o.sink o.held (kept old) o.ended done.items done.at replies steps done.profile refl refl c.facts.ensures.none c.facts.ensures.begins done.pipeline done.run done.represents done.memory))
