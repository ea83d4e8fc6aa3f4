use Rattle.std.proofs.Common.{◌≡◌, true, false, sym, ap, ◌∙◌, [], ◌∷◌, length, length-append}
use Rattle.tiny_http_turns.specs.Turns.{Open}
use Rattle.tiny_http_connection.proofs.PendingLemmas.{leaves-issued}
use Rattle.tiny_http_connection.proofs.pending.PendingRefusalPlaceOutlet.refuse.Goals as goal

pub returns : goal.returns
returns g c =
    let e = c.in-Ok.ensures in
    let left = c.leave.ensures in
    record {
      leaves = λ yes can. leaves-issued c.args.self.now.turns.marks _ _ _ _ _ _ _ _ e.marks e.number (left.leaves c.args.self.now.turns.marks [] e.marks (sym e.number) can);
      counts = λ yes. left.counts ∙ (ap length e.marks ∙ length-append c.args.self.now.turns.marks (Open ∷ []));
      requests = λ yes. left.requests ∙ e.requests;
      bound = λ yes. rw left.requests e.bound;
      stays = λ no. (let none : true ≡ false = no in cc);
      fails_once = left.fails_once;
      flushed = left.flushed;
      sent_on = left.sent_on;
    }
