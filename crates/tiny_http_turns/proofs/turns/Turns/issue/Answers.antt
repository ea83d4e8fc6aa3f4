use Rattle.tiny_http_turns.proofs.TurnsKept.{kept-issue, bound-push}
use Rattle.std.proofs.Common.{◌∙◌}
use Rattle.tiny_http_turns.proofs.turns.Turns.issue.Goals as goal
use Rattle.tiny_http_turns.proofs.turns.Turns.issue.Goals.{in-Ok, in-Err}

pub invariant_of-self : goal.invariant_of-self
invariant_of-self g c =
    let t = c.self.inside in
    let fits = bound-push t.turn c.len.result t.entries.items (c.len.ensures ∙ t.entries.ok.0) c.if-number.false c.self.invariant.1 in
    elim c.match-push_back.branch [
      | in-Ok w ↦ rw (c.push_back.ensures.items, w.in-Ok.is) (kept-issue t.turn t.entries.items 0 t.resting c.self.invariant.0, fits)
      | in-Err w ↦ rw (c.push_back.ensures.items, w.in-Err.is) c.self.invariant
    ]

pub returns-clause-in_order : goal.returns-clause-in_order
returns-clause-in_order g c =
    let t = c.self.inside in
    elim c.match-push_back.branch [
      | in-Ok w ↦ rw (c.push_back.ensures.items, w.in-Ok.is) (kept-issue t.turn t.entries.items 0 t.resting c.self.invariant.0)
      | in-Err w ↦ rw (c.push_back.ensures.items, w.in-Err.is) c.self.invariant.0
    ]
