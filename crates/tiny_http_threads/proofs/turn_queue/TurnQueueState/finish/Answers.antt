use Rattle.std.proofs.Common.{◌≡◌, refl}
use Rattle.tiny_http_turns.specs.declared.turns.Finishing.TheVariants.{Passed}
use Rattle.tiny_http_threads.proofs.TurnQueueLemmas.{count-finished, sound-not_passed}
use Rattle.tiny_http_threads.proofs.turn_queue.TurnQueueState.finish.Goals.{in-Passed, in_default}
use Rattle.tiny_http_threads.proofs.turn_queue.TurnQueueState.finish.Goals as goal

pub invariant_of-self-else-matches : goal.invariant_of-self-else-matches
invariant_of-self-else-matches g c = (
  count-finished c.self.inside.issued c.args.number _ _ c.self.invariant.0 c.finish-finishing.ensures.marks,
  sound-not_passed (record { turns = c.self.inside.turns; waiting = c.self.inside.waiters.entries; last = c.self.inside.last; counter = c.self.inside.open; wants_room = c.self.inside.wants_room })
      (record { turns = c.finish-finishing.new.self; waiting = c.self.inside.waiters.entries; last = c.self.inside.last; counter = c.self.inside.open; wants_room = c.self.inside.wants_room })
      c.self.invariant.1 c.finish-finishing.ensures.in_order c.args.number c.finish-finishing.ensures.marks c.args.item c.finish-finishing.result not_passed refl c.finish-finishing.ensures.item,
)
  where
    not_passed : c.finish-finishing.result ≡ Passed → ⊥
    not_passed e = elim c.match-matches.branch [ in-Passed w ↦ cc | in_default w ↦ w.in_default.not-Passed e ]
