use Rattle.std.proofs.Common.{refl}
use Rattle.tiny_http_threads.proofs.TurnQueueLemmas.{count-taken, sound-taken}
use Rattle.tiny_http_threads.proofs.turn_queue.TurnQueueState.take.Goals as goal

pub invariant_of-self : goal.invariant_of-self
invariant_of-self g c = (
  count-taken c.self.inside.issued c.args.number _ _ c.self.invariant.0 c.take.ensures.marks,
  sound-taken (record { turns = c.self.inside.turns; waiting = c.self.inside.waiters.entries; last = c.self.inside.last; counter = c.self.inside.open; wants_room = c.self.inside.wants_room })
      (record { turns = c.take.new.self; waiting = c.self.inside.waiters.entries; last = c.self.inside.last; counter = c.self.inside.open; wants_room = c.self.inside.wants_room })
      c.self.invariant.1 c.take.ensures.in_order c.args.number c.take.ensures.marks c.in-Some.item refl (rw (c.in-Some.is) at c.take.ensures.item),
)
