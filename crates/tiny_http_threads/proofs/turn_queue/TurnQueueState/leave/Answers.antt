use Rattle.std.proofs.Common.{refl}
use Rattle.tiny_http_threads.proofs.TurnQueueLemmas.{count-left, sound-leave}
use Rattle.tiny_http_threads.proofs.turn_queue.TurnQueueState.leave.Goals as goal

pub invariant_of-self : goal.invariant_of-self
invariant_of-self g c = (
  count-left c.self.inside.issued c.args.number c.args.text.items _ _ c.self.invariant.0 c.leave.ensures.marks,
  sound-leave (record { turns = c.self.inside.turns; waiting = c.self.inside.waiters.entries; last = c.self.inside.last; counter = c.self.inside.open; wants_room = c.self.inside.wants_room })
      (record { turns = c.leave.new.self; waiting = c.self.inside.waiters.entries; last = c.self.inside.last; counter = c.self.inside.open; wants_room = c.self.inside.wants_room })
      c.self.invariant.1 c.leave.ensures.in_order c.args.number c.args.text.items c.leave.result refl c.leave.ensures.marks c.leave.ensures.item,
)
