use Rattle.std.proofs.Common.{◌≡◌, ◌+◌, ◌-◌, ◌^◌, List, [], ◌∷◌, length, refl, sym, ap, ◌∙◌, arith}
use Rattle.std.proofs.lemmas.List.{length-append}
use Rattle.tiny_http_turns.specs.Turns.{Mark, Open}
use Rattle.tiny_http_threads.proofs.TurnQueueLemmas.{sound-issue}
use Rattle.tiny_http_threads.proofs.turn_queue.TurnQueueState.issue.Goals as goal

pub invariant_of-self : goal.invariant_of-self
invariant_of-self g c = (
  one_more ∙ sym (ap length c.in-Ok.ensures.marks ∙ length-append marks (Open ∷ [])),
  sound-issue (record { turns = c.self.inside.turns; waiting = c.self.inside.waiters.entries; last = c.self.inside.last; counter = c.self.inside.open; wants_room = c.self.inside.wants_room })
      (record { turns = c.issue.new.self; waiting = c.self.inside.waiters.entries; last = c.self.inside.last; counter = c.self.inside.open; wants_room = c.self.inside.wants_room })
      c.self.invariant.1 c.in-Ok.ensures.marks refl,
)
  where
    marks : List Mark
    marks = c.self.inside.turns.marks

    numbered : length marks ≡ c.in-Ok.number
    numbered = let h = c.in-Ok.ensures.number in cc

    some_left : length marks ≡ 2 ^ 64 - 1 → ⊥
    some_left e = let x = c.issue.ensures.exhausted.1 e in cc

    one_more : c.saturating_add-self-inside.result ≡ length marks + 1
    one_more = omega (arith, c.saturating_add-self-inside.ensures, numbered, some_left, c.self.invariant.0)
