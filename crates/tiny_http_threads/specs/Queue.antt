-- A QUEUE: a list of marks, front first. A mark is a value, or None, which unblocks a waiting thread.
use Rattle.std.specs.Prelude.{◌≡◌, List, [], ◌∷◌, Option, Some, None}
use Rattle.tiny_http_threads.specs.declared.messages_queue.Popped.{Popped}
use Rattle.tiny_http_threads.specs.declared.messages_queue.Popped.TheVariants.{Value, Unblocked, Empty}

module _ {T : Type 0} where
  -- whether a pop takes the front mark and returns it, or reports that there is none
  abbrev pub Pops : List (Option T) → Popped T → List (Option T) → Type 0
  Pops old (Value x) new = old ≡ Some x ∷ new
  Pops old Unblocked new = old ≡ None ∷ new
  Pops old Empty new = (old ≡ []) × (new ≡ [])

  -- the result of a pop of a shared queue, given what the pop found: the value, or `None` for an unblock mark or an
  -- empty queue
  abbrev pub popped_value : Popped T → Option T
  popped_value (Value x) = Some x
  popped_value Unblocked = None
  popped_value Empty = None
