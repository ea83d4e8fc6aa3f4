-- A TURN QUEUE, under its lock: an item that numbers hold in turn, and the numbers whose threads wait.
use Rattle.std.specs.BTreeMap.{is_at}
use Rattle.std.specs.Global.{Box, Global}
use Rattle.std.specs.Map.{lookup}
use Rattle.std.specs.Ordering.{nat_cmp}
use Rattle.std.specs.Prelude.{◌≡◌, ◌≢◌, ℕ, ◌<◌, Bool, false, List, [], length, Option, Some, None, IsSome, option_map}
use Rattle.std.specs.Prelude.{box_value, slice_get}
use Rattle.std.specs.declared.sync.Arc.{Arc}
use Rattle.tiny_http_turns.specs.Turns.{TurnsState, Mark, Open, first_unfinished}
use Rattle.tiny_http_turns.specs.declared.turns.Finishing.{Finishing}
use Rattle.tiny_http_turns.specs.declared.turns.Finishing.TheVariants.{Passed, Go, Strange}
use Rattle.std.specs.declared.sync.Condvar.{Condvar}
use Rattle.tiny_http_threads.specs.declared.turn_queue.Taking.{Taking}
use Rattle.tiny_http_threads.specs.declared.turn_queue.Taking.TheVariants.{Held, Waits as IsWaiting, Refused}

-- The parts of a `TurnQueueState` that contracts refer to: the turns, with a mark for each issued number; the numbers
-- whose threads wait, and what wakes each; the last number that `issue_unless_closed` issued; the counter of unfinished
-- numbers; whether a thread waits for room.
pub record TurnQueueView (T W C : Type 0) : Type 0 where
  pub turns : TurnsState T
  pub waiting : List (ℕ × W)
  pub last : Option ℕ
  pub counter : Option C
  pub wants_room : Bool

-- whether it is the turn of this number: the number is open, and is the first unfinished one
abbrev pub IsItsTurn : List Mark → ℕ → Type 0
IsItsTurn marks n = (slice_get marks n ≡ Some Open) × (n ≡ first_unfinished marks)

-- the waker of the thread of this number, if the number waits
abbrev pub waker : {W : Type 0} → List (ℕ × W) → ℕ → Option W
waker waiting n = lookup (is_at (nat_cmp n)) waiting

-- Whether a turn queue is sound: each number that waits was issued, and its turn hasn't come.
pub record IsSoundTurnQueue {T W C : Type 0} (queue : TurnQueueView T W C) : Type 0 where
  pub issued : (n : ℕ) → IsSome (waker queue.waiting n) → n < length queue.turns.marks
  pub waits : (n : ℕ) → IsSome (waker queue.waiting n) → IsItsTurn queue.turns.marks n → ⊥

-- Whether a turn queue is new: no number holds its item, none has been issued, and everything else is empty.
pub record IsNewTurnQueue {T W C : Type 0} (item : T) (queue : TurnQueueView (Box T) W C) : Type 0 where
  pub rests : option_map box_value queue.turns.resting ≡ Some item
  pub marks : queue.turns.marks ≡ []
  pub waiting : queue.waiting ≡ []
  pub last : queue.last ≡ None
  pub counter : queue.counter ≡ None
  pub wants_room : queue.wants_room ≡ false

module _ {W : Type 0} where
  -- whether each number other than this one waits as it did before, or still doesn't wait
  abbrev pub OthersStay : ℕ → List (ℕ × W) → List (ℕ × W) → Type 0
  OthersStay number old new = (n : ℕ) → n ≢ number → waker new n ≡ waker old n

  -- whether a call that finishes a number with this result wakes the thread of the number `next`: if no number then
  -- holds the item (`Passed`), the call returns what wakes that thread, if it waits, and `next` no longer waits;
  -- otherwise it wakes no thread
  abbrev pub WakesNext : {U : Type 0} → Finishing U → ℕ → List (ℕ × W) → Option W → List (ℕ × W) → Type 0
  WakesNext Passed next old woken new = (woken ≡ waker old next) × (waker new next ≡ None) × OthersStay next old new
  WakesNext (Go item text) next old woken new = (woken ≡ None) × (new ≡ old)
  WakesNext (Strange item) next old woken new = (woken ≡ None) × (new ≡ old)

-- the item that a request for a turn returned if the number is held, and otherwise `None`
abbrev pub taken_item : {T : Type 0} → Taking T → Option (Box T)
taken_item (Held item) = Some item
taken_item (IsWaiting woken) = None
taken_item Refused = None

-- Whether a number that must wait is listed afterwards. Nothing changes if the number was listed before, needn't wait
-- or is refused; no other number is affected. No clause states that its thread waits on the listed condition: to
-- contracts all conditions are equal.
abbrev pub ListsWaiter : {T : Type 0} → Taking T → ℕ → List (ℕ × Arc Condvar Global) → List (ℕ × Arc Condvar Global)
    → Type 0
ListsWaiter (Held item) number old new = new ≡ old
ListsWaiter (IsWaiting woken) number old new =
    IsSome (waker new number) × (IsSome (waker old number) → new ≡ old) × OthersStay number old new
ListsWaiter Refused number old new = new ≡ old
