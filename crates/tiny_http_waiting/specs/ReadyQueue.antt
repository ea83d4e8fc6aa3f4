-- The queue of the tasks that are ready to be run.
use Rattle.std.specs.Prelude.{◌≡◌, ◌⊎◌, ℕ, ◌+◌, ◌-◌, ◌%◌, ◌^◌, ◌<◌, ◌≤◌, min, ⊤, List, [], ◌∷◌, ◌++◌, length}
use Rattle.std.specs.Prelude.{Some, slice_get, IfSome}
use Rattle.std.specs.List.{remove}
use Rattle.tiny_http_waiting.specs.declared.ready_queue.Turn.{Turn}
use Rattle.tiny_http_waiting.specs.declared.ready_queue.TheConstants.{MOST_OVERTAKING, GROUPS}

-- The parts of a `ReadyQueue` that contracts refer to: the tasks in order, and how many have been added so far (at most
-- 2^64 - 1).
pub record Ready (T : Type 0) : Type 0 where
  pub turns : List (Turn T)
  pub added : ℕ

module _ {T : Type 0} where
  -- a task is added at the back; its number says how many were added before it
  pub record Pushes (old : Ready T) (token : ℕ) (task : T) (new : Ready T) : Type 0 where
    pub turns : new.turns ≡ old.turns ++ (record { token = token; task = task; number = old.added } ∷ [])
    pub added : new.added ≡ min (old.added + 1) (2 ^ 64 - 1)

  -- whether a task was added at most MOST_OVERTAKING tasks after the first one
  abbrev pub IsSoon : List (Turn T) → Turn T → Type 0
  IsSoon [] turn = ⊤
  IsSoon (first ∷ rest) turn = turn.number ≤ first.number + MOST_OVERTAKING

  -- whether a worker prefers a task: their numbers are of one group
  abbrev pub IsPreferred : ℕ → Turn T → Type 0
  IsPreferred worker turn = turn.token % GROUPS ≡ worker % GROUPS

  -- whether the task at this place is there, is preferred, and was added soon after the first one
  pub record IsPreferredAt (worker : ℕ) (turns : List (Turn T)) (place : ℕ) : Type 0 where
    pub within : place < length turns
    pub soon : IfSome (slice_get turns place) (IsSoon turns)
    pub preferred : IfSome (slice_get turns place) (IsPreferred worker)

  -- one task is taken out, the first one or one that the worker prefers; the others stay, in their order
  pub record Pops (worker : ℕ) (old : Ready T) (turn : Turn T) (new : Ready T) : Type 0 where
    pub place : ℕ
    pub there : slice_get old.turns place ≡ Some turn
    pub rest : new.turns ≡ remove old.turns place
    pub added : new.added ≡ old.added
    pub soon : IsSoon old.turns turn
    pub preferred : (place ≡ 0) ⊎ IsPreferred worker turn
