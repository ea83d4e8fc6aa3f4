-- Runs of calls of the table, and what they hand out. An `enter` that fails and a `take_late` that returns `None`
-- change no slot, so they are not steps.
use Rattle.std.specs.Prelude.{◌≡◌, ℕ, List, [], ◌∷◌, Option, Some, None, Ok, ⊤, slice_get}
use Rattle.std.specs.declared.time.Duration.{Duration}
use Rattle.tiny_http_waiting.specs.declared.wait_table.Slot.{Slot}
use Rattle.tiny_http_waiting.specs.WaitTable.{event_at, wait_at, leave_at, Enters, TakesLate}

-- a call of the table, by the token that it is for
pub data Step (T : Type 0) : Type 0 where
  -- `enter` returns this token
  Enter : (token : ℕ) → Step T
  Event : (token : ℕ) → Step T
  Wait : (token : ℕ) (item : T) (until : Duration) → Step T
  -- `take_late` returns this token
  Late : (token : ℕ) → Step T
  Leave : (token : ℕ) → Step T

module _ {T : Type 0} where
  -- the token that a call is for
  abbrev pub token_of : Step T → ℕ
  token_of (Enter token) = token
  token_of (Event token) = token
  token_of (Wait token item until) = token
  token_of (Late token) = token
  token_of (Leave token) = token

  -- whether this call hands out this item, or none, and changes the old slots to the new ones
  abbrev pub Takes : Step T → Option T → List (Slot T) → List (Slot T) → Type 0
  Takes (Enter token) out old new = (out ≡ None) × Enters old (Ok token) new
  Takes (Event token) out old new =
      ◌≡◌ {A = Option T × List (Slot T)} (out, new) (event_at (slice_get old token) token old)
  Takes (Wait token item until) out old new =
      ◌≡◌ {A = Option T × List (Slot T)} (out, new) (wait_at (slice_get old token) token item until old)
  Takes (Late token) out old new =
      (now : ℕ) × (item : T) × (out ≡ Some item) × TakesLate now old (Some (token, item)) new
  Takes (Leave token) out old new =
      ◌≡◌ {A = Option T × List (Slot T)} (out, new) (leave_at (slice_get old token) token old)

  -- whether these calls, one after another, change the old slots to the new ones; each is paired with what it hands out
  abbrev pub Run : List (Step T × Option T) → List (Slot T) → List (Slot T) → Type 0
  Run [] old new = new ≡ old
  Run ((step, out) ∷ steps) old new = (between : List (Slot T)) × Takes step out old between × Run steps between new

  -- whether this call is an event
  abbrev pub IsEvent : Step T → Type 0
  IsEvent (Enter token) = ⊥
  IsEvent (Event token) = ⊤
  IsEvent (Wait token item until) = ⊥
  IsEvent (Late token) = ⊥
  IsEvent (Leave token) = ⊥

  -- whether this call can end the service of a connection
  abbrev pub EndsService : Step T → Type 0
  EndsService (Enter token) = ⊥
  EndsService (Event token) = ⊥
  EndsService (Wait token item until) = ⊤
  EndsService (Late token) = ⊥
  EndsService (Leave token) = ⊤

  -- whether this call ends the wait of a connection
  abbrev pub EndsWait : Step T → Type 0
  EndsWait (Enter token) = ⊥
  EndsWait (Event token) = ⊤
  EndsWait (Wait token item until) = ⊥
  EndsWait (Late token) = ⊤
  EndsWait (Leave token) = ⊤

  -- whether each call for this token is an event
  abbrev pub OnlyEventsOf : ℕ → List (Step T × Option T) → Type 0
  OnlyEventsOf token [] = ⊤
  OnlyEventsOf token ((step, out) ∷ steps) = (token_of step ≡ token → IsEvent step) × OnlyEventsOf token steps

  -- whether no call can end the service of the connection with this token
  abbrev pub NoneEndsServiceOf : ℕ → List (Step T × Option T) → Type 0
  NoneEndsServiceOf token [] = ⊤
  NoneEndsServiceOf token ((step, out) ∷ steps) =
      (token_of step ≡ token → EndsService step → ⊥) × NoneEndsServiceOf token steps

  -- whether each call for this token is an event that hands out nothing
  abbrev pub HandsOutNothingOf : ℕ → List (Step T × Option T) → Type 0
  HandsOutNothingOf token [] = ⊤
  HandsOutNothingOf token ((step, out) ∷ steps) =
      (token_of step ≡ token → IsEvent step × (out ≡ None)) × HandsOutNothingOf token steps

  -- whether no call is for this token
  abbrev pub NoneOf : ℕ → List (Step T × Option T) → Type 0
  NoneOf token [] = ⊤
  NoneOf token ((step, out) ∷ steps) = (token_of step ≡ token → ⊥) × NoneOf token steps
