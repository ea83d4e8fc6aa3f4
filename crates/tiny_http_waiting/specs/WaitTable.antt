-- The table of the connections that wait or are served: the state of each token, and what each call does to it.
use Rattle.std.specs.Prelude.{◌≡◌, ◌⊎◌, ℕ, ◌<◌, ◌≤◌, ◌-◌, nat_le, if◌then◌else◌, true, false, List, [], ◌∷◌, ◌++◌}
use Rattle.std.specs.Prelude.{length, Option, Some, None, Result, Ok, Err, slice_get, slice_set, IfSome}
use Rattle.std.specs.Option.{option_map}
use Rattle.std.specs.declared.alloc.AllocError.{AllocError}
use Rattle.std.specs.declared.time.Duration.{Duration}
use Rattle.std.specs.Duration.{as_nanos}
use Rattle.tiny_http_waiting.specs.declared.wait_table.Slot.{Slot}
use Rattle.tiny_http_waiting.specs.declared.wait_table.Slot.TheVariants.{Free, Waiting, Served}

-- The parts of a `WaitTable` that contracts refer to: the state of each token, from token 0 on; and a time before which
-- no wait ends, or `None`, but only if no connection waits.
pub record Waits (T : Type 0) : Type 0 where
  pub slots : List (Slot T)
  pub earliest : Option Duration

-- the earlier of two times, or the second if there is no first
abbrev pub earlier : Option Duration → Duration → Duration
earlier None second = second
earlier (Some first) second = if nat_le (as_nanos first) (as_nanos second) then first else second

-- the nanoseconds from `now` to this time, 0 if it is over, or `None` if there is no time
abbrev pub nanos_left : ℕ → Option Duration → Option ℕ
nanos_left now earliest = option_map (λ time. as_nanos time - now) earliest

module _ {T : Type 0} where
  -- the table without connections
  abbrev pub nobody : Waits T
  nobody = record { slots = []; earliest = None }

  -- the state of a token after an event
  abbrev pub after_event : Slot T → Slot T
  after_event Free = Free
  after_event (Waiting item until) = Served false
  after_event (Served is_ready) = Served true

  -- the item of a connection that waits
  abbrev pub item_of : Slot T → Option T
  item_of Free = None
  item_of (Waiting item until) = Some item
  item_of (Served is_ready) = None

  -- the state after `wait`: the connection waits if it was served and no event had come
  abbrev pub after_wait : T → Duration → Slot T → Slot T
  after_wait item until Free = Free
  after_wait item until (Waiting other end) = Waiting other end
  after_wait item until (Served true) = Served false
  after_wait item until (Served false) = Waiting item until

  -- the item that `wait` hands back, unless it is stored
  abbrev pub item_at_wait : T → Slot T → Option T
  item_at_wait item Free = Some item
  item_at_wait item (Waiting other end) = Some item
  item_at_wait item (Served true) = Some item
  item_at_wait item (Served false) = None

  -- the result of `event`, and the slots after it
  abbrev pub event_at : Option (Slot T) → ℕ → List (Slot T) → Option T × List (Slot T)
  event_at None token slots = (None, slots)
  event_at (Some slot) token slots = (item_of slot, slice_set slots token (after_event slot))

  -- the result of `wait`, and the slots after it
  abbrev pub wait_at : Option (Slot T) → ℕ → T → Duration → List (Slot T) → Option T × List (Slot T)
  wait_at None token item until slots = (Some item, slots)
  wait_at (Some slot) token item until slots =
      (item_at_wait item slot, slice_set slots token (after_wait item until slot))

  -- the result of `leave`, and the slots after it
  abbrev pub leave_at : Option (Slot T) → ℕ → List (Slot T) → Option T × List (Slot T)
  leave_at None token slots = (None, slots)
  leave_at (Some slot) token slots = (item_of slot, slice_set slots token Free)

  -- whether `enter` returns this token, by the state of the token before
  abbrev pub EntersAt : Option (Slot T) → ℕ → List (Slot T) → List (Slot T) → Type 0
  EntersAt None token old new = (token ≡ length old) × (new ≡ old ++ Served false ∷ [])
  EntersAt (Some slot) token old new = (slot ≡ Free) × (new ≡ slice_set old token (Served false))

  -- Whether `enter` returns this result: a token that was free, or the next one, which is served then with no event
  -- kept; or an error, with nothing changed.
  abbrev pub Enters : List (Slot T) → Result ℕ AllocError → List (Slot T) → Type 0
  Enters old (Ok token) new = EntersAt (slice_get old token) token old new
  Enters old (Err e) new = new ≡ old

  -- whether the connection with this token waits until this time, with this item
  abbrev pub WaitsUntil : List (Slot T) → ℕ → T → Duration → Type 0
  WaitsUntil slots token item until = slice_get slots token ≡ Some (Waiting item until)

  -- whether no connection waits
  abbrev pub NoneWaits : List (Slot T) → Type 0
  NoneWaits slots = (token : ℕ) (item : T) (until : Duration) → WaitsUntil slots token item until → ⊥

  -- whether each wait ends at this time or later
  abbrev pub AllWaitUntil : ℕ → List (Slot T) → Type 0
  AllWaitUntil time slots = (token : ℕ) (item : T) (until : Duration)
      → WaitsUntil slots token item until → time ≤ as_nanos until

  -- whether no wait is over at `now`
  abbrev pub NoWaitIsOver : ℕ → List (Slot T) → Type 0
  NoWaitIsOver now slots = (token : ℕ) (item : T) (until : Duration)
      → WaitsUntil slots token item until → now < as_nanos until

  -- whether the connection with this token waits with this item, and its wait is over at `now`
  abbrev pub IsOver : ℕ → List (Slot T) → ℕ → T → Type 0
  IsOver now slots token item = (until : Duration) × WaitsUntil slots token item until × (as_nanos until ≤ now)

  -- Whether `take_late` returns this result at `now`: the token and the item of a connection whose wait is over, and
  -- which is served then with no event kept; or `None` if no wait is over.
  abbrev pub TakesLate : ℕ → List (Slot T) → Option (ℕ × T) → List (Slot T) → Type 0
  TakesLate now old None new = (new ≡ old) × NoWaitIsOver now old
  TakesLate now old (Some (token, item)) new =
      IsOver now old token item × (new ≡ slice_set old token (Served false))

  -- whether no wait ends before this time, or, for `None`, no connection waits
  abbrev pub NoWaitEndsBefore : Option Duration → List (Slot T) → Type 0
  NoWaitEndsBefore None slots = NoneWaits slots
  NoWaitEndsBefore (Some earliest) slots = AllWaitUntil (as_nanos earliest) slots

  -- `earliest` after a `wait` until this time with this result: the earlier of both if the item is stored
  abbrev pub earliest_at_wait : Option T → Duration → Option Duration → Option Duration
  earliest_at_wait None until earliest = Some (earlier earliest until)
  earliest_at_wait (Some item) until earliest = earliest

  -- whether some wait ends at this time
  abbrev pub SomeWaitEndsAt : Duration → List (Slot T) → Type 0
  SomeWaitEndsAt time slots = (token : ℕ) × (item : T) × WaitsUntil slots token item time

  -- whether the first wait ends at this time, or, for `None`, no connection waits
  abbrev pub IsFirstEnd : Option Duration → List (Slot T) → Type 0
  IsFirstEnd earliest slots =
      NoWaitEndsBefore earliest slots × IfSome earliest (λ time. SomeWaitEndsAt time slots)

  -- Whether `take_late` at `now` with this result changes `earliest` to this: it keeps it if it returns a connection.
  -- If it returns `None`, the time is after `now`, and is the old one or the end of the first wait.
  abbrev pub RenewsEarliest : ℕ → Option (ℕ × T) → Waits T → Option Duration → Type 0
  RenewsEarliest now None old new =
      IfSome new (λ time. now < as_nanos time) × ((new ≡ old.earliest) ⊎ IsFirstEnd new old.slots)
  RenewsEarliest now (Some late) old new = new ≡ old.earliest
