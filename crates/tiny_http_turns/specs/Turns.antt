-- THE TURN MACHINE: numbers that hold one item in order.
use Prim.Native.Nat.{suc}
use Rattle.std.specs.Global.{Vec}
use Rattle.std.specs.Prelude.{◌≡◌, ℕ, Bool, true, false, not, List, [], ◌∷◌, ◌++◌, length, map, replicate, Option}
use Rattle.std.specs.Prelude.{Some, None, is_some, slice_get, slice_set, ◌==◌, if◌then◌else◌}
use Rattle.tiny_http_turns.specs.declared.turns.Entry.{Entry}
use Rattle.tiny_http_turns.specs.declared.turns.Entry.TheVariants.{Open as IsOpen, Held as IsHeld, Left as IsLeft}

-- the state of a number
pub data Mark : Type 0 where
  Open : Mark
  Held : Mark
  Left : (text : List ℕ) → Mark
  Finished : Mark

-- the mark of a stored entry
abbrev pub mark_of : Entry → Mark
mark_of IsOpen = Open
mark_of IsHeld = Held
mark_of (IsLeft text) = Left text.items

-- the marks of `turn` finished numbers, then those of these entries
abbrev pub marks_of : ℕ → List Entry → List Mark
marks_of turn entries = replicate turn Finished ++ map mark_of entries

-- The parts of a `Turns` that contracts refer to: the marks of all numbers, and the item if no number holds it.
pub record TurnsState (T : Type 0) : Type 0 where
  pub marks : List Mark
  pub resting : Option T

-- the first unfinished number, or the next number to be issued if all are finished
abbrev pub first_unfinished : List Mark → ℕ
first_unfinished [] = 0
first_unfinished (Open ∷ marks) = 0
first_unfinished (Held ∷ marks) = 0
first_unfinished (Left text ∷ marks) = 0
first_unfinished (Finished ∷ marks) = suc (first_unfinished marks)

-- whether each number is open, or a text was left for it
abbrev pub AreOpenOrLeft : List Mark → Type 0
AreOpenOrLeft [] = Unit {0}
AreOpenOrLeft (Open ∷ marks) = AreOpenOrLeft marks
AreOpenOrLeft (Held ∷ marks) = ⊥
AreOpenOrLeft (Left text ∷ marks) = AreOpenOrLeft marks
AreOpenOrLeft (Finished ∷ marks) = ⊥

-- whether the finished numbers come first, only the first of the others may be held, and no text is left for that one
abbrev pub AreInShape : List Mark → Type 0
AreInShape [] = Unit {0}
AreInShape (Open ∷ marks) = AreOpenOrLeft marks
AreInShape (Held ∷ marks) = AreOpenOrLeft marks
AreInShape (Left text ∷ marks) = ⊥
AreInShape (Finished ∷ marks) = AreInShape marks

-- whether some number is held
abbrev pub is_any_held : List Mark → Bool
is_any_held [] = false
is_any_held (Open ∷ marks) = is_any_held marks
is_any_held (Held ∷ marks) = true
is_any_held (Left text ∷ marks) = is_any_held marks
is_any_held (Finished ∷ marks) = is_any_held marks

-- whether the marks are in shape, and the item is stored if, and only if, no number is held
pub record IsInOrder {T : Type 0} (turns : TurnsState T) : Type 0 where
  pub shape : AreInShape turns.marks
  pub rests : is_some turns.resting ≡ not (is_any_held turns.marks)

-- a call to a `Turns`, as a step
pub data TurnStep : Type 0 where
  Issue : TurnStep
  Take : (number : ℕ) → TurnStep
  PutBack : (number : ℕ) → TurnStep
  Finish : (number : ℕ) → TurnStep
  Leave : (number : ℕ) → (text : List ℕ) → TurnStep

-- the report of a step
pub data TurnAnswer : Type 0 where
  -- the number was issued
  Issued : (number : ℕ) → TurnAnswer
  -- the number is held now
  Taken : TurnAnswer
  -- the number was held and is open now
  Opened : TurnAnswer
  -- the number is finished now, and no text was left for the next one
  Passed : TurnAnswer
  -- the text waits for the number's turn
  Waits : TurnAnswer
  -- this number is held now, and this text, given or left for it, comes out
  Goes : (number : ℕ) → (text : List ℕ) → TurnAnswer
  -- the number isn't in the right state, its turn hasn't come, or it was never issued; nothing has changed
  Strange : TurnAnswer

-- the report of a step, and the marks after the step
abbrev pub TurnOutcome : Type 0
TurnOutcome = TurnAnswer × List Mark

-- the outcome of `Take`: an open number is held if all numbers before it are finished; otherwise the step is `Strange`
abbrev pub take_at : Option Mark → ℕ → List Mark → TurnOutcome
take_at None k marks = (Strange, marks)
take_at (Some Open) k marks = if k == first_unfinished marks then (Taken, slice_set marks k Held) else (Strange, marks)
take_at (Some Held) k marks = (Strange, marks)
take_at (Some (Left text)) k marks = (Strange, marks)
take_at (Some Finished) k marks = (Strange, marks)

-- the outcome of `PutBack`: a held number is open again; for any other number the step is `Strange`
abbrev pub put_back_at : Option Mark → ℕ → List Mark → TurnOutcome
put_back_at None k marks = (Strange, marks)
put_back_at (Some Open) k marks = (Strange, marks)
put_back_at (Some Held) k marks = (Opened, slice_set marks k Open)
put_back_at (Some (Left text)) k marks = (Strange, marks)
put_back_at (Some Finished) k marks = (Strange, marks)

-- the outcome when the turn comes to number k: if a text was left for it, it is held, and the text comes out; otherwise
-- no mark changes, and the step is `Passed`
abbrev pub pass_to : Option Mark → ℕ → List Mark → TurnOutcome
pass_to None k marks = (Passed, marks)
pass_to (Some Open) k marks = (Passed, marks)
pass_to (Some Held) k marks = (Passed, marks)
pass_to (Some (Left text)) k marks = (Goes k text, slice_set marks k Held)
pass_to (Some Finished) k marks = (Passed, marks)

-- whether the returned text is the one that this step reports for number `at`, or no text was returned and the step
-- reports `Passed`
abbrev pub ReportsPass : TurnAnswer → ℕ → Option (Vec ℕ) → Type 0
ReportsPass (Goes number text) at (Some with) = (number ≡ at) × (with.items ≡ text)
ReportsPass Passed at None = Unit {0}
ReportsPass _ at result = ⊥

-- the outcome of `Finish`: a held number is finished, and the turn passes to the next number; for any other number the
-- step is `Strange`
abbrev pub finish_at : Option Mark → ℕ → List Mark → TurnOutcome
finish_at None k marks = (Strange, marks)
finish_at (Some Open) k marks = (Strange, marks)
finish_at (Some Held) k marks = pass_to (slice_get marks (suc k)) (suc k) (slice_set marks k Finished)
finish_at (Some (Left text)) k marks = (Strange, marks)
finish_at (Some Finished) k marks = (Strange, marks)

-- the outcome of `Leave`: a text is left for an open number, or the number is held if its turn has come; for any other
-- number the step is `Strange`
abbrev pub leave_at : Option Mark → ℕ → List ℕ → List Mark → TurnOutcome
leave_at None k text marks = (Strange, marks)
leave_at (Some Open) k text marks =
    if k == first_unfinished marks then (Goes k text, slice_set marks k Held)
    else (Waits, slice_set marks k (Left text))
leave_at (Some Held) k text marks = (Strange, marks)
leave_at (Some (Left was)) k text marks = (Strange, marks)
leave_at (Some Finished) k text marks = (Strange, marks)

-- the outcome of a step: its report, and the marks after the step
abbrev pub turn_outcome : TurnStep → List Mark → TurnOutcome
turn_outcome Issue marks = (Issued (length marks), marks ++ Open ∷ [])
turn_outcome (Take k) marks = take_at (slice_get marks k) k marks
turn_outcome (PutBack k) marks = put_back_at (slice_get marks k) k marks
turn_outcome (Finish k) marks = finish_at (slice_get marks k) k marks
turn_outcome (Leave k text) marks = leave_at (slice_get marks k) k text marks

abbrev pub turn_answer : TurnStep → List Mark → TurnAnswer
turn_answer step marks = (turn_outcome step marks).0

abbrev pub marks_after_step : TurnStep → List Mark → List Mark
marks_after_step step marks = (turn_outcome step marks).1
