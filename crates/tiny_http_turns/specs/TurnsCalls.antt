-- The results and effects of the calls to `Turns`, in terms of the steps of the turn machine.
use Rattle.std.specs.Global.{Vec}
use Rattle.std.specs.Prelude.{◌≡◌, ℕ, [], Option, Some, None, IsSome, Result, Ok, Err}
use Rattle.tiny_http_turns.specs.Turns.{TurnsState, TurnAnswer, Taken, Opened, Passed, Waits, Goes, Strange}
use Rattle.tiny_http_turns.specs.declared.turns.Finishing.{Finishing}
use Rattle.tiny_http_turns.specs.declared.turns.Finishing.TheVariants.{Passed as IsPassed, Go as FinishGo}
use Rattle.tiny_http_turns.specs.declared.turns.Finishing.TheVariants.{Strange as FinishStrange}
use Rattle.tiny_http_turns.specs.declared.turns.Leaving.{Leaving}
use Rattle.tiny_http_turns.specs.declared.turns.Leaving.TheVariants.{Left as IsLeft, Go as LeaveGo}
use Rattle.tiny_http_turns.specs.declared.turns.Leaving.TheVariants.{Strange as LeaveStrange}

module _ {T : Type 0} where
  -- the state of a new `Turns`: no number is issued, and the item is stored
  abbrev pub new_turns : T → TurnsState T
  new_turns item = record { marks = []; resting = Some item }

  -- the effect of `take`, according to what the step reports. `Taken`: the stored item was taken out and returned.
  -- `Strange`: `None` was returned, and nothing has changed.
  abbrev pub TakesTurn : TurnAnswer → Option T → Option T → Option T → Type 0
  TakesTurn Taken old result new = (result ≡ old) × IsSome result × (new ≡ None)
  TakesTurn Strange old result new = (result ≡ None) × (new ≡ old)
  TakesTurn _ old result new = ⊥

  -- the effect of `put_back`, according to what the step reports. `Opened`: the item was stored. `Strange`: the item
  -- was returned, and nothing has changed.
  abbrev pub PutsBack : {U : Type 0} → TurnAnswer → T → Option T → Result U T → Option T → Type 0
  PutsBack Opened item old (Ok done) new = new ≡ Some item
  PutsBack Strange item old (Err back) new = (back ≡ item) × (new ≡ old)
  PutsBack _ item old result new = ⊥

  -- the effect of `finish`, according to what the step reports. `Passed`: the item was stored. `Goes`: the item was
  -- returned with the text left for the next number. `Strange`: the item was returned, and nothing has changed.
  abbrev pub Finishes : TurnAnswer → T → Option T → Finishing T → Option T → Type 0
  Finishes Passed item old IsPassed new = new ≡ Some item
  Finishes (Goes number text) item old (FinishGo on with) new = (on ≡ item) × (with.items ≡ text) × (new ≡ None)
  Finishes Strange item old (FinishStrange back) new = (back ≡ item) × (new ≡ old)
  Finishes _ item old result new = ⊥

  -- the effect of `leave`, according to what the step reports. `Waits`: the text was kept. `Goes`: the text was
  -- returned with the stored item, which was taken out. `Strange`: the text was returned, and nothing has changed.
  abbrev pub LeavesTurn : TurnAnswer → Option T → Leaving T → Option T → Type 0
  LeavesTurn Waits old IsLeft new = new ≡ old
  LeavesTurn (Goes number text) old (LeaveGo item back) new = (old ≡ Some item) × (back.items ≡ text) × (new ≡ None)
  LeavesTurn Strange old (LeaveStrange back) new = new ≡ old
  LeavesTurn _ old result new = ⊥

  -- whether the text that `leave` returned, if it returned one, is the one that it was given
  abbrev pub GivesBack : Leaving T → Vec ℕ → Type 0
  GivesBack IsLeft given = Unit {0}
  GivesBack (LeaveGo item back) given = back ≡ given
  GivesBack (LeaveStrange back) given = back ≡ given
