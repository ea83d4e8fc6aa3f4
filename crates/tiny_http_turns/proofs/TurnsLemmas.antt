-- What each step of the turn machine does to the shape of the marks.
use Prim.Native.Nat.{zero, suc}
use Rattle.std.proofs.Common.{◌≡◌, ◌≢◌, ℕ, Bool, true, false, List, [], ◌∷◌, ◌++◌, Some, None, refl, ap, arith, sym, ◌∙◌}
use Rattle.std.specs.Prelude.{slice_get, slice_set, Option}
use Rattle.tiny_http_turns.specs.Turns.{Mark, Open, Held, Left, Finished, first_unfinished, AreOpenOrLeft, AreInShape, is_any_held, TurnOutcome, Passed, Goes, pass_to, turn_answer}

-- the marks went on: where the first unfinished number is now, and whether a number was held and is held
pub record Moved (old new : List Mark) (turn : ℕ) (was is : Bool) : Type 0 where
  pub shape : AreInShape new
  pub turn_is : first_unfinished new ≡ turn
  pub was_held : is_any_held old ≡ was
  pub is_held : is_any_held new ≡ is

pub waiting-none_held : (marks : List Mark) → AreOpenOrLeft marks → is_any_held marks ≡ false
waiting-none_held [] w = refl
waiting-none_held (Open ∷ marks) w = waiting-none_held marks w
waiting-none_held (Held ∷ marks) w = absurd w
waiting-none_held (Left text ∷ marks) w = waiting-none_held marks w
waiting-none_held (Finished ∷ marks) w = absurd w

pub waiting-push : (marks : List Mark) → AreOpenOrLeft marks → AreOpenOrLeft (marks ++ Open ∷ [])
waiting-push [] w = tt
waiting-push (Open ∷ marks) w = waiting-push marks w
waiting-push (Held ∷ marks) w = absurd w
waiting-push (Left text ∷ marks) w = waiting-push marks w
waiting-push (Finished ∷ marks) w = absurd w

-- one that waits is left
pub waiting-left : (marks : List Mark) (k : ℕ) (text : List ℕ) → AreOpenOrLeft marks → AreOpenOrLeft (slice_set marks k (Left text))
waiting-left [] k text w = tt
waiting-left (Open ∷ marks) zero text w = w
waiting-left (Open ∷ marks) (suc k) text w = waiting-left marks k text w
waiting-left (Held ∷ marks) k text w = absurd w
waiting-left (Left was ∷ marks) zero text w = w
waiting-left (Left was ∷ marks) (suc k) text w = waiting-left marks k text w
waiting-left (Finished ∷ marks) k text w = absurd w

pub waiting-not_held : (marks : List Mark) (k : ℕ) → AreOpenOrLeft marks → slice_get marks k ≢ Some Held
waiting-not_held [] k w e = cc
waiting-not_held (Open ∷ marks) zero w e = cc
waiting-not_held (Open ∷ marks) (suc k) w e = waiting-not_held marks k w e
waiting-not_held (Held ∷ marks) k w e = absurd w
waiting-not_held (Left text ∷ marks) zero w e = cc
waiting-not_held (Left text ∷ marks) (suc k) w e = waiting-not_held marks k w e
waiting-not_held (Finished ∷ marks) k w e = absurd w

-- the number that is held is the first unfinished one
pub held-first_unfinished : (marks : List Mark) (k : ℕ) → AreInShape marks → slice_get marks k ≡ Some Held → k ≡ first_unfinished marks
held-first_unfinished [] k s e = cc
held-first_unfinished (Open ∷ marks) zero s e = refl
held-first_unfinished (Open ∷ marks) (suc k) s e = absurd (waiting-not_held marks k s e)
held-first_unfinished (Held ∷ marks) zero s e = refl
held-first_unfinished (Held ∷ marks) (suc k) s e = absurd (waiting-not_held marks k s e)
held-first_unfinished (Left text ∷ marks) k s e = absurd s
held-first_unfinished (Finished ∷ marks) zero s e = cc
held-first_unfinished (Finished ∷ marks) (suc k) s e = ap suc (held-first_unfinished marks k s e)

pub moved-issue : (marks : List Mark) → AreInShape marks → Moved marks (marks ++ Open ∷ []) (first_unfinished marks) (is_any_held marks) (is_any_held marks)
moved-issue [] s = record { shape = tt; turn_is = refl; was_held = refl; is_held = refl }
moved-issue (Open ∷ marks) s =
    record { shape = waiting-push marks s; turn_is = refl; was_held = refl; is_held = waiting-none_held (marks ++ Open ∷ []) (waiting-push marks s) ∙ sym (waiting-none_held marks s) }
moved-issue (Held ∷ marks) s = record { shape = waiting-push marks s; turn_is = refl; was_held = refl; is_held = refl }
moved-issue (Left text ∷ marks) s = absurd s
moved-issue (Finished ∷ marks) s =
    let m = moved-issue marks s in
    record { shape = m.shape; turn_is = ap suc m.turn_is; was_held = refl; is_held = m.is_held }

-- the first unfinished number, which was open, is held
pub moved-hold : (marks : List Mark) (k : ℕ) → AreInShape marks → slice_get marks k ≡ Some Open → k ≡ first_unfinished marks → Moved marks (slice_set marks k Held) (first_unfinished marks) false true
moved-hold [] k s e t = cc
moved-hold (Open ∷ marks) zero s e t = record { shape = s; turn_is = refl; was_held = waiting-none_held marks s; is_held = refl }
moved-hold (Open ∷ marks) (suc k) s e t = absurd (omega (arith, t))
moved-hold (Held ∷ marks) zero s e t = cc
moved-hold (Held ∷ marks) (suc k) s e t = absurd (omega (arith, t))
moved-hold (Left text ∷ marks) k s e t = absurd s
moved-hold (Finished ∷ marks) zero s e t = cc
moved-hold (Finished ∷ marks) (suc k) s e t =
    let m = moved-hold marks k s e (omega (arith, t)) in
    record { shape = m.shape; turn_is = ap suc m.turn_is; was_held = m.was_held; is_held = m.is_held }

-- a held number is open again
pub moved-open : (marks : List Mark) (k : ℕ) → AreInShape marks → slice_get marks k ≡ Some Held → Moved marks (slice_set marks k Open) (first_unfinished marks) true false
moved-open [] k s e = cc
moved-open (Open ∷ marks) zero s e = cc
moved-open (Open ∷ marks) (suc k) s e = absurd (waiting-not_held marks k s e)
moved-open (Held ∷ marks) zero s e = record { shape = s; turn_is = refl; was_held = refl; is_held = waiting-none_held marks s }
moved-open (Held ∷ marks) (suc k) s e = absurd (waiting-not_held marks k s e)
moved-open (Left text ∷ marks) k s e = absurd s
moved-open (Finished ∷ marks) zero s e = cc
moved-open (Finished ∷ marks) (suc k) s e =
    let m = moved-open marks k s e in
    record { shape = m.shape; turn_is = ap suc m.turn_is; was_held = m.was_held; is_held = m.is_held }

-- a number whose turn has not come is left
pub moved-left : (marks : List Mark) (k : ℕ) (text : List ℕ) → AreInShape marks → k ≢ first_unfinished marks → slice_get marks k ≡ Some Open → Moved marks (slice_set marks k (Left text)) (first_unfinished marks) (is_any_held marks) (is_any_held marks)
moved-left [] k text s ne e = cc
moved-left (Open ∷ marks) zero text s ne e = absurd (ne refl)
moved-left (Open ∷ marks) (suc k) text s ne e =
    record { shape = waiting-left marks k text s; turn_is = refl; was_held = refl; is_held = waiting-none_held (slice_set marks k (Left text)) (waiting-left marks k text s) ∙ sym (waiting-none_held marks s) }
moved-left (Held ∷ marks) zero text s ne e = cc
moved-left (Held ∷ marks) (suc k) text s ne e = record { shape = waiting-left marks k text s; turn_is = refl; was_held = refl; is_held = refl }
moved-left (Left was ∷ marks) k text s ne e = absurd s
moved-left (Finished ∷ marks) zero text s ne e = cc
moved-left (Finished ∷ marks) (suc k) text s ne e =
    let m = moved-left marks k text s (λ q. ne (ap suc q)) e in
    record { shape = m.shape; turn_is = ap suc m.turn_is; was_held = refl; is_held = m.is_held }

-- what is reported, and the marks, once the turn has passed from a number that was held
abbrev pub Passed_on : List Mark → ℕ → TurnOutcome → Type 0
Passed_on old turn (Goes number text, new) = (number ≡ turn) × Moved old new turn true true
Passed_on old turn (Passed, new) = Moved old new turn true false
Passed_on old turn (turn_answer, new) = ⊥

-- the same one further on
one_on : (old : List Mark) (turn : ℕ) (marks : List Mark) (o : Option Mark) → Passed_on old turn (pass_to o turn marks) → Passed_on (Finished ∷ old) (suc turn) (pass_to o (suc turn) (Finished ∷ marks))
one_on old turn marks None p =
    record { shape = p.shape; turn_is = ap suc p.turn_is; was_held = p.was_held; is_held = p.is_held }
one_on old turn marks (Some Open) p =
    record { shape = p.shape; turn_is = ap suc p.turn_is; was_held = p.was_held; is_held = p.is_held }
one_on old turn marks (Some Held) p =
    record { shape = p.shape; turn_is = ap suc p.turn_is; was_held = p.was_held; is_held = p.is_held }
one_on old turn marks (Some (Left text)) p =
    (refl, record { shape = p.1.shape; turn_is = ap suc p.1.turn_is; was_held = p.1.was_held; is_held = p.1.is_held })
one_on old turn marks (Some Finished) p =
    record { shape = p.shape; turn_is = ap suc p.turn_is; was_held = p.was_held; is_held = p.is_held }

-- right after the number that was held
next_on : (marks : List Mark) → AreOpenOrLeft marks → Passed_on (Held ∷ marks) 1 (pass_to (slice_get marks 0) 1 (Finished ∷ marks))
next_on [] w = record { shape = tt; turn_is = refl; was_held = refl; is_held = refl }
next_on (Open ∷ marks) w = record { shape = w; turn_is = refl; was_held = refl; is_held = waiting-none_held marks w }
next_on (Held ∷ marks) w = absurd w
next_on (Left text ∷ marks) w = (refl, record { shape = w; turn_is = refl; was_held = refl; is_held = refl })
next_on (Finished ∷ marks) w = absurd w

-- a held number is finished
pub moved-finish : (marks : List Mark) (k : ℕ) → AreInShape marks → slice_get marks k ≡ Some Held → Passed_on marks (suc k) (pass_to (slice_get marks (suc k)) (suc k) (slice_set marks k Finished))
moved-finish [] k s e = cc
moved-finish (Open ∷ marks) zero s e = cc
moved-finish (Open ∷ marks) (suc k) s e = absurd (waiting-not_held marks k s e)
moved-finish (Held ∷ marks) zero s e = next_on marks s
moved-finish (Held ∷ marks) (suc k) s e = absurd (waiting-not_held marks k s e)
moved-finish (Left text ∷ marks) k s e = absurd s
moved-finish (Finished ∷ marks) zero s e = cc
moved-finish (Finished ∷ marks) (suc k) s e = one_on marks (suc k) (slice_set marks k Finished) (slice_get marks (suc k)) (moved-finish marks k s e)
