-- What the steps of the turn machine do to whose turn it is, and to the numbers that wait.
use Prim.Native.Nat.{zero, suc}
use Rattle.std.proofs.Common.{◌≡◌, ◌≢◌, ℕ, ◌+◌, ◌<◌, Bool, true, false, List, [], ◌∷◌, ◌++◌, length, Some, None, refl, ap, arith, sym, ◌∙◌, subst, ⊎_elim}
use Rattle.std.specs.Prelude.{slice_get, slice_set, Option, is_some, IsSome, ◌==◌, if◌then◌else◌, not}
use Rattle.std.specs.Global.{Vec}
use Rattle.std.proofs.lemmas.Bool.{cases_eq}
use Rattle.std.proofs.lemmas.List.{length-set, length-append}
use Rattle.tiny_http_turns.specs.Turns.{Mark, Open, Held, Left, Finished, TurnsState, IsInOrder, AreInShape, is_any_held, first_unfinished, TurnAnswer, Issued, Taken, Opened, Passed, Waits, Goes, Strange, TurnOutcome, turn_answer, marks_after_step, take_at, leave_at, finish_at, pass_to, Take, Leave, Finish}
use Rattle.tiny_http_turns.specs.TurnsCalls.{TakesTurn, LeavesTurn, Finishes}
use Rattle.tiny_http_turns.specs.declared.turns.Finishing.{Finishing}
use Rattle.tiny_http_turns.specs.declared.turns.Finishing.TheVariants.{Passed as IsPassed, Go as FinishGo, Strange as FinishStrange}
use Rattle.tiny_http_turns.specs.declared.turns.Leaving.{Leaving}
use Rattle.tiny_http_turns.specs.declared.turns.Leaving.TheVariants.{Left as IsLeft, Go as LeaveGo, Strange as LeaveStrange}
use Rattle.tiny_http_turns.proofs.TurnsLemmas.{waiting-none_held}
use Rattle.tiny_http_threads.specs.TurnQueue.{TurnQueueView, IsSoundTurnQueue, IsItsTurn, waker}

-- ---- one mark more
get-push : (marks : List Mark) (m : Mark) (n : ℕ) → n < length marks → slice_get (marks ++ m ∷ []) n ≡ slice_get marks n
get-push [] m n lt = absurd (omega (arith, lt))
get-push (x ∷ marks) m zero lt = refl
get-push (x ∷ marks) m (suc n) lt = get-push marks m n (omega (arith, lt))

first-push : (marks : List Mark) → first_unfinished (marks ++ Open ∷ []) ≡ first_unfinished marks
first-push [] = refl
first-push (Open ∷ marks) = refl
first-push (Held ∷ marks) = refl
first-push (Left text ∷ marks) = refl
first-push (Finished ∷ marks) = ap suc (first-push marks)

pub turn-issue : (marks : List Mark) (n : ℕ) → n < length marks → IsItsTurn (marks ++ Open ∷ []) n → IsItsTurn marks n
turn-issue marks n lt turn = (sym (get-push marks Open n lt) ∙ turn.0, turn.1 ∙ first-push marks)

-- ---- a mark that is set
get-set_other : (marks : List Mark) (k n : ℕ) (m : Mark) → n ≢ k → slice_get (slice_set marks k m) n ≡ slice_get marks n
get-set_other [] k n m ne = refl
get-set_other (x ∷ marks) zero zero m ne = absurd (ne refl)
get-set_other (x ∷ marks) zero (suc n) m ne = refl
get-set_other (x ∷ marks) (suc k) zero m ne = refl
get-set_other (x ∷ marks) (suc k) (suc n) m ne = get-set_other marks k n m (λ e. ne (ap suc e))

-- an open number is left: it is open no more, and the first unfinished one is the same
left-not_open : (marks : List Mark) (k : ℕ) (text : List ℕ) → slice_get (slice_set marks k (Left text)) k ≢ Some Open
left-not_open [] k text e = cc
left-not_open (x ∷ marks) zero text e = cc
left-not_open (x ∷ marks) (suc k) text e = left-not_open marks k text e

first-left : (marks : List Mark) (k : ℕ) (text : List ℕ) → slice_get marks k ≡ Some Open → first_unfinished (slice_set marks k (Left text)) ≡ first_unfinished marks
first-left [] k text e = cc
first-left (Open ∷ marks) zero text e = refl
first-left (Open ∷ marks) (suc k) text e = refl
first-left (Held ∷ marks) zero text e = cc
first-left (Held ∷ marks) (suc k) text e = refl
first-left (Left was ∷ marks) zero text e = refl
first-left (Left was ∷ marks) (suc k) text e = refl
first-left (Finished ∷ marks) zero text e = cc
first-left (Finished ∷ marks) (suc k) text e = ap suc (first-left marks k text e)

turn-left : (marks : List Mark) (k : ℕ) (text : List ℕ) → slice_get marks k ≡ Some Open → (n : ℕ) → IsItsTurn (slice_set marks k (Left text)) n → IsItsTurn marks n
turn-left marks k text is_open n turn = (sym (get-set_other marks k n (Left text) apart) ∙ turn.0, turn.1 ∙ first-left marks k text is_open)
  where
    apart : n ≢ k
    apart e = left-not_open marks k text (subst (λ j. slice_get (slice_set marks k (Left text)) j ≡ Some Open) e turn.0)

-- ---- the item is held
held-not_open : (marks : List Mark) → AreInShape marks → is_any_held marks ≡ true → (n : ℕ) → IsItsTurn marks n → ⊥
held-not_open [] shape held n turn = cc
held-not_open (Open ∷ marks) shape held n turn = let none = waiting-none_held marks shape in cc
held-not_open (Held ∷ marks) shape held zero turn = let e = turn.0 in cc
held-not_open (Held ∷ marks) shape held (suc n) turn = let e = turn.1 in cc
held-not_open (Left text ∷ marks) shape held n turn = absurd shape
held-not_open (Finished ∷ marks) shape held zero turn = let e = turn.1 in cc
held-not_open (Finished ∷ marks) shape held (suc n) turn = held-not_open marks shape held n (turn.0, omega (arith, turn.1))

held-if_none : (b : Bool) → false ≡ not b → b ≡ true
held-if_none true e = refl
held-if_none false e = cc

module _ {T : Type 0} where
  -- it is no number's turn while another holds the item
  pub turn-held : (turns : TurnsState T) → IsInOrder turns → turns.resting ≡ None → (n : ℕ) → IsItsTurn turns.marks n → ⊥
  turn-held turns order none n turn = held-not_open turns.marks order.shape (held-if_none (is_any_held turns.marks) (sym (ap is_some none) ∙ order.rests)) n turn

-- what becomes of an open number, whose turn has come or hasn't
abbrev take_open : Bool → ℕ → List Mark → TurnOutcome
take_open b k marks = if b then (Taken, slice_set marks k Held) else (Strange, marks)

abbrev leave_open : Bool → ℕ → List ℕ → List Mark → TurnOutcome
leave_open b k text marks = if b then (Goes k text, slice_set marks k Held) else (Waits, slice_set marks k (Left text))

-- ---- as many marks
length-take : (o : Option Mark) (k : ℕ) (marks : List Mark) → length (take_at o k marks).1 ≡ length marks
length-take None k marks = refl
length-take (Some Open) k marks = by (k == first_unfinished marks)
  where
    by : (b : Bool) → length (take_open b k marks).1 ≡ length marks
    by true = length-set marks k Held
    by false = refl
length-take (Some Held) k marks = refl
length-take (Some (Left text)) k marks = refl
length-take (Some Finished) k marks = refl

length-leave : (o : Option Mark) (k : ℕ) (text : List ℕ) (marks : List Mark) → length (leave_at o k text marks).1 ≡ length marks
length-leave None k text marks = refl
length-leave (Some Open) k text marks = by (k == first_unfinished marks)
  where
    by : (b : Bool) → length (leave_open b k text marks).1 ≡ length marks
    by true = length-set marks k Held
    by false = length-set marks k (Left text)
length-leave (Some Held) k text marks = refl
length-leave (Some (Left was)) k text marks = refl
length-leave (Some Finished) k text marks = refl

length-pass : (o : Option Mark) (k : ℕ) (marks : List Mark) → length (pass_to o k marks).1 ≡ length marks
length-pass None k marks = refl
length-pass (Some Open) k marks = refl
length-pass (Some Held) k marks = refl
length-pass (Some (Left text)) k marks = length-set marks k Held
length-pass (Some Finished) k marks = refl

length-finish : (o : Option Mark) (k : ℕ) (marks : List Mark) → length (finish_at o k marks).1 ≡ length marks
length-finish None k marks = refl
length-finish (Some Open) k marks = refl
length-finish (Some Held) k marks = length-pass (slice_get marks (suc k)) (suc k) (slice_set marks k Finished) ∙ length-set marks k Finished
length-finish (Some (Left text)) k marks = refl
length-finish (Some Finished) k marks = refl

-- a step that neither issues a number nor loses one leaves as many marks
pub count-taken : (issued k : ℕ) (old new : List Mark) → issued ≡ length old → new ≡ marks_after_step (Take k) old → issued ≡ length new
count-taken issued k old new count marks = count ∙ sym (ap length marks ∙ length-take (slice_get old k) k old)

pub count-left : (issued k : ℕ) (text : List ℕ) (old new : List Mark) → issued ≡ length old → new ≡ marks_after_step (Leave k text) old → issued ≡ length new
count-left issued k text old new count marks = count ∙ sym (ap length marks ∙ length-leave (slice_get old k) k text old)

pub count-finished : (issued k : ℕ) (old new : List Mark) → issued ≡ length old → new ≡ marks_after_step (Finish k) old → issued ≡ length new
count-finished issued k old new count marks = count ∙ sym (ap length marks ∙ length-finish (slice_get old k) k old)

-- ---- the steps
module _ {T : Type 0} where
  -- the item was taken
  taken-none : (a : TurnAnswer) (old new : Option T) (item : T) → TakesTurn a old (Some item) new → new ≡ None
  taken-none (Issued k) old new item takes = absurd takes
  taken-none Taken old new item takes = takes.2
  taken-none Opened old new item takes = absurd takes
  taken-none Passed old new item takes = absurd takes
  taken-none Waits old new item takes = absurd takes
  taken-none (Goes k text) old new item takes = absurd takes
  taken-none Strange old new item takes = let e = takes.0 in cc

  -- it was not, and the marks are the same
  untaken : (o : Option Mark) (k : ℕ) (marks : List Mark) (old new : Option T) → TakesTurn (take_at o k marks).0 old None new → (take_at o k marks).1 ≡ marks
  untaken None k marks old new takes = refl
  untaken (Some Open) k marks old new takes = by (k == first_unfinished marks) takes
    where
      by : (b : Bool) → TakesTurn (take_open b k marks).0 old None new → (take_open b k marks).1 ≡ marks
      by true h = let none = h.1 in cc
      by false h = refl
  untaken (Some Held) k marks old new takes = refl
  untaken (Some (Left text)) k marks old new takes = refl
  untaken (Some Finished) k marks old new takes = refl

  -- a number that is left gives no other its turn
  left-turn : (o : Option Mark) (k : ℕ) (text : List ℕ) (old new : TurnsState T) (r : Leaving T) → slice_get old.marks k ≡ o → IsInOrder new
      → new.marks ≡ (leave_at o k text old.marks).1 → LeavesTurn (leave_at o k text old.marks).0 old.resting r new.resting → (n : ℕ) → IsItsTurn new.marks n → IsItsTurn old.marks n
  left-turn None k text old new r is order marks leaves n turn = subst (λ ms. IsItsTurn ms n) marks turn
  left-turn (Some Open) k text old new r is order marks leaves n turn = by (k == first_unfinished old.marks) r marks leaves
    where
      by : (b : Bool) (r : Leaving T) → new.marks ≡ (leave_open b k text old.marks).1
          → LeavesTurn (leave_open b k text old.marks).0 old.resting r new.resting → IsItsTurn old.marks n
      by true IsLeft m l = absurd l
      by true (LeaveGo item back) m l = absurd (turn-held new order l.2 n turn)
      by true (LeaveStrange back) m l = absurd l
      by false r m l = turn-left old.marks k text is n (subst (λ ms. IsItsTurn ms n) m turn)
  left-turn (Some Held) k text old new r is order marks leaves n turn = subst (λ ms. IsItsTurn ms n) marks turn
  left-turn (Some (Left was)) k text old new r is order marks leaves n turn = subst (λ ms. IsItsTurn ms n) marks turn
  left-turn (Some Finished) k text old new r is order marks leaves n turn = subst (λ ms. IsItsTurn ms n) marks turn

  -- a number that isn't held finishes nothing
  unfinished : (o : Option Mark) (k : ℕ) (marks : List Mark) (item back : T) (old new : Option T) → Finishes (finish_at o k marks).0 item old (FinishStrange back) new → (finish_at o k marks).1 ≡ marks
  unfinished None k marks item back old new h = refl
  unfinished (Some Open) k marks item back old new h = refl
  unfinished (Some Held) k marks item back old new h = by (slice_get marks (suc k)) h
    where
      by : (o : Option Mark) → Finishes (pass_to o (suc k) (slice_set marks k Finished)).0 item old (FinishStrange back) new → (pass_to o (suc k) (slice_set marks k Finished)).1 ≡ marks
      by None h = absurd h
      by (Some Open) h = absurd h
      by (Some Held) h = absurd h
      by (Some (Left text)) h = absurd h
      by (Some Finished) h = absurd h
  unfinished (Some (Left text)) k marks item back old new h = refl
  unfinished (Some Finished) k marks item back old new h = refl

  gone-none : (a : TurnAnswer) (item on : T) (with : Vec ℕ) (old new : Option T) → Finishes a item old (FinishGo on with) new → new ≡ None
  gone-none (Issued k) item on with old new h = absurd h
  gone-none Taken item on with old new h = absurd h
  gone-none Opened item on with old new h = absurd h
  gone-none Passed item on with old new h = absurd h
  gone-none Waits item on with old new h = absurd h
  gone-none (Goes k text) item on with old new h = h.2
  gone-none Strange item on with old new h = absurd h

-- ---- what stands under the lock
module _ {T W C : Type 0} where
  -- the same number of marks, and those that wait had waited, or may; it isn't their turn
  sound-same : (old new : TurnQueueView T W C) → IsSoundTurnQueue old → length new.turns.marks ≡ length old.turns.marks → new.waiting ≡ old.waiting
      → ((n : ℕ) → IsItsTurn new.turns.marks n → IsItsTurn old.turns.marks n) → IsSoundTurnQueue new
  sound-same old new sound long waiting turn = record {
    issued = λ n waits. subst (λ l. n < l) (sym long) (sound.issued n (subst (λ ws. IsSome (waker ws n)) waiting waits));
    waits = λ n waits is. sound.waits n (subst (λ ws. IsSome (waker ws n)) waiting waits) (turn n is);
  }

  module _ (old new : TurnQueueView T W C) (sound : IsSoundTurnQueue old) (order : IsInOrder new.turns) where
    module _ (k : ℕ) (marks : new.turns.marks ≡ marks_after_step (Take k) old.turns.marks) where
      long-take : length new.turns.marks ≡ length old.turns.marks
      long-take = ap length marks ∙ length-take (slice_get old.turns.marks k) k old.turns.marks

      pub sound-taken : (item : T) → new.waiting ≡ old.waiting → TakesTurn (turn_answer (Take k) old.turns.marks) old.turns.resting (Some item) new.turns.resting → IsSoundTurnQueue new
      sound-taken item waiting takes = sound-same old new sound long-take waiting (λ n turn. absurd (turn-held new.turns order (taken-none (turn_answer (Take k) old.turns.marks) old.turns.resting new.turns.resting item takes) n turn))

      module _ (takes : TakesTurn (turn_answer (Take k) old.turns.marks) old.turns.resting None new.turns.resting) where
        marks-same : new.turns.marks ≡ old.turns.marks
        marks-same = marks ∙ untaken (slice_get old.turns.marks k) k old.turns.marks old.turns.resting new.turns.resting takes

        pub sound-untaken : new.waiting ≡ old.waiting → IsSoundTurnQueue new
        sound-untaken waiting = sound-same old new sound long-take waiting (λ n turn. subst (λ ms. IsItsTurn ms n) marks-same turn)

        -- the number waits from now on
        pub sound-waits : k < length old.turns.marks → (IsItsTurn old.turns.marks k → ⊥) → ((n : ℕ) → n ≢ k → waker new.waiting n ≡ waker old.waiting n) → IsSoundTurnQueue new
        sound-waits was_issued not_yet others = record {
          issued = λ n waits. subst (λ l. n < l) (sym long-take) (is_issued n waits);
          waits = λ n waits is. no_turn n waits (subst (λ ms. IsItsTurn ms n) marks-same is);
        }
          where
            is_issued : (n : ℕ) → IsSome (waker new.waiting n) → n < length old.turns.marks
            is_issued n waits = ⊎_elim (λ e. omega (arith, e, was_issued)) (λ ne. sound.issued n (subst IsSome (others n ne) waits)) (cases_eq n k)

            no_turn : (n : ℕ) → IsSome (waker new.waiting n) → IsItsTurn old.turns.marks n → ⊥
            no_turn n waits is = ⊎_elim (λ e. not_yet (subst (λ j. IsItsTurn old.turns.marks j) e is)) (λ ne. sound.waits n (subst IsSome (others n ne) waits) is) (cases_eq n k)

    pub sound-leave : (k : ℕ) (text : List ℕ) (r : Leaving T) → new.waiting ≡ old.waiting → new.turns.marks ≡ marks_after_step (Leave k text) old.turns.marks
        → LeavesTurn (turn_answer (Leave k text) old.turns.marks) old.turns.resting r new.turns.resting → IsSoundTurnQueue new
    sound-leave k text r waiting marks leaves = sound-same old new sound (ap length marks ∙ length-leave (slice_get old.turns.marks k) k text old.turns.marks) waiting
        (left-turn (slice_get old.turns.marks k) k text old.turns new.turns r refl order marks leaves)

    module _ (k : ℕ) (marks : new.turns.marks ≡ marks_after_step (Finish k) old.turns.marks) where
      long-finish : length new.turns.marks ≡ length old.turns.marks
      long-finish = ap length marks ∙ length-finish (slice_get old.turns.marks k) k old.turns.marks

      -- the item doesn't rest
      pub sound-not_passed : (item : T) (r : Finishing T) → (r ≡ IsPassed → ⊥) → new.waiting ≡ old.waiting → Finishes (turn_answer (Finish k) old.turns.marks) item old.turns.resting r new.turns.resting → IsSoundTurnQueue new
      sound-not_passed item IsPassed other waiting h = absurd (other refl)
      sound-not_passed item (FinishGo on with) other waiting h = sound-same old new sound long-finish waiting (λ n turn. absurd (turn-held new.turns order (gone-none (turn_answer (Finish k) old.turns.marks) item on with old.turns.resting new.turns.resting h) n turn))
      sound-not_passed item (FinishStrange back) other waiting h = sound-same old new sound long-finish waiting (λ n turn. subst (λ ms. IsItsTurn ms n) (marks ∙ unfinished (slice_get old.turns.marks k) k old.turns.marks item back old.turns.resting new.turns.resting h) turn)

      -- the item rests, and the next number waits no more
      pub sound-passed : waker new.waiting (first_unfinished new.turns.marks) ≡ None → ((n : ℕ) → n ≢ first_unfinished new.turns.marks → waker new.waiting n ≡ waker old.waiting n) → IsSoundTurnQueue new
      sound-passed gone others = record {
        issued = λ n waits. subst (λ l. n < l) (sym long-finish) (sound.issued n (subst IsSome (others n (apart n waits)) waits));
        waits = λ n waits is. apart n waits is.1;
      }
        where
          apart : (n : ℕ) → IsSome (waker new.waiting n) → n ≢ first_unfinished new.turns.marks
          apart n waits e = let none : IsSome {T = W} None = subst IsSome (ap (waker new.waiting) e ∙ gone) waits in cc

  pub sound-issue : (old new : TurnQueueView T W C) → IsSoundTurnQueue old → new.turns.marks ≡ old.turns.marks ++ Open ∷ [] → new.waiting ≡ old.waiting → IsSoundTurnQueue new
  sound-issue old new sound marks waiting =
      let long : length new.turns.marks ≡ length old.turns.marks + 1 = ap length marks ∙ length-append old.turns.marks (Open ∷ []) in
      record {
        issued = λ n waits. let below : n < length old.turns.marks = sound.issued n (subst (λ ws. IsSome (waker ws n)) waiting waits) in omega (arith, long, below);
        waits = λ n waits is. sound.waits n (had n waits) (turn-issue old.turns.marks n (sound.issued n (had n waits)) (subst (λ ms. IsItsTurn ms n) marks is));
      }
    where
      had : (n : ℕ) → IsSome (waker new.waiting n) → IsSome (waker old.waiting n)
      had n waits = subst (λ ws. IsSome (waker ws n)) waiting waits
