-- How the writer fares in a step, by where its fault falls; and what has been flushed after it.
use Rattle.std.proofs.Common.{◌≡◌, refl, sym, subst, ℕ, ◌+◌, ◌<◌, ◌⊎◌, inl, inr, Bool, true, false, not, List, [], ◌∷◌, ◌++◌, Option, Some, None}
use Rattle.std.specs.Prelude.{MatchBool, unwrap_or, option_map, if◌then◌else◌}
use Rattle.std.specs.declared.io.ErrorKind.{ErrorKind}
use Rattle.tiny_http_io.specs.Device.{IsFront}
use Rattle.tiny_http_body.specs.Text.{Text}
use Rattle.tiny_http_connection.specs.Segments.{Slot}
use Rattle.tiny_http_connection.specs.Slots.{joined}
use Rattle.tiny_http_connection.specs.Steps.{ReplyValue, Done, Fault}
use Rattle.tiny_http_connection.specs.Outcomes.{WriterUse, Unreported, Reported, fault_in, fault_reply}
use Rattle.tiny_http_connection.specs.Conversation.{Failure, State, has_output_ended, finished_front, Fares, Well, FailsWithin, FailsAfter, CanMeet, MayFare, reply_in, failure_in, WriterPart}

-- the writer failed while the output grew from one text to another
abbrev pub FailsBetween : List ℕ → List ℕ → Option Failure → Type 0
FailsBetween from to failure = (f : Failure) × (failure ≡ Some f) × IsFront from f.output × IsFront f.output to

-- the same, and the fault is reported
abbrev pub FailsReported : (ErrorKind → ReplyValue) → ReplyValue → List ℕ → List ℕ → Option Failure → Type 0
FailsReported report reply from to failure = (f : Failure) × (failure ≡ Some f) × (reply ≡ report f.kind) × IsFront from f.output × IsFront f.output to

-- the writer failed after the step's own text
abbrev pub FailsBehind : List ℕ → List Slot → List ℕ → Option ErrorKind → List Slot → Option Failure → Type 0
FailsBehind flushed before own None slots failure =
    (finished_front before + 1 < finished_front slots) × FailsBetween (joined before ++ own) (joined slots) failure
FailsBehind flushed before own (Some kind) slots failure = FailsBetween flushed (joined before ++ own) failure

-- the reply where the writer takes all
abbrev pub broken_reply : (ErrorKind → ReplyValue) → ReplyValue → Option ErrorKind → ReplyValue
broken_reply report planned broken = unwrap_or (option_map report broken) planned

-- how an answer uses the writer
abbrev pub used : Text → WriterUse
used text = Reported text.bytes (fault_in text.ending) true fault_reply

-- what the writer did in an answer, by whether the output had ended
abbrev pub Alternatives : List ℕ → List Slot → Text → List Slot → ReplyValue → Option Failure → Type 0
Alternatives flushed old text slots reply failure =
    ((reply ≡ broken_reply fault_reply Done (fault_in text.ending)) × (failure ≡ None))
    ⊎ ((CanMeet text.bytes (fault_in text.ending) × FailsReported fault_reply reply flushed (joined old ++ text.bytes) failure)
    ⊎ ((reply ≡ broken_reply fault_reply Done (fault_in text.ending)) × FailsBehind flushed old text.bytes (fault_in text.ending) slots failure))

abbrev pub WritesIf : Bool → Option Failure → List ℕ → List Slot → Text → List Slot → ReplyValue → Option Failure → Type 0
WritesIf t failed flushed old text slots reply failure = MatchBool t ((reply ≡ Done) × (failure ≡ failed)) (Alternatives flushed old text slots reply failure)

-- what is flushed after a step that flushes, by whether the output had ended
abbrev pub flushed_if : Bool → List ℕ → List Slot → List ℕ
flushed_if was flushed slots = if was then flushed else joined slots

-- a step whose faults no reply reports
pub unreported : (s : State) (was : Bool) (planned : ReplyValue) (slots : List Slot) (failure : Option Failure) → has_output_ended s ≡ was
    → MatchBool was (failure ≡ s.failure) ((failure ≡ None) ⊎ FailsBetween s.flushed (joined slots) failure) → WriterPart Unreported s planned slots planned failure
unreported s was planned slots failure over h = subst W (sym over) (by was h)
  where
    W : Bool → Type 0
    W b = MatchBool b ((planned ≡ planned) × (failure ≡ s.failure)) ((fares : Fares) × MayFare Unreported s slots fares × (planned ≡ reply_in Unreported planned fares) × (failure ≡ failure_in fares))

    by : (b : Bool) → MatchBool b (failure ≡ s.failure) ((failure ≡ None) ⊎ FailsBetween s.flushed (joined slots) failure) → W b
    by true h = (refl, h)
    by false (inl none) = (Well, tt, refl, none)
    by false (inr x) = (FailsAfter x.0, (x.2, x.3), refl, x.1)

-- an answer
pub reported : (s : State) (was : Bool) (text : Text) (slots : List Slot) (reply : ReplyValue) (failure : Option Failure) → has_output_ended s ≡ was → WritesIf was s.failure s.flushed s.reached.slots text slots reply failure
    → WriterPart (used text) s Done slots reply failure
reported s was text slots reply failure over h = subst W (sym over) (by was h)
  where
    W : Bool → Type 0
    W b = MatchBool b ((reply ≡ Done) × (failure ≡ s.failure)) ((fares : Fares) × MayFare (used text) s slots fares × (reply ≡ reply_in (used text) Done fares) × (failure ≡ failure_in fares))

    after : (broken : Option ErrorKind) → FailsBehind s.flushed s.reached.slots text.bytes broken slots failure → (f : Failure) × (failure ≡ Some f) × MayFare (Reported text.bytes broken true fault_reply) s slots (FailsAfter f)
    after None h = (h.1.0, h.1.1, (h.0, (h.1.2, h.1.3)))
    after (Some kind) h = (h.0, h.1, (h.2, h.3))

    by : (b : Bool) → WritesIf b s.failure s.flushed s.reached.slots text slots reply failure → W b
    by true h = h
    by false (inl x) = (Well, tt, x.0, x.1)
    by false (inr (inl x)) = (FailsWithin x.1.0, (x.0, (x.1.3, x.1.4)), x.1.2, x.1.1)
    by false (inr (inr x)) = let a = after (fault_in text.ending) x.1 in (FailsAfter a.0, a.2, x.0, a.1)

-- bytes of a raw writer or an upgraded stream: the writer's fault is reported by its kind
pub written : (s : State) (was flushes : Bool) (own : List ℕ) (slots : List Slot) (reply : ReplyValue) (failure : Option Failure) → has_output_ended s ≡ was
    → MatchBool was ((reply ≡ Done) × (failure ≡ s.failure)) (((reply ≡ Done) × (failure ≡ None)) ⊎ FailsReported Fault reply s.flushed (joined s.reached.slots ++ own) failure)
    → WriterPart (Reported own None flushes Fault) s Done slots reply failure
written s was flushes own slots reply failure over h = subst W (sym over) (by was h)
  where
    W : Bool → Type 0
    W b = MatchBool b ((reply ≡ Done) × (failure ≡ s.failure)) ((fares : Fares) × MayFare (Reported own None flushes Fault) s slots fares × (reply ≡ reply_in (Reported own None flushes Fault) Done fares) × (failure ≡ failure_in fares))

    can : (own : List ℕ) → CanMeet own None
    can [] = tt
    can (b ∷ own) = tt

    by : (b : Bool) → MatchBool b ((reply ≡ Done) × (failure ≡ s.failure)) (((reply ≡ Done) × (failure ≡ None)) ⊎ FailsReported Fault reply s.flushed (joined s.reached.slots ++ own) failure) → W b
    by true h = h
    by false (inl x) = (Well, tt, x.0, x.1)
    by false (inr x) = (FailsWithin x.0, (can own, (x.3, x.4)), x.2, x.1)

-- what is flushed after a step that flushes
pub flushed-is : (s : State) (was : Bool) (slots : List Slot) → has_output_ended s ≡ was → (if not (has_output_ended s) then joined slots else s.flushed) ≡ flushed_if was s.flushed slots
flushed-is s was slots over = by was over
  where
    by : (b : Bool) → has_output_ended s ≡ b → (if not (has_output_ended s) then joined slots else s.flushed) ≡ flushed_if b s.flushed slots
    by true e = rw e refl
    by false e = rw e refl
