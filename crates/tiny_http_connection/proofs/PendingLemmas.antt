-- What the calls on numbers leave, as lists of marks.
use Rattle.std.proofs.Common.{◌≡◌, refl, sym, ap, ◌∙◌, subst, arith, ℕ, suc, ◌+◌, ◌<◌, ◌^◌, ◌⊎◌, inl, inr, ⊎_elim, Bool, true, false, List, [], ◌∷◌, ◌++◌, length, Option, Some, None, append_assoc, append-nil, length-append, IfSome, IfNone}
use Prim.Native.Nat.{zero}
use Rattle.tiny_http_turns.specs.ByNumber.{value_of}
use Rattle.std.proofs.lemmas.List.{length-set}
use Rattle.std.specs.Global.{Vec}
use Rattle.std.specs.Prelude.{MatchBool, ◌==◌, drop, if◌then◌else◌, slice_get, slice_set}
use Rattle.tiny_http_io.specs.Device.{Sink}
use Rattle.tiny_http_turns.specs.declared.turns.Finishing.{Finishing}
use Rattle.tiny_http_turns.specs.declared.turns.Finishing.TheVariants.{Passed as IsPassed, Go, Strange as IsStrange}
use Rattle.tiny_http_turns.specs.declared.turns.Leaving.{Leaving}
use Rattle.tiny_http_turns.specs.declared.turns.Leaving.TheVariants.{Left as IsLeft, Go as LeaveGo, Strange as LeaveStrange}
use Rattle.tiny_http_response.specs.Sending.{CanSend, IsFlushed, FailsOnce, KeepsSent, SendsQuietlyOn, SendsUnlessEnded}
use Rattle.tiny_http_io.specs.Outlet.{OutletState, output_of}
use Rattle.tiny_http_io.proofs.DeviceLemmas.{IsFront-append}
use Rattle.tiny_http_turns.specs.Passing.{Holds, WritesTexts, FinishesOne, PassesOn}
use Rattle.tiny_http_connection.specs.declared.pending.HeldNumber.{HeldNumber}
use Rattle.tiny_http_turns.specs.Turns.{Mark, Open, Held, Left, Finished, AreInShape, TurnsState, first_unfinished, Goes, Passed, Waits, TurnOutcome, Finish, Leave, turn_outcome, turn_answer, marks_after_step, finish_at, pass_to, leave_at}
use Rattle.tiny_http_turns.specs.TurnsCalls.{Finishes, LeavesTurn}
use Rattle.tiny_http_body.specs.declared.body.UnreadBody.{UnreadBody}
use Rattle.tiny_http_open_request.specs.declared.open_request.OpenRequest.{OpenRequest}
use Rattle.tiny_http_connection.specs.declared.pending.Unfinished.{Unfinished}
use Rattle.tiny_http_connection.specs.declared.pending.Unfinished.TheVariants as still
use Rattle.tiny_http_connection.specs.Pending.{left_text, with_left_finished, begins_left, SendsLeft, FinishesFront, LeavesText, WritesHeld, FinishesHeld, waiting_response_context, closing_number}
use Rattle.tiny_http_connection.specs.Slots.{with_last}
use Rattle.tiny_http_open_request.specs.OpenRequest.{closing}
use Rattle.tiny_http_connection.proofs.ConnectionKept.{get-at, set-at}
use Rattle.tiny_http_response.proofs.SendingLemmas.{once-append, sends-append, sends-can}

-- the place after a place
get-next : {X : Type 0} (xs : List X) (x : X) (ys : List X) → slice_get (xs ++ (x ∷ ys)) (suc (length xs)) ≡ slice_get ys 0
get-next [] x ys = refl
get-next (z ∷ zs) x ys = get-next zs x ys

set-next : {X : Type 0} (xs : List X) (x y z : X) (ys : List X) → slice_set (xs ++ (x ∷ (y ∷ ys))) (suc (length xs)) z ≡ (xs ++ (x ∷ [])) ++ (z ∷ ys)
set-next [] x y z ys = refl
set-next (w ∷ ws) x y z ys = ap (λ r. w ∷ r) (set-next ws x y z ys)

-- finishing a held number, by what stands after it
finish-at : (f r : List Mark) → turn_outcome (Finish (length f)) (f ++ (Held ∷ r)) ≡ pass_to (slice_get r 0) (suc (length f)) (f ++ (Finished ∷ r))
finish-at f r =
    ap (λ o. finish_at o (length f) (f ++ (Held ∷ r))) (get-at f Held r)
    ∙ ap (λ o. pass_to o (suc (length f)) (slice_set (f ++ (Held ∷ r)) (length f) Finished)) (get-next f Held r)
    ∙ ap (λ m. pass_to (slice_get r 0) (suc (length f)) m) (set-at f Held Finished r)

finish-left : (f : List Mark) (text : List ℕ) (r : List Mark) → turn_outcome (Finish (length f)) (f ++ (Held ∷ (Left text ∷ r))) ≡ (Goes (suc (length f)) text, (f ++ (Finished ∷ [])) ++ (Held ∷ r))
finish-left f text r = finish-at f (Left text ∷ r) ∙ ap (λ m. (Goes (suc (length f)) text, m)) (set-next f Finished (Left text) Held r)

finish-other : (f r : List Mark) → begins_left r ≡ false → turn_outcome (Finish (length f)) (f ++ (Held ∷ r)) ≡ (Passed, f ++ (Finished ∷ r))
finish-other f [] e = finish-at f []
finish-other f (Open ∷ r) e = finish-at f (Open ∷ r)
finish-other f (Held ∷ r) e = finish-at f (Held ∷ r)
finish-other f (Left text ∷ r) e = cc
finish-other f (Finished ∷ r) e = finish-at f (Finished ∷ r)

pub none-left : (r : List Mark) → begins_left r ≡ false → (left_text r ≡ []) × (with_left_finished r ≡ r)
none-left [] e = (refl, refl)
none-left (Open ∷ r) e = (refl, refl)
none-left (Held ∷ r) e = (refl, refl)
none-left (Left text ∷ r) e = cc
none-left (Finished ∷ r) e = (refl, refl)

-- How far the texts that were left are written: a number is held, and those before it are finished.
pub record WritesLeft (front rest marks : List Mark) (number : ℕ) (text : List ℕ) (was : Bool) (old now : Sink) (ended : Bool) : Type 0 where
  pub done : List Mark
  pub more : List Mark
  pub marks_are : marks ≡ done ++ (Held ∷ more)
  pub place : length done ≡ number
  pub same : front ++ (Finished ∷ with_left_finished rest) ≡ done ++ (Finished ∷ with_left_finished more)
  pub written : List ℕ
  pub texts : text ++ left_text rest ≡ written ++ left_text more
  pub sends : (was ≡ false → CanSend old) → SendsUnlessEnded was old now ended written

pub writes-first : (front rest marks : List Mark) (number : ℕ) (text : List ℕ) (was : Bool) (old now : Sink) (ended : Bool) → marks ≡ front ++ (Held ∷ rest) → length front ≡ number → ((was ≡ false → CanSend old) → SendsUnlessEnded was old now ended text)
    → WritesLeft front rest marks number text was old now ended
writes-first front rest marks number text was old now ended e place sends = record { done = front; more = rest; marks_are = e; place = place; same = refl; written = text; texts = refl; sends = sends }

-- what finishing is reported as, and what it leaves
pub record FinishingReported (marks new : List Mark) (number : ℕ) (r : Finishing (Unit {0})) (before behind : Option (Unit {0})) : Type 0 where
  pub marks_are : new ≡ marks_after_step (Finish number) marks
  pub item : Finishes (turn_answer (Finish number) marks) tt before r behind

finishing-at : (done more new : List Mark) (marks : List Mark) (number : ℕ) (r : Finishing (Unit {0})) (before behind : Option (Unit {0})) → marks ≡ done ++ (Held ∷ more) → length done ≡ number → FinishingReported marks new number r before behind
    → FinishingReported (done ++ (Held ∷ more)) new (length done) r before behind
finishing-at done more new marks number r before behind e place t =
    let P : List Mark → Type 0 = λ m. FinishingReported m new number r before behind in
    let Q : ℕ → Type 0 = λ n. FinishingReported (done ++ (Held ∷ more)) new n r before behind in
    subst Q (sym place) (subst P e t)

abbrev OutcomeReported : TurnOutcome → List Mark → Finishing (Unit {0}) → Option (Unit {0}) → Option (Unit {0}) → Type 0
OutcomeReported o new r before behind = (new ≡ o.1) × Finishes o.0 tt before r behind

finishing-left : (done more new : List Mark) (text : List ℕ) (r : Finishing (Unit {0})) (before behind : Option (Unit {0})) → FinishingReported (done ++ (Held ∷ (Left text ∷ more))) new (length done) r before behind
    → OutcomeReported (Goes (suc (length done)) text, (done ++ (Finished ∷ [])) ++ (Held ∷ more)) new r before behind
finishing-left done more new text r before behind t =
    let P : TurnOutcome → Type 0 = λ o. OutcomeReported o new r before behind in
    subst P (finish-left done text more) (t.marks_are, t.item)

finishing-other : (done more new : List Mark) (r : Finishing (Unit {0})) (before behind : Option (Unit {0})) → begins_left more ≡ false → FinishingReported (done ++ (Held ∷ more)) new (length done) r before behind → OutcomeReported (Passed, done ++ (Finished ∷ more)) new r before behind
finishing-other done more new r before behind e t =
    let P : TurnOutcome → Type 0 = λ o. OutcomeReported o new r before behind in
    subst P (finish-other done more e) (t.marks_are, t.item)

-- one number more
abbrev NextWrites : List Mark → List Mark → List Mark → ℕ → List ℕ → Bool → Sink → Sink → Bool → Type 0
NextWrites front rest new number text was old now ended = WritesLeft front rest new (number + 1) text was old now ended

next-left : (front rest new : List Mark) (number : ℕ) (text : List ℕ) (was : Bool) (old now later : Sink) (ended over : Bool) (done more : List Mark) (written left next : List ℕ) → length done ≡ number → new ≡ (done ++ (Finished ∷ [])) ++ (Held ∷ more)
    → front ++ (Finished ∷ with_left_finished rest) ≡ done ++ (Finished ∷ (Finished ∷ with_left_finished more)) → text ++ left_text rest ≡ written ++ (left ++ left_text more) → next ≡ left
    → ((was ≡ false → CanSend old) → SendsUnlessEnded was old now ended written) → ((ended ≡ false → CanSend now) → SendsUnlessEnded ended now later over next)
    → NextWrites front rest new number text was old later over
next-left front rest new number text was old now later ended over done more written left next place is same texts stated sends sent = record {
  done = done ++ (Finished ∷ []);
  more = more;
  marks_are = is;
  place = length-append done (Finished ∷ []) ∙ ap (λ n. n + 1) place;
  same = same ∙ sym (append_assoc done (Finished ∷ []) (Finished ∷ with_left_finished more));
  written = written ++ next;
  texts = texts ∙ ap (λ t. written ++ (t ++ left_text more)) (sym stated) ∙ sym (append_assoc written next (left_text more));
  sends = λ can. sends-append was ended over old now later written next (sends can) (sent (sends-can was ended old now written can (sends can)));
}

pub writes-next : (front rest marks new : List Mark) (number : ℕ) (text : List ℕ) (was : Bool) (old now later : Sink) (ended over : Bool) (r : Finishing (Unit {0})) (next : Vec ℕ) (u : Unit {0}) (before behind : Option (Unit {0}))
    → WritesLeft front rest marks number text was old now ended → FinishingReported marks new number r before behind → r ≡ Go u next → ((ended ≡ false → CanSend now) → SendsUnlessEnded ended now later over next.items)
    → WritesLeft front rest new (number + 1) text was old later over
writes-next front rest marks new number text was old now later ended over r next u before behind w stated is sent =
    by-more w.more w.same w.texts (finishing-at w.done w.more new marks number (Go u next) before behind w.marks_are w.place (subst (λ x. FinishingReported marks new number x before behind) is stated))
  where
    other : (more : List Mark) → begins_left more ≡ false → FinishingReported (w.done ++ (Held ∷ more)) new (length w.done) (Go u next) before behind → NextWrites front rest new number text was old later over
    other more e t = let no = finishing-other w.done more new (Go u next) before behind e t in absurd no.1

    by-more : (more : List Mark) → front ++ (Finished ∷ with_left_finished rest) ≡ w.done ++ (Finished ∷ with_left_finished more) → text ++ left_text rest ≡ w.written ++ left_text more
        → FinishingReported (w.done ++ (Held ∷ more)) new (length w.done) (Go u next) before behind → NextWrites front rest new number text was old later over
    by-more [] same texts t = other [] refl t
    by-more (Open ∷ more) same texts t = other (Open ∷ more) refl t
    by-more (Held ∷ more) same texts t = other (Held ∷ more) refl t
    by-more (Finished ∷ more) same texts t = other (Finished ∷ more) refl t
    by-more (Left left ∷ more) same texts t =
        let o = finishing-left w.done more new left (Go u next) before behind t in
        next-left front rest new number text was old now later ended over w.done more w.written left next.items w.place o.0 same texts o.1.1 w.sends sent

-- the last number
pub writes-last : (front rest marks new : List Mark) (number : ℕ) (text : List ℕ) (was : Bool) (old now : Sink) (ended : Bool) (r : Finishing (Unit {0})) (before behind : Option (Unit {0}))
    → WritesLeft front rest marks number text was old now ended → FinishingReported marks new number r before behind → ((u : Unit {0}) (next : Vec ℕ) → r ≡ Go u next → ⊥)
    → FinishesFront front rest new × ((was ≡ false → CanSend old) → SendsUnlessEnded was old now ended (text ++ left_text rest))
writes-last front rest marks new number text was old now ended r before behind w stated none =
    by-more w.more w.same w.texts (finishing-at w.done w.more new marks number r before behind w.marks_are w.place stated)
  where
    Ends : Type 0
    Ends = FinishesFront front rest new × ((was ≡ false → CanSend old) → SendsUnlessEnded was old now ended (text ++ left_text rest))

    other : (more : List Mark) → begins_left more ≡ false → front ++ (Finished ∷ with_left_finished rest) ≡ w.done ++ (Finished ∷ with_left_finished more) → text ++ left_text rest ≡ w.written ++ left_text more → FinishingReported (w.done ++ (Held ∷ more)) new (length w.done) r before behind → Ends
    other more e same texts t =
        let o = finishing-other w.done more new r before behind e t in
        let n = none-left more e in
        let P : List ℕ → Type 0 = λ x. SendsUnlessEnded was old now ended x in (
          o.0 ∙ ap (λ x. w.done ++ (Finished ∷ x)) (sym n.1) ∙ sym same,
          λ can. subst P (sym (texts ∙ ap (λ x. w.written ++ x) n.0 ∙ append-nil w.written)) (w.sends can),
        )

    goes : (text next : List ℕ) (n : ℕ) (x : Finishing (Unit {0})) → ((u : Unit {0}) (v : Vec ℕ) → x ≡ Go u v → ⊥) → Finishes (Goes n next) tt before x behind → ⊥
    goes text next n IsPassed never f = f
    goes text next n (Go u v) never f = never u v refl
    goes text next n (IsStrange u) never f = f

    by-more : (more : List Mark) → front ++ (Finished ∷ with_left_finished rest) ≡ w.done ++ (Finished ∷ with_left_finished more) → text ++ left_text rest ≡ w.written ++ left_text more → FinishingReported (w.done ++ (Held ∷ more)) new (length w.done) r before behind → Ends
    by-more [] same texts t = other [] refl same texts t
    by-more (Open ∷ more) same texts t = other (Open ∷ more) refl same texts t
    by-more (Held ∷ more) same texts t = other (Held ∷ more) refl same texts t
    by-more (Finished ∷ more) same texts t = other (Finished ∷ more) refl same texts t
    by-more (Left left ∷ more) same texts t =
        let o = finishing-left w.done more new left r before behind t in
        absurd (goes text left (suc (length w.done)) r none o.1)

-- after the texts the writer is flushed
pub flushed-behind : (was mid ended : Bool) (a b c : Sink) (text : List ℕ) → ((was ≡ false → CanSend a) → SendsUnlessEnded was a b mid text) → ((mid ≡ false → CanSend b) → SendsUnlessEnded mid b c ended []) → (was ≡ false → CanSend a) → SendsUnlessEnded was a c ended text
flushed-behind was mid ended a b c text sends flushes can =
    let P : List ℕ → Type 0 = λ t. SendsUnlessEnded was a c ended t in
    let s = sends can in
    subst P (append-nil text) (sends-append was mid ended a b c text [] s (flushes (sends-can was mid a b text can s)))

-- What finishing a held number leaves: the texts after it are sent, from that which comes out on.
pub pass-goes : (front rest marks mid final : List Mark) (number : ℕ) (was : Bool) (old now : Sink) (ended : Bool) (r : Finishing (Unit {0})) (next : Vec ℕ) (u : Unit {0}) (before behind : Option (Unit {0}))
    → marks ≡ front ++ (Held ∷ rest) → length front ≡ number → FinishingReported marks mid number r before behind → r ≡ Go u next
    → ((f more : List Mark) → mid ≡ f ++ (Held ∷ more) → length f ≡ number + 1 → FinishesFront f more final × ((was ≡ false → CanSend old) → SendsUnlessEnded was old now ended (next.items ++ left_text more))) → IsFlushed now
    → FinishesFront front rest final × ((was ≡ false → CanSend old) → SendsLeft rest was old now ended)
pass-goes front rest marks mid final number was old now ended r next u before behind e place stated is more_sent flushed =
    by-rest rest (finishing-at front rest mid marks number (Go u next) before behind e place (subst (λ x. FinishingReported marks mid number x before behind) is stated))
  where
    Ends : List Mark → Type 0
    Ends x = FinishesFront front x final × ((was ≡ false → CanSend old) → SendsLeft x was old now ended)

    other : (x : List Mark) → begins_left x ≡ false → FinishingReported (front ++ (Held ∷ x)) mid (length front) (Go u next) before behind → Ends x
    other x f t = let none = finishing-other front x mid (Go u next) before behind f t in absurd none.1

    by-rest : (x : List Mark) → FinishingReported (front ++ (Held ∷ x)) mid (length front) (Go u next) before behind → Ends x
    by-rest [] t = other [] refl t
    by-rest (Open ∷ x) t = other (Open ∷ x) refl t
    by-rest (Held ∷ x) t = other (Held ∷ x) refl t
    by-rest (Finished ∷ x) t = other (Finished ∷ x) refl t
    by-rest (Left left ∷ x) t =
        let o = finishing-left front x mid left (Go u next) before behind t in
        let s = more_sent (front ++ (Finished ∷ [])) x o.0 (length-append front (Finished ∷ []) ∙ ap (λ n. n + 1) place) in
        let P : List ℕ → Type 0 = λ y. SendsUnlessEnded was old now ended (y ++ left_text x) in
        (s.0 ∙ append_assoc front (Finished ∷ []) (Finished ∷ with_left_finished x), λ can. (subst P o.1.1 (s.1 can), flushed))

-- a text comes out only where one was left
pub goes-left : (front rest marks mid : List Mark) (number : ℕ) (r : Finishing (Unit {0})) (next : Vec ℕ) (u : Unit {0}) (before behind : Option (Unit {0}))
    → marks ≡ front ++ (Held ∷ rest) → length front ≡ number → FinishingReported marks mid number r before behind → r ≡ Go u next → begins_left rest ≡ false → ⊥
goes-left front rest marks mid number r next u before behind e place stated is none =
    (finishing-other front rest mid (Go u next) before behind none (finishing-at front rest mid marks number (Go u next) before behind e place (subst (λ x. FinishingReported marks mid number x before behind) is stated))).1

-- a number that is held, and those around it
pub around-held : (marks : List Mark) (n : ℕ) → slice_get marks n ≡ Some Open → (front : List Mark) × (rest : List Mark) × (slice_set marks n Held ≡ front ++ (Held ∷ rest)) × (length front ≡ n) × (begins_left rest ≡ begins_left (drop (n + 1) marks))
around-held [] n e = cc
around-held (m ∷ marks) zero e = ([], marks, refl, refl, refl)
around-held (m ∷ marks) (suc n) e =
    let h = around-held marks n e in
    let next : suc (n + 1) ≡ suc n + 1 = omega arith in
    (m ∷ h.0, h.1, ap (λ l. m ∷ l) h.2, ap suc h.3, h.4 ∙ ap (λ k. begins_left (drop k (m ∷ marks))) next)

-- what the writer states of its last fault stays where the outlet has ended
pub left-kind : (rest : List Mark) (was : Bool) (old new : Sink) (ended : Bool) → was ≡ true → SendsLeft rest was old new ended → new.last_kind ≡ old.last_kind
left-kind rest was old new ended e h = by (begins_left rest) h
  where
    idle : SendsUnlessEnded was old new ended (left_text rest) → new.last_kind ≡ old.last_kind
    idle s = let P : Bool → Type 0 = λ x. SendsUnlessEnded x old new ended (left_text rest) in (subst P e s).0.last_kind

    by : (t : Bool) → MatchBool t (SendsUnlessEnded was old new ended (left_text rest) × IsFlushed new) ((new ≡ old) × (ended ≡ was)) → new.last_kind ≡ old.last_kind
    by true s = idle s.0
    by false s = ap (λ (x : Sink). x.last_kind) s.0

pub pass-ends : (front rest marks mid : List Mark) (number : ℕ) (was : Bool) (old : Sink) (r : Finishing (Unit {0})) (before behind : Option (Unit {0}))
    → marks ≡ front ++ (Held ∷ rest) → length front ≡ number → FinishingReported marks mid number r before behind → ((u : Unit {0}) (next : Vec ℕ) → r ≡ Go u next → ⊥)
    → FinishesFront front rest mid × SendsLeft rest was old old was
pass-ends front rest marks mid number was old r before behind e place stated none = by-rest rest (finishing-at front rest mid marks number r before behind e place stated)
  where
    Ends : List Mark → Type 0
    Ends x = FinishesFront front x mid × SendsLeft x was old old was

    other : (x : List Mark) → begins_left x ≡ false → FinishingReported (front ++ (Held ∷ x)) mid (length front) r before behind → Ends x
    other x f t =
        let o = finishing-other front x mid r before behind f t in
        let P : Bool → Type 0 = λ b. MatchBool b (SendsUnlessEnded was old old was (left_text x) × IsFlushed old) ((old ≡ old) × (was ≡ was)) in
        (o.0 ∙ ap (λ y. front ++ (Finished ∷ y)) (sym (none-left x f).1), subst P (sym f) (refl, refl))

    goes : (next : List ℕ) (n : ℕ) (x : Finishing (Unit {0})) → ((u : Unit {0}) (v : Vec ℕ) → x ≡ Go u v → ⊥) → Finishes (Goes n next) tt before x behind → ⊥
    goes next n IsPassed never f = f
    goes next n (Go u v) never f = never u v refl
    goes next n (IsStrange u) never f = f

    by-rest : (x : List Mark) → FinishingReported (front ++ (Held ∷ x)) mid (length front) r before behind → Ends x
    by-rest [] t = other [] refl t
    by-rest (Open ∷ x) t = other (Open ∷ x) refl t
    by-rest (Held ∷ x) t = other (Held ∷ x) refl t
    by-rest (Finished ∷ x) t = other (Finished ∷ x) refl t
    by-rest (Left left ∷ x) t = let o = finishing-left front x mid left r before behind t in absurd (goes left (suc (length front)) r none o.1)

-- what leaving an open number leaves
pub record LeavingReported (marks new : List Mark) (number : ℕ) (text : List ℕ) (r : Leaving (Unit {0})) (before behind : Option (Unit {0})) : Type 0 where
  pub marks_are : new ≡ marks_after_step (Leave number text) marks
  pub item : LeavesTurn (turn_answer (Leave number text) marks) before r behind

abbrev leave-outcome : Bool → List Mark → List Mark → List ℕ → ℕ → TurnOutcome
leave-outcome t front rest text n = if t then (Goes n text, front ++ (Held ∷ rest)) else (Waits, front ++ (Left text ∷ rest))

leave-at : (front rest : List Mark) (text : List ℕ) (t : Bool) → (length front == first_unfinished (front ++ (Open ∷ rest))) ≡ t → turn_outcome (Leave (length front) text) (front ++ (Open ∷ rest)) ≡ leave-outcome t front rest text (length front)
leave-at front rest text true e =
    ap (λ o. leave_at o (length front) text (front ++ (Open ∷ rest))) (get-at front Open rest) ∙ rw e (ap (λ m. (Goes (length front) text, m)) (set-at front Open Held rest))
leave-at front rest text false e =
    ap (λ o. leave_at o (length front) text (front ++ (Open ∷ rest))) (get-at front Open rest) ∙ rw e (ap (λ m. (Waits, m)) (set-at front Open (Left text) rest))

abbrev OutcomeLeft : TurnOutcome → List Mark → Leaving (Unit {0}) → Option (Unit {0}) → Option (Unit {0}) → Type 0
OutcomeLeft o new r before behind = (new ≡ o.1) × LeavesTurn o.0 before r behind

leaving-at : (front rest marks new : List Mark) (number : ℕ) (text : List ℕ) (t : Bool) (r : Leaving (Unit {0})) (before behind : Option (Unit {0})) → marks ≡ front ++ (Open ∷ rest) → length front ≡ number → (number == first_unfinished marks) ≡ t
    → LeavingReported marks new number text r before behind → OutcomeLeft (leave-outcome t front rest text (length front)) new r before behind
leaving-at front rest marks new number text t r before behind e place turn stated =
    let P : List Mark → Type 0 = λ m. LeavingReported m new number text r before behind in
    let Q : ℕ → Type 0 = λ n. LeavingReported (front ++ (Open ∷ rest)) new n text r before behind in
    let R : TurnOutcome → Type 0 = λ o. OutcomeLeft o new r before behind in
    let x = subst Q (sym place) (subst P e stated) in
    let same : (length front == first_unfinished (front ++ (Open ∷ rest))) ≡ t = ap (λ n. n == first_unfinished (front ++ (Open ∷ rest))) place ∙ ap (λ m. number == first_unfinished m) (sym e) ∙ turn in
    subst R (leave-at front rest text t same) (x.marks_are, x.item)

pub leave-goes : (front rest marks mid final : List Mark) (number : ℕ) (text : List ℕ) (was : Bool) (old now : Sink) (ended : Bool) (r : Leaving (Unit {0})) (u : Unit {0}) (back : Vec ℕ) (before behind : Option (Unit {0}))
    → marks ≡ front ++ (Open ∷ rest) → length front ≡ number → LeavingReported marks mid number text r before behind → r ≡ LeaveGo u back
    → (mid ≡ front ++ (Held ∷ rest) → FinishesFront front rest final × SendsUnlessEnded was old now ended (back.items ++ left_text rest)) → IsFlushed now
    → LeavesText (number == first_unfinished marks) front rest final text was old now ended
leave-goes front rest marks mid final number text was old now ended r u back before behind e place stated is more flushed =
    by-turn (number == first_unfinished marks) (leaving-at front rest marks mid number text (number == first_unfinished marks) (LeaveGo u back) before behind e place refl (subst (λ x. LeavingReported marks mid number text x before behind) is stated))
  where
    by-turn : (t : Bool) → OutcomeLeft (leave-outcome t front rest text (length front)) mid (LeaveGo u back) before behind → LeavesText t front rest final text was old now ended
    by-turn true o =
        let P : List ℕ → Type 0 = λ y. SendsUnlessEnded was old now ended (y ++ left_text rest) in
        let s = more o.0 in
        (s.0, subst P o.1.1 s.1, flushed)
    by-turn false o = absurd o.1

pub leave-stays : (front rest marks mid : List Mark) (number : ℕ) (text : List ℕ) (was : Bool) (old : Sink) (r : Leaving (Unit {0})) (before behind : Option (Unit {0}))
    → marks ≡ front ++ (Open ∷ rest) → length front ≡ number → LeavingReported marks mid number text r before behind → ((u : Unit {0}) (back : Vec ℕ) → r ≡ LeaveGo u back → ⊥) → AreInShape mid
    → LeavesText (number == first_unfinished marks) front rest mid text was old old was
leave-stays front rest marks mid number text was old r before behind e place stated none shape =
    by-turn (number == first_unfinished marks) (leaving-at front rest marks mid number text (number == first_unfinished marks) r before behind e place refl stated)
  where
    goes : (n : ℕ) (x : Leaving (Unit {0})) → ((u : Unit {0}) (v : Vec ℕ) → x ≡ LeaveGo u v → ⊥) → LeavesTurn (Goes n text) before x behind → ⊥
    goes n IsLeft never f = f
    goes n (LeaveGo u v) never f = never u v refl
    goes n (LeaveStrange v) never f = f

    by-turn : (t : Bool) → OutcomeLeft (leave-outcome t front rest text (length front)) mid r before behind → LeavesText t front rest mid text was old old was
    by-turn true o = absurd (goes (length front) r none o.1)
    by-turn false o = (o.0, shape, refl, refl)

-- an open number is left, in its turn or before it
abbrev left_open : Bool → ℕ → List ℕ → List Mark → TurnOutcome
left_open t n text marks = if t then (Goes n text, slice_set marks n Held) else (Waits, slice_set marks n (Left text))

-- a number whose text comes back is in its turn
pub leave-in_turn : (marks : List Mark) (n : ℕ) (text : List ℕ) (before behind : Option (Unit {0})) (u : Unit {0}) (back : Vec ℕ) → LeavesTurn (turn_answer (Leave n text) marks) before (LeaveGo u back) behind → (n == first_unfinished marks) ≡ true
leave-in_turn marks n text before behind u back h = by (slice_get marks n) h
  where
    when : (t : Bool) → (n == first_unfinished marks) ≡ t → LeavesTurn ((left_open t n text marks).0) before (LeaveGo u back) behind → (n == first_unfinished marks) ≡ true
    when true e f = e
    when false e f = absurd f

    by : (o : Option Mark) → LeavesTurn ((leave_at o n text marks).0) before (LeaveGo u back) behind → (n == first_unfinished marks) ≡ true
    by None f = absurd f
    by (Some Open) f = when (n == first_unfinished marks) refl f
    by (Some Held) f = absurd f
    by (Some (Left was)) f = absurd f
    by (Some Finished) f = absurd f

-- and the text of an open number in its turn comes back
pub leave-comes_back : (marks : List Mark) (n : ℕ) (text : List ℕ) (before behind : Option (Unit {0})) (r : Leaving (Unit {0})) → slice_get marks n ≡ Some Open → (n == first_unfinished marks) ≡ true → LeavesTurn (turn_answer (Leave n text) marks) before r behind
    → ((u : Unit {0}) (back : Vec ℕ) → r ≡ LeaveGo u back → ⊥) → ⊥
leave-comes_back marks n text before behind r open_is turn h never =
    let O : Option Mark → Type 0 = λ o. LeavesTurn ((leave_at o n text marks).0) before r behind in
    let T : Bool → Type 0 = λ t. LeavesTurn ((left_open t n text marks).0) before r behind in
    goes r never (subst T turn (subst O open_is h))
  where
    goes : (x : Leaving (Unit {0})) → ((u : Unit {0}) (v : Vec ℕ) → x ≡ LeaveGo u v → ⊥) → LeavesTurn (Goes n text) before x behind → ⊥
    goes IsLeft not_go f = f
    goes (LeaveGo u v) not_go f = not_go u v refl
    goes (LeaveStrange v) not_go f = f

-- a number more doesn't change whose turn it is
pub first-issued : (marks : List Mark) → first_unfinished (marks ++ (Open ∷ [])) ≡ first_unfinished marks
first-issued [] = refl
first-issued (Open ∷ marks) = refl
first-issued (Held ∷ marks) = refl
first-issued (Left text ∷ marks) = refl
first-issued (Finished ∷ marks) = ap suc (first-issued marks)

pub leaves-issued : (marks issued new : List Mark) (number : ℕ) (text : List ℕ) (was : Bool) (old now : Sink) (ended : Bool) → issued ≡ marks ++ (Open ∷ []) → number ≡ length marks
    → LeavesText (number == first_unfinished issued) marks [] new text was old now ended → LeavesText (length marks == first_unfinished marks) marks [] new text was old now ended
leaves-issued marks issued new number text was old now ended e place h =
    let T : Bool → Type 0 = λ t. LeavesText t marks [] new text was old now ended in
    subst T (ap (λ n. n == first_unfinished issued) place ∙ ap (λ n. length marks == n) (ap first_unfinished e ∙ first-issued marks)) h

-- a step of a turn leaves as many numbers as there were
length-passed : (o : Option Mark) (k : ℕ) (marks : List Mark) → length (pass_to o k marks).1 ≡ length marks
length-passed None k marks = refl
length-passed (Some Open) k marks = refl
length-passed (Some Held) k marks = refl
length-passed (Some (Left text)) k marks = length-set marks k Held
length-passed (Some Finished) k marks = refl

pub length-finished : (k : ℕ) (marks : List Mark) → length (marks_after_step (Finish k) marks) ≡ length marks
length-finished k marks = by (slice_get marks k)
  where
    by : (o : Option Mark) → length (finish_at o k marks).1 ≡ length marks
    by None = refl
    by (Some Open) = refl
    by (Some Held) = length-passed (slice_get marks (suc k)) (suc k) (slice_set marks k Finished) ∙ length-set marks k Finished
    by (Some (Left text)) = refl
    by (Some Finished) = refl

pub length-left : (k : ℕ) (text : List ℕ) (marks : List Mark) → length (marks_after_step (Leave k text) marks) ≡ length marks
length-left k text marks = by (slice_get marks k)
  where
    outcome : Bool → TurnOutcome
    outcome t = if t then (Goes k text, slice_set marks k Held) else (Waits, slice_set marks k (Left text))

    here : (t : Bool) → length (outcome t).1 ≡ length marks
    here true = length-set marks k Held
    here false = length-set marks k (Left text)

    by : (o : Option Mark) → length (leave_at o k text marks).1 ≡ length marks
    by None = refl
    by (Some Open) = here (k == first_unfinished marks)
    by (Some Held) = refl
    by (Some (Left was)) = refl
    by (Some Finished) = refl

-- what was taken out of its place, and something else put there, gets another value
set-twice : {X : Type 0} (xs : List X) (n : ℕ) (x y : X) → slice_set (slice_set xs n x) n y ≡ slice_set xs n y
set-twice [] n x y = refl
set-twice (z ∷ zs) zero x y = refl
set-twice (z ∷ zs) (suc n) x y = ap (λ r. z ∷ r) (set-twice zs n x y)

get-set : {X : Type 0} (xs : List X) (n : ℕ) (z x : X) → slice_get xs n ≡ Some z → slice_get (slice_set xs n x) n ≡ Some x
get-set [] n z x e = cc
get-set (y ∷ ys) zero z x e = refl
get-set (y ∷ ys) (suc n) z x e = get-set ys n z x e

pub put-in-place : {U : Type 0} (old mid new : List (Option U)) (n : ℕ) (was x v : U) (r : Option U) → slice_get old n ≡ Some (Some was) → mid ≡ slice_set old n (Some x)
    → IfSome r (λ w. (slice_get mid n ≡ Some (Some w)) × (new ≡ slice_set mid n (Some v))) → IfNone r ((value_of (slice_get mid n) ≡ None) × (new ≡ mid)) → new ≡ slice_set old n (Some v)
put-in-place old mid new n was x v (Some w) here is some none = some.1 ∙ (ap (λ l. slice_set l n (Some v)) is ∙ set-twice old n (Some x) (Some v))
put-in-place old mid new n was x v None here is some none =
    let got = ap value_of (ap (λ l. slice_get l n) is ∙ get-set old n (Some was) (Some x) here) in
    let no : Some x ≡ None = sym got ∙ none.0 in
    cc

-- what is kept of a number that waits is one value
pub waiting-is : (u v : OpenRequest UnreadBody) → ◌≡◌ {A = Option (Option Unfinished)} (Some (Some (still.Waiting u))) (Some (Some (still.Waiting v))) → u ≡ v
waiting-is u v e = cc

-- what is known of a number that is held, and of the output, once so many texts are written
pub record TextsWritten {W : Type 0} (here : Holds HeldNumber (TurnsState (Unit {0})) (OutletState W)) (text : List ℕ) (there : Holds HeldNumber (TurnsState (Unit {0})) (OutletState W)) (n : ℕ) : Type 0 where
  pub writes : (front rest : List Mark) → here.numbers.marks ≡ front ++ (Held ∷ rest) → length front ≡ here.turn.0
      → WritesLeft front rest there.numbers.marks there.turn.0 text here.output.ended (output_of here.output) (output_of there.output) there.output.ended
  pub counts : length there.numbers.marks ≡ length here.numbers.marks
  pub once : FailsOnce here.output there.output
  pub keeps : KeepsSent here.output there.output
  pub place : there.turn.0 ≡ here.turn.0 + n
  pub few : (n ≡ 0) ⊎ (there.turn.0 < 2 ^ 64)

plus-none : (n : ℕ) → n ≡ n + 0
plus-none n = omega arith

finishing-reported : (marks new : List Mark) (number : ℕ) (r : Finishing (Unit {0})) (before behind : Option (Unit {0})) → new ≡ marks_after_step (Finish number) marks → Finishes (turn_answer (Finish number) marks) tt before r behind → FinishingReported marks new number r before behind
finishing-reported marks new number r before behind e f = record { marks_are = e; item = f }

pub texts-written : {W : Type 0} (here : Holds HeldNumber (TurnsState (Unit {0})) (OutletState W)) (text : List ℕ) (there : Holds HeldNumber (TurnsState (Unit {0})) (OutletState W)) (n : ℕ)
    → WritesTexts WritesHeld FinishesHeld n here text there → TextsWritten here text there n
texts-written here text there zero h = record {
  writes = λ front rest e place. writes-first front rest there.numbers.marks there.turn.0 text here.output.ended (output_of here.output) (output_of there.output) there.output.ended (ap (λ t. t.marks) h.1 ∙ e) (place ∙ ap (λ k. k.0) (sym h.0.0)) h.0.1;
  counts = ap (λ t. length t.marks) h.1;
  once = h.0.2;
  keeps = h.0.3;
  place = ap (λ k. k.0) h.0.0 ∙ plus-none here.turn.0;
  few = inl refl;
}
texts-written here text there (suc n) h =
    let held = h.0 in
    let left = h.1 in
    let mid = h.2 in
    let i = texts-written here text held n h.3 in
    let f = h.4.0 in
    let w = h.5 in
    let next = f.3 in
    let same = w.0.0 in
    let number : there.turn.0 ≡ held.turn.0 + 1 = ap (λ k. k.0) same ∙ next.1 in
    let place = i.place in
    let was = i.counts in
    record {
      writes = λ front rest e at. (let R : ℕ → List Mark → Type 0 = λ k marks. WritesLeft front rest marks k text here.output.ended (output_of here.output) (output_of there.output) there.output.ended in
          let done = writes-next front rest held.numbers.marks mid.numbers.marks held.turn.0 text here.output.ended (output_of here.output) (output_of held.output) (output_of there.output) held.output.ended there.output.ended
          f.0 left next.0.0 held.numbers.resting mid.numbers.resting (i.writes front rest e at) (finishing-reported held.numbers.marks mid.numbers.marks held.turn.0 f.0 held.numbers.resting mid.numbers.resting f.1 f.2) next.0.1 (sends-at held.output mid.output there.output left.items h.4.1 w.0.1) in
          subst (λ k. R k there.numbers.marks) (sym number) (subst (λ marks. R (held.turn.0 + 1) marks) (ap (λ t. t.marks) (sym w.1)) done));
      counts = ap (λ t. length t.marks) w.1 ∙ (ap length f.1 ∙ (length-finished held.turn.0 held.numbers.marks ∙ was));
      once = once-append here.output.ended held.output.ended there.output.ended (output_of here.output) (output_of held.output) (output_of there.output) i.once (fails-at held.output mid.output there.output h.4.1 w.0.2);
      keeps = IsFront-append (output_of here.output).sent (output_of held.output).sent (output_of there.output).sent i.keeps (keeps-at held.output mid.output there.output h.4.1 w.0.3);
      place = omega (arith, number, place);
      few = inr (rw (same) next.2);
    }
  where
    sends-at : {W : Type 0} (o p u : OutletState W) (t : List ℕ) → p ≡ o → SendsQuietlyOn p u t → SendsQuietlyOn o u t
    sends-at {W = W} o p u t e s = let P : OutletState W → Type 0 = λ x. SendsQuietlyOn x u t in subst P e s

    fails-at : {W : Type 0} (o p u : OutletState W) → p ≡ o → FailsOnce p u → FailsOnce o u
    fails-at {W = W} o p u e s = let P : OutletState W → Type 0 = λ x. FailsOnce x u in subst P e s

    keeps-at : {W : Type 0} (o p u : OutletState W) → p ≡ o → KeepsSent p u → KeepsSent o u
    keeps-at {W = W} o p u e s = let P : OutletState W → Type 0 = λ x. KeepsSent x u in subst P e s

-- a turn passed on: the texts are written, and the front is finished
pub passes-on : {W : Type 0} (here : Holds HeldNumber (TurnsState (Unit {0})) (OutletState W)) (text : List ℕ) (there : Holds HeldNumber (TurnsState (Unit {0})) (OutletState W)) → PassesOn WritesHeld FinishesHeld here text there
    → ((front rest : List Mark) → here.numbers.marks ≡ front ++ (Held ∷ rest) → length front ≡ here.turn.0
    → FinishesFront front rest there.numbers.marks × SendsQuietlyOn here.output there.output (text ++ left_text rest))
    × (length there.numbers.marks ≡ length here.numbers.marks) × FailsOnce here.output there.output × KeepsSent here.output there.output
passes-on {W = W} here text there p = ⊎_elim ends (λ many. absurd (none many.0)) p.ends
  where
    i : TextsWritten here text p.last p.passed
    i = texts-written here text p.last p.passed p.texts

    none : p.passed ≡ 2 ^ 64 → ⊥
    none many = ⊎_elim (λ no. omega (arith, no, many)) (λ few. (let place = i.place in omega (arith, few, place, many))) i.few

    Goal : OutletState W → Type 0
    Goal o = ((front rest : List Mark) → here.numbers.marks ≡ front ++ (Held ∷ rest) → length front ≡ here.turn.0
        → FinishesFront front rest there.numbers.marks × SendsQuietlyOn here.output o (text ++ left_text rest))
        × (length there.numbers.marks ≡ length here.numbers.marks) × FailsOnce here.output o × KeepsSent here.output o

    ends : FinishesOne FinishesHeld p.last None there → Goal there.output
    ends f =
        let g = f.0 in
        subst Goal (sym f.1) (
          λ front rest e place. writes-last front rest p.last.numbers.marks there.numbers.marks p.last.turn.0 text here.output.ended (output_of here.output) (output_of p.last.output) p.last.output.ended g.0 p.last.numbers.resting there.numbers.resting (i.writes front rest e place)
              (finishing-reported p.last.numbers.marks there.numbers.marks p.last.turn.0 g.0 p.last.numbers.resting there.numbers.resting g.1 g.2) g.3,
          ap length g.1 ∙ (length-finished p.last.turn.0 p.last.numbers.marks ∙ i.counts),
          i.once,
          i.keeps,
        )

-- the last number, if it waits, is told that the connection ends
number-alone : (u : Option Unfinished) → waiting_response_context (Some u) ≡ None → closing_number u ≡ u
number-alone None e = refl
number-alone (Some (still.Waiting w)) e = cc
number-alone (Some still.Raw) e = refl
number-alone (Some (still.Upgraded b)) e = refl

pub closing-set : (us : List (Option Unfinished)) (n : ℕ) (w : OpenRequest UnreadBody) → n + 1 ≡ length us → slice_get us n ≡ Some (Some (still.Waiting w)) → slice_set us n (Some (still.Waiting (closing w))) ≡ with_last closing_number us
closing-set [] n w e g = cc
closing-set (u ∷ []) zero w e g = let is : u ≡ Some (still.Waiting w) = cc in ap (λ x. closing_number x ∷ []) (sym is)
closing-set (u ∷ []) (suc n) w e g = cc
closing-set (u ∷ v ∷ us) zero w e g = absurd (omega (arith, e))
closing-set (u ∷ v ∷ us) (suc n) w e g = ap (λ l. u ∷ l) (closing-set (v ∷ us) n w (omega (arith, e)) g)

pub closing-none : (us : List (Option Unfinished)) (n : ℕ) → n + 1 ≡ length us → waiting_response_context (slice_get us n) ≡ None → with_last closing_number us ≡ us
closing-none [] n e g = refl
closing-none (u ∷ []) zero e g = ap (λ x. x ∷ []) (number-alone u g)
closing-none (u ∷ []) (suc n) e g = absurd (omega (arith, e))
closing-none (u ∷ v ∷ us) zero e g = absurd (omega (arith, e))
closing-none (u ∷ v ∷ us) (suc n) e g = ap (λ l. u ∷ l) (closing-none (v ∷ us) n (omega (arith, e)) g)

-- none was given out
pub closing-first : (us : List (Option Unfinished)) → length us ≡ 0 → with_last closing_number us ≡ us
closing-first [] e = refl
closing-first (u ∷ us) e = absurd (omega (arith, e))
