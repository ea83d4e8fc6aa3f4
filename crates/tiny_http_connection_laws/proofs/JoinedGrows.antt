-- A step only adds to the joined output, and its own text is what it adds first.
use Rattle.std.proofs.Common.{◌≡◌, refl, sym, ap, ◌∙◌, subst, ℕ, zero, suc, Bool, true, false, not, ◌&&◌, List, [], ◌∷◌, ◌++◌, take, Option, Some, append_assoc, append-nil}
use Rattle.std.specs.Prelude.{if◌then◌else◌, slice_get, slice_set}
use Rattle.std.specs.List.{list_all}
use Rattle.std.specs.declared.io.ErrorKind.{ErrorKind}
use Rattle.std.proofs.lemmas.Bool.{and_parts}
use Rattle.tiny_http_io.specs.Device.{IsFront}
use Rattle.tiny_http_response.proofs.SendingLemmas.{or-parts}
use Rattle.tiny_http_connection.specs.Segments.{Slot, Stage, Unanswered, Answered, ByServer, Raw, Upgraded, segment, is_slot_broken, is_stage_finished, is_finished}
use Rattle.tiny_http_connection.specs.Slots.{is_output_broken, joined, turn_has_come}
use Rattle.tiny_http_connection.specs.Steps.{StepValue, Read, Write, Flush, Finish, ReplyValue}
use Rattle.tiny_http_connection.specs.Outcomes.{WriterUse, Unused, Unreported, Reported, Outcome, Reached, unchanged, changes, accepts_step, use_in_turn}

-- more numbers send as much, and more
pub rest-grows : (c : Bool) (w u v : List ℕ) → IsFront u v → IsFront (w ++ (if c then u else [])) (w ++ (if c then v else []))
rest-grows true w u v h = (h.0, ap (λ r. w ++ r) h.1 ∙ sym (append_assoc w u h.0))
rest-grows false w u v h = ([], sym (append-nil (w ++ [])))

pub joined-grows : (xs ys : List Slot) → IsFront (joined xs) (joined (xs ++ ys))
joined-grows [] ys = (joined ys, refl)
joined-grows (x ∷ xs) ys = rest-grows (is_finished x && not (is_slot_broken x)) (segment x) (joined xs) (joined (xs ++ ys)) (joined-grows xs ys)

-- an unfinished number has sent this text more
pub record SendsMore (s t : Slot) (own : List ℕ) : Type 0 where
  pub waits : is_finished s ≡ false
  pub more : segment t ≡ segment s ++ own

some-same : {A : Type 0} (x y : A) → Some x ≡ Some y → x ≡ y
some-same x y e = cc

waits-front : (s : Slot) (rest : List ℕ) (b : Bool) → is_finished s ≡ false → segment s ++ (if (is_finished s && b) then rest else []) ≡ segment s
waits-front s rest b e = rw e (append-nil (segment s))

pub set-grows : (slots : List Slot) (k : ℕ) (s t : Slot) (own : List ℕ) → slice_get slots k ≡ Some s → SendsMore s t own → IsFront (joined slots) (joined (slice_set slots k t))
set-grows [] k s t own e m = cc
set-grows (x ∷ xs) zero s t own e m =
    let same : s ≡ x = sym (some-same x s e) in
    let W : Slot → Type 0 = λ y. SendsMore y t own in
    let n = subst W same m in
    let rest = if (is_finished t && not (is_slot_broken t)) then joined xs else [] in
    (own ++ rest, ap (λ y. y ++ rest) n.more ∙ append_assoc (segment x) own rest ∙ ap (λ y. y ++ (own ++ rest)) (sym (waits-front x (joined xs) (not (is_slot_broken x)) n.waits)))
set-grows (x ∷ xs) (suc k) s t own e m =
    rest-grows (is_finished x && not (is_slot_broken x)) (segment x) (joined xs) (joined (slice_set xs k t)) (set-grows xs k s t own e m)

pub set-own : (slots : List Slot) (k : ℕ) (s t : Slot) (own : List ℕ) → slice_get slots k ≡ Some s → SendsMore s t own → turn_has_come k slots ≡ true → is_output_broken slots ≡ false
    → IsFront (joined slots ++ own) (joined (slice_set slots k t))
set-own [] k s t own e m turn none = cc
set-own (x ∷ xs) zero s t own e m turn none =
    let same : s ≡ x = sym (some-same x s e) in
    let W : Slot → Type 0 = λ y. SendsMore y t own in
    let n = subst W same m in
    let rest = if (is_finished t && not (is_slot_broken t)) then joined xs else [] in
    (rest, ap (λ y. y ++ rest) n.more ∙ ap (λ y. (y ++ own) ++ rest) (sym (waits-front x (joined xs) (not (is_slot_broken x)) n.waits)))
set-own (x ∷ xs) (suc k) s t own e m turn none =
    let h = and_parts (is_finished x) (list_all is_finished (take k xs)) turn in
    let c = or-parts (is_slot_broken x) (is_finished x && is_output_broken xs) none in
    let c2 : is_output_broken xs ≡ false = rw h.0 at c.1 in
    let go = set-own xs k s t own e m h.1 c2 in
    rw (h.0, c.0) (go.0, ap (λ y. segment x ++ y) go.1 ∙ sym (append_assoc (segment x) (joined xs ++ own) go.0) ∙ ap (λ y. y ++ go.0) (sym (append_assoc (segment x) (joined xs) own)))

-- What a step does to the joined output: it adds to it; and where it writes a text that it reports faults of, that comes first.
abbrev pub AddsOwn : WriterUse → List Slot → List Slot → Type 0
AddsOwn Unused old new = Unit {0}
AddsOwn Unreported old new = Unit {0}
AddsOwn (Reported own broken flushes report) old new = is_output_broken old ≡ false → IsFront (joined old ++ own) (joined new)

pub record Adds (old : List Slot) (o : Outcome) : Type 0 where
  pub front : IsFront (joined old) (joined o.slots)
  pub own : AddsOwn o.writer old o.slots

pub adds-nothing : (old : Reached) (reply : ReplyValue) → Adds old.slots (unchanged old reply)
adds-nothing old reply = record { front = ([], sym (append-nil (joined old.slots))); own = tt }

-- a step that needs its number's turn, and one that doesn't
adds-own : (old : Reached) (k : ℕ) (s t : Slot) (own : List ℕ) (broken : Option ErrorKind) (flushes : Bool) (report : ErrorKind → ReplyValue) (reply : ReplyValue)
    → slice_get old.slots k ≡ Some s → SendsMore s t own → turn_has_come k old.slots ≡ true → Adds old.slots (changes old k t reply (Reported own broken flushes report))
adds-own old k s t own broken flushes report reply e m turn = record { front = set-grows old.slots k s t own e m; own = λ none. set-own old.slots k s t own e m turn none }

abbrev IsOwnless : WriterUse → Type 0
IsOwnless Unused = Unit {0}
IsOwnless Unreported = Unit {0}
IsOwnless (Reported own broken flushes report) = ⊥

ownless : (w : WriterUse) (old new : List Slot) → IsOwnless w → AddsOwn w old new
ownless Unused old new h = tt
ownless Unreported old new h = tt
ownless (Reported own broken flushes report) old new h = elim h [ ]

pub in-turn-ownless : (turn : Bool) (old new : List Slot) → AddsOwn (use_in_turn turn) old new
in-turn-ownless true old new = tt
in-turn-ownless false old new = tt

adds : (old : Reached) (k : ℕ) (s t : Slot) (own : List ℕ) (reply : ReplyValue) (w : WriterUse) → slice_get old.slots k ≡ Some s → SendsMore s t own → AddsOwn w old.slots (slice_set old.slots k t) → Adds old.slots (changes old k t reply w)
adds old k s t own reply w e m h = record { front = set-grows old.slots k s t own e m; own = h }

-- stages that take a step are unfinished
by-not : (ends : Bool) → not ends ≡ true → ends ≡ false
by-not true e = cc
by-not false e = refl

no-step : {G : Type 0} → false ≡ true → G
no-step e = cc

pub taken-unfinished : (stage : Stage) (owed : Bool) (step : StepValue) → accepts_step stage owed step ≡ true → is_stage_finished stage ≡ false
taken-unfinished Unanswered owed step e = refl
taken-unfinished (Answered response date found) owed step e = no-step e
taken-unfinished ByServer owed step e = no-step e
taken-unfinished (Raw written ends) owed (Write k bytes) e = by-not ends e
taken-unfinished (Raw written ends) owed (Flush k) e = by-not ends e
taken-unfinished (Raw written ends) owed (Finish k) e = by-not ends e
taken-unfinished (Raw written ends) owed _ e = no-step e
taken-unfinished (Upgraded protocol response date written ends) owed (Write k bytes) e = by-not ends e
taken-unfinished (Upgraded protocol response date written ends) owed (Flush k) e = by-not ends e
taken-unfinished (Upgraded protocol response date written ends) owed (Finish k) e = by-not ends e
taken-unfinished (Upgraded protocol response date written ends) owed (Read k n) e = by-not ends e
taken-unfinished (Upgraded protocol response date written ends) owed _ e = no-step e
