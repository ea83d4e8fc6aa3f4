-- Each number that a run reached is that of one item of its pipeline, and has the answer of a step of its own.
use Rattle.std.proofs.Common.{◌≡◌, refl, sym, ap, ◌∙◌, subst, ℕ, zero, suc, ◌+◌, ◌⊎◌, inl, inr, Bool, true, false, not, ◌&&◌, List, [], ◌∷◌, ◌++◌, map, length, Option, Some, None, append_assoc, append-nil, ⊎_elim}
use Rattle.std.specs.Prelude.{⊤, if◌then◌else◌, slice_get, slice_set, take, drop, nat_lt, ◌==◌, ◌||◌}
use Rattle.std.proofs.lemmas.Bool.Decides.{eqb_tells}
use Rattle.httpdate.specs.declared.date.HttpDate.{HttpDate}
use Rattle.tiny_http_io.specs.Device.{Feed, Sink}
use Rattle.tiny_http_body.specs.declared.framing.Profile.{Profile}
use Rattle.tiny_http_open_request.specs.Pipeline.{Item, Asks, Refuses, Request}
use Rattle.tiny_http_response.specs.ResponseValue.{ResponseValue}
use Rattle.tiny_http_connection.specs.Segments.{Slot, Stage, Unanswered, Answered, ByServer, Raw, Upgraded, to_request, text_if}
use Rattle.tiny_http_connection.specs.Slots.{turn_has_come, new_slot, rest_of, last_slot, with_last, closing_slot, last_holds_reader, last_was_abandoned, ends_when_finished, closes_now, refuses_response, refuses_upgrade, upgraded_slot, as_stream}
use Rattle.tiny_http_connection.specs.Steps.{StepValue, Ask, AsReader, Read, Respond, IntoWriter, Write, Flush, Upgrade, Finish, Drop, ReplyValue, Ended, Given, Fault, NotYet, Done, Refused, NoSuch, Memory, TimedValue, number_of}
use Rattle.tiny_http_connection.specs.Outcomes.{WriterUse, Unused, Unreported, Reported, Outcome, Reached, unchanged, changes, asks_from, ask, read_reply, finished_as, written_to, stage_closed, fault_in, fault_reply, accepts_step, needs_turn, use_in_turn, ends_asking, ends_with_stream, asked_to_close, answers_slot, answers, effect, at_item, at_slot, at_number, outcome}
use Rattle.tiny_http_connection.specs.Conversation.{State, HasOutcome, FindsNoMemory, answers_to, StepsTo, Run, start_state, IsConversation}
use Rattle.tiny_http_connection.proofs.ConnectionClosing.{by-closing}
use Rattle.tiny_http_connection_laws.specs.InShort.{AreOfOneHead, maker, IsAmong}
use Rattle.tiny_http_connection_laws.proofs.InShortReads.{same-some, get-set, get-other, not-true}

-- ---- numbers and items

abbrev pub Matches : List Slot → List Item → Type 0
Matches [] [] = ⊤
Matches (s ∷ slots) (item ∷ items) = AreOfOneHead s.item item × Matches slots items
Matches [] (item ∷ items) = ⊥
Matches (s ∷ slots) [] = ⊥

own-head : (item : Item) → AreOfOneHead item item
own-head (Asks r) = (refl, refl, refl, refl)
own-head (Refuses refusal manner no_body last) = refl

-- what becomes of a number that a step changes: its head stays, and its answer is its own, or that of the step
record Alike (k : ℕ) (made : TimedValue) (s t : Slot) : Type 0 where
  head : (item : Item) → AreOfOneHead s.item item → AreOfOneHead t.item item
  stage : (x : TimedValue) → maker k t.stage ≡ Some x → (made ≡ x) ⊎ (maker k s.stage ≡ Some x)

matches-set : (slots : List Slot) (items : List Item) (j : ℕ) (s t : Slot) → slice_get slots j ≡ Some s → ((item : Item) → AreOfOneHead s.item item → AreOfOneHead t.item item) → Matches slots items → Matches (slice_set slots j t) items
matches-set [] items j s t here head h = cc
matches-set (x ∷ xs) [] j s t here head h = elim h [ ]
matches-set (x ∷ xs) (i ∷ items) zero s t here head h =
    let is : s ≡ x = sym (same-some x s here) in
    (head i (subst (λ (y : Slot). AreOfOneHead y.item i) (sym is) h.0), h.1)
matches-set (x ∷ xs) (i ∷ items) (suc j) s t here head h = (h.0, matches-set xs items j s t here head h.1)

matches-one : (slots : List Slot) (items : List Item) (s : Slot) (item : Item) → Matches slots items → AreOfOneHead s.item item → Matches (slots ++ s ∷ []) (items ++ item ∷ [])
matches-one [] [] s item h e = (e, tt)
matches-one [] (i ∷ items) s item h e = elim h [ ]
matches-one (x ∷ xs) [] s item h e = elim h [ ]
matches-one (x ∷ xs) (i ∷ items) s item h e = (h.0, matches-one xs items s item h.1 e)

pub matches-get : (slots : List Slot) (items rest : List Item) (k : ℕ) (s : Slot) → Matches slots items → slice_get slots k ≡ Some s → (item : Item) × (slice_get (items ++ rest) k ≡ Some item) × AreOfOneHead s.item item
matches-get [] items rest k s h e = cc
matches-get (x ∷ xs) [] rest k s h e = elim h [ ]
matches-get (x ∷ xs) (i ∷ items) rest zero s h e =
    let is : x ≡ s = same-some x s e in
    (i, refl, subst (λ (y : Slot). AreOfOneHead y.item i) is h.0)
matches-get (x ∷ xs) (i ∷ items) rest (suc k) s h e = matches-get xs items rest k s h.1 e

-- ---- the last number is told that the connection ends

closing-item : (s : Slot) → (closing_slot s).item ≡ s.item
closing-item s = by-closing (λ t. t.item ≡ s.item) s (λ u. refl) refl

closing-stage : (s : Slot) → (closing_slot s).stage ≡ s.stage
closing-stage s = by-closing (λ t. t.stage ≡ s.stage) s (λ u. refl) refl

matches-closing : (slots : List Slot) (items : List Item) → Matches slots items → Matches (with_last closing_slot slots) items
matches-closing [] items h = h
matches-closing (s ∷ []) [] h = elim h [ ]
matches-closing (s ∷ []) (i ∷ items) h = (subst (λ x. AreOfOneHead x i) (sym (closing-item s)) h.0, h.1)
matches-closing (s ∷ t ∷ slots) [] h = elim h [ ]
matches-closing (s ∷ t ∷ slots) (i ∷ items) h = (h.0, matches-closing (t ∷ slots) items h.1)

-- the stage under a number is as it was
closing-was : (slots : List Slot) (k : ℕ) (s : Slot) → slice_get (with_last closing_slot slots) k ≡ Some s → (was : Slot) × (slice_get slots k ≡ Some was) × (was.stage ≡ s.stage)
closing-was [] k s e = cc
closing-was (x ∷ []) zero s e =
    let is : closing_slot x ≡ s = same-some (closing_slot x) s e in
    (x, refl, sym (closing-stage x) ∙ ap (λ (y : Slot). y.stage) is)
closing-was (x ∷ []) (suc k) s e = cc
closing-was (x ∷ y ∷ slots) zero s e = (s, e, refl)
closing-was (x ∷ y ∷ slots) (suc k) s e = closing-was (y ∷ slots) k s e

-- ---- a step

-- where the answer under a number comes from
abbrev ComesFrom : TimedValue → List Slot → List Slot → Type 0
ComesFrom made old new = (k : ℕ) (s : Slot) (x : TimedValue) → slice_get new k ≡ Some s → maker k s.stage ≡ Some x
    → (made ≡ x) ⊎ ((was : Slot) × (slice_get old k ≡ Some was) × (maker k was.stage ≡ Some x))

-- which items are reached
abbrev pub Goes : List Slot → List Item → List Slot → List Item → Type 0
Goes old rest slots left = (items : List Item) → Matches old items → (more : List Item) × (rest ≡ more ++ left) × Matches slots (items ++ more)

record Fits (made : TimedValue) (slots : List Slot) (rest : List Item) (o : Outcome) : Type 0 where
  goes : Goes slots rest o.slots o.rest
  comes : ComesFrom made slots o.slots

goes-nowhere : (slots : List Slot) (rest : List Item) (now : List Slot) → ((items : List Item) → Matches slots items → Matches now items) → Goes slots rest now rest
goes-nowhere slots rest now m = λ items h. ([], refl, subst (λ (x : List Item). Matches now x) (sym (append-nil items)) (m items h))

idle : (made : TimedValue) (old : Reached) (reply : ReplyValue) → Fits made old.slots old.rest (unchanged old reply)
idle made old reply = record { goes = goes-nowhere old.slots old.rest old.slots (λ items h. h); comes = λ k s x e m. inr (s, e, m) }

comes-set : (made : TimedValue) (slots : List Slot) (j : ℕ) (s t : Slot) → slice_get slots j ≡ Some s → Alike j made s t → ComesFrom made slots (slice_set slots j t)
comes-set made slots j s t here a k u x e m =
    ⊎_elim
    (λ yes.
    let there : slice_get (slice_set slots j t) j ≡ Some u = ap (λ n. slice_get (slice_set slots j t) n) yes.1 ∙ e in
    let is : u ≡ t = same-some u t (sym there ∙ get-set slots j s t here) in
    let now : maker j t.stage ≡ Some x = ap (λ (y : Slot). maker j y.stage) (sym is) ∙ ap (λ n. maker n u.stage) yes.1 ∙ m in
    ⊎_elim
    (λ n. inl n)
    (λ o. inr (s, ap (λ n. slice_get slots n) (sym yes.1) ∙ here, ap (λ n. maker n s.stage) (sym yes.1) ∙ o))
    (a.stage x now))
    (λ no. inr (u, sym (get-other slots j k t no.1) ∙ e, m))
    (eqb_tells j k)

changed : (made : TimedValue) (old : Reached) (j : ℕ) (s t : Slot) (reply : ReplyValue) (w : WriterUse) → slice_get old.slots j ≡ Some s → Alike j made s t → Fits made old.slots old.rest (changes old j t reply w)
changed made old j s t reply w here a =
    record {
      goes = goes-nowhere old.slots old.rest (slice_set old.slots j t) (λ items h. matches-set old.slots items j s t here a.head h);
      comes = comes-set made old.slots j s t here a;
    }

fits-if : (made : TimedValue) (slots : List Slot) (rest : List Item) (b : Bool) (x y : Outcome) → Fits made slots rest x → Fits made slots rest y → Fits made slots rest (if b then x else y)
fits-if made slots rest true x y h g = h
fits-if made slots rest false x y h g = g

fits-ended : (made : TimedValue) (slots : List Slot) (rest : List Item) (ends : Bool) (o : Outcome) → Fits made slots rest o → Fits made slots rest (ends_asking ends o)
fits-ended made slots rest ends o h = record { goes = h.goes; comes = h.comes }

-- the head is kept
kept : (j : ℕ) (made : TimedValue) (s t : Slot) → t.item ≡ s.item → ((x : TimedValue) → maker j t.stage ≡ Some x → (made ≡ x) ⊎ (maker j s.stage ≡ Some x)) → Alike j made s t
kept j made s t e stage = record { head = λ item h. subst (λ x. AreOfOneHead x item) (sym e) h; stage = stage }

answered-fits : (found : Bool) (date : HttpDate) (old : Reached) (r : Request) (j : ℕ) (response : ResponseValue) → Fits (date, Respond j response) old.slots old.rest (answers found date old r j response)
answered-fits found date old r j response = go (slice_get old.slots j) refl
  where
    go : (o : Option Slot) → slice_get old.slots j ≡ o → Fits (date, Respond j response) old.slots old.rest (answers_slot found date old r j response o)
    go None e = idle (date, Respond j response) old NoSuch
    go (Some s) e =
        let made : TimedValue = (date, Respond j response) in
        let closes = closes_now r s.closes s.owed s.given s.end_reported in
        let text = text_if found response (to_request closes r date) in
        let t = finished_as closes s (Answered response date found) in
        let w = Reported text.bytes (fault_in text.ending) true fault_reply in
        fits-ended made old.slots old.rest (ends_when_finished r s.owed s.given s.end_reported) (changes old j t Done w)
        (changed made old j s t Done w e (kept j made s t refl (λ x m. inl (same-some made x m))))

-- what a step finds of numbers that were told, it finds of them as they were
accounts-fits : (made : TimedValue) (old : Reached) (o : Outcome) → Fits made (with_last closing_slot old.slots) old.rest o → Fits made old.slots old.rest o
accounts-fits made old o h =
    record {
      goes = λ items m. h.goes items (matches-closing old.slots items m);
      comes = λ k s x e m.
          ⊎_elim
          (λ n. inl n)
          (λ was.
          let before = closing-was old.slots k was.0 was.1 in
          inr (before.0, before.1, ap (λ y. maker k y) before.2 ∙ was.2))
          (h.comes k s x e m);
    }

asked-fits : (found : Bool) (date : HttpDate) (old : Reached) (r : Request) (j : ℕ) (response : ResponseValue) (closes : Bool) → Fits (date, Respond j response) old.slots old.rest (answers found date (asked_to_close closes old) r j response)
asked-fits found date old r j response false = answered-fits found date old r j response
asked-fits found date old r j response true =
    accounts-fits (date, Respond j response) old (answers found date (asked_to_close true old) r j response) (answered-fits found date (asked_to_close true old) r j response)

pub written-made : (k : ℕ) (bytes : List ℕ) (stage : Stage) → maker k (written_to bytes stage) ≡ maker k stage
written-made k bytes Unanswered = refl
written-made k bytes (Answered response date found) = refl
written-made k bytes ByServer = refl
written-made k bytes (Raw written closed) = refl
written-made k bytes (Upgraded protocol response date written closed) = refl

pub closed-made : (k : ℕ) (stage : Stage) → maker k (stage_closed stage) ≡ maker k stage
closed-made k Unanswered = refl
closed-made k (Answered response date found) = refl
closed-made k ByServer = refl
closed-made k (Raw written closed) = refl
closed-made k (Upgraded protocol response date written closed) = refl

streamed-head : (r : Request) (item : Item) → AreOfOneHead (Asks r) item → AreOfOneHead (Asks (as_stream r)) item
streamed-head r (Asks q) h = h
streamed-head r (Refuses refusal manner no_body last) h = cc

upgraded-alike : (j : ℕ) (made : TimedValue) (q : Request) (s : Slot) (stage : Stage) → s.item ≡ Asks q → maker j stage ≡ Some made → Alike j made s (upgraded_slot q s stage)
upgraded-alike j made q s stage is m = go q.framing.by_standard
  where
    by : (x : TimedValue) → maker j stage ≡ Some x → made ≡ x
    by x e = let same : Some made ≡ Some x = sym m ∙ e in cc

    go : (b : Bool) → Alike j made s (if b then record s { item = Asks (as_stream q); given = 0; end_reported = false; stage = stage; owed = false } else record s { stage = stage; owed = false })
    go true = record { head = λ item h. streamed-head q item (subst (λ x. AreOfOneHead x item) is h); stage = λ x e. inl (by x e) }
    go false = record { head = λ item h. h; stage = λ x e. inl (by x e) }

effect-fits : (found : Bool) (date : HttpDate) (old : Reached) (r : Request) (s : Slot) (turn : Bool) (step : StepValue) → slice_get old.slots (number_of step) ≡ Some s → s.item ≡ Asks r
    → Fits (date, step) old.slots old.rest (effect found date old r s turn step)
effect-fits found date old r s turn Ask here is = idle (date, Ask) old NoSuch
effect-fits found date old r s turn (AsReader j) here is =
    let made : TimedValue = (date, AsReader j) in
    let t : Slot = record s { owed = false; continued = Some date } in
    fits-if made old.slots old.rest s.owed (changes old j t Done Unreported) (unchanged old Done)
    (changed made old j s t Done Unreported here (kept j made s t refl (λ x m. inr m)))
    (idle made old Done)
effect-fits found date old r s turn (Read j n) here is =
    let made : TimedValue = (date, Read j n) in
    let left = (rest_of r s.given).bytes in
    let t : Slot = record s { given = s.given + length (take n left); end_reported = s.end_reported || nat_lt (length left) n } in
    let reply = read_reply n left r.body.stop in
    fits-if made old.slots old.rest (n == 0) (unchanged old (Given [])) (changes old j t reply Unused)
    (idle made old (Given []))
    (changed made old j s t reply Unused here (kept j made s t refl (λ x m. inr m)))
effect-fits found date old r s turn (Respond j response) here is =
    let made : TimedValue = (date, Respond j response) in
    let d = finished_as (closes_now r s.closes s.owed s.given s.end_reported) s ByServer in
    let ends = ends_when_finished r s.owed s.given s.end_reported in
    let refused = changes old j d Refused (use_in_turn turn) in
    fits-if made old.slots old.rest (refuses_response r response) (ends_asking ends refused) (answers found date (asked_to_close response.answer.closes old) r j response)
    (fits-ended made old.slots old.rest ends refused (changed made old j s d Refused (use_in_turn turn) here (kept j made s d refl (λ x m. cc))))
    (asked-fits found date old r j response response.answer.closes)
effect-fits found date old r s turn (IntoWriter j) here is =
    let made : TimedValue = (date, IntoWriter j) in
    let t : Slot = record s { stage = Raw [] false; given_up = true; owed = false } in
    fits-ended made old.slots old.rest (ends_with_stream r s.owed s.given s.end_reported) (changes old j t Done Unused)
    (changed made old j s t Done Unused here (kept j made s t refl (λ x m. cc)))
effect-fits found date old r s turn (Write j bytes) here is =
    let made : TimedValue = (date, Write j bytes) in
    let t : Slot = record s { stage = written_to bytes s.stage } in
    changed made old j s t Done (Reported bytes None false Fault) here (kept j made s t refl (λ x m. inr (sym (written-made j bytes s.stage) ∙ m)))
effect-fits found date old r s turn (Flush j) here is =
    let made : TimedValue = (date, Flush j) in
    changed made old j s s Done (Reported [] None true Fault) here (kept j made s s refl (λ x m. inr m))
effect-fits found date old r s turn (Upgrade j protocol response) here is =
    let made : TimedValue = (date, Upgrade j protocol response) in
    let d = finished_as (closes_now r s.closes s.owed s.given s.end_reported) s ByServer in
    let ends = ends_when_finished r s.owed s.given s.end_reported in
    let refused = changes old j d Refused (use_in_turn turn) in
    let stage = Upgraded protocol response date [] false in
    let goes = ends_with_stream r s.owed s.given s.end_reported in
    let t = upgraded_slot r s stage in
    fits-if made old.slots old.rest (refuses_upgrade r s protocol response) (ends_asking ends refused) (ends_asking goes (changes old j t Done Unreported))
    (fits-ended made old.slots old.rest ends refused (changed made old j s d Refused (use_in_turn turn) here (kept j made s d refl (λ x m. cc))))
    (fits-ended made old.slots old.rest goes (changes old j t Done Unreported) (changed made old j s t Done Unreported here (upgraded-alike j made r s stage is refl)))
effect-fits found date old r s turn (Finish j) here is =
    let made : TimedValue = (date, Finish j) in
    let t = finished_as s.closes s (stage_closed s.stage) in
    changed made old j s t Done (use_in_turn turn) here (kept j made s t refl (λ x m. inr (sym (closed-made j s.stage) ∙ m)))
effect-fits found date old r s turn (Drop j) here is =
    let made : TimedValue = (date, Drop j) in
    let d = finished_as (closes_now r s.closes s.owed s.given s.end_reported) s ByServer in
    let ends = ends_when_finished r s.owed s.given s.end_reported in
    fits-ended made old.slots old.rest ends (changes old j d Done (use_in_turn turn)) (changed made old j s d Done (use_in_turn turn) here (kept j made s d refl (λ x m. cc)))

number-fits : (found : Bool) (date : HttpDate) (old : Reached) (step : StepValue) → Fits (date, step) old.slots old.rest (at_number found date old (number_of step) step)
number-fits found date old step = go (slice_get old.slots (number_of step)) refl
  where
    item : (s : Slot) (i : Item) → slice_get old.slots (number_of step) ≡ Some s → s.item ≡ i → Fits (date, step) old.slots old.rest (at_item found date old (number_of step) step s i)
    item s (Refuses refusal manner no_body last) here is = idle (date, step) old NoSuch
    item s (Asks r) here is =
        let turn = turn_has_come (number_of step) old.slots in
        fits-if (date, step) old.slots old.rest (not (accepts_step s.stage s.owed step)) (unchanged old NoSuch)
        (if (needs_turn r s step && not turn) then unchanged old NotYet else effect found date old r s turn step)
        (idle (date, step) old NoSuch)
        (fits-if (date, step) old.slots old.rest (needs_turn r s step && not turn) (unchanged old NotYet) (effect found date old r s turn step) (idle (date, step) old NotYet) (effect-fits found date old r s turn step here is))

    go : (o : Option Slot) → slice_get old.slots (number_of step) ≡ o → Fits (date, step) old.slots old.rest (at_slot found date old (number_of step) step o)
    go None e = idle (date, step) old NoSuch
    go (Some s) e = item s s.item e refl

-- ---- an Ask

new-item : (date : HttpDate) (item : Item) → AreOfOneHead (new_slot date item).item item
new-item date (Asks r) = (refl, refl, refl, refl)
new-item date (Refuses refusal manner no_body last) = refl

new-made : (k : ℕ) (date : HttpDate) (item : Item) (x : TimedValue) → maker k (new_slot date item).stage ≡ Some x → Some x ≡ None
new-made k date (Asks r) x m = cc
new-made k date (Refuses refusal manner no_body last) x m = cc

-- under a number of a longer list stands what stood there, or what was added
one-more-was : (slots : List Slot) (t : Slot) (k : ℕ) (s : Slot) → slice_get (slots ++ t ∷ []) k ≡ Some s → (slice_get slots k ≡ Some s) ⊎ (s ≡ t)
one-more-was [] t zero s e = inr (sym (same-some t s e))
one-more-was [] t (suc k) s e = cc
one-more-was (x ∷ xs) t zero s e = inl e
one-more-was (x ∷ xs) t (suc k) s e = one-more-was xs t k s e

comes-one : (made : TimedValue) (old slots : List Slot) (date : HttpDate) (item : Item) → ComesFrom made old slots → ComesFrom made old (slots ++ new_slot date item ∷ [])
comes-one made old slots date item h k s x e m =
    ⊎_elim
    (λ was. h k s x was m)
    (λ is.
    let none : Some x ≡ None = new-made k date item x (ap (λ (y : Slot). maker k y.stage) (sym is) ∙ m) in
    cc)
    (one-more-was slots (new_slot date item) k s e)

-- one item more is reached
goes-one : (old : List Slot) (rest : List Item) (slots : List Slot) (date : HttpDate) (item : Item) (left : List Item) → Goes old rest slots (item ∷ left) → Goes old rest (slots ++ new_slot date item ∷ []) left
goes-one old rest slots date item left h items m =
    let g = h items m in
    let split : rest ≡ (g.0 ++ item ∷ []) ++ left = g.1 ∙ sym (append_assoc g.0 (item ∷ []) left) in
    let match = matches-one slots (items ++ g.0) (new_slot date item) item g.2 (new-item date item) in
    let M : List Item → Type 0 = λ x. Matches (slots ++ new_slot date item ∷ []) x in
    (g.0 ++ item ∷ [], split, subst M (append_assoc items g.0 (item ∷ [])) match)

record Reaches (made : TimedValue) (old : List Slot) (rest : List Item) (slots : List Slot) (left : List Item) : Type 0 where
  goes : Goes old rest slots left
  comes : ComesFrom made old slots

asks-reach : (made : TimedValue) (old : List Slot) (rest : List Item) (date : HttpDate) (w : WriterUse) (slots : List Slot) (left : List Item) → Reaches made old rest slots left
    → Fits made old rest (asks_from date w slots left)
asks-reach made old rest date w slots [] h = record { goes = h.goes; comes = h.comes }
asks-reach made old rest date w slots (Asks r ∷ left) h =
    record { goes = goes-one old rest slots date (Asks r) left h.goes; comes = comes-one made old slots date (Asks r) h.comes }
asks-reach made old rest date w slots (Refuses refusal manner no_body last ∷ left) h =
    let item = Refuses refusal manner no_body last in
    asks-reach made old rest date (if turn_has_come (length slots) slots then Unreported else w) (slots ++ new_slot date item ∷ []) left
    (record { goes = goes-one old rest slots date item left h.goes; comes = comes-one made old slots date item h.comes })

all-reach : (made : TimedValue) (old : List Slot) (rest : List Item) (date : HttpDate) (slots : List Slot) (items left : List Item) → Reaches made old rest slots (items ++ left)
    → Reaches made old rest (slots ++ map (new_slot date) items) left
all-reach made old rest date slots [] left h = subst (λ (x : List Slot). Reaches made old rest x left) (sym (append-nil slots)) h
all-reach made old rest date slots (item ∷ items) left h =
    let one : Reaches made old rest (slots ++ new_slot date item ∷ []) (items ++ left) = record { goes = goes-one old rest slots date item (items ++ left) h.goes; comes = comes-one made old slots date item h.comes } in
    let more = all-reach made old rest date (slots ++ new_slot date item ∷ []) items left one in
    subst (λ (x : List Slot). Reaches made old rest x left) (append_assoc slots (new_slot date item ∷ []) (map (new_slot date) items)) more

here-reach : (made : TimedValue) (slots : List Slot) (rest : List Item) → Reaches made slots rest slots rest
here-reach made slots rest = record { goes = goes-nowhere slots rest slots (λ items h. h); comes = λ k s x e m. inr (s, e, m) }

ask-fits : (date : HttpDate) (old : Reached) → Fits (date, Ask) old.slots old.rest (ask date old)
ask-fits date old =
    let made : TimedValue = (date, Ask) in
    let left : Outcome = record { reply = Ended; slots = old.slots; rest = old.rest; asking_ended = true; writer = Unused } in
    let goes = asks_from date Unused old.slots old.rest in
    let here = here-reach made old.slots old.rest in
    fits-if made old.slots old.rest old.asking_ended (unchanged old Ended) (if last_holds_reader (last_slot old.slots) then unchanged old NotYet else if last_was_abandoned (last_slot old.slots) then left else goes)
    (idle made old Ended)
    (fits-if made old.slots old.rest (last_holds_reader (last_slot old.slots)) (unchanged old NotYet) (if last_was_abandoned (last_slot old.slots) then left else goes)
    (idle made old NotYet)
    (fits-if made old.slots old.rest (last_was_abandoned (last_slot old.slots)) left goes
    (record { goes = here.goes; comes = here.comes })
    (asks-reach made old.slots old.rest date Unused old.slots old.rest here)))

outcome-fits : (found : Bool) (date : HttpDate) (old : Reached) (step : StepValue) → Fits (date, step) old.slots old.rest (outcome found date old step)
outcome-fits found date old Ask = ask-fits date old
outcome-fits found date old (AsReader j) = number-fits found date old (AsReader j)
outcome-fits found date old (Read j n) = number-fits found date old (Read j n)
outcome-fits found date old (Respond j response) = number-fits found date old (Respond j response)
outcome-fits found date old (IntoWriter j) = number-fits found date old (IntoWriter j)
outcome-fits found date old (Write j bytes) = number-fits found date old (Write j bytes)
outcome-fits found date old (Flush j) = number-fits found date old (Flush j)
outcome-fits found date old (Upgrade j protocol response) = number-fits found date old (Upgrade j protocol response)
outcome-fits found date old (Finish j) = number-fits found date old (Finish j)
outcome-fits found date old (Drop j) = number-fits found date old (Drop j)

-- ---- a run

abbrev StepReaches : TimedValue → State → State → Type 0
StepReaches made old new = Reaches made old.reached.slots old.reached.rest new.reached.slots new.reached.rest

outcome-reaches : (made : TimedValue) (o : Outcome) (old : State) (reply : ReplyValue) (new : State) → Reaches made old.reached.slots old.reached.rest o.slots o.rest → HasOutcome o old reply new → StepReaches made old new
outcome-reaches made o old reply new h has =
    let P : Reached → Type 0 = λ x. Reaches made old.reached.slots old.reached.rest x.slots x.rest in
    subst P (sym has.0) h

no-memory-reaches : (date : HttpDate) (old : State) (step : StepValue) (reply : ReplyValue) (new : State) → FindsNoMemory date old step reply new → StepReaches (date, step) old new
no-memory-reaches date old Ask reply new f =
    let made : TimedValue = (date, Ask) in
    let refused = f.4 in
    let rest = f.5 in
    let slots = old.reached.slots ++ map (new_slot date) refused in
    let o : Outcome = record { reply = Memory; slots = slots; rest = rest; asking_ended = true; writer = answers_to old.reached.slots refused } in
    let R : List Item → Type 0 = λ x. Reaches made old.reached.slots old.reached.rest old.reached.slots x in
    let here = subst R f.6 (here-reach made old.reached.slots old.reached.rest) in
    outcome-reaches made o old reply new (all-reach made old.reached.slots old.reached.rest date old.reached.slots refused rest here) f.8
no-memory-reaches date old (Read j n) reply new f =
    let made : TimedValue = (date, Read j n) in
    let P : State → Type 0 = λ x. StepReaches made old x in
    subst P (sym f.3) (here-reach made old.reached.slots old.reached.rest)
no-memory-reaches date old (AsReader j) reply new f = elim f [ ]
no-memory-reaches date old (Respond j a) reply new f = elim f [ ]
no-memory-reaches date old (IntoWriter j) reply new f = elim f [ ]
no-memory-reaches date old (Write j b) reply new f = elim f [ ]
no-memory-reaches date old (Flush j) reply new f = elim f [ ]
no-memory-reaches date old (Upgrade j p a) reply new f = elim f [ ]
no-memory-reaches date old (Finish j) reply new f = elim f [ ]
no-memory-reaches date old (Drop j) reply new f = elim f [ ]

step-reaches : (old : State) (date : HttpDate) (step : StepValue) (reply : ReplyValue) (new : State) → StepsTo old date step reply new → StepReaches (date, step) old new
step-reaches old date step reply new s =
    ⊎_elim
    (λ g.
    let fits = outcome-fits g.0 date old.reached step in
    outcome-reaches (date, step) (outcome g.0 date old.reached step) old reply new (record { goes = fits.goes; comes = fits.comes }) g.2)
    (λ f. no-memory-reaches date old step reply new f)
    s

-- what the steps of a run make of the numbers
pub record RunFits (old : State) (steps : List TimedValue) (new : State) : Type 0 where
  pub goes : Goes old.reached.slots old.reached.rest new.reached.slots new.reached.rest
  comes : (k : ℕ) (s : Slot) (x : TimedValue) → slice_get new.reached.slots k ≡ Some s → maker k s.stage ≡ Some x
      → IsAmong x steps ⊎ ((was : Slot) × (slice_get old.reached.slots k ≡ Some was) × (maker k was.stage ≡ Some x))

goes-on : (old mid new : State) → Goes old.reached.slots old.reached.rest mid.reached.slots mid.reached.rest → Goes mid.reached.slots mid.reached.rest new.reached.slots new.reached.rest
    → Goes old.reached.slots old.reached.rest new.reached.slots new.reached.rest
goes-on old mid new first second items m =
    let a = first items m in
    let b = second (items ++ a.0) a.2 in
    let split : old.reached.rest ≡ (a.0 ++ b.0) ++ new.reached.rest = a.1 ∙ ap (λ x. a.0 ++ x) b.1 ∙ sym (append_assoc a.0 b.0 new.reached.rest) in
    (a.0 ++ b.0, split, subst (λ (x : List Item). Matches new.reached.slots x) (append_assoc items a.0 b.0) b.2)

pub run-fits : (old new : State) (steps : List TimedValue) (replies : List ReplyValue) → Run old steps replies new → RunFits old steps new
run-fits old new [] [] run =
    let P : State → Type 0 = λ x. RunFits old [] x in
    subst P (sym run) (record { goes = goes-nowhere old.reached.slots old.reached.rest old.reached.slots (λ items h. h); comes = λ k s x e m. inr (s, e, m) })
run-fits old new [] (x ∷ replies) run = elim run [ ]
run-fits old new (s ∷ steps) [] run = elim run [ ]
run-fits old new (s ∷ steps) (x ∷ replies) run =
    let one = step-reaches old s.0 s.1 x run.0 run.1 in
    let more = run-fits run.0 new steps replies run.2 in
    record {
      goes = goes-on old run.0 new one.goes more.goes;
      comes = λ k t y e m.
          ⊎_elim
          (λ in_steps. inl (inr in_steps))
          (λ was.
          ⊎_elim
          (λ made. inl (inl made))
          (λ before. inr before)
          (one.comes k was.0 y was.1 was.2))
          (more.comes k t y e m);
    }

pub conversation-items : (p : Profile) (feed : Feed) (before after : Sink) (steps : List TimedValue) (replies : List ReplyValue) (held : List ℕ) (ended : Bool) (unread : Option Feed)
    → (c : IsConversation p feed before steps replies after held ended unread) (k : ℕ) (s : Slot) → slice_get c.end.reached.slots k ≡ Some s → (item : Item) × (slice_get c.items k ≡ Some item) × AreOfOneHead s.item item
conversation-items p feed before after steps replies held ended unread c k s here =
    let f = run-fits (start_state c.items) c.end steps replies c.run in
    let g = f.goes [] tt in
    let m = matches-get c.end.reached.slots g.0 c.end.reached.rest k s g.2 here in
    (m.0, ap (λ x. slice_get x k) g.1 ∙ m.1, m.2)

pub conversation-makers : (p : Profile) (feed : Feed) (before after : Sink) (steps : List TimedValue) (replies : List ReplyValue) (held : List ℕ) (ended : Bool) (unread : Option Feed)
    → (c : IsConversation p feed before steps replies after held ended unread) (k : ℕ) (s : Slot) (t : TimedValue) → slice_get c.end.reached.slots k ≡ Some s → maker k s.stage ≡ Some t → IsAmong t steps
conversation-makers p feed before after steps replies held ended unread c k s t here m =
    let f = run-fits (start_state c.items) c.end steps replies c.run in
    ⊎_elim
    (λ in_steps. in_steps)
    (λ was. let none : None ≡ Some was.0 = was.1 in cc)
    (f.comes k s t here m)
