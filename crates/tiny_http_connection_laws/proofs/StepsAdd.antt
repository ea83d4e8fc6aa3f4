-- What holds of the numbers of a conversation: an owed 100 wasn't sent, each version fits its bytes, and each item is answered by
-- the standard or none. Each step keeps it, and only adds to the joined output.
use Rattle.std.proofs.Common.{Option, ◌≡◌, refl, sym, ap, ◌∙◌, subst, ℕ, zero, suc, ◌+◌, ◌≤◌, Bool, true, false, not, ◌||◌, List, [], ◌∷◌, ◌++◌, take, length, Some, None, append_assoc, append-nil, ◌&&◌}
use Rattle.std.specs.Prelude.{if◌then◌else◌, slice_get, slice_set, ◌==◌, nat_lt}
use Rattle.std.specs.List.{AllByRecursion}
use Rattle.httpdate.specs.declared.date.HttpDate.{HttpDate}
use Rattle.tiny_http_head.specs.declared.common.HTTPVersion.{HTTPVersion}
use Rattle.tiny_http_response.specs.Answer.{text_of}
use Rattle.tiny_http_io.specs.Device.{IsFront}
use Rattle.tiny_http_open_request.specs.Pipeline.{Item, Asks, Refuses, Request}
use Rattle.tiny_http_response.specs.ResponseValue.{ResponseValue, upgrade_text}
use Rattle.tiny_http_connection.specs.Segments.{is_last_item, Slot, Stage, Unanswered, Answered, ByServer, Raw, Upgraded, printing_for, to_request, text_if, stage_text, opening, segment, is_stage_finished, is_finished}
use Rattle.tiny_http_connection.specs.Slots.{is_output_broken, joined, turn_has_come, ends_when_finished, closes_now, refuses_response, rest_of, as_stream, upgraded_slot, refuses_upgrade, with_last, closing_slot}
use Rattle.tiny_http_connection.specs.Steps.{number_of, StepValue, Ask, AsReader, Read, Respond, IntoWriter, Write, Flush, Upgrade, Finish, Drop, ReplyValue, Given, Done, Refused, NoSuch, Fault}
use Rattle.tiny_http_connection.specs.Outcomes.{WriterUse, Unused, Unreported, Reported, Outcome, Reached, unchanged, changes, ends_asking, ends_with_stream, read_reply, finished_as, written_to, stage_closed, fault_in, fault_reply, accepts_step, needs_turn, use_in_turn, effect, answers, answers_slot, asked_to_close}
use Rattle.tiny_http_connection_laws.proofs.JoinedGrows.{SendsMore, set-grows, set-own, AddsOwn, Adds, in-turn-ownless, taken-unfinished}
use Rattle.tiny_http_connection.proofs.ConnectionClosing.{by-closing, closing-item, closing-stage, joined-closing, broken-closing}

-- a version fits its bytes
abbrev pub VersionFits : HTTPVersion → Type 0
VersionFits v = (v.0 ≤ 255) × (v.1 ≤ 255)

abbrev pub version_of : Item → HTTPVersion
version_of (Asks r) = r.message.version
version_of (Refuses refusal manner no_body last) = manner.version

-- whether an item is answered by the standard
abbrev pub is_standard_item : Item → Bool
is_standard_item (Asks r) = r.framing.by_standard
is_standard_item (Refuses refusal manner no_body last) = manner.by_standard

abbrev pub ItemFits : Bool → Item → Type 0
ItemFits bs item = VersionFits (version_of item) × (is_standard_item item ≡ bs)

pub record IsSound (bs : Bool) (s : Slot) : Type 0 where
  pub unsent : s.owed ≡ true → s.continued ≡ None
  pub fits : ItemFits bs s.item

abbrev pub AllSound : Bool → List Slot → Type 0
AllSound bs slots = AllByRecursion (IsSound bs) slots

abbrev pub AllFit : Bool → List Item → Type 0
AllFit bs items = AllByRecursion (ItemFits bs) items

pub all-append : {A : Type 0} (P : A → Type 0) (xs ys : List A) → AllByRecursion P xs → AllByRecursion P ys → AllByRecursion P (xs ++ ys)
all-append P [] ys h k = k
all-append P (x ∷ xs) ys h k = (h.0, all-append P xs ys h.1 k)

pub all-parts : {A : Type 0} (P : A → Type 0) (xs ys : List A) → AllByRecursion P (xs ++ ys) → AllByRecursion P xs × AllByRecursion P ys
all-parts P [] ys h = (tt, h)
all-parts P (x ∷ xs) ys h = let k = all-parts P xs ys h.1 in ((h.0, k.0), k.1)

all-set : (bs : Bool) (xs : List Slot) (k : ℕ) (s : Slot) → AllSound bs xs → IsSound bs s → AllSound bs (slice_set xs k s)
all-set bs [] k s h i = tt
all-set bs (x ∷ xs) zero s h i = (i, h.1)
all-set bs (x ∷ xs) (suc k) s h i = (h.0, all-set bs xs k s h.1 i)

all-get : (bs : Bool) (xs : List Slot) (k : ℕ) (s : Slot) → AllSound bs xs → slice_get xs k ≡ Some s → IsSound bs s
all-get bs [] k s h e = cc
all-get bs (x ∷ xs) zero s h e = let same : x ≡ s = cc in subst (IsSound bs) same h.0
all-get bs (x ∷ xs) (suc k) s h e = all-get bs xs k s h.1 e

-- a step adds to the joined output, and keeps what holds of the numbers
pub record Keeps (bs : Bool) (old : Reached) (o : Outcome) : Type 0 where
  pub adds : Adds old.slots o
  pub slots : AllSound bs o.slots
  pub rest : AllFit bs o.rest

pub record Holds (bs : Bool) (r : Reached) : Type 0 where
  pub slots : AllSound bs r.slots
  pub rest : AllFit bs r.rest

keeps-all : (bs : Bool) (old : Reached) (reply : ReplyValue) → Holds bs old → Keeps bs old (unchanged old reply)
keeps-all bs old reply h = record { adds = record { front = ([], sym (append-nil (joined old.slots))); own = tt }; slots = h.slots; rest = h.rest }

pub keeps-if : (bs : Bool) (old : Reached) (b : Bool) (x y : Outcome) → (b ≡ true → Keeps bs old x) → (b ≡ false → Keeps bs old y) → Keeps bs old (if b then x else y)
keeps-if bs old true x y h k = h refl
keeps-if bs old false x y h k = k refl

-- whether the asking ends doesn't matter
keeps-ended : (bs : Bool) (old : Reached) (ends : Bool) (o : Outcome) → Keeps bs old o → Keeps bs old (ends_asking ends o)
keeps-ended bs old ends o h = record { adds = record { front = h.adds.front; own = h.adds.own }; slots = h.slots; rest = h.rest }

-- one number is changed
module _ (bs : Bool) (old : Reached) (holds : Holds bs old) (k : ℕ) (s : Slot) (here : slice_get old.slots k ≡ Some s) where
  quiet : (t : Slot) (own : List ℕ) (reply : ReplyValue) (w : WriterUse) → SendsMore s t own → IsSound bs t → AddsOwn w old.slots (slice_set old.slots k t) → Keeps bs old (changes old k t reply w)
  quiet t own reply w m i a = record { adds = record { front = set-grows old.slots k s t own here m; own = a }; slots = all-set bs old.slots k t holds.slots i; rest = holds.rest }

  own-text : (t : Slot) (own : List ℕ) → SendsMore s t own → turn_has_come k old.slots ≡ true → is_output_broken old.slots ≡ false → IsFront (joined old.slots ++ own) (joined (slice_set old.slots k t))
  own-text t own m turn none = set-own old.slots k s t own here m turn none

is-owed : false ≡ true → {G : Type 0} → G
is-owed e = cc

-- the 100 is no longer owed
settled : (bs : Bool) (s t : Slot) → IsSound bs s → t.owed ≡ false → t.item ≡ s.item → IsSound bs t
settled bs s t i e same = record {
  unsent = λ o. is-owed (sym e ∙ o);
  fits = subst (ItemFits bs) (sym same) i.fits;
}

-- a number that waited for its answer sends a text
unanswered-sends : (s t : Slot) (own : List ℕ) → s.stage ≡ Unanswered → segment t ≡ opening s.item s.continued ++ own → SendsMore s t own
unanswered-sends s t own u e = record {
  waits = ap is_stage_finished u;
  more =
      let base : segment s ≡ opening s.item s.continued = ap (λ (x : Stage). opening s.item s.continued ++ (stage_text s.closes s.item s.date x).bytes) u ∙ append-nil (opening s.item s.continued) in
      e ∙ ap (λ x. x ++ own) (sym base);
}

-- a number sends no more
same-sends : (s t : Slot) → is_stage_finished s.stage ≡ false → segment t ≡ segment s → SendsMore s t []
same-sends s t w e = record { waits = w; more = e ∙ sym (append-nil (segment s)) }

never : {G : Type 0} → false ≡ true → G
never e = cc

-- the steps that only a number takes that waits for its answer
pub by-asreader : (stage : Stage) (owed : Bool) (k : ℕ) → accepts_step stage owed (AsReader k) ≡ true → stage ≡ Unanswered
by-asreader Unanswered owed k e = refl
by-asreader (Answered response date found) owed k e = never e
by-asreader ByServer owed k e = never e
by-asreader (Raw written ends) owed k e = never e
by-asreader (Upgraded protocol response date written ends) owed k e = never e

pub by-respond : (stage : Stage) (owed : Bool) (k : ℕ) (r : ResponseValue) → accepts_step stage owed (Respond k r) ≡ true → stage ≡ Unanswered
by-respond Unanswered owed k r e = refl
by-respond (Answered response date found) owed k r e = never e
by-respond ByServer owed k r e = never e
by-respond (Raw written ends) owed k r e = never e
by-respond (Upgraded protocol response date written ends) owed k r e = never e

pub by-writer : (stage : Stage) (owed : Bool) (k : ℕ) → accepts_step stage owed (IntoWriter k) ≡ true → stage ≡ Unanswered
by-writer Unanswered owed k e = refl
by-writer (Answered response date found) owed k e = never e
by-writer ByServer owed k e = never e
by-writer (Raw written ends) owed k e = never e
by-writer (Upgraded protocol response date written ends) owed k e = never e

pub by-upgrade : (stage : Stage) (owed : Bool) (k : ℕ) (p : List ℕ) (r : ResponseValue) → accepts_step stage owed (Upgrade k p r) ≡ true → stage ≡ Unanswered
by-upgrade Unanswered owed k p r e = refl
by-upgrade (Answered response date found) owed k p r e = never e
by-upgrade ByServer owed k p r e = never e
by-upgrade (Raw written ends) owed k p r e = never e
by-upgrade (Upgraded protocol response date written ends) owed k p r e = never e

pub by-drop : (stage : Stage) (owed : Bool) (k : ℕ) → accepts_step stage owed (Drop k) ≡ true → stage ≡ Unanswered
by-drop Unanswered owed k e = refl
by-drop (Answered response date found) owed k e = never e
by-drop ByServer owed k e = never e
by-drop (Raw written ends) owed k e = never e
by-drop (Upgraded protocol response date written ends) owed k e = never e

-- bytes that are written raw
written-bytes : (closes : Bool) (item : Item) (date : HttpDate) (stage : Stage) (owed : Bool) (k : ℕ) (bytes : List ℕ) → accepts_step stage owed (Write k bytes) ≡ true
    → (stage_text closes item date (written_to bytes stage)).bytes ≡ (stage_text closes item date stage).bytes ++ bytes
written-bytes closes item date Unanswered owed k bytes e = never e
written-bytes closes item date (Answered response at found) owed k bytes e = never e
written-bytes closes item date ByServer owed k bytes e = never e
written-bytes closes item date (Raw written ends) owed k bytes e = refl
written-bytes closes item date (Upgraded protocol response at written ends) owed k bytes e = sym (append_assoc (upgrade_text response protocol (printing_for (is_last_item item) item at)) written bytes)

closed-bytes : (closes : Bool) (item : Item) (date : HttpDate) (stage : Stage) → (stage_text closes item date (stage_closed stage)).bytes ≡ (stage_text closes item date stage).bytes
closed-bytes closes item date Unanswered = refl
closed-bytes closes item date (Answered response at found) = refl
closed-bytes closes item date ByServer = refl
closed-bytes closes item date (Raw written ends) = refl
closed-bytes closes item date (Upgraded protocol response at written ends) = refl

-- by the standard neither a 100 nor the head of an upgrade says whether the connection persists: the stream in the place of a request
-- is answered as the request
opening-same : (r : Request) (date : Option HttpDate) → r.framing.by_standard ≡ true → opening (Asks (as_stream r)) date ≡ opening (Asks r) date
unfolding text_of
opening-same r None e = refl
opening-same r (Some date) e = rw e refl

stream-text : (r : Request) (protocol : List ℕ) (response : ResponseValue) (date : HttpDate) → r.framing.by_standard ≡ true → upgrade_text response protocol (to_request true (as_stream r) date) ≡ upgrade_text response protocol (to_request r.framing.is_last r date)
unfolding text_of
stream-text r protocol response date e = rw e refl

upgrade-sends : (bs by_standard : Bool) (r : Request) (s : Slot) (protocol : List ℕ) (response : ResponseValue) (date : HttpDate) → r.framing.by_standard ≡ by_standard → IsSound bs s → s.item ≡ Asks r → s.stage ≡ Unanswered
    → (let stage = Upgraded protocol response date [] false in
    let t : Slot = (if by_standard then record s { item = Asks (as_stream r); given = 0; end_reported = false; stage = stage; owed = false } else record s { stage = stage; owed = false }) in
    SendsMore s t (stage_text s.closes s.item s.date stage).bytes × IsSound bs t)
upgrade-sends bs false r s protocol response date e i is u =
    let t : Slot = record s { stage = Upgraded protocol response date [] false; owed = false } in
    (unanswered-sends s t (stage_text s.closes s.item s.date (Upgraded protocol response date [] false)).bytes u refl, settled bs s t i refl refl)
upgrade-sends bs true r s protocol response date e i is u =
    let stage : Stage = Upgraded protocol response date [] false in
    let t : Slot = record s { item = Asks (as_stream r); given = 0; end_reported = false; stage = stage; owed = false } in
    let text : Item → List ℕ = λ x. (stage_text s.closes x s.date stage).bytes in
    let whole : opening (Asks (as_stream r)) s.continued ++ text (Asks (as_stream r)) ≡ opening s.item s.continued ++ text s.item =
    ap (λ x. x ++ text (Asks (as_stream r))) (opening-same r s.continued e) ∙ ap (λ (x : List ℕ). opening (Asks r) s.continued ++ (x ++ [])) (stream-text r protocol response date e)
    ∙ ap (λ x. opening x s.continued ++ text x) (sym is) in
    let P : Item → Type 0 = λ x. ItemFits bs x in
    let fits : ItemFits bs (Asks r) = subst P is i.fits in
    (unanswered-sends s t (text s.item) u whole, record { unsent = λ o. is-owed o; fits = fits })

-- a request that waits, in its turn, is answered
answered-keeps : (bs : Bool) (found : Bool) (date : HttpDate) (old : Reached) (r : Request) (s : Slot) (k : ℕ) (response : ResponseValue) → Holds bs old → slice_get old.slots k ≡ Some s → s.item ≡ Asks r
    → s.stage ≡ Unanswered → turn_has_come k old.slots ≡ true → Keeps bs old (answers found date old r k response)
answered-keeps bs found date old r s k response h here is u turn =
    let i = all-get bs old.slots k s h.slots here in
    let closes = closes_now r s.closes s.owed s.given s.end_reported in
    let text = text_if found response (to_request closes r date) in
    let t = finished_as closes s (Answered response date found) in
    let writer = Reported text.bytes (fault_in text.ending) true fault_reply in
    let own-is : (stage_text closes s.item s.date (Answered response date found)).bytes ≡ text.bytes = ap (λ (x : Item). (text_if found response (printing_for closes x date)).bytes) is in
    let more = unanswered-sends s t text.bytes u (ap (λ x. opening s.item s.continued ++ x) own-is) in
    let P : Option Slot → Type 0 = λ o. Keeps bs old (answers_slot found date old r k response o) in
    subst P (sym here) (keeps-ended bs old (ends_when_finished r s.owed s.given s.end_reported) (changes old k t Done writer) (quiet bs old h k s here t text.bytes Done writer more (settled bs s t i refl refl) (λ none. own-text bs old h k s here t text.bytes more turn none)))

-- the last number is told that the connection ends
sound-closing : (bs : Bool) (slots : List Slot) → AllSound bs slots → AllSound bs (with_last closing_slot slots)
sound-closing bs [] h = h
sound-closing bs (s ∷ []) h = (by-closing (IsSound bs) s (λ e. record { unsent = h.0.unsent; fits = h.0.fits }) h.0, h.1)
sound-closing bs (s ∷ t ∷ slots) h = (h.0, sound-closing bs (t ∷ slots) h.1)

turn-closing : (k : ℕ) (slots : List Slot) → turn_has_come k (with_last closing_slot slots) ≡ turn_has_come k slots
turn-closing k [] = refl
turn-closing zero (s ∷ []) = refl
turn-closing (suc k) (s ∷ []) = by-closing (λ t. turn_has_come (suc k) (t ∷ []) ≡ turn_has_come (suc k) (s ∷ [])) s (λ e. refl) refl
turn-closing zero (s ∷ t ∷ slots) = refl
turn-closing (suc k) (s ∷ t ∷ slots) = ap (λ b. is_finished s && b) (turn-closing k (t ∷ slots))

-- what stands under its number then
pub record Told (s : Slot) (slots : List Slot) (k : ℕ) : Type 0 where
  pub slot : Slot
  pub get : slice_get (with_last closing_slot slots) k ≡ Some slot
  pub item : slot.item ≡ s.item
  pub stage : slot.stage ≡ s.stage

pub accounts : (s : Slot) (slots : List Slot) (k : ℕ) → slice_get slots k ≡ Some s → Told s slots k
accounts s [] k e = cc
accounts s (x ∷ []) zero e =
    let same : x ≡ s = cc in
    let T : Slot → Type 0 = λ y. Told y (x ∷ []) zero in
    subst T same (record { slot = closing_slot x; get = refl; item = closing-item x; stage = closing-stage x })
accounts s (x ∷ []) (suc k) e = cc
accounts s (x ∷ y ∷ slots) zero e = record { slot = s; get = e; item = refl; stage = refl }
accounts s (x ∷ y ∷ slots) (suc k) e = let t = accounts s (y ∷ slots) k e in record { slot = t.slot; get = t.get; item = t.item; stage = t.stage }

-- what is kept of the numbers doesn't see it
keeps-accounts : (bs : Bool) (old : Reached) (o : Outcome) → Keeps bs (asked_to_close true old) o → Keeps bs old o
keeps-accounts bs old o h =
    let F : List ℕ → Type 0 = λ j. IsFront j (joined o.slots) in
    record {
      adds = record { front = subst F (joined-closing old.slots) h.adds.front; own = own-accounts o.writer old.slots o.slots h.adds.own };
      slots = h.slots;
      rest = h.rest;
    }
  where
    own-accounts : (w : WriterUse) (was slots : List Slot) → AddsOwn w (with_last closing_slot was) slots → AddsOwn w was slots
    own-accounts Unused was slots a = a
    own-accounts Unreported was slots a = a
    own-accounts (Reported own broken flushes report) was slots a =
        λ none. subst (λ j. IsFront (j ++ own) (joined slots)) (joined-closing was) (a (broken-closing was ∙ none))

-- a request that waits, in its turn, is answered by a response that may ask that the connection ends
asked-keeps : (bs : Bool) (found : Bool) (date : HttpDate) (old : Reached) (r : Request) (s : Slot) (k : ℕ) (response : ResponseValue) (closes : Bool) → Holds bs old → slice_get old.slots k ≡ Some s → s.item ≡ Asks r
    → s.stage ≡ Unanswered → turn_has_come k old.slots ≡ true → Keeps bs old (answers found date (asked_to_close closes old) r k response)
asked-keeps bs found date old r s k response false h here is u turn = answered-keeps bs found date old r s k response h here is u turn
asked-keeps bs found date old r s k response true h here is u turn =
    let t = accounts s old.slots k here in
    keeps-accounts bs old (answers found date (asked_to_close true old) r k response)
    (answered-keeps bs found date (asked_to_close true old) r t.slot k response (record { slots = sound-closing bs old.slots h.slots; rest = h.rest }) t.get (t.item ∙ is) (t.stage ∙ u) (turn-closing k old.slots ∙ turn))

-- a step that a number takes in its time
pub effect-keeps : (bs : Bool) (found : Bool) (date : HttpDate) (old : Reached) (r : Request) (s : Slot) (turn : Bool) (step : StepValue) → Holds bs old → slice_get old.slots (number_of step) ≡ Some s → s.item ≡ Asks r
    → accepts_step s.stage s.owed step ≡ true → (needs_turn r s step ≡ true → turn_has_come (number_of step) old.slots ≡ true) → Keeps bs old (effect found date old r s turn step)
effect-keeps bs found date old r s turn Ask h here is takes comes = keeps-all bs old NoSuch h
effect-keeps bs found date old r s turn (AsReader k) h here is takes comes =
    let i = all-get bs old.slots k s h.slots here in
    let t : Slot = record s { owed = false; continued = Some date } in
    let u = by-asreader s.stage s.owed k takes in
    keeps-if bs old s.owed (changes old k t Done Unreported) (unchanged old Done)
    (λ o.
    let none = i.unsent o in
    let own = opening s.item (Some date) in
    let empty : opening s.item s.continued ≡ [] = ap (opening s.item) none in
    let all : segment t ≡ opening s.item s.continued ++ own =
    ap (λ (x : Stage). opening s.item (Some date) ++ (stage_text s.closes s.item s.date x).bytes) u ∙ append-nil own ∙ ap (λ x. x ++ own) (sym empty) in
    quiet bs old h k s here t own Done Unreported (unanswered-sends s t own u all) (settled bs s t i refl refl) tt)
    (λ o. keeps-all bs old Done h)
effect-keeps bs found date old r s turn (Read k n) h here is takes comes =
    let i = all-get bs old.slots k s h.slots here in
    let left = (rest_of r s.given).bytes in
    let t : Slot = record s { given = s.given + length (take n left); end_reported = s.end_reported || nat_lt (length left) n } in
    keeps-if bs old (n == 0) (unchanged old (Given [])) (changes old k t (read_reply n left r.body.stop) Unused)
    (λ o. keeps-all bs old (Given []) h)
    (λ o. quiet bs old h k s here t [] (read_reply n left r.body.stop) Unused (same-sends s t (taken-unfinished s.stage s.owed (Read k n) takes) refl) (record { unsent = i.unsent; fits = i.fits }) tt)
effect-keeps bs found date old r s turn (Respond k response) h here is takes comes =
    let i = all-get bs old.slots k s h.slots here in
    let u = by-respond s.stage s.owed k response takes in
    let closes = closes_now r s.closes s.owed s.given s.end_reported in
    let d = finished_as closes s ByServer in
    let dropped = (stage_text closes s.item s.date ByServer).bytes in
    keeps-if bs old (refuses_response r response) (ends_asking (ends_when_finished r s.owed s.given s.end_reported) (changes old k d Refused (use_in_turn turn))) (answers found date (asked_to_close response.answer.closes old) r k response)
    (λ o. keeps-ended bs old (ends_when_finished r s.owed s.given s.end_reported) (changes old k d Refused (use_in_turn turn)) (quiet bs old h k s here d dropped Refused (use_in_turn turn) (unanswered-sends s d dropped u refl) (settled bs s d i refl refl) (in-turn-ownless turn old.slots (slice_set old.slots k d))))
    (λ o. asked-keeps bs found date old r s k response response.answer.closes h here is u (comes (ap not o)))
effect-keeps bs found date old r s turn (IntoWriter k) h here is takes comes =
    let i = all-get bs old.slots k s h.slots here in
    let t : Slot = record s { stage = Raw [] false; given_up = true; owed = false } in
    keeps-ended bs old (ends_with_stream r s.owed s.given s.end_reported) (changes old k t Done Unused) (quiet bs old h k s here t [] Done Unused (unanswered-sends s t [] (by-writer s.stage s.owed k takes) refl) (settled bs s t i refl refl) tt)
effect-keeps bs found date old r s turn (Write k bytes) h here is takes comes =
    let i = all-get bs old.slots k s h.slots here in
    let t : Slot = record s { stage = written_to bytes s.stage } in
    let more : SendsMore s t bytes = record {
      waits = taken-unfinished s.stage s.owed (Write k bytes) takes;
      more = ap (λ x. opening s.item s.continued ++ x) (written-bytes s.closes s.item s.date s.stage s.owed k bytes takes) ∙ sym (append_assoc (opening s.item s.continued) (stage_text s.closes s.item s.date s.stage).bytes bytes);
    } in
    quiet bs old h k s here t bytes Done (Reported bytes None false Fault) more (record { unsent = i.unsent; fits = i.fits }) (λ none. own-text bs old h k s here t bytes more (comes refl) none)
effect-keeps bs found date old r s turn (Flush k) h here is takes comes =
    let i = all-get bs old.slots k s h.slots here in
    let more = same-sends s s (taken-unfinished s.stage s.owed (Flush k) takes) refl in
    quiet bs old h k s here s [] Done (Reported [] None true Fault) more i (λ none. own-text bs old h k s here s [] more (comes refl) none)
effect-keeps bs found date old r s turn (Upgrade k protocol response) h here is takes comes =
    let i = all-get bs old.slots k s h.slots here in
    let u = by-upgrade s.stage s.owed k protocol response takes in
    let t : Slot = upgraded_slot r s (Upgraded protocol response date [] false) in
    let own = (stage_text s.closes s.item s.date (Upgraded protocol response date [] false)).bytes in
    let closes = closes_now r s.closes s.owed s.given s.end_reported in
    let d = finished_as closes s ByServer in
    let text = (stage_text closes s.item s.date ByServer).bytes in
    let more = upgrade-sends bs r.framing.by_standard r s protocol response date refl i is u in
    keeps-if bs old (refuses_upgrade r s protocol response) (ends_asking (ends_when_finished r s.owed s.given s.end_reported) (changes old k d Refused (use_in_turn turn))) (ends_asking (ends_with_stream r s.owed s.given s.end_reported) (changes old k t Done Unreported))
    (λ o. keeps-ended bs old (ends_when_finished r s.owed s.given s.end_reported) (changes old k d Refused (use_in_turn turn)) (quiet bs old h k s here d text Refused (use_in_turn turn) (unanswered-sends s d text u refl) (settled bs s d i refl refl) (in-turn-ownless turn old.slots (slice_set old.slots k d))))
    (λ o. keeps-ended bs old (ends_with_stream r s.owed s.given s.end_reported) (changes old k t Done Unreported) (quiet bs old h k s here t own Done Unreported more.0 more.1 tt))
effect-keeps bs found date old r s turn (Finish k) h here is takes comes =
    let i = all-get bs old.slots k s h.slots here in
    let t = finished_as s.closes s (stage_closed s.stage) in
    let same = same-sends s t (taken-unfinished s.stage s.owed (Finish k) takes) (ap (λ x. opening s.item s.continued ++ x) (closed-bytes s.closes s.item s.date s.stage)) in
    quiet bs old h k s here t [] Done (use_in_turn turn) same (settled bs s t i refl refl) (in-turn-ownless turn old.slots (slice_set old.slots k t))
effect-keeps bs found date old r s turn (Drop k) h here is takes comes =
    let i = all-get bs old.slots k s h.slots here in
    let closes = closes_now r s.closes s.owed s.given s.end_reported in
    let d = finished_as closes s ByServer in
    let text = (stage_text closes s.item s.date ByServer).bytes in
    keeps-ended bs old (ends_when_finished r s.owed s.given s.end_reported) (changes old k d Done (use_in_turn turn))
    (quiet bs old h k s here d text Done (use_in_turn turn) (unanswered-sends s d text (by-drop s.stage s.owed k takes) refl) (settled bs s d i refl refl) (in-turn-ownless turn old.slots (slice_set old.slots k d)))
