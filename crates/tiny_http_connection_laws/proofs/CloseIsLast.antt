-- No number follows one whose answer says by the standard that the connection ends: each step keeps that.
use Rattle.std.proofs.Common.{◌≡◌, refl, sym, ap, ◌∙◌, subst, ℕ, suc, ◌-◌, ◌≤◌, ◌⊎◌, inl, inr, ⊎_elim, Bool, true, false, not, ◌&&◌, ◌||◌, List, [], ◌∷◌, ◌++◌, Some, arith}
use Prim.Native.Nat.{zero}
use Rattle.std.specs.Prelude.{if◌then◌else◌, slice_get, slice_set, nat_lt, ◌==◌, ⊤}
use Rattle.std.specs.List.{AllByRecursion}
use Rattle.std.proofs.lemmas.Bool.{and_parts}
use Rattle.std.proofs.Math.Bool.{and-false, or-true}
use Rattle.tiny_http_body.specs.declared.framing.Form.{Form}
use Rattle.tiny_http_body.specs.declared.framing.Form.TheVariants as form
use Rattle.tiny_http_body.specs.declared.body.TheConstants.{MOST_SKIPPED}
use Rattle.tiny_http_body.specs.declared.body.Remainder.{Remainder}
use Rattle.tiny_http_body.specs.declared.body.Remainder.TheVariants as left
use Rattle.tiny_http_body.specs.Body.{body_finished, is_long, is_skipped}
use Rattle.tiny_http_open_request.specs.Pipeline.{Item, Asks, Refuses, Request, body_length_or_0}
use Rattle.tiny_http_connection.specs.Segments.{Slot, Stage, Unanswered, Answered, ByServer, Raw, Upgraded}
use Rattle.tiny_http_connection.specs.Slots.{is_unanswered, is_end, is_chunked_form, is_counted, body_is_open, body_was_abandoned, remainder_of, ends_when_finished, closes_now, with_last, last_slot, closing_slot}
use Rattle.tiny_http_connection.specs.Outcomes.{Outcome, Reached, finished_as}
use Rattle.tiny_http_connection_laws.specs.Closes.{is_close_printed, says_close_by, NoneFollowsClose}
use Rattle.tiny_http_connection_laws.proofs.PipelineEnds.{lasts, AllEnd, Owes}

-- ---- what is known of a number that another follows, and of the last

-- it is finished, or it will be without a close
pub record Settled (r : Request) (s : Slot) : Type 0 where
  pub is_last : r.framing.is_last ≡ false
  pub closes : s.closes ≡ false
  pub owed : s.owed ≡ false
  pub whole : is_end r.body.stop ≡ true
  pub chunks : is_chunked_form r.framing.form ≡ true → s.end_reported ≡ true
  pub short : is_counted r.framing.form ≡ true → (s.end_reported ≡ true) ⊎ (body_length_or_0 r.framing ≤ s.given)

pub record IsPassedRequest (r : Request) (s : Slot) : Type 0 where
  pub silent : says_close_by s.closes (Asks r) s.stage ≡ false
  pub settled : is_unanswered s.stage ≡ true → Settled r s

abbrev pub IsPassed : Slot → Item → Type 0
IsPassed s (Asks r) = IsPassedRequest r s
IsPassed s (Refuses refusal manner no_body last) = manner.by_standard ≡ false

-- where it says close, or nothing follows it in the pipeline, no number is reached behind it
pub record IsLastRequest (r : Request) (s : Slot) (rest : List Item) : Type 0 where
  pub ends : lasts (Asks r) ≡ true → rest ≡ []
  pub unasked : is_unanswered s.stage ≡ true → s.closes ≡ false
  pub kept : is_unanswered s.stage ≡ true → s.given_up ≡ false
  pub owed : s.owed ≡ true → (is_unanswered s.stage ≡ true) × (body_is_open s (Asks r) ≡ true)
  pub closed : says_close_by s.closes (Asks r) s.stage ≡ true → (lasts (Asks r) ≡ true) ⊎ (body_was_abandoned s (Asks r) ≡ true)

abbrev pub IsLastItem : Slot → Item → List Item → Type 0
IsLastItem s (Asks r) rest = IsLastRequest r s rest
IsLastItem s (Refuses refusal manner no_body last) rest = lasts (Refuses refusal manner no_body last) ≡ true → rest ≡ []

-- what is known of all, while the asking has ended or not
abbrev pub Fit : Bool → List Item → List Slot → Type 0
Fit ended rest [] = ⊤
Fit ended rest (s ∷ []) = ended ≡ false → IsLastItem s s.item rest
Fit ended rest (s ∷ t ∷ slots) = IsPassed s s.item × Fit ended rest (t ∷ slots)

pub record Inv (ended : Bool) (rest : List Item) (slots : List Slot) : Type 0 where
  pub ends : AllEnd rest
  pub owes : AllByRecursion Owes rest
  pub fit : Fit ended rest slots

abbrev pub InvAt : Reached → Type 0
InvAt r = Inv r.asking_ended r.rest r.slots

abbrev pub InvOf : Outcome → Type 0
InvOf o = Inv o.asking_ended o.rest o.slots

-- ---- booleans

pub no-both : {G : Type 0} (b : Bool) → b ≡ true → b ≡ false → G
no-both b e f = let no : true ≡ false = sym e ∙ f in cc

pub so-false : (b : Bool) → (b ≡ true → ⊥) → b ≡ false
so-false true h = absurd (h refl)
so-false false h = refl

pub or-none : (a b : Bool) → (a || b) ≡ false → (a ≡ false) × (b ≡ false)
or-none true b e = cc
or-none false b e = (refl, e)

pub not-true : (b : Bool) → not b ≡ false → b ≡ true
not-true true e = refl
not-true false e = cc

-- ---- what is left of a body

-- what is left, by form, length, what was given, and whether the body ends
abbrev left_by : Form → ℕ → ℕ → Bool → Bool → Remainder
left_by f n given reported whole =
    if (is_chunked_form f && not reported) || (body_finished f n given reported && not whole) then left.Endless else
    if is_counted f && (not reported && nat_lt MOST_SKIPPED (n - given)) then left.Long else left.Skipped

left-cases : (a b c : Bool) → is_skipped (if (a || b) then left.Endless else if c then left.Long else left.Skipped) ≡ false
    → is_long (if (a || b) then left.Endless else if c then left.Long else left.Skipped) ≡ false → (a ≡ true) ⊎ (b ≡ true)
left-cases true b c s l = inl refl
left-cases false true c s l = inr refl
left-cases false false true s l = cc
left-cases false false false s l = cc

short-enough : (n given : ℕ) → n ≤ given → nat_lt MOST_SKIPPED (n - given) ≡ false
short-enough n given e = let zero_left : n - given ≡ 0 = omega (arith, e) in rw zero_left refl

settled-left : (f : Form) (n given : ℕ) (reported : Bool) → (is_chunked_form f ≡ true → reported ≡ true) → (is_counted f ≡ true → (reported ≡ true) ⊎ (n ≤ given)) → left_by f n given reported true ≡ left.Skipped
settled-left form.Nothing n given reported c s = refl
settled-left form.WithHead n given reported c s = refl
settled-left form.Rest n given reported c s = rw (and-false reported) refl
settled-left form.Chunked n given reported c s = rw (c refl) refl
settled-left form.Counted n given true c s = rw (and-false (given == n || true)) refl
settled-left form.Counted n given false c s = by (s refl)
  where
    by : (false ≡ true) ⊎ (n ≤ given) → left_by form.Counted n given false true ≡ left.Skipped
    by (inl e) = cc
    by (inr e) = rw (and-false (given == n || false), short-enough n given e) refl

settled-closes : (r : Request) (s : Slot) → Settled r s → closes_now r s.closes s.owed s.given s.end_reported ≡ false
settled-closes r s h =
    let L : Bool → Remainder = λ w. left_by r.framing.form (body_length_or_0 r.framing) s.given s.end_reported w in
    let skipped : remainder_of r s.given s.end_reported ≡ left.Skipped = ap L h.whole ∙ settled-left r.framing.form (body_length_or_0 r.framing) s.given s.end_reported h.chunks h.short in
    rw (h.is_last, h.closes, h.owed, skipped) refl

-- ---- lists of slots

pub weaken : (ended now : Bool) (rest : List Item) (slots : List Slot) → (now ≡ false → ended ≡ false) → Fit ended rest slots → Fit now rest slots
weaken ended now rest [] less h = h
weaken ended now rest (s ∷ []) less h = λ e. h (less e)
weaken ended now rest (s ∷ t ∷ slots) less h = (h.0, weaken ended now rest (t ∷ slots) less h.1)

set-fit : (ended now : Bool) (rest : List Item) (xs : List Slot) (k : ℕ) (s t : Slot) → slice_get xs k ≡ Some s → (now ≡ false → ended ≡ false) → (IsPassed s s.item → IsPassed t t.item)
    → (now ≡ false → IsLastItem s s.item rest → IsLastItem t t.item rest) → Fit ended rest xs → Fit now rest (slice_set xs k t)
set-fit ended now rest [] k s t e less p l h = tt
set-fit ended now rest (x ∷ []) zero s t e less p l h =
    let same : x ≡ s = cc in
    let L : Slot → Type 0 = λ y. IsLastItem y y.item rest in
    λ f. l f (subst L same (h (less f)))
set-fit ended now rest (x ∷ []) (suc k) s t e less p l h = cc
set-fit ended now rest (x ∷ y ∷ ys) zero s t e less p l h =
    let same : x ≡ s = cc in
    let P : Slot → Type 0 = λ z. IsPassed z z.item in
    (p (subst P same h.0), weaken ended now rest (y ∷ ys) less h.1)
set-fit ended now rest (x ∷ y ∷ ys) (suc zero) s t e less p l h = (h.0, set-fit ended now rest (y ∷ ys) zero s t e less p l h.1)
set-fit ended now rest (x ∷ y ∷ ys) (suc (suc k)) s t e less p l h = (h.0, set-fit ended now rest (y ∷ ys) (suc k) s t e less p l h.1)

pub snoc-fit : (now : Bool) (rest more : List Item) (xs : List Slot) (new : Slot) → Fit false rest xs → ((s : Slot) → last_slot xs ≡ Some s → IsLastItem s s.item rest → IsPassed s s.item)
    → (now ≡ false → IsLastItem new new.item more) → Fit now more (xs ++ new ∷ [])
snoc-fit now rest more [] new h p l = l
snoc-fit now rest more (x ∷ []) new h p l = (p x refl (h refl), l)
snoc-fit now rest more (x ∷ y ∷ ys) new h p l = (h.0, snoc-fit now rest more (y ∷ ys) new h.1 p l)

pub closing-fit : (ended : Bool) (rest : List Item) (slots : List Slot) → Fit ended rest slots → Fit true rest (with_last closing_slot slots)
closing-fit ended rest [] h = tt
closing-fit ended rest (s ∷ []) h = λ e. cc
closing-fit ended rest (s ∷ t ∷ []) h = (h.0, λ e. cc)
closing-fit ended rest (s ∷ t ∷ u ∷ slots) h = (h.0, closing-fit ended rest (t ∷ u ∷ slots) h.1)

pub fit-none : (ended : Bool) (rest : List Item) (slots : List Slot) → Fit ended rest slots → NoneFollowsClose slots
fit-none ended rest [] h = tt
fit-none ended rest (s ∷ []) h = tt
fit-none ended rest (s ∷ t ∷ slots) h = (passed-silent s s.item h.0, fit-none ended rest (t ∷ slots) h.1)
  where
    stage-silent : (closes : Bool) (item : Item) (stage : Stage) → is_close_printed closes item ≡ false → says_close_by closes item stage ≡ false
    stage-silent closes item Unanswered e = refl
    stage-silent closes item (Answered response date found) e = e
    stage-silent closes item ByServer e = e
    stage-silent closes item (Raw written ends) e = refl
    stage-silent closes item (Upgraded protocol response date written ends) e = refl

    passed-silent : (s : Slot) (item : Item) → IsPassed s item → says_close_by s.closes item s.stage ≡ false
    passed-silent s (Asks r) p = p.silent
    passed-silent s (Refuses refusal manner no_body last) p = stage-silent s.closes (Refuses refusal manner no_body last) s.stage p

-- ---- a number is finished

abbrev finished : Request → Slot → Stage → Slot
finished r s stage = finished_as (closes_now r s.closes s.owed s.given s.end_reported) s stage

finished-passed : (r : Request) (s : Slot) (stage : Stage) → s.stage ≡ Unanswered → is_unanswered stage ≡ false
    → says_close_by (closes_now r s.closes s.owed s.given s.end_reported) (Asks r) stage ≡ (r.framing.by_standard && closes_now r s.closes s.owed s.given s.end_reported)
    → IsPassedRequest r s → IsPassedRequest r (finished r s stage)
finished-passed r s stage u done says h = record {
  silent = says ∙ ap (λ b. r.framing.by_standard && b) (settled-closes r s (h.settled (ap is_unanswered u))) ∙ and-false r.framing.by_standard;
  settled = λ e. no-both (is_unanswered stage) e done;
}

-- a close that is said, where the asking goes on: nothing follows in the pipeline, or the body was given up before its end
closed-why : (r : Request) (s : Slot) (stage : Stage) (rest : List Item) → s.stage ≡ Unanswered → IsLastRequest r s rest → ends_when_finished r s.owed s.given s.end_reported ≡ false
    → (r.framing.by_standard && closes_now r s.closes s.owed s.given s.end_reported) ≡ true → (lasts (Asks r) ≡ true) ⊎ (body_was_abandoned (finished r s stage) (Asks r) ≡ true)
closed-why r s stage rest u h goes says = by r.framing.is_last refl
  where
    parts : (r.framing.by_standard ≡ true) × (closes_now r s.closes s.owed s.given s.end_reported ≡ true)
    parts = and_parts r.framing.by_standard (closes_now r s.closes s.owed s.given s.end_reported) says

    more : (s.owed || is_long (remainder_of r s.given s.end_reported)) ≡ false
    more = sym (ap (λ b. b && (s.owed || is_long (remainder_of r s.given s.end_reported))) parts.0) ∙ goes

    quiet : (s.owed ≡ false) × (is_long (remainder_of r s.given s.end_reported) ≡ false)
    quiet = or-none s.owed (is_long (remainder_of r s.given s.end_reported)) more

    by : (l : Bool) → r.framing.is_last ≡ l → (lasts (Asks r) ≡ true) ⊎ (body_was_abandoned (finished r s stage) (Asks r) ≡ true)
    by true e = inl (ap (λ b. b || not (is_end r.body.stop)) e)
    by false e =
        let kept : closes_now r s.closes s.owed s.given s.end_reported ≡ not (is_skipped (remainder_of r s.given s.end_reported)) = rw (e, h.unasked (ap is_unanswered u), quiet.0) refl in
        let left : is_skipped (remainder_of r s.given s.end_reported) ≡ false = so-false (is_skipped (remainder_of r s.given s.end_reported)) (λ k. no-both (not (is_skipped (remainder_of r s.given s.end_reported))) (sym kept ∙ parts.1) (ap not k)) in
        let a = is_chunked_form r.framing.form && not s.end_reported in
        let b = body_finished r.framing.form (body_length_or_0 r.framing) s.given s.end_reported in
        let n = not (is_end r.body.stop) in
        ⊎_elim
        (λ x. inr (ap (λ y. y) x))
        (λ x. inl (ap (λ y. r.framing.is_last || y) (and_parts b n x).1 ∙ or-true r.framing.is_last))
        (left-cases a (b && n) (is_counted r.framing.form && (not s.end_reported && nat_lt MOST_SKIPPED (body_length_or_0 r.framing - s.given))) left quiet.1)

finished-last : (r : Request) (s : Slot) (stage : Stage) (rest : List Item) → s.stage ≡ Unanswered → is_unanswered stage ≡ false
    → says_close_by (closes_now r s.closes s.owed s.given s.end_reported) (Asks r) stage ≡ (r.framing.by_standard && closes_now r s.closes s.owed s.given s.end_reported)
    → ends_when_finished r s.owed s.given s.end_reported ≡ false → IsLastRequest r s rest → IsLastRequest r (finished r s stage) rest
finished-last r s stage rest u done says goes h = record {
  ends = h.ends;
  unasked = λ e. no-both (is_unanswered stage) e done;
  kept = λ e. no-both (is_unanswered stage) e done;
  owed = λ e. cc;
  closed = λ e. closed-why r s stage rest u h goes (sym says ∙ e);
}

-- ---- one number is changed

pub change : (old : Reached) (now : Bool) (r : Request) (k : ℕ) (s t : Slot) → InvAt old → slice_get old.slots k ≡ Some s → s.item ≡ Asks r → (now ≡ false → old.asking_ended ≡ false)
    → (IsPassedRequest r s → IsPassed t t.item) → (now ≡ false → IsLastRequest r s old.rest → IsLastItem t t.item old.rest) → Inv now old.rest (slice_set old.slots k t)
change old now r k s t h here is less p l =
    let P : Item → Type 0 = λ i. IsPassed s i in
    let L : Item → Type 0 = λ i. IsLastItem s i old.rest in
    record {
      ends = h.ends;
      owes = h.owes;
      fit = set-fit old.asking_ended now old.rest old.slots k s t here less (λ x. p (subst P is x)) (λ e x. l e (subst L is x)) h.fit;
    }

-- the same, where its item stays
pub change-kept : (old : Reached) (now : Bool) (r : Request) (k : ℕ) (s t : Slot) → InvAt old → slice_get old.slots k ≡ Some s → s.item ≡ Asks r → t.item ≡ s.item → (now ≡ false → old.asking_ended ≡ false)
    → (IsPassedRequest r s → IsPassedRequest r t) → (now ≡ false → IsLastRequest r s old.rest → IsLastRequest r t old.rest) → Inv now old.rest (slice_set old.slots k t)
change-kept old now r k s t h here is same less p l =
    let P : Item → Type 0 = λ i. IsPassed t i in
    let L : Item → Type 0 = λ i. IsLastItem t i old.rest in
    change old now r k s t h here is less (λ x. subst P (sym (same ∙ is)) (p x)) (λ e x. subst L (sym (same ∙ is)) (l e x))

pub finishes : (old : Reached) (r : Request) (k : ℕ) (s : Slot) (stage : Stage) → InvAt old → slice_get old.slots k ≡ Some s → s.item ≡ Asks r → s.stage ≡ Unanswered → is_unanswered stage ≡ false
    → says_close_by (closes_now r s.closes s.owed s.given s.end_reported) (Asks r) stage ≡ (r.framing.by_standard && closes_now r s.closes s.owed s.given s.end_reported)
    → Inv (old.asking_ended || ends_when_finished r s.owed s.given s.end_reported) old.rest (slice_set old.slots k (finished r s stage))
finishes old r k s stage h here is u done says =
    let ends = ends_when_finished r s.owed s.given s.end_reported in
    change-kept old (old.asking_ended || ends) r k s (finished r s stage) h here is refl (λ e. (or-none old.asking_ended ends e).0)
    (finished-passed r s stage u done says) (λ e. finished-last r s stage old.rest u done says (or-none old.asking_ended ends e).1)

-- a number that has its raw writer or its stream says no close
pub streams : (old : Reached) (now : Bool) (r : Request) (k : ℕ) (s t : Slot) → InvAt old → slice_get old.slots k ≡ Some s → s.item ≡ Asks r → t.item ≡ s.item → (now ≡ false → old.asking_ended ≡ false)
    → is_unanswered t.stage ≡ false → says_close_by t.closes (Asks r) t.stage ≡ false → (t.owed ≡ true → ⊥) → Inv now old.rest (slice_set old.slots k t)
streams old now r k s t h here is same less done silent paid =
    change-kept old now r k s t h here is same less
    (λ x. record { silent = silent; settled = λ e. no-both (is_unanswered t.stage) e done })
    (λ e x. record { ends = x.ends; unasked = λ y. no-both (is_unanswered t.stage) y done; kept = λ y. no-both (is_unanswered t.stage) y done; owed = λ o. absurd (paid o); closed = λ y. no-both (says_close_by t.closes (Asks r) t.stage) y silent })
