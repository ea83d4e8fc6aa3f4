-- Reading a body: what was still to come of it is what was read and what is still to come.
use Rattle.std.proofs.Common.{◌≡◌, refl, sym, ap, ◌∙◌, subst, ℕ, zero, suc, ◌+◌, ◌-◌, ◌<◌, ◌≤◌, Bool, true, false, List, [], ◌∷◌, ◌++◌, length, take, drop, Option, Some, None, ◌⊎◌, inl, inr, ◌||◌, arith, eq-eqb, append_assoc, append-nil}
use Rattle.std.specs.Prelude.{MatchBool, ◌==◌, if◌then◌else◌}
use Rattle.std.specs.Option.{option_map}
use Rattle.std.proofs.Math.Seq.{take-nil}
use Rattle.std.proofs.lemmas.Bool.{lt-ltb, le-ltb, ne_eqb, eqb-true, cases_lt}
use Rattle.std.proofs.lemmas.List.{take-append-drop}
use Rattle.tiny_http_io.specs.declared.device.Stop.{Stop}
use Rattle.std.specs.declared.io.ErrorKind.{ErrorKind}
use Rattle.tiny_http_io.specs.declared.device.Stop.TheVariants.{End, Fault}
use Rattle.tiny_http_io.specs.Device.{Feed, prepended, prepend, StopsBy}
use Rattle.tiny_http_body.specs.declared.body.UnreadBody.{UnreadBody}
use Rattle.tiny_http_body.specs.declared.body.UnreadBody.TheVariants.{Over, WithHead, Counted, Chunked, Rest}
use Rattle.tiny_http_io.specs.ToCome.{skipped, stopped}
use Rattle.tiny_http_io.specs.Cursor.{cursor_bytes}
use Rattle.tiny_http_io.specs.FeedParts.{feed_front}
use Rattle.tiny_http_body.specs.declared.chunked.ChunkRules.{ChunkRules}
use Rattle.tiny_http_body.specs.Body.{Remaining, remaining, cut_stop, cut_feed, counted_remaining, taken_remaining, prepend_body, prepended_body, BodyStops, NoneRemains, is_streaming, body_input_state, IsBodyOver, IsCountedOver, IsChunkedBy, StaysHeld, ReadsOn, GivesUp, over_count, ends_met}
use Rattle.tiny_http_io.specs.declared.source.InputState.{InputState}
use Rattle.tiny_http_io.specs.Source.{SourceState, GoesOn, IsRestOf}
use Rattle.tiny_http_io.proofs.SourceGoesOn.{goes-on_same}
use Rattle.tiny_http_io.proofs.ToComeLemmas.{skipped-skipped, skipped-prepend, skipped-within, skipped-beyond}
use Rattle.tiny_http_io.proofs.FeedPartsLemmas.{part-more}
use Rattle.std.proofs.Math.Bool.{or-true}

-- bytes that were given, and no others, are skipped
skipped-front : (front : List ℕ) (f : Feed) (k : ℕ) → skipped (length front + k) (prepend front f) ≡ skipped k f
skipped-front front f k =
    sym (skipped-skipped (length front) k (prepend front f)) ∙ ap (skipped k) (skipped-prepend (length front) front f (omega arith) ∙ whole)
  where
    whole : prepend (drop (length front) front) f ≡ f
    whole = let P : List ℕ → Feed = λ bs. prepend bs f in ap P (all front)
      where
        all : (xs : List ℕ) → drop (length xs) xs ≡ []
        all [] = refl
        all (x ∷ xs) = all xs

counted-at : (standard : Bool) (front : List ℕ) (f : Feed) (k : ℕ) → counted_remaining standard (length front + k) (prepend front f) ≡ prepend_body front (counted_remaining standard k f)
counted-at standard front f k =
    let R : Feed → Feed → Remaining = λ body behind. record { body = body; behind = behind } in
    ap (λ b. R b (skipped (length front + k) (prepend front f))) (part-more (cut_stop standard f.stop) front f.bytes k) ∙ ap (R (prepend front (feed_front k (cut_feed standard f)))) (skipped-front front f k)

-- some of the bytes of a counted body
pub counted-bytes : (standard : Bool) (old new : Option Feed) (front : List ℕ) (left n : ℕ) → old ≡ prepended front new → length front ≡ n → n ≤ left
    → option_map (counted_remaining standard left) old ≡ prepended_body front (option_map (counted_remaining standard (left - n)) new)
counted-bytes standard old new front left n h e le =
    let split : left ≡ length front + (left - n) = omega arith in
    ap (λ o. option_map (counted_remaining standard left) o) h ∙ (ap (λ m. option_map (counted_remaining standard m) (prepended front new)) split ∙ at new)
  where
    at : (f : Option Feed) → option_map (counted_remaining standard (length front + (left - n))) (prepended front f) ≡ prepended_body front (option_map (counted_remaining standard (left - n)) f)
    at None = refl
    at (Some f) = ap Some (counted-at standard front f (left - n))

-- none is left
pub counted-none : (standard : Bool) (o : Option Feed) → option_map (counted_remaining standard 0) o ≡ option_map (taken_remaining (stopped End)) o
unfolding feed_front
counted-none standard None = refl
counted-none standard (Some f) =
    let R : Feed → Feed → Remaining = λ body behind. record { body = body; behind = behind } in
    ap Some (rw (le-ltb (length f.bytes) 0 (omega arith)) (ap (R (stopped End)) (skipped-within 0 f (omega arith))))

-- the input ended before the body did
counted-short : (standard : Bool) (f : Feed) (left : ℕ) (stop : Stop) → 0 < left → f.bytes ≡ [] → f.stop ≡ stop → counted_remaining standard left f ≡ taken_remaining (stopped (cut_stop standard stop)) (stopped End)
unfolding feed_front
counted-short standard f left stop some none e =
    let z : length f.bytes ≡ 0 = ap length none in
    let R : Feed → Feed → Remaining = λ body behind. record { body = body; behind = behind } in
    ap (R (feed_front left (cut_feed standard f))) (skipped-beyond left f (omega arith)) ∙ ap (λ b. R b (stopped End)) body
  where
    body : feed_front left (cut_feed standard f) ≡ stopped (cut_stop standard stop)
    body =
        let z : length f.bytes ≡ 0 = ap length none in
        rw (lt-ltb (length f.bytes) left (omega arith), none, e, take-nil {A = ℕ} left) refl

pub counted-cut : (standard : Bool) (o : Option Feed) (left : ℕ) (stop : Stop) → 0 < left → StopsBy stop o → option_map (counted_remaining standard left) o ≡ option_map (taken_remaining (stopped (cut_stop standard stop))) (option_map (λ _. stopped End) o)
counted-cut standard None left stop some h = refl
counted-cut standard (Some f) left stop some h = ap Some (counted-short standard f left stop some h.0 h.1)

pub taken-stops : (stop : Stop) (o : Option Feed) (r : Option Remaining) → r ≡ option_map (taken_remaining (stopped stop)) o → BodyStops stop r
taken-stops stop None r e = rw e tt
taken-stops stop (Some f) r e = rw e refl

pub nothing-read : (r : Option Remaining) (bs : List ℕ) → bs ≡ [] → r ≡ prepended_body bs r
nothing-read None bs e = refl
nothing-read (Some r) bs e = rw e refl

-- the input ended, or failed, in front of the last byte of a counted body: the body is over, and the input
pub body-cut-is : (standard : Bool) (b : UnreadBody) (old mid new : Option Feed) (left : ℕ) (stop : Stop) → b ≡ Counted left standard → 0 < left → StopsBy stop old → mid ≡ old → new ≡ option_map (λ _. stopped End) mid
    → remaining b old ≡ remaining (Over (cut_stop standard stop)) new
body-cut-is standard b old mid new left stop e some stops same ends =
    let g : Option Feed → Option Remaining = λ o. option_map (taken_remaining (stopped (cut_stop standard stop))) (option_map (λ _. stopped End) o) in
    ap (λ x. remaining x old) e ∙ counted-cut standard old left stop some stops ∙ ap g (sym same) ∙ ap (λ o. option_map (taken_remaining (stopped (cut_stop standard stop))) o) (sym ends)

-- a fault of the reader is told as it is
pub cut-fault : (standard : Bool) (kind : ErrorKind) → cut_stop standard (Fault kind) ≡ Fault kind
cut-fault true kind = refl
cut-fault false kind = refl

pub cut-stops : (standard : Bool) (b : UnreadBody) (old : Option Feed) (left : ℕ) (stop : Stop) → b ≡ Counted left standard → 0 < left → StopsBy stop old → BodyStops (cut_stop standard stop) (remaining b old)
cut-stops standard b old left stop e some stops =
    taken-stops (cut_stop standard stop) (option_map (λ _. stopped End) old) (remaining b old) (ap (λ x. remaining x old) e ∙ counted-cut standard old left stop some stops)

pub read-nothing : (r q : Option Remaining) → r ≡ q → r ≡ prepended_body [] q
read-nothing r q e = e ∙ nothing-read q [] refl

-- a counted body that is over is over
pub counted-over : (standard has_come : Bool) (b : UnreadBody) → IsCountedOver standard has_come b → IsBodyOver b
counted-over standard has_come (Over stop) h = tt
counted-over standard has_come (WithHead bytes) h = absurd h
counted-over standard has_come (Counted l by_standard) h = absurd h
counted-over standard has_come (Chunked d) h = absurd h
counted-over standard has_come Rest h = absurd h

-- reads one after another
pub reads-on : (a b c : UnreadBody) (m n : ℕ) (end_reported : Bool) → ReadsOn a m false b → ReadsOn b n end_reported c → ReadsOn a (m + n) end_reported c
reads-on (Over stop) b c m n end_reported h k =
    let P : UnreadBody → Type 0 = λ x. ReadsOn x n end_reported c in
    let l = subst P h.0 k in
    (l.0, omega (arith, h.1, l.1))
reads-on (WithHead bytes) (WithHead more) c m n end_reported h k = held c k
  where
    held : (c : UnreadBody) → StaysHeld (length (cursor_bytes more)) n end_reported c → StaysHeld (length (cursor_bytes bytes)) (m + n) end_reported c
    held (WithHead left) k = (omega (arith, h.0, k.0), k.1)
    held (Over stop) k = absurd k
    held (Counted l standard) k = absurd k
    held (Chunked d) k = absurd k
    held Rest k = absurd k
reads-on (WithHead bytes) (Over stop) c m n end_reported h k = absurd h
reads-on (WithHead bytes) (Counted left standard) c m n end_reported h k = absurd h
reads-on (WithHead bytes) (Chunked d) c m n end_reported h k = absurd h
reads-on (WithHead bytes) Rest c m n end_reported h k = absurd h
reads-on Rest b c m n end_reported h k = let P : UnreadBody → Type 0 = λ x. ReadsOn x n end_reported c in subst P h k
reads-on (Chunked d) (Chunked more) c m n end_reported h k = let P : ChunkRules → Type 0 = λ r. MatchBool end_reported (IsBodyOver c) (IsChunkedBy r c) in subst P h k
reads-on (Chunked d) (Over stop) c m n end_reported h k = absurd h
reads-on (Chunked d) (Counted left standard) c m n end_reported h k = absurd h
reads-on (Chunked d) (WithHead bytes) c m n end_reported h k = absurd h
reads-on (Chunked d) Rest c m n end_reported h k = absurd h
reads-on (Counted left standard) b c m n end_reported h k = by (m == left) refl h
  where
    by : (t : Bool) → (m == left) ≡ t → MatchBool t (IsCountedOver standard t b) ((b ≡ Counted (left - m) standard) × (m < left)) → ReadsOn (Counted left standard) (m + n) end_reported c
    by true e h = over b e h k
      where
        over : (b : UnreadBody) → (m == left) ≡ true → IsCountedOver standard true b → ReadsOn b n end_reported c → ReadsOn (Counted left standard) (m + n) end_reported c
        over (Over End) e h k =
            let all : ((m + n) == left) ≡ true = eq-eqb (m + n) left (omega (arith, eqb-true m left e, k.1)) in
            let P : Bool → Type 0 = λ t. MatchBool t (IsCountedOver standard ((m + n) == left) c) ((c ≡ Counted (left - (m + n)) standard) × (m + n < left)) in
            let Q : UnreadBody → Type 0 = λ x. IsCountedOver standard true x in
            let T : Bool → Type 0 = λ t. IsCountedOver standard t c in
            subst P (sym (ap (λ x. end_reported || x) all ∙ or-true end_reported)) (subst T (sym all) (subst Q (sym k.0) refl))
        over (Over (Fault kind)) e h k = cc
        over (WithHead bytes) e h k = absurd h
        over (Counted l standard) e h k = absurd h
        over (Chunked d) e h k = absurd h
        over Rest e h k = absurd h
    by false e h =
        let P : UnreadBody → Type 0 = λ x. ReadsOn x n end_reported c in
        let l = subst P h.0 k in
        more (end_reported || (n == (left - m))) refl l
      where
        same : (n == (left - m)) ≡ ((m + n) == left)
        same = at (n == (left - m)) refl
          where
            at : (t : Bool) → (n == (left - m)) ≡ t → t ≡ ((m + n) == left)
            at true x = sym (eq-eqb (m + n) left (omega (arith, eqb-true n (left - m) x, h.1)))
            at false x = sym (ne_eqb (m + n) left (λ y. (let no : true ≡ false = sym (eq-eqb n (left - m) (omega (arith, y, h.1))) ∙ x in cc)))

        to : (t : Bool) → MatchBool t (IsCountedOver standard (n == (left - m)) c) ((c ≡ Counted ((left - m) - n) standard) × (n < left - m)) → MatchBool t (IsCountedOver standard ((m + n) == left) c) ((c ≡ Counted (left - (m + n)) standard) × (m + n < left))
        to true l = let T : Bool → Type 0 = λ u. IsCountedOver standard u c in subst T same l
        to false l = (l.0 ∙ ap (λ x. Counted x standard) (omega arith), omega (arith, l.1, h.1))

        more : (t : Bool) → (end_reported || (n == (left - m))) ≡ t → MatchBool t (IsCountedOver standard (n == (left - m)) c) ((c ≡ Counted ((left - m) - n) standard) × (n < left - m)) → ReadsOn (Counted left standard) (m + n) end_reported c
        more t x l =
            let P : Bool → Type 0 = λ t. MatchBool t (IsCountedOver standard ((m + n) == left) c) ((c ≡ Counted (left - (m + n)) standard) × (m + n < left)) in
            subst P (sym (ap (λ y. end_reported || y) (sym same) ∙ x)) (to t l)

-- a body that isn't read from the input stays so
pub stays-settled : (a b : UnreadBody) (n : ℕ) (end_reported : Bool) → ReadsOn a n end_reported b → is_streaming a ≡ false → is_streaming b ≡ false
stays-settled (Over stop) b n end_reported h e = ap is_streaming h.0
stays-settled (WithHead bytes) (WithHead more) n end_reported h e = refl
stays-settled (WithHead bytes) (Over stop) n end_reported h e = refl
stays-settled (WithHead bytes) (Counted left standard) n end_reported h e = absurd h
stays-settled (WithHead bytes) (Chunked d) n end_reported h e = absurd h
stays-settled (WithHead bytes) Rest n end_reported h e = absurd h
stays-settled (Counted left standard) b n end_reported h e = cc
stays-settled (Chunked d) b n end_reported h e = cc
stays-settled Rest b n end_reported h e = cc

with-with : (r : Option Remaining) (a b : List ℕ) → prepended_body a (prepended_body b r) ≡ prepended_body (a ++ b) r
with-with None a b = refl
with-with (Some r) a b =
    let P : List ℕ → Remaining = λ bs. record { body = record { bytes = bs; stop = r.body.stop }; behind = r.behind } in
    ap Some (ap P (sym (append_assoc a b r.body.bytes)))

-- bytes after others
pub read-more : (r p q : Option Remaining) (old new : List ℕ) (at n : ℕ) → r ≡ prepended_body (take at old) p → p ≡ prepended_body (take n (drop at new)) q → take at new ≡ take at old → at + n ≤ length new
    → r ≡ prepended_body (take (at + n) new) q
read-more r p q old new at n first second front le =
    first ∙ ap (λ bs. prepended_body bs p) (sym front) ∙ ap (λ x. prepended_body (take at new) x) second ∙ with-with q (take at new) (take n (drop at new))
    ∙ ap (λ bs. prepended_body bs q) (take-take at n new)
  where
    take-take : (at n : ℕ) (s : List ℕ) → take at s ++ take n (drop at s) ≡ take (at + n) s
    take-take zero n s = ap (λ k. take k s) (omega arith)
    take-take (suc at) n [] = take-nil n ∙ sym (take-nil (suc at + n))
    take-take (suc at) n (x ∷ xs) =
        let shift : suc (at + n) ≡ suc at + n = omega arith in
        ap (λ r. x ∷ r) (take-take at n xs) ∙ ap (λ k. take k (x ∷ xs)) shift

pub bytes-none : (r q : Option Remaining) (old : List ℕ) (at : ℕ) → r ≡ prepended_body (take at old) q → at ≡ 0 → q ≡ r
bytes-none r None old at e z = sym e
bytes-none r (Some q) old at e z = sym (e ∙ rw z refl)

pub stops-none-left : (r : Option Remaining) (stop : Stop) → BodyStops stop r → NoneRemains r
stops-none-left None stop h = tt
stops-none-left (Some r) stop h = ap (λ (f : Feed). f.bytes) h

-- a state that is the same goes on
goes-on_equal : {R : Type 0} (old new : SourceState R) → new ≡ old → GoesOn old.feed new.feed
goes-on_equal {R = R} old new e = let P : SourceState R → Type 0 = λ x. GoesOn old.feed x.feed in subst P (sym e) (goes-on_same old.feed)

-- and so does one that ends
goes-on_stopped : (o : Option Feed) → GoesOn o (option_map (λ _. stopped End) o)
goes-on_stopped None = tt
goes-on_stopped (Some f) = record { gone = f.bytes; joins = sym (append-nil f.bytes) }

-- a body that was given up
goes-on_skipped : (left : ℕ) (o : Option Feed) → GoesOn o (option_map (skipped left) o)
goes-on_skipped left None = tt
goes-on_skipped left (Some f) = at (cases_lt (length f.bytes) left)
  where
    at : (length f.bytes < left) ⊎ (left ≤ length f.bytes) → IsRestOf f (skipped left f)
    at (inl past) = let P : Feed → Type 0 = λ x. IsRestOf f x in subst P (sym (skipped-beyond left f past)) (record { gone = f.bytes; joins = sym (append-nil f.bytes) })
    at (inr within) = let P : Feed → Type 0 = λ x. IsRestOf f x in subst P (sym (skipped-within left f within)) (record { gone = take left f.bytes; joins = sym (take-append-drop left f.bytes) })

pub goes-on_skips : (o n : Option Feed) (left : ℕ) → n ≡ option_map (skipped left) o → GoesOn o n
goes-on_skips o n left h = let P : Option Feed → Type 0 = λ x. GoesOn o x in subst P (sym h) (goes-on_skipped left o)

pub gives-up : {R : Type 0} (b : UnreadBody) (old new : SourceState R) → GivesUp b old new → GoesOn old.feed new.feed
gives-up (Over stop) old new h = goes-on_equal old new h
gives-up (WithHead bytes) old new h = goes-on_equal old new h
gives-up Rest old new h = goes-on_equal old new h
gives-up (Counted left standard) old new h = goes-on_skips old.feed new.feed left h.feed
gives-up (Chunked d) old new h = let P : Option Feed → Type 0 = λ x. GoesOn old.feed x in subst P (sym h.feed) (goes-on_stopped old.feed)

-- reads after each other, the first of which may be none
pub moves-more : (a b c : UnreadBody) (at n : ℕ) (end_reported : Bool) → (at ≡ 0 → b ≡ a) → (0 < at → ReadsOn a at false b) → ReadsOn b n end_reported c → ReadsOn a (at + n) end_reported c
moves-more a b c zero n end_reported same moves h =
    let P : UnreadBody → Type 0 = λ x. ReadsOn x n end_reported c in
    let Q : ℕ → Type 0 = λ k. ReadsOn a k end_reported c in
    subst Q (omega arith) (subst P (same refl) h)
moves-more a b c (suc at) n end_reported same moves h = reads-on a b c (suc at) n end_reported (moves (omega arith)) h

-- an end that is met behind some bytes may be met by the call that gave them
ends-behind : (a b c : UnreadBody) (m : ℕ) → ReadsOn a m false b → ends_met b 0 c ≤ ends_met a m c
ends-behind (Over stop) b c m h = let P : UnreadBody → Type 0 = λ x. ends_met x 0 c ≤ 0 in subst P (sym h.0) (omega arith)
ends-behind (WithHead bytes) (WithHead more) c m h = omega arith
ends-behind (WithHead bytes) (Over stop) c m h = absurd h
ends-behind (WithHead bytes) (Counted left standard) c m h = absurd h
ends-behind (WithHead bytes) (Chunked d) c m h = absurd h
ends-behind (WithHead bytes) Rest c m h = absurd h
ends-behind Rest b c m h = let P : UnreadBody → Type 0 = λ x. ends_met x 0 c ≤ over_count c in subst P (sym h) (omega arith)
ends-behind (Chunked d) (Chunked more) c m h = omega arith
ends-behind (Chunked d) (Over stop) c m h = absurd h
ends-behind (Chunked d) (Counted left standard) c m h = absurd h
ends-behind (Chunked d) (WithHead bytes) c m h = absurd h
ends-behind (Chunked d) Rest c m h = absurd h
ends-behind (Counted left standard) b c m h = by (m == left) refl h
  where
    to : (t : Bool) → (if t then 0 else over_count c) ≤ over_count c
    to true = omega arith
    to false = omega arith

    over : (b : UnreadBody) (k : ℕ) → IsCountedOver standard true b → ends_met b 0 c ≤ k
    over (Over stop) k h = omega arith
    over (WithHead bytes) k h = absurd h
    over (Counted l standard) k h = absurd h
    over (Chunked d) k h = absurd h
    over Rest k h = absurd h

    by : (t : Bool) → (m == left) ≡ t → MatchBool t (IsCountedOver standard t b) ((b ≡ Counted (left - m) standard) × (m < left)) → ends_met b 0 c ≤ ends_met (Counted left standard) m c
    by true e h = over b _ h
    by false e h =
        let P : UnreadBody → Type 0 = λ x. ends_met x 0 c ≤ ends_met (Counted left standard) m c in
        let Q : Bool → Type 0 = λ t. ends_met (Counted (left - m) standard) 0 c ≤ (if t then 0 else over_count c) in
        subst P (sym h.0) (subst Q (sym e) (to (0 == (left - m))))

pub ends-more : (a b c : UnreadBody) (at : ℕ) → (at ≡ 0 → b ≡ a) → (0 < at → ReadsOn a at false b) → ends_met b 0 c ≤ ends_met a at c
ends-more a b c zero same moves = let P : UnreadBody → Type 0 = λ x. ends_met x 0 c ≤ ends_met a 0 c in subst P (sym (same refl)) (omega arith)
ends-more a b c (suc at) same moves = ends-behind a b c (suc at) (moves (omega arith))

-- at an end that was made
pub goes-on_end : (old new : Option Feed) → new ≡ option_map (λ _. stopped End) old → GoesOn old new
goes-on_end old new e = let P : Option Feed → Type 0 = λ x. GoesOn old x in subst P (sym e) (goes-on_stopped old)

-- a read after another, from a body that was read from the input
pub input_state-more : {R : Type 0} (b c : UnreadBody) (n : ℕ) (end_reported : Bool) (first : InputState) (mid new : SourceState R) → ReadsOn b n end_reported c → (is_streaming b ≡ false → new ≡ mid) → (is_streaming b ≡ true → new.input_state ≡ body_input_state c mid.input_state)
    → mid.input_state ≡ body_input_state b first → new.input_state ≡ body_input_state c first
input_state-more {R = R} (Over stop) c n end_reported first mid new on settled goes was =
    let P : UnreadBody → Type 0 = λ x. new.input_state ≡ body_input_state x first in
    subst P (sym on.0) (ap (λ (s : SourceState R). s.input_state) (settled refl) ∙ was)
input_state-more {R = R} (WithHead bytes) (WithHead more) n end_reported first mid new on settled goes was = ap (λ (s : SourceState R). s.input_state) (settled refl) ∙ was
input_state-more (WithHead bytes) (Over stop) n end_reported first mid new on settled goes was = absurd on
input_state-more (WithHead bytes) (Counted left standard) n end_reported first mid new on settled goes was = absurd on
input_state-more (WithHead bytes) (Chunked d) n end_reported first mid new on settled goes was = absurd on
input_state-more (WithHead bytes) Rest n end_reported first mid new on settled goes was = absurd on
input_state-more (Counted left standard) c n end_reported first mid new on settled goes was = goes refl ∙ ap (body_input_state c) was
input_state-more (Chunked d) c n end_reported first mid new on settled goes was = goes refl ∙ ap (body_input_state c) was
input_state-more Rest c n end_reported first mid new on settled goes was = goes refl ∙ ap (body_input_state c) was
