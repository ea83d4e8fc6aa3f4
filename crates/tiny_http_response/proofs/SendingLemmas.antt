-- From an answer that is printed to one that is sent.
use Rattle.std.proofs.Common.{◌≡◌, refl, sym, ap, ◌∙◌, subst, ℕ, ◌-◌, ◌<◌, ◌^◌, ◌⊎◌, inl, inr, Bool, true, false, ◌||◌, List, [], ◌++◌, length, Option, Some, None, Result, Ok, Err, append_assoc, append-nil, arith, eq-eqb, eqb-true, ⊎_elim}
use Rattle.std.specs.Prelude.{◌==◌, if◌then◌else◌, MatchBool, OnOk, OnErr, IfErr, IfSome}
use Rattle.std.specs.IoError.{error_kind}
use Rattle.std.specs.declared.io.Error.{Error}
use Rattle.std.specs.declared.io.ErrorKind.{ErrorKind}
use Rattle.std.specs.declared.io.ErrorKind.TheVariants.{OutOfMemory, InvalidInput}
use Rattle.std.specs.Io.KnownBytes.{append_known}
use Rattle.std.proofs.lemmas.Bool.{ne_eqb}
use Rattle.std.specs.List.{list_all}
use Rattle.tiny_http_text.specs.Bytes.{is_ascii}
use Rattle.tiny_http_response.specs.declared.coding.FramingHeader.TheVariants.{Neither}
use Rattle.tiny_http_response.specs.ResponseValue.{upgrading}
use Rattle.tiny_http_io.specs.Device.{Feed, whole_feed, Sink, IsFront, BeginsKnown, IsKnownFront, IsAllKnown, HoldsNothing, grown, StatesKind, Took, Failed, Puts, next_count, CountsFaults, SameFaults, Faulted}
use Rattle.tiny_http_response.specs.Answer.{Answer, Printing, PrintsAnswer, text_of, with_upgrade, head_text_of, listed_with}
use Rattle.tiny_http_body.specs.Text.{Text, Whole, Broken, Prints, whole, nothing_sent}
use Rattle.tiny_http_io.proofs.DeviceLemmas.{IsFront-same, IsFront-append, Took-nil}
use Rattle.tiny_http_response.specs.ByStandard.{status_version}
use Rattle.tiny_http_response.proofs.AnswerLemmas.{text-some, head-some}
use Rattle.tiny_http_io.specs.Outlet.{holding, EndsOutlet}
use Rattle.tiny_http_response.specs.Sending.{CanSend, OutletTook, OutletFailed, Idles, EndsQuietly, DropsHeld, SendsText, Sends, SendsQuietly, IsFlushed, SendsUnlessEnded, SinkFailsOnce, FailsOnceUnlessEnded, BreaksOff, FailedBy, IsHonest}
use Rattle.tiny_http_io.proofs.DeviceFeeds.{append_known-append}
use Rattle.tiny_http_io.proofs.DeviceLemmas.{grown-nil}

-- neither holds
pub or-parts : (a b : Bool) → (a || b) ≡ false → (a ≡ false) × (b ≡ false)
or-parts true b h = cc
or-parts false b h = (refl, h)

pub append-none : (known : Option (List ℕ)) → append_known known [] ≡ known
append-none None = refl
append-none (Some xs) = ap Some (append-nil xs)

-- a front of a front is a front
fronts : (a b c : Option (List ℕ)) → IsKnownFront a b → IsKnownFront b c → IsKnownFront a c
fronts None b c h k =
    let P : Option (List ℕ) → Type 0 = λ x. IsKnownFront None c in
    (k.0, k.1 ∙ ap (λ x. append_known x k.0) h.1)
fronts (Some xs) b c h k = (h.0 ++ k.0, k.1 ∙ ap (λ x. append_known x k.0) h.1 ∙ ap Some (append_assoc xs h.0 k.0))

pub taken-sent : (a b : Sink) (text : List ℕ) → a.has_ended ≡ false → Took a b text → OutletTook a b text
taken-sent a b text unended t = record {
  bytes = t.bytes ∙ ap (λ e. grown e a.taken text) unended;
  sent = t.sent;
  failures = t.failures;
}

-- what was sent on stays so
pub begins_known : (xs ys : List ℕ) (known : Option (List ℕ)) → IsFront xs ys → BeginsKnown ys known → BeginsKnown xs known
begins_known xs ys None h k = tt
begins_known xs ys (Some zs) h k = IsFront-append xs ys zs h k

failed-lost : (a b : Sink) (text : List ℕ) (kind : ErrorKind) → Failed a b text kind → OutletFailed a b text kind
failed-lost a b text kind f = record { bytes = f.bytes; keeps = begins_known a.sent b.sent b.taken f.sent f.keeps; failures = f.failures; last_kind = f.last_kind }

sent-none : (a b c : Sink) (text : List ℕ) → OutletTook a b text → OutletTook b c [] → OutletTook a c text
sent-none a b c text s t = record { bytes = t.bytes ∙ append-none b.taken ∙ s.bytes; sent = IsFront-append a.sent b.sent c.sent s.sent t.sent; failures = t.failures ∙ s.failures }

sent-lost : (a b c : Sink) (text : List ℕ) (kind : ErrorKind) → OutletTook a b text → OutletFailed b c [] kind → OutletFailed a c text kind
sent-lost a b c text kind s l =
    let P : Option (List ℕ) → Type 0 = λ x. IsKnownFront c.taken x in
    record {
      bytes = subst P (append-none b.taken ∙ s.bytes) l.bytes;
      keeps = begins_known a.sent b.sent c.taken s.sent l.keeps;
      failures = l.failures ∙ ap next_count s.failures;
      last_kind = l.last_kind;
    }

failed-abandoned : (a b c : Sink) (text : List ℕ) (kind : ErrorKind) → Failed a b text kind → DropsHeld b c → OutletFailed a c text kind
failed-abandoned a b c text kind l d =
    let P : Option ErrorKind → Type 0 = λ x. StatesKind x kind in
    record {
      bytes = fronts c.taken b.taken (append_known a.taken text) d.bytes l.bytes;
      keeps = begins_known a.sent c.sent c.taken (IsFront-append a.sent b.sent c.sent l.sent d.sent) d.keeps;
      failures = d.failures ∙ l.failures;
      last_kind = subst P (sym d.last_kind) l.last_kind;
    }

-- an outlet that was ended
pub ended-quietly : {T : Type 0} (a b : Sink) (r : Result T Error) → EndsOutlet a b r → EndsQuietly a b
ended-quietly a b (Ok x) h = inl (record { bytes = h.0 ∙ sym (append-none a.taken); sent = h.1; failures = h.2 })
ended-quietly a b (Err e) h = inr (error_kind e, failed-lost a b [] (error_kind e) h)

-- an outlet that was given up
grown-front : (ended : Bool) (known : Option (List ℕ)) (held : List ℕ) → IsKnownFront known (grown ended known held)
grown-front true known held = ([], sym (append-none known))
grown-front false known held = (held, refl)

pub given-up : (s : Sink) (held : List ℕ) (was now : Bool) → BeginsKnown s.sent s.taken → DropsHeld (holding s held was) (holding s [] now)
given-up s held was now begins_known =
    let Q : Option (List ℕ) → Type 0 = λ x. BeginsKnown s.sent x in
    let P : Option (List ℕ) → Type 0 = λ x. IsKnownFront x (grown s.has_ended s.taken held) in
    record { bytes = subst P (sym (grown-nil s.has_ended s.taken)) (grown-front s.has_ended s.taken held); sent = IsFront-same s.sent; keeps = subst Q (sym (grown-nil s.has_ended s.taken)) begins_known; failures = refl; last_kind = refl }

-- all of the text was printed; then it is flushed
whole-flushed : {T U : Type 0} (a b c : Sink) (was ended : Bool) (x : U) (r : Result T Error) (text : Text) → a.has_ended ≡ false → Prints a b (Ok x) text → Puts b c r []
    → (b.has_ended ≡ false → was ≡ false) → (ended ≡ true → c.has_ended ≡ true) → OnErr r (ended ≡ true) → OnOk r (ended ≡ was) → (text.bytes ≡ [] → ⊥) → SendsText a c ended r text
whole-flushed a b c was ended x (Ok y) text unended h p w z err ok some =
    let still : b.has_ended ≡ false = h.1.stays ∙ unended in
    (h.0, sent-none a b c text.bytes (taken-sent a b text.bytes unended h.1) (taken-sent b c [] still p), ok ∙ w still, p.stays ∙ still)
whole-flushed a b c was ended x (Err e) text unended h p w z err ok some =
    (err, z err, inr (some, sent-lost a b c text.bytes (error_kind e) (taken-sent a b text.bytes unended h.1) (failed-lost b c [] (error_kind e) p)))

-- an answer or an upgrade whose text was sent has bytes
upgrade-some : (t : Bool) (head : List ℕ) → (head ≡ [] → ⊥) → (if t then whole head else nothing_sent InvalidInput).ending ≡ Whole → (if t then whole head else nothing_sent InvalidInput).bytes ≡ [] → ⊥
upgrade-some true head some e none = some none
upgrade-some false head some e none = let no : Broken InvalidInput ≡ Whole = e in cc

answer-some : (a : Answer) (f : Feed) (p : Printing) → (text_of a f p).ending ≡ Whole → (text_of a f p).bytes ≡ [] → ⊥
unfolding text_of
answer-some a f p e none = by p.upgrade refl
  where
    by : (u : Option (List ℕ)) → p.upgrade ≡ u → ⊥
    by None up = text-some a f p up e none
    by (Some protocol) up =
        let W : Option (List ℕ) → Type 0 = λ u. (with_upgrade u a f p).ending ≡ Whole in
        let N : Option (List ℕ) → Type 0 = λ u. (with_upgrade u a f p).bytes ≡ [] in
        upgrade-some (list_all is_ascii protocol) (head_text_of a p Neither) (λ h. head-some (status_version p.persistence p.version) a.status p.upgrade a.headers (listed_with p.upgrade p.persistence p.version a) p.date Neither [] (append-nil (head_text_of a p Neither) ∙ h)) (subst W up e) (subst N up none)

pub printed-flushed : {T U : Type 0} (o : Option Feed) (a b c : Sink) (was ended : Bool) (x : U) (r : Result T Error) (ans : Answer) (p : Printing) → (content : Feed) → o ≡ Some content → length content.bytes < 2 ^ 63
    → IfSome o (λ feed. length feed.bytes < 2 ^ 63 → PrintsAnswer a b (Ok x) ans feed p) → Puts b c r [] → a.has_ended ≡ false
    → (b.has_ended ≡ false → was ≡ false) → (ended ≡ true → c.has_ended ≡ true) → OnErr r (ended ≡ true) → OnOk r (ended ≡ was) → Sends a c ended r ans content p
printed-flushed o a b c was ended x r ans p content stated few h f unended w z err ok =
    let P : Option Feed → Type 0 = λ y. IfSome y (λ feed. length feed.bytes < 2 ^ 63 → PrintsAnswer a b (Ok x) ans feed p) in
    by-cases (subst P stated h few)
  where
    by-cases : PrintsAnswer a b (Ok x) ans content p → Sends a c ended r ans content p
    by-cases (inl k) = inl (whole-flushed a b c was ended x r (text_of ans content p) unended k.0 f w z err ok (answer-some ans content p k.0.0))
    by-cases (inr k) = absurd k.1

-- the text broke off, or the writer failed; then the outlet was ended
count-rose : (n : ℕ) → n < 2 ^ 64 - 1 → (next_count n == n) ≡ false
count-rose n lt = ne_eqb (next_count n) n (λ e. absurd (omega arith))

not-both : (t : Bool) → t ≡ true → t ≡ false → ⊥
not-both true e f = cc
not-both false e f = cc

broken-ended : (T : Type 0) (a b c : Sink) (ended : Bool) (e : Error) (text : Text) → a.has_ended ≡ false → a.failures < 2 ^ 64 - 1 → Prints {T = T} a b (Err e) text
    → MatchBool (b.failures == a.failures) (EndsQuietly b c) (DropsHeld b c) → ended ≡ true → c.has_ended ≡ true → (text.bytes ≡ [] → b ≡ a) → SendsText {T = T} a c ended (Err e) text
broken-ended T a b c ended e text unended low (inl h) m z y unused =
    let same : (b.failures == a.failures) ≡ true = eq-eqb b.failures a.failures h.1.failures in
    let P : Bool → Type 0 = λ t. MatchBool t (EndsQuietly b c) (DropsHeld b c) in
    (z, y, inl (h.0, ends (subst P same m)))
  where
    ends : EndsQuietly b c → OutletTook a c text.bytes ⊎ ((kind : ErrorKind) × OutletFailed a c text.bytes kind)
    ends (inl s) = inl (sent-none a b c text.bytes (taken-sent a b text.bytes unended h.1) s)
    ends (inr l) = inr (l.0, sent-lost a b c text.bytes l.0 (taken-sent a b text.bytes unended h.1) l.1)
broken-ended T a b c ended e text unended low (inr h) m z y unused =
    let rose : (b.failures == a.failures) ≡ false = ap (λ k. k == a.failures) h.failures ∙ count-rose a.failures low in
    let P : Bool → Type 0 = λ t. MatchBool t (EndsQuietly b c) (DropsHeld b c) in
    (z, y, inr (λ none. not-both (b.failures == a.failures) (eq-eqb b.failures a.failures (ap (λ (s : Sink). s.failures) (unused none))) rose, failed-abandoned a b c text.bytes (error_kind e) h (subst P rose m)))

pub printed-ended : (T : Type 0) (o : Option Feed) (a b c : Sink) (n : ℕ) (ended : Bool) (e : Error) (ans : Answer) (p : Printing) → (content : Feed) → o ≡ Some content → length content.bytes < 2 ^ 63
    → IfSome o (λ feed. length feed.bytes < 2 ^ 63 → PrintsAnswer {T = T} a b (Err e) ans feed p) → n ≡ a.failures → MatchBool (b.failures == n) (EndsQuietly b c) (DropsHeld b c)
    → a.has_ended ≡ false → a.failures < 2 ^ 64 - 1 → ended ≡ true → c.has_ended ≡ true → Sends {T = T} a c ended (Err e) ans content p
printed-ended T o a b c n ended e ans p content stated few h same m unended low z y =
    let P : Option Feed → Type 0 = λ y. IfSome y (λ feed. length feed.bytes < 2 ^ 63 → PrintsAnswer {T = T} a b (Err e) ans feed p) in
    let Q : ℕ → Type 0 = λ k. MatchBool (b.failures == k) (EndsQuietly b c) (DropsHeld b c) in
    let m2 = subst Q same m in
    by-cases (subst P stated h few) m2
  where
    by-cases : PrintsAnswer {T = T} a b (Err e) ans content p → MatchBool (b.failures == a.failures) (EndsQuietly b c) (DropsHeld b c) → Sends {T = T} a c ended (Err e) ans content p
    by-cases (inl k) m2 = inl (broken-ended T a b c ended e (text_of ans content p) unended low k.0 m2 z y k.1)
    by-cases (inr k) m2 = inr (k.0, broken-ended T a b c ended e (nothing_sent OutOfMemory) unended low (inl (ap Broken (sym k.1.0), subst (λ x. Took a x []) (sym k.1.1) (Took-nil a))) m2 z y (λ none. k.1.1))

-- the writer's count, whatever reader and writer state
pub flushed-once : {T U : Type 0} (a b c : Sink) (x : U) (r : Result T Error) (ended : Bool) → CountsFaults a b (Ok x) → Puts b c r [] → OnErr r (ended ≡ true) → SinkFailsOnce a c ended
flushed-once a b c x (Ok y) ended u p err = inl (p.failures ∙ u.failures)
flushed-once a b c x (Err e) ended u p err = inr (p.failures ∙ ap next_count u.failures, err)

ended-count : (a b c : Sink) (ended : Bool) → b.failures ≡ a.failures → EndsQuietly b c → ended ≡ true → SinkFailsOnce a c ended
ended-count a b c ended e (inl s) z = inl (s.failures ∙ e)
ended-count a b c ended e (inr l) z = inr (l.1.failures ∙ ap next_count e, z)

ended-by : (a b c : Sink) (n : ℕ) (ended t : Bool) → (b.failures == n) ≡ t → n ≡ a.failures → (b.failures ≡ a.failures) ⊎ (b.failures ≡ next_count a.failures) → MatchBool t (EndsQuietly b c) (DropsHeld b c) → ended ≡ true → SinkFailsOnce a c ended
ended-by a b c n ended true e same u m z = ended-count a b c ended (eqb-true b.failures n e ∙ same) m z
ended-by a b c n ended false e same (inl u) m z = inl (m.failures ∙ u)
ended-by a b c n ended false e same (inr u) m z = inr (m.failures ∙ u, z)

pub ended-once : (T : Type 0) (a b c : Sink) (n : ℕ) (e : Error) (ended : Bool) → CountsFaults {T = T} a b (Err e) → n ≡ a.failures → MatchBool (b.failures == n) (EndsQuietly b c) (DropsHeld b c) → ended ≡ true → SinkFailsOnce a c ended
ended-once T a b c n e ended (inl u) same m z = ended-by a b c n ended (b.failures == n) refl same (inl u.failures) m z
ended-once T a b c n e ended (inr u) same m z = ended-by a b c n ended (b.failures == n) refl same (inr u.failures) m z

-- whose a fault is
data-breaks : (T : Type 0) (a b : Sink) (e : Error) (ans : Answer) (f : Feed) (p : Printing) → (b.failures ≡ next_count a.failures → ⊥) → PrintsAnswer {T = T} a b (Err e) ans f p → BreaksOff ans f p (error_kind e)
data-breaks T a b e ans f p same (inl k) = ⊎_elim (λ h. inl h.0) (λ h. absurd (same h.failures)) k.0
data-breaks T a b e ans f p same (inr k) = inr (k.0, k.1.0)

-- the count after the outlet's end, where printing raised it, or where it stands at its greatest
rose : (a b c : Sink) (n : ℕ) (t : Bool) → (b.failures == n) ≡ t → n ≡ a.failures → b.failures ≡ next_count a.failures → MatchBool t (EndsQuietly b c) (DropsHeld b c) → c.failures ≡ next_count a.failures
rose a b c n true e same u (inl s) = s.failures ∙ u
rose a b c n true e same u (inr l) = l.1.failures ∙ ap next_count (eqb-true b.failures n e ∙ same)
rose a b c n false e same u m = m.failures ∙ u

-- the writer's count could not rise
at-head : (n : ℕ) → next_count n ≡ n → n < 2 ^ 64 - 1 → ⊥
at-head n h lt = omega (arith, h, lt)

-- what the writer stated of its fault stays as the outlet ends, where its count rose
kind-stays : (a b c : Sink) (n : ℕ) (t : Bool) → (b.failures == n) ≡ t → n ≡ a.failures → b.failures ≡ next_count a.failures → MatchBool t (EndsQuietly b c) (DropsHeld b c) → a.failures < 2 ^ 64 - 1 → c.last_kind ≡ b.last_kind
kind-stays a b c n true e same u m lt = absurd (at-head a.failures (sym u ∙ eqb-true b.failures n e ∙ same) lt)
kind-stays a b c n false e same u m lt = m.last_kind

failed-by : (a b c : Sink) (n : ℕ) (kind : ErrorKind) → n ≡ a.failures → Faulted a b kind → MatchBool (b.failures == n) (EndsQuietly b c) (DropsHeld b c) → FailedBy a c kind
failed-by a b c n kind same u m =
    let K : Option ErrorKind → Type 0 = λ x. StatesKind x kind in
    (rose a b c n (b.failures == n) refl same u.failures m, λ lt. subst K (sym (kind-stays a b c n (b.failures == n) refl same u.failures m lt)) u.last_kind)

-- the flush after the printing failed
pub flushed-honest : {T : Type 0} (a b c : Sink) (r : Result T Error) (ans : Answer) (o : Option Feed) (p : Printing) → SameFaults a b → Puts b c r [] → IfErr r (λ e. IsHonest a c ans o p (error_kind e))
flushed-honest {T = T} a b c (Ok x) ans o p same puts = tt
flushed-honest {T = T} a b c (Err e) ans o p same puts = inl (puts.failures ∙ ap next_count same.failures, λ lt. puts.last_kind)

honest-by : (T : Type 0) (o : Option Feed) (a b c : Sink) (n : ℕ) (e : Error) (ans : Answer) (p : Printing) (t : Bool) → (next_count a.failures == a.failures) ≡ t → b.failures ≡ a.failures
    → IfSome o (λ feed. length feed.bytes < 2 ^ 63 → PrintsAnswer {T = T} a b (Err e) ans feed p) → n ≡ a.failures → MatchBool (b.failures == n) (EndsQuietly b c) (DropsHeld b c) → IsHonest a c ans o p (error_kind e)
honest-by T o a b c n e ans p true head u h same m =
    let stays = eqb-true (next_count a.failures) a.failures head in
    inl (rose a b c n (b.failures == n) refl same (u ∙ sym stays) m, λ lt. absurd (at-head a.failures stays lt))
honest-by T None a b c n e ans p false head u h same m = inr tt
honest-by T (Some f) a b c n e ans p false head u h same m =
    let low : b.failures ≡ next_count a.failures → ⊥ = λ q. (let z : true ≡ false = sym (eq-eqb (next_count a.failures) a.failures (sym q ∙ u)) ∙ head in cc) in
    inr (λ few. data-breaks T a b e ans f p low (h few))

pub printed-honest : (T : Type 0) (o : Option Feed) (a b c : Sink) (n : ℕ) (e : Error) (ans : Answer) (p : Printing) → IfSome o (λ feed. length feed.bytes < 2 ^ 63 → PrintsAnswer {T = T} a b (Err e) ans feed p)
    → CountsFaults {T = T} a b (Err e) → n ≡ a.failures → MatchBool (b.failures == n) (EndsQuietly b c) (DropsHeld b c) → IsHonest a c ans o p (error_kind e)
printed-honest T o a b c n e ans p h (inl u) same m = honest-by T o a b c n e ans p (next_count a.failures == a.failures) refl u.failures h same m
printed-honest T o a b c n e ans p h (inr u) same m = inl (failed-by a b c n (error_kind e) same u m)

sent-append : (a b c : Sink) (s t : List ℕ) → OutletTook a b s → OutletTook b c t → OutletTook a c (s ++ t)
sent-append a b c s t h k = record {
  bytes = k.bytes ∙ ap (λ y. append_known y t) h.bytes ∙ append_known-append a.taken s t;
  sent = IsFront-append a.sent b.sent c.sent h.sent k.sent;
  failures = k.failures ∙ h.failures;
}

sent-then_lost : (a b c : Sink) (s t : List ℕ) (kind : ErrorKind) → OutletTook a b s → OutletFailed b c t kind → OutletFailed a c (s ++ t) kind
sent-then_lost a b c s t kind h l =
    let P : Option (List ℕ) → Type 0 = λ x. IsKnownFront c.taken x in
    record {
      bytes = subst P (ap (λ y. append_known y t) h.bytes ∙ append_known-append a.taken s t) l.bytes;
      keeps = begins_known a.sent b.sent c.taken h.sent l.keeps;
      failures = l.failures ∙ ap next_count h.failures;
      last_kind = l.last_kind;
    }

lost-idle : (a b c : Sink) (s t : List ℕ) (kind : ErrorKind) → OutletFailed a b s kind → Idles b c → OutletFailed a c (s ++ t) kind
lost-idle a b c s t kind l i =
    let P : Option (List ℕ) → Type 0 = λ x. IsKnownFront x (append_known a.taken (s ++ t)) in
    let Q : Option (List ℕ) → Type 0 = λ x. BeginsKnown a.sent x in
    let K : Option ErrorKind → Type 0 = λ x. StatesKind x kind in
    record {
      bytes = subst P (sym i.bytes) (l.bytes.0 ++ t, sym (append_known-append a.taken s t) ∙ ap (λ y. append_known y t) l.bytes.1 ∙ append_known-append b.taken l.bytes.0 t);
      keeps = subst Q (sym i.bytes) l.keeps;
      failures = i.failures ∙ l.failures;
      last_kind = subst K (sym i.last_kind) l.last_kind;
    }

idles-append : (a b c : Sink) → Idles a b → Idles b c → Idles a c
idles-append a b c h k = record { bytes = k.bytes ∙ h.bytes; failures = k.failures ∙ h.failures; last_kind = k.last_kind ∙ h.last_kind; stays = k.stays ∙ h.stays }

unless-idle : (e ec : Bool) (b c : Sink) (t : List ℕ) → e ≡ true → SendsUnlessEnded e b c ec t → Idles b c × (ec ≡ true)
unless-idle e ec b c t z h = let P : Bool → Type 0 = λ x. SendsUnlessEnded x b c ec t in subst P z h

unless-open : (e ec : Bool) (b c : Sink) (t : List ℕ) → e ≡ false → SendsUnlessEnded e b c ec t → SendsQuietly b c ec t
unless-open e ec b c t z h = let P : Bool → Type 0 = λ x. SendsUnlessEnded x b c ec t in subst P z h

pub sends-append : (was eb ec : Bool) (a b c : Sink) (s t : List ℕ) → SendsUnlessEnded was a b eb s → SendsUnlessEnded eb b c ec t → SendsUnlessEnded was a c ec (s ++ t)
sends-append true eb ec a b c s t h k = let i = unless-idle eb ec b c t h.1 k in (idles-append a b c h.0 i.0, i.1)
sends-append false eb ec a b c s t (inl h) k = next (unless-open eb ec b c t h.0 k)
  where
    next : SendsQuietly b c ec t → SendsQuietly a c ec (s ++ t)
    next (inl m) = inl (m.0, m.1, sent-append a b c s t h.2 m.2)
    next (inr m) = inr (m.0, m.1, m.2, sent-then_lost a b c s t m.2 h.2 m.3)
sends-append false eb ec a b c s t (inr h) k =
    let i = unless-idle eb ec b c t h.0 k in
    inr (i.1, i.0.stays ∙ h.1, h.2, lost-idle a b c s t h.2 h.3 i.0)

pub sends-none : (was : Bool) (a : Sink) → (was ≡ false → CanSend a) → SendsUnlessEnded was a a was []
sends-none true a can = (record { bytes = refl; failures = refl; last_kind = refl; stays = refl }, refl)
sends-none false a can = inl (refl, (can refl).unended, record { bytes = sym (append-none a.taken); sent = IsFront-same a.sent; failures = refl })

-- where the output has not ended, more can be sent
pub sends-can : (was eb : Bool) (a b : Sink) (s : List ℕ) → (was ≡ false → CanSend a) → SendsUnlessEnded was a b eb s → eb ≡ false → CanSend b
sends-can true eb a b s can h e = let no : true ≡ false = sym h.1 ∙ e in cc
sends-can false eb a b s can (inl h) e =
    let P : ℕ → Type 0 = λ n. n < 2 ^ 64 - 1 in
    record { unended = h.1; can_count = subst P (sym h.2.failures) (can refl).can_count }
sends-can false eb a b s can (inr h) e = let no : true ≡ false = sym h.0 ∙ e in cc

-- the count over one call and the next
once-idle : (e ec : Bool) (b c : Sink) → e ≡ true → FailsOnceUnlessEnded e b c ec → (c.failures ≡ b.failures) × (ec ≡ true)
once-idle e ec b c z h = let P : Bool → Type 0 = λ x. FailsOnceUnlessEnded x b c ec in subst P z h

pub once-append : (was eb ec : Bool) (a b c : Sink) → FailsOnceUnlessEnded was a b eb → FailsOnceUnlessEnded eb b c ec → FailsOnceUnlessEnded was a c ec
once-append true eb ec a b c h k = let i = once-idle eb ec b c h.1 k in (i.0 ∙ h.0, i.1)
once-append false true ec a b c (inl h) k = inl (k.0 ∙ h)
once-append false false ec a b c (inl h) (inl k) = inl (k ∙ h)
once-append false false ec a b c (inl h) (inr k) = inr (k.0 ∙ ap next_count h, k.1)
once-append false eb ec a b c (inr h) k = let i = once-idle eb ec b c h.1 k in inr (i.0 ∙ h.0, i.1)

pub once-none : (was : Bool) (a : Sink) → FailsOnceUnlessEnded was a a was
once-none true a = (refl, refl)
once-none false a = inl refl

-- nothing is held, and nothing held back
pub is-flushed : (s : Sink) (held : List ℕ) (ended : Bool) → held ≡ [] → ((ended || s.has_ended) ≡ false → HoldsNothing s) → IsFlushed (holding s held ended)
is-flushed s held ended e h z =
    let P : List ℕ → Type 0 = λ x. IsAllKnown s.sent (grown s.has_ended s.taken x) in
    let Q : Option (List ℕ) → Type 0 = λ x. IsAllKnown s.sent x in
    subst P (sym e) (subst Q (sym (grown-nil s.has_ended s.taken)) (h z))

-- an upgrade is sent whatever its data are: its head alone
pub upgrade-sent : {T : Type 0} (old new : Sink) (ended : Bool) (r : Result T Error) (x a : Answer) (p : Printing) (protocol : List ℕ) (content : Feed) → x ≡ record a { data_length = Some 0 } → Sends {T = T} old new ended r x (whole_feed []) (upgrading protocol p)
    → SendsText {T = T} old new ended r (text_of a content (upgrading protocol p))
unfolding text_of
upgrade-sent {T = T} old new ended r x a p protocol content same s =
    let S : Answer → Type 0 = λ y. Sends {T = T} old new ended r y (whole_feed []) (upgrading protocol p) in
    by (subst S same s)
  where
    by : Sends {T = T} old new ended r (record a { data_length = Some 0 }) (whole_feed []) (upgrading protocol p) → SendsText {T = T} old new ended r (text_of a content (upgrading protocol p))
    by (inl h) = h
    by (inr h) = let no : ◌≡◌ {A = Option (List ℕ)} (Some protocol) None = h.0.0 in cc
