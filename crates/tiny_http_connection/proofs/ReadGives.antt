-- What a read gives of the body that is kept of a number.
use Rattle.std.proofs.Common.{◌≡◌, refl, sym, ap, ◌∙◌, subst, arith, ℕ, zero, suc, ◌<◌, ◌≤◌, ◌⊎◌, inl, inr, ⊎_elim, Bool, true, false, List, [], ◌∷◌, ◌++◌, length, take, drop, Option, Some, None, Ok, Err, append-nil}
use Rattle.std.specs.Prelude.{MatchBool, nat_lt, slice_get, slice_set}
use Rattle.std.proofs.lemmas.Grind.{common_steps}
use Rattle.std.proofs.lemmas.Bool.{lt-ltb}
use Rattle.std.specs.declared.io.ErrorKind.{ErrorKind}
use Rattle.tiny_http_io.specs.declared.device.Stop.TheVariants.{End, Fault as Faults}
use Rattle.tiny_http_io.specs.Device.{Feed, whole_feed}
use Rattle.tiny_http_io.specs.Source.{SourceState}
use Rattle.tiny_http_body.specs.declared.body.UnreadBody.{UnreadBody}
use Rattle.tiny_http_body.specs.declared.body.UnreadBody.TheVariants as body
use Rattle.tiny_http_body.specs.Body.{Remaining, remaining, prepended_body, NoneRemains, BodyStops, FillsFromBody, ReadsOn, is_streaming, body_input_state}
use Rattle.tiny_http_connection.specs.declared.pending.Unfinished.{Unfinished}
use Rattle.tiny_http_connection.specs.declared.pending.Unfinished.TheVariants as still
use Rattle.tiny_http_connection.specs.Pending.{kept_body, number_with_body}
use Rattle.tiny_http_connection.specs.Steps.{Given, Fault}
use Rattle.tiny_http_connection.specs.Giving.{TakesNext}
use Rattle.tiny_http_connection.specs.Connection.{ConnectionState}
use Rattle.tiny_http_connection.specs.Driving.{ReadsKept, InputStateAfter, ClosesBody}

-- ---- a read of no bytes

same-set : {X : Type 0} (xs : List X) (k : ℕ) (x : X) → slice_get xs k ≡ Some x → xs ≡ slice_set xs k x
same-set [] k x e = cc
same-set (y ∷ ys) zero x e = let same : y ≡ x = cc in ap (λ z. z ∷ ys) same
same-set (y ∷ ys) (suc k) x e = ap (λ l. y ∷ l) (same-set ys k x e)

same-body : (u : Unfinished) (b : UnreadBody) → kept_body (Some u) ≡ Some b → u ≡ number_with_body b u
same-body (still.Waiting w) b e = let same : w.body ≡ b = cc in ap (λ x. still.Waiting (record w { body = x })) same
same-body still.Raw b e = cc
same-body (still.Upgraded c) b e = let same : c ≡ b = cc in ap still.Upgraded same

represents-still : {R : Type 0} (b : UnreadBody) (s : SourceState R) → InputStateAfter b b s s
represents-still (body.Over stop) s = refl
represents-still (body.WithHead bytes) s = refl
represents-still (body.Counted n by_standard) s = refl
represents-still (body.Chunked decoding) s = refl
represents-still body.Rest s = refl

takes-none : (n : ℕ) (bytes : List ℕ) (o : Option Remaining) → n ≡ 0 → [] ≡ bytes → TakesNext n o (Given bytes) o
takes-none n bytes None none empty = tt
takes-none n bytes (Some r) none empty = rw (none, sym empty) (r.body, (refl, refl, λ e. inl refl), refl)

closes-none : (n : ℕ) (bytes : List ℕ) (b : UnreadBody) → n ≡ 0 → ClosesBody n (Given bytes) b
closes-none n [] b none = λ some. absurd (omega (arith, some, none))
closes-none n (x ∷ xs) b none = tt

pub reads-nothing : {R W : Type 0} (c : ConnectionState R W) (k n : ℕ) (bytes : List ℕ) (u : Unfinished) (b : UnreadBody) → slice_get c.requests k ≡ Some (Some u) → kept_body (Some u) ≡ Some b → n ≡ 0 → [] ≡ bytes → ReadsKept k n c c (Given bytes)
reads-nothing c k n bytes u b e has none empty =
    (u, b, b, e, has, same-set c.requests k (Some u) e ∙ ap (λ x. slice_set c.requests k (Some x)) (same-body u b has), represents-still b c.source, takes-none n bytes (remaining b c.source.feed) none empty, λ some. absurd (omega (arith, some, none)), closes-none n bytes b none)

-- ---- a read into a buffer

all-taken : (xs ys : List ℕ) (n : ℕ) → length xs ≡ n → take n (xs ++ ys) ≡ xs
all-taken xs ys n e = grind (arith, common_steps)

all-dropped : (xs ys : List ℕ) (n : ℕ) → length xs ≡ n → drop n (xs ++ ys) ≡ ys
all-dropped xs ys n e = grind (arith, common_steps)

more-taken : (xs : List ℕ) (n : ℕ) → length xs ≤ n → take n xs ≡ xs
more-taken xs n e = grind (arith, common_steps)

more-dropped : (xs : List ℕ) (n : ℕ) → length xs ≤ n → drop n xs ≡ []
more-dropped xs n e = grind (arith, common_steps)

count-taken : (buf : List ℕ) (n : ℕ) → n ≤ length buf → length (take n buf) ≡ n
count-taken buf n e = grind (arith, common_steps)

less-or-all : (n m : ℕ) → n ≤ m → (n < m) ⊎ (n ≡ m)
less-or-all zero zero e = inr refl
less-or-all zero (suc m) e = inl (omega arith)
less-or-all (suc n) zero e = absurd (omega (arith, e))
less-or-all (suc n) (suc m) e = ⊎_elim (λ less. inl (omega (arith, less))) (λ same. inr (ap suc same)) (less-or-all n m (omega (arith, e)))

no-bytes : (xs : List ℕ) (n : ℕ) → length xs ≡ n → xs ≡ [] → n ≡ 0
no-bytes [] n e f = sym e
no-bytes (x ∷ xs) n e f = cc

takes-given : (n count : ℕ) (bytes : List ℕ) (o p : Option Remaining) → length bytes ≡ n → n ≤ count → 0 < count → o ≡ prepended_body bytes p → (n < count → NoneRemains p) → (n ≡ 0 → BodyStops End o) → TakesNext count o (Given bytes) p
takes-given n count bytes None p size bound some is none ends = tt
takes-given n count bytes (Some r) None size bound some is none ends = cc
takes-given n count bytes (Some r) (Some l) size bound some is none ends =
    let whole : r ≡ record { body = record { bytes = bytes ++ l.body.bytes; stop = l.body.stop }; behind = l.behind } = cc in
    let stop : r.body.stop ≡ l.body.stop = ap (λ (x : Remaining). x.body.stop) whole in
    let all : r.body.bytes ≡ bytes ++ l.body.bytes = ap (λ (x : Remaining). x.body.bytes) whole in
    let behind : r.behind ≡ l.behind = ap (λ (x : Remaining). x.behind) whole in
    (l.body, (first all (less-or-all n count bound), left all stop (less-or-all n count bound), λ empty. inr (ends (no-bytes bytes n size empty))), ap (λ x. Some (record { body = l.body; behind = x })) (sym behind))
  where
    first : r.body.bytes ≡ bytes ++ l.body.bytes → (n < count) ⊎ (n ≡ count) → bytes ≡ take count r.body.bytes
    first all (inl few) =
        let empty = none few in
        let bare : r.body.bytes ≡ bytes = all ∙ ap (λ x. bytes ++ x) empty ∙ append-nil bytes in
        sym (ap (take count) bare ∙ more-taken bytes count (omega (arith, size, bound)))
    first all (inr same) = sym (ap (take count) all ∙ all-taken bytes l.body.bytes count (size ∙ same))

    rest : r.body.bytes ≡ bytes ++ l.body.bytes → (n < count) ⊎ (n ≡ count) → l.body.bytes ≡ drop count r.body.bytes
    rest all (inl few) =
        let empty = none few in
        let bare : r.body.bytes ≡ bytes = all ∙ ap (λ x. bytes ++ x) empty ∙ append-nil bytes in
        empty ∙ sym (ap (drop count) bare ∙ more-dropped bytes count (omega (arith, size, bound)))
    rest all (inr same) = sym (ap (drop count) all ∙ all-dropped bytes l.body.bytes count (size ∙ same))

    left : r.body.bytes ≡ bytes ++ l.body.bytes → r.body.stop ≡ l.body.stop → (n < count) ⊎ (n ≡ count) → l.body ≡ record { bytes = drop count r.body.bytes; stop = r.body.stop }
    left all stop how =
        ap (λ x. record { bytes = x; stop = l.body.stop }) (rest all how) ∙ ap (λ x. record { bytes = drop count r.body.bytes; stop = x }) (sym stop)

pub fills-next : (was now : UnreadBody) (from to : Option Feed) (n count : ℕ) (buf bytes : List ℕ) → length buf ≡ count → n ≤ length buf → bytes ≡ take n buf → 0 < count → FillsFromBody was from now to (Ok n) buf → TakesNext count (remaining was from) (Given bytes) (remaining now to)
fills-next was now from to n count buf bytes size bound came some h =
    let P : List ℕ → Type 0 = λ x. TakesNext count (remaining was from) (Given x) (remaining now to) in
    subst P (sym came) (takes-given n count (take n buf) (remaining was from) (remaining now to) (count-taken buf n bound) (omega (arith, bound, size)) some h.0 (λ few. h.2 (omega (arith, few, size))) (λ none. h.3 none (omega (arith, some, size))))

fails-with : (kind : ErrorKind) (count : ℕ) (o p : Option Remaining) → p ≡ o → BodyStops (Faults kind) o → TakesNext count o (Fault kind) p
fails-with kind count None p same stops = tt
fails-with kind count (Some r) p same stops = (r.body, (stops, refl), same)

pub fails-next : (was now : UnreadBody) (from to : Option Feed) (kind : ErrorKind) (count : ℕ) (buf : List ℕ) → FillsFromBody was from now to (Err kind) buf → TakesNext count (remaining was from) (Fault kind) (remaining now to)
fails-next was now from to kind count buf h = fails-with kind count (remaining was from) (remaining now to) h.0 h.2

-- what is left of the body goes on from what it was
pub fills-on : (was now : UnreadBody) (from to : Option Feed) (n count : ℕ) (buf bytes : List ℕ) → length buf ≡ count → length bytes ≡ n → 0 < count → FillsFromBody was from now to (Ok n) buf → ReadsOn was (length bytes) (nat_lt (length bytes) count) now
fills-on was now from to n count buf bytes size many some h =
    let P : ℕ → ℕ → Type 0 = λ m c. ReadsOn was m (nat_lt m c) now in
    subst (λ m. P m count) (sym many) (subst (λ c. P n c) size (h.1 (omega (arith, some, size))))

pub fails-on : (was now : UnreadBody) (from to : Option Feed) (kind : ErrorKind) (count : ℕ) (buf : List ℕ) → 0 < count → FillsFromBody was from now to (Err kind) buf → ReadsOn was 0 (nat_lt 0 count) now
fails-on was now from to kind count buf some h = subst (λ b. ReadsOn was 0 b now) (sym (lt-ltb 0 count some)) h.1
