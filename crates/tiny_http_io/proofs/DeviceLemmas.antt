-- One text after another, to a writer.
use Rattle.std.proofs.Common.{◌≡◌, ℕ, ◌+◌, ◌-◌, ◌<◌, ◌≤◌, ◌^◌, min, Bool, true, false, List, [], ◌∷◌, ◌++◌, length, take, drop, Option, Some, None, Result, Ok, Err, refl, sym, ap, ◌∙◌, subst, append_assoc, arith}
use Rattle.std.specs.declared.io.Error.{Error}
use Rattle.std.specs.declared.io.ErrorKind.{ErrorKind}
use Rattle.std.specs.Io.KnownBytes.{append_known}
use Rattle.std.proofs.Common.{suc, get_or, length-take, length-drop, drop-cons}
use Rattle.std.proofs.Math.Seq.{take-add}
use Rattle.std.specs.List.{flat_map}
use Rattle.std.proofs.lemmas.List.Concat.{flat_map-append, flat_map-cons}
use Rattle.std.proofs.lemmas.List.{append-nil, take-append-drop, take-take, take_more}
use Rattle.tiny_http_io.specs.Device.{Sink, grown, IsFront, IsKnownFront, Took, Failed, Puts}
use Rattle.tiny_http_io.proofs.DeviceFeeds.{append_known-append}

pub grown-nil : (ended : Bool) (known : Option (List ℕ)) → grown ended known [] ≡ known
grown-nil true known = refl
grown-nil false None = refl
grown-nil false (Some xs) = ap Some (append-nil xs)

grown-append : (ended : Bool) (known : Option (List ℕ)) (s t : List ℕ) → grown ended (grown ended known s) t ≡ grown ended known (s ++ t)
grown-append true known s t = refl
grown-append false None s t = refl
grown-append false (Some xs) s t = ap Some (append_assoc xs s t)

IsFrontOf-append : (a known : Option (List ℕ)) (s t : List ℕ) → IsKnownFront a (append_known known s) → IsKnownFront a (append_known known (s ++ t))
IsFrontOf-append a known s t h = (h.0 ++ t, sym (append_known-append known s t) ∙ ap (λ k. append_known k t) h.1 ∙ append_known-append a h.0 t)

-- what was sent on only grows
pub IsFront-same : (xs : List ℕ) → IsFront xs xs
IsFront-same xs = ([], sym (append-nil xs))

pub IsFront-append : (xs ys zs : List ℕ) → IsFront xs ys → IsFront ys zs → IsFront xs zs
IsFront-append xs ys zs h k = (h.0 ++ k.0, k.1 ∙ ap (λ y. y ++ k.0) h.1 ∙ append_assoc xs h.0 k.0)

-- nothing is taken where nothing is written
pub Took-nil : (a : Sink) → Took a a []
Took-nil a = record { bytes = sym (grown-nil a.has_ended a.taken); sent = IsFront-same a.sent; failures = refl; last_kind = refl; stays = refl }

pub Took-append : (a b c : Sink) (s t : List ℕ) → Took a b s → Took b c t → Took a c (s ++ t)
Took-append a b c s t h k = record {
  bytes = k.bytes ∙ ap (λ (e : Bool). grown e b.taken t) h.stays ∙ ap (λ (o : Option (List ℕ)). grown a.has_ended o t) h.bytes ∙ grown-append a.has_ended a.taken s t;
  sent = IsFront-append a.sent b.sent c.sent h.sent k.sent;
  failures = k.failures ∙ h.failures;
  last_kind = k.last_kind ∙ h.last_kind;
  stays = k.stays ∙ h.stays;
}

pub Failed-front : (a b : Sink) (s t : List ℕ) (kind : ErrorKind) → Failed a b s kind → Failed a b (s ++ t) kind
Failed-front a b s t kind h = record {
  bytes = IsFrontOf-append b.taken a.taken s t h.bytes;
  sent = h.sent;
  keeps = h.keeps;
  failures = h.failures;
  last_kind = h.last_kind;
  was_open = h.was_open;
}

-- an open writer's bytes, where it did not end
open_bytes : (a b : Sink) (s : List ℕ) → Took a b s → a.has_ended ≡ false → b.taken ≡ append_known a.taken s
open_bytes a b s h o = h.bytes ∙ ap (λ (e : Bool). grown e a.taken s) o

pub Failed-append : (a b c : Sink) (s t : List ℕ) (kind : ErrorKind) → Took a b s → Failed b c t kind → Failed a c (s ++ t) kind
Failed-append a b c s t kind h k =
    let was_open : a.has_ended ≡ false = sym h.stays ∙ k.was_open in
    let P : Option (List ℕ) → Type 0 = λ o. IsKnownFront c.taken o in
    record {
      bytes = subst P (ap (λ (o : Option (List ℕ)). append_known o t) (open_bytes a b s h was_open) ∙ append_known-append a.taken s t) k.bytes;
      sent = IsFront-append a.sent b.sent c.sent h.sent k.sent;
      keeps = k.keeps;
      failures = k.failures ∙ ap (λ (n : ℕ). min (n + 1) (2 ^ 64 - 1)) h.failures;
      last_kind = k.last_kind;
      was_open = was_open;
    }

-- one text after another
pub Puts-append : {T : Type 0} (a b c : Sink) (r : Result T Error) (s t : List ℕ) → Took a b s → Puts b c r t → Puts a c r (s ++ t)
Puts-append a b c (Ok x) s t h k = Took-append a b c s t h k
Puts-append a b c (Err e) s t h k = Failed-append a b c s t _ h k

-- a part of a slice, and then the rest of it
pub Took-at : (a b c : Sink) (bytes : List ℕ) (at n : ℕ) → at ≤ length bytes → n ≤ length (take (length bytes - at) (drop at bytes)) → Took a b (take at bytes) → Took b c (take n (take (length bytes - at) (drop at bytes))) → Took a c (take (at + n) bytes)
Took-at a b c bytes at n within fits h k =
    let short : n ≤ length bytes - at = omega (arith, simp (length-take, length-drop) at fits) in
    let P : List ℕ → Type 0 = λ t. Took b c t in
    let Q : List ℕ → Type 0 = λ t. Took a c t in
    subst Q (sym (take-add at n bytes)) (Took-append a b c (take at bytes) (take n (drop at bytes)) h (subst P (take-take n (length bytes - at) (drop at bytes) (omega arith)) k))

pieces-at : {X : Type 0} (f : X → List ℕ) (xs : List X) (i : ℕ) (d : X) → i < length xs → flat_map f xs ≡ (flat_map f (take i xs) ++ f (get_or xs i d)) ++ flat_map f (drop (suc i) xs)
pieces-at f xs i d h =
    let e : take i xs ++ (get_or xs i d ∷ drop (suc i) xs) ≡ xs = ap (λ y. take i xs ++ y) (sym (drop-cons xs i d h)) ∙ take-append-drop i xs in
    ap (flat_map f) (sym e) ∙ flat_map-append f (take i xs) (get_or xs i d ∷ drop (suc i) xs) ∙ ap (λ y. flat_map f (take i xs) ++ y) (flat_map-cons f (get_or xs i d) (drop (suc i) xs)) ∙ sym (append_assoc (flat_map f (take i xs)) (f (get_or xs i d)) (flat_map f (drop (suc i) xs)))

-- one more of several pieces, and a failure at one
pub Took-piece : {X : Type 0} (a b c : Sink) (f : X → List ℕ) (xs : List X) (i : ℕ) (d : X) → i < length xs → Took a b (flat_map f (take i xs)) → Took b c (f (get_or xs i d)) → Took a c (flat_map f (take (i + 1) xs))
Took-piece a b c f xs i d l h k =
    let Q : List ℕ → Type 0 = λ t. Took a c t in
    let e : flat_map f (take (i + 1) xs) ≡ flat_map f (take i xs) ++ f (get_or xs i d) = ap (flat_map f) (take_more xs i d l) ∙ flat_map-append f (take i xs) (get_or xs i d ∷ []) ∙ ap (λ y. flat_map f (take i xs) ++ y) (flat_map-cons f (get_or xs i d) [] ∙ append-nil (f (get_or xs i d))) in
    subst Q (sym e) (Took-append a b c _ _ h k)

pub Failed-piece : {X : Type 0} (a b c : Sink) (f : X → List ℕ) (xs : List X) (i : ℕ) (d : X) (kind : ErrorKind) → i < length xs → Took a b (flat_map f (take i xs)) → Failed b c (f (get_or xs i d)) kind → Failed a c (flat_map f xs) kind
Failed-piece a b c f xs i d kind l h k =
    let Q : List ℕ → Type 0 = λ t. Failed a c t kind in
    subst Q (sym (pieces-at f xs i d l)) (Failed-front a c _ _ kind (Failed-append a b c _ _ kind h k))

pub Failed-item : {X : Type 0} (a b c : Sink) (f : X → List ℕ) (xs : List X) (i : ℕ) (x : X) (kind : ErrorKind) → i < length xs → x ≡ get_or xs i x → Took a b (flat_map f (take i xs)) → Failed b c (f x) kind → Failed a c (flat_map f xs) kind
Failed-item a b c f xs i x kind l e h k =
    let P : List ℕ → Type 0 = λ t. Failed b c t kind in
    Failed-piece a b c f xs i x kind l h (subst P (ap f e) k)

pub ruleset texts = (Took-append, Failed-append, Failed-front, Puts-append)
