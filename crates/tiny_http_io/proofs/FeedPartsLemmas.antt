-- The first bytes of a feed, and what stands after them.
use Rattle.std.proofs.Common.{◌≡◌, refl, sym, ap, ◌∙◌, ℕ, ◌+◌, ◌-◌, ◌<◌, ◌≤◌, Bool, true, false, List, [], ◌∷◌, ◌++◌, length, take, drop, Option, Some, None, length-append, arith}
use Rattle.std.specs.Prelude.{nat_lt}
use Rattle.std.specs.Option.{option_map}
use Rattle.std.proofs.Math.Seq.{take-append-add, take-nil, drop-nil}
use Rattle.std.proofs.lemmas.List.{drop-drop}
use Rattle.std.proofs.lemmas.Bool.{le-ltb, lt-ltb}
use Rattle.std.specs.declared.io.ErrorKind.{ErrorKind}
use Rattle.tiny_http_io.specs.declared.device.Stop.{Stop}
use Rattle.tiny_http_io.specs.declared.device.Stop.TheVariants.{End, Fault}
use Rattle.tiny_http_io.specs.Device.{Feed, prepended, prepend, StopsBy}
use Rattle.tiny_http_io.specs.FeedParts.{stop_where, feed_front, feed_behind}
use Rattle.std.proofs.Math.Seq.{drop-append_seam}
use Rattle.tiny_http_io.proofs.DeviceFeeds.{lt-shift, prepended-nothing}

abbrev at : List ℕ → Stop → Feed
at bytes stop = record { bytes = bytes; stop = stop }

pub drop-more : (front rest : List ℕ) (k : ℕ) → drop (length front + k) (front ++ rest) ≡ drop k rest
drop-more front rest k = sym (drop-drop k (length front) (front ++ rest)) ∙ ap (λ x. drop k x) (drop-append_seam front rest)

pub part-more : (stop : Stop) (front rest : List ℕ) (k : ℕ) → feed_front (length front + k) (at (front ++ rest) stop) ≡ prepend front (feed_front k (at rest stop))
unfolding feed_front
part-more stop front rest k =
    let e : nat_lt (length (front ++ rest)) (length front + k) ≡ nat_lt (length rest) k =
    ap (λ n. nat_lt n (length front + k)) (length-append front rest) ∙ lt-shift (length front) (length rest) k (nat_lt (length rest) k) refl in
    ap (λ t. at (take (length front + k) (front ++ rest)) (stop_where t stop)) e ∙ ap (λ x. at x (stop_where (nat_lt (length rest) k) stop)) (take-append-add front rest k)

part-at : (new : Option Feed) (front : List ℕ) (k : ℕ) → option_map (feed_front (length front + k)) (prepended front new) ≡ prepended front (option_map (feed_front k) new)
part-at None front k = refl
part-at (Some f) front k = ap Some (part-more f.stop front f.bytes k)

pub part-bytes : (old new : Option Feed) (front : List ℕ) (left n : ℕ) → old ≡ prepended front new → length front ≡ n → n ≤ left
    → option_map (feed_front left) old ≡ prepended front (option_map (feed_front (left - n)) new)
part-bytes old new front left n h e le =
    let split : left ≡ length front + (left - n) = omega arith in
    ap (λ o. option_map (feed_front left) o) h ∙ (ap (λ m. option_map (feed_front m) (prepended front new)) split ∙ part-at new front (left - n))

last-more : (stop : Stop) (front rest : List ℕ) (k : ℕ) → feed_behind (length front + k) (at (front ++ rest) stop) ≡ feed_behind k (at rest stop)
unfolding feed_behind
last-more stop front rest k = ap (λ x. at x stop) (drop-more front rest k)

last-at : (new : Option Feed) (front : List ℕ) (k : ℕ) → option_map (feed_behind (length front + k)) (prepended front new) ≡ option_map (feed_behind k) new
last-at None front k = refl
last-at (Some f) front k = ap Some (last-more f.stop front f.bytes k)

pub last-bytes : (old new : Option Feed) (front : List ℕ) (left n : ℕ) → old ≡ prepended front new → length front ≡ n → n ≤ left
    → option_map (feed_behind (left - n)) new ≡ option_map (feed_behind left) old
last-bytes old new front left n h e le =
    let split : left ≡ length front + (left - n) = omega arith in
    sym (ap (λ o. option_map (feed_behind left) o) h ∙ (ap (λ m. option_map (feed_behind m) (prepended front new)) split ∙ last-at new front (left - n)))

-- none of them is left
pub part-none : (old : Option Feed) (left : ℕ) → left ≡ 0 → StopsBy End (option_map (feed_front left) old)
unfolding feed_front
part-none None left e = tt
part-none (Some f) left e = rw (e, le-ltb (length f.bytes) 0 (omega arith)) (refl, refl)

stop-end : (t : Bool) (stop : Stop) → stop ≡ End → stop_where t stop ≡ End
stop-end true stop e = e
stop-end false stop e = refl

take-none : (n : ℕ) (none : List ℕ) → none ≡ [] → take n none ≡ []
take-none n [] e = take-nil n
take-none n (b ∷ bs) e = cc

drop-none : (n : ℕ) (none : List ℕ) → none ≡ [] → drop n none ≡ []
drop-none n [] e = drop-nil n
drop-none n (b ∷ bs) e = cc

pub part-end : (old : Option Feed) (left : ℕ) → StopsBy End old → StopsBy End (option_map (feed_front left) old)
unfolding feed_front
part-end None left h = tt
part-end (Some f) left h = (take-none left f.bytes h.0, stop-end (nat_lt (length f.bytes) left) f.stop h.1)

pub part-fault : (old : Option Feed) (left : ℕ) (kind : ErrorKind) → 0 < left → StopsBy (Fault kind) old → StopsBy (Fault kind) (option_map (feed_front left) old)
unfolding feed_front
part-fault None left kind p h = tt
part-fault (Some f) left kind p h =
    let z : length f.bytes ≡ 0 = ap length h.0 in
    let t : nat_lt (length f.bytes) left ≡ true = lt-ltb (length f.bytes) left (omega arith) in
    (take-none left f.bytes h.0, ap (λ x. stop_where x f.stop) t ∙ h.1)

-- nothing is left of the feed
pub last-stop : (old : Option Feed) (n : ℕ) (stop : Stop) → StopsBy stop old → old ≡ option_map (feed_behind n) old
unfolding feed_behind
last-stop None n stop h = refl
last-stop (Some f) n stop h = ap Some (ap (λ x. at x f.stop) (h.0 ∙ sym (drop-none n f.bytes h.0)))

pub last-none : (old : Option Feed) (n : ℕ) → n ≡ 0 → old ≡ option_map (feed_behind n) old
unfolding feed_behind
last-none None n e = refl
last-none (Some f) n e = rw e refl

pub nothing-given : (old new : Option Feed) (front : List ℕ) → old ≡ prepended front new → length front ≡ 0 → new ≡ old
nothing-given old new [] h e = let go : (f : Option Feed) → f ≡ prepended [] f = λ f. prepended-nothing f in go new ∙ sym h
nothing-given old new (b ∷ bs) h e = absurd (omega arith)
