-- How a body stands after some of it was read.
use Rattle.std.proofs.Common.{◌≡◌, refl, sym, ap, ◌∙◌, subst, ℕ, zero, suc, ◌+◌, ◌-◌, ◌<◌, ◌≤◌, ◌==◌, ◌||◌, min, Bool, true, false, List, [], ◌∷◌, ◌++◌, length, take, Option, Some, None, ◌⊎◌, inl, inr, arith}
use Rattle.std.proofs.Common.{append-nil, length-append, length-take}
use Rattle.std.proofs.lemmas.Bool.{ltb-true}
use Rattle.std.specs.Prelude.{MatchBool, nat_lt, ⊤}
use Rattle.std.specs.declared.io.ErrorKind.{ErrorKind}
use Rattle.tiny_http_io.specs.Cursor.{cursor_bytes}
use Rattle.tiny_http_io.specs.Device.{Feed, whole_feed, prepend, prepended, StopsBy}
use Rattle.tiny_http_io.specs.FeedParts.{feed_front, stop_where}
use Rattle.tiny_http_io.specs.ToCome.{stopped}
use Rattle.tiny_http_io.specs.declared.device.Stop.{Stop}
use Rattle.tiny_http_io.specs.declared.device.Stop.TheVariants.{End, Fault}
use Rattle.tiny_http_body.specs.declared.body.UnreadBody.{UnreadBody}
use Rattle.tiny_http_body.specs.declared.body.UnreadBody.TheVariants.{Over, WithHead, Counted, Chunked, Rest}
use Rattle.tiny_http_body.specs.Body.{is_streaming, bytes_left, body_stop, ReadsOn, IsBodyOver, IsCountedOver, IsChunkedBy, cut_feed}
use Rattle.tiny_http_body.proofs.BodyReads.{counted-over}
use Rattle.tiny_http_request.specs.WholeBody.{IsWholeOf}
use Rattle.tiny_http_request.proofs.BodyLemmas.{left_at}

-- no fault was reported of a body of a known length
pub sized-has-no-fault : (b : UnreadBody) (n : ℕ) → bytes_left b ≡ Some n → (kind : ErrorKind) → body_stop b ≡ Some (Fault kind) → ⊥
sized-has-no-fault (Over End) n h kind e = cc
sized-has-no-fault (Over (Fault k)) n h kind e = cc
sized-has-no-fault (WithHead bytes) n h kind e = cc
sized-has-no-fault (Counted m standard) n h kind e = cc
sized-has-no-fault (Chunked d) n h kind e = cc
sized-has-no-fault Rest n h kind e = cc

-- Of a counted body that is read, so many bytes are left, and so many were taken: none are left alone where it never had one. Or it is
-- over.
abbrev pub StandsAt : ℕ → ℕ → UnreadBody → Type 0
StandsAt left taken (Counted n standard) = (n ≡ left) × (left ≡ 0 → taken ≡ 0)
StandsAt left taken (Over stop) = ⊤
StandsAt left taken (WithHead bytes) = ⊥
StandsAt left taken (Chunked d) = ⊥
StandsAt left taken Rest = ⊥

some-same : (n m : ℕ) → Some n ≡ Some m → n ≡ m
some-same n m e = cc

pub represents-begin : (b : UnreadBody) (count left : ℕ) → left ≡ count → is_streaming b ≡ true → bytes_left b ≡ Some count → StandsAt left 0 b
represents-begin (Over stop) count left l s e = tt
represents-begin (WithHead bytes) count left l s e = cc
represents-begin (Counted n standard) count left l s e = (some-same n count e ∙ sym l, λ z. refl)
represents-begin (Chunked d) count left l s e = cc
represents-begin Rest count left l s e = cc

over-represents : (b : UnreadBody) (left taken : ℕ) → IsBodyOver b → StandsAt left taken b
over-represents (Over stop) left taken h = tt
over-represents (WithHead bytes) left taken h = absurd h
over-represents (Counted n standard) left taken h = absurd h
over-represents (Chunked d) left taken h = absurd h
over-represents Rest left taken h = absurd h

counted-on : (t has_come : Bool) (new : UnreadBody) (m n left taken : ℕ) (standard : Bool) → left ≡ m - n → MatchBool t (IsCountedOver standard has_come new) ((new ≡ Counted (m - n) standard) × (n < m)) → StandsAt left taken new
counted-on true has_come new m n left taken standard e h = over-represents new left taken (counted-over standard has_come new h)
counted-on false has_come new m n left taken standard e h = subst (StandsAt left taken) (sym h.0) (sym e, λ z. absurd (omega (arith, e, z, h.1)))

pub represents-on : (b new : UnreadBody) (n left taken left_then taken_then : ℕ) → (n == 0) ≡ false → left_then ≡ left - n → 0 < n → StandsAt left taken b → ReadsOn b n (n == 0) new → StandsAt left_then taken_then new
represents-on (Over stop) new n left taken left_then taken_then some e p h m = absurd (omega (arith, p, m.1))
represents-on (WithHead bytes) new n left taken left_then taken_then some e p h m = absurd h
represents-on (Counted k standard) new n left taken left_then taken_then some e p h m =
    let k_is : k ≡ left = h.0 in
    counted-on (n == k) (n == k) new k n left_then taken_then standard (omega (arith, e, k_is)) (subst (λ (t : Bool). MatchBool (t || n == k) (IsCountedOver standard (n == k) new) ((new ≡ Counted (k - n) standard) × (n < k))) some m)
represents-on (Chunked d) new n left taken left_then taken_then some e p h m = absurd h
represents-on Rest new n left taken left_then taken_then some e p h m = absurd h

pub represents-end : (b : UnreadBody) (left taken count : ℕ) → left ≡ 0 → taken ≡ count → StandsAt left taken b → (count ≡ 0) ⊎ IsBodyOver b
represents-end (Over stop) left taken count z t h = inr tt
represents-end (WithHead bytes) left taken count z t h = absurd h
represents-end (Counted n standard) left taken count z t h = inl (sym t ∙ h.1 z)
represents-end (Chunked d) left taken count z t h = absurd h
represents-end Rest left taken count z t h = absurd h

length-zero : (xs : List ℕ) → length xs ≡ 0 → xs ≡ []
length-zero [] e = refl
length-zero (x ∷ xs) e = absurd (omega (arith, e))

-- so many bytes of a feed are all there are, and then it ends
front-all : (n : ℕ) (f : Feed) (items rest : List ℕ) → take n f.bytes ≡ items ++ rest → length items ≡ n
    → feed_front n f ≡ whole_feed items
unfolding feed_front
front-all n f items rest split all = whole (nat_lt (length f.bytes) n) refl
  where
    count : min n (length f.bytes) ≡ length items + length rest
    count = sym (length-take n f.bytes) ∙ ap length split ∙ length-append items rest

    none : length rest ≡ 0
    none = omega (arith, count, all)

    same : take n f.bytes ≡ items
    same = split ∙ ap (λ (x : List ℕ). items ++ x) (length-zero rest none) ∙ append-nil items

    whole : (t : Bool) → nat_lt (length f.bytes) n ≡ t → feed_front n f ≡ whole_feed items
    whole false e = ap (λ (bs : List ℕ). record { bytes = bs; stop = stop_where (nat_lt (length f.bytes) n) f.stop }) same
        ∙ ap (λ (b : Bool). record { bytes = items; stop = stop_where b f.stop }) e
    whole true e = absurd (omega (arith, ltb-true (length f.bytes) n e, count, all))

some-feed : (f g : Feed) → Some f ≡ Some g → f ≡ g
some-feed f g e = cc

-- what stands in front of an end is whole
pub stop-whole : (left rest : Option Feed) (bytes : List ℕ) → left ≡ prepended bytes rest → StopsBy End rest → IsWholeOf bytes left
stop-whole None rest bytes e s = tt
stop-whole (Some f) None bytes e s = cc
stop-whole (Some f) (Some g) bytes e s =
    some-feed f (prepend bytes g) e ∙ ap (λ (x : List ℕ). record { bytes = bytes ++ x; stop = g.stop }) s.0
    ∙ ap (λ (x : List ℕ). record { bytes = x; stop = g.stop }) (append-nil bytes) ∙ ap (λ (x : Stop). record { bytes = bytes; stop = x }) s.1

-- as many bytes as are held are all of them
held-whole : (held : List ℕ) (g : Feed) (count : ℕ) (bytes : List ℕ) → length held ≡ count → length bytes ≡ count → whole_feed held ≡ prepend bytes g
    → whole_feed held ≡ whole_feed bytes
held-whole held g count bytes h l e = ap whole_feed (split ∙ ap (λ (x : List ℕ). bytes ++ x) (length-zero g.bytes none) ∙ append-nil bytes)
  where
    split : held ≡ bytes ++ g.bytes
    split = ap (λ (x : Feed). x.bytes) e

    none : length g.bytes ≡ 0
    none = omega (arith, h, l, ap length split ∙ length-append bytes g.bytes)

-- so many bytes of a body of a known length are the whole
pub count-whole : (u : UnreadBody) (input rest : Option Feed) (count : ℕ) (bytes : List ℕ) → bytes_left u ≡ Some count → length bytes ≡ count
    → left_at u input ≡ prepended bytes rest → IsWholeOf bytes (left_at u input)
unfolding feed_front
count-whole u None rest count bytes k l e = untold u
  where
    untold : (u : UnreadBody) → IsWholeOf bytes (left_at u None)
    untold (Over stop) = tt
    untold (WithHead held) = tt
    untold (Counted n standard) = tt
    untold (Chunked d) = tt
    untold Rest = tt
count-whole (Over End) (Some f) None count bytes k l e = cc
count-whole (Over End) (Some f) (Some g) count bytes k l e = held-whole [] g count bytes (some-same 0 count k) l (some-feed (stopped End) (prepend bytes g) e)
count-whole (Over (Fault kind)) (Some f) rest count bytes k l e = cc
count-whole (WithHead held) (Some f) None count bytes k l e = cc
count-whole (WithHead held) (Some f) (Some g) count bytes k l e =
    held-whole (cursor_bytes held) g count bytes (some-same (length (cursor_bytes held)) count k) l (some-feed (whole_feed (cursor_bytes held)) (prepend bytes g) e)
count-whole (Counted n standard) (Some f) None count bytes k l e = cc
count-whole (Counted n standard) (Some f) (Some g) count bytes k l e =
    front-all n (cut_feed standard f) bytes g.bytes (ap (λ (x : Feed). x.bytes) (some-feed (feed_front n (cut_feed standard f)) (prepend bytes g) e)) (l ∙ sym (some-same n count k))
count-whole (Chunked d) (Some f) rest count bytes k l e = cc
count-whole Rest (Some f) rest count bytes k l e = cc
