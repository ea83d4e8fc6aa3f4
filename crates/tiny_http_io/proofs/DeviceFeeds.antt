-- Lemmas on what readers give and writers take.
use Rattle.std.proofs.Common.{◌≡◌, ℕ, ◌+◌, ◌-◌, Bool, true, false, List, [], ◌++◌, length, take, drop, None, Some, Option, refl, sym, ap, ◌∙◌, arith, append_assoc}
use Rattle.std.proofs.lemmas.List.{take-append-drop, drop-drop}
use Rattle.std.specs.Prelude.{nat_lt}
use Rattle.std.proofs.lemmas.Bool.{ltb-true, ltb-false, lt-ltb, le-ltb}
use Rattle.std.proofs.lemmas.Slice.{between_to_end}
use Rattle.tiny_http_io.specs.declared.device.Stop.{Stop}
use Rattle.std.specs.Io.KnownBytes.{append_known}
use Rattle.tiny_http_io.specs.Device.{Feed, prepended, IsKnownFront}

-- the next n bytes, and then those after them
pub next_bytes : (s : List ℕ) (i n : ℕ) → take n (drop i s) ++ drop (i + n) s ≡ drop i s
next_bytes s i n = ap (λ r. take n (drop i s) ++ r) (sym (drop-drop n i s)) ∙ take-append-drop n (drop i s)

-- a feed of the bytes from a place on, when the next n bytes were copied
pub feed_goes_on : (s items to : List ℕ) (i n : ℕ) (stop : Stop) (f : Feed) → record { bytes = drop i items; stop = stop } ≡ f → s ≡ items →
    take n to ≡ take n (take (length s - i) (drop i s)) → Some f ≡ prepended (take n to) (Some (record { bytes = drop (i + n) items; stop = stop }))
feed_goes_on s items to i n stop f view same copied =
    let front : take n to ≡ take n (drop i items) = copied ∙ ap (λ r. take n r) (between_to_end s i (length s) (omega arith)) ∙ ap (λ r. take n (drop i r)) same in
    let whole : take n to ++ drop (i + n) items ≡ drop i items = ap (λ r. r ++ drop (i + n) items) front ∙ next_bytes items i n in
    ap Some (sym view ∙ (let P : List ℕ → Feed = λ bs. record { bytes = bs; stop = stop } in ap P (sym whole)))

-- bytes before bytes before a feed
pub given-given : (a b : List ℕ) (f : Option Feed) → prepended a (prepended b f) ≡ prepended (a ++ b) f
given-given a b None = refl
given-given a b (Some f) = let P : List ℕ → Option Feed = λ bs. Some (record { bytes = bs; stop = f.stop }) in ap P (sym (append_assoc a b f.bytes))

-- a feed that gave some bytes, and then some more
pub given-along : (f0 f1 f2 : Option Feed) (a b c : List ℕ) → f0 ≡ prepended a f1 → f1 ≡ prepended b f2 → c ≡ a ++ b → f0 ≡ prepended c f2
given-along f0 f1 f2 a b c first second e = first ∙ ap (λ f. prepended a f) second ∙ given-given a b f2 ∙ ap (λ bs. prepended bs f2) (sym e)

pub append_known-append : (k : Option (List ℕ)) (a b : List ℕ) → append_known (append_known k a) b ≡ append_known k (a ++ b)
append_known-append None a b = refl
append_known-append (Some xs) a b = ap Some (append_assoc xs a b)

-- a front of some bytes is a front of more
pub front-more : (new whole : Option (List ℕ)) (more : List ℕ) → IsKnownFront new whole → IsKnownFront new (append_known whole more)
front-more new whole more (rest, e) = (rest ++ more, ap (λ k. append_known k more) e ∙ append_known-append new rest more)

-- nothing prepended changes nothing
pub prepended-nothing : (f : Option Feed) → f ≡ prepended [] f
prepended-nothing None = refl
prepended-nothing (Some f) = refl

-- what is the case of two numbers is so of both with the same more
pub lt-shift : (a b c : ℕ) (t : Bool) → nat_lt b c ≡ t → nat_lt (a + b) (a + c) ≡ t
lt-shift a b c true e = let h = ltb-true b c e in lt-ltb (a + b) (a + c) (omega arith)
lt-shift a b c false e = let h = ltb-false b c e in le-ltb (a + b) (a + c) (omega arith)
