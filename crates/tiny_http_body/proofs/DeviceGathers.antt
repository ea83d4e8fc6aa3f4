-- Data that is read whole, piece by piece.
use Rattle.std.proofs.Common.{◌≡◌, ℕ, ◌+◌, ◌-◌, ◌*◌, ◌<◌, ◌≤◌, ◌^◌, List, ◌++◌, length, take, drop, Option, Some, None, Ok, Err, IfSome, sym, ap, ◌∙◌, arith, inl, inr, ◌⊎◌, length-drop}
use Rattle.std.specs.IoError.{error_kind}
use Rattle.std.specs.declared.io.Error.{Error}
use Rattle.std.proofs.Math.Seq.{take-add}
use Rattle.std.proofs.lemmas.List.{drop-drop, take_all, take-append-drop}
use Rattle.tiny_http_io.specs.Device.{Feed, ReadsFrom, Fills, FilledTo, GatheredTo}
use Rattle.tiny_http_io.specs.declared.device.Stop.TheVariants.{End, Fault}
use Rattle.std.specs.declared.io.ErrorKind.TheVariants.{OutOfMemory}
use Rattle.tiny_http_body.proofs.DeviceCopies.{front_was_read}

-- more of a buffer was filled
pub FilledTo-more : (o p q : Option Feed) (at n : ℕ) (was buf : List ℕ) → at ≤ length was → length buf ≡ length was → at + n ≤ length was → take at buf ≡ take at was → FilledTo o p at was → ReadsFrom p q (Ok n) (drop at buf) → FilledTo o q (at + n) buf
FilledTo-more None p q at n was buf l m s e h r = tt
FilledTo-more (Some f) None q at n was buf l m s e h r = absurd h
FilledTo-more (Some f) (Some g) None at n was buf l m s e h r = r
FilledTo-more (Some f) (Some g) (Some d) at n was buf l m s e h r =
    let x = front_was_read g.bytes d.bytes (drop at buf) n (simp length-drop (omega arith)) r.0 in (
      omega (arith, x.0, ap length h.2 ∙ length-drop at f.bytes, h.0),
      take-add at n buf ∙ ap (λ (y : List ℕ). y ++ take n (drop at buf)) (e ∙ h.1) ∙ ap (λ (y : List ℕ). take at f.bytes ++ y) (x.2 ∙ ap (λ (y : List ℕ). take n y) h.2) ∙ sym (take-add at n f.bytes),
      x.1 ∙ ap (λ (y : List ℕ). drop n y) h.2 ∙ drop-drop n at f.bytes,
      r.1 ∙ h.3,
    )

-- the data failed before the buffer was full
pub Fills-broken : (o p q : Option Feed) (at : ℕ) (e : Error) (was buf : List ℕ) → at < length was → length buf ≡ length was → FilledTo o p at was → ReadsFrom p q (Err e) (drop at buf) → Fills o q (Err e) buf
Fills-broken None p q at e was buf l m h r = tt
Fills-broken (Some f) None q at e was buf l m h r = absurd h
Fills-broken (Some f) (Some g) None at e was buf l m h r = r
Fills-broken (Some f) (Some g) (Some d) at e was buf l m h r = (omega (arith, length-drop at f.bytes, ap length (sym h.2 ∙ r.0)), sym h.3 ∙ r.1)

-- a piece more was gathered
pub GatheredTo-more : (o p q : Option Feed) (i n : ℕ) (all more buf : List ℕ) → length buf ≡ 8192 → n ≡ 8192 → GatheredTo o p all i → Fills p q (Ok n) buf → more ≡ all ++ take n buf → GatheredTo o q more (i + 1)
GatheredTo-more None p q i n all more buf l m h r e = tt
GatheredTo-more (Some f) None q i n all more buf l m h r e = absurd h
GatheredTo-more (Some f) (Some g) None i n all more buf l m h r e = r
GatheredTo-more (Some f) (Some g) (Some d) i n all more buf l m h r e =
    let there : length g.bytes ≡ length f.bytes - i * 8192 = ap length h.2 ∙ length-drop (i * 8192) f.bytes in
    let place : i * 8192 + 8192 ≡ (i + 1) * 8192 = omega arith in (
      omega (arith, r.0),
      e ∙ ap (λ (y : List ℕ). y ++ take n buf) h.1 ∙ ap (λ (y : List ℕ). take (i * 8192) f.bytes ++ y) (r.1 ∙ ap (λ (k : ℕ). take k g.bytes) m ∙ ap (λ (y : List ℕ). take 8192 y) h.2) ∙ sym (take-add (i * 8192) 8192 f.bytes) ∙ ap (λ (k : ℕ). take k f.bytes) place,
      r.2 ∙ ap (λ (k : ℕ). drop k g.bytes) m ∙ ap (λ (y : List ℕ). drop 8192 y) h.2 ∙ drop-drop 8192 (i * 8192) f.bytes ∙ ap (λ (k : ℕ). drop k f.bytes) place,
      r.3 ∙ h.3,
    )

-- the last piece was gathered
pub Gathers-last : (o p q : Option Feed) (i n : ℕ) (all buf bytes : List ℕ) → length buf ≡ 8192 → n < 8192 → GatheredTo o p all i → Fills p q (Ok n) buf → bytes ≡ all ++ take n buf → IfSome o (λ f. length f.bytes < 2 ^ 63 → (bytes ≡ f.bytes) × (f.stop ≡ End))
Gathers-last None p q i n all buf bytes l m h r e = tt
Gathers-last (Some f) None q i n all buf bytes l m h r e = absurd h
Gathers-last (Some f) (Some g) None i n all buf bytes l m h r e = absurd r
Gathers-last (Some f) (Some g) (Some d) i n all buf bytes l m h r e = λ few.
    let ended = r.4 (omega arith) in
    let none : length g.bytes ≤ n = omega (arith, length-drop n g.bytes, ap length (sym r.2 ∙ ended.0)) in
    (e ∙ ap (λ (y : List ℕ). y ++ take n buf) h.1 ∙ ap (λ (y : List ℕ). take (i * 8192) f.bytes ++ y) (r.1 ∙ take_all n g.bytes none ∙ h.2) ∙ take-append-drop (i * 8192) f.bytes, sym h.3 ∙ ended.1)

pub Gathers-fault : (o p q : Option Feed) (i : ℕ) (all buf : List ℕ) (e : Error) → GatheredTo o p all i → Fills p q (Err e) buf → IfSome o (λ f. length f.bytes < 2 ^ 63 → (f.stop ≡ Fault (error_kind e)) ⊎ (error_kind e ≡ OutOfMemory))
Gathers-fault None p q i all buf e h r = tt
Gathers-fault (Some f) None q i all buf e h r = absurd h
Gathers-fault (Some f) (Some g) None i all buf e h r = absurd r
Gathers-fault (Some f) (Some g) (Some d) i all buf e h r = λ few. inl (sym h.3 ∙ r.1)

pub Gathers-full : (o : Option Feed) (e : Error) → error_kind e ≡ OutOfMemory → IfSome o (λ f. length f.bytes < 2 ^ 63 → (f.stop ≡ Fault (error_kind e)) ⊎ (error_kind e ≡ OutOfMemory))
Gathers-full None e h = tt
Gathers-full (Some f) e h = λ few. inr h

pub Gathers-endless : (o p : Option Feed) (i : ℕ) (all : List ℕ) (e : Error) → 2 ^ 64 - 1 ≤ i → GatheredTo o p all i → IfSome o (λ f. length f.bytes < 2 ^ 63 → (f.stop ≡ Fault (error_kind e)) ⊎ (error_kind e ≡ OutOfMemory))
Gathers-endless None p i all e l h = tt
Gathers-endless (Some f) None i all e l h = absurd h
Gathers-endless (Some f) (Some g) i all e l h = λ few. absurd (omega (arith, h.0))
