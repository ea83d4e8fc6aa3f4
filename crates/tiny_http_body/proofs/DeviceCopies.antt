-- From a reader to a writer.
use Rattle.std.proofs.Common.{◌≡◌, ℕ, ◌+◌, ◌-◌, ◌<◌, ◌≤◌, true, false, List, [], ◌++◌, length, take, drop, Option, Some, None, Result, Ok, Err, IfSome, OnErr, refl, sym, ap, ◌∙◌, subst, arith, inl, inr, length-take, length-drop, length-append, leb, le-leb}
use Rattle.std.proofs.lemmas.Bool.{lt-leb}
use Rattle.std.specs.IoError.{error_kind}
use Rattle.std.specs.declared.io.Error.{Error}
use Rattle.std.specs.declared.io.ErrorKind.{ErrorKind}
use Rattle.std.specs.declared.io.ErrorKind.TheVariants.{UnexpectedEof}
use Rattle.std.proofs.Math.Seq.{take-add}
use Rattle.tiny_http_io.specs.declared.device.Stop.{Stop}
use Rattle.tiny_http_io.specs.Device.{Puts}
use Rattle.tiny_http_body.specs.Text.{whole, Text, prepend_text, Prints, identity_body, Broken, data_behind, TakesUpTo}
use Rattle.std.proofs.lemmas.List.{append-nil, drop-drop, take_at, drop_at, take_all}
use Rattle.tiny_http_io.specs.Device.{Feed, fault_of, Sink, Took, Failed, ReadsFrom, Copied, CopiedKnown, CopyBreaks}
use Rattle.tiny_http_io.proofs.DeviceLemmas.{Took-nil, Took-append, Failed-append, Failed-front}

-- what stands in front of the rest
pub front_was_read : (all rest buf : List ℕ) (n : ℕ) → n ≤ length buf → all ≡ take n buf ++ rest → (n ≤ length all) × (rest ≡ drop n all) × (take n buf ≡ take n all)
front_was_read all rest buf n h e =
    let size : length (take n buf) ≡ n = simp length-take (omega arith) in
    (omega (arith, ap length e ∙ length-append (take n buf) rest), sym (ap (λ (x : List ℕ). drop n x) e ∙ drop_at (take n buf) rest n size), sym (ap (λ (x : List ℕ). take n x) e ∙ take_at (take n buf) rest n size))

pub Copied-piece : (o p : Option Feed) (from to : Sink) (buf : List ℕ) (n : ℕ) → n ≤ length buf → ReadsFrom o p (Ok n) buf → Took from to (take n buf) → CopiedKnown o p from to n
Copied-piece None p from to buf n h r t = tt
Copied-piece (Some f) None from to buf n h r t = r
Copied-piece (Some f) (Some g) from to buf n h r t =
    let e = front_was_read f.bytes g.bytes buf n h r.0 in
    let P : List ℕ → Type 0 = λ x. Took from to x in
    record { within = e.0; rest = e.1; stop = r.1; taken = subst P e.2 t }

pub Breaks-read : (o p : Option Feed) (at : Sink) (e : Error) (buf : List ℕ) (left : ℕ) → ReadsFrom o p (Err e) buf → CopyBreaks o at at left (error_kind e)
Breaks-read None p at e buf left r = tt
Breaks-read (Some f) None at e buf left r = absurd r
Breaks-read (Some f) (Some g) at e buf left r = inl (r.0, ap fault_of r.1, Took-nil at)

pub Breaks-end : (o p : Option Feed) (at : Sink) (n : ℕ) (buf : List ℕ) (left : ℕ) → n ≡ 0 → 0 < length buf → ReadsFrom o p (Ok n) buf → CopyBreaks o at at left UnexpectedEof
Breaks-end None p at n buf left z l r = tt
Breaks-end (Some f) None at n buf left z l r = absurd r
Breaks-end (Some f) (Some g) at n buf left z l r = inl ((r.2 z l).0, ap fault_of (r.2 z l).1, Took-nil at)

pub Breaks-write : (o p : Option Feed) (from to : Sink) (n : ℕ) (buf : List ℕ) (left : ℕ) (kind : ErrorKind) → n ≤ length buf → n ≤ left → ReadsFrom o p (Ok n) buf → Failed from to (take n buf) kind → CopyBreaks o from to left kind
Breaks-write None p from to n buf left kind h l r w = tt
Breaks-write (Some f) None from to n buf left kind h l r w = absurd r
Breaks-write (Some f) (Some g) from to n buf left kind h l r w =
    let e = front_was_read f.bytes g.bytes buf n h r.0 in
    let P : List ℕ → Type 0 = λ x. Failed from to x kind in
    let sum : n + (left - n) ≡ left = omega arith in
    inr (subst P (sym (take-add n (left - n) f.bytes) ∙ ap (λ (k : ℕ). take k f.bytes) sum) (Failed-front from to _ _ kind (subst P e.2 w)))

-- one piece after another
pub Copied-more : (o p q : Option Feed) (a b c : Sink) (k m : ℕ) → CopiedKnown o p a b k → CopiedKnown p q b c m → CopiedKnown o q a c (k + m)
Copied-more None p q a b c k m h j = tt
Copied-more (Some f) None q a b c k m h j = absurd h
Copied-more (Some f) (Some g) None a b c k m h j = j
Copied-more (Some f) (Some g) (Some e) a b c k m h j =
    let P : List ℕ → Type 0 = λ x. Took b c (take m x) in
    let Q : List ℕ → Type 0 = λ x. Took a c x in
    record {
      within = omega (arith, j.within, ap length h.rest ∙ length-drop k f.bytes, h.within);
      rest = j.rest ∙ ap (λ (x : List ℕ). drop m x) h.rest ∙ drop-drop m k f.bytes;
      stop = j.stop ∙ h.stop;
      taken = subst Q (sym (take-add k m f.bytes)) (Took-append a b c _ _ h.taken (subst P h.rest j.taken));
    }

-- nothing has been copied
pub Copied-none : (o : Option Feed) (a : Sink) (k : ℕ) → k ≡ 0 → CopiedKnown o o a a k
Copied-none None a k z = tt
Copied-none (Some f) a k z =
    let P : ℕ → Type 0 = λ n. Copied f f a a n in
    subst P (sym z) (record { within = omega arith; rest = refl; stop = refl; taken = Took-nil a })

-- all the bytes of a body were copied
pub Prints-exactly : {T : Type 0} (o p : Option Feed) (a b : Sink) (n : ℕ) (x : T) → CopiedKnown o p a b n → IfSome o (λ f. Prints a b (Ok x) (identity_body n f))
Prints-exactly None p a b n x h = tt
Prints-exactly (Some f) None a b n x h = absurd h
Prints-exactly (Some f) (Some g) a b n x h =
    let test : leb n (length f.bytes) ≡ true = le-leb n (length f.bytes) h.within in
    (rw test refl, h.taken)

drop-all : (n : ℕ) (xs : List ℕ) → drop n xs ≡ [] → length xs ≤ n
drop-all n xs e = omega (arith, length-drop n xs, ap length e)

-- a body broke off after n - left of its bytes
pub Prints-broken : (o p : Option Feed) (a b c : Sink) (n left : ℕ) (e : Error) → 0 < left → left ≤ n → CopiedKnown o p a b (n - left) → CopyBreaks p b c left (error_kind e) → IfSome o (λ f. Prints {T = Unit {0}} a c (Err e) (identity_body n f))
Prints-broken None p a b c n left e l m h k = tt
Prints-broken (Some f) None a b c n left e l m h k = absurd h
Prints-broken (Some f) (Some g) a b c n left e l m h (inl k) =
    let short : length f.bytes ≤ n - left = drop-all (n - left) f.bytes (sym h.rest ∙ k.0) in
    let test : leb n (length f.bytes) ≡ false = lt-leb n (length f.bytes) (omega arith) in
    let all : take (n - left) f.bytes ≡ take n f.bytes = take_all (n - left) f.bytes short ∙ sym (take_all n f.bytes (omega arith)) in
    let Q : List ℕ → Type 0 = λ x. Took a c x in
    inl (rw test (ap Broken (sym (ap fault_of h.stop) ∙ k.1)), subst Q (append-nil (take (n - left) f.bytes) ∙ all) (Took-append a b c _ _ h.taken k.2))
Prints-broken (Some f) (Some g) a b c n left e l m h (inr k) =
    let sum : (n - left) + left ≡ n = omega arith in
    let P : List ℕ → Type 0 = λ x. Failed b c (take left x) (error_kind e) in
    let Q : List ℕ → Type 0 = λ x. Failed a c x (error_kind e) in
    inr (subst Q (sym (take-add (n - left) left f.bytes) ∙ ap (λ (i : ℕ). take i f.bytes) sum) (Failed-append a b c _ _ (error_kind e) h.taken (subst P h.rest k)))

-- what stands behind n bytes, by its parts
same-feed : (n : ℕ) (f g : Feed) → g.bytes ≡ drop n f.bytes → g.stop ≡ f.stop → Some g ≡ Some (data_behind n f)
same-feed n f g bytes stop =
    let F : List ℕ → Option Feed = λ x. Some (record { bytes = x; stop = g.stop }) in
    let G : Stop → Option Feed = λ x. Some (record { bytes = drop n f.bytes; stop = x }) in
    ap F bytes ∙ ap G stop

-- no byte of the data was taken, or those that were read
pub Takes-none : {T : Type 0} (o p : Option Feed) (r : Result T Error) (e f : Error) (buf : List ℕ) (left : ℕ) → r ≡ Err f → ReadsFrom o p (Err e) buf → IfSome o (λ f. OnErr r (TakesUpTo left f p r))
Takes-none None p r e x buf left is h = tt
Takes-none (Some f) None r e x buf left is h = absurd h
Takes-none {T = T} (Some f) (Some g) r e x buf left is h =
    let P : Result T Error → Type 0 = λ r. OnErr r (TakesUpTo left f (Some g) r) in
    subst P (sym is) (0, omega arith, ap Some h.2, tt)

pub Takes-read : {T : Type 0} (o p : Option Feed) (n : ℕ) (r : Result T Error) (e : Error) (buf : List ℕ) (left : ℕ) → r ≡ Err e → n ≤ length buf → n ≤ left → ReadsFrom o p (Ok n) buf → IfSome o (λ f. OnErr r (TakesUpTo left f p r))
Takes-read None p n r e buf left is h l k = tt
Takes-read (Some f) None n r e buf left is h l k = absurd k
Takes-read {T = T} (Some f) (Some g) n r e buf left is h l k =
    let b = front_was_read f.bytes g.bytes buf n h k.0 in
    let P : Result T Error → Type 0 = λ r. OnErr r (TakesUpTo left f (Some g) r) in
    subst P (sym is) (n, l, same-feed n f g b.1 k.1, tt)

-- all of them were taken, or some behind others
pub Takes-all : {T : Type 0} (o p : Option Feed) (a b : Sink) (n : ℕ) (x : T) → CopiedKnown o p a b n → IfSome o (λ f. TakesUpTo n f p (Ok x))
Takes-all None p a b n x h = tt
Takes-all (Some f) None a b n x h = absurd h
Takes-all (Some f) (Some g) a b n x h = (n, omega arith, same-feed n f g h.rest h.stop, refl)

pub Takes-more : {T : Type 0} (o p q : Option Feed) (a b : Sink) (n left : ℕ) (m : Result ℕ Error) (r : Result T Error) (e : Error) → r ≡ Err e → left ≤ n → CopiedKnown o p a b (n - left) → IfSome p (λ f. TakesUpTo left f q m) → IfSome o (λ f. TakesUpTo n f q r)
Takes-more None p q a b n left m r e is l h k = tt
Takes-more (Some f) None q a b n left m r e is l h k = absurd h
Takes-more {T = T} (Some f) (Some g) q a b n left m r e is l h k =
    let bytes : drop k.0 g.bytes ≡ drop ((n - left) + k.0) f.bytes = ap (λ (x : List ℕ). drop k.0 x) h.rest ∙ drop-drop k.0 (n - left) f.bytes in
    let P : Result T Error → Type 0 = λ r. TakesUpTo n f q r in
    subst P (sym is) ((n - left) + k.0, omega (arith, k.1), k.2 ∙ same-feed ((n - left) + k.0) f (data_behind k.0 g) bytes h.stop, tt)

-- the head failed
pub Prints-head_failed : (o : Option Feed) (a b : Sink) (front : List ℕ) (e : Error) (body : Feed → Text) → Failed a b front (error_kind e) → IfSome o (λ f. Prints {T = Unit {0}} a b (Err e) (prepend_text front (body f)))
Prints-head_failed None a b front e body h = tt
Prints-head_failed (Some f) a b front e body h = inr (Failed-front a b front (body f).bytes (error_kind e) h)

-- a body after its head
pub Prints-behind : {T : Type 0} (a b c : Sink) (r : Result T Error) (front : List ℕ) (text : Text) → Took a b front → Prints b c r text → Prints a c r (prepend_text front text)
Prints-behind a b c (Ok x) front text h k = (k.0, Took-append a b c front text.bytes h k.1)
Prints-behind a b c (Err e) front text h (inl k) = inl (k.0, Took-append a b c front text.bytes h k.1)
Prints-behind a b c (Err e) front text h (inr k) = inr (Failed-append a b c front text.bytes (error_kind e) h k)

pub Prints-from_puts : {T : Type 0} (a b : Sink) (r : Result T Error) (text : List ℕ) → Puts a b r text → Prints a b r (whole text)
Prints-from_puts a b (Ok x) text h = (refl, h)
Prints-from_puts a b (Err e) text h = inr h
