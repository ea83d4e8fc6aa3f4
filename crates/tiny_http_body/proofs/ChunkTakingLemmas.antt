-- What is taken of a chunked body up to a fault was needed.
use Rattle.std.proofs.Common.{◌≡◌, ◌≢◌, refl, sym, ap, ◌∙◌, subst, ℕ, ◌+◌, ◌<◌, ◌≤◌, ◌⊎◌, true, inl, inr, List, [], ◌∷◌, ◌++◌, length, Option, Some, Err, length-append, arith, ⊎_elim}
use Rattle.std.specs.Prelude.{Result}
use Rattle.std.specs.declared.io.ErrorKind.{ErrorKind}
use Rattle.tiny_http_io.specs.declared.device.Stop.{Stop}
use Rattle.tiny_http_io.specs.Device.{Feed, prepended, TakesFront, fault_of}
use Rattle.tiny_http_io.proofs.DeviceFeeds.{given-along, prepended-nothing}
use Rattle.tiny_http_text.specs.Bytes.{crlf}
use Rattle.tiny_http_body.specs.ChunkReading.{Decoded, broken}
use Rattle.tiny_http_body.specs.ChunkSize.{size_value}
use Rattle.tiny_http_body.specs.ChunkLine.{is_trailer_said, AreNeeded, OneLine, NoLine}
use Rattle.tiny_http_body.specs.Decoding.{decoded_from_by, trailers_from, TakesNeeded}
use Rattle.tiny_http_body.specs.declared.chunked.ChunkRules.{ChunkRules}
use Rattle.tiny_http_body.specs.declared.chunked.Next.{Next}
use Rattle.tiny_http_body.specs.declared.chunked.Next.TheVariants.{Line, Data}
use Rattle.tiny_http_body.specs.declared.chunked.line.ChunkLine.{ChunkLine as TakenLine}
use Rattle.tiny_http_body.proofs.ChunkLineLemmas.{line-needed}
use Rattle.tiny_http_body.proofs.DecodingLemmas.{feed_at, at-none, at-last, trailers-none, trailers-next, size-said, trailer-said, is-trailer, no-close, close-at}

abbrev Reads : Type 0
Reads = Feed → Decoded

-- with fewer of the bytes their stop is the fault
abbrev AreNeededBy : Reads → List ℕ → Type 0
AreNeededBy reads bytes = (front more : List ℕ) (stop : Stop) → bytes ≡ front ++ more → 0 < length more → (reads (feed_at front stop)).ends ≡ Err (fault_of stop)

none-more : (front more : List ℕ) → [] ≡ front ++ more → 0 < length more → ⊥
none-more front more e p = let n : 0 ≡ length front + length more = ap length e ∙ length-append front more in omega (arith, n, p)

-- nothing was taken
pub takes-nothing : (reads : Reads) (old new : Option Feed) → new ≡ old → TakesNeeded reads old new
takes-nothing reads old new e = record { taken = []; gives = sym e ∙ prepended-nothing new; needed = λ front more stop j p. absurd (none-more front more j p) }

takes-piece : (reads : Reads) (old new : Option Feed) (piece : List ℕ) → old ≡ prepended piece new → AreNeededBy reads piece → TakesNeeded reads old new
takes-piece reads old new piece e h = record { taken = piece; gives = e; needed = h }

head-of : (x y : ℕ) (xs ys : List ℕ) → x ∷ xs ≡ y ∷ ys → x ≡ y
head-of x y xs ys e = cc

tail-of : (x y : ℕ) (xs ys : List ℕ) → x ∷ xs ≡ y ∷ ys → xs ≡ ys
tail-of x y xs ys e = cc

-- where a front of two pieces ends
split : (a b front more : List ℕ) → a ++ b ≡ front ++ more → ((rest : List ℕ) × (a ≡ front ++ rest) × (0 < length rest)) ⊎ ((part : List ℕ) × (front ≡ a ++ part) × (b ≡ part ++ more))
split [] b front more e = inr (front, refl, e)
split (x ∷ xs) b [] more e = inl (x ∷ xs, refl, omega arith)
split (x ∷ xs) b (y ∷ ys) more e =
    let h : x ≡ y = head-of x y (xs ++ b) (ys ++ more) e in
    ⊎_elim
    (λ k. inl (k.0, ap (λ z. z ∷ xs) h ∙ ap (λ z. y ∷ z) k.1, k.2))
    (λ k. inr (k.0, ap (λ z. y ∷ z) k.1 ∙ ap (λ z. z ∷ (xs ++ k.0)) (sym h), k.2))
    (split xs b ys more (tail-of x y (xs ++ b) (ys ++ more) e))

takes-two : (reads then : Reads) (old mid new : Option Feed) (piece : List ℕ) → old ≡ prepended piece mid → AreNeededBy reads piece
    → ((rest : List ℕ) (stop : Stop) → (reads (feed_at (piece ++ rest) stop)).ends ≡ (then (feed_at rest stop)).ends) → TakesNeeded then mid new → TakesNeeded reads old new
takes-two reads then old mid new piece e h along t =
    record {
      taken = piece ++ t.taken;
      gives = given-along old mid new piece t.taken (piece ++ t.taken) e t.gives refl;
      needed = λ front more stop j p.
          ⊎_elim
          (λ k. h front k.0 stop k.1 k.2)
          (λ k. ap (λ z. (reads (feed_at z stop)).ends) k.1 ∙ (along k.0 stop ∙ t.needed k.0 more stop k.2 p))
          (split piece t.taken front more j);
    }

ends-of : (a b : Decoded) → a ≡ b → a.ends ≡ b.ends
ends-of a b e = let P : Decoded → Result (List ℕ) ErrorKind = λ d. d.ends in ap P e

-- the trailer part
trailers-needed : (rules : ChunkRules) (m : ℕ) (bytes : List ℕ) → AreNeeded rules bytes → AreNeededBy (trailers_from rules m) bytes
trailers-needed rules m bytes h = λ front more stop e p. ends-of (trailers_from rules m (feed_at front stop)) (broken [] (fault_of stop)) (trailers-none rules m stop front (fault_of stop) (h front more stop e p))

pub trailers-take_line : (rules : ChunkRules) (m : ℕ) (old new : Option Feed) (line : TakenLine) → OneLine rules old new line → TakesNeeded (trailers_from rules m) old new
trailers-take_line rules m old new line l = takes-piece (trailers_from rules m) old new (l.text ++ crlf) l.gives (trailers-needed rules m (l.text ++ crlf) (line-needed rules l.text l.short))

pub trailers-take_none : (rules : ChunkRules) (m : ℕ) (old new : Option Feed) (kind : ErrorKind) → NoLine rules old new kind → TakesNeeded (trailers_from rules m) old new
trailers-take_none rules m old new kind l = takes-piece (trailers_from rules m) old new l.gone l.gives (trailers-needed rules m l.gone l.needed)

pub trailers-take_more : (rules : ChunkRules) (m k : ℕ) (old mid new : Option Feed) (line : TakenLine) → OneLine rules old mid line → line.length ≢ 0 → is_trailer_said rules line.said ≡ true → m ≡ k + 1
    → TakesNeeded (trailers_from rules k) mid new → TakesNeeded (trailers_from rules m) old new
trailers-take_more rules m k old mid new line l ne z e t =
    let along : (rest : List ℕ) (stop : Stop) → (trailers_from rules m (feed_at (l.text ++ crlf ++ rest) stop)).ends ≡ (trailers_from rules k (feed_at rest stop)).ends =
    λ rest stop. ends-of (trailers_from rules m (feed_at (l.text ++ crlf ++ rest) stop)) (trailers_from rules k (feed_at rest stop)) (trailers-next rules m k stop l.text rest l.short (is-trailer l.text line.length l.length_is ne) (trailer-said rules line true old mid l z) e) in
    takes-two (trailers_from rules m) (trailers_from rules k) old mid new (l.text ++ crlf) l.gives (trailers-needed rules m (l.text ++ crlf) (line-needed rules l.text l.short)) along t

-- a size line
line-needed_by : (rules : ChunkRules) (bytes : List ℕ) → AreNeeded rules bytes → AreNeededBy (decoded_from_by rules Line) bytes
line-needed_by rules bytes h = λ front more stop e p. ends-of (decoded_from_by rules Line (feed_at front stop)) (broken [] (fault_of stop)) (at-none rules stop front (fault_of stop) (h front more stop e p))

pub chunk-takes_line : (rules : ChunkRules) (old new : Option Feed) (line : TakenLine) → OneLine rules old new line → TakesNeeded (decoded_from_by rules Line) old new
chunk-takes_line rules old new line l = takes-piece (decoded_from_by rules Line) old new (l.text ++ crlf) l.gives (line-needed_by rules (l.text ++ crlf) (line-needed rules l.text l.short))

pub chunk-takes_none : (rules : ChunkRules) (old new : Option Feed) (kind : ErrorKind) → NoLine rules old new kind → TakesNeeded (decoded_from_by rules Line) old new
chunk-takes_none rules old new kind l = takes-piece (decoded_from_by rules Line) old new l.gone l.gives (line-needed_by rules l.gone l.needed)

pub chunk-takes_last : (rules : ChunkRules) (old mid new : Option Feed) (line : TakenLine) → OneLine rules old mid line → size_value line.said.size ≡ Some 0 → TakesNeeded (trailers_from rules 128) mid new
    → TakesNeeded (decoded_from_by rules Line) old new
chunk-takes_last rules old mid new line l z t =
    let along : (rest : List ℕ) (stop : Stop) → (decoded_from_by rules Line (feed_at (l.text ++ crlf ++ rest) stop)).ends ≡ (trailers_from rules 128 (feed_at rest stop)).ends =
    λ rest stop. ends-of (decoded_from_by rules Line (feed_at (l.text ++ crlf ++ rest) stop)) (trailers_from rules 128 (feed_at rest stop)) (at-last rules stop l.text rest l.short (size-said rules [] line (Some 0) old mid l z)) in
    takes-two (decoded_from_by rules Line) (trailers_from rules 128) old mid new (l.text ++ crlf) l.gives (line-needed_by rules (l.text ++ crlf) (line-needed rules l.text l.short)) along t

-- the CR LF after data
empty-needed : (rules : ChunkRules) (stop : Stop) → (decoded_from_by rules (Data 0) (feed_at [] stop)).ends ≡ Err (fault_of stop)
empty-needed rules stop = ends-of (decoded_from_by rules (Data 0) (feed_at [] stop)) (broken [] (fault_of stop)) (no-close rules stop [] (fault_of stop) refl)

return-needed : (rules : ChunkRules) (a : ℕ) (stop : Stop) → a ≡ 13 → (decoded_from_by rules (Data 0) (feed_at (a ∷ []) stop)).ends ≡ Err (fault_of stop)
return-needed rules a stop e = ends-of (decoded_from_by rules (Data 0) (feed_at (a ∷ []) stop)) (broken [] (fault_of stop)) (no-close rules stop (a ∷ []) (fault_of stop) (inl (e, refl)))

one-needed : (rules : ChunkRules) (a : ℕ) → AreNeededBy (decoded_from_by rules (Data 0)) (a ∷ [])
one-needed rules a [] more stop e p = empty-needed rules stop
one-needed rules a (b ∷ bs) more stop e p = absurd (none-more bs more (tail-of a b [] (bs ++ more) e) p)

two-needed : (rules : ChunkRules) (a b : ℕ) → a ≡ 13 → AreNeededBy (decoded_from_by rules (Data 0)) (a ∷ b ∷ [])
two-needed rules a b r [] more stop e p = empty-needed rules stop
two-needed rules a b r (c ∷ []) more stop e p = return-needed rules c stop (sym (head-of a c (b ∷ []) more e) ∙ r)
two-needed rules a b r (c ∷ d ∷ ds) more stop e p = absurd (none-more ds more (tail-of b d [] (ds ++ more) (tail-of a c (b ∷ []) (d ∷ (ds ++ more)) e)) p)

pub close-takes_one : (rules : ChunkRules) (old new : Option Feed) (a : ℕ) → old ≡ prepended (a ∷ []) new → TakesNeeded (decoded_from_by rules (Data 0)) old new
close-takes_one rules old new a e = takes-piece (decoded_from_by rules (Data 0)) old new (a ∷ []) e (one-needed rules a)

pub close-takes_two : (rules : ChunkRules) (old mid new : Option Feed) (a b : ℕ) → old ≡ prepended (a ∷ []) mid → a ≡ 13 → mid ≡ prepended (b ∷ []) new → TakesNeeded (decoded_from_by rules (Data 0)) old new
close-takes_two rules old mid new a b e r h =
    takes-piece (decoded_from_by rules (Data 0)) old new (a ∷ b ∷ []) (given-along old mid new (a ∷ []) (b ∷ []) (a ∷ b ∷ []) e h refl) (two-needed rules a b r)

pub two-bytes : (old mid new : Option Feed) (a b : ℕ) → old ≡ prepended (a ∷ []) mid → a ≡ 13 → mid ≡ prepended (b ∷ []) new → b ≡ 10 → old ≡ prepended crlf new
two-bytes old mid new a b e r h s = given-along old mid new (a ∷ []) (b ∷ []) crlf e h (ap (λ x. x ∷ 10 ∷ []) (sym r) ∙ ap (λ x. a ∷ x ∷ []) (sym s))

pub close-takes_more : (rules : ChunkRules) (old mid new : Option Feed) → old ≡ prepended crlf mid → TakesNeeded (decoded_from_by rules Line) mid new → TakesNeeded (decoded_from_by rules (Data 0)) old new
close-takes_more rules old mid new e t =
    let along : (rest : List ℕ) (stop : Stop) → (decoded_from_by rules (Data 0) (feed_at (crlf ++ rest) stop)).ends ≡ (decoded_from_by rules Line (feed_at rest stop)).ends =
    λ rest stop. ends-of (decoded_from_by rules (Data 0) (feed_at (crlf ++ rest) stop)) (decoded_from_by rules Line (feed_at rest stop)) (close-at rules stop rest) in
    takes-two (decoded_from_by rules (Data 0)) (decoded_from_by rules Line) old mid new crlf e (two-needed rules 13 10 refl) along t

-- such bytes are a front of the feed's
pub needed-front : (reads : Reads) (old new : Option Feed) → TakesNeeded reads old new → TakesFront old new
needed-front reads old new t = (t.taken, t.gives)

-- what was taken before a fault, where nothing is taken with it
pub needed-same : (reads : Reads) (old mid new : Option Feed) → TakesNeeded reads old mid → new ≡ mid → TakesNeeded reads old new
needed-same reads old mid new t e = rw e t

no-left : (left : ℕ) → left ≤ 0 → 0 ≡ left
no-left left h = omega (arith, h)

-- where no data are left
pub takes-at_close : (rules : ChunkRules) (next : Next) (left : ℕ) (old new : Option Feed) → next ≡ Data left → left ≤ 0 → TakesNeeded (decoded_from_by rules (Data 0)) old new → TakesNeeded (decoded_from_by rules next) old new
takes-at_close rules next left old new e none t =
    let same : Data 0 ≡ next = ap Data (no-left left none) ∙ sym e in
    let P : Next → Type 0 = λ x. TakesNeeded (decoded_from_by rules x) old new in
    subst P same t
