-- What a decoder still gives, step by step.
use Rattle.std.proofs.Common.{◌≡◌, ◌≢◌, refl, sym, ap, ◌∙◌, subst, ℕ, suc, ◌+◌, ◌-◌, ◌<◌, ◌≤◌, Bool, true, false, inl, inr, List, [], ◌∷◌, ◌++◌, length, take, drop, Option, Some, None, Ok, Err, append_assoc, add-one, length-append, length-drop, arith}
use Rattle.std.specs.Prelude.{MatchResult, Result, nat_lt}
use Rattle.std.specs.Option.{option_map}
use Rattle.std.proofs.Math.Seq.{take-append-add}
use Rattle.std.proofs.lemmas.List.{drop-drop}
use Rattle.std.proofs.lemmas.Bool.{le-ltb, lt-ltb}
use Rattle.std.specs.declared.io.ErrorKind.{ErrorKind}
use Rattle.std.specs.declared.io.ErrorKind.TheVariants.{InvalidData}
use Rattle.tiny_http_io.specs.declared.device.Stop.{Stop}
use Rattle.tiny_http_text.specs.Bytes.{crlf}
use Rattle.tiny_http_io.specs.Device.{Feed, prepended, TakesFront, fault_of}
use Rattle.tiny_http_io.proofs.DeviceFeeds.{given-along}
use Rattle.tiny_http_body.specs.Chunks.{IsShortLineBy, ChunkLineFaultBy, CloseFault, SizeTextBy, WholeChunksBy, CutChunksBy}
use Rattle.tiny_http_body.specs.declared.chunked.ChunkRules.{ChunkRules}
use Rattle.tiny_http_body.specs.ChunkReading.{decoded_by, data_at, chunk_closed, after_data, trailer_section, broken, prepend_decoded, size_by, is_trailer_by}
use Rattle.tiny_http_body.proofs.ChunksLemmas.{Go, made, IsDecodedBy, decoded_by-is, decoded_by-one, decoded_by-front, sized-line, line_by-one, line_by-fault, size_by-is, close-is, close-fault, trailer-end, trailer-next, trailer-line_fault, trailer-bad, last-cons}
use Rattle.tiny_http_body.specs.declared.chunked.Next.TheVariants.{Line, Data, Over, Broken}
use Rattle.tiny_http_body.specs.declared.chunked.line.ChunkLine.{ChunkLine as TakenLine}
use Rattle.tiny_http_body.specs.ChunkSize.{size_value}
use Rattle.tiny_http_body.specs.ChunkLine.{is_trailer_said, OneLine, NoLine, CutBy}
use Rattle.tiny_http_body.specs.Decoding.{Coming, coming_of, body_by, decoded_from_by, trailers_from, comes, trails, prepended_data, over_at, BreaksBy}
use Rattle.tiny_http_body.proofs.ChunkSaidLemmas.{said-size, said-trailer}
use Rattle.tiny_http_body.proofs.ChunksLemmas.{head_of, next_of}
use Rattle.tiny_http_io.proofs.DeviceFeeds.{lt-shift, prepended-nothing}
use Rattle.std.proofs.Math.Seq.{drop-append_seam}

abbrev pub feed_at : List ℕ → Stop → Feed
feed_at bytes stop = record { bytes = bytes; stop = stop }

-- the measure of the plain reading doesn't matter
fuel-same-at : (rules : ChunkRules) (bytes body : List ℕ) (stop : Stop) (e : Result (List ℕ) ErrorKind) → IsDecodedBy rules bytes stop (made body e) → made body e ≡ body_by rules stop bytes
fuel-same-at rules bytes body stop (Ok rest) h = sym (decoded_by-one rules bytes body rest stop h)
fuel-same-at rules bytes body stop (Err kind) h = sym (decoded_by-front rules bytes body stop kind h)

fuel-same : (rules : ChunkRules) (fuel : ℕ) (bytes : List ℕ) (stop : Stop) → length bytes < fuel → decoded_by rules fuel stop bytes ≡ body_by rules stop bytes
fuel-same rules fuel bytes stop lt = let d = decoded_by rules fuel stop bytes in fuel-same-at rules bytes d.body stop d.ends (decoded_by-is rules fuel bytes stop lt)

closed-same : (f g : Go) (stop : Stop) (front close : List ℕ) (fuel : ℕ) → ((x : List ℕ) → length x < fuel → f x ≡ g x) → length close ≤ fuel
    → (r : Result (List ℕ) ErrorKind) → MatchResult r (λ rest. close ≡ crlf ++ rest) (λ kind. CloseFault close stop kind) → chunk_closed f front r ≡ chunk_closed g front r
closed-same f g stop front close fuel same le (Err kind) h = refl
closed-same f g stop front close fuel same le (Ok rest) h =
    let e : length close ≡ 2 + length rest = ap length h ∙ omega arith in
    ap (prepend_decoded front) (same rest (omega arith))

data-same : (f g : Go) (stop : Stop) (n : ℕ) (rest : List ℕ) (fuel : ℕ) → ((x : List ℕ) → length x < fuel → f x ≡ g x) → length rest ≤ fuel
    → (t : Bool) → data_at f stop n rest t ≡ data_at g stop n rest t
data-same f g stop n rest fuel same le true = refl
data-same f g stop n rest fuel same le false =
    closed-same f g stop (take n rest) (drop n rest) fuel same (simp length-drop (omega arith)) (after_data stop (drop n rest)) (close-is stop (drop n rest))

more_fuel : (rules : ChunkRules) (stop : Stop) (bytes : List ℕ) → body_by rules stop bytes ≡ decoded_by rules (suc (length bytes)) stop bytes
more_fuel rules stop bytes = ap (λ k. decoded_by rules k stop bytes) (add-one (length bytes))

-- a size line
at-size : (rules : ChunkRules) (stop : Stop) (text rest : List ℕ) (n : ℕ) → IsShortLineBy rules text → SizeTextBy rules text n → 0 < n → decoded_from_by rules Line (feed_at (text ++ crlf ++ rest) stop) ≡ decoded_from_by rules (Data n) (feed_at rest stop)
unfolding decoded_from_by
at-size rules stop text rest n s z p =
    let bytes = text ++ crlf ++ rest in
    let long : length rest ≤ length bytes = simp length-append (omega arith) in
    more_fuel rules stop bytes ∙ (sized-line rules (length bytes) stop text rest n s z p
    ∙ data-same (decoded_by rules (length bytes) stop) (body_by rules stop) stop n rest (length bytes) (λ x l. fuel-same rules (length bytes) x stop l) long (nat_lt (length rest) n))

pub at-last : (rules : ChunkRules) (stop : Stop) (text rest : List ℕ) → IsShortLineBy rules text → size_by rules text ≡ Some 0 → decoded_from_by rules Line (feed_at (text ++ crlf ++ rest) stop) ≡ trailers_from rules 128 (feed_at rest stop)
unfolding decoded_from_by trailers_from
at-last rules stop text rest s z =
    more_fuel rules stop (text ++ crlf ++ rest) ∙ rw (line_by-one rules stop text rest s, z) refl

at-bad : (rules : ChunkRules) (stop : Stop) (text rest : List ℕ) → IsShortLineBy rules text → size_by rules text ≡ None → decoded_from_by rules Line (feed_at (text ++ crlf ++ rest) stop) ≡ broken [] InvalidData
unfolding decoded_from_by
at-bad rules stop text rest s z = more_fuel rules stop (text ++ crlf ++ rest) ∙ rw (line_by-one rules stop text rest s, z) refl

pub at-none : (rules : ChunkRules) (stop : Stop) (bytes : List ℕ) (kind : ErrorKind) → ChunkLineFaultBy rules bytes stop kind → decoded_from_by rules Line (feed_at bytes stop) ≡ broken [] kind
unfolding decoded_from_by
at-none rules stop bytes kind h = more_fuel rules stop bytes ∙ rw (line_by-fault rules stop bytes kind h) refl

over-is : (rules : ChunkRules) (f : Feed) → decoded_from_by rules Over f ≡ record { body = []; ends = Ok f.bytes }
unfolding decoded_from_by
over-is rules f = refl

broken-is : (rules : ChunkRules) (kind : ErrorKind) (f : Feed) → decoded_from_by rules (Broken kind) f ≡ broken [] kind
unfolding decoded_from_by
broken-is rules kind f = refl

pub size-said : (rules : ChunkRules) (text : List ℕ) (line : TakenLine) (o : Option ℕ) (old new : Option Feed) (l : OneLine rules old new line) → size_value line.said.size ≡ o → size_by rules l.text ≡ o
size-said rules text line o old new l z = sym (said-size rules l.text) ∙ (ap (λ x. size_value x.size) (sym l.said_is) ∙ z)

pub chunk-data : (rules : ChunkRules) (old new : Option Feed) (line : TakenLine) (n : ℕ) → OneLine rules old new line → size_value line.said.size ≡ Some n → n ≢ 0 → comes rules (Data n) new ≡ comes rules Line old
chunk-data rules old new line n l z ne = rw (l.gives) (go new)
  where
    go : (f : Option Feed) → comes rules (Data n) f ≡ comes rules Line (prepended (l.text ++ crlf) f)
    go None = refl
    go (Some f) = ap (λ d. Some (coming_of f.stop d)) (sym (at-size rules f.stop l.text f.bytes n l.short (size_by-is rules l.text n (size-said rules [] line (Some n) old new l z)) (omega arith)))

pub chunk-last : (rules : ChunkRules) (old new : Option Feed) (line : TakenLine) → OneLine rules old new line → size_value line.said.size ≡ Some 0 → trails rules 128 new ≡ comes rules Line old
chunk-last rules old new line l z = rw (l.gives) (go new)
  where
    go : (f : Option Feed) → trails rules 128 f ≡ comes rules Line (prepended (l.text ++ crlf) f)
    go None = refl
    go (Some f) = ap (λ d. Some (coming_of f.stop d)) (sym (at-last rules f.stop l.text f.bytes l.short (size-said rules [] line (Some 0) old new l z)))

pub chunk-bad : (rules : ChunkRules) (old new : Option Feed) (line : TakenLine) → OneLine rules old new line → size_value line.said.size ≡ None → comes rules (Broken InvalidData) new ≡ comes rules Line old
chunk-bad rules old new line l z = rw (l.gives) (go new)
  where
    go : (f : Option Feed) → comes rules (Broken InvalidData) f ≡ comes rules Line (prepended (l.text ++ crlf) f)
    go None = refl
    go (Some f) = ap (λ d. Some (coming_of f.stop d)) (broken-is rules InvalidData f ∙ sym (at-bad rules f.stop l.text f.bytes l.short (size-said rules [] line None old new l z)))

pub chunk-none : (rules : ChunkRules) (old new : Option Feed) (kind : ErrorKind) → NoLine rules old new kind → comes rules (Broken kind) new ≡ comes rules Line old
chunk-none rules old new kind l = rw (l.gives) (go new l.fault)
  where
    go : (f : Option Feed) → ((feed : Feed) → f ≡ Some feed → ChunkLineFaultBy rules (l.gone ++ feed.bytes) feed.stop kind) → comes rules (Broken kind) f ≡ comes rules Line (prepended l.gone f)
    go None h = refl
    go (Some f) h = ap (λ d. Some (coming_of f.stop d)) (broken-is rules kind f ∙ sym (at-none rules f.stop (l.gone ++ f.bytes) kind (h f refl)))

-- the trailer part
no-text : (text : List ℕ) → 0 ≡ length text → text ≡ []
no-text [] h = refl
no-text (b ∷ bs) h = absurd (omega arith)

pub trail-over : (rules : ChunkRules) (old new : Option Feed) (line : TakenLine) (m : ℕ) → OneLine rules old new line → line.length ≡ 0 → comes rules Over new ≡ trails rules m old
unfolding trailers_from decoded_from_by
trail-over rules old new line m l z = rw (l.gives, no-text l.text (sym z ∙ l.length_is)) (go new)
  where
    go : (f : Option Feed) → comes rules Over f ≡ trails rules m (prepended crlf f)
    go None = refl
    go (Some f) = ap (λ d. Some (coming_of f.stop d)) (sym (trailer-end rules m f.stop f.bytes))

pub is-trailer : (text : List ℕ) (n : ℕ) → n ≡ length text → n ≢ 0 → 0 < length text
is-trailer text n e ne = omega arith

pub trailer-said : (rules : ChunkRules) (line : TakenLine) (t : Bool) (old new : Option Feed) (l : OneLine rules old new line) → is_trailer_said rules line.said ≡ t → is_trailer_by rules l.text ≡ t
trailer-said rules line t old new l z = sym (said-trailer rules l.text) ∙ (ap (is_trailer_said rules) (sym l.said_is) ∙ z)

pub trail-more : (rules : ChunkRules) (old new : Option Feed) (line : TakenLine) (m k : ℕ) → OneLine rules old new line → line.length ≢ 0 → is_trailer_said rules line.said ≡ true → m ≡ k + 1 → trails rules k new ≡ trails rules m old
unfolding trailers_from
trail-more rules old new line m k l ne z e = rw (l.gives, e, add-one k) (go new)
  where
    go : (f : Option Feed) → trails rules k f ≡ trails rules (suc k) (prepended (l.text ++ crlf) f)
    go None = refl
    go (Some f) = ap (λ d. Some (coming_of f.stop d)) (sym (trailer-next rules k f.stop l.text f.bytes l.short (is-trailer l.text line.length l.length_is ne) (trailer-said rules line true old new l z)))

pub trail-bad : (rules : ChunkRules) (old new : Option Feed) (line : TakenLine) (m : ℕ) → OneLine rules old new line → line.length ≢ 0 → is_trailer_said rules line.said ≡ false → comes rules (Broken InvalidData) new ≡ trails rules m old
unfolding trailers_from decoded_from_by
trail-bad rules old new line m l ne z = rw (l.gives) (go new)
  where
    go : (f : Option Feed) → comes rules (Broken InvalidData) f ≡ trails rules m (prepended (l.text ++ crlf) f)
    go None = refl
    go (Some f) = ap (λ d. Some (coming_of f.stop d)) (sym (trailer-bad rules m f.stop l.text f.bytes l.short (is-trailer l.text line.length l.length_is ne) (trailer-said rules line false old new l z)))

pub trail-long : (rules : ChunkRules) (old new : Option Feed) (line : TakenLine) → OneLine rules old new line → line.length ≢ 0 → comes rules (Broken InvalidData) new ≡ trails rules 0 old
unfolding trailers_from decoded_from_by
trail-long rules old new line l ne = rw (l.gives) (go new)
  where
    go : (f : Option Feed) → comes rules (Broken InvalidData) f ≡ trails rules 0 (prepended (l.text ++ crlf) f)
    go None = refl
    go (Some f) =
        let e : trailer_section rules 0 f.stop (l.text ++ crlf ++ f.bytes) ≡ broken [] InvalidData =
        rw (line_by-one rules f.stop l.text f.bytes l.short) (last-cons rules l.text f.bytes (is-trailer l.text line.length l.length_is ne)) in
        ap (λ d. Some (coming_of f.stop d)) (sym e)

pub trail-none : (rules : ChunkRules) (old new : Option Feed) (kind : ErrorKind) (m : ℕ) → NoLine rules old new kind → comes rules (Broken kind) new ≡ trails rules m old
unfolding trailers_from decoded_from_by
trail-none rules old new kind m l = rw (l.gives) (go new l.fault)
  where
    go : (f : Option Feed) → ((feed : Feed) → f ≡ Some feed → ChunkLineFaultBy rules (l.gone ++ feed.bytes) feed.stop kind) → comes rules (Broken kind) f ≡ trails rules m (prepended l.gone f)
    go None h = refl
    go (Some f) h = ap (λ d. Some (coming_of f.stop d)) (sym (trailer-line_fault rules m f.stop (l.gone ++ f.bytes) kind (h f refl)))

pub trailers-none : (rules : ChunkRules) (m : ℕ) (stop : Stop) (bytes : List ℕ) (kind : ErrorKind) → ChunkLineFaultBy rules bytes stop kind → trailers_from rules m (feed_at bytes stop) ≡ broken [] kind
unfolding trailers_from
trailers-none rules m stop bytes kind h = trailer-line_fault rules m stop bytes kind h

pub trailers-next : (rules : ChunkRules) (m k : ℕ) (stop : Stop) (text rest : List ℕ) → IsShortLineBy rules text → 0 < length text → is_trailer_by rules text ≡ true → m ≡ k + 1
    → trailers_from rules m (feed_at (text ++ crlf ++ rest) stop) ≡ trailers_from rules k (feed_at rest stop)
unfolding trailers_from
trailers-next rules m k stop text rest s p e n = rw (n, add-one k) (trailer-next rules k stop text rest s p e)

-- the CR LF after data
no-data : (rules : ChunkRules) (stop : Stop) (bytes : List ℕ) → decoded_from_by rules (Data 0) (feed_at bytes stop) ≡ chunk_closed (body_by rules stop) [] (after_data stop bytes)
unfolding decoded_from_by
no-data rules stop bytes = rw (le-ltb (length bytes) 0 (omega arith)) refl

pub no-close : (rules : ChunkRules) (stop : Stop) (bytes : List ℕ) (kind : ErrorKind) → CloseFault bytes stop kind → decoded_from_by rules (Data 0) (feed_at bytes stop) ≡ broken [] kind
no-close rules stop bytes kind h = no-data rules stop bytes ∙ rw (close-fault stop bytes kind h) refl

not-return : (stop : Stop) (b : ℕ) (bytes : List ℕ) → b ≢ 13 → CloseFault (b ∷ bytes) stop InvalidData
not-return stop b [] ne = inr (ne, refl)
not-return stop b (c ∷ cs) ne = ((λ e. ne (head_of b c e)), refl)

cut-close : (rules : ChunkRules) (old : Option Feed) (kind : ErrorKind) → CutBy kind old → comes rules (Broken kind) old ≡ comes rules (Data 0) old
cut-close rules None kind h = refl
cut-close rules (Some f) kind h = ap (λ d. Some (coming_of f.stop d)) (broken-is rules kind f ∙ sym (let P : List ℕ → Type 0 = λ bs. decoded_from_by rules (Data 0) (feed_at bs f.stop) ≡ broken [] kind in subst P (sym h.0) (no-close rules f.stop [] kind h.1)))

pub close-cut : (rules : ChunkRules) (old new : Option Feed) (kind : ErrorKind) → CutBy kind old → new ≡ old → comes rules (Broken kind) new ≡ comes rules (Data 0) old
close-cut rules old new kind h e = rw e (cut-close rules old kind h)

pub close-wrong : (rules : ChunkRules) (old new : Option Feed) (b : ℕ) → old ≡ prepended (b ∷ []) new → b ≢ 13 → comes rules (Broken InvalidData) new ≡ comes rules (Data 0) old
close-wrong rules old new b e ne = rw e (go new)
  where
    go : (f : Option Feed) → comes rules (Broken InvalidData) f ≡ comes rules (Data 0) (prepended (b ∷ []) f)
    go None = refl
    go (Some f) = ap (λ d. Some (coming_of f.stop d)) (broken-is rules InvalidData f ∙ sym (no-close rules f.stop (b ∷ f.bytes) InvalidData (not-return f.stop b f.bytes ne)))

cut-line_feed : (rules : ChunkRules) (mid : Option Feed) (kind : ErrorKind) → CutBy kind mid → comes rules (Broken kind) mid ≡ comes rules (Data 0) (prepended (13 ∷ []) mid)
cut-line_feed rules None kind h = refl
cut-line_feed rules (Some f) kind h = ap (λ d. Some (coming_of f.stop d)) (broken-is rules kind f ∙ sym (let P : List ℕ → Type 0 = λ bs. decoded_from_by rules (Data 0) (feed_at (13 ∷ bs) f.stop) ≡ broken [] kind in subst P (sym h.0) (no-close rules f.stop (13 ∷ []) kind (inl (refl, h.1)))))

pub close-cut_feed : (rules : ChunkRules) (old mid new : Option Feed) (kind : ErrorKind) (a : ℕ) → old ≡ prepended (a ∷ []) mid → a ≡ 13 → CutBy kind mid → new ≡ mid → comes rules (Broken kind) new ≡ comes rules (Data 0) old
close-cut_feed rules old mid new kind a e r h s = rw (e, s, r) (cut-line_feed rules mid kind h)

pub close-wrong_feed : (rules : ChunkRules) (old mid new : Option Feed) (a b : ℕ) → old ≡ prepended (a ∷ []) mid → a ≡ 13 → mid ≡ prepended (b ∷ []) new → b ≢ 10 → comes rules (Broken InvalidData) new ≡ comes rules (Data 0) old
close-wrong_feed rules old mid new a b e r h ne = rw (e, r, h) (go new)
  where
    go : (f : Option Feed) → comes rules (Broken InvalidData) f ≡ comes rules (Data 0) (prepended (13 ∷ []) (prepended (b ∷ []) f))
    go None = refl
    go (Some f) = ap (λ d. Some (coming_of f.stop d)) (broken-is rules InvalidData f ∙ sym (no-close rules f.stop (13 ∷ b ∷ f.bytes) InvalidData ((λ e. ne (next_of 13 b e)), refl)))

pub close-good : (rules : ChunkRules) (old mid new : Option Feed) (a b : ℕ) → old ≡ prepended (a ∷ []) mid → a ≡ 13 → mid ≡ prepended (b ∷ []) new → b ≡ 10 → comes rules Line new ≡ comes rules (Data 0) old
unfolding decoded_from_by
close-good rules old mid new a b e r h s = rw (e, r, h, s) (go new)
  where
    go : (f : Option Feed) → comes rules Line f ≡ comes rules (Data 0) (prepended (13 ∷ []) (prepended (10 ∷ []) f))
    go None = refl
    go (Some f) = ap (λ d. Some (coming_of f.stop d)) (sym (no-data rules f.stop (13 ∷ 10 ∷ f.bytes)))

pub close-at : (rules : ChunkRules) (stop : Stop) (rest : List ℕ) → decoded_from_by rules (Data 0) (feed_at (crlf ++ rest) stop) ≡ decoded_from_by rules Line (feed_at rest stop)
unfolding decoded_from_by
close-at rules stop rest = no-data rules stop (crlf ++ rest)

-- a body that begins here
whole-at : (rules : ChunkRules) (feed : Feed) (body rest : List ℕ) → WholeChunksBy rules feed.bytes body rest → decoded_from_by rules Line feed ≡ record { body = body; ends = Ok rest }
unfolding decoded_from_by
whole-at rules feed body rest h = decoded_by-one rules feed.bytes body rest feed.stop h

front-at : (rules : ChunkRules) (feed : Feed) (body : List ℕ) (kind : ErrorKind) → CutChunksBy rules feed.bytes feed.stop body kind → decoded_from_by rules Line feed ≡ record { body = body; ends = Err kind }
unfolding decoded_from_by
front-at rules feed body kind h = decoded_by-front rules feed.bytes body feed.stop kind h

pub begins-whole : (rules : ChunkRules) (o : Option Feed) (feed : Feed) (body rest : List ℕ) → o ≡ Some feed → WholeChunksBy rules feed.bytes body rest
    → comes rules Line o ≡ Some (record { bytes = body; behind = Ok (feed_at rest feed.stop) })
begins-whole rules o feed body rest e h = rw e (ap (λ d. Some (coming_of feed.stop d)) (whole-at rules feed body rest h))

pub begins-front : (rules : ChunkRules) (o : Option Feed) (feed : Feed) (body : List ℕ) (kind : ErrorKind) → o ≡ Some feed → CutChunksBy rules feed.bytes feed.stop body kind
    → comes rules Line o ≡ Some (record { bytes = body; behind = Err kind })
begins-front rules o feed body kind e h = rw e (ap (λ d. Some (coming_of feed.stop d)) (front-at rules feed body kind h))

pub one_less : (most n : ℕ) → n < most → most - n ≡ most - (n + 1) + 1
one_less most n h = omega arith

pub none_left : (most n : ℕ) → most ≤ n → 0 ≡ most - n
none_left most n h = omega arith

closed-front : (go : Go) (a b : List ℕ) (r : Result (List ℕ) ErrorKind) → chunk_closed go (a ++ b) r ≡ prepend_decoded a (chunk_closed go b r)
closed-front go a b (Err kind) = refl
closed-front go a b (Ok rest) = ap (λ x. made x (go rest).ends) (append_assoc a b (go rest).body)

taken-data : (go : Go) (stop : Stop) (front rest : List ℕ) (k : ℕ) (t : Bool)
    → data_at go stop (length front + k) (front ++ rest) t ≡ prepend_decoded front (data_at go stop k rest t)
taken-data go stop front rest k true = refl
taken-data go stop front rest k false =
    let e : take (length front + k) (front ++ rest) ≡ front ++ take k rest = take-append-add front rest k in
    let f : drop (length front + k) (front ++ rest) ≡ drop k rest = sym (drop-drop k (length front) (front ++ rest)) ∙ ap (λ x. drop k x) (drop-append_seam front rest) in
    rw (e, f) (closed-front go front (take k rest) (after_data stop (drop k rest)))

data-more : (rules : ChunkRules) (stop : Stop) (front rest : List ℕ) (k : ℕ) → decoded_from_by rules (Data (length front + k)) (feed_at (front ++ rest) stop) ≡ prepend_decoded front (decoded_from_by rules (Data k) (feed_at rest stop))
unfolding decoded_from_by
data-more rules stop front rest k =
    let e : nat_lt (length (front ++ rest)) (length front + k) ≡ nat_lt (length rest) k =
    ap (λ n. nat_lt n (length front + k)) (length-append front rest) ∙ lt-shift (length front) (length rest) k (nat_lt (length rest) k) refl in
    ap (λ t. data_at (body_by rules stop) stop (length front + k) (front ++ rest) t) e ∙ taken-data (body_by rules stop) stop front rest k (nat_lt (length rest) k)

data-given-at : (rules : ChunkRules) (new : Option Feed) (front : List ℕ) (k : ℕ) → comes rules (Data (length front + k)) (prepended front new) ≡ prepended_data front (comes rules (Data k) new)
data-given-at rules None front k = refl
data-given-at rules (Some f) front k = ap (λ d. Some (coming_of f.stop d)) (data-more rules f.stop front f.bytes k)

pub data-given : (rules : ChunkRules) (old new : Option Feed) (front : List ℕ) (left n : ℕ) → old ≡ prepended front new → length front ≡ n → n ≤ left
    → comes rules (Data left) old ≡ prepended_data front (comes rules (Data (left - n)) new)
data-given rules old new front left n h e le =
    let split : left ≡ length front + (left - n) = omega arith in
    ap (λ o. comes rules (Data left) o) h ∙ (ap (λ m. comes rules (Data m) (prepended front new)) split ∙ data-given-at rules new front (left - n))

decoding-cut-at : (rules : ChunkRules) (stop : Stop) (left : ℕ) → 0 < left → decoded_from_by rules (Data left) (feed_at [] stop) ≡ broken [] (fault_of stop)
unfolding decoded_from_by
decoding-cut-at rules stop left h = rw (lt-ltb 0 left h) refl

cut-data : (rules : ChunkRules) (old : Option Feed) (kind : ErrorKind) (left : ℕ) → 0 < left → CutBy kind old → comes rules (Broken kind) old ≡ comes rules (Data left) old
cut-data rules None kind left p h = refl
cut-data rules (Some f) kind left p h =
    ap (λ d. Some (coming_of f.stop d)) (broken-is rules kind f ∙ sym (let P : List ℕ → Type 0 = λ bs. decoded_from_by rules (Data left) (feed_at bs f.stop) ≡ broken [] kind in subst P (sym h.0) (decoding-cut-at rules f.stop left p ∙ ap (λ k. broken [] k) (sym h.1))))

pub data-cut : (rules : ChunkRules) (old new : Option Feed) (kind : ErrorKind) (left : ℕ) → 0 < left → CutBy kind old → new ≡ old → comes rules (Broken kind) new ≡ comes rules (Data left) old
data-cut rules old new kind left p h e = rw e (cut-data rules old kind left p h)

-- a fault is all that comes rules
broken-breaks : (rules : ChunkRules) (f : Option Feed) (kind : ErrorKind) → BreaksBy kind (comes rules (Broken kind) f)
broken-breaks rules None kind = tt
broken-breaks rules (Some f) kind = ap (coming_of f.stop) (broken-is rules kind f)

pub breaks : (rules : ChunkRules) (f : Option Feed) (kind : ErrorKind) (d : Option Coming) → comes rules (Broken kind) f ≡ d → BreaksBy kind d
breaks rules f kind d e = let P : Option Coming → Type 0 = λ x. BreaksBy kind x in subst P e (broken-breaks rules f kind)

-- prepended-nothing comes rules after the body
pub over-comes : (rules : ChunkRules) (f : Option Feed) → comes rules Over f ≡ option_map over_at f
over-comes rules None = refl
over-comes rules (Some f) = ap (λ d. Some (coming_of f.stop d)) (over-is rules f)

-- only bytes at the front were taken
pub takes-more : (a b c : Option Feed) → TakesFront a b → TakesFront b c → TakesFront a c
takes-more a b c h k = (h.0 ++ k.0, given-along a b c h.0 k.0 (h.0 ++ k.0) h.1 k.1 refl)

pub takes-none : (a b : Option Feed) → b ≡ a → TakesFront a b
takes-none a b e = ([], sym e ∙ prepended-nothing b)

pub line-takes : (rules : ChunkRules) (a b : Option Feed) (line : TakenLine) → OneLine rules a b line → TakesFront a b
line-takes rules a b line h = (h.text ++ crlf, h.gives)

pub none-takes : (rules : ChunkRules) (a b : Option Feed) (kind : ErrorKind) → NoLine rules a b kind → TakesFront a b
none-takes rules a b kind h = (h.gone, h.gives)
