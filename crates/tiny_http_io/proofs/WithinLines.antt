-- Lines within a limit.
use Rattle.std.proofs.Common.{◌≡◌, refl, sym, ap, ◌∙◌, subst, ℕ, zero, suc, ◌+◌, ◌-◌, ◌<◌, ◌≤◌, true, false, List, [], ◌∷◌, ◌++◌, length, take, drop, Option, Some, None, Ok, Err, Result, append_assoc, length-append, append-nil, arith}
use Rattle.std.specs.Prelude.{IfSome, IsSome, OnOk, is_err}
use Rattle.std.specs.Option.{option_map}
use Rattle.std.specs.Str.{IsAscii, IsNotAscii}
use Rattle.std.proofs.lemmas.List.{take-append-drop, take-append-le, length-take-le, length-drop}
use Rattle.std.proofs.Math.Seq.{take-append_seam}
use Rattle.tiny_http_io.specs.Device.{Feed, prepended, StopsBy}
use Rattle.tiny_http_io.specs.declared.device.Stop.{Stop}
use Rattle.tiny_http_io.specs.declared.device.Stop.TheVariants.{End}
use Rattle.tiny_http_text.specs.Lines.{IsUnfinished, has_crlf}
use Rattle.tiny_http_text.proofs.LinesLemmas.{clear-front}
use Rattle.tiny_http_io.specs.ToCome.{stopped, to_come}
use Rattle.tiny_http_io.proofs.LineEndsScanning.{come-now, line-given}
use Rattle.tiny_http_io.proofs.SourceLines.{takes-line}
use Rattle.tiny_http_io.specs.LineEnds.{BeginsNoLineEnd, EndsLine, IsRoom, StopsWithin}
use Rattle.std.specs.Global.{Vec}
use Rattle.tiny_http_io.specs.declared.input.Input.{Input}
use Rattle.tiny_http_io.specs.declared.source.FirstLine.{FirstLine}
use Rattle.tiny_http_io.specs.declared.source.FirstLine.TheVariants.{Held, Taken}
use Rattle.tiny_http_io.specs.Input.{input_feed}
use Rattle.tiny_http_io.specs.Source.{TakesLine, FindsLine, ReadsWithin, IsWithin, seen_within, IsShort, line_fault_of}
use Rattle.tiny_http_io.specs.declared.source.LineFault.{LineFault}
use Rattle.tiny_http_io.specs.declared.source.LineFault.TheVariants as fault

-- one byte more
pub room-less : (left room : Option ℕ) (a b : ℕ) → IsRoom left room a → IfSome room (λ n. 0 < n) → b ≡ a + 1 → IsRoom left (option_map (λ n. n - 1) room) b
room-less None None a b h some e = tt
room-less (Some left) (Some room) a b h some e = omega (arith, h, some, e)
room-less None (Some room) a b h some e = absurd h
room-less (Some left) None a b h some e = absurd h

-- a line that ends with one byte more
pub room-line : (left room : Option ℕ) (n : ℕ) → IsRoom left room (n + 1) → IfSome room (λ k. 0 < k) → IsWithin left n
room-line None room n h some = tt
room-line (Some left) (Some room) n h some = omega (arith, h, some)
room-line (Some left) None n h some = absurd h

-- the bytes end before the limit
pub room-short : (left room : Option ℕ) (gone : List ℕ) (f : LineFault) → (f ≡ fault.TooLong → ⊥) → IsRoom left room (length gone) → IfSome room (λ k. 0 < k) → StopsWithin left f gone
room-short None room gone fault.End ne h some = tt
room-short None room gone fault.NotAscii ne h some = tt
room-short None room gone fault.TooLong ne h some = absurd (ne refl)
room-short None room gone fault.TimedOut ne h some = tt
room-short None room gone (fault.Broken kind) ne h some = tt
room-short None room gone fault.Memory ne h some = tt
room-short (Some left) (Some room) gone fault.End ne h some = omega (arith, h, some)
room-short (Some left) (Some room) gone fault.NotAscii ne h some = omega (arith, h, some)
room-short (Some left) (Some room) gone fault.TooLong ne h some = absurd (ne refl)
room-short (Some left) (Some room) gone fault.TimedOut ne h some = omega (arith, h, some)
room-short (Some left) (Some room) gone (fault.Broken kind) ne h some = omega (arith, h, some)
room-short (Some left) (Some room) gone fault.Memory ne h some = omega (arith, h, some)
room-short (Some left) None gone f ne h some = absurd h

-- the limit is reached
pub room-full : (left room : Option ℕ) (gone : List ℕ) → IsRoom left room (length gone) → IsSome room → IfSome room (λ k. k ≤ 0) → StopsWithin left fault.TooLong gone
room-full left None gone h some none = let no : false ≡ true = some in cc
room-full None (Some room) gone h some none = absurd h
room-full (Some left) (Some room) gone h some none = omega (arith, h, none)

-- no line ends in the front of bytes in which none ends
unfinished-front : (m : ℕ) (bytes : List ℕ) → has_crlf bytes ≡ false → has_crlf (take m bytes) ≡ false
unfinished-front m bytes h =
    let P : List ℕ → Type 0 = λ x. has_crlf x ≡ false in
    clear-front (take m bytes) (drop m bytes) (subst P (sym (take-append-drop m bytes)) h)

pub none-seen : (left : Option ℕ) (bytes : List ℕ) → has_crlf bytes ≡ false → IsUnfinished (seen_within left bytes)
none-seen None bytes h = h
none-seen (Some m) bytes h = unfinished-front m bytes h

-- nor before the limit where the first line ends behind it
pub ends-unseen : (left : Option ℕ) (bytes : List ℕ) (n : ℕ) → EndsLine bytes n → IsSome left → IfSome left (λ m. m < n + 2) → IsUnfinished (seen_within left bytes)
ends-unseen None bytes n e some beyond = let no : false ≡ true = some in cc
ends-unseen (Some m) bytes n e some beyond =
    let t = take n bytes ++ (13 ∷ []) in
    let rest = drop (n + 2) bytes in
    let whole : t ++ (10 ∷ rest) ≡ bytes = append_assoc (take n bytes) (13 ∷ []) (10 ∷ rest) ∙ sym (append_assoc (take n bytes) (13 ∷ (10 ∷ [])) rest) ∙ ap (λ x. x ++ rest) (sym e.ends) ∙ take-append-drop (n + 2) bytes in
    let long : length t ≡ n + 1 = length-append (take n bytes) (13 ∷ []) ∙ ap (λ k. k + 1) (length-take-le n bytes (omega (arith, e.within))) in
    let P : List ℕ → Type 0 = λ x. has_crlf x ≡ false in
    let front : take m bytes ≡ take m t = ap (take m) (sym whole) ∙ take-append-le m t (10 ∷ rest) (omega (arith, long, beyond)) in
    subst P (sym front) (unfinished-front m t (e.first.none_begins []))

-- the limit is reached by what is held
pub long-held : (left : Option ℕ) (held : List ℕ) (behind o n : Option Feed) → o ≡ to_come 0 held behind → n ≡ option_map (λ _. stopped End) o → IsSome left → IfSome left (λ m. m ≤ length held) → IsUnfinished (seen_within left held)
    → ReadsWithin left o n (Err fault.TooLong)
long-held None held behind o n e stops some reached unseen = let no : false ≡ true = some in cc
long-held (Some m) held None o n e stops some reached unseen = let P : Option Feed → Type 0 = λ x. ReadsWithin (Some m) x n (Err fault.TooLong) in subst P (sym e) tt
long-held (Some m) held (Some g) o n e stops some reached unseen =
    let f : Feed = record { bytes = held ++ g.bytes; stop = g.stop } in
    let is : o ≡ Some f = e ∙ come-now held g in
    let P : Option Feed → Type 0 = λ x. n ≡ option_map (λ _. stopped End) x → ReadsWithin (Some m) x n (Err fault.TooLong) in
    let U : List ℕ → Type 0 = λ x. IsUnfinished x in
    subst P (sym is) (λ s. ((omega (arith, reached, length-append held g.bytes), subst U (sym (take-append-le m held g.bytes reached)) unseen), s)) stops

-- a limit of no byte
pub long-none : (left : Option ℕ) (o n : Option Feed) → IsSome left → IfSome left (λ m. m ≤ 0) → n ≡ option_map (λ _. stopped End) o → ReadsWithin left o n (Err fault.TooLong)
long-none left None n some none stops = tt
long-none None (Some f) n some none stops = let no : false ≡ true = some in cc
long-none (Some zero) (Some f) n some none stops = ((omega arith, refl), stops)
long-none (Some (suc m)) (Some f) n some none stops = absurd (omega (arith, none))

-- the limit is reached byte by byte
pub long-gone : (left : Option ℕ) (o mid n : Option Feed) (gone : List ℕ) → o ≡ prepended gone mid → n ≡ option_map (λ _. stopped End) mid → IsUnfinished gone → StopsWithin left fault.TooLong gone → ReadsWithin left o n (Err fault.TooLong)
long-gone None o mid n gone e stops h k = absurd k
long-gone (Some m) o None n gone e stops h k = let P : Option Feed → Type 0 = λ x. ReadsWithin (Some m) x n (Err fault.TooLong) in subst P (sym e) tt
long-gone (Some m) o (Some g) n gone e stops h k =
    let P : Option Feed → Type 0 = λ x. ReadsWithin (Some m) x n (Err fault.TooLong) in
    let U : List ℕ → Type 0 = λ x. IsUnfinished x in
    let seen : take m (gone ++ g.bytes) ≡ gone = ap (λ j. take j (gone ++ g.bytes)) (sym k) ∙ take-append_seam gone g.bytes in
    subst P (sym e) ((omega (arith, sym k, length-append gone g.bytes), subst U (sym seen) h), stops)

-- where as many bytes are held as the limit lets through, the search among them has found its end
pub full-held : (X : Type 0) (left : Option ℕ) (skip : ℕ) (held mid : List ℕ) → IfSome left (λ m. 0 < m) → IfSome left (λ m. length mid < m) → (skip < length held → mid ≡ drop skip held) → IfSome left (λ n. skip + n ≤ length held → X)
full-held X None skip held mid some below same = tt
full-held X (Some n) skip held mid some below same = λ le.
    let rest : mid ≡ drop skip held = same (omega (arith, some, le)) in
    let long : length mid ≡ length held - skip = ap length rest ∙ length-drop skip held in
    absurd (omega (arith, below, le, long))

-- the bytes end before a line and before the limit
pub short-read : (left : Option ℕ) (o n : Option Feed) (gone : List ℕ) (f : LineFault) (stop : Stop) → (f ≡ fault.Memory → ⊥) → (f ≡ fault.TooLong → ⊥) → (f ≡ fault.NotAscii → ⊥) → o ≡ prepended gone n → IsUnfinished gone → StopsWithin left f gone
    → f ≡ line_fault_of stop → StopsBy stop n → ReadsWithin left o n (Err f)
short-read left o None gone f stop memory long ascii e h k same stops = let P : Option Feed → Type 0 = λ x. ReadsWithin left x None (Err f) in subst P (sym e) tt
short-read left o (Some g) gone f stop memory long ascii e h k same stops =
    let whole : gone ++ g.bytes ≡ gone = ap (λ x. gone ++ x) stops.0 ∙ append-nil gone in
    let end : ◌≡◌ {A = Feed} g (stopped g.stop) = feed-end g stops.0 in
    let U : List ℕ → Type 0 = λ x. IsUnfinished x in
    let P : Option Feed → Type 0 = λ x. ReadsWithin left x (Some g) (Err f) in
    subst P (sym e) (by f memory long ascii (subst U (sym whole) h) (same ∙ ap line_fault_of (sym stops.1)) (ap Some end) (short left f long k (ap length whole)))
  where
    feed-end : (g : Feed) → g.bytes ≡ [] → ◌≡◌ {A = Feed} g (stopped g.stop)
    feed-end g e = let F : List ℕ → Feed = λ x. record { bytes = x; stop = g.stop } in ap F e

    short : (left : Option ℕ) (f : LineFault) → (f ≡ fault.TooLong → ⊥) → StopsWithin left f gone → length (gone ++ g.bytes) ≡ length gone → IsShort left (gone ++ g.bytes)
    short None f ne k e = tt
    short (Some m) fault.End ne k e = omega (arith, k, e)
    short (Some m) fault.NotAscii ne k e = omega (arith, k, e)
    short (Some m) fault.TooLong ne k e = absurd (ne refl)
    short (Some m) fault.TimedOut ne k e = omega (arith, k, e)
    short (Some m) (fault.Broken kind) ne k e = omega (arith, k, e)
    short (Some m) fault.Memory ne k e = omega (arith, k, e)

    by : (f : LineFault) → (f ≡ fault.Memory → ⊥) → (f ≡ fault.TooLong → ⊥) → (f ≡ fault.NotAscii → ⊥) → IsUnfinished (gone ++ g.bytes) → f ≡ line_fault_of g.stop → Some g ≡ Some (stopped g.stop) → IsShort left (gone ++ g.bytes)
        → ReadsWithin left (Some (record { bytes = gone ++ g.bytes; stop = g.stop })) (Some g) (Err f)
    by fault.End m l a u s n k = ((u, s, n), k)
    by fault.TimedOut m l a u s n k = ((u, s, n), k)
    by (fault.Broken kind) m l a u s n k = ((u, s, n), k)
    by fault.NotAscii m l a u s n k = absurd (a refl)
    by fault.TooLong m l a u s n k = absurd (l refl)
    by fault.Memory m l a u s n k = absurd (m refl)

pub ok-of : (X : Type 0) {T E : Type 0} (r : Result T E) → is_err r ≡ false → OnOk r X → X
ok-of X (Ok x) e h = h
ok-of X (Err x) e h = cc

pub short-read-of : (left : Option ℕ) (o n : Option Feed) (gone : List ℕ) (f : LineFault) (stop : Option Stop) → (f ≡ fault.TooLong → ⊥) × (f ≡ fault.NotAscii → ⊥) × (f ≡ fault.Memory → ⊥) → o ≡ prepended gone n → IsUnfinished gone → StopsWithin left f gone
    → IsSome stop → IfSome stop (λ s. f ≡ line_fault_of s) → IfSome stop (λ s. StopsBy s n) → ReadsWithin left o n (Err f)
short-read-of left o n gone f None k e h within some same stops = let no : false ≡ true = some in cc
short-read-of left o n gone f (Some s) k e h within some same stops = short-read left o n gone f s k.2 k.0 k.1 e h within same stops

-- a line that was taken off, and kept the limit
abbrev pub TakesWithin : Option ℕ → Option Feed → Option Feed → List ℕ → Type 0
TakesWithin left o n text = TakesLine o n text × IsWithin left (length text)

pub taken-of : (left : Option ℕ) (o n : Option Feed) (held : List ℕ) (skip : ℕ) (line : FirstLine) (text : Vec ℕ) → FindsLine left o n held skip (Ok line) → line ≡ Taken text → TakesWithin left o n text.items
taken-of left o n held skip line text h e = let P : FirstLine → Type 0 = λ x. FindsLine left o n held skip (Ok x) in subst P e h

pub held-of : {R : Type 0} (feed : R → Option Feed) (left : Option ℕ) (o : Option Feed) (found new : Input R) (line : FirstLine) (n : ℕ) (text : Vec ℕ) → FindsLine left o (input_feed feed found) found.held found.skip (Ok line) → line ≡ Held n
    → text.items ≡ take n found.held → new ≡ record found { held = drop (n + 2) found.held } → TakesWithin left o (input_feed feed new) text.items
held-of feed left o found new line n text h e same rest =
    let P : FirstLine → Type 0 = λ x. FindsLine left o (input_feed feed found) found.held found.skip (Ok x) in
    let k = subst P e h in
    let r : Result (Vec ℕ) LineFault = Ok text in
    let given = line-given feed r (λ v. v.items) n found found new refl k.1 k.2 same rest in
    let B : List ℕ → Type 0 = λ x. BeginsNoLineEnd x (13 ∷ []) in
    let long : n ≡ length text.items = sym (ap length same ∙ length-take-le n found.held (omega (arith, k.2.within))) in
    (takes-line o (input_feed feed new) text.items (sym k.0 ∙ given) (subst B (sym same) k.2.first), subst (IsWithin left) long k.3)

-- and is ASCII, or isn't
pub within-ascii : (left : Option ℕ) (o n : Option Feed) (text : List ℕ) → TakesWithin left o n text → IsAscii text → ReadsWithin left o n (Ok text)
within-ascii left None n text h good = tt
within-ascii left (Some f) n text h good = ((h.0.0, h.0.1, good, h.0.2), h.1)

pub within-not_ascii : (left : Option ℕ) (o n : Option Feed) (text : List ℕ) → TakesWithin left o n text → IsNotAscii text → ReadsWithin left o n (Err fault.NotAscii)
within-not_ascii left None n text h bad = tt
within-not_ascii left (Some f) n text h bad = (text, h.0.0, h.0.1, bad, h.1, h.0.2)

-- only a limit is reached
pub room-some : (left room : Option ℕ) (count : ℕ) → IsRoom left room count → IsSome room → IsSome left
room-some None None count h some = some
room-some None (Some room) count h some = absurd h
room-some (Some left) None count h some = absurd h
room-some (Some left) (Some room) count h some = refl
