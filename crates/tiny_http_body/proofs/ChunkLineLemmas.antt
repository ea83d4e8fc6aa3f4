-- Lines read byte by byte.
use Rattle.std.proofs.Common.{◌≡◌, ◌≢◌, refl, sym, ap, ◌∙◌, subst, ℕ, ◌+◌, ◌-◌, ◌<◌, ◌≤◌, Bool, Bool, true, false, cond, not, ◌&&◌, inl, inr, List, [], ◌∷◌, ◌++◌, length, take, drop, Option, Some, append_assoc, append-nil, eqb-true, length-append, arith}
use Rattle.std.specs.Prelude.{◌==◌, ⊤}
use Rattle.std.specs.List.{list_all}
use Rattle.std.proofs.lemmas.List.{take-append-le, take-append-drop}
use Rattle.std.proofs.lemmas.Bool.{and_parts}
use Rattle.std.proofs.Math.Seq.{take-length}
use Rattle.std.specs.declared.io.ErrorKind.{ErrorKind}
use Rattle.std.specs.declared.io.ErrorKind.TheVariants.{InvalidData}
use Rattle.tiny_http_io.specs.declared.device.Stop.{Stop}
use Rattle.tiny_http_text.specs.Bytes.{crlf, HasNo}
use Rattle.tiny_http_io.specs.Device.{Feed, prepended, fault_of}
use Rattle.tiny_http_text.specs.Lines.{has_crlf}
use Rattle.tiny_http_head.specs.Heads.{line_feed}
use Rattle.tiny_http_body.specs.Chunks.{IsShortLine, IsShortLineBy, ChunkLineFault, ChunkLineFaultBy, longest_line}
use Rattle.tiny_http_io.proofs.DeviceFeeds.{given-along}
use Rattle.tiny_http_body.specs.declared.chunked.ChunkRules.{ChunkRules}
use Rattle.tiny_http_body.specs.declared.chunked.ChunkRules.TheVariants.{Lenient, Standard}
use Rattle.tiny_http_body.specs.declared.chunked.line.Said.{Said}
use Rattle.tiny_http_body.specs.declared.chunked.line.ChunkLine.{ChunkLine}
use Rattle.tiny_http_body.specs.declared.chunked.line.Scan.{Scan}
use Rattle.tiny_http_body.specs.ChunkSize.{SizeFits}
use Rattle.tiny_http_body.specs.ChunkLine.{said_step, said_after, nothing_said, breaks_line, scan_with, scan_step, OneLine, AreNeeded, NoLine, CutBy}
use Rattle.tiny_http_body.proofs.ChunkSaidLemmas.{said_after-push}
use Rattle.tiny_http_text.proofs.LinesLemmas.{line-plain, line-return, clear-front}
use Rattle.tiny_http_io.proofs.DeviceFeeds.{prepended-nothing}

-- a carriage return that may begin the end of the line, or nothing
abbrev pub held_return : Bool → List ℕ
held_return true = 13 ∷ []
held_return false = []

-- what these bytes of a line are to a scan: however they go on, no CR LF stands before the pending ones
pub record Scanned (rules : ChunkRules) (taken : List ℕ) (said : Said) (after_return : Bool) : Type 0 where
  pub text : List ℕ
  pub taken_is : taken ≡ text ++ held_return after_return
  pub clear : (more : List ℕ) → has_crlf (text ++ (held_return after_return ++ more)) ≡ has_crlf (held_return after_return ++ more)
  pub said_is : said ≡ said_after rules nothing_said text

not13 : (b : ℕ) → (b == 13) ≡ false → b ≢ 13
not13 b e h = let f : (13 == 13) ≡ false = rw h at e in cc

push-one : (text : List ℕ) (a b : ℕ) → (text ++ a ∷ []) ++ b ∷ [] ≡ (text ++ a ∷ b ∷ [])
push-one text a b = append_assoc text (a ∷ []) (b ∷ [])

scanned-step : (rules : ChunkRules) (taken : List ℕ) (said : Said) (flag : Bool) (b : ℕ) (t : Bool) → (b == 13) ≡ t → (flag ≡ true → b ≢ 10) → Scanned rules taken said flag
    → Scanned rules (taken ++ b ∷ []) (scan_with rules said flag b t).said (scan_with rules said flag b t).after_return
scanned-step rules taken said false b true e ne s =
    let x : b ≡ 13 = eqb-true b 13 e in
    record { text = s.text; taken_is = rw (s.taken_is, append-nil s.text, x) refl; clear = λ more. s.clear (13 ∷ more); said_is = s.said_is }
scanned-step rules taken said false b false e ne s =
    record {
      text = s.text ++ b ∷ [];
      taken_is = rw (s.taken_is, append-nil s.text, append-nil (s.text ++ b ∷ [])) refl;
      clear = λ more. ap has_crlf (append_assoc s.text (b ∷ []) more) ∙ (s.clear (b ∷ more) ∙ line-plain b more (not13 b e));
      said_is = ap (λ z. said_step rules z b) s.said_is ∙ sym (said_after-push rules nothing_said s.text b);
    }
scanned-step rules taken said true b true e ne s =
    let x : b ≡ 13 = eqb-true b 13 e in
    record {
      text = s.text ++ 13 ∷ [];
      taken_is = rw (s.taken_is, x) refl;
      clear = λ more. ap has_crlf (append_assoc s.text (13 ∷ []) (13 ∷ more)) ∙ s.clear (13 ∷ more);
      said_is = ap (λ z. said_step rules z 13) s.said_is ∙ sym (said_after-push rules nothing_said s.text 13);
    }
scanned-step rules taken said true b false e ne s =
    record {
      text = (s.text ++ 13 ∷ []) ++ b ∷ [];
      taken_is = rw (s.taken_is, append-nil ((s.text ++ 13 ∷ []) ++ b ∷ [])) refl;
      clear = λ more. ap has_crlf (append_assoc (s.text ++ 13 ∷ []) (b ∷ []) more ∙ append_assoc s.text (13 ∷ []) (b ∷ more)) ∙ (s.clear (b ∷ more) ∙ (line-return b more (ne refl) ∙ line-plain b more (not13 b e)));
      said_is = ap (λ z. said_step rules (said_step rules z 13) b) s.said_is ∙ (ap (λ z. said_step rules z b) (sym (said_after-push rules nothing_said s.text 13)) ∙ sym (said_after-push rules nothing_said (s.text ++ 13 ∷ []) b));
    }

pending-clear : (flag : Bool) → has_crlf (held_return flag ++ []) ≡ false
pending-clear true = refl
pending-clear false = refl

taken-clear : (rules : ChunkRules) (taken : List ℕ) (said : Said) (flag : Bool) → Scanned rules taken said flag → has_crlf taken ≡ false
taken-clear rules taken said flag s =
    rw (s.taken_is) (ap (λ p. has_crlf (s.text ++ p)) (sym (append-nil (held_return flag))) ∙ (s.clear [] ∙ pending-clear flag))

-- By the standard no LF stands in these bytes.
abbrev pub IsFeedless : ChunkRules → List ℕ → Type 0
IsFeedless Lenient bytes = ⊤
IsFeedless Standard bytes = HasNo line_feed bytes

no-cons : (a : ℕ) (bs : List ℕ) → HasNo line_feed (a ∷ bs) → (not (a == 10) ≡ true) × HasNo line_feed bs
no-cons a bs h = and_parts (not (a == 10)) (list_all (λ y. not (y == 10)) bs) h

no-front : (xs ys : List ℕ) → HasNo line_feed (xs ++ ys) → HasNo line_feed xs
no-front [] ys h = refl
no-front (a ∷ xs) ys h = let k = no-cons a (xs ++ ys) h in rw (k.0) (no-front xs ys k.1)

no-push : (xs : List ℕ) (b : ℕ) → HasNo line_feed xs → (b == 10) ≡ false → HasNo line_feed (xs ++ b ∷ [])
no-push [] b h e = rw e refl
no-push (a ∷ xs) b h e = let k = no-cons a xs h in rw (k.0) (no-push xs b k.1 e)

no-at : (xs ys : List ℕ) → HasNo line_feed (xs ++ line_feed ∷ ys) → ⊥
no-at [] ys h = cc
no-at (a ∷ xs) ys h = no-at xs ys (no-cons a (xs ++ line_feed ∷ ys) h).1

feedless-push : (rules : ChunkRules) (taken : List ℕ) (b : ℕ) → IsFeedless rules taken → breaks_line rules b ≡ false → IsFeedless rules (taken ++ b ∷ [])
feedless-push Lenient taken b h e = tt
feedless-push Standard taken b h e = no-push taken b h e

feedless-none : (rules : ChunkRules) → IsFeedless rules []
feedless-none Lenient = tt
feedless-none Standard = refl

feedless-front : (rules : ChunkRules) (xs ys : List ℕ) → IsFeedless rules (xs ++ ys) → IsFeedless rules xs
feedless-front Lenient xs ys h = tt
feedless-front Standard xs ys h = no-front xs ys h

-- the bytes of a line so far
pub record LineSoFar (rules : ChunkRules) (old new : Option Feed) (scan : Scan) (count : ℕ) : Type 0 where
  pub taken : List ℕ
  pub gives : old ≡ prepended taken new
  pub scanned : Scanned rules taken scan.said scan.after_return
  pub count_is : length taken ≡ count
  pub fits : SizeFits scan.said.size
  pub feedless : IsFeedless rules taken

pub so_far-none : (rules : ChunkRules) (feed : Option Feed) (scan : Scan) → scan ≡ record { said = nothing_said; after_return = false } → LineSoFar rules feed feed scan 0
so_far-none rules feed scan e =
    rw e (record { taken = []; gives = prepended-nothing feed; scanned = record { text = []; taken_is = refl; clear = λ more. refl; said_is = refl }; count_is = refl; fits = tt; feedless = feedless-none rules })

pub so_far-more : (rules : ChunkRules) (old mid new : Option Feed) (scan next : Scan) (count : ℕ) (b : ℕ) → LineSoFar rules old mid scan count → mid ≡ prepended (b ∷ []) new
    → (scan.after_return ≡ true → b ≢ 10) → breaks_line rules b ≡ false → next ≡ scan_step rules scan b → SizeFits next.said.size → LineSoFar rules old new next (count + 1)
so_far-more rules old mid new scan next count b s g ne breaks e fits =
    record {
      taken = s.taken ++ b ∷ [];
      gives = given-along old mid new s.taken (b ∷ []) (s.taken ++ b ∷ []) s.gives g refl;
      scanned = rw e (scanned-step rules s.taken scan.said scan.after_return b (b == 13) refl ne s.scanned);
      count_is = simp length-append (omega (arith, s.count_is));
      fits = fits;
      feedless = feedless-push rules s.taken b s.feedless breaks;
    }

short-by : (rules : ChunkRules) (text more : List ℕ) → IsShortLine text → IsFeedless rules (text ++ more) → IsShortLineBy rules text
short-by Lenient text more h f = h
short-by Standard text more h f = (h, no-front text more f)

seam : (text : List ℕ) → (text ++ 13 ∷ []) ++ 10 ∷ [] ≡ text ++ crlf
seam text = append_assoc text (13 ∷ []) (10 ∷ [])

pub so_far-line : (rules : ChunkRules) (old mid new : Option Feed) (scan : Scan) (count : ℕ) (line : ChunkLine) → LineSoFar rules old mid scan count → mid ≡ prepended (10 ∷ []) new
    → scan.after_return ≡ true → count < 8194 → line.length ≡ count - 1 → line.said ≡ scan.said → OneLine rules old new line
so_far-line rules old mid new scan count line s g flag lt n z =
    let text = s.scanned.text in
    let t : s.taken ≡ text ++ 13 ∷ [] = s.scanned.taken_is ∙ ap (λ f. text ++ held_return f) flag in
    let len : length s.taken ≡ length text + 1 = ap length t ∙ simp length-append refl in
    let free : IsFeedless rules (text ++ 13 ∷ []) = let P : List ℕ → Type 0 = λ x. IsFeedless rules x in subst P t s.feedless in
    record {
      text = text;
      gives = given-along old mid new s.taken (10 ∷ []) (text ++ crlf) s.gives g (sym (ap (λ x. x ++ 10 ∷ []) t ∙ seam text));
      short = short-by rules text (13 ∷ []) (omega (arith, len, s.count_is), clear-front text (13 ∷ []) (rw (← t) (taken-clear rules s.taken scan.said scan.after_return s.scanned))) free;
      length_is = n ∙ omega (arith, len, s.count_is);
      said_is = z ∙ s.scanned.said_is;
    }

lone-clear : (rules : ChunkRules) (taken : List ℕ) (said : Said) (flag : Bool) → flag ≡ false → Scanned rules taken said flag → has_crlf (taken ++ 10 ∷ []) ≡ false
lone-clear rules taken said true e s = cc
lone-clear rules taken said false e s = ap (λ x. has_crlf (x ++ 10 ∷ [])) (s.taken_is ∙ append-nil s.text) ∙ s.clear (10 ∷ [])

lone-flag : (flag : Bool) (b : ℕ) → b ≡ 10 → (flag ≡ true → b ≢ 10) → flag ≡ false
lone-flag true b e ne = absurd (ne refl e)
lone-flag false b e ne = refl

long-fault : (taken rest : List ℕ) (stop : Stop) → length taken ≡ 8194 → has_crlf taken ≡ false → ChunkLineFault (taken ++ rest) stop InvalidData
long-fault taken rest stop n h =
    let e : take (longest_line + 2) (taken ++ rest) ≡ taken = take-append-le (longest_line + 2) taken rest (omega arith) ∙ (ap (λ k. take k taken) (sym n) ∙ take-length taken) in
    let len : length (taken ++ rest) ≡ length taken + length rest = length-append taken rest in
    (rw e h, inl (omega arith, refl))

long-fault-by : (rules : ChunkRules) (taken rest : List ℕ) (stop : Stop) → length taken ≡ 8194 → has_crlf taken ≡ false → IsFeedless rules taken → ChunkLineFaultBy rules (taken ++ rest) stop InvalidData
long-fault-by Lenient taken rest stop n h f = long-fault taken rest stop n h
long-fault-by Standard taken rest stop n h f =
    let e : take (longest_line + 2) (taken ++ rest) ≡ taken = take-append-le (longest_line + 2) taken rest (omega arith) ∙ (ap (λ k. take k taken) (sym n) ∙ take-length taken) in
    inr (rw e f, long-fault taken rest stop n h)

cut-fault : (taken bytes : List ℕ) (stop : Stop) (kind : ErrorKind) → length taken < 8194 → has_crlf taken ≡ false → bytes ≡ [] → kind ≡ fault_of stop → ChunkLineFault (taken ++ bytes) stop kind
cut-fault taken bytes stop kind n h e k =
    let w : taken ++ bytes ≡ taken = ap (λ b. taken ++ b) e ∙ append-nil taken in
    let full : has_crlf (take (longest_line + 2) taken) ≡ false = clear-front (take (longest_line + 2) taken) (drop (longest_line + 2) taken) (rw take-append-drop h) in
    let P : List ℕ → Type 0 = λ x. ChunkLineFault x stop kind in
    subst P (sym w) (full, inr (omega arith, k))

cut-fault-by : (rules : ChunkRules) (taken bytes : List ℕ) (stop : Stop) (kind : ErrorKind) → length taken < 8194 → has_crlf taken ≡ false → IsFeedless rules taken → bytes ≡ [] → kind ≡ fault_of stop → ChunkLineFaultBy rules (taken ++ bytes) stop kind
cut-fault-by Lenient taken bytes stop kind n h f e k = cut-fault taken bytes stop kind n h e k
cut-fault-by Standard taken bytes stop kind n h f e k =
    let w : taken ++ bytes ≡ taken = ap (λ b. taken ++ b) e ∙ append-nil taken in
    let full : HasNo line_feed (take (longest_line + 2) taken) = no-front (take (longest_line + 2) taken) (drop (longest_line + 2) taken) (rw take-append-drop f) in
    let P : List ℕ → Type 0 = λ x. HasNo line_feed (take (longest_line + 2) x) in
    inr (subst P (sym w) full, cut-fault taken bytes stop kind n h e k)

-- a front of these bytes is no line yet
needed-from : (rules : ChunkRules) (taken front more : List ℕ) (stop : Stop) → taken ≡ front ++ more → has_crlf taken ≡ false → IsFeedless rules taken → length front < 8194 → ChunkLineFaultBy rules front stop (fault_of stop)
needed-from rules taken front more stop e h f lt =
    let free : IsFeedless rules (front ++ more) = let P : List ℕ → Type 0 = λ x. IsFeedless rules x in subst P e f in
    let clear : has_crlf (front ++ more) ≡ false = sym (ap has_crlf e) ∙ h in
    let Q : List ℕ → Type 0 = λ x. ChunkLineFaultBy rules x stop (fault_of stop) in
    subst Q (append-nil front) (cut-fault-by rules front [] stop (fault_of stop) lt (clear-front front more clear) (feedless-front rules front more free) refl refl)

needed-all : (rules : ChunkRules) (taken : List ℕ) → has_crlf taken ≡ false → IsFeedless rules taken → length taken ≤ 8194 → AreNeeded rules taken
needed-all rules taken h f le =
    λ front more stop e p.
    let n : length taken ≡ length front + length more = ap length e ∙ length-append front more in
    needed-from rules taken front more stop e h f (omega (arith, n, p, le))

one-long : (b c : ℕ) (cs more : List ℕ) → b ∷ [] ≡ c ∷ (cs ++ more) → 0 < length more → ⊥
one-long b c cs more e p = let n : 1 ≡ length (c ∷ (cs ++ more)) = ap length e in let m : length (cs ++ more) ≡ length cs + length more = length-append cs more in omega (arith, n, m, p)

-- less than all of them is a front of all but the last
front-within : (taken : List ℕ) (b : ℕ) (front more : List ℕ) → taken ++ b ∷ [] ≡ front ++ more → 0 < length more → (m : List ℕ) × (taken ≡ front ++ m)
front-within taken b [] more e p = (taken, refl)
front-within [] b (c ∷ cs) more e p = absurd (one-long b c cs more e p)
front-within (a ∷ xs) b (c ∷ cs) more e p =
    let head : a ≡ c = cc in
    let tail : xs ++ b ∷ [] ≡ cs ++ more = cc in
    let k = front-within xs b cs more tail p in
    (k.0, ap (λ x. x ∷ xs) head ∙ ap (λ x. c ∷ x) k.1)

needed-push : (rules : ChunkRules) (taken : List ℕ) (b : ℕ) → has_crlf taken ≡ false → IsFeedless rules taken → length taken < 8194 → AreNeeded rules (taken ++ b ∷ [])
needed-push rules taken b h f lt =
    λ front more stop e p.
    let k = front-within taken b front more e p in
    let n : length taken ≡ length front + length k.0 = ap length k.1 ∙ length-append front k.0 in
    needed-from rules taken front k.0 stop k.1 h f (omega (arith, n, lt))

return-step : (a b : ℕ) (t : Bool) (x y : Bool) → cond t true x ≡ false → (x ≡ false → y ≡ false) → cond t true y ≡ false
return-step a b true x y h go = h
return-step a b false x y h go = go h

and-off : (s : Bool) → cond (s && false) true false ≡ false
and-off true = refl
and-off false = refl

return-clear : (text : List ℕ) → has_crlf text ≡ false → has_crlf (text ++ 13 ∷ []) ≡ false
return-clear [] h = refl
return-clear (a ∷ []) h = and-off (a == 13)
return-clear (a ∷ b ∷ bs) h = return-step a b (a == 13 && b == 10) (has_crlf (b ∷ bs)) (has_crlf (b ∷ bs ++ 13 ∷ [])) h (return-clear (b ∷ bs))

line-parts : (rules : ChunkRules) (text : List ℕ) → IsShortLineBy rules text → IsShortLine text × IsFeedless rules (text ++ 13 ∷ [])
line-parts Lenient text h = (h, tt)
line-parts Standard text h = (h.0, no-push text 13 h.1 refl)

-- of a line and its end too
pub line-needed : (rules : ChunkRules) (text : List ℕ) → IsShortLineBy rules text → AreNeeded rules (text ++ crlf)
line-needed rules text h =
    let k = line-parts rules text h in
    let n : length (text ++ 13 ∷ []) ≡ length text + 1 = length-append text (13 ∷ []) in
    let P : List ℕ → Type 0 = λ x. AreNeeded rules x in
    subst P (seam text) (needed-push rules (text ++ 13 ∷ []) 10 (return-clear text k.0.1) k.1 (omega (arith, n, k.0.0)))

-- an LF alone
pub so_far-lone : (rules : ChunkRules) (old mid new : Option Feed) (scan : Scan) (count : ℕ) (b : ℕ) → LineSoFar rules old mid scan count → mid ≡ prepended (b ∷ []) new
    → (scan.after_return ≡ true → b ≢ 10) → breaks_line rules b ≡ true → count < 8194 → NoLine rules old new InvalidData
so_far-lone Lenient old mid new scan count b s g ne breaks lt = cc
so_far-lone Standard old mid new scan count b s g ne breaks lt =
    let feed_is : b ≡ 10 = eqb-true b 10 breaks in
    let mid_is : mid ≡ prepended (10 ∷ []) new = g ∙ ap (λ x. prepended (x ∷ []) new) feed_is in
    let clear : has_crlf (s.taken ++ 10 ∷ []) ≡ false = lone-clear Standard s.taken scan.said scan.after_return (lone-flag scan.after_return b feed_is ne) s.scanned in
    record {
      gone = s.taken ++ 10 ∷ [];
      gives = given-along old mid new s.taken (10 ∷ []) (s.taken ++ 10 ∷ []) s.gives mid_is refl;
      fault = λ feed e. inl (record { text = s.taken; rest = feed.bytes; joins = append_assoc s.taken (10 ∷ []) feed.bytes; lone = clear; near = omega (arith, lt, s.count_is) }, refl);
      needed = needed-push Standard s.taken 10 (taken-clear Standard s.taken scan.said scan.after_return s.scanned) s.feedless (omega (arith, lt, s.count_is));
    }

pub so_far-long : (rules : ChunkRules) (old new : Option Feed) (scan : Scan) (count : ℕ) → LineSoFar rules old new scan count → count ≡ 8194 → NoLine rules old new InvalidData
so_far-long rules old new scan count s n =
    record {
      gone = s.taken;
      gives = s.gives;
      fault = λ feed e. long-fault-by rules s.taken feed.bytes feed.stop (s.count_is ∙ n) (taken-clear rules s.taken scan.said scan.after_return s.scanned) s.feedless;
      needed = needed-all rules s.taken (taken-clear rules s.taken scan.said scan.after_return s.scanned) s.feedless (omega (arith, s.count_is, n));
    }

pub so_far-cut : (rules : ChunkRules) (old mid new : Option Feed) (scan : Scan) (count : ℕ) (kind : ErrorKind) → LineSoFar rules old mid scan count → new ≡ mid → CutBy kind mid → count < 8194 → NoLine rules old new kind
so_far-cut rules old mid new scan count kind s same cut lt =
    record {
      gone = s.taken;
      gives = rw same (s.gives);
      fault = λ feed e.
          let c : CutBy kind (Some feed) = let P : Option Feed → Type 0 = λ f. CutBy kind f in subst P (sym same ∙ e) cut in
          cut-fault-by rules s.taken feed.bytes feed.stop kind (omega (arith, s.count_is)) (taken-clear rules s.taken scan.said scan.after_return s.scanned) s.feedless c.0 c.1;
      needed = needed-all rules s.taken (taken-clear rules s.taken scan.said scan.after_return s.scanned) s.feedless (omega (arith, s.count_is, lt));
    }

pub flag_off : (flag : Bool) (b : ℕ) → flag ≡ false → flag ≡ true → b ≢ 10
flag_off flag b e f = let x : true ≡ false = sym f ∙ e in λ h. (cc)

pub all-taken : (n : ℕ) → n ≤ 8194 → 8194 ≤ n → n ≡ 8194
all-taken n h k = omega arith
