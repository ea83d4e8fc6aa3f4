-- The parts of a head that are read from a source, joined.
use Rattle.std.proofs.Common.{◌≡◌, ◌≢◌, refl, sym, ap, ◌∙◌, subst, ℕ, ◌+◌, ◌-◌, ◌<◌, ◌≤◌, inl, inr, Bool, true, false, not, List, [], ◌∷◌, ◌++◌, length, take, drop, length-take, Option, Some, None, Result, Ok, Err, length-append, take_all, arith, eqb-true}
use Rattle.std.proofs.Math.Seq.{drop-append_seam}
use Rattle.std.specs.Prelude.{◌==◌, suc, IfOk, OnErr, IfSome, IsTrue}
use Rattle.std.specs.Global.{Vec}
use Rattle.std.specs.declared.alloc.AllocError.{AllocError}
use Rattle.std.proofs.lemmas.Bool.{and_parts}
use Rattle.tiny_http_text.specs.Bytes.{HasNo, has_bare_end}
use Rattle.tiny_http_io.specs.Device.{Feed, prepend, prepended}
use Rattle.tiny_http_io.specs.Source.{SourceState, GoesOn, IsCutOff, feed_from}
use Rattle.tiny_http_head.specs.declared.common.Method.{Method}
use Rattle.tiny_http_head.specs.declared.common.HTTPVersion.{HTTPVersion}
use Rattle.tiny_http_head.specs.declared.common.Header.{Header}
use Rattle.tiny_http_head.specs.Heads.{Message, method_of}
use Rattle.tiny_http_standard_head.specs.declared.heads.TheConstants.{MOST_HEADERS}
use Rattle.tiny_http_standard_head.specs.declared.heads.StandardHead.{StandardHead}
use Rattle.tiny_http_standard_head.specs.declared.heads.StandardFault.TheVariants.{BadLine, RequestLineTooLong, HeaderFieldsTooLarge, TooManyFields, Invalid}
use Rattle.tiny_http_standard_head.specs.declared.heads.StandardRead.{StandardRead}
use Rattle.tiny_http_standard_head.specs.declared.heads.StandardRead.TheVariants as read
use Rattle.tiny_http_standard_head.specs.declared.validation.HeadError.{HeadError}
use Rattle.tiny_http_standard_head.specs.declared.heads.NoHead.TheVariants as stop
use Rattle.tiny_http_standard_head.specs.declared.source_heads.NoHead.{NoHead}
use Rattle.tiny_http_standard_head.specs.declared.source_heads.NoHead.TheVariants.{Refused, Unfinished, Memory}
use Rattle.tiny_http_standard_head.specs.Lines.{ReadsRequestLine, IsNoRequestLine, IsNoFieldLine}
use Rattle.tiny_http_standard_head.specs.Validation.{Validates}
use Rattle.tiny_http_head.specs.Heads.{line_feed}
use Rattle.tiny_http_standard_head.specs.Heads.{carriage_return, is_carriage_return, Line, BeginsWithBareLine, behind_empty_line, BeginsWithRequestLine, BeginsWithFieldLines, BeginsWithBadLine, HasOpenRequestLine, HasOpenField, BeginsWithHead, is_begun, message_of}
use Rattle.tiny_http_standard_head.specs.SourceHeads.{IsNoRequestOrEmpty, LacksMemory, LacksMemoryAtStart, IsSpent, TakesText, ReadsRequest, ReadsField, ReadsStart, HasReadFields, ReadsFields, IsWithoutHead, ReadsFrom}
use Rattle.tiny_http_standard_head.proofs.HeadsLemmas.{more-fields, one-more, whole-head, fields-stop, is-field-line}

-- bytes that don't begin with an empty line
kept : (w : List ℕ) → ((bs : List ℕ) → w ≡ 13 ∷ 10 ∷ bs → ⊥) → behind_empty_line w ≡ w
kept [] h = refl
kept (a ∷ []) h = refl
kept (a ∷ b ∷ bs) h = by (a == 13) (b == 10) refl refl
  where
    by : (s t : Bool) → (a == 13) ≡ s → (b == 10) ≡ t → behind_empty_line (a ∷ b ∷ bs) ≡ a ∷ b ∷ bs
    by true true d e = absurd (h bs (ap (λ x. x ∷ b ∷ bs) (eqb-true a 13 d) ∙ ap (λ x. 13 ∷ x ∷ bs) (eqb-true b 10 e)))
    by true false d e = rw (d, e) refl
    by false t d e = rw d refl

second-line_feed : (a : ℕ) (bs : List ℕ) → HasNo line_feed (a ∷ 10 ∷ bs) → ⊥
second-line_feed a bs h =
    let parts = and_parts (not (a == line_feed)) false h in
    let no : false ≡ true = parts.1 in cc

open-kept : (w : List ℕ) → HasNo line_feed w → behind_empty_line w ≡ w
open-kept w h = kept w (λ bs e. second-line_feed 13 bs (subst (HasNo line_feed) e h))

line-kept : (w text rest : List ℕ) → Line w text rest → text ≢ [] → behind_empty_line w ≡ w
line-kept w text rest l some = kept w (λ bs e. by text l.first some bs (sym l.joins ∙ e))
  where
    by : (text : List ℕ) → HasNo line_feed text → text ≢ [] → (bs : List ℕ) → text ++ (carriage_return ∷ line_feed ∷ rest) ≡ 13 ∷ 10 ∷ bs → ⊥
    by [] first some bs e = some refl
    by (a ∷ []) first some bs e = let no : ◌≡◌ {A = ℕ} 13 10 = cc in absurd (omega (arith, no))
    by (a ∷ b ∷ ts) first some bs e = let is : b ≡ 10 = cc in second-line_feed a ts (subst (λ x. HasNo line_feed (a ∷ x ∷ ts)) is first)

bare-kept : (w : List ℕ) → BeginsWithBareLine w → behind_empty_line w ≡ w
bare-kept w b = kept w (λ bs e. by b.text b.first b.bare bs (sym b.joins ∙ e))
  where
    by : (text : List ℕ) → HasNo line_feed text → IsTrue (has_bare_end is_carriage_return text) → (bs : List ℕ) → text ++ (line_feed ∷ b.rest) ≡ 13 ∷ 10 ∷ bs → ⊥
    by [] first bare bs e = let no : ◌≡◌ {A = ℕ} 10 13 = cc in absurd (omega (arith, no))
    by (a ∷ []) first bare bs e =
        let is : a ≡ 13 = cc in
        let no : false ≡ true = subst (λ x. has_bare_end is_carriage_return (x ∷ []) ≡ true) is bare in cc
    by (a ∷ c ∷ ts) first bare bs e = let is : c ≡ 10 = cc in second-line_feed a ts (subst (λ x. HasNo line_feed (a ∷ x ∷ ts)) is first)

empty-passed : (w rest : List ℕ) → Line w [] rest → behind_empty_line w ≡ rest
empty-passed w rest l = ap behind_empty_line l.joins

-- an empty text is no request line
no-empty_request : (m : Method) (t : List ℕ) (v : HTTPVersion) → ReadsRequestLine [] m t v → ⊥
no-empty_request m t v r = by r.0 (t ++ 32 ∷ r.1.version_text) r.1.joins
  where
    by : (m rest : List ℕ) → [] ≡ m ++ 32 ∷ rest → ⊥
    by [] rest e = cc
    by (x ∷ xs) rest e = cc

request-some : (text : List ℕ) (m : Method) (t : List ℕ) (v : HTTPVersion) → ReadsRequestLine text m t v → text ≢ []
request-some text m t v r e = no-empty_request m t v (subst (λ (x : List ℕ). ReadsRequestLine x m t v) e r)

weaker : (w : List ℕ) → BeginsWithBadLine IsNoRequestOrEmpty w → BeginsWithBadLine IsNoRequestLine w
weaker w (inl bare) = inl bare
weaker w (inr k) = inr (k.0, k.1, k.2, k.3.1)

bad-kept : (w : List ℕ) → BeginsWithBadLine IsNoRequestOrEmpty w → behind_empty_line w ≡ w
bad-kept w (inl bare) = bare-kept w bare
bad-kept w (inr k) = line-kept w k.0 k.1 k.2 k.3.0

-- THE FIRST LINE is the request line
first-at : (limit left : ℕ) (f : Feed) (new : Option Feed) (text : List ℕ) (m : Method) (t : List ℕ) (v : HTTPVersion) → TakesText limit left f new text → ReadsRequestLine text m t v → ReadsStart limit left (Some f) new (Ok (m, t, v))
first-at limit left f new text m t v k reads =
    let same = line-kept (take limit f.bytes) text (take left k.rest) k.line (request-some text m t v reads) in (
      k.rest,
      record { text = text; line = subst (λ (x : List ℕ). Line x text (take left k.rest)) (sym same) k.line; reads = reads },
      k.goes,
      k.spent,
    )

pub first-some : (limit left : ℕ) (old new : Option Feed) (r : Method × List ℕ × HTTPVersion) → ReadsRequest limit left old new (Ok (Some r)) → ReadsStart limit left old new (Ok r)
first-some limit left None new r h = tt
first-some limit left (Some f) new r h = first-at limit left f new h.0 r.0 r.1 r.2 h.1 h.2

pub first-err : (limit left : ℕ) (old new : Option Feed) (e : NoHead) → ReadsRequest limit left old new (Err e) → ReadsStart limit left old new (Err e)
first-err limit left None new e h = tt
first-err limit left (Some f) new (Refused BadLine) h = subst (BeginsWithBadLine IsNoRequestLine) (sym (bad-kept (take limit f.bytes) h)) (weaker (take limit f.bytes) h)
first-err limit left (Some f) new (Refused RequestLineTooLong) h = (subst (HasNo line_feed) (sym (open-kept (take limit f.bytes) h.0)) h.0, h.1)
first-err limit left (Some f) new (Refused HeaderFieldsTooLarge) h = absurd h
first-err limit left (Some f) new (Refused TooManyFields) h = absurd h
first-err limit left (Some f) new (Refused (Invalid x)) h = absurd h
first-err limit left (Some f) new (Unfinished b) h =
    let same = open-kept f.bytes h.0.0 in
    let all : take limit f.bytes ≡ f.bytes = take_all limit f.bytes (omega (arith, h.0.1)) in
    (subst (λ (x : List ℕ). HasNo line_feed (behind_empty_line x)) (sym all) (subst (HasNo line_feed) (sym same) h.0.0), h.0.1, h.1 ∙ ap (λ (x : List ℕ). not (length x == 0)) (sym same))
first-err limit left (Some f) new Memory h = tt

-- no memory was found for it
empty-request : IsNoRequestLine []
empty-request name t v r = no-empty_request (method_of name) t v (name, r, refl)

pub first-lacks : (limit : ℕ) (old new : Option Feed) (held : List ℕ) → IfSome old (λ f. LacksMemory IsNoRequestLine limit f new held) → IfSome old (λ f. LacksMemoryAtStart limit f new held)
first-lacks limit None new held h = tt
first-lacks limit (Some f) new held (inl k) =
    let some : k.0 ≢ [] = λ e. k.3 (subst IsNoRequestLine (sym e) empty-request) in
    let same = line-kept (take limit f.bytes) k.0 k.1 k.2 some in
    inl (record { text = k.0; rest = k.1; line = subst (λ (x : List ℕ). Line x k.0 k.1) (sym same) k.2; good = k.3 })
first-lacks limit (Some f) new held (inr k) =
    let same = open-kept k.0 k.2 in
    let P : ℕ → Type 0 = λ n. HasNo line_feed (take n held) in
    inr (k.0, k.1, subst (HasNo line_feed) (sym same) k.2, λ e. (let none : k.0 ≡ [] = sym same ∙ e in let all : limit ≡ limit - length k.0 = omega (arith, ap length none) in subst P all (k.3 none)))

-- behind an empty line
crlf-twice : (bs : List ℕ) (o : Option Feed) → prepended (13 ∷ 10 ∷ []) (prepended bs o) ≡ prepended (13 ∷ 10 ∷ bs) o
crlf-twice bs None = refl
crlf-twice bs (Some g) = refl

crlf-front : (f a : Feed) → Some f ≡ Some (prepend (13 ∷ 10 ∷ []) a) → f ≡ prepend (13 ∷ 10 ∷ []) a
crlf-front f a e = cc

pub second-lacks : (limit mid : ℕ) (old at new : Option Feed) (held : List ℕ) → old ≡ prepended (13 ∷ 10 ∷ []) at → limit ≡ mid + 2 → IfSome at (λ f. LacksMemory IsNoRequestLine mid f new held) → IfSome old (λ f. LacksMemoryAtStart limit f new held)
second-lacks limit mid None at new held e l h = tt
second-lacks limit mid (Some f) None new held e l h = let no : ◌≡◌ {A = Option Feed} (Some f) None = e in cc
second-lacks limit mid (Some f) (Some a) new held e l h = by h
  where
    bytes : f.bytes ≡ 13 ∷ 10 ∷ a.bytes
    bytes = ap (λ (x : Feed). x.bytes) (crlf-front f a e)

    two : limit ≡ suc (suc mid)
    two = omega (arith, l)

    behind : behind_empty_line (take limit f.bytes) ≡ take mid a.bytes
    behind = ap (λ (x : List ℕ). behind_empty_line (take limit x)) bytes ∙ ap (λ (n : ℕ). behind_empty_line (take n (13 ∷ 10 ∷ a.bytes))) two

    by : LacksMemory IsNoRequestLine mid a new held → LacksMemoryAtStart limit f new held
    by (inl k) = inl (record { text = k.0; rest = k.1; line = subst (λ (x : List ℕ). Line x k.0 k.1) (sym behind) k.2; good = k.3 })
    by (inr k) =
        let P : ℕ → Type 0 = λ n. HasNo line_feed (take n held) in
        inr (13 ∷ 10 ∷ k.0, e ∙ ap (prepended (13 ∷ 10 ∷ [])) k.1 ∙ crlf-twice k.0 new, k.2, λ none. (let all : mid ≡ limit - suc (suc (length k.0)) = omega (arith, ap length none, l) in subst P all (k.3 none)))

-- nor for what stands behind a good request line
pub start-lacks : {T E : Type 0} (limit left : ℕ) (old mid new : Option Feed) (held : List ℕ) (start : Method × List ℕ × HTTPVersion) (r : Result T E) → ReadsStart limit left old mid (Ok start) → OnErr r (IfSome old (λ f. LacksMemoryAtStart limit f new held))
start-lacks limit left old mid new held start (Ok x) h = tt
start-lacks limit left None mid new held start (Err e) h = tt
start-lacks limit left (Some f) mid new held start (Err e) h = inl (record { text = h.1.text; rest = take left h.0; line = h.1.line; good = λ none. none h.1.reads.0 start.1 start.2 h.1.reads.1 })

-- AN EMPTY LINE stands in front of it
second-some : (limit mid left : ℕ) (f : Feed) (new : Option Feed) (rest : List ℕ) (r : Method × List ℕ × HTTPVersion) → Line (take limit f.bytes) [] (take mid rest) → IsSpent limit f.bytes mid rest
    → ReadsRequest mid left (feed_from f rest) new (Ok (Some r)) → ReadsStart limit left (Some f) new (Ok r)
second-some limit mid left f new rest r l spent h =
    let k = h.1 in (
      k.rest,
      record { text = h.0; line = subst (λ (x : List ℕ). Line x h.0 (take left k.rest)) (sym (empty-passed (take limit f.bytes) (take mid rest) l)) k.line; reads = h.2 },
      k.goes,
      omega (arith, spent, k.spent),
    )

second-err : (limit mid left : ℕ) (f : Feed) (new : Option Feed) (rest : List ℕ) (e : NoHead) → Line (take limit f.bytes) [] (take mid rest) → IsSpent limit f.bytes mid rest
    → ReadsRequest mid left (feed_from f rest) new (Err e) → ReadsStart limit left (Some f) new (Err e)
second-err limit mid left f new rest (Refused BadLine) l spent h = subst (BeginsWithBadLine IsNoRequestLine) (sym (empty-passed (take limit f.bytes) (take mid rest) l)) (weaker (take mid rest) h)
second-err limit mid left f new rest (Refused RequestLineTooLong) l spent h = (subst (HasNo line_feed) (sym (empty-passed (take limit f.bytes) (take mid rest) l)) h.0, omega (arith, spent, h.1))
second-err limit mid left f new rest (Refused HeaderFieldsTooLarge) l spent h = absurd h
second-err limit mid left f new rest (Refused TooManyFields) l spent h = absurd h
second-err limit mid left f new rest (Refused (Invalid x)) l spent h = absurd h
second-err limit mid left f new rest (Unfinished b) l spent h =
    let short : length f.bytes < limit = omega (arith, spent, h.0.1) in
    let all : take limit f.bytes ≡ f.bytes = take_all limit f.bytes (omega (arith, short)) in
    let seen : take mid rest ≡ rest = take_all mid rest (omega (arith, h.0.1)) in
    let behind : behind_empty_line (take limit f.bytes) ≡ rest = empty-passed (take limit f.bytes) (take mid rest) l ∙ seen in
    (subst (HasNo line_feed) (sym behind) h.0.0, short, h.1 ∙ ap (λ (x : List ℕ). not (length x == 0)) (sym behind ∙ ap behind_empty_line all))
second-err limit mid left f new rest Memory l spent h = tt

pub then-some : (limit mid left : ℕ) (old at new : Option Feed) (r : Method × List ℕ × HTTPVersion) → ReadsRequest limit mid old at (Ok None) → ReadsRequest mid left at new (Ok (Some r)) → ReadsStart limit left old new (Ok r)
then-some limit mid left None at new r k h = tt
then-some limit mid left (Some f) at new r k h = second-some limit mid left f new k.rest r k.line k.spent (subst (λ (x : Option Feed). ReadsRequest mid left x new (Ok (Some r))) k.goes h)

pub then-err : (limit mid left : ℕ) (old at new : Option Feed) (e : NoHead) → ReadsRequest limit mid old at (Ok None) → ReadsRequest mid left at new (Err e) → ReadsStart limit left old new (Err e)
then-err limit mid left None at new e k h = tt
then-err limit mid left (Some f) at new e k h = second-err limit mid left f new k.rest e k.line k.spent (subst (λ (x : Option Feed). ReadsRequest mid left x new (Err e)) k.goes h)

pub then-empty : (limit mid left : ℕ) (old at new : Option Feed) → ReadsRequest limit mid old at (Ok None) → ReadsRequest mid left at new (Ok None) → ReadsStart limit left old new (Err (Refused BadLine))
then-empty limit mid left None at new k h = tt
then-empty limit mid left (Some f) at new k h =
    let n = subst (λ (x : Option Feed). ReadsRequest mid left x new (Ok None)) k.goes h in
    subst (BeginsWithBadLine IsNoRequestLine) (sym (empty-passed (take limit f.bytes) (take mid k.rest) k.line)) (inr ([], take left n.rest, n.line, no-line))
  where
    no-line : IsNoRequestLine []
    no-line m t v r = by m (t ++ 32 ∷ r.version_text) r.joins
      where
        by : (m rest : List ℕ) → [] ≡ m ++ 32 ∷ rest → ⊥
        by [] rest e = cc
        by (x ∷ xs) rest e = cc

-- the source is cut off behind what was taken
pub cut-behind : {R : Type 0} (old mid new : SourceState R) → ((f : Feed) → old.feed ≡ Some f → (rest : List ℕ) × (mid.feed ≡ feed_from f rest)) → IsCutOff mid new → IsCutOff old new
cut-behind old mid new goes cut = record { over = cut.over; remains = λ f is. (let at = goes f is in cut.remains (record { bytes = at.0; stop = f.stop }) at.1) }

pub empty-goes : (limit left : ℕ) (old new : Option Feed) → ReadsRequest limit left old new (Ok None) → (f : Feed) → old ≡ Some f → (rest : List ℕ) × (new ≡ feed_from f rest)
empty-goes limit left old new h f is = let k = subst (λ (x : Option Feed). ReadsRequest limit left x new (Ok None)) is h in (k.rest, k.goes)

pub start-goes : (limit left : ℕ) (old new : Option Feed) (r : Method × List ℕ × HTTPVersion) → ReadsStart limit left old new (Ok r) → (f : Feed) → old ≡ Some f → (rest : List ℕ) × (new ≡ feed_from f rest)
start-goes limit left old new r h f is = let k = subst (λ (x : Option Feed). ReadsStart limit left x new (Ok r)) is h in (k.0, k.2)

pub fields-go : (limit left : ℕ) (old new : Option Feed) (hs : List Header) → HasReadFields limit left old new hs → (f : Feed) → old ≡ Some f → (rest : List ℕ) × (new ≡ feed_from f rest)
fields-go limit left old new hs h f is = let k = subst (λ (x : Option Feed). HasReadFields limit left x new hs) is h in (k.0, k.2)

-- THE HEADERS
pub fields-none : (limit : ℕ) (old : Option Feed) → HasReadFields limit limit old old []
fields-none limit None = tt
fields-none limit (Some f) = (f.bytes, refl, refl, refl)

pub fields-more : (limit mid left : ℕ) (old at new : Option Feed) (hs : List Header) (h : Header) → HasReadFields limit mid old at hs → ReadsField mid left at new (Ok (Some h)) → HasReadFields limit left old new (hs ++ h ∷ [])
fields-more limit mid left None at new hs h k r = tt
fields-more limit mid left (Some f) at new hs h k r =
    let n = subst (λ (x : Option Feed). ReadsField mid left x new (Ok (Some h))) k.2 r in
    let t = n.1 in
    (t.rest, more-fields (take limit f.bytes) hs h (take mid k.0) n.0 (take left t.rest) k.1 t.line n.2, t.goes, omega (arith, k.3, t.spent))

pub not-empty : {G : Type 0} (hs : List Header) (h : Header) → hs ++ h ∷ [] ≡ [] → G
not-empty [] h e = cc
not-empty (g ∷ gs) h e = cc

-- memory is wanted for the first of them, or for the first line if there is none
pub fields-lack-more : (limit left : ℕ) (old mid new : Option Feed) (held : List ℕ) (hs : List Header) (h : Header) → HasReadFields limit left old mid (hs ++ h ∷ []) → IfSome old (λ f. LacksMemory IsNoFieldLine limit f new held)
fields-lack-more limit left None mid new held hs h k = tt
fields-lack-more limit left (Some f) mid new held [] h k = let b = k.1 in inl (b.0, b.1, b.2, is-field-line b.0 h b.3)
fields-lack-more limit left (Some f) mid new held (g ∷ gs) h k = let b = k.1 in inl (b.0, b.1, b.2, is-field-line b.0 g b.3)

pub fields-lack : (limit left : ℕ) (old mid new : Option Feed) (held : List ℕ) (hs : List Header) → HasReadFields limit left old mid hs → (hs ≡ [] → (left ≡ limit) × (mid ≡ old))
    → IfSome mid (λ f. LacksMemory IsNoFieldLine left f new held) → IfSome old (λ f. LacksMemory IsNoFieldLine limit f new held)
fields-lack limit left None mid new held hs k first h = tt
fields-lack limit left (Some f) mid new held [] k first h =
    let P : ℕ → Option Feed → Type 0 = λ n o. IfSome o (λ x. LacksMemory IsNoFieldLine n x new held) in
    let same = first refl in
    subst (λ n. P n (Some f)) same.0 (subst (P left) same.1 h)
fields-lack limit left (Some f) mid new held (g ∷ gs) k first h = let b = k.1 in inl (b.0, b.1, b.2, is-field-line b.0 g b.3)

pub fields-end : (limit mid left : ℕ) (old at new : Option Feed) (hs : Vec Header) → HasReadFields limit mid old at hs.items → length hs.items ≤ MOST_HEADERS → ReadsField mid left at new (Ok None) → ReadsFields limit left old new (Ok hs)
fields-end limit mid left None at new hs k few r = tt
fields-end limit mid left (Some f) at new hs k few r =
    let t = subst (λ (x : Option Feed). ReadsField mid left x new (Ok None)) k.2 r in
    (t.rest, (take mid k.0, k.1, few, t.line), t.goes, omega (arith, k.3, t.spent))

fields-err-at : (limit mid left : ℕ) (f : Feed) (new : Option Feed) (hs : List Header) (rest : List ℕ) (e : NoHead) → BeginsWithFieldLines (take limit f.bytes) hs (take mid rest) → length hs ≤ MOST_HEADERS → IsSpent limit f.bytes mid rest
    → ReadsField mid left (feed_from f rest) new (Err e) → ReadsFields limit left (Some f) new (Err e)
fields-err-at limit mid left f new hs rest (Refused BadLine) b few spent h = (hs, take mid rest, b, few, h)
fields-err-at limit mid left f new hs rest (Refused HeaderFieldsTooLarge) b few spent h = ((hs, take mid rest, b, few, h.0), omega (arith, spent, h.1))
fields-err-at limit mid left f new hs rest (Refused RequestLineTooLong) b few spent h = absurd h
fields-err-at limit mid left f new hs rest (Refused TooManyFields) b few spent h = absurd h
fields-err-at limit mid left f new hs rest (Refused (Invalid x)) b few spent h = absurd h
fields-err-at limit mid left f new hs rest (Unfinished begun) b few spent h =
    let all : take mid rest ≡ rest = take_all mid rest (omega (arith, h.0.1)) in
    ((hs, take mid rest, b, few, subst (HasNo line_feed) (sym all) h.0.0), omega (arith, spent, h.0.1), h.1)
fields-err-at limit mid left f new hs rest Memory b few spent h = tt

pub fields-err : (limit mid left : ℕ) (old at new : Option Feed) (hs : List Header) (e : NoHead) → HasReadFields limit mid old at hs → length hs ≤ MOST_HEADERS → ReadsField mid left at new (Err e) → ReadsFields limit left old new (Err e)
fields-err limit mid left None at new hs e k few r = tt
fields-err limit mid left (Some f) at new hs e k few r = fields-err-at limit mid left f new hs k.0 e k.1 few k.3 (subst (λ (x : Option Feed). ReadsField mid left x new (Err e)) k.2 r)

-- as many headers as may be, and one more
pub fields-many : (limit left : ℕ) (old new : Option Feed) (hs : List Header) (h : Header) → HasReadFields limit left old new (hs ++ h ∷ []) → length hs ≡ MOST_HEADERS → ReadsFields limit left old new (Err (Refused TooManyFields))
fields-many limit left None new hs h k full = tt
fields-many limit left (Some f) new hs h k full = (hs ++ h ∷ [], take left k.0, k.1, one-more hs h ∙ ap (λ (n : ℕ). n + 1) full)

pub fields-memory : (limit left : ℕ) (old new : Option Feed) → ReadsFields limit left old new (Err Memory)
fields-memory limit left None new = tt
fields-memory limit left (Some f) new = tt

-- A WHOLE HEAD, or why there is none
ok-read : (r x : StandardRead) → ◌≡◌ {A = Result StandardRead AllocError} (Ok r) (Ok x) → x ≡ r
ok-read r x e = cc

pub reads-start_err : (limit left : ℕ) (old new : Option Feed) (e : NoHead) (r : StandardRead) → ReadsStart limit left old new (Err e) → IsWithoutHead e (Ok r) → ReadsFrom limit old new r
reads-start_err limit left None new e r h k = tt
reads-start_err limit left (Some f) new (Refused BadLine) r h k = subst (ReadsFrom limit (Some f) new) (ok-read r (read.Refused BadLine) k) (inl h, tt)
reads-start_err limit left (Some f) new (Refused RequestLineTooLong) r h k = subst (ReadsFrom limit (Some f) new) (ok-read r (read.Refused RequestLineTooLong) k) ((h.1, h.0), tt)
reads-start_err limit left (Some f) new (Refused HeaderFieldsTooLarge) r h k = absurd h
reads-start_err limit left (Some f) new (Refused TooManyFields) r h k = absurd h
reads-start_err limit left (Some f) new (Refused (Invalid x)) r h k = absurd h
reads-start_err limit left (Some f) new (Unfinished b) r h k =
    let all : take limit f.bytes ≡ f.bytes = take_all limit f.bytes (omega (arith, h.1)) in
    subst (ReadsFrom limit (Some f) new) (ok-read r (read.Unfinished b) k) ((h.1, inl (subst HasOpenRequestLine all h.0), h.2), tt)
reads-start_err limit left (Some f) new Memory r h k = let no : ◌≡◌ {A = Bool} false true = k in cc

-- a byte of a head came with its request line
begun-request : (bytes : List ℕ) (m : Method) (t : List ℕ) (v : HTTPVersion) (fields : List ℕ) → BeginsWithRequestLine bytes m t v fields → is_begun bytes ≡ true
begun-request bytes m t v fields r = by (behind_empty_line bytes) r.text (r.line.joins)
  where
    by : (w text : List ℕ) → w ≡ text ++ (carriage_return ∷ line_feed ∷ fields) → not (length w == 0) ≡ true
    by [] [] e = cc
    by [] (x ∷ xs) e = cc
    by (b ∷ bs) text e = grind arith

fields-err-from : (limit mid left : ℕ) (f : Feed) (new : Option Feed) (start : Method × List ℕ × HTTPVersion) (rest : List ℕ) (e : NoHead) (r : StandardRead) → BeginsWithRequestLine (take limit f.bytes) start.0 start.1 start.2 (take mid rest) → IsSpent limit f.bytes mid rest
    → ReadsFields mid left (feed_from f rest) new (Err e) → IsWithoutHead e (Ok r) → ReadsFrom limit (Some f) new r
fields-err-from limit mid left f new start rest (Refused BadLine) r request spent h k =
    subst (ReadsFrom limit (Some f) new) (ok-read r (read.Refused BadLine) k) (fields-stop (take limit f.bytes) start.0 start.1 start.2 (take mid rest) stop.Bad request h, tt)
fields-err-from limit mid left f new start rest (Refused HeaderFieldsTooLarge) r request spent h k =
    subst (ReadsFrom limit (Some f) new) (ok-read r (read.Refused HeaderFieldsTooLarge) k) ((omega (arith, spent, h.1), fields-stop (take limit f.bytes) start.0 start.1 start.2 (take mid rest) stop.OpenField request h.0), tt)
fields-err-from limit mid left f new start rest (Refused TooManyFields) r request spent h k =
    subst (ReadsFrom limit (Some f) new) (ok-read r (read.Refused TooManyFields) k) (fields-stop (take limit f.bytes) start.0 start.1 start.2 (take mid rest) stop.TooMany request h, tt)
fields-err-from limit mid left f new start rest (Refused RequestLineTooLong) r request spent h k = absurd h
fields-err-from limit mid left f new start rest (Refused (Invalid x)) r request spent h k = absurd h
fields-err-from limit mid left f new start rest (Unfinished b) r request spent h k =
    let short : length f.bytes < limit = omega (arith, spent, h.1) in
    let all : take limit f.bytes ≡ f.bytes = take_all limit f.bytes (omega (arith, short)) in
    let open_ = subst HasOpenField all (fields-stop (take limit f.bytes) start.0 start.1 start.2 (take mid rest) stop.OpenField request h.0) in
    let begun = begun-request f.bytes start.0 start.1 start.2 (take mid rest) (subst (λ (x : List ℕ). BeginsWithRequestLine x start.0 start.1 start.2 (take mid rest)) all request) in
    subst (ReadsFrom limit (Some f) new) (ok-read r (read.Unfinished b) k) ((short, inr open_, h.2 ∙ sym begun), tt)
fields-err-from limit mid left f new start rest Memory r request spent h k = let no : ◌≡◌ {A = Bool} false true = k in cc

reads-fields_err : (limit mid left : ℕ) (old at new : Option Feed) (start : Method × List ℕ × HTTPVersion) (e : NoHead) (r : StandardRead) → ReadsStart limit mid old at (Ok start) → ReadsFields mid left at new (Err e) → IsWithoutHead e (Ok r) → ReadsFrom limit old new r
reads-fields_err limit mid left None at new start e r s h k = tt
reads-fields_err limit mid left (Some f) at new start e r s h k =
    fields-err-from limit mid left f new start s.0 e r s.1 s.3 (subst (λ (x : Option Feed). ReadsFields mid left x new (Err e)) s.2 h) k

pub fields-err-read : (limit mid left : ℕ) (old at new : Option Feed) (start : Method × List ℕ × HTTPVersion) (e : NoHead) (r : Result StandardRead AllocError) → ReadsStart limit mid old at (Ok start) → ReadsFields mid left at new (Err e) → IsWithoutHead e r → IfOk r (λ x. ReadsFrom limit old new x)
fields-err-read limit mid left old at new start e (Ok r) s h k = reads-fields_err limit mid left old at new start e r s h k
fields-err-read limit mid left old at new start e (Err x) s h k = tt

-- what was taken of the bytes
left-behind : (f : Feed) (new : Option Feed) (rest : List ℕ) (n : ℕ) → GoesOn (Some f) new → new ≡ feed_from f rest → n + length rest ≡ length f.bytes → new ≡ feed_from f (drop n f.bytes)
left-behind f new rest n goes is long =
    let there = subst (GoesOn (Some f)) is goes in
    let gone : length there.gone ≡ n = omega (arith, ap length there.joins ∙ length-append there.gone rest, long) in
    let behind : drop n f.bytes ≡ rest = ap (λ (k : ℕ). drop k f.bytes) (sym gone) ∙ ap (drop (length there.gone)) there.joins ∙ drop-append_seam there.gone rest in
    is ∙ ap (feed_from f) (sym behind)

head-length : (limit left : ℕ) (bytes rest : List ℕ) → left ≤ limit → IsSpent limit bytes left rest → limit - left + length (take left rest) ≡ length (take limit bytes)
head-length limit left bytes rest le spent = grind (arith, le, spent, length-take)

pub reads-whole_head : (limit mid left : ℕ) (old at new : Option Feed) (start : Method × List ℕ × HTTPVersion) (headers : Vec Header) (h : StandardHead) → left ≤ limit → GoesOn old new → ReadsStart limit mid old at (Ok start) → ReadsFields mid left at new (Ok headers)
    → message_of h ≡ record { method = start.0; path = start.1; version = start.2; headers = headers.items } → h.length ≡ limit - left → Validates h.version h.method h.headers.items (Ok h.summary) → ReadsFrom limit old new (read.Whole h)
reads-whole_head limit mid left None at new start headers h le goes s k is long validated = tt
reads-whole_head limit mid left (Some f) at new start headers h le goes s k is long validated =
    let n = subst (λ (x : Option Feed). ReadsFields mid left x new (Ok headers)) s.2 k in
    let spent : IsSpent limit f.bytes left n.0 = omega (arith, s.3, n.3) in
    let head = whole-head (take limit f.bytes) start.0 start.1 start.2 (take mid s.0) headers.items (take left n.0) s.1 n.1 in
    let count : h.length + length (take left n.0) ≡ length (take limit f.bytes) = ap (λ (x : ℕ). x + length (take left n.0)) long ∙ head-length limit left f.bytes n.0 le spent in (
      (take left n.0, subst (λ (m : Message). BeginsWithHead (take limit f.bytes) m (take left n.0)) (sym is) head, count, validated),
      left-behind f new n.0 h.length goes n.2 (omega (arith, spent, long, le)),
    )

pub reads-refused_head : (limit mid left : ℕ) (old at new : Option Feed) (start : Method × List ℕ × HTTPVersion) (headers : Vec Header) (refusal : HeadError) → ReadsStart limit mid old at (Ok start) → ReadsFields mid left at new (Ok headers)
    → Validates start.2 start.0 headers.items (Err refusal) → ReadsFrom limit old new (read.Refused (Invalid refusal))
reads-refused_head limit mid left None at new start headers refusal s k validated = tt
reads-refused_head limit mid left (Some f) at new start headers refusal s k validated =
    let n = subst (λ (x : Option Feed). ReadsFields mid left x new (Ok headers)) s.2 k in
    let head = whole-head (take limit f.bytes) start.0 start.1 start.2 (take mid s.0) headers.items (take left n.0) s.1 n.1 in
    ((record { method = start.0; path = start.1; version = start.2; headers = headers.items }, take left n.0, head, validated), tt)
