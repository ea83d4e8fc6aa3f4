-- From lines read to heads read.
use Rattle.std.proofs.Common.{◌≡◌, refl, sym, ap, ◌∙◌, subst, ℕ, ◌+◌, List, [], ◌∷◌, ◌++◌, length, length-append, Option, Some, None, Result, Ok, Err, inl, inr, arith}
use Rattle.tiny_http_head.specs.declared.common.Header.{Header}
use Rattle.tiny_http_io.specs.Device.{Feed}
use Rattle.tiny_http_text.specs.Bytes.{AreAscii}
use Rattle.tiny_http_text.specs.Lines.{Line}
use Rattle.tiny_http_head.specs.Heads.{BeginsWithHeaderLines, BeginsWithRequestHead, HeaderLine, IsRequestLine, IsFieldOrEnd, FaultyLine, FaultyHead, GrammarFault, Cut, NotAscii, Malformed}
use Rattle.tiny_http_head.proofs.HeadsLemmas.{request-line-is, request-line-one, header-line-is, header-line-one}
use Rattle.tiny_http_head.specs.declared.common.Method.{Method}
use Rattle.tiny_http_head.specs.declared.common.HTTPVersion.{HTTPVersion}
use Rattle.tiny_http_open_request.specs.declared.heads.MessageHead.{MessageHead}
use Rattle.tiny_http_io.specs.declared.source.LineFault.{LineFault}
use Rattle.tiny_http_io.specs.declared.source.LineFault.TheVariants as linefault
use Rattle.tiny_http_open_request.specs.declared.heads.HeadFault.{HeadFault}
use Rattle.tiny_http_open_request.specs.declared.heads.HeadFault.TheVariants as fault
use Rattle.tiny_http_io.specs.Source.{ReadsWithin, TakesLine, IsWithin, IsShort, IsTooLong, seen_within}
use Rattle.tiny_http_open_request.specs.Pipeline.{BeginsWithin, IsUnfinishedHead, IsTooLarge}
use Rattle.tiny_http_open_request.specs.HeadReads.{IsSpent, left_after, StartIn, FieldIn, HasNoLine, ReadsStart, HasReadFields, ReadsField, ReadsFields, ReadsMessage, IsFaulty, IsFaultyHead, head_fault, message_of}
use Rattle.tiny_http_open_request.proofs.WithinLemmas.{head-text}
use Rattle.tiny_http_open_request.proofs.SeenLemmas.{spent-line, spent-more, spent-none, seen-line, seen-start, seen-headers}

-- why there is no line
pub no-line : (left : Option ℕ) (o p : Option Feed) (e : LineFault) → (e ≡ linefault.NotAscii → ⊥) → ReadsWithin left o p (Err e) → HasNoLine left o (head_fault e)
no-line left None p e ne h = tt
no-line left (Some f) p linefault.NotAscii ne h = absurd (ne refl)
no-line left (Some f) p linefault.TooLong ne h = h.0
no-line left (Some f) p linefault.Memory ne h = tt
no-line left (Some f) p linefault.End ne h = (h.0.0, h.1)
no-line left (Some f) p linefault.TimedOut ne h = (h.0.0, h.1)
no-line left (Some f) p (linefault.Broken kind) ne h = (h.0.0, h.1)

no-line-faulty : (left : Option ℕ) (IsGood : List ℕ → Type 0) (f : Feed) (e : HeadFault) → HasNoLine left (Some f) e → IsFaulty left IsGood f.bytes e
no-line-faulty left IsGood f fault.Cut h = h
no-line-faulty left IsGood f fault.TooLarge h = h
no-line-faulty left IsGood f fault.NotAscii h = absurd h
no-line-faulty left IsGood f fault.Malformed h = absurd h
no-line-faulty left IsGood f fault.Memory h = tt

pub start-err : (limit left : Option ℕ) (o p : Option Feed) (e : HeadFault) → HasNoLine limit o e → ReadsStart limit left o p (Err e)
start-err limit left None p e h = tt
start-err limit left (Some f) p e h = no-line-faulty limit IsRequestLine f e h

pub field-err : (limit left : Option ℕ) (o p : Option Feed) (e : HeadFault) → HasNoLine limit o e → ReadsField limit left o p (Err e)
field-err limit left None p e h = tt
field-err limit left (Some f) p e h = no-line-faulty limit IsFieldOrEnd f e h

-- a line that was taken off, and what its text is read as
pub start-taken : (limit left : Option ℕ) (o p : Option Feed) (text : List ℕ) (r : Result (Method × List ℕ × HTTPVersion) HeadFault) → TakesLine o p text → IsWithin limit (length text) → left ≡ left_after (length text) limit → StartIn text r
    → ReadsStart limit left o p r
start-taken limit left None p text r h within e k = tt
start-taken limit left (Some f) p text (Ok r) h within e k = (h.0, (text, h.1, k.0, request-line-is text r k.1), h.2, spent-line limit left f.bytes text h.0 h.1 within e)
start-taken limit left (Some f) p text (Err fault.NotAscii) h within e k = (text, seen_within left h.0, seen-line limit left f.bytes text h.0 h.1 (spent-line limit left f.bytes text h.0 h.1 within e), k)
start-taken limit left (Some f) p text (Err fault.Malformed) h within e k =
    (text, seen_within left h.0, seen-line limit left f.bytes text h.0 h.1 (spent-line limit left f.bytes text h.0 h.1 within e), k.0, λ good. none-some (sym k.1 ∙ request-line-one text good.0 good.1 good.2 good.3))
  where
    none-some : {r : Method × List ℕ × HTTPVersion} → ◌≡◌ {A = Option (Method × List ℕ × HTTPVersion)} None (Some r) → ⊥
    none-some x = cc
start-taken limit left (Some f) p text (Err fault.Cut) h within e k = absurd k
start-taken limit left (Some f) p text (Err fault.TooLarge) h within e k = absurd k
start-taken limit left (Some f) p text (Err fault.Memory) h within e k = tt

pub field-taken : (limit left : Option ℕ) (o p : Option Feed) (text : List ℕ) (r : Result (Option Header) HeadFault) → TakesLine o p text → IsWithin limit (length text) → left ≡ left_after (length text) limit → FieldIn text r
    → ReadsField limit left o p r
field-taken limit left None p text r h within e k = tt
field-taken limit left (Some f) p text (Ok None) h within e k =
    let L : List ℕ → Type 0 = λ t. Line f.bytes t h.0 in
    (h.0, subst L k h.1, h.2, spent-line limit left f.bytes text h.0 h.1 within e)
field-taken limit left (Some f) p text (Ok (Some x)) h within e k = (text, h.0, h.1, k.0, header-line-is text x k.1, h.2, spent-line limit left f.bytes text h.0 h.1 within e)
field-taken limit left (Some f) p text (Err fault.NotAscii) h within e k = (text, seen_within left h.0, seen-line limit left f.bytes text h.0 h.1 (spent-line limit left f.bytes text h.0 h.1 within e), k)
field-taken limit left (Some f) p text (Err fault.Malformed) h within e k =
    (text, seen_within left h.0, seen-line limit left f.bytes text h.0 h.1 (spent-line limit left f.bytes text h.0 h.1 within e), k.0, no-field)
  where
    none-some : {r : Header} → ◌≡◌ {A = Option Header} None (Some r) → ⊥
    none-some x = cc

    no-field : IsFieldOrEnd text → ⊥
    no-field (inl empty) = k.1 empty
    no-field (inr good) = none-some (sym k.2 ∙ header-line-one text good.0 good.1 good.2)
field-taken limit left (Some f) p text (Err fault.Cut) h within e k = absurd k
field-taken limit left (Some f) p text (Err fault.TooLarge) h within e k = absurd k
field-taken limit left (Some f) p text (Err fault.Memory) h within e k = tt

Fields-push : (bytes : List ℕ) (hs : List Header) (mid text next : List ℕ) (h : Header) → BeginsWithHeaderLines bytes hs mid → Line mid text next → AreAscii text → HeaderLine text h.field h.value → BeginsWithHeaderLines bytes (hs ++ h ∷ []) next
Fields-push bytes [] mid text next h here l a k =
    let P : List ℕ → Type 0 = λ b. Line b text next in
    (text, next, subst P here l, a, k, refl)
Fields-push bytes (x ∷ hs) mid text next h f l a k = (f.0, f.1, f.2, f.3, f.4, Fields-push f.1 hs mid text next h f.5 l a k)

pub fields-none : (limit : Option ℕ) (o : Option Feed) → HasReadFields limit limit o o []
fields-none limit None = tt
fields-none limit (Some f) = (f.bytes, refl, refl, spent-none limit f.bytes)

pub fields-more : (limit mid left : Option ℕ) (o p q : Option Feed) (hs : List Header) (h : Header) → HasReadFields limit mid o p hs → ReadsField mid left p q (Ok (Some h)) → HasReadFields limit left o q (hs ++ h ∷ [])
fields-more limit mid left None p q hs h r k = tt
fields-more limit mid left (Some f) p q hs h r k =
    let P : Option Feed → Type 0 = λ x. ReadsField mid left x q (Ok (Some h)) in
    let n = subst P r.2 k in
    (n.1, Fields-push f.bytes hs r.0 n.0 n.1 h r.1 n.2 n.3 n.4, n.5, spent-more limit mid left f.bytes r.0 n.1 r.3 n.6)

pub fields-end : {T : Type 0} (items : T → List Header) (limit mid left : Option ℕ) (o p q : Option Feed) (hs : T) → HasReadFields limit mid o p (items hs) → ReadsField mid left p q (Ok None) → ReadsFields items limit left o q (Ok hs)
fields-end items limit mid left None p q hs r k = tt
fields-end items limit mid left (Some f) p q hs r k =
    let P : Option Feed → Type 0 = λ x. ReadsField mid left x q (Ok None) in
    let n = subst P r.2 k in
    (r.0, n.0, r.1, n.1, n.2, spent-more limit mid left f.bytes r.0 n.0 r.3 n.3)

pub fields-err : {T : Type 0} (items : T → List Header) (limit mid left : Option ℕ) (o p q : Option Feed) (hs : List Header) (e : HeadFault) → HasReadFields limit mid o p hs → ReadsField mid left p q (Err e) → ReadsFields items limit left o q (Err e)
fields-err items limit mid left None p q hs e r k = tt
fields-err items limit mid left (Some f) p q hs e r k =
    let P : Option Feed → Type 0 = λ x. ReadsField mid left x q (Err e) in
    (hs, r.0, mid, r.1, r.3, subst P r.2 k)

pub fields-memory : {T : Type 0} (items : T → List Header) (limit mid left : Option ℕ) (o p q : Option Feed) (hs : List Header) → HasReadFields limit mid o p hs → ReadsFields items limit left o q (Err fault.Memory)
fields-memory items limit mid left None p q hs r = tt
fields-memory items limit mid left (Some f) p q hs r = (hs, r.0, mid, r.1, r.3, tt)

-- a head that keeps the limit
within-limit : (limit left : Option ℕ) (f : Feed) (m : MessageHead) (rest : List ℕ) → BeginsWithRequestHead f.bytes (message_of m) rest → IsSpent limit f.bytes left rest → BeginsWithin limit f.bytes (message_of m) rest
within-limit None left f m rest h spent = h
within-limit (Some limit) None f m rest h spent = absurd spent
within-limit (Some limit) (Some left) f m rest h spent =
    let text = head-text f.bytes (message_of m) rest h in
    let long : length f.bytes ≡ length text.0 + length rest = ap length text.1 ∙ length-append text.0 rest in
    (h, text.0, text.1, omega (arith, spent, long))

pub message-read : {T : Type 0} (items : T → List Header) (limit mid left : Option ℕ) (o p q : Option Feed) (hs : T) (m : MessageHead) → m.headers.items ≡ items hs → ReadsStart limit mid o p (Ok (m.method, m.path, m.version)) → ReadsFields items mid left p q (Ok hs)
    → ReadsMessage limit o q (Ok m)
message-read items limit mid left None p q hs m e s k = tt
message-read items limit mid left (Some f) p q hs m e s k =
    let P : Option Feed → Type 0 = λ x. ReadsFields items mid left x q (Ok hs) in
    let n = subst P s.2 k in
    let Q : List Header → Type 0 = λ x. BeginsWithHeaderLines s.0 x n.0 in
    (n.1, within-limit limit left f m n.1 (s.0, n.0, s.1, subst Q (sym e) n.2, n.3) (spent-more limit mid left f.bytes s.0 n.1 s.3 n.5), n.4)

-- a request line that is faulty
cut-start : (limit : Option ℕ) (bytes : List ℕ) → FaultyLine IsRequestLine bytes Cut → IsShort limit bytes → IsUnfinishedHead limit bytes None
cut-start None bytes h k = h
cut-start (Some limit) bytes h k = (h, k)

large-start : (limit : Option ℕ) (bytes : List ℕ) → IsTooLong limit bytes → IsTooLarge limit bytes None
large-start None bytes h = absurd h
large-start (Some limit) bytes h = h

pub message-start_err : (limit left : Option ℕ) (o p : Option Feed) (e : HeadFault) → ReadsStart limit left o p (Err e) → ReadsMessage limit o p (Err (None, e))
message-start_err limit left None p e h = tt
message-start_err limit left (Some f) p fault.Cut h = cut-start limit f.bytes h.0 h.1
message-start_err limit left (Some f) p fault.TooLarge h = large-start limit f.bytes h
message-start_err limit left (Some f) p fault.NotAscii h = h
message-start_err limit left (Some f) p fault.Malformed h = h
message-start_err limit left (Some f) p fault.Memory h = tt

-- a later line that is faulty: what stands in front of it is seen as it is
cut-later : (limit left : Option ℕ) (bytes : List ℕ) (v : HTTPVersion) (rest : List ℕ) → IsSpent limit bytes left rest → FaultyHead bytes (Some v) Cut → IsShort left rest → IsUnfinishedHead limit bytes (Some v)
cut-later None None bytes v rest spent h k = h
cut-later (Some limit) (Some left) bytes v rest spent h k = (h, omega (arith, spent, k))
cut-later None (Some left) bytes v rest spent h k = absurd spent
cut-later (Some limit) None bytes v rest spent h k = absurd spent

large-later : (limit left : Option ℕ) (bytes : List ℕ) (v : HTTPVersion) (rest : List ℕ) → IsSpent limit bytes left rest → FaultyHead (seen_within limit bytes) (Some v) Cut → IsTooLong left rest → IsTooLarge limit bytes (Some v)
large-later None None bytes v rest spent h k = absurd k
large-later (Some limit) (Some left) bytes v rest spent h k = (omega (arith, spent, k.0), h)
large-later None (Some left) bytes v rest spent h k = absurd spent
large-later (Some limit) None bytes v rest spent h k = absurd spent

unfinished-seen : (left : Option ℕ) (rest : List ℕ) → IsTooLong left rest → FaultyLine IsFieldOrEnd (seen_within left rest) Cut
unfinished-seen None rest h = absurd h
unfinished-seen (Some left) rest h = h.1

pub message-fields_err : {T : Type 0} (items : T → List Header) (limit mid left : Option ℕ) (o p q : Option Feed) (method : Method) (path : List ℕ) (v : HTTPVersion) (e : HeadFault)
    → ReadsStart limit mid o p (Ok (method, path, v)) → ReadsFields items mid left p q (Err e) → ReadsMessage limit o q (Err (Some v, e))
message-fields_err items limit mid left None p q method path v e s k = tt
message-fields_err items limit mid left (Some f) p q method path v e s k =
    let P : Option Feed → Type 0 = λ x. ReadsFields items mid left x q (Err e) in
    let n = subst P s.2 k in
    let spent = spent-more limit mid n.2 f.bytes s.0 n.1 s.3 n.4 in
    faulty n.0 n.1 n.2 n.3 n.4 spent e n.5
  where
    seen : (hs : List Header) (rest : List ℕ) (now : Option ℕ) → BeginsWithHeaderLines s.0 hs rest → IsSpent mid s.0 now rest → (g : GrammarFault) → FaultyLine IsFieldOrEnd (seen_within now rest) g → FaultyHead (seen_within limit f.bytes) (Some v) g
    seen hs rest now lines spent g h =
        (method, path, seen_within mid s.0, seen-start limit mid f.bytes method path v s.0 s.1 s.3, hs, seen_within now rest, seen-headers mid now s.0 hs rest lines spent, h)

    faulty : (hs : List Header) (rest : List ℕ) (now : Option ℕ) → BeginsWithHeaderLines s.0 hs rest → IsSpent mid s.0 now rest → IsSpent limit f.bytes now rest → (e : HeadFault) → IsFaulty now IsFieldOrEnd rest e → IsFaultyHead limit f.bytes (Some v) e
    faulty hs rest now lines spent all fault.Cut h = cut-later limit now f.bytes v rest all (method, path, s.0, s.1, hs, rest, lines, h.0) h.1
    faulty hs rest now lines spent all fault.TooLarge h = large-later limit now f.bytes v rest all (seen hs rest now lines spent Cut (unfinished-seen now rest h)) h
    faulty hs rest now lines spent all fault.NotAscii h = seen hs rest now lines spent NotAscii h
    faulty hs rest now lines spent all fault.Malformed h = seen hs rest now lines spent Malformed h
    faulty hs rest now lines spent all fault.Memory h = tt
