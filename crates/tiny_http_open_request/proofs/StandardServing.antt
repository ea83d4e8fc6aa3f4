-- From a head that is read by the standard to the item that stands there.
use Rattle.std.proofs.Common.{◌≡◌, refl, sym, ap, ◌∙◌, subst, ℕ, suc, ◌+◌, ◌≤◌, Bool, true, false, not, inl, inr, List, [], ◌∷◌, ◌++◌, length, drop, append_assoc, length-append, take_all, Option, Some, None, Result, Ok, Err, arith}
use Rattle.std.specs.Prelude.{◌&&◌, ◌==◌, ◌⊎◌, MatchBool, IfSome, IsSome, if◌then◌else◌}
use Rattle.std.specs.declared.alloc.AllocError.{AllocError}
use Rattle.std.proofs.lemmas.Bool.{lt-ltb, le-ltb}
use Rattle.std.proofs.lemmas.List.{take-append-drop}
use Rattle.std.proofs.Math.Seq.{drop-append_seam}
use Rattle.httpdate.specs.declared.date.HttpDate.{HttpDate}
use Rattle.tiny_http_io.specs.declared.device.Stop.{Stop}
use Rattle.tiny_http_head.specs.declared.common.HTTPVersion.{HTTPVersion}
use Rattle.tiny_http_head.specs.declared.common.Header.{Header}
use Rattle.tiny_http_head.specs.declared.common.Method.{Method}
use Rattle.tiny_http_io.specs.Device.{Feed, StopsBy}
use Rattle.tiny_http_head.specs.Heads.{Message, version, is_too_new}
use Rattle.tiny_http_io.specs.Source.{SourceState}
use Rattle.tiny_http_io.specs.ToCome.{HasNoByte}
use Rattle.tiny_http_io.specs.declared.source.InputState.TheVariants as at
use Rattle.tiny_http_standard_head.specs.declared.heads.StandardHead.{StandardHead}
use Rattle.tiny_http_standard_head.specs.declared.heads.StandardFault.{StandardFault}
use Rattle.tiny_http_standard_head.specs.declared.heads.StandardFault.TheVariants as fault
use Rattle.tiny_http_standard_head.specs.declared.heads.StandardRead.TheVariants as standard
use Rattle.tiny_http_standard_head.specs.declared.validation.HeadError.TheVariants as validated
use Rattle.tiny_http_standard_head.specs.Validation.{is_1_0, Validates}
use Rattle.tiny_http_standard_head.specs.Heads.{Line, behind_empty_line, BeginsWithFieldLines, BeginsWithHead, HasOpenRequestLine, HasOpenField, is_begun, status_of, message_of, Reads, ReadWhole, ReadBad, ReadTooMany, ReadOpen}
use Rattle.tiny_http_standard_head.specs.SourceHeads.{ReadsFrom}
use Rattle.tiny_http_standard_head.proofs.HeadsLemmas.{line-shorter}
use Rattle.tiny_http_body.specs.declared.framing.TheConstants.{STANDARD_HEAD}
use Rattle.tiny_http_body.specs.declared.framing.Profile.TheVariants.{Standard}
use Rattle.tiny_http_body.specs.declared.framing.Framing.{Framing}
use Rattle.tiny_http_body.specs.declared.body.UnreadBody.{UnreadBody}
use Rattle.tiny_http_open_request.specs.declared.exchange.Head.{Head}
use Rattle.tiny_http_open_request.specs.declared.exchange.Exchange.{Exchange}
use Rattle.tiny_http_open_request.specs.declared.exchange.HeadRead.{HeadRead}
use Rattle.tiny_http_open_request.specs.declared.exchange.HeadRead.TheVariants as read
use Rattle.tiny_http_open_request.specs.OpenRequest.{KeepsHead}
use Rattle.tiny_http_open_request.specs.Pipeline.{by_the_standard, Refusal, BadRequest, RequestTimeout, ExpectationFailed, HeaderFieldsTooLarge, RequestLineTooLong, CodingNotImplemented, MajorVersionNotSupported, is_timed_out, is_cut_with_head, IsCutWithHead, body_length_or_0, standard_front, served_version, served_message, standard_framing, standard_refusal, long_refusal, standard_cut, standard_open, Silence, Refused, Heads, HeadAt}
use Rattle.tiny_http_open_request.specs.HeadReads.{ReadsHead, RefusesWith, AnswersCut, Begins, IsFramedBy, cut_end, head_message, head_framing}
use Rattle.tiny_http_open_request.specs.StandardReads.{AnswersStandardCut}
use Rattle.tiny_http_open_request.proofs.PipelineLemmas.{cut-with_head, with_head-cut}
use Rattle.tiny_http_open_request.proofs.HeadReadsServing.{refused-at, HeadsAt, handed-out}

-- A REFUSED HEAD
abbrev fault_refusal : StandardFault → Refusal
fault_refusal fault.BadLine = BadRequest
fault_refusal fault.RequestLineTooLong = RequestLineTooLong
fault_refusal fault.HeaderFieldsTooLarge = HeaderFieldsTooLarge
fault_refusal fault.TooManyFields = HeaderFieldsTooLarge
fault_refusal (fault.Invalid refusal) = standard_refusal refusal

long-at : (behind : Bool) (bytes : List ℕ) (stop : Stop) → STANDARD_HEAD ≤ length bytes → Refused (long_refusal behind) by_the_standard ≡ standard_open behind bytes stop
long-at behind bytes stop le = rw (le-ltb (length bytes) STANDARD_HEAD le) refl

faulty-at : (f : Feed) (e : StandardFault) → Reads STANDARD_HEAD f.bytes (standard.Refused e) → HeadAt Standard f.bytes f.stop (Refused (fault_refusal e) by_the_standard)
faulty-at f fault.BadLine h = (ReadBad, h, refl)
faulty-at f fault.RequestLineTooLong h = (ReadOpen false, h.1, long-at false f.bytes f.stop h.0)
faulty-at f fault.HeaderFieldsTooLarge h = (ReadOpen true, h.1, long-at true f.bytes f.stop h.0)
faulty-at f fault.TooManyFields h = (ReadTooMany, h, refl)
faulty-at f (fault.Invalid refusal) h = (ReadWhole h.0 h.1 (Err refusal), (h.2, h.3), refl)

pub standard-faulty : (date : HttpDate) (o p : Option Feed) (e : StandardFault) (r : Result HeadRead AllocError) → ReadsFrom STANDARD_HEAD o p (standard.Refused e) → RefusesWith (status_of e) by_the_standard date r → ReadsHead Standard at.Head date o p r
standard-faulty date None p e r h k = tt
standard-faulty date (Some f) p fault.BadLine r h k = refused-at Standard date f p BadRequest by_the_standard r refl (faulty-at f fault.BadLine h.0) k
standard-faulty date (Some f) p fault.RequestLineTooLong r h k = refused-at Standard date f p RequestLineTooLong by_the_standard r refl (faulty-at f fault.RequestLineTooLong h.0) k
standard-faulty date (Some f) p fault.HeaderFieldsTooLarge r h k = refused-at Standard date f p HeaderFieldsTooLarge by_the_standard r refl (faulty-at f fault.HeaderFieldsTooLarge h.0) k
standard-faulty date (Some f) p fault.TooManyFields r h k = refused-at Standard date f p HeaderFieldsTooLarge by_the_standard r refl (faulty-at f fault.TooManyFields h.0) k
standard-faulty date (Some f) p (fault.Invalid validated.UnsupportedVersion) r h k = refused-at Standard date f p MajorVersionNotSupported by_the_standard r refl (faulty-at f (fault.Invalid validated.UnsupportedVersion) h.0) k
standard-faulty date (Some f) p (fault.Invalid validated.InvalidHead) r h k = refused-at Standard date f p BadRequest by_the_standard r refl (faulty-at f (fault.Invalid validated.InvalidHead) h.0) k
standard-faulty date (Some f) p (fault.Invalid validated.UnknownCoding) r h k = refused-at Standard date f p CodingNotImplemented by_the_standard r refl (faulty-at f (fault.Invalid validated.UnknownCoding) h.0) k
standard-faulty date (Some f) p (fault.Invalid validated.UnknownExpectation) r h k = refused-at Standard date f p ExpectationFailed by_the_standard r refl (faulty-at f (fault.Invalid validated.UnknownExpectation) h.0) k

-- A HEAD THAT IS CUT
cut-answered : (date : HttpDate) (f : Feed) (p : Option Feed) (b : Bool) (r : Result HeadRead AllocError) → HeadAt Standard f.bytes f.stop (standard_cut b f.stop) → b ≡ is_begun f.bytes → AnswersStandardCut f.stop b date r → ReadsHead Standard at.Head date (Some f) p r
cut-answered date f p b r h is k = by (b && is_timed_out f.stop) h k
  where
    by : (t : Bool) → HeadAt Standard f.bytes f.stop (if t then Refused RequestTimeout by_the_standard else Silence) → MatchBool t (RefusesWith 408 by_the_standard date r) (r ≡ Ok (read.Ended (cut_end f.stop b))) → ReadsHead Standard at.Head date (Some f) p r
    by true h k = refused-at Standard date f p RequestTimeout by_the_standard r refl h k
    by false h k = subst (λ (x : Result HeadRead AllocError). ReadsHead Standard at.Head date (Some f) p x) (sym k) ((Silence, h, (refl, refl)), ap (cut_end f.stop) is)

unfinished-at : (f : Feed) (b : Bool) → Reads STANDARD_HEAD f.bytes (standard.Unfinished b) → HeadAt Standard f.bytes f.stop (standard_cut b f.stop)
unfinished-at f b h = by h.1
  where
    all : standard_front f.bytes ≡ f.bytes
    all = take_all STANDARD_HEAD f.bytes (omega (arith, h.0))

    is : (behind : Bool) → standard_cut b f.stop ≡ standard_open behind f.bytes f.stop
    is behind = rw (lt-ltb (length f.bytes) STANDARD_HEAD h.0) (ap (λ (x : Bool). standard_cut x f.stop) h.2)

    by : (HasOpenRequestLine f.bytes ⊎ HasOpenField f.bytes) → HeadAt Standard f.bytes f.stop (standard_cut b f.stop)
    by (inl request) = (ReadOpen false, subst HasOpenRequestLine (sym all) request, is false)
    by (inr field) = (ReadOpen true, subst HasOpenField (sym all) field, is true)

pub standard-unfinished : (date : HttpDate) (o p : Option Feed) (b : Bool) (stop : Option Stop) (r : Result HeadRead AllocError) → ReadsFrom STANDARD_HEAD o p (standard.Unfinished b) → ((f : Feed) → o ≡ Some f → stop ≡ Some f.stop)
    → IfSome stop (λ s. AnswersStandardCut s b date r) → ReadsHead Standard at.Head date o p r
standard-unfinished date None p b stop r h ends k = tt
standard-unfinished date (Some f) p b stop r h ends k =
    cut-answered date f p b r (unfinished-at f b h.0) h.0.2 (subst (λ (y : Option Stop). IfSome y (λ s. AnswersStandardCut s b date r)) (ends f refl) k)

-- no byte of a head has come
pub standard-closed : {R : Type 0} (date : HttpDate) (o : Option Feed) (new : SourceState R) (stop : Option Stop) (r : Result HeadRead AllocError) → HasNoByte o → new.feed ≡ o → new.is_over ≡ true
    → (new.is_over ≡ true → IsSome stop × IfSome stop (λ s. StopsBy s new.feed)) → IfSome stop (λ s. AnswersStandardCut s false date r) → ReadsHead Standard at.Head date o new.feed r
standard-closed date None new stop r none same is over k = tt
standard-closed date (Some f) new None r none same is over k = let no : false ≡ true = (over is).0 in cc
standard-closed date (Some f) new (Some stop) r none same is over k =
    let stops = subst (λ (x : Option Feed). StopsBy stop x) same (over is).1 in
    let empty : Reads STANDARD_HEAD [] (standard.Unfinished false) = (omega arith, inl refl, refl) in
    let read = subst (λ (x : List ℕ). Reads STANDARD_HEAD x (standard.Unfinished false)) (sym none) empty in
    cut-answered date f new.feed false r (unfinished-at f false read) read.2 (subst (λ (s : Stop). AnswersStandardCut s false date r) (sym stops.1) k)

-- A WHOLE HEAD stands at the front
line-front : (bytes text rest : List ℕ) → Line bytes text rest → (gone : List ℕ) × (bytes ≡ gone ++ rest)
line-front bytes text rest l = (text ++ (13 ∷ 10 ∷ []), l.joins ∙ sym (append_assoc text (13 ∷ 10 ∷ []) rest))

fields-front : (bytes : List ℕ) (hs : List Header) (rest : List ℕ) → BeginsWithFieldLines bytes hs rest → (gone : List ℕ) × (bytes ≡ gone ++ rest)
fields-front bytes [] rest b = ([], sym b)
fields-front bytes (h ∷ hs) rest b =
    let line = line-front bytes b.0 b.1 b.2 in
    let more = fields-front b.1 hs rest b.4 in
    (line.0 ++ more.0, line.1 ∙ ap (λ (x : List ℕ). line.0 ++ x) more.1 ∙ sym (append_assoc line.0 more.0 rest))

behind-front : (bytes : List ℕ) → (gone : List ℕ) × (bytes ≡ gone ++ behind_empty_line bytes)
behind-front [] = ([], refl)
behind-front (a ∷ []) = ([], refl)
behind-front (a ∷ b ∷ bs) = by (a == 13 && b == 10)
  where
    by : (t : Bool) → (gone : List ℕ) × (a ∷ b ∷ bs ≡ gone ++ (if t then bs else a ∷ b ∷ bs))
    by true = (a ∷ b ∷ [], refl)
    by false = ([], refl)

head-front : (bytes : List ℕ) (m : Message) (after : List ℕ) → BeginsWithHead bytes m after → (gone : List ℕ) × (bytes ≡ gone ++ after)
head-front bytes m after h =
    let start = behind-front bytes in
    let request = line-front (behind_empty_line bytes) h.request.text h.fields h.request.line in
    let fields = fields-front h.fields m.headers h.empty h.headers in
    let end = line-front h.empty [] after h.end in
    let two = joins start.0 request.0 bytes (behind_empty_line bytes) h.fields start.1 request.1 in
    let three = joins (start.0 ++ request.0) fields.0 bytes h.fields h.empty two fields.1 in
    ((((start.0 ++ request.0) ++ fields.0) ++ end.0), joins ((start.0 ++ request.0) ++ fields.0) end.0 bytes h.empty after three end.1)
  where
    joins : (a b bytes mid rest : List ℕ) → bytes ≡ a ++ mid → mid ≡ b ++ rest → bytes ≡ (a ++ b) ++ rest
    joins a b bytes mid rest e f = e ∙ ap (λ (x : List ℕ). a ++ x) f ∙ sym (append_assoc a b rest)

-- what is behind it among all bytes
behind-head : (n : ℕ) (bytes : List ℕ) (m : Message) (front : List ℕ) → BeginsWithHead (standard_front bytes) m front → n + length front ≡ length (standard_front bytes) → drop n bytes ≡ front ++ drop STANDARD_HEAD bytes
behind-head n bytes m front h long =
    let at = head-front (standard_front bytes) m front h in
    let gone : length at.0 ≡ n = omega (arith, ap length at.1 ∙ length-append at.0 front, long) in
    let whole : bytes ≡ at.0 ++ (front ++ drop STANDARD_HEAD bytes) =
    sym (take-append-drop STANDARD_HEAD bytes) ∙ ap (λ (x : List ℕ). x ++ drop STANDARD_HEAD bytes) at.1 ∙ append_assoc at.0 front (drop STANDARD_HEAD bytes) in
    ap (λ (k : ℕ). drop k bytes) (sym gone) ∙ ap (drop (length at.0)) whole ∙ drop-append_seam at.0 (front ++ drop STANDARD_HEAD bytes)

served-old : (v : HTTPVersion) → is_too_new (served_version v) ≡ false
served-old v = by (is_1_0 v)
  where
    by : (t : Bool) → is_too_new (if t then version 1 0 else version 1 1) ≡ false
    by true = refl
    by false = refl

whole-at : (f : Feed) (h : StandardHead) → Reads STANDARD_HEAD f.bytes (standard.Whole h) → (IsCutWithHead (standard_framing h.summary).form (body_length_or_0 (standard_framing h.summary)) (drop h.length f.bytes) → ⊥)
    → HeadAt Standard f.bytes f.stop (Heads (served_message (message_of h)) (standard_framing h.summary) (drop h.length f.bytes))
whole-at f h k uncut = (ReadWhole (message_of h) k.0 (Ok h.summary), (k.1, k.3), by (is_cut_with_head g.form (body_length_or_0 g) behind) refl)
  where
    g : Framing
    g = standard_framing h.summary

    behind : List ℕ
    behind = k.0 ++ drop STANDARD_HEAD f.bytes

    is : drop h.length f.bytes ≡ behind
    is = behind-head h.length f.bytes (message_of h) k.0 k.1 k.2

    by : (t : Bool) → is_cut_with_head g.form (body_length_or_0 g) behind ≡ t → Heads (served_message (message_of h)) g (drop h.length f.bytes) ≡ (if t then standard_cut true f.stop else Heads (served_message (message_of h)) g behind)
    by true e = absurd (uncut (subst (λ (x : List ℕ). IsCutWithHead g.form (body_length_or_0 g) x) (sym is) (cut-with_head g.form (body_length_or_0 g) behind e)))
    by false e = ap (Heads (served_message (message_of h)) g) is

standard-head : (o p : Option Feed) (h : StandardHead) → ReadsFrom STANDARD_HEAD o p (standard.Whole h) → HeadsAt Standard o p (served_message (message_of h)) (standard_framing h.summary)
standard-head None p h k = tt
standard-head (Some f) p h k = (drop h.length f.bytes, k.1, λ uncut. whole-at f h k.0 uncut)

pub standard-handed : (date : HttpDate) (o p q : Option Feed) (h : StandardHead) (f : Framing) (head : Head) (b : UnreadBody) (y : Exchange) → head_message head ≡ served_message (message_of h) → f ≡ standard_framing h.summary → head_framing head ≡ f → ReadsFrom STANDARD_HEAD o p (standard.Whole h)
    → Begins f p q (Some b) → y.head ≡ head → y.open_request.body ≡ b → KeepsHead y.open_request head date → ReadsHead Standard at.Head date o q (Ok (read.Request y))
standard-handed date o p q h f head b y says is framed k begins heads bodies keeps =
    handed-out Standard date o p q (served_message (message_of h)) f head b y says framed (subst (HeadsAt Standard o p (served_message (message_of h))) (sym is) (standard-head o p h k)) (served-old h.version) begins heads bodies keeps

-- A BODY that is read with it is cut
head-long : (bytes : List ℕ) (m : Message) (after : List ℕ) → BeginsWithHead bytes m after → 3 ≤ length bytes
head-long bytes m after h =
    let start = behind-front bytes in
    let all : length bytes ≡ length start.0 + length (behind_empty_line bytes) = ap length start.1 ∙ length-append start.0 (behind_empty_line bytes) in
    let line : length (behind_empty_line bytes) ≡ length h.request.text + suc (suc (length h.fields)) = ap length h.request.line.joins ∙ length-append h.request.text (13 ∷ 10 ∷ h.fields) in
    let fields = fields-front h.fields m.headers h.empty h.headers in
    let lines : length h.fields ≡ length fields.0 + length h.empty = ap length fields.1 ∙ length-append fields.0 h.empty in
    let end = line-shorter h.empty [] after h.end in
    omega (arith, all, line, lines, end)

long-begun : (bytes : List ℕ) → 3 ≤ length bytes → is_begun bytes ≡ true
long-begun [] le = absurd (omega (arith, le))
long-begun (a ∷ []) le = absurd (omega (arith, le))
long-begun (a ∷ b ∷ []) le = absurd (omega (arith, le))
long-begun (a ∷ b ∷ c ∷ bs) le = by (a == 13 && b == 10)
  where
    by : (t : Bool) → not (length (if t then c ∷ bs else a ∷ b ∷ c ∷ bs) == 0) ≡ true
    by true = grind arith
    by false = grind arith

cut-at : (f : Feed) (h : StandardHead) → Reads STANDARD_HEAD f.bytes (standard.Whole h) → IsCutWithHead (standard_framing h.summary).form (body_length_or_0 (standard_framing h.summary)) (drop h.length f.bytes) → HeadAt Standard f.bytes f.stop (standard_cut true f.stop)
cut-at f h k cut = (ReadWhole (message_of h) k.0 (Ok h.summary), (k.1, k.3), rw (with_head-cut g.form (body_length_or_0 g) behind (subst (λ (x : List ℕ). IsCutWithHead g.form (body_length_or_0 g) x) is cut)) refl)
  where
    g : Framing
    g = standard_framing h.summary

    behind : List ℕ
    behind = k.0 ++ drop STANDARD_HEAD f.bytes

    is : drop h.length f.bytes ≡ behind
    is = behind-head h.length f.bytes (message_of h) k.0 k.1 k.2

pub standard-body_cut : (date : HttpDate) (o p q : Option Feed) (h : StandardHead) (f : Framing) (stop : Option Stop) (r : Result HeadRead AllocError) → f ≡ standard_framing h.summary → ReadsFrom STANDARD_HEAD o p (standard.Whole h) → Begins f p q None
    → ((x : Feed) → p ≡ Some x → stop ≡ Some x.stop) → IfSome stop (λ s. AnswersCut s true true date r) → ReadsHead Standard at.Head date o q r
standard-body_cut date None p q h f stop r is k begins ends answers = tt
standard-body_cut date (Some x) p q h f stop r is k begins ends answers =
    let cut = subst (λ (y : Option Feed). Begins f y q None) k.1 begins in
    let long : length (standard_front x.bytes) + length (drop STANDARD_HEAD x.bytes) ≡ length x.bytes = sym (length-append (standard_front x.bytes) (drop STANDARD_HEAD x.bytes)) ∙ ap length (take-append-drop STANDARD_HEAD x.bytes) in
    let some = head-long (standard_front x.bytes) (message_of h) k.0.0 k.0.1 in
    let begun = long-begun x.bytes (omega (arith, long, some)) in
    cut-answered date x q true r (cut-at x h k.0 (subst (λ (y : Framing). IsCutWithHead y.form (body_length_or_0 y) (drop h.length x.bytes)) is cut)) (sym begun)
    (subst (λ (y : Option Stop). IfSome y (λ s. AnswersCut s true true date r)) (ends (record { bytes = drop h.length x.bytes; stop = x.stop }) k.1) answers)

-- whatever the reader states, it is judged so
pub standard-framed : (date : HttpDate) (h : StandardHead) (f : Framing) (head : Head) (y : Exchange) → Validates h.version h.method h.headers.items (Ok h.summary) → head_message head ≡ served_message (message_of h) → f ≡ standard_framing h.summary
    → head_framing head ≡ f → y.head ≡ head → KeepsHead y.open_request head date → IsFramedBy Standard date y.head y.open_request
standard-framed date h f head y validates says is framed heads keeps =
    let method : head.method ≡ h.method = ap (λ (m : Message). m.method) says in
    let headers : head.headers.items ≡ h.headers.items = ap (λ (m : Message). m.headers) says in
    let validated = subst (λ (m : Method). Validates h.version m head.headers.items (Ok h.summary)) (sym method) (subst (λ (hs : List Header). Validates h.version h.method hs (Ok h.summary)) (sym headers) validates) in
    subst (λ (x : Head). IsFramedBy Standard date x y.open_request) (sym heads) ((h.version, h.summary, validated, ap (λ (m : Message). m.version) says, framed ∙ is), keeps)
