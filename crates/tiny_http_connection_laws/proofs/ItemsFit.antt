-- The versions that a pipeline has fit their bytes, and its items are answered by the standard or none.
use Rattle.std.proofs.Common.{◌≡◌, refl, sym, subst, ℕ, ◌≤◌, Bool, true, false, List, [], ◌∷◌, ◌++◌, length, drop, Option, Some, None, Ok, Err, inl, inr, arith}
use Rattle.std.specs.Prelude.{if◌then◌else◌, nat_lt, ◌&&◌, codes, take, unwrap_or}
use Rattle.std.specs.Str.{bytes_eq}
use Rattle.tiny_http_head.specs.declared.common.HTTPVersion.{HTTPVersion}
use Rattle.tiny_http_io.specs.declared.device.Stop.{Stop}
use Rattle.tiny_http_io.specs.Device.{Feed}
use Rattle.tiny_http_head.specs.Heads.{version, version_of, is_too_new, Message, BeginsWithRequestHead, FaultyHead, GrammarFault, Cut, Malformed}
use Rattle.tiny_http_io.specs.Source.{seen_within}
use Rattle.tiny_http_body.specs.declared.framing.Framing.{Framing}
use Rattle.tiny_http_body.specs.declared.framing.TheConstants.{STANDARD_HEAD}
use Rattle.tiny_http_body.specs.declared.framing.Profile.{Profile}
use Rattle.tiny_http_body.specs.declared.framing.Profile.TheVariants as under
use Rattle.tiny_http_body.specs.declared.framing.HeadRules.{HeadRules}
use Rattle.tiny_http_body.specs.declared.framing.HeadRules.TheVariants as rule
use Rattle.tiny_http_standard_head.specs.Validation.{is_1_0}
use Rattle.tiny_http_standard_head.specs.Heads.{is_begun, Reading, ReadWhole, ReadBad, ReadTooMany, ReadOpen}
use Rattle.tiny_http_body.specs.Framing.{head_limit}
use Rattle.tiny_http_open_request.specs.Pipeline.{place_feed, Item, Asks, Refuses, Manner, plainly, by_the_standard, Refusal, BadRequest, RequestTimeout, ExpectationFailed, HeaderFieldsTooLarge, VersionNotSupported, RequestLineTooLong, CodingNotImplemented, MajorVersionNotSupported, Place, is_timed_out, is_cut_with_head, body_length_or_0, served_version, served_message, standard_framing, standard_cut, standard_heading, long_refusal, RulesHeadAt, is_head_method, BeginsWithin, IsTooLarge, IsRefused, Heading, Silence, Refused, Heads, HeadAt, FoundAt, ends_too_new, Pipeline}
use Rattle.tiny_http_connection_laws.specs.ClientReads.{goes_by_standard}
use Rattle.tiny_http_connection_laws.proofs.StepsAdd.{VersionFits, ItemFits, AllFit}

-- a version that a text names
fits-if : (t : Bool) (major minor : ℕ) (o : Option HTTPVersion) (v : HTTPVersion) → major ≤ 255 → minor ≤ 255 → (o ≡ Some v → VersionFits v) → (if t then Some (version major minor) else o) ≡ Some v → VersionFits v
fits-if true major minor o v a b h e = let same : version major minor ≡ v = cc in subst VersionFits same (a, b)
fits-if false major minor o v a b h e = h e

named-fits : (text : List ℕ) (v : HTTPVersion) → version_of text ≡ Some v → VersionFits v
named-fits text v e =
    fits-if (bytes_eq text (codes "HTTP/0.9")) 0 9 _ v (omega arith) (omega arith)
    (fits-if (bytes_eq text (codes "HTTP/1.0")) 1 0 _ v (omega arith) (omega arith)
    (fits-if (bytes_eq text (codes "HTTP/1.1")) 1 1 _ v (omega arith) (omega arith)
    (fits-if (bytes_eq text (codes "HTTP/2.0")) 2 0 _ v (omega arith) (omega arith)
    (fits-if (bytes_eq text (codes "HTTP/3.0")) 3 0 None v (omega arith) (omega arith) (λ n. cc)))))
    e

first-fits : VersionFits (version 1 1)
first-fits = (omega arith, omega arith)

head-fits : (bytes : List ℕ) (m : Message) (after : List ℕ) → BeginsWithRequestHead bytes m after → VersionFits m.version
head-fits bytes m after h = let line = h.2 in named-fits line.3.version_text m.version line.3.names_version

-- an answer to a head, if there is one
abbrev AnswerFits : Bool → Option Item → Type 0
AnswerFits bs None = Unit {0}
AnswerFits bs (Some item) = ItemFits bs item

-- the version of a faulty line
line-fits : (bytes : List ℕ) (line : Option HTTPVersion) (fault : GrammarFault) → FaultyHead bytes line fault → VersionFits (unwrap_or line (version 1 1))
line-fits bytes None fault h = first-fits
line-fits bytes (Some v) fault h = let line = h.3 in named-fits line.3.version_text v line.3.names_version

within-fits : (limit : Option ℕ) (bytes : List ℕ) (m : Message) (after : List ℕ) → BeginsWithin limit bytes m after → VersionFits m.version
within-fits None bytes m after h = head-fits bytes m after h
within-fits (Some limit) bytes m after h = head-fits bytes m after h.0

large-fits : (limit : Option ℕ) (bytes : List ℕ) (line : Option HTTPVersion) → IsTooLarge limit bytes line → VersionFits (unwrap_or line (version 1 1))
large-fits None bytes line h = absurd h
large-fits (Some limit) bytes line h = line-fits (take limit bytes) line Cut h.1

-- in which version a head is refused, and whether by the standard
abbrev MannerFits : Bool → Manner → Type 0
MannerFits bs manner = VersionFits manner.version × (manner.by_standard ≡ bs)

plainly-fits : (v : HTTPVersion) (manner : Manner) → manner ≡ plainly v → VersionFits v → MannerFits false manner
plainly-fits v manner e h =
    let P : Manner → Type 0 = λ x. MannerFits false x in
    let fits : MannerFits false (plainly v) = (h, refl) in
    subst P (sym e) fits

standard-manner : MannerFits true by_the_standard
standard-manner = (first-fits, refl)

refused-fits : (p : HeadRules) (bytes : List ℕ) (stop : Stop) (refusal : Refusal) (manner : Manner) → IsRefused p bytes stop refusal manner → MannerFits false manner
refused-fits p bytes stop BadRequest manner (inl k) = plainly-fits (unwrap_or k.0 (version 1 1)) manner k.2 (line-fits (seen_within (head_limit p) bytes) k.0 Malformed k.1)
refused-fits p bytes stop BadRequest manner (inr k) = plainly-fits k.0.version manner k.3 (within-fits (head_limit p) bytes k.0 k.1 k.2.begins)
refused-fits p bytes stop RequestTimeout manner k = plainly-fits (version 1 1) manner k.2 first-fits
refused-fits p bytes stop ExpectationFailed manner k = plainly-fits k.0.version manner k.3 (within-fits (head_limit p) bytes k.0 k.1 k.2.begins)
refused-fits p bytes stop HeaderFieldsTooLarge manner k = plainly-fits (unwrap_or k.0 (version 1 1)) manner k.2 (large-fits (head_limit p) bytes k.0 k.1)
refused-fits p bytes stop VersionNotSupported manner k = absurd k
refused-fits p bytes stop RequestLineTooLong manner k = absurd k
refused-fits p bytes stop CodingNotImplemented manner k = absurd k
refused-fits p bytes stop MajorVersionNotSupported manner k = absurd k

-- a version that is too new is refused by the rules of tiny_http alone
too-new-fits : (bs t : Bool) (m : Message) (f : Framing) (body behind : Feed) → VersionFits m.version → f.by_standard ≡ bs → (bs ≡ true → t ≡ false)
    → ItemFits bs (if t then Refuses VersionNotSupported (plainly (version 1 1)) (is_head_method m.method) (ends_too_new f.form) else Asks (record { message = m; framing = f; body = body; behind = behind }))
too-new-fits true true m f body behind h b k = let no : true ≡ false = k refl in cc
too-new-fits false true m f body behind h b k = (first-fits, refl)
too-new-fits bs false m f body behind h b k = (h, b)

-- the version of a heading, and whether it is answered by the standard
abbrev HeadingFits : Bool → Heading → Type 0
HeadingFits bs Silence = Unit {0}
HeadingFits bs (Refused refusal manner) = MannerFits bs manner
HeadingFits bs (Heads m f after) = VersionFits m.version × (f.by_standard ≡ bs) × (bs ≡ true → is_too_new m.version ≡ false)

never : {G : Type 0} → false ≡ true → G
never e = cc

rules-fit : (p : HeadRules) (bytes : List ℕ) (stop : Stop) (heading : Heading) → RulesHeadAt p bytes stop heading → HeadingFits false heading
rules-fit p bytes stop Silence h = tt
rules-fit p bytes stop (Refused refusal manner) h = refused-fits p bytes stop refusal manner h
rules-fit p bytes stop (Heads m f after) h = (within-fits (head_limit p) bytes m after h.whole.begins, h.whole.frames.5, λ e. never e)

served-old : (v : HTTPVersion) → is_too_new (served_version v) ≡ false
served-old v = by (is_1_0 v)
  where
    by : (t : Bool) → is_too_new (if t then version 1 0 else version 1 1) ≡ false
    by true = refl
    by false = refl

served-fits : (v : HTTPVersion) → VersionFits (served_version v)
served-fits v = by (is_1_0 v)
  where
    by : (t : Bool) → VersionFits (if t then version 1 0 else version 1 1)
    by true = (omega arith, omega arith)
    by false = (omega arith, omega arith)

-- by the standard all versions are 1.0 and 1.1
cut-fits : (b : Bool) (stop : Stop) → HeadingFits true (standard_cut b stop)
cut-fits b stop = by (b && is_timed_out stop)
  where
    by : (t : Bool) → HeadingFits true (if t then Refused RequestTimeout by_the_standard else Silence)
    by true = standard-manner
    by false = tt

standard-fits : (bytes : List ℕ) (stop : Stop) (r : Reading) → HeadingFits true (standard_heading r bytes stop)
standard-fits bytes stop ReadBad = standard-manner
standard-fits bytes stop ReadTooMany = standard-manner
standard-fits bytes stop (ReadOpen behind) = by (nat_lt (length bytes) STANDARD_HEAD)
  where
    by : (t : Bool) → HeadingFits true (if t then standard_cut (is_begun bytes) stop else Refused (long_refusal behind) by_the_standard)
    by true = cut-fits (is_begun bytes) stop
    by false = standard-manner
standard-fits bytes stop (ReadWhole m after (Err refusal)) = standard-manner
standard-fits bytes stop (ReadWhole m after (Ok s)) = by (is_cut_with_head f.form (body_length_or_0 f) behind)
  where
    f : Framing
    f = standard_framing s

    behind : List ℕ
    behind = after ++ drop STANDARD_HEAD bytes

    by : (t : Bool) → HeadingFits true (if t then standard_cut true stop else Heads (served_message m) f behind)
    by true = cut-fits true stop
    by false = (served-fits m.version, refl, λ e. served-old m.version)

at-fits : (p : Profile) (bytes : List ℕ) (stop : Stop) (heading : Heading) → HeadAt p bytes stop heading → HeadingFits (goes_by_standard p) heading
at-fits under.Lenient bytes stop heading h = rules-fit rule.Lenient bytes stop heading h
at-fits under.Strict bytes stop heading h = rules-fit rule.Strict bytes stop heading h
at-fits under.Standard bytes stop heading h =
    let P : Heading → Type 0 = λ x. HeadingFits true x in
    subst P (sym h.2) (standard-fits bytes stop h.0)

found-fits : (bs : Bool) (stop : Stop) (heading : Heading) (item : Option Item) (next : Place) → HeadingFits bs heading → FoundAt stop heading item next → AnswerFits bs item
found-fits bs stop Silence item next h f = subst (AnswerFits bs) (sym f.0) tt
found-fits bs stop (Refused refusal manner) item next h f = subst (AnswerFits bs) (sym f.0) h
found-fits bs stop (Heads m framing after) item next h f = subst (AnswerFits bs) (sym f.3) (too-new-fits bs (is_too_new m.version) m framing f.0 (place_feed stop f.1) h.0 h.1 h.2)

heading-fits : (p : Profile) (bytes : List ℕ) (stop : Stop) (heading : Heading) (item : Option Item) (next : Place) → HeadAt p bytes stop heading → FoundAt stop heading item next → AnswerFits (goes_by_standard p) item
heading-fits p bytes stop heading item next h f = found-fits (goes_by_standard p) stop heading item next (at-fits p bytes stop heading h) f

pub items-fit : (p : Profile) (place : Place) (stop : Stop) (items : List Item) → Pipeline p place stop items → AllFit (goes_by_standard p) items
items-fit p place stop [] h = tt
items-fit p None stop (item ∷ items) h = elim h [ ]
items-fit p (Some bytes) stop (item ∷ items) h = let head = h.1 in (heading-fits p bytes stop head.0 (Some item) h.0 head.1 head.2, items-fit p h.0 stop items h.2)
