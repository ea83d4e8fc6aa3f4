-- The pipeline of a connection: the items that its bytes contain, which are requests with their bodies, and heads that
-- are refused.
use Rattle.std.specs.Prelude.{◌≡◌, ℕ, ◌<◌, ◌≤◌, ◌⊎◌, ⊤, Bool, true, false, ◌&&◌, nat_lt, List, [], ◌∷◌, ◌++◌, length}
use Rattle.std.specs.Prelude.{take, drop, Option, Some, None, Result, Ok, Err, unwrap_or, if◌then◌else◌}
use Rattle.std.specs.declared.io.ErrorKind.{ErrorKind}
use Rattle.std.specs.declared.io.ErrorKind.TheVariants.{TimedOut}
use Rattle.tiny_http_head.specs.declared.common.Method.{Method}
use Rattle.tiny_http_head.specs.declared.common.Method.TheVariants.{Head, Connect}
use Rattle.tiny_http_head.specs.declared.common.HTTPVersion.{HTTPVersion}
use Rattle.tiny_http_io.specs.declared.device.Stop.{Stop}
use Rattle.tiny_http_io.specs.declared.device.Stop.TheVariants.{End, Fault as Faults}
use Rattle.tiny_http_io.specs.Device.{Feed, whole_feed}
use Rattle.tiny_http_body.specs.Chunks.{WholeChunksBy, CutChunksBy}
use Rattle.tiny_http_head.specs.Heads.{Message, BeginsWithRequestHead, FaultyHead, Cut, NotAscii, Malformed, version}
use Rattle.tiny_http_head.specs.Heads.{is_too_new}
use Rattle.tiny_http_io.specs.Source.{seen_within}
use Rattle.tiny_http_standard_head.specs.declared.validation.HeadSummary.{HeadSummary}
use Rattle.tiny_http_standard_head.specs.declared.validation.HeadError.{HeadError}
use Rattle.tiny_http_standard_head.specs.declared.validation.HeadError.TheVariants as validated
use Rattle.tiny_http_standard_head.specs.Validation.{is_1_0}
use Rattle.tiny_http_standard_head.specs.Heads.{is_begun, Reading, ReadWhole, ReadBad, ReadTooMany, ReadOpen, AreReadAs}
use Rattle.tiny_http_body.specs.declared.framing.TheConstants.{STANDARD_HEAD}
use Rattle.tiny_http_body.specs.declared.framing.HeadRules.{HeadRules}
use Rattle.tiny_http_body.specs.declared.framing.HeadRules.TheVariants as rules
use Rattle.tiny_http_body.specs.declared.framing.Profile.{Profile}
use Rattle.tiny_http_body.specs.declared.framing.Profile.TheVariants.{Lenient, Strict, Standard}
use Rattle.tiny_http_body.specs.declared.framing.FramingFault.{FramingFault}
use Rattle.tiny_http_body.specs.declared.framing.FramingFault.TheVariants.{Invalid, Expectation}
use Rattle.tiny_http_body.specs.declared.framing.Form.{Form}
use Rattle.tiny_http_body.specs.declared.framing.Form.TheVariants.{Rest, Nothing, WithHead, Counted, Chunked}
use Rattle.tiny_http_body.specs.declared.framing.Framing.{Framing}
use Rattle.tiny_http_body.specs.Body.{cut_stop, chunk_rules}
use Rattle.tiny_http_body.specs.Framing.{Frames, head_limit}
use Rattle.tiny_http_body.specs.FramingReading.{sized_form}

-- A request that is handed out: its head, its framing, the feed of its body, and the feed after its body.
pub record Request : Type 0 where
  pub message : Message
  pub framing : Framing
  pub body : Feed
  pub behind : Feed

-- The reason why a head is refused.
pub data Refusal : Type 0 where
  -- the bytes break the grammar of a head, or the head's framing or host is invalid
  BadRequest : Refusal
  -- the reader timed out before the head, or a body that is read with it, had arrived
  RequestTimeout : Refusal
  -- the head's expectation can't be met
  ExpectationFailed : Refusal
  -- the head is larger than `Strict` allows; or, under `Standard`, its request line ends within the maximum size of a
  -- head but the head doesn't, or it has too many field lines
  HeaderFieldsTooLarge : Refusal
  -- the head's version is above 1.1, under `Lenient` or `Strict`
  VersionNotSupported : Refusal
  -- the request line hasn't ended within the maximum size of a head under `Standard`
  RequestLineTooLong : Refusal
  -- under `Standard`, the head names unknown transfer codings before a final `chunked`
  CodingNotImplemented : Refusal
  -- the head's major version isn't 1, under `Standard`
  MajorVersionNotSupported : Refusal

-- the status code of a refusal (RFC 9110, sections 15.5.1, 15.5.9, 15.5.15, 15.5.18, 15.6.2 and 15.6.6; RFC 6585,
-- section 5)
abbrev pub refusal_status : Refusal → ℕ
refusal_status BadRequest = 400
refusal_status RequestTimeout = 408
refusal_status ExpectationFailed = 417
refusal_status HeaderFieldsTooLarge = 431
refusal_status VersionNotSupported = 505
refusal_status RequestLineTooLong = 414
refusal_status CodingNotImplemented = 501
refusal_status MajorVersionNotSupported = 505

-- The manner in which the response to a refused head is printed: its version, and whether `Standard` applies.
pub record Manner : Type 0 where
  pub version : HTTPVersion
  pub by_standard : Bool

abbrev pub plainly : HTTPVersion → Manner
plainly v = record { version = v; by_standard = false }

abbrev pub by_the_standard : Manner
by_the_standard = record { version = version 1 1; by_standard = true }

-- the refusal for invalid framing
abbrev pub framing_refusal : FramingFault → Refusal
framing_refusal Invalid = BadRequest
framing_refusal Expectation = ExpectationFailed

-- The item that one head contributes to a pipeline. `Asks`: the request is handed out. `Refuses`: the head is refused
-- in this manner; `no_body` is true only for a `HEAD` that is refused with `VersionNotSupported`, the one refusal whose
-- response has a body, and `last` means that no head is read after the refused one.
pub data Item : Type 0 where
  Asks : (request : Request) → Item
  Refuses : (refusal : Refusal) (manner : Manner) (no_body last : Bool) → Item

-- The bytes from the next head on; or `None` if no head follows.
abbrev pub Place : Type 0
Place = Option (List ℕ)

-- the feed at a position; empty if no head follows
abbrev pub place_feed : Stop → Place → Feed
place_feed stop None = whole_feed []
place_feed stop (Some bytes) = record { bytes = bytes; stop = stop }

abbrev pub is_timed_out : Stop → Bool
is_timed_out (Faults TimedOut) = true
is_timed_out _ = false

abbrev pub is_head_method : Method → Bool
is_head_method Head = true
is_head_method _ = false

abbrev pub is_connect_method : Method → Bool
is_connect_method Connect = true
is_connect_method _ = false

-- UNDER `LENIENT` AND `STRICT`: whether the bytes begin with this head, of at most `limit` bytes if that is given, and
-- `after` follows it
abbrev pub BeginsWithin : Option ℕ → List ℕ → Message → List ℕ → Type 0
BeginsWithin None bytes m after = BeginsWithRequestHead bytes m after
BeginsWithin (Some limit) bytes m after =
    BeginsWithRequestHead bytes m after × (head : List ℕ) × (bytes ≡ head ++ after) × (length head ≤ limit)

-- whether the bytes end within a head, before the limit; the version is that of the request line, if that has ended
abbrev pub IsUnfinishedHead : Option ℕ → List ℕ → Option HTTPVersion → Type 0
IsUnfinishedHead None bytes v = FaultyHead bytes v Cut
IsUnfinishedHead (Some limit) bytes v = FaultyHead bytes v Cut × (length bytes < limit)

-- whether a head is too large: at least `limit` bytes have arrived, each line that ends among the first `limit` is
-- good, and the head doesn't end among them
abbrev pub IsTooLarge : Option ℕ → List ℕ → Option HTTPVersion → Type 0
IsTooLarge None bytes v = ⊥
IsTooLarge (Some limit) bytes v = (limit ≤ length bytes) × FaultyHead (take limit bytes) v Cut

-- Whether the bytes begin with this complete head, and `framed` is its framing, or why that is invalid.
pub record IsWholeHead (p : HeadRules) (bytes : List ℕ) (m : Message) (after : List ℕ)
    (framed : Result Framing FramingFault) : Type 0 where
  pub begins : BeginsWithin (head_limit p) bytes m after
  pub frames : Frames p m.version m.headers framed

abbrev pub body_length_or_0 : Framing → ℕ
body_length_or_0 f = unwrap_or f.body_length 0

-- whether a body of this form is read with its head and is cut
abbrev pub IsCutWithHead : Form → ℕ → List ℕ → Type 0
IsCutWithHead WithHead n after = length after < n
IsCutWithHead _ n after = ⊥

abbrev pub is_cut_with_head : Form → ℕ → List ℕ → Bool
is_cut_with_head WithHead n after = nat_lt (length after) n
is_cut_with_head Nothing n after = false
is_cut_with_head Counted n after = false
is_cut_with_head Rest n after = false
is_cut_with_head Chunked n after = false

-- whether the head, or a body that is read with it, is cut
abbrev pub IsCutHead : HeadRules → List ℕ → Type 0
IsCutHead p bytes =
    ((line : Option HTTPVersion) × IsUnfinishedHead (head_limit p) bytes line)
    ⊎ ((m : Message)
    × (after : List ℕ)
    × (f : Framing)
    × IsWholeHead p bytes m after (Ok f)
    × IsCutWithHead f.form (body_length_or_0 f) after)

-- whether the first faulty line of a head, within the size limit, isn't ASCII
abbrev pub IsNotAsciiHead : HeadRules → List ℕ → Type 0
IsNotAsciiHead p bytes = (line : Option HTTPVersion) × FaultyHead (seen_within (head_limit p) bytes) line NotAscii

-- NO ITEM: whether the bytes get no response: the head, or a body that is read with it, is cut, and not by a timeout;
-- or the head's first faulty line isn't ASCII.
abbrev pub HasNoItem : HeadRules → List ℕ → Stop → Type 0
HasNoItem p bytes stop = (IsCutHead p bytes × (is_timed_out stop ≡ false)) ⊎ IsNotAsciiHead p bytes

-- A REFUSAL: whether the head at the front of the bytes is refused in this manner, in the version of the request line,
-- or in 1.1 if that line is unfinished or bad; a 408 is always in 1.1. A version above 1.1 is left to `item_of`, since
-- a body follows.
abbrev pub IsRefused : HeadRules → List ℕ → Stop → Refusal → Manner → Type 0
IsRefused p bytes stop BadRequest v =
    ((line : Option HTTPVersion)
    × FaultyHead (seen_within (head_limit p) bytes) line Malformed
    × (v ≡ plainly (unwrap_or line (version 1 1))))
    ⊎ ((m : Message) × (after : List ℕ) × IsWholeHead p bytes m after (Err Invalid) × (v ≡ plainly m.version))
IsRefused p bytes stop RequestTimeout v = IsCutHead p bytes × (is_timed_out stop ≡ true) × (v ≡ plainly (version 1 1))
IsRefused p bytes stop ExpectationFailed v =
    (m : Message) × (after : List ℕ) × IsWholeHead p bytes m after (Err Expectation) × (v ≡ plainly m.version)
IsRefused p bytes stop HeaderFieldsTooLarge v =
    (line : Option HTTPVersion) × IsTooLarge (head_limit p) bytes line × (v ≡ plainly (unwrap_or line (version 1 1)))
IsRefused p bytes stop VersionNotSupported v = ⊥
IsRefused p bytes stop RequestLineTooLong v = ⊥
IsRefused p bytes stop CodingNotImplemented v = ⊥
IsRefused p bytes stop MajorVersionNotSupported v = ⊥

-- THE HEAD OF A REQUEST: whether the bytes begin with this head, with this framing, and a body that is read with it has
-- arrived.
pub record IsRequestHead (p : HeadRules) (bytes : List ℕ) (m : Message) (f : Framing) (after : List ℕ) : Type 0 where
  pub whole : IsWholeHead p bytes m after (Ok f)
  pub uncut : IsCutWithHead f.form (body_length_or_0 f) after → ⊥

-- UNDER `STANDARD`: the bytes within which a head must end: the first `STANDARD_HEAD`, or all if there are fewer.
abbrev pub standard_front : List ℕ → List ℕ
standard_front bytes = take STANDARD_HEAD bytes

-- the version in which a request is served: 1.0 is kept, and any other counts as 1.1
abbrev pub served_version : HTTPVersion → HTTPVersion
served_version v = if is_1_0 v then version 1 0 else version 1 1

abbrev pub served_message : Message → Message
served_message m = record { method = m.method; path = m.path; version = served_version m.version; headers = m.headers }

-- the form of a body, given whether it is chunked, whether a 100 is owed, and its length, if any; a request for an
-- upgrade is framed like any other
abbrev pub standard_form : Bool → Bool → Option ℕ → Form
standard_form true owed n = Chunked
standard_form false owed n = sized_form owed n

abbrev pub standard_framing : HeadSummary → Framing
standard_framing s =
    record {
      form = standard_form s.is_chunked s.owes_continue s.body_length;
      owes_continue = s.owes_continue;
      body_length = s.body_length;
      asks_upgrade = s.asks_upgrade;
      by_standard = true;
      is_last = s.is_last;
    }

-- the refusal for a head with this error
abbrev pub standard_refusal : HeadError → Refusal
standard_refusal validated.UnsupportedVersion = MajorVersionNotSupported
standard_refusal validated.InvalidHead = BadRequest
standard_refusal validated.UnknownCoding = CodingNotImplemented
standard_refusal validated.UnknownExpectation = ExpectationFailed

-- the refusal of a head that hasn't ended within the maximum size; the flag says whether its request line has ended
abbrev pub long_refusal : Bool → Refusal
long_refusal false = RequestLineTooLong
long_refusal true = HeaderFieldsTooLarge

-- The reading of the bytes at the position of a head. `Silence`: no item, and no response. `Refused`: a head that is
-- refused. `Heads`: the head of a request, its framing, and the bytes after it.
pub data Heading : Type 0 where
  Silence : Heading
  Refused : (refusal : Refusal) (manner : Manner) → Heading
  Heads : (message : Message) (framing : Framing) (after : List ℕ) → Heading

-- whether this is the heading of the bytes under `Lenient` or `Strict`
abbrev pub RulesHeadAt : HeadRules → List ℕ → Stop → Heading → Type 0
RulesHeadAt p bytes stop Silence = HasNoItem p bytes stop
RulesHeadAt p bytes stop (Refused refusal v) = IsRefused p bytes stop refusal v
RulesHeadAt p bytes stop (Heads m f after) = IsRequestHead p bytes m f after

-- the heading of a head that is cut, or whose body is read with it and is cut: a 408 if the head has begun and the
-- reader timed out, otherwise silence
abbrev pub standard_cut : Bool → Stop → Heading
standard_cut has_begun stop =
    if (has_begun && is_timed_out stop) then Refused RequestTimeout by_the_standard else Silence

-- the heading of a head that hasn't ended: cut, or too large; `behind_request_line` says whether its request line has
-- ended
abbrev pub standard_open : Bool → List ℕ → Stop → Heading
standard_open behind_request_line bytes stop =
    if nat_lt (length bytes) STANDARD_HEAD then standard_cut (is_begun bytes) stop
    else Refused (long_refusal behind_request_line) by_the_standard

-- the heading of a complete head with this framing; a body of the form `WithHead` is read with it
abbrev pub standard_heads : Message → Framing → List ℕ → Stop → Heading
standard_heads m f after stop =
    if is_cut_with_head f.form (body_length_or_0 f) after then standard_cut true stop else Heads m f after

-- THE HEADING of the bytes under `Standard`, given how the first of them are read. All refusals are in version 1.1.
abbrev pub standard_heading : Reading → List ℕ → Stop → Heading
standard_heading ReadBad bytes stop = Refused BadRequest by_the_standard
standard_heading ReadTooMany bytes stop = Refused HeaderFieldsTooLarge by_the_standard
standard_heading (ReadOpen behind_request_line) bytes stop = standard_open behind_request_line bytes stop
standard_heading (ReadWhole m after (Err refusal)) bytes stop = Refused (standard_refusal refusal) by_the_standard
standard_heading (ReadWhole m after (Ok s)) bytes stop =
    standard_heads (served_message m) (standard_framing s) (after ++ drop STANDARD_HEAD bytes) stop

abbrev pub StandardHeadAt : List ℕ → Stop → Heading → Type 0
StandardHeadAt bytes stop h = (r : Reading) × AreReadAs (standard_front bytes) r × (h ≡ standard_heading r bytes stop)

-- THE HEADING at the position of a head: whether this is the heading of the bytes under this profile
abbrev pub HeadAt : Profile → List ℕ → Stop → Heading → Type 0
HeadAt Lenient bytes stop h = RulesHeadAt rules.Lenient bytes stop h
HeadAt Strict bytes stop h = RulesHeadAt rules.Strict bytes stop h
HeadAt Standard bytes stop h = StandardHeadAt bytes stop h

-- the profile that reads heads under these rules
abbrev pub profile_of : HeadRules → Profile
profile_of rules.Lenient = Lenient
profile_of rules.Strict = Strict

-- whether the bytes begin with this body of n bytes, and `next` is where the next head begins after it
abbrev pub SizedBody : ℕ → List ℕ → Feed → Place → Type 0
SizedBody n after body next =
    (rest : List ℕ) × (after ≡ body.bytes ++ rest) × (length body.bytes ≡ n) × (body.stop ≡ End) × (next ≡ Some rest)

-- Whether `body`, including how it stops, is the body after a head with this framing, and `next` is where the next head
-- begins.
abbrev pub BodyAt : Bool → Form → ℕ → List ℕ → Stop → Feed → Place → Type 0
BodyAt standard Nothing n after stop body next = (body ≡ record { bytes = []; stop = End }) × (next ≡ Some after)
BodyAt standard WithHead n after stop body next = SizedBody n after body next
BodyAt standard Counted n after stop body next =
    SizedBody n after body next
    ⊎ ((length after < n) × (body ≡ record { bytes = after; stop = cut_stop standard stop }) × (next ≡ None))
BodyAt standard Rest n after stop body next = (body ≡ record { bytes = after; stop = stop }) × (next ≡ None)
BodyAt standard Chunked n after stop body next =
    ((rest : List ℕ)
    × WholeChunksBy (chunk_rules standard) after body.bytes rest
    × (body.stop ≡ End)
    × (next ≡ Some rest))
    ⊎ ((kind : ErrorKind)
    × CutChunksBy (chunk_rules standard) after stop body.bytes kind
    × (body.stop ≡ Faults kind)
    × (next ≡ None))

-- where the next head begins after a request; none, if the request is the last
abbrev pub place_after : Bool → Place → Place
place_after true next = None
place_after false next = next

-- whether no head follows one that is refused for a version above 1.1: its body is chunked, or all the rest of the
-- stream
abbrev pub ends_too_new : Form → Bool
ends_too_new Rest = true
ends_too_new Chunked = true
ends_too_new _ = false

abbrev pub item_of : Message → Framing → Feed → Feed → Item
item_of m f body behind =
    if is_too_new m.version then Refuses VersionNotSupported (plainly (version 1 1)) (is_head_method m.method)
    (ends_too_new f.form) else Asks (record { message = m; framing = f; body = body; behind = behind })

-- where the next head begins after one with this message and framing
abbrev pub next_place : Message → Framing → Place → Place
next_place m f next = place_after (if is_too_new m.version then ends_too_new f.form else f.is_last) next

-- whether this is the item of a heading, if it has one, and `next` is where the next head begins
abbrev pub FoundAt : Stop → Heading → Option Item → Place → Type 0
FoundAt stop Silence item next = (item ≡ None) × (next ≡ None)
FoundAt stop (Refused refusal v) item next = (item ≡ Some (Refuses refusal v false true)) × (next ≡ None)
FoundAt stop (Heads m f after) item next =
    (body : Feed)
    × (behind : Place)
    × BodyAt f.by_standard f.form (body_length_or_0 f) after stop body behind
    × (item ≡ Some (item_of m f body (place_feed stop behind)))
    × (next ≡ next_place m f behind)

-- Whether the head at the front of these bytes is this item, if it is one, and `next` is where the next head begins.
abbrev pub OneHead : Profile → List ℕ → Stop → Option Item → Place → Type 0
OneHead p bytes stop item next = (heading : Heading) × HeadAt p bytes stop heading × FoundAt stop heading item next

-- THE PIPELINE: whether these are the items from a place on, one head after another, until the connection has ended
-- (RFC 9112, section 9.3.2).
abbrev pub Pipeline : Profile → Place → Stop → List Item → Type 0
Pipeline p None stop [] = ⊤
Pipeline p None stop (item ∷ items) = ⊥
Pipeline p (Some bytes) stop [] = OneHead p bytes stop None None
Pipeline p (Some bytes) stop (item ∷ items) =
    (next : Place) × OneHead p bytes stop (Some item) next × Pipeline p next stop items
