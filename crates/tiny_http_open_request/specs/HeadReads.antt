-- The effect on the input of the calls that read a head. If the feed before a call is `None`, because the reader
-- doesn't state its bytes, these relations say nothing about what the call reads.
use Rattle.std.specs.Prelude.{◌≡◌, ◌≢◌, ℕ, ◌+◌, ◌-◌, ⊤, ◌⊎◌, List, [], length, nat_lt, Option, Some, None, Result, Ok}
use Rattle.std.specs.Prelude.{Err, unwrap_or, Bool, true, false, MatchBool, IfSome, IfOk, IsErr, IsSome, if◌then◌else◌}
use Rattle.std.specs.declared.alloc.AllocError.{AllocError}
use Rattle.httpdate.specs.declared.date.HttpDate.{HttpDate}
use Rattle.tiny_http_head.specs.declared.common.Method.{Method}
use Rattle.tiny_http_head.specs.declared.common.HTTPVersion.{HTTPVersion}
use Rattle.tiny_http_head.specs.declared.common.Header.{Header}
use Rattle.tiny_http_io.specs.declared.device.Stop.{Stop}
use Rattle.tiny_http_io.specs.declared.device.Stop.TheVariants.{End, Fault}
use Rattle.tiny_http_io.specs.Device.{Feed}
use Rattle.tiny_http_text.specs.Bytes.{AreAscii}
use Rattle.tiny_http_text.specs.Lines.{Line, IsUnfinished}
use Rattle.tiny_http_head.specs.HeadReading as reading
use Rattle.tiny_http_head.specs.Heads.{Message as Texted, BeginsWithRequestLine, BeginsWithHeaderLines, HeaderLine}
use Rattle.tiny_http_head.specs.Heads.{FaultyLine, FaultyHead, IsRequestLine, IsFieldOrEnd, NotAscii, Malformed}
use Rattle.tiny_http_head.specs.Heads.{version}
use Rattle.tiny_http_open_request.specs.declared.heads.MessageHead.{MessageHead}
use Rattle.tiny_http_body.specs.declared.framing.Profile.{Profile}
use Rattle.tiny_http_body.specs.declared.framing.Profile.TheVariants as under
use Rattle.tiny_http_body.specs.declared.framing.HeadRules.{HeadRules}
use Rattle.tiny_http_body.specs.declared.framing.HeadRules.TheVariants as rules
use Rattle.tiny_http_standard_head.specs.declared.validation.HeadSummary.{HeadSummary}
use Rattle.tiny_http_standard_head.specs.Validation.{Validates}
use Rattle.tiny_http_standard_head.specs.Heads.{is_begun}
use Rattle.tiny_http_body.specs.declared.framing.Framing.{Framing}
use Rattle.tiny_http_open_request.specs.declared.exchange.Head.{Head}
use Rattle.tiny_http_open_request.specs.declared.exchange.Exchange.{Exchange}
use Rattle.tiny_http_open_request.specs.declared.exchange.EndOfRequests.{EndOfRequests}
use Rattle.tiny_http_open_request.specs.declared.exchange.EndOfRequests.TheVariants as because
use Rattle.tiny_http_io.specs.declared.source.InputState.{InputState}
use Rattle.tiny_http_io.specs.declared.source.InputState.TheVariants as at
use Rattle.tiny_http_io.specs.ToCome.{HasByte}
use Rattle.tiny_http_open_request.specs.declared.exchange.HeadRead.{HeadRead}
use Rattle.tiny_http_open_request.specs.declared.exchange.HeadRead.TheVariants as read
use Rattle.tiny_http_io.specs.declared.source.LineFault.{LineFault}
use Rattle.tiny_http_io.specs.declared.source.LineFault.TheVariants as linefault
use Rattle.tiny_http_open_request.specs.declared.heads.HeadFault.{HeadFault}
use Rattle.tiny_http_open_request.specs.declared.heads.HeadFault.TheVariants as fault
use Rattle.tiny_http_body.specs.declared.body.UnreadBody.{UnreadBody}
use Rattle.tiny_http_body.specs.FramingReading.{framing}
use Rattle.tiny_http_io.specs.declared.source.FirstLine.{FirstLine}
use Rattle.tiny_http_io.specs.Source.{SourceState, GoesOn, feed_from, FindsLine, IsShort, IsTooLong, IsAtEnd}
use Rattle.tiny_http_io.specs.Source.{seen_within}
use Rattle.tiny_http_open_request.specs.Pipeline.{place_feed, Manner, plainly, Request, Asks, Refuses, Refusal}
use Rattle.tiny_http_open_request.specs.Pipeline.{VersionNotSupported, refusal_status, is_timed_out, Place}
use Rattle.tiny_http_open_request.specs.Pipeline.{BeginsWithin, IsUnfinishedHead, IsTooLarge, IsCutWithHead}
use Rattle.tiny_http_open_request.specs.Pipeline.{IsCutHead, IsNotAsciiHead, BodyAt, OneHead, body_length_or_0}
use Rattle.tiny_http_open_request.specs.Pipeline.{place_after, served_version, standard_framing}
use Rattle.tiny_http_open_request.specs.ErrorResponse.{own_text, refusal_response, refused_text}
use Rattle.tiny_http_body.specs.Body.{Remaining, remaining, Fits}
use Rattle.tiny_http_open_request.specs.Exchange.{exchange_head, exchange_open, exchange_left, exchange_streams}
use Rattle.tiny_http_open_request.specs.Exchange.{exchange_body, KeepsRequest}
use Rattle.tiny_http_open_request.specs.declared.open_request.OpenRequest.{OpenRequest}
use Rattle.tiny_http_open_request.specs.OpenRequest.{KeepsHead}

-- the fault of a head whose next line can't be read
abbrev pub head_fault : LineFault → HeadFault
head_fault linefault.NotAscii = fault.NotAscii
head_fault linefault.TooLong = fault.TooLarge
head_fault linefault.Memory = fault.Memory
head_fault _ = fault.Cut

-- whether the fault of a head is that of a line which was read: one that isn't ASCII, or is malformed
abbrev pub IsBadLine : HeadFault → Type 0
IsBadLine fault.NotAscii = ⊤
IsBadLine fault.Malformed = ⊤
IsBadLine fault.Cut = ⊥
IsBadLine fault.TooLarge = ⊥
IsBadLine fault.Memory = ⊥

-- whether `left` is what is left of the limit after the part of `bytes` that precedes `rest`, or there is neither a
-- limit nor `left`
abbrev pub IsSpent : Option ℕ → List ℕ → Option ℕ → List ℕ → Type 0
IsSpent None bytes None rest = ⊤
IsSpent (Some limit) bytes (Some left) rest = limit + length rest ≡ left + length bytes
IsSpent _ bytes _ rest = ⊥

-- what is left of a limit after a line of n bytes and its CR LF
abbrev pub left_after : ℕ → Option ℕ → Option ℕ
left_after n None = None
left_after n (Some left) = Some (left - (n + 2))

-- whether this is the result of reading a text as a request line
abbrev pub StartIn : List ℕ → Result (Method × List ℕ × HTTPVersion) HeadFault → Type 0
StartIn text (Ok r) = AreAscii text × (reading.request_line text ≡ Some r)
StartIn text (Err fault.NotAscii) = AreAscii text → ⊥
StartIn text (Err fault.Malformed) = AreAscii text × (reading.request_line text ≡ None)
StartIn text (Err fault.Cut) = ⊥
StartIn text (Err fault.TooLarge) = ⊥
StartIn text (Err fault.Memory) = AreAscii text × IsSome (reading.request_line text)

-- whether this is the result of reading a text as a header line, or as the empty line
abbrev pub FieldIn : List ℕ → Result (Option Header) HeadFault → Type 0
FieldIn text (Ok None) = text ≡ []
FieldIn text (Ok (Some h)) = AreAscii text × (reading.header_line text ≡ Some h)
FieldIn text (Err fault.NotAscii) = AreAscii text → ⊥
FieldIn text (Err fault.Malformed) = AreAscii text × (text ≢ []) × (reading.header_line text ≡ None)
FieldIn text (Err fault.Cut) = ⊥
FieldIn text (Err fault.TooLarge) = ⊥
FieldIn text (Err fault.Memory) = AreAscii text × IsSome (reading.header_line text)

-- whether this is why there is no next line within this limit; always true if memory is refused
abbrev pub HasNoLine : Option ℕ → Option Feed → HeadFault → Type 0
HasNoLine left None e = ⊤
HasNoLine left (Some f) fault.Cut = IsUnfinished f.bytes × IsShort left f.bytes
HasNoLine left (Some f) fault.TooLarge = IsTooLong left f.bytes
HasNoLine left (Some f) fault.NotAscii = ⊥
HasNoLine left (Some f) fault.Malformed = ⊥
HasNoLine left (Some f) fault.Memory = ⊤

-- whether this is where the next line of a head is found, or why there is none
abbrev pub FindsText : Option ℕ → Option Feed → Option Feed → List ℕ → ℕ → Result FirstLine HeadFault → Type 0
FindsText left old new held skip (Ok line) = FindsLine left old new held skip (Ok line)
FindsText left old new held skip (Err e) = HasNoLine left old e × (IsBadLine e → ⊥)

-- whether the next line is unfinished, exceeds this limit, or isn't good (`IsGood`), as this fault says; always true if
-- memory is refused
abbrev pub IsFaulty : Option ℕ → (List ℕ → Type 0) → List ℕ → HeadFault → Type 0
IsFaulty left IsGood bytes fault.Cut = IsUnfinished bytes × IsShort left bytes
IsFaulty left IsGood bytes fault.TooLarge = IsTooLong left bytes
IsFaulty left IsGood bytes fault.NotAscii = FaultyLine IsGood (seen_within left bytes) NotAscii
IsFaulty left IsGood bytes fault.Malformed = FaultyLine IsGood (seen_within left bytes) Malformed
IsFaulty left IsGood bytes fault.Memory = ⊤

-- whether a call reads a request line within this limit, of which `left` is left, or reports why it can't
abbrev pub ReadsStart : Option ℕ → Option ℕ → Option Feed → Option Feed
    → Result (Method × List ℕ × HTTPVersion) HeadFault → Type 0
ReadsStart limit left None new r = ⊤
ReadsStart limit left (Some f) new (Ok r) =
    (rest : List ℕ)
    × BeginsWithRequestLine f.bytes r.0 r.1 r.2 rest
    × (new ≡ feed_from f rest)
    × IsSpent limit f.bytes left rest
ReadsStart limit left (Some f) new (Err e) = IsFaulty limit IsRequestLine f.bytes e

-- whether a call reads a header line, or the empty line, within this limit, of which `left` is left, or reports why it
-- can't
abbrev pub ReadsField : Option ℕ → Option ℕ → Option Feed → Option Feed → Result (Option Header) HeadFault → Type 0
ReadsField limit left None new r = ⊤
ReadsField limit left (Some f) new (Ok (Some h)) =
    (text : List ℕ)
    × (rest : List ℕ)
    × Line f.bytes text rest
    × AreAscii text
    × HeaderLine text h.field h.value
    × (new ≡ feed_from f rest)
    × IsSpent limit f.bytes left rest
ReadsField limit left (Some f) new (Ok None) =
    (rest : List ℕ) × Line f.bytes [] rest × (new ≡ feed_from f rest) × IsSpent limit f.bytes left rest
ReadsField limit left (Some f) new (Err e) = IsFaulty limit IsFieldOrEnd f.bytes e

-- whether these header lines were read within this limit, of which `left` is left
abbrev pub HasReadFields : Option ℕ → Option ℕ → Option Feed → Option Feed → List Header → Type 0
HasReadFields limit left None new hs = ⊤
HasReadFields limit left (Some f) new hs =
    (rest : List ℕ)
    × BeginsWithHeaderLines f.bytes hs rest
    × (new ≡ feed_from f rest)
    × IsSpent limit f.bytes left rest

-- whether a call reads all header lines and the empty line within this limit, of which `left` is left, or reports why
-- it can't
abbrev pub ReadsFields : {T : Type 0} → (T → List Header) → Option ℕ → Option ℕ → Option Feed → Option Feed
    → Result T HeadFault → Type 0
ReadsFields items limit left None new r = ⊤
ReadsFields items limit left (Some f) new (Ok hs) =
    (empty : List ℕ)
    × (rest : List ℕ)
    × BeginsWithHeaderLines f.bytes (items hs) empty
    × Line empty [] rest
    × (new ≡ feed_from f rest)
    × IsSpent limit f.bytes left rest
ReadsFields items limit left (Some f) new (Err e) =
    (hs : List Header)
    × (rest : List ℕ)
    × (now : Option ℕ)
    × BeginsWithHeaderLines f.bytes hs rest
    × IsSpent limit f.bytes now rest
    × IsFaulty now IsFieldOrEnd rest e

abbrev pub message_of : MessageHead → Texted
message_of m = record { method = m.method; path = m.path; version = m.version; headers = m.headers.items }

-- the message of a head: its method, target, version and headers
abbrev pub head_message : Head → Texted
head_message h = record { method = h.method; path = h.path; version = h.version; headers = h.headers.items }

abbrev pub head_framing : Head → Framing
head_framing h = h.framing

-- the request with this head, this body, and the feed that follows the body
abbrev pub request_of : Head → Feed → Feed → Request
request_of h body behind = record { message = head_message h; framing = head_framing h; body = body; behind = behind }

-- whether a head has this fault within this limit, with its version if that was read; always true if memory is refused
abbrev pub IsFaultyHead : Option ℕ → List ℕ → Option HTTPVersion → HeadFault → Type 0
IsFaultyHead limit bytes v fault.Cut = IsUnfinishedHead limit bytes v
IsFaultyHead limit bytes v fault.TooLarge = IsTooLarge limit bytes v
IsFaultyHead limit bytes v fault.NotAscii = FaultyHead (seen_within limit bytes) v NotAscii
IsFaultyHead limit bytes v fault.Malformed = FaultyHead (seen_within limit bytes) v Malformed
IsFaultyHead limit bytes v fault.Memory = ⊤

-- whether a call reads a complete head within this limit, or reports the head's fault
abbrev pub ReadsMessage : Option ℕ → Option Feed → Option Feed → Result MessageHead (Option HTTPVersion × HeadFault)
    → Type 0
ReadsMessage limit None new r = ⊤
ReadsMessage limit (Some f) new (Ok m) =
    (rest : List ℕ) × BeginsWithin limit f.bytes (message_of m) rest × (new ≡ feed_from f rest)
ReadsMessage limit (Some f) new (Err e) = IsFaultyHead limit f.bytes e.0 e.1

-- why no request follows if the input stopped in this way: after bytes of a head if `has_begun`, and otherwise before
-- the first byte of a head
abbrev pub cut_end : Stop → Bool → EndOfRequests
cut_end (Fault kind) has_begun = because.Fault kind
cut_end End true = because.Cut
cut_end End false = because.Closed

-- WHY NO REQUEST FOLLOWS under `Lenient` or `Strict`: whether this is the reason that these bytes are no head, and get
-- no response. The head, or a body that is read with it, is cut, and not by a timeout; or a line of it isn't ASCII.
abbrev pub RulesEndBy : HeadRules → List ℕ → Stop → EndOfRequests → Type 0
RulesEndBy p bytes stop why =
    (IsCutHead p bytes × (is_timed_out stop ≡ false) × (why ≡ cut_end stop (nat_lt 0 (length bytes))))
    ⊎ (IsNotAsciiHead p bytes × (why ≡ because.NotAscii))

-- Whether this is why no request follows, and there is no response. Under `Standard` the head is cut; a timeout before
-- its first byte gets no response.
abbrev pub EndsBy : Profile → List ℕ → Stop → EndOfRequests → Type 0
EndsBy under.Lenient bytes stop why = RulesEndBy rules.Lenient bytes stop why
EndsBy under.Strict bytes stop why = RulesEndBy rules.Strict bytes stop why
EndsBy under.Standard bytes stop why = why ≡ cut_end stop (is_begun bytes)

-- whether this is why no request follows in this input state: the previous body was discarded or broke off, or
-- otherwise what the input shows
abbrev pub EndsAt : Profile → InputState → List ℕ → Stop → EndOfRequests → Type 0
EndsAt p at.Abandoned bytes stop why = why ≡ because.AbandonedBody
EndsAt p (at.Broken kind) bytes stop why = why ≡ because.BrokenBody kind
EndsAt p _ bytes stop why = EndsBy p bytes stop why

-- why no request follows in this input state: the previous body was discarded or broke off, or otherwise `why`, what
-- the input shows
abbrev pub end_at : InputState → EndOfRequests → EndOfRequests
end_at at.Abandoned why = because.AbandonedBody
end_at (at.Broken kind) why = because.BrokenBody kind
end_at _ why = why

-- Whether a call refuses a head with this status, returns the text of the response, printed in this manner, and reports
-- that no head follows; or memory for that text is refused.
abbrev pub RefusesWith : ℕ → Manner → HttpDate → Result HeadRead AllocError → Type 0
RefusesWith status v date (Ok (read.Refused code text last)) =
    (code.0 ≡ status) × (text.items ≡ own_text status v false date) × (last ≡ true)
RefusesWith status v date (Ok _) = ⊥
RefusesWith status v date (Err e) = ⊤

-- Whether a call refuses a head for its version, returns the text of the response in version 1.1, without a body if
-- `no_body`, and reports whether no head follows (`last`), which is `ends`; or memory for that text is refused.
abbrev pub RefusesTooNew : Bool → Bool → HttpDate → Result HeadRead AllocError → Type 0
RefusesTooNew ends no_body date (Ok (read.Refused code text last)) =
    (code.0 ≡ 505)
    × (text.items ≡ refused_text (refusal_response VersionNotSupported) (plainly (version 1 1)) no_body date)
    × (last ≡ ends)
RefusesTooNew ends no_body date (Ok _) = ⊥
RefusesTooNew ends no_body date (Err e) = ⊤

-- Whether this is the result for a head that is cut by this stop: a 408 for a timeout, otherwise the end without a
-- response; or memory for the 408 is refused.
abbrev pub AnswersCut : Stop → Bool → Bool → HttpDate → Result HeadRead AllocError → Type 0
AnswersCut stop standard has_begun date r =
    MatchBool (is_timed_out stop) (RefusesWith 408 (record { version = version 1 1; by_standard = standard }) date r)
    (r ≡ Ok (read.Ended (cut_end stop has_begun)))

-- Whether this is the result for a head with this fault, with its version if that was read: a refusal, or why no
-- request follows; or memory for its line or for the response was refused. `stop` is how the input stopped if the head
-- is cut.
abbrev pub AnswersFault : Option HTTPVersion → HeadFault → Option Stop → HttpDate → Result HeadRead AllocError → Type 0
AnswersFault v fault.Malformed stop date r = RefusesWith 400 (plainly (unwrap_or v (version 1 1))) date r
AnswersFault v fault.Cut stop date r = IfSome stop (λ s. AnswersCut s false true date r)
AnswersFault v fault.TooLarge stop date r = RefusesWith 431 (plainly (unwrap_or v (version 1 1))) date r
AnswersFault v fault.NotAscii stop date r = r ≡ Ok (read.Ended because.NotAscii)
AnswersFault v fault.Memory stop date r = IsErr r

-- whether this body, and the feed at this place after it, are still to come
abbrev pub ComesWith : Option Remaining → Stop → Feed → Place → Type 0
ComesWith left stop body next = left ≡ Some (record { body = body; behind = place_feed stop next })

-- whether this is a body with this framing, of which nothing has been read
abbrev pub FitsFraming : Framing → UnreadBody → Type 0
FitsFraming f b = Fits f.by_standard b f.form (body_length_or_0 f) 0 false

-- Whether this is the body that begins at the input's position, or there is none (`None`) because the body is read with
-- its head and is cut.
abbrev pub Begins : Framing → Option Feed → Option Feed → Option UnreadBody → Type 0
Begins f None new b = ⊤
Begins f (Some x) new None = IsCutWithHead f.form (body_length_or_0 f) x.bytes
Begins f (Some x) new (Some b) =
    (IsCutWithHead f.form (body_length_or_0 f) x.bytes → ⊥)
    × (body : Feed)
    × (next : Place)
    × BodyAt f.by_standard f.form (body_length_or_0 f) x.bytes x.stop body next
    × ComesWith (remaining b new) x.stop body next × FitsFraming f b

-- whether the reader times out
abbrev pub TimesOut : Option Feed → Type 0
TimesOut None = ⊥
TimesOut (Some f) = is_timed_out f.stop ≡ true

-- whether a byte of a head arrives; or, except under `Standard`, the reader times out
abbrev pub HasByteOrTimedOut : Profile → Option Feed → Type 0
HasByteOrTimedOut p o = HasByte o ⊎ ((p ≢ under.Standard) × TimesOut o)

-- Whether `next` is the place after a refused head. If the flag is false, the input is at that place; if it is true,
-- the refused head was the last, and there is no place (`None`).
abbrev pub GoesOnAt : Bool → Stop → Place → Option Feed → Type 0
GoesOnAt true stop next new = next ≡ None
GoesOnAt false stop next new = new ≡ Some (place_feed stop next)

-- ONE HEAD, read at a position: whether a call returns the item found there, what is still to come of its body, and
-- where the next head begins after that, unless the request is the last; or why no request follows. Always true if
-- memory is refused.
abbrev pub ReadsHead : Profile → InputState → HttpDate → Option Feed → Option Feed → Result HeadRead AllocError → Type 0
ReadsHead p from_here date None new r = ⊤
ReadsHead p from_here date (Some f) new (Ok (read.Request x)) =
    (body : Feed)
    × (next : Place)
    × OneHead p f.bytes f.stop (Some (Asks (request_of (exchange_head x) body (place_feed f.stop next))))
    (place_after (exchange_head x).framing.is_last next)
    × ComesWith (exchange_left x new) f.stop body next × KeepsRequest x date
ReadsHead p from_here date (Some f) new (Ok (read.Refused status text last)) =
    (refusal : Refusal)
    × (v : Manner)
    × (no_body : Bool)
    × (next : Place)
    × OneHead p f.bytes f.stop (Some (Refuses refusal v no_body last)) next
    × (text.items ≡ refused_text (refusal_response refusal) v no_body date)
    × (status.0 ≡ refusal_status refusal)
    × GoesOnAt last f.stop next new
ReadsHead p from_here date (Some f) new (Ok (read.Ended why)) =
    OneHead p f.bytes f.stop None None × EndsAt p from_here f.bytes f.stop why
ReadsHead p from_here date (Some f) new (Err e) = ⊤

-- whether the source has ended after any result but a request, or a refused head that another one follows
abbrev pub EndsUnlessHanded : {R : Type 0} → Result HeadRead AllocError → SourceState R → Type 0
EndsUnlessHanded (Ok (read.Request x)) s = ⊤
EndsUnlessHanded (Ok (read.Refused status text false)) s = ⊤
EndsUnlessHanded _ s = IsAtEnd s

-- whether the source is at a position where a head begins, or would begin
abbrev pub IsBeforeHead : InputState → Type 0
IsBeforeHead at.Head = Unit {0}
IsBeforeHead at.Abandoned = Unit {0}
IsBeforeHead (at.Broken kind) = Unit {0}
IsBeforeHead at.Body = ⊥
IsBeforeHead at.Last = ⊥

-- whether the result is that no request follows
abbrev pub IsOkEnd : Result HeadRead AllocError → Type 0
IsOkEnd (Ok (read.Ended why)) = ⊤
IsOkEnd _ = ⊥

-- whether a request was read
abbrev pub IsRequest : HeadRead → Type 0
IsRequest (read.Request x) = ⊤
IsRequest _ = ⊥

-- whether a head was refused, with a status other than 408 and 431, and no head follows
abbrev pub IsRefusedUncut : HeadRead → Type 0
IsRefusedUncut (read.Refused status text last) = (status.0 ≢ 408) × (status.0 ≢ 431) × (last ≡ true)
IsRefusedUncut _ = ⊥

-- whether this is the framing of a message, according to its version and headers; under `Standard` that of a validated
-- head, in the version in which the request is served
abbrev pub IsFramedAs : Profile → Texted → Framing → Type 0
IsFramedAs under.Lenient m f = framing rules.Lenient m.version m.headers ≡ Ok f
IsFramedAs under.Strict m f = framing rules.Strict m.version m.headers ≡ Ok f
IsFramedAs under.Standard m f =
    (v : HTTPVersion)
    × (s : HeadSummary)
    × Validates v m.method m.headers (Ok s)
    × (m.version ≡ served_version v)
    × (f ≡ standard_framing s)

abbrev pub IsFramedHead : Profile → Head → Type 0
IsFramedHead p h = IsFramedAs p (head_message h) (head_framing h)

-- whether a head is framed as in `IsFramedAs`, and this is the open request for this head on this date
abbrev pub IsFramedBy : {B : Type 0} → Profile → HttpDate → Head → OpenRequest B → Type 0
IsFramedBy p date h kept = IsFramedHead p h × KeepsHead kept h date

-- whether a request that was read is framed as in `IsFramedAs`, and is kept as of this date
abbrev pub IsFramedRequest : Profile → HttpDate → HeadRead → Type 0
IsFramedRequest p date (read.Request x) =
    IsFramedBy p date (exchange_head x) (exchange_open x)
IsFramedRequest p date _ = ⊤

-- whether the body of a request that was read fits its framing
abbrev pub FitsHead : HeadRead → Type 0
FitsHead (read.Request x) = FitsFraming (head_framing (exchange_head x)) (exchange_body x)
FitsHead _ = ⊤

-- the input state after the head of this request
abbrev pub input_state_of : Exchange → InputState
input_state_of x =
    if (exchange_head x).framing.is_last then at.Last else if exchange_streams x then at.Body else at.Head

-- the input state after a call that reads a head
abbrev pub input_state_read : Result HeadRead AllocError → InputState → InputState
input_state_read (Ok (read.Request x)) old = input_state_of x
input_state_read (Ok (read.Refused status text false)) old = at.Head
input_state_read _ old = old

-- ONE CALL THAT READS A HEAD, in any input state: what it returns, and what becomes of the source.
pub record TakesHead {R : Type 0} (p : Profile) (date : HttpDate) (old new : SourceState R)
    (r : Result HeadRead AllocError) : Type 0 where
  -- Where a head would begin: the item found there, or why none follows. After any result but a request, or a refused
  -- head that the next one follows, the source has ended.
  pub reads : IsBeforeHead old.input_state → ReadsHead p old.input_state date old.feed new.feed r
  pub ends : IsBeforeHead old.input_state → EndsUnlessHanded r new
  -- After the last request nothing is read. Before the end of a body nothing is read, either, and the source ends
  -- there.
  pub last : old.input_state ≡ at.Last → (r ≡ Ok (read.Ended because.LastRequest)) × (new ≡ old)
  pub unread : old.input_state ≡ at.Body
      → (r ≡ Ok (read.Ended because.UnreadBody)) × IsAtEnd new × (new.reader ≡ old.reader)
  -- Only bytes at the front of the feed are consumed.
  pub goes_on : GoesOn old.feed new.feed
  -- Whatever the reader states: after the end of the source no head follows, and the reader isn't called.
  pub at_end : IsAtEnd old → IsOkEnd r × (new.reader ≡ old.reader)
  -- Unless the result is that no request follows, a byte of a head has arrived; or, except under `Standard`, the reader
  -- timed out. At the end of the source memory isn't refused.
  pub begun : (IsOkEnd r → ⊥) → HasByteOrTimedOut p old.feed
  -- Whatever the reader states: a request is framed as in `IsFramedAs`, its body fits that framing, and its open
  -- request is the one for its head.
  pub framed : IfOk r (IsFramedRequest p date)
  pub fits : IfOk r FitsHead
  -- Nothing is read ahead: if a request was read, no end or fault of the reader was met.
  pub lazy : IfOk r (λ x. IsRequest x → new.stop ≡ old.stop)
  pub input_state : new.input_state ≡ input_state_read r old.input_state
