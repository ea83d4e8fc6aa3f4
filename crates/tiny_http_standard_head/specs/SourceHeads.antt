-- Reading a head from a source: the result, and the input that is left after it.
use Rattle.std.specs.Prelude.{◌≡◌, ◌≢◌, ℕ, ◌+◌, ◌-◌, ◌<◌, ◌≤◌, ◌⊎◌, ⊤, Bool, true, ◌||◌, ◌==◌, not, List, [], ◌∷◌}
use Rattle.std.specs.Prelude.{◌++◌}
use Rattle.std.specs.Prelude.{length, take, drop, Option, Some, None, Result, Ok, Err, IsTrue, IsErr}
use Rattle.std.specs.Global.{Vec}
use Rattle.std.specs.declared.alloc.AllocError.{AllocError}
use Rattle.tiny_http_text.specs.Bytes.{HasNo, has_bare_end}
use Rattle.tiny_http_io.specs.Device.{Feed, prepended}
use Rattle.tiny_http_io.specs.Source.{feed_from}
use Rattle.tiny_http_head.specs.declared.common.Method.{Method}
use Rattle.tiny_http_head.specs.declared.common.HTTPVersion.{HTTPVersion}
use Rattle.tiny_http_head.specs.declared.common.Header.{Header}
use Rattle.tiny_http_standard_head.specs.declared.heads.StandardFault.{StandardFault}
use Rattle.tiny_http_standard_head.specs.declared.heads.StandardFault.TheVariants.{BadLine, RequestLineTooLong}
use Rattle.tiny_http_standard_head.specs.declared.heads.StandardFault.TheVariants.{HeaderFieldsTooLarge, TooManyFields}
use Rattle.tiny_http_standard_head.specs.declared.heads.StandardRead.{StandardRead}
use Rattle.tiny_http_standard_head.specs.declared.heads.StandardRead.TheVariants as read
use Rattle.tiny_http_standard_head.specs.declared.source_lines.NoLine.{NoLine}
use Rattle.tiny_http_standard_head.specs.declared.source_lines.NoLine.TheVariants as no_line
use Rattle.tiny_http_standard_head.specs.declared.source_heads.NoHead.{NoHead}
use Rattle.tiny_http_standard_head.specs.declared.source_heads.NoHead.TheVariants.{Refused, Unfinished, Memory}
use Rattle.tiny_http_standard_head.specs.Lines.{ReadsRequestLine, IsNoRequestLine, ReadsFieldLine, IsNoFieldLine}
use Rattle.tiny_http_standard_head.specs.declared.heads.NoHead.TheVariants as stop
use Rattle.tiny_http_standard_head.specs.Validation.{Validates}
use Rattle.tiny_http_standard_head.specs.HeadParts.{StopsFields, EndsFields}
use Rattle.tiny_http_head.specs.Heads.{line_feed}
use Rattle.tiny_http_standard_head.specs.Heads.{carriage_return, is_carriage_return, Line}
use Rattle.tiny_http_standard_head.specs.Heads.{behind_empty_line, BeginsWithRequestLine, BeginsWithFieldLines}
use Rattle.tiny_http_standard_head.specs.Heads.{BeginsWithBadLine, IsNoFieldOrEnd, HasOpenRequestLine, is_begun}
use Rattle.tiny_http_standard_head.specs.Heads.{HasGoodRequestLine, Reads}

-- whether the line is malformed: it doesn't end with a CR, or its text satisfies `IsBad`
abbrev pub IsBadLine : (List ℕ → Type 0) → List ℕ → Type 0
IsBadLine IsBad line =
    IsTrue (has_bare_end is_carriage_return line)
    ⊎ ((text : List ℕ) × (line ≡ text ++ carriage_return ∷ []) × IsBad text)

-- whether the line is valid: it ends with a CR, and its text doesn't satisfy `IsBad`
abbrev pub IsGoodLine : (List ℕ → Type 0) → List ℕ → Type 0
IsGoodLine IsBad line = (text : List ℕ) × (line ≡ text ++ carriage_return ∷ []) × (IsBad text → ⊥)

-- whether the text is neither empty nor a request line
abbrev pub IsNoRequestOrEmpty : List ℕ → Type 0
IsNoRequestOrEmpty text = (text ≢ []) × IsNoRequestLine text

-- whether a line is read with this result: as a request line, as the empty line, or as a malformed line; memory is
-- needed only for a request line
abbrev pub RequestIn : List ℕ → Result (Option (Method × List ℕ × HTTPVersion)) NoHead → Type 0
RequestIn line (Ok None) = line ≡ carriage_return ∷ []
RequestIn line (Ok (Some r)) =
    (text : List ℕ) × (line ≡ text ++ carriage_return ∷ []) × ReadsRequestLine text r.0 r.1 r.2
RequestIn line (Err (Refused BadLine)) = IsBadLine IsNoRequestOrEmpty line
RequestIn line (Err Memory) = IsGoodLine IsNoRequestLine line
RequestIn line (Err _) = ⊥

-- whether a line is read with this result: as a field line, as the empty line, or as a malformed line; memory is needed
-- only for a field line
abbrev pub FieldIn : List ℕ → Result (Option Header) NoHead → Type 0
FieldIn line (Ok None) = line ≡ carriage_return ∷ []
FieldIn line (Ok (Some h)) = (text : List ℕ) × (line ≡ text ++ carriage_return ∷ []) × ReadsFieldLine text h
FieldIn line (Err (Refused BadLine)) = IsBadLine IsNoFieldOrEnd line
FieldIn line (Err Memory) = IsGoodLine IsNoFieldLine line
FieldIn line (Err _) = ⊥

-- the reason why no head was read if no line was found; `later` says whether the request line has already been read
abbrev pub no_head : NoLine → StandardFault → Bool → NoHead
no_head (no_line.Cut has_begun) too_long later = Unfinished (has_begun || later)
no_head no_line.TooLong too_long later = Refused too_long
no_head no_line.Memory too_long later = Memory

-- whether no head was read because the source stopped before the end of the head
abbrev pub IsUnfinished : NoHead → Type 0
IsUnfinished (Unfinished has_begun) = ⊤
IsUnfinished _ = ⊥

-- whether the result is `Unfinished`: the source stopped before the end of the head
abbrev pub IsUnfinishedRead : StandardRead → Type 0
IsUnfinishedRead (read.Unfinished has_begun) = ⊤
IsUnfinishedRead _ = ⊥

-- whether the limit shrank from `limit` to `left` by the number of bytes taken: those of `bytes` before `rest`
abbrev pub IsSpent : ℕ → List ℕ → ℕ → List ℕ → Type 0
IsSpent limit bytes left rest = limit + length rest ≡ left + length bytes

-- whether the line `text` was taken from the front of the feed with its CR LF, and is within the limit
pub record TakesText (limit left : ℕ) (f : Feed) (new : Option Feed) (text : List ℕ) : Type 0 where
  pub rest : List ℕ
  pub line : Line (take limit f.bytes) text (take left rest)
  pub goes : new ≡ feed_from f rest
  pub spent : IsSpent limit f.bytes left rest

-- whether the limit was reached before the end of a line
abbrev pub IsLong : ℕ → List ℕ → Type 0
IsLong limit bytes = HasNo line_feed (take limit bytes) × (limit ≤ length bytes)

-- whether the bytes ended before the end of a line and before the limit
abbrev pub IsShort : ℕ → List ℕ → Type 0
IsShort limit bytes = HasNo line_feed bytes × (length bytes < limit)

-- The effect on the limit and the feed of reading a request line or an empty line.
abbrev pub ReadsRequest : ℕ → ℕ → Option Feed → Option Feed → Result (Option (Method × List ℕ × HTTPVersion)) NoHead
    → Type 0
ReadsRequest limit left None new r = ⊤
ReadsRequest limit left (Some f) new (Ok None) = TakesText limit left f new []
ReadsRequest limit left (Some f) new (Ok (Some r)) =
    (text : List ℕ) × TakesText limit left f new text × ReadsRequestLine text r.0 r.1 r.2
ReadsRequest limit left (Some f) new (Err (Refused BadLine)) = BeginsWithBadLine IsNoRequestOrEmpty (take limit f.bytes)
ReadsRequest limit left (Some f) new (Err (Refused RequestLineTooLong)) = IsLong limit f.bytes
ReadsRequest limit left (Some f) new (Err (Unfinished has_begun)) =
    IsShort limit f.bytes × (has_begun ≡ not (length f.bytes == 0))
ReadsRequest limit left (Some f) new (Err Memory) = ⊤
ReadsRequest limit left (Some f) new (Err _) = ⊥

-- The effect on the limit and the feed of reading a field line or the empty line.
abbrev pub ReadsField : ℕ → ℕ → Option Feed → Option Feed → Result (Option Header) NoHead → Type 0
ReadsField limit left None new r = ⊤
ReadsField limit left (Some f) new (Ok None) = TakesText limit left f new []
ReadsField limit left (Some f) new (Ok (Some h)) =
    (text : List ℕ) × TakesText limit left f new text × ReadsFieldLine text h
ReadsField limit left (Some f) new (Err (Refused BadLine)) = BeginsWithBadLine IsNoFieldOrEnd (take limit f.bytes)
ReadsField limit left (Some f) new (Err (Refused HeaderFieldsTooLarge)) = IsLong limit f.bytes
ReadsField limit left (Some f) new (Err (Unfinished has_begun)) = IsShort limit f.bytes × (has_begun ≡ true)
ReadsField limit left (Some f) new (Err Memory) = ⊤
ReadsField limit left (Some f) new (Err _) = ⊥

-- whether memory was needed for the first line: either the line is valid, or it isn't entirely in the buffer, because
-- some of its bytes were already taken from the source or because the buffered bytes within the limit contain no LF
abbrev pub LacksMemory : (List ℕ → Type 0) → ℕ → Feed → Option Feed → List ℕ → Type 0
LacksMemory IsBad limit f new held =
    ((text : List ℕ) × (rest : List ℕ) × Line (take limit f.bytes) text rest × (IsBad text → ⊥))
    ⊎ ((gone : List ℕ)
    × (Some f ≡ prepended gone new)
    × HasNo line_feed gone
    × (gone ≡ [] → HasNo line_feed (take limit held)))

-- whether memory was needed for the request line, after at most one empty line: the line is valid, or isn't whole in
-- the buffer
abbrev pub LacksMemoryAtStart : ℕ → Feed → Option Feed → List ℕ → Type 0
LacksMemoryAtStart limit f new held =
    HasGoodRequestLine (take limit f.bytes)
    ⊎ ((gone : List ℕ)
    × (Some f ≡ prepended gone new)
    × HasNo line_feed (behind_empty_line gone)
    × (behind_empty_line gone ≡ [] → HasNo line_feed (take (limit - length gone) held)))

-- The effect on the limit and the feed of reading the request line, after at most one empty line.
abbrev pub ReadsStart : ℕ → ℕ → Option Feed → Option Feed → Result (Method × List ℕ × HTTPVersion) NoHead → Type 0
ReadsStart limit left None new r = ⊤
ReadsStart limit left (Some f) new (Ok r) =
    (rest : List ℕ)
    × BeginsWithRequestLine (take limit f.bytes) r.0 r.1 r.2 (take left rest)
    × (new ≡ feed_from f rest)
    × IsSpent limit f.bytes left rest
ReadsStart limit left (Some f) new (Err (Refused BadLine)) =
    BeginsWithBadLine IsNoRequestLine (behind_empty_line (take limit f.bytes))
ReadsStart limit left (Some f) new (Err (Refused RequestLineTooLong)) =
    HasOpenRequestLine (take limit f.bytes) × (limit ≤ length f.bytes)
ReadsStart limit left (Some f) new (Err (Unfinished has_begun)) =
    HasOpenRequestLine (take limit f.bytes) × (length f.bytes < limit) × (has_begun ≡ is_begun f.bytes)
ReadsStart limit left (Some f) new (Err Memory) = ⊤
ReadsStart limit left (Some f) new (Err _) = ⊥

-- whether these field lines were read, and the limit and the feed shrank by their bytes
abbrev pub HasReadFields : ℕ → ℕ → Option Feed → Option Feed → List Header → Type 0
HasReadFields limit left None new headers = ⊤
HasReadFields limit left (Some f) new headers =
    (rest : List ℕ)
    × BeginsWithFieldLines (take limit f.bytes) headers (take left rest)
    × (new ≡ feed_from f rest)
    × IsSpent limit f.bytes left rest

-- The effect on the limit and the feed of reading all field lines and the empty line.
abbrev pub ReadsFields : ℕ → ℕ → Option Feed → Option Feed → Result (Vec Header) NoHead → Type 0
ReadsFields limit left None new r = ⊤
ReadsFields limit left (Some f) new (Ok headers) =
    (rest : List ℕ)
    × EndsFields (take limit f.bytes) headers.items (take left rest)
    × (new ≡ feed_from f rest)
    × IsSpent limit f.bytes left rest
ReadsFields limit left (Some f) new (Err (Refused BadLine)) = StopsFields (take limit f.bytes) stop.Bad
ReadsFields limit left (Some f) new (Err (Refused HeaderFieldsTooLarge)) =
    StopsFields (take limit f.bytes) stop.OpenField × (limit ≤ length f.bytes)
ReadsFields limit left (Some f) new (Err (Refused TooManyFields)) = StopsFields (take limit f.bytes) stop.TooMany
ReadsFields limit left (Some f) new (Err (Unfinished has_begun)) =
    StopsFields (take limit f.bytes) stop.OpenField × (length f.bytes < limit) × (has_begun ≡ true)
ReadsFields limit left (Some f) new (Err Memory) = ⊤
ReadsFields limit left (Some f) new (Err _) = ⊥

-- whether this is the result of reading a head if none was read, for this reason
abbrev pub IsWithoutHead : NoHead → Result StandardRead AllocError → Type 0
IsWithoutHead (Refused fault) r = r ≡ Ok (read.Refused fault)
IsWithoutHead (Unfinished has_begun) r = r ≡ Ok (read.Unfinished has_begun)
IsWithoutHead Memory r = IsErr r

-- whether the input continues directly after the head, if a complete one was read
abbrev pub LeavesBehind : Feed → Option Feed → StandardRead → Type 0
LeavesBehind f new (read.Whole h) = new ≡ feed_from f (drop h.length f.bytes)
LeavesBehind f new _ = ⊤

-- A HEAD OF A SOURCE: whether `r` is the result of reading a head from the bytes still to come and, if the head is
-- complete, the input continues directly after it
abbrev pub ReadsFrom : ℕ → Option Feed → Option Feed → StandardRead → Type 0
ReadsFrom limit None new r = ⊤
ReadsFrom limit (Some f) new r = Reads limit f.bytes r × LeavesBehind f new r

-- whether the head, if a complete one was read, passed validation and has the summary that validation gives; unlike
-- ReadsFrom, this doesn't depend on the source's feed
abbrev pub IsValidated : StandardRead → Type 0
IsValidated (read.Whole h) = Validates h.version h.method h.headers.items (Ok h.summary)
IsValidated _ = ⊤
