-- The parts of a head, line by line.
use Rattle.std.specs.Prelude.{◌≡◌, ℕ, ◌+◌, ◌≤◌, List, [], length, Ok, Err}
use Rattle.tiny_http_text.specs.Bytes.{HasNo}
use Rattle.tiny_http_head.specs.declared.common.Header.{Header}
use Rattle.tiny_http_head.specs.Heads.{Message}
use Rattle.tiny_http_standard_head.specs.declared.heads.TheConstants.{MOST_HEADERS}
use Rattle.tiny_http_standard_head.specs.declared.heads.StandardFault.TheVariants.{Invalid}
use Rattle.tiny_http_standard_head.specs.declared.heads.StandardRead.{StandardRead}
use Rattle.tiny_http_standard_head.specs.declared.heads.StandardRead.TheVariants.{Whole, Refused}
use Rattle.tiny_http_standard_head.specs.declared.heads.NoLine.{NoLine}
use Rattle.tiny_http_standard_head.specs.declared.heads.NoLine.TheVariants as no
use Rattle.tiny_http_standard_head.specs.declared.heads.NoHead.{NoHead}
use Rattle.tiny_http_standard_head.specs.declared.heads.NoHead.TheVariants as stop
use Rattle.tiny_http_standard_head.specs.Lines.{IsNoRequestLine, IsNoFieldLine}
use Rattle.tiny_http_head.specs.Heads.{line_feed}
use Rattle.tiny_http_standard_head.specs.Heads.{Line, BeginsWithBareLine, behind_empty_line}
use Rattle.tiny_http_standard_head.specs.Heads.{BeginsWithFieldLines, BeginsWithBadLine, IsNoFieldOrEnd, HasBadLine}
use Rattle.tiny_http_standard_head.specs.Heads.{HasOpenRequestLine, HasOpenField, HasTooManyFields, BeginsWithHead}
use Rattle.tiny_http_standard_head.specs.Heads.{HasGoodRequestLine, message_of}
use Rattle.tiny_http_standard_head.specs.Validation.{Validates}

-- whether the bytes don't begin with a line, for this reason
abbrev pub HasNoLine : NoLine → List ℕ → Type 0
HasNoLine no.Bare bytes = BeginsWithBareLine bytes
HasNoLine no.Open bytes = HasNo line_feed bytes

-- whether parsing a request line from the bytes, after at most one empty line, fails for this reason; memory is needed
-- only for a valid request line
abbrev pub StopsRequest : List ℕ → NoHead → Type 0
StopsRequest bytes stop.Bad = BeginsWithBadLine IsNoRequestLine (behind_empty_line bytes)
StopsRequest bytes stop.OpenRequest = HasNo line_feed (behind_empty_line bytes)
StopsRequest bytes stop.OpenField = ⊥
StopsRequest bytes stop.TooMany = ⊥
StopsRequest bytes stop.Memory = HasGoodRequestLine bytes

-- whether the bytes begin with a valid field line
abbrev pub HasGoodFieldLine : List ℕ → Type 0
HasGoodFieldLine bytes = (text : List ℕ) × (rest : List ℕ) × Line bytes text rest × (IsNoFieldLine text → ⊥)

-- whether parsing field lines, at most MOST_HEADERS, and an empty line from the bytes fails for this reason; memory is
-- needed only if the first line is a valid field line
abbrev pub StopsFields : List ℕ → NoHead → Type 0
StopsFields bytes stop.Bad =
    (headers : List Header)
    × (rest : List ℕ)
    × BeginsWithFieldLines bytes headers rest
    × (length headers ≤ MOST_HEADERS)
    × BeginsWithBadLine IsNoFieldOrEnd rest
StopsFields bytes stop.OpenRequest = ⊥
StopsFields bytes stop.OpenField =
    (headers : List Header)
    × (rest : List ℕ)
    × BeginsWithFieldLines bytes headers rest
    × (length headers ≤ MOST_HEADERS)
    × HasNo line_feed rest
StopsFields bytes stop.TooMany =
    (headers : List Header)
    × (rest : List ℕ)
    × BeginsWithFieldLines bytes headers rest
    × (length headers ≡ MOST_HEADERS + 1)
StopsFields bytes stop.Memory = HasGoodFieldLine bytes

-- whether the bytes are these field lines, at most MOST_HEADERS, an empty line, and `after`
abbrev pub EndsFields : List ℕ → List Header → List ℕ → Type 0
EndsFields bytes headers after =
    (empty : List ℕ)
    × BeginsWithFieldLines bytes headers empty
    × (length headers ≤ MOST_HEADERS)
    × Line empty [] after

-- whether parsing a complete head from the bytes fails for this reason; memory is needed only if the request line is
-- valid
abbrev pub StopsHead : List ℕ → NoHead → Type 0
StopsHead bytes stop.Bad = HasBadLine bytes
StopsHead bytes stop.OpenRequest = HasOpenRequestLine bytes
StopsHead bytes stop.OpenField = HasOpenField bytes
StopsHead bytes stop.TooMany = HasTooManyFields bytes
StopsHead bytes stop.Memory = HasGoodRequestLine bytes

-- whether a complete head was read from the bytes with this result: either the head with its length in bytes and its
-- summary, or the error of its validation
abbrev pub ReadsWhole : List ℕ → StandardRead → Type 0
ReadsWhole bytes (Whole h) =
    (after : List ℕ)
    × BeginsWithHead bytes (message_of h) after
    × (h.length + length after ≡ length bytes)
    × Validates h.version h.method h.headers.items (Ok h.summary)
ReadsWhole bytes (Refused (Invalid refusal)) =
    (m : Message)
    × (after : List ℕ)
    × BeginsWithHead bytes m after
    × Validates m.version m.method m.headers (Err refusal)
ReadsWhole bytes _ = ⊥
