-- Reading a chunk-size line or a trailer line of a chunked body, byte by byte.
use Rattle.std.specs.Prelude.{◌≡◌, ℕ, ◌<◌, Bool, true, false, ◌==◌, List, [], ◌∷◌, ◌++◌, length, Option, Some, None, ⊤}
use Rattle.std.specs.declared.io.ErrorKind.{ErrorKind}
use Rattle.tiny_http_io.specs.declared.device.Stop.{Stop}
use Rattle.tiny_http_text.specs.Bytes.{crlf}
use Rattle.tiny_http_io.specs.Device.{Feed, prepended, fault_of}
use Rattle.tiny_http_head.specs.Heads.{line_feed}
use Rattle.tiny_http_body.specs.Chunks.{IsShortLineBy, ChunkLineFaultBy}
use Rattle.tiny_http_body.specs.declared.chunked.ChunkRules.{ChunkRules}
use Rattle.tiny_http_body.specs.declared.chunked.ChunkRules.TheVariants.{Lenient, Standard}
use Rattle.tiny_http_body.specs.declared.chunked.size.Size.TheVariants as size
use Rattle.tiny_http_body.specs.declared.chunked.field.Field.TheVariants as field
use Rattle.tiny_http_body.specs.declared.chunked.line.Said.{Said}
use Rattle.tiny_http_body.specs.declared.chunked.line.ChunkLine.{ChunkLine}
use Rattle.tiny_http_body.specs.declared.chunked.line.Scan.{Scan}
use Rattle.tiny_http_body.specs.ChunkSize.{size_step, standard_step}
use Rattle.tiny_http_body.specs.ChunkField.{field_step, is_whole_field}

-- the meaning of a line after one more byte
abbrev pub said_step : ChunkRules → Said → ℕ → Said
said_step Lenient said b = record { size = size_step said.size b; field = said.field }
said_step Standard said b = record { size = standard_step said.size b; field = field_step said.field b }

-- the meaning of a line after these bytes
abbrev pub said_after : ChunkRules → Said → List ℕ → Said
said_after rules said [] = said
said_after rules said (b ∷ bs) = said_after rules (said_step rules said b) bs

-- the meaning of a line before its first byte
abbrev pub nothing_said : Said
nothing_said = record { size = size.Blank; field = field.Empty }

-- whether a nonempty line with this meaning may be a trailer line under these rules
abbrev pub is_trailer_said : ChunkRules → Said → Bool
is_trailer_said Lenient said = true
is_trailer_said Standard said = is_whole_field said.field

-- whether a byte that doesn't end the line is malformed: under `Standard`, an LF is
abbrev pub breaks_line : ChunkRules → ℕ → Bool
breaks_line Lenient b = false
breaks_line Standard b = b == line_feed

-- the scan after one more byte; the flags say whether a CR came before it and whether it is a CR. A CR is held back,
-- since it may begin the end of the line.
abbrev pub scan_with : ChunkRules → Said → Bool → ℕ → Bool → Scan
scan_with rules said false b true = record { said = said; after_return = true }
scan_with rules said false b false = record { said = said_step rules said b; after_return = false }
scan_with rules said true b true = record { said = said_step rules said 13; after_return = true }
scan_with rules said true b false = record { said = said_step rules (said_step rules said 13) b; after_return = false }

-- the scan after one more byte that doesn't end the line
abbrev pub scan_step : ChunkRules → Scan → ℕ → Scan
scan_step rules s b = scan_with rules s.said s.after_return b (b == 13)

-- whether this line was consumed, with its CR LF
pub record OneLine (rules : ChunkRules) (old new : Option Feed) (line : ChunkLine) : Type 0 where
  pub text : List ℕ
  pub gives : old ≡ prepended (text ++ crlf) new
  pub short : IsShortLineBy rules text
  pub length_is : line.length ≡ length text
  pub said_is : line.said ≡ said_after rules nothing_said text

-- whether each of the bytes was needed: with fewer of them, the stop after those would be reported instead of the line
abbrev pub AreNeeded : ChunkRules → List ℕ → Type 0
AreNeeded rules gone =
    (front more : List ℕ) (stop : Stop)
    → gone ≡ front ++ more
    → 0 < length more
    → ChunkLineFaultBy rules front stop (fault_of stop)

-- whether there is no line where one must be, with a fault of this kind, and no more bytes were consumed than show the
-- fault
pub record NoLine (rules : ChunkRules) (old new : Option Feed) (kind : ErrorKind) : Type 0 where
  pub gone : List ℕ
  pub gives : old ≡ prepended gone new
  pub fault : (feed : Feed) → new ≡ Some feed → ChunkLineFaultBy rules (gone ++ feed.bytes) feed.stop kind
  pub needed : AreNeeded rules gone

-- whether no byte is left of the feed and this kind reports its stop, if the feed is stated
abbrev pub CutBy : ErrorKind → Option Feed → Type 0
CutBy kind None = ⊤
CutBy kind (Some feed) = (feed.bytes ≡ []) × (kind ≡ fault_of feed.stop)
