-- What a browser reads from the bytes of a `text/event-stream` (HTML standard, section 9.2.6). The standard decodes the
-- bytes as UTF-8 first, which changes no text that is UTF-8 already.
use Rattle.std.specs.Prelude.{◌≡◌, ℕ, Bool, not, ◌&&◌, ◌||◌, ◌==◌, List, [], ◌∷◌, ◌++◌, drop, codes}
use Rattle.std.specs.Prelude.{Option, Some, None, if◌then◌else◌, IsTrue}
use Rattle.std.specs.List.{list_all, list_any, starts_with, join_with_byte}
use Rattle.std.specs.Str.{bytes_eq, all_ascii_digits}
use Rattle.std.specs.Str.Parse.{digits_value}
use Rattle.tiny_http_text.specs.Bytes.{parts, colon, space}
use Rattle.tiny_http_text.specs.QualityReading.{cut}

abbrev pub line_feed : ℕ
line_feed = 10

-- whether the byte is a CR or an LF
abbrev pub ends_line : ℕ → Bool
ends_line b = b == 13 || b == 10

-- whether the text has no CR and no LF
abbrev pub IsOneLine : List ℕ → Type 0
IsOneLine text = IsTrue (list_all (λ b. not (ends_line b)) text)

-- whether the text contains a NUL
abbrev pub has_nul : List ℕ → Bool
has_nul text = list_any (λ b. b == 0) text

-- a byte that no LF follows, with a CR as an LF
abbrev pub as_line_feed : ℕ → ℕ
as_line_feed b = if b == 13 then line_feed else b

-- the text with each CR LF, and each other CR, as an LF
abbrev pub with_line_feeds : List ℕ → List ℕ
with_line_feeds [] = []
with_line_feeds (b ∷ []) = as_line_feed b ∷ []
with_line_feeds (b ∷ c ∷ cs) =
    if b == 13 && c == 10 then with_line_feeds (c ∷ cs) else as_line_feed b ∷ with_line_feeds (c ∷ cs)

abbrev pub all_but_last : List (List ℕ) → List (List ℕ)
all_but_last [] = []
all_but_last (line ∷ []) = []
all_but_last (line ∷ next ∷ more) = line ∷ all_but_last (next ∷ more)

-- the lines of the bytes: a CR LF, an LF or a CR ends each; bytes after the last end aren't a line
abbrev pub lines : List ℕ → List (List ℕ)
lines bytes = all_but_last (parts line_feed (with_line_feeds bytes))

-- an event that a browser dispatches: its type, its data, and the last event ID with it
pub record Dispatched : Type 0 where
  pub name : List ℕ
  pub text : List ℕ
  pub last_id : List ℕ

-- A browser that reads a stream: the events dispatched so far, the reconnection time in milliseconds if the stream has
-- set it, the last event ID, which it sends when it reconnects; and of the event that it reads, the buffers of its ID,
-- its type and its data lines.
pub record Browser : Type 0 where
  pub events : List Dispatched
  pub retry : Option ℕ
  pub last_id : List ℕ
  pub id : List ℕ
  pub name : List ℕ
  pub texts : List (List ℕ)

abbrev pub name_or_message : List ℕ → List ℕ
name_or_message [] = codes "message"
name_or_message (b ∷ bs) = b ∷ bs

-- an empty line: dispatches the event if it has a data line
abbrev pub dispatched : List (List ℕ) → Browser → Browser
dispatched [] s = record s { last_id = s.id; name = []; texts = [] }
dispatched (line ∷ more) s =
    let event : Dispatched = record
    { name = name_or_message s.name; text = join_with_byte line_feed (line ∷ more); last_id = s.id } in
    record s { events = s.events ++ event ∷ []; last_id = s.id; name = []; texts = [] }

abbrev pub is_number : List ℕ → Bool
is_number value = not (bytes_eq value []) && all_ascii_digits value

-- a field: `data` adds a data line, `event` names the event, `id` sets its ID unless it contains a NUL, `retry` sets
-- the reconnection time if it is digits alone; any other field is ignored, and so is a comment, whose name is empty
abbrev pub with_field : List ℕ → List ℕ → Browser → Browser
with_field name value s =
    if bytes_eq name (codes "data") then record s { texts = s.texts ++ value ∷ [] }
    else (if bytes_eq name (codes "event") then record s { name = value }
    else (if bytes_eq name (codes "id") && not (has_nul value) then record s { id = value }
    else (if bytes_eq name (codes "retry") && is_number value then record s { retry = Some (digits_value 10 value) }
    else s)))

abbrev pub without_space : List ℕ → List ℕ
without_space [] = []
without_space (b ∷ bs) = if b == space then bs else b ∷ bs

-- a line with a field: the name before the first colon, and the value after it without one leading space; without a
-- colon, the line is the name
abbrev pub with_field_line : List ℕ → Option (List ℕ × List ℕ) → Browser → Browser
with_field_line line None s = with_field line [] s
with_field_line line (Some field) s = with_field field.0 (without_space field.1) s

abbrev pub after_line : List ℕ → Browser → Browser
after_line [] s = dispatched s.texts s
after_line (b ∷ bs) s = with_field_line (b ∷ bs) (cut colon (b ∷ bs)) s

abbrev pub after_lines : List (List ℕ) → Browser → Browser
after_lines [] s = s
after_lines (line ∷ more) s = after_lines more (after_line line s)

-- the browser after these further bytes, which begin a line
unfoldable pub reads : Browser → List ℕ → Browser
reads s bytes = after_lines (lines bytes) s

-- the bytes without a byte order mark at their beginning
abbrev pub without_mark : List ℕ → List ℕ
without_mark bytes = if starts_with ◌==◌ bytes (239 ∷ 187 ∷ 191 ∷ []) then drop 3 bytes else bytes

-- the browser after a whole stream; an event that it ends within isn't dispatched
abbrev pub reads_stream : Browser → List ℕ → Browser
reads_stream s bytes = reads s (without_mark bytes)

-- whether the browser has read nothing of the next event
pub record IsBetweenEvents (s : Browser) : Type 0 where
  pub no_name : s.name ≡ []
  pub no_texts : s.texts ≡ []
