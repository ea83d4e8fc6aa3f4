-- Functions that compute what a client reads, which the relation `ReadsAnswer` defines.
use Rattle.std.specs.Prelude.{ℕ, zero, suc, ◌+◌, Bool, true, false, not, ◌&&◌, ◌==◌, nat_lt, nat_le, List, [], ◌∷◌}
use Rattle.std.specs.Prelude.{length, take, drop, Option, Some, None, Result, Ok, Err, if◌then◌else◌, codes, decimal}
use Rattle.std.specs.List.{list_all}
use Rattle.std.specs.Str.{bytes_eq}
use Rattle.std.specs.Str.Parse.{digits_value}
use Rattle.std.specs.declared.io.ErrorKind.{ErrorKind}
use Rattle.std.specs.declared.io.ErrorKind.TheVariants.{InvalidData}
use Rattle.tiny_http_head.specs.declared.common.Method.{Method}
use Rattle.tiny_http_head.specs.declared.common.HTTPVersion.{HTTPVersion}
use Rattle.tiny_http_head.specs.declared.common.Header.{Header}
use Rattle.tiny_http_io.specs.declared.device.Stop.TheVariants.{End}
use Rattle.tiny_http_text.specs.Bytes.{is_ascii, is_blank, has_bare_front, space, colon, point}
use Rattle.tiny_http_head.specs.HeadReading.{line}
use Rattle.tiny_http_text.specs.QualityReading.{cut}
use Rattle.tiny_http_body.specs.ChunkReading.{decoded}
use Rattle.tiny_http_client.specs.ClientAnswer.{is_space, AnswerHead, ClientAnswer, is_interim, Extent, NoBody}
use Rattle.tiny_http_client.specs.ClientAnswer.{OfChunks, OfLength, OfUnknownLength, extent, Lack, Unfinished}
use Rattle.tiny_http_client.specs.ClientAnswer.{Invalid}

-- the number that the text writes in decimal without leading zeros, if it is at most `most`
unfoldable pub decimal_read : ℕ → List ℕ → Option ℕ
decimal_read most text =
    if bytes_eq text (decimal (digits_value 10 text))
    && nat_le (digits_value 10 text) most then Some (digits_value 10 text) else None

abbrev pub with_rest : List ℕ → Option ℕ → Option (ℕ × List ℕ)
with_rest rest None = None
with_rest rest (Some n) = Some (n, rest)

abbrev pub decimal_of : ℕ → Option (List ℕ × List ℕ) → Option (ℕ × List ℕ)
decimal_of most None = None
decimal_of most (Some l) = with_rest l.1 (decimal_read most l.0)

-- the number before the first c, if it is at most `most`, and the text after that c
abbrev pub decimal_until : ℕ → ℕ → List ℕ → Option (ℕ × List ℕ)
decimal_until most c text = decimal_of most (cut c text)

abbrev pub status_read : ℕ → ℕ → Option (ℕ × List ℕ) → Option (HTTPVersion × ℕ)
status_read major minor None = None
status_read major minor (Some c) = Some (record { 0 = major; 1 = minor }, c.0)

abbrev pub minor_read : ℕ → Option (ℕ × List ℕ) → Option (HTTPVersion × ℕ)
minor_read major None = None
minor_read major (Some b) = status_read major b.0 (decimal_until 65535 space b.1)

abbrev pub major_read : Option (ℕ × List ℕ) → Option (HTTPVersion × ℕ)
major_read None = None
major_read (Some a) = minor_read a.0 (decimal_until 255 space a.1)

abbrev pub protocol_read : Option (List ℕ × List ℕ) → Option (HTTPVersion × ℕ)
protocol_read None = None
protocol_read (Some w) = if bytes_eq w.0 (codes "HTTP") then major_read (decimal_until 255 point w.1) else None

-- the version and the status in a text, if it is a status line: HTTP comes before its first slash (47)
abbrev pub status_line_read : List ℕ → Option (HTTPVersion × ℕ)
status_line_read text = protocol_read (cut 47 text)

abbrev pub value_read : List ℕ → Option (List ℕ)
value_read [] = None
value_read (b ∷ bs) = if (b == space && has_bare_front is_space bs) then Some bs else None

abbrev pub with_field : List ℕ → Option (List ℕ) → Option Header
with_field field None = None
with_field field (Some value) = Some (record { field = field; value = value })

abbrev pub field_line_cut : Option (List ℕ × List ℕ) → Option Header
field_line_cut None = None
field_line_cut (Some l) = if list_all (λ b. not (is_blank b)) l.0 then with_field l.0 (value_read l.1) else None

abbrev pub field_line_read : List ℕ → Option Header
field_line_read text = field_line_cut (cut colon text)

-- The result of reading field lines: the headers and the bytes after the empty line, or why they are lacking.
abbrev pub FieldLinesRead : Type 0
FieldLinesRead = Result (List Header × List ℕ) Lack

abbrev pub with_field_line : Header → FieldLinesRead → FieldLinesRead
with_field_line h (Ok r) = Ok (h ∷ r.0, r.1)
with_field_line h (Err e) = Err e

abbrev pub field_line_checked : (List ℕ → FieldLinesRead) → List ℕ → Bool → Option Header → FieldLinesRead
field_line_checked go rest false h = Err Invalid
field_line_checked go rest true None = Err Invalid
field_line_checked go rest true (Some h) = with_field_line h (go rest)

abbrev pub field_line_at : (List ℕ → FieldLinesRead) → List ℕ → List ℕ → FieldLinesRead
field_line_at go [] rest = Ok ([], rest)
field_line_at go (b ∷ bs) rest = field_line_checked go rest (list_all is_ascii (b ∷ bs)) (field_line_read (b ∷ bs))

abbrev pub field_line_in : (List ℕ → FieldLinesRead) → Option (List ℕ × List ℕ) → FieldLinesRead
field_line_in go None = Err Unfinished
field_line_in go (Some l) = field_line_at go l.0 l.1

abbrev pub field_lines_read : ℕ → List ℕ → FieldLinesRead
field_lines_read zero bytes = Err Unfinished
field_lines_read (suc fuel) bytes = field_line_in (field_lines_read fuel) (line bytes)

-- The result of reading a head: the head and the bytes after it, or why it is lacking.
abbrev pub AnswerHeadRead : Type 0
AnswerHeadRead = Result (AnswerHead × List ℕ) Lack

abbrev pub with_field_lines : HTTPVersion × ℕ → FieldLinesRead → AnswerHeadRead
with_field_lines s (Ok f) = Ok (record { version = s.0; status = s.1; headers = f.0 }, f.1)
with_field_lines s (Err e) = Err e

abbrev pub status_line_checked : List ℕ → Bool → Option (HTTPVersion × ℕ) → AnswerHeadRead
status_line_checked rest false r = Err Invalid
status_line_checked rest true None = Err Invalid
status_line_checked rest true (Some s) = with_field_lines s (field_lines_read (length rest + 1) rest)

abbrev pub status_line_in : Option (List ℕ × List ℕ) → AnswerHeadRead
status_line_in None = Err Unfinished
status_line_in (Some l) = status_line_checked l.1 (list_all is_ascii l.0) (status_line_read l.0)

abbrev pub answer_head_read : List ℕ → AnswerHeadRead
answer_head_read bytes = status_line_in (line bytes)

-- The result of reading a body: its data and the bytes after it, or why it is lacking.
abbrev pub AnswerBodyRead : Type 0
AnswerBodyRead = Result (List ℕ × List ℕ) Lack

abbrev pub lack_of : ErrorKind → Lack
lack_of InvalidData = Invalid
lack_of _ = Unfinished

abbrev pub chunks_read : List ℕ → Result (List ℕ) ErrorKind → AnswerBodyRead
chunks_read body (Ok rest) = Ok (body, rest)
chunks_read body (Err kind) = Err (lack_of kind)

abbrev pub front_read : ℕ → List ℕ → Bool → AnswerBodyRead
front_read n bytes true = Err Unfinished
front_read n bytes false = Ok (take n bytes, drop n bytes)

abbrev pub answer_body_read : Extent → List ℕ → AnswerBodyRead
answer_body_read NoBody bytes = Ok ([], bytes)
answer_body_read OfChunks bytes = let d = decoded (length bytes + 1) End bytes in chunks_read d.body d.ends
answer_body_read (OfLength n) bytes = front_read n bytes (nat_lt (length bytes) n)
answer_body_read OfUnknownLength bytes = Err Invalid

-- The result of reading a response: the response and the bytes after it, or why it is lacking.
abbrev pub AnswerRead : Type 0
AnswerRead = Result (ClientAnswer × List ℕ) Lack

abbrev pub with_head : AnswerHead → AnswerBodyRead → AnswerRead
with_head h (Ok b) = Ok (record { head = h; body = b.0 }, b.1)
with_head h (Err e) = Err e

abbrev pub behind_head : (List ℕ → AnswerRead) → Method → AnswerHead → List ℕ → Bool → AnswerRead
behind_head go method h after true = go after
behind_head go method h after false = with_head h (answer_body_read (extent method h) after)

abbrev pub answer_at : (List ℕ → AnswerRead) → Method → AnswerHeadRead → AnswerRead
answer_at go method (Err e) = Err e
answer_at go method (Ok r) = behind_head go method r.0 r.1 (is_interim r.0.status)

abbrev pub answer_within : ℕ → Method → List ℕ → AnswerRead
answer_within zero method bytes = Err Unfinished
answer_within (suc fuel) method bytes = answer_at (answer_within fuel method) method (answer_head_read bytes)

abbrev pub answer_read : Method → List ℕ → AnswerRead
answer_read method bytes = answer_within (length bytes + 1) method bytes
