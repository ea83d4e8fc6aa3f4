-- Functions that compute the request head with which bytes begin.
use Rattle.std.specs.Prelude.{◌≡◌, ℕ, zero, suc, ◌+◌, Bool, true, false, not, ◌&&◌, ◌==◌, List, [], ◌∷◌, length, drop}
use Rattle.std.specs.Prelude.{Option, Some, None, Result, Ok, Err, option_map, if◌then◌else◌}
use Rattle.std.specs.List.{list_all, list_any}
use Rattle.tiny_http_head.specs.declared.common.Method.{Method}
use Rattle.tiny_http_head.specs.declared.common.HTTPVersion.{HTTPVersion}
use Rattle.tiny_http_head.specs.declared.common.Header.{Header}
use Rattle.tiny_http_text.specs.Bytes.{is_blank, is_ascii, AreAscii, trimmed, parts, space, colon}
use Rattle.tiny_http_head.specs.Heads.{Message, GrammarFault, Cut, NotAscii, Malformed, method_of, version_of}

-- the first line, and the bytes after its CR LF, if there is a CR LF
abbrev pub line : List ℕ → Option (List ℕ × List ℕ)
line [] = None
line (a ∷ []) = None
line (a ∷ b ∷ bs) = if (a == 13 && b == 10) then Some ([], bs) else option_map (λ l. (a ∷ l.0, l.1)) (line (b ∷ bs))

abbrev pub front_while : (ℕ → Bool) → List ℕ → List ℕ
front_while p [] = []
front_while p (b ∷ bs) = if p b then b ∷ front_while p bs else []

abbrev pub three_parts : List (List ℕ) → Option (Method × List ℕ × HTTPVersion)
three_parts (m ∷ p ∷ v ∷ more) = option_map (λ version. (method_of m, p, version)) (version_of v)
three_parts (m ∷ p ∷ []) = None
three_parts (m ∷ []) = None
three_parts [] = None

abbrev pub request_line : List ℕ → Option (Method × List ℕ × HTTPVersion)
request_line text = three_parts (parts space (trimmed is_blank text))

-- whether the text, without white space at its ends, begins with these three parts; the third ends at the next space or
-- at the end of the text
pub record HasParts (text method path version : List ℕ) : Type 0 where
  pub more : List (List ℕ)
  pub parts_are : parts space (trimmed is_blank text) ≡ method ∷ path ∷ version ∷ more
  pub ascii : AreAscii text → AreAscii method × AreAscii path

abbrev pub is_colon : ℕ → Bool
is_colon b = b == colon

abbrev pub header_line : List ℕ → Option Header
header_line text =
    let field = front_while (λ b. not (is_colon b)) text in
    if (list_any is_colon text && list_all (λ b. not (is_blank b)) field)
    then Some (record { field = field; value = trimmed is_blank (drop (length field + 1) text) })
    else None

-- the header fields and the bytes after the empty line, or the fault of the first faulty line
abbrev pub FieldsRead : Type 0
FieldsRead = Result (List Header × List ℕ) GrammarFault

abbrev pub with_header : Header → FieldsRead → FieldsRead
with_header h (Ok r) = Ok (h ∷ r.0, r.1)
with_header h (Err e) = Err e

abbrev pub field_checked : (List ℕ → FieldsRead) → List ℕ → Bool → Option Header → FieldsRead
field_checked go rest false h = Err NotAscii
field_checked go rest true None = Err Malformed
field_checked go rest true (Some h) = with_header h (go rest)

abbrev pub field_at : (List ℕ → FieldsRead) → List ℕ → List ℕ → FieldsRead
field_at go [] rest = Ok ([], rest)
field_at go (b ∷ bs) rest = field_checked go rest (list_all is_ascii (b ∷ bs)) (header_line (b ∷ bs))

abbrev pub field_in : (List ℕ → FieldsRead) → Option (List ℕ × List ℕ) → FieldsRead
field_in go None = Err Cut
field_in go (Some l) = field_at go l.0 l.1

abbrev pub fields : ℕ → List ℕ → FieldsRead
fields zero bytes = Err Cut
fields (suc fuel) bytes = field_in (fields fuel) (line bytes)

pub data RequestHeadRead : Type 0 where
  Whole : (message : Message) (after : List ℕ) → RequestHeadRead
  Faulty : (version : Option HTTPVersion) (fault : GrammarFault) → RequestHeadRead

abbrev pub with_fields : Method × List ℕ × HTTPVersion → FieldsRead → RequestHeadRead
with_fields r (Ok f) = Whole (record { method = r.0; path = r.1; version = r.2; headers = f.0 }) f.1
with_fields r (Err e) = Faulty (Some r.2) e

abbrev pub start_checked : List ℕ → Bool → Option (Method × List ℕ × HTTPVersion) → RequestHeadRead
start_checked rest false r = Faulty None NotAscii
start_checked rest true None = Faulty None Malformed
start_checked rest true (Some r) = with_fields r (fields (length rest + 1) rest)

abbrev pub start_in : Option (List ℕ × List ℕ) → RequestHeadRead
start_in None = Faulty None Cut
start_in (Some l) = start_checked l.1 (list_all is_ascii l.0) (request_line l.0)

abbrev pub request_head_read : List ℕ → RequestHeadRead
request_head_read bytes = start_in (line bytes)
