-- Lemmas on what a browser reads from the text of an event.
use Rattle.std.proofs.Common.{◌≡◌, refl, sym, ap, ◌∙◌, length, ℕ, ◌<◌, ◌^◌, arith, Bool, true, false, cond, List, [], ◌∷◌, ◌++◌, append_assoc, Option, Some, None}
use Rattle.std.specs.Prelude.{◌==◌, codes, decimal}
use Rattle.std.specs.List.{list_all, flat_map, join_with_byte, slice_split, onto_first}
use Rattle.std.specs.Option.{unwrap_or, IfSome}
use Rattle.std.specs.Char.{is_ascii_digit}
use Rattle.std.specs.Str.{all_ascii_digits}
use Rattle.std.specs.Str.Parse.{digits_value}
use Rattle.std.proofs.lemmas.Str.Parse.{IsNumeralModel, numerals_by_value, tells_all_ascii_digits}
use Rattle.std.proofs.lemmas.Fmt.{digits_decimal, digits_value-decimal, decimal_nonempty}
use Rattle.std.proofs.lemmas.Bool.{and_parts, false≢true, ne_eqb}
use Rattle.std.proofs.lemmas.List.{append-nil}
use Rattle.std.proofs.lemmas.List.Folds.{list_all-append}
use Rattle.std.proofs.lemmas.List.Splits.{join_with_byte-slice_split}
use Rattle.tiny_http_text.specs.Bytes.{parts, colon, space}
use Rattle.tiny_http_events.specs.Browser.{IsOneLine, has_nul, with_line_feeds, line_feed, Dispatched, Browser, name_or_message, dispatched, with_field, after_line, after_lines, reads, is_number}
use Rattle.tiny_http_events.specs.Events.{EventValue, IsEvent, IsId, newer, after_event, IsReadAs, IsIgnored, field_line, field_lines, name_line, id_line, retry_line, event_text, comment_text}
use Rattle.tiny_http_events.proofs.LineFeeds.{is_inner, lines-first, feeds-no-return, parts-lines, are_lines}

-- a line and its LF
pub reads-line : (s : Browser) (line rest : List ℕ) → IsOneLine line → reads s (line ++ 10 ∷ rest) ≡ reads (after_line line s) rest
unfolding reads
reads-line s line rest h = ap (λ ls. after_lines ls s) (lines-first line rest h)

pub one-line-append : (a b : List ℕ) → IsOneLine a → IsOneLine b → IsOneLine (a ++ b)
one-line-append a b g h = rw (list_all-append is_inner a b, g) h

-- a line with a field
pub reads-field : (s t : Browser) (name value rest : List ℕ) → IsOneLine name → IsOneLine value → after_line (name ++ colon ∷ space ∷ value) s ≡ t → reads s (field_line name value ++ rest) ≡ reads t rest
reads-field s t name value rest g h e =
    ap (reads s) (append_assoc {A = ℕ} (name ++ colon ∷ space ∷ value) (line_feed ∷ []) rest)
    ∙ (reads-line s (name ++ colon ∷ space ∷ value) rest (one-line-append name (colon ∷ space ∷ value) g h)
    ∙ ap (λ b. reads b rest) e)

abbrev pub with_texts : Browser → List (List ℕ) → Browser
with_texts s ls = record s { texts = s.texts ++ ls }

-- the data lines
pub reads-data : (ls : List (List ℕ)) (s : Browser) (rest : List ℕ) → are_lines ls ≡ true → reads s (flat_map (field_line (codes "data")) ls ++ rest) ≡ reads (with_texts s ls) rest
reads-data [] s rest h = ap (λ ts. reads (record s { texts = ts }) rest) (sym (append-nil s.texts))
reads-data (l ∷ ls) s rest h =
    let k = and_parts (list_all is_inner l) (are_lines ls) h in
    ap (reads s) (append_assoc {A = ℕ} (field_line (codes "data") l) (flat_map (field_line (codes "data")) ls) rest)
    ∙ (reads-field s (with_texts s (l ∷ [])) (codes "data") l (flat_map (field_line (codes "data")) ls ++ rest) refl k.0 refl
    ∙ (reads-data ls (with_texts s (l ∷ [])) rest k.1
    ∙ ap (λ ts. reads (record s { texts = ts }) rest) (append_assoc s.texts (l ∷ []) ls)))

-- the lines of a comment
pub reads-comment : (ls : List (List ℕ)) (s : Browser) (rest : List ℕ) → are_lines ls ≡ true → reads s (flat_map (field_line []) ls ++ rest) ≡ reads s rest
reads-comment [] s rest h = refl
reads-comment (l ∷ ls) s rest h =
    let k = and_parts (list_all is_inner l) (are_lines ls) h in
    ap (reads s) (append_assoc {A = ℕ} (field_line [] l) (flat_map (field_line []) ls) rest)
    ∙ (reads-field s s [] l (flat_map (field_line []) ls ++ rest) refl k.0 refl
    ∙ reads-comment ls s rest k.1)

pub text-lines : (text : List ℕ) → are_lines (parts line_feed (with_line_feeds text)) ≡ true
text-lines text = parts-lines (with_line_feeds text) (feeds-no-return text)

pub comment-ignored : (text : List ℕ) → IsIgnored (comment_text text)
unfolding comment_text
comment-ignored text s rest = reads-comment (parts line_feed (with_line_feeds text)) s rest (text-lines text)

-- what an empty line dispatches
abbrev pub dispatching : Browser → List ℕ → Browser
dispatching s text =
    let event : Dispatched = record { name = name_or_message s.name; text = text; last_id = s.id } in
    record s { events = s.events ++ event ∷ []; last_id = s.id; name = []; texts = [] }

module _ (p : ℕ → Bool) where
  abbrev pub IsFilled : List (List ℕ) → Bool
  IsFilled [] = false
  IsFilled (l ∷ ls) = true

  filled-step : (t : Bool) (b : ℕ) (ps : List (List ℕ)) → IsFilled (cond t ([] ∷ ps) (onto_first b ps)) ≡ true
  filled-step true b ps = refl
  filled-step false b [] = refl
  filled-step false b (q ∷ qs) = refl

  pub filled-split : (text : List ℕ) → IsFilled (slice_split p text) ≡ true
  filled-split [] = refl
  filled-split (b ∷ bs) = filled-step (p b) b (slice_split p bs)

  pub dispatched-filled : (ls : List (List ℕ)) (s : Browser) → IsFilled ls ≡ true → dispatched ls s ≡ dispatching s (join_with_byte line_feed ls)
  dispatched-filled [] s h = absurd (false≢true h)
  dispatched-filled (l ∷ ls) s h = refl

abbrev pub is_feed : ℕ → Bool
is_feed b = b == line_feed

pub dispatched-text : (text : List ℕ) (s : Browser) → dispatched (parts line_feed text) s ≡ dispatching s text
dispatched-text text s =
    dispatched-filled is_feed (parts line_feed text) s (filled-split is_feed text)
    ∙ ap (dispatching s) (join_with_byte-slice_split line_feed text)

-- the browser within an event that has no data line yet
abbrev pub within : List Dispatched → Option ℕ → List ℕ → List ℕ → List ℕ → Browser
within events retry last_id id name = record { events = events; retry = retry; last_id = last_id; id = id; name = name; texts = [] }

pub reads-text : (text : List ℕ) (events : List Dispatched) (retry : Option ℕ) (last_id id name rest : List ℕ)
    → reads (within events retry last_id id name) (field_lines (codes "data") text ++ line_feed ∷ rest)
    ≡ reads (dispatching (within events retry last_id id name) (with_line_feeds text)) rest
reads-text text events retry last_id id name rest =
    let s = within events retry last_id id name in
    let ls = parts line_feed (with_line_feeds text) in
    reads-data ls s (line_feed ∷ rest) (text-lines text)
    ∙ (reads-line (with_texts s ls) [] rest refl
    ∙ ap (λ b. reads b rest) (dispatched-text (with_line_feeds text) (with_texts s ls)))

pub reads-name : (name : List ℕ) (events : List Dispatched) (retry : Option ℕ) (last_id id rest : List ℕ) → IsOneLine name
    → reads (within events retry last_id id []) (name_line name ++ rest) ≡ reads (within events retry last_id id name) rest
reads-name [] events retry last_id id rest h = refl
reads-name (b ∷ bs) events retry last_id id rest h =
    reads-field (within events retry last_id id []) (within events retry last_id id (b ∷ bs)) (codes "event") (b ∷ bs) rest refl h refl

id-after : (id : List ℕ) (s : Browser) (nul : Bool) → has_nul id ≡ nul → nul ≡ false → with_field (codes "id") id s ≡ record s { id = id }
id-after id s nul e n = rw (e, n) refl

pub reads-id : (id : Option (List ℕ)) (events : List Dispatched) (retry : Option ℕ) (last_id old name rest : List ℕ) → IfSome id IsId
    → reads (within events retry last_id old name) (id_line id ++ rest) ≡ reads (within events retry last_id (unwrap_or id old) name) rest
reads-id None events retry last_id old name rest h = refl
reads-id (Some id) events retry last_id old name rest h =
    let s = within events retry last_id old name in
    reads-field s (record s { id = id }) (codes "id") id rest refl h.0 (id-after id s false h.1 refl)

-- digits
own-digits : IsNumeralModel (λ ds. all_ascii_digits ds ≡ true) (digits_value 10)
own-digits = numerals_by_value (λ ds. all_ascii_digits ds ≡ true) tells_all_ascii_digits

not-digit : (c b : ℕ) → is_ascii_digit b ≡ false → is_ascii_digit c ≡ true → (c == b) ≡ false
not-digit c b low h = ne_eqb c b (λ e. false≢true (sym low ∙ (ap is_ascii_digit (sym e) ∙ h)))

digits-line : (ds : List ℕ) → all_ascii_digits ds ≡ true → IsOneLine ds
digits-line [] h = refl
digits-line (c ∷ cs) h =
    let k = and_parts (is_ascii_digit c) (all_ascii_digits cs) h in
    rw (not-digit c 13 refl k.0, not-digit c 10 refl k.0) (digits-line cs k.1)

number-step : (ds : List ℕ) → 0 < length ds → all_ascii_digits ds ≡ true → is_number ds ≡ true
number-step [] l h = absurd (omega (arith, l))
number-step (d ∷ ds) l h = h

pub decimal-line : (n : ℕ) → n < 2 ^ 32 → IsOneLine (decimal n)
decimal-line n h =
    let small : n < 2 ^ 64 = omega (arith, h) in
    digits-line (decimal n) (digits_decimal own-digits n small)

retry-after : (ds : List ℕ) (n : ℕ) (s : Browser) → is_number ds ≡ true → digits_value 10 ds ≡ n → with_field (codes "retry") ds s ≡ record s { retry = Some n }
retry-after ds n s i v = rw (i, v) refl

pub reads-retry : (retry : Option ℕ) (events : List Dispatched) (old : Option ℕ) (last_id id name rest : List ℕ) → IfSome retry (λ n. n < 2 ^ 32)
    → reads (within events old last_id id name) (retry_line retry ++ rest) ≡ reads (within events (newer retry old) last_id id name) rest
reads-retry None events old last_id id name rest h = refl
reads-retry (Some n) events old last_id id name rest h =
    let s = within events old last_id id name in
    let small : n < 2 ^ 64 = omega (arith, h) in
    let digits = digits_decimal own-digits n small in
    reads-field s (record s { retry = Some n }) (codes "retry") (decimal n) rest refl (digits-line (decimal n) digits)
    (retry-after (decimal n) n s (number-step (decimal n) (decimal_nonempty n small) digits) (digits_value-decimal own-digits n small))

pub regroup : (a b c d rest : List ℕ) → (a ++ b ++ c ++ d ++ line_feed ∷ []) ++ rest ≡ a ++ (b ++ (c ++ (d ++ line_feed ∷ rest)))
regroup a b c d rest =
    append_assoc (a ++ b ++ c ++ d) (line_feed ∷ []) rest
    ∙ (append_assoc (a ++ b ++ c) d (line_feed ∷ rest)
    ∙ (append_assoc (a ++ b) c (d ++ line_feed ∷ rest) ∙ append_assoc a b (c ++ (d ++ line_feed ∷ rest))))

reads-within : (e : EventValue) → IsEvent e → (events : List Dispatched) (old : Option ℕ) (last_id id rest : List ℕ)
    → reads (within events old last_id id []) (event_text e ++ rest) ≡ reads (after_event e (within events old last_id id [])) rest
unfolding event_text
reads-within e ok events old last_id id rest =
    let data-part = field_lines (codes "data") e.text ++ line_feed ∷ rest in
    let retry-part = retry_line e.retry ++ data-part in
    let id' = unwrap_or e.id id in
    ap (reads (within events old last_id id [])) (regroup (name_line e.name) (id_line e.id) (retry_line e.retry) (field_lines (codes "data") e.text) rest)
    ∙ (reads-name e.name events old last_id id (id_line e.id ++ retry-part) ok.name
    ∙ (reads-id e.id events old last_id id e.name retry-part ok.id
    ∙ (reads-retry e.retry events old last_id id' e.name data-part ok.retry
    ∙ reads-text e.text events (newer e.retry old) last_id id' e.name rest)))

pub event-read : (e : EventValue) → IsEvent e → IsReadAs (event_text e) e
event-read e ok s rest between =
    let same : s ≡ within s.events s.retry s.last_id s.id [] =
    ap (λ n. record s { name = n; texts = s.texts }) between.no_name
    ∙ ap (λ ts. record s { name = []; texts = ts }) between.no_texts in
    ap (λ b. reads b (event_text e ++ rest)) same ∙ reads-within e ok s.events s.retry s.last_id s.id rest
