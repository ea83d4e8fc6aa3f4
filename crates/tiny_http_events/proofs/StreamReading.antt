-- Lemmas on what a browser reads from the text of a stream.
use Rattle.std.proofs.Common.{◌≡◌, refl, sym, ap, ◌∙◌, ℕ, Bool, true, not, List, [], ◌∷◌, ◌++◌, append_assoc, Option, Some, None}
use Rattle.std.specs.Prelude.{◌==◌, codes}
use Rattle.std.specs.List.{flat_map}
use Rattle.std.proofs.lemmas.Bool.{false≢true, not-true}
use Rattle.std.proofs.lemmas.List.{append-nil}
use Rattle.tiny_http_text.specs.Bytes.{parts}
use Rattle.tiny_http_events.specs.Browser.{Browser, with_line_feeds, line_feed, IsBetweenEvents, reads, reads_stream, without_mark}
use Rattle.tiny_http_events.specs.Events.{EventValue, IsEvent, field_line, field_lines, name_line, id_line, retry_line, event_text, comment_text, after_event}
use Rattle.tiny_http_events.specs.Streams.{Item, Sent, Comment, AreItems, item_text, stream_text, after_items}
use Rattle.tiny_http_events.proofs.Cuts.{cut-events}
use Rattle.tiny_http_events.proofs.Reading.{IsFilled, is_feed, filled-split, regroup, event-read, comment-ignored}

-- whether the text doesn't begin with the first byte of a byte order mark
abbrev pub has_plain_front : List ℕ → Bool
has_plain_front [] = true
has_plain_front (b ∷ bs) = not (239 == b)

unmarked : (text : List ℕ) → has_plain_front text ≡ true → without_mark text ≡ text
unmarked [] h = refl
unmarked (b ∷ bs) h = rw (not-true (239 == b) h) refl

-- at `data` and at a comment
plain-data : (ls : List (List ℕ)) (rest : List ℕ) → IsFilled is_feed ls ≡ true → has_plain_front (flat_map (field_line (codes "data")) ls ++ rest) ≡ true
plain-data [] rest h = absurd (false≢true h)
plain-data (l ∷ ls) rest h = refl

plain-comment : (ls : List (List ℕ)) (rest : List ℕ) → IsFilled is_feed ls ≡ true → has_plain_front (flat_map (field_line []) ls ++ rest) ≡ true
plain-comment [] rest h = absurd (false≢true h)
plain-comment (l ∷ ls) rest h = refl

plain-text : (text rest : List ℕ) → has_plain_front (field_lines (codes "data") text ++ rest) ≡ true
plain-text text rest =
    plain-data (parts line_feed (with_line_feeds text)) rest (filled-split is_feed (with_line_feeds text))

plain-parts : (name : List ℕ) (id : Option (List ℕ)) (retry : Option ℕ) (text rest : List ℕ)
    → has_plain_front (name_line name ++ (id_line id ++ (retry_line retry ++ (field_lines (codes "data") text ++ rest)))) ≡ true
plain-parts (b ∷ bs) id retry text rest = refl
plain-parts [] (Some id) retry text rest = refl
plain-parts [] None (Some n) text rest = refl
plain-parts [] None None text rest = plain-text text rest

plain-item : (item : Item) (rest : List ℕ) → has_plain_front (item_text item ++ rest) ≡ true
unfolding event_text comment_text
plain-item (Sent e) rest =
    ap has_plain_front (regroup (name_line e.name) (id_line e.id) (retry_line e.retry) (field_lines (codes "data") e.text) rest)
    ∙ plain-parts e.name e.id e.retry e.text (line_feed ∷ rest)
plain-item (Comment text) rest =
    plain-comment (parts line_feed (with_line_feeds text)) rest (filled-split is_feed (with_line_feeds text))

plain-items : (items : List Item) (rest : List ℕ) → has_plain_front rest ≡ true → has_plain_front (stream_text items ++ rest) ≡ true
plain-items [] rest h = h
plain-items (item ∷ items) rest h =
    ap has_plain_front (append_assoc (item_text item) (stream_text items) rest) ∙ plain-item item (stream_text items ++ rest)

-- the items, and what comes after them
pub items-read : (items : List Item) (s : Browser) (rest : List ℕ) → AreItems items → IsBetweenEvents s → reads s (stream_text items ++ rest) ≡ reads (after_items items s) rest
items-read [] s rest ok between = refl
items-read (Sent e ∷ items) s rest ok between =
    ap (reads s) (append_assoc (event_text e) (stream_text items) rest)
    ∙ (event-read e ok.0 s (stream_text items ++ rest) between
    ∙ items-read items (after_event e s) rest ok.1 (record { no_name = refl; no_texts = refl }))
items-read (Comment text ∷ items) s rest ok between =
    ap (reads s) (append_assoc (comment_text text) (stream_text items) rest)
    ∙ (comment-ignored text s (stream_text items ++ rest) ∙ items-read items s rest ok.1 between)

pub stream-read : (items : List Item) (s : Browser) → AreItems items → IsBetweenEvents s → reads_stream s (stream_text items) ≡ after_items items s
unfolding reads
stream-read items s ok between =
    let whole = append-nil (stream_text items) in
    let plain : has_plain_front (stream_text items) ≡ true =
    ap has_plain_front (sym whole) ∙ plain-items items [] refl in
    ap (reads s) (unmarked (stream_text items) plain)
    ∙ (ap (reads s) (sym whole) ∙ items-read items s [] ok between)

front-plain : (part rest : List ℕ) → has_plain_front (part ++ rest) ≡ true → has_plain_front part ≡ true
front-plain [] rest h = refl
front-plain (b ∷ bs) rest h = h

pub cut-read : (items : List Item) (s : Browser) (e : EventValue) (part : List ℕ) (next : ℕ) (rest : List ℕ)
    → AreItems items → IsEvent e → IsBetweenEvents s → event_text e ≡ part ++ next ∷ rest
    → (reads_stream s (stream_text items ++ part)).events ≡ (after_items items s).events
cut-read items s e part next rest ok event between h =
    let text : has_plain_front (event_text e) ≡ true =
    ap has_plain_front (sym (append-nil (event_text e))) ∙ plain-item (Sent e) [] in
    let plain = plain-items items part (front-plain part (next ∷ rest) (ap has_plain_front (sym h) ∙ text)) in
    ap (λ x. (reads s x).events) (unmarked (stream_text items ++ part) plain)
    ∙ (ap (λ b. b.events) (items-read items s part ok between)
    ∙ cut-events e part rest next (after_items items s) event h)
