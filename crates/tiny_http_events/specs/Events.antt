-- Events as a program makes them, their text, and how a browser reads it.
use Rattle.std.specs.Prelude.{◌≡◌, ℕ, ◌<◌, ◌^◌, List, [], ◌∷◌, ◌++◌, Option, Some, None, codes, decimal}
use Rattle.std.specs.Prelude.{refl, true, false}
use Rattle.std.specs.Coded.{Coded, code_by, coded×, coded_ℕ, coded_list, coded_option}
use Rattle.std.specs.List.{flat_map}
use Rattle.std.specs.Option.{unwrap_or, IfSome}
use Rattle.tiny_http_text.specs.Bytes.{parts, colon, space}
use Rattle.tiny_http_events.specs.Browser.{Browser, Dispatched, reads, line_feed, IsOneLine, has_nul, with_line_feeds}
use Rattle.tiny_http_events.specs.Browser.{name_or_message, IsBetweenEvents}
use Rattle.tiny_http_events.specs.declared.event.EventError.{EventError}
use Rattle.tiny_http_events.specs.declared.event.EventError.TheVariants.{LineBreakInName, LineBreakInId, NulInId}

-- an event: its name, which is empty if it has none, its data, its ID, and the reconnection time in milliseconds
pub record EventValue : Type 0 where
  pub name : List ℕ
  pub text : List ℕ
  pub id : Option (List ℕ)
  pub retry : Option ℕ

abbrev pub event_code : Coded EventValue
event_code =
    code_by (List ℕ × (List ℕ × (Option (List ℕ) × Option ℕ)))
    (coded× (coded_list coded_ℕ) (coded× (coded_list coded_ℕ) (coded× (coded_option (coded_list coded_ℕ)) (coded_option coded_ℕ))))
    (λ e. (e.name, (e.text, (e.id, e.retry))))
    (λ p. record { name = p.0; text = p.1.0; id = p.1.1.0; retry = p.1.1.1 }) (λ _. refl)

-- the event with only these data
abbrev pub event_of : List ℕ → EventValue
event_of text = record { name = []; text = text; id = None; retry = None }

-- whether the text can be an ID: it has no CR, LF or NUL
abbrev pub IsId : List ℕ → Type 0
IsId text = IsOneLine text × (has_nul text ≡ false)

-- which error refuses an ID
abbrev pub IsIdError : EventError → List ℕ → Type 0
IsIdError LineBreakInName id = ⊥
IsIdError LineBreakInId id = IsOneLine id → ⊥
IsIdError NulInId id = IsOneLine id × (has_nul id ≡ true)

-- whether the event has no name or ID that a browser would misread
pub record IsEvent (e : EventValue) : Type 0 where
  pub name : IsOneLine e.name
  pub id : IfSome e.id IsId
  pub retry : IfSome e.retry (λ n. n < 2 ^ 32)

abbrev pub newer : Option ℕ → Option ℕ → Option ℕ
newer None old = old
newer (Some n) old = Some n

-- the event as a browser dispatches it, with the ID of an earlier event if it has none: its data have an LF for each
-- CR LF and CR
abbrev pub as_dispatched : EventValue → List ℕ → Dispatched
as_dispatched e last_id =
    record { name = name_or_message e.name; text = with_line_feeds e.text; last_id = unwrap_or e.id last_id }

-- the browser after it has dispatched the event, where it had read nothing of it before
abbrev pub after_event : EventValue → Browser → Browser
after_event e s =
    let id : List ℕ = unwrap_or e.id s.id in
    record {
      events = s.events ++ as_dispatched e s.id ∷ [];
      retry = newer e.retry s.retry;
      last_id = id;
      id = id;
      name = [];
      texts = [];
    }

-- whether a browser that has read nothing of the next event reads the text as this event, whatever follows
abbrev pub IsReadAs : List ℕ → EventValue → Type 0
IsReadAs text e =
    (s : Browser) (rest : List ℕ) → IsBetweenEvents s → reads s (text ++ rest) ≡ reads (after_event e s) rest

-- whether a browser ignores the text, which begins a line, whatever follows
abbrev pub IsIgnored : List ℕ → Type 0
IsIgnored text = (s : Browser) (rest : List ℕ) → reads s (text ++ rest) ≡ reads s rest

-- a line with a field
abbrev pub field_line : List ℕ → List ℕ → List ℕ
field_line name value = name ++ colon ∷ space ∷ value ++ line_feed ∷ []

-- a field for each line of a text, whose lines a CR LF, an LF or a CR separates
abbrev pub field_lines : List ℕ → List ℕ → List ℕ
field_lines name text = flat_map (field_line name) (parts line_feed (with_line_feeds text))

abbrev pub name_line : List ℕ → List ℕ
name_line [] = []
name_line (b ∷ bs) = field_line (codes "event") (b ∷ bs)

abbrev pub id_line : Option (List ℕ) → List ℕ
id_line None = []
id_line (Some id) = field_line (codes "id") id

abbrev pub retry_line : Option ℕ → List ℕ
retry_line None = []
retry_line (Some n) = field_line (codes "retry") (decimal n)

-- the text of an event: its fields and an empty line
unfoldable pub event_text : EventValue → List ℕ
event_text e =
    name_line e.name ++ id_line e.id ++ retry_line e.retry ++ field_lines (codes "data") e.text ++ line_feed ∷ []

-- the text of a comment: a line with a colon for each of its lines
unfoldable pub comment_text : List ℕ → List ℕ
comment_text text = field_lines [] text
