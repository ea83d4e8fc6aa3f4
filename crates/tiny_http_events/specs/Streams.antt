-- Streams of events and comments.
use Rattle.std.specs.Prelude.{ℕ, List, [], ◌∷◌, ⊤}
use Rattle.std.specs.List.{flat_map}
use Rattle.tiny_http_events.specs.Browser.{Browser}
use Rattle.tiny_http_events.specs.Events.{EventValue, IsEvent, event_text, comment_text, after_event}

-- an event or a comment
pub data Item : Type 0 where
  Sent : EventValue → Item
  Comment : List ℕ → Item

abbrev pub IsItem : Item → Type 0
IsItem (Sent e) = IsEvent e
IsItem (Comment text) = ⊤

abbrev pub AreItems : List Item → Type 0
AreItems [] = ⊤
AreItems (item ∷ items) = IsItem item × AreItems items

abbrev pub item_text : Item → List ℕ
item_text (Sent e) = event_text e
item_text (Comment text) = comment_text text

-- the text of a stream: that of each item
abbrev pub stream_text : List Item → List ℕ
stream_text items = flat_map item_text items

abbrev pub after_item : Item → Browser → Browser
after_item (Sent e) s = after_event e s
after_item (Comment text) s = s

-- the browser after it has dispatched these events, one after another
abbrev pub after_items : List Item → Browser → Browser
after_items [] s = s
after_items (item ∷ items) s = after_items items (after_item item s)
