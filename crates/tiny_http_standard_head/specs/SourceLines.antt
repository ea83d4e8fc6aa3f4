-- The lines of a source: each up to its first LF, and within a limit.
use Rattle.std.specs.Prelude.{◌≡◌, ℕ, ◌+◌, ◌<◌, ◌≤◌, ⊤, ◌==◌, not, List, [], ◌∷◌, ◌++◌, length, take, Option}
use Rattle.tiny_http_text.specs.Bytes.{HasNo}
use Rattle.tiny_http_io.specs.Device.{Feed, prepended}
use Rattle.tiny_http_io.specs.ToCome.{HasNoByte}
use Rattle.tiny_http_standard_head.specs.declared.source_lines.FoundLine.{FoundLine}
use Rattle.tiny_http_standard_head.specs.declared.source_lines.FoundLine.TheVariants.{Held, Taken}
use Rattle.tiny_http_standard_head.specs.declared.source_lines.NoLine.{NoLine}
use Rattle.tiny_http_standard_head.specs.declared.source_lines.NoLine.TheVariants.{Cut, TooLong, Memory}
use Rattle.tiny_http_head.specs.Heads.{line_feed}

-- whether the first LF comes after n bytes
pub record EndsLine (bytes : List ℕ) (n : ℕ) : Type 0 where
  pub within : n + 1 ≤ length bytes
  pub ends : take (n + 1) bytes ≡ take n bytes ++ line_feed ∷ []
  pub first : HasNo line_feed (take n bytes)

-- whether these bytes were taken from the feed, and none of them is an LF
pub record Passes (old new : Option Feed) (gone : List ℕ) : Type 0 where
  pub joins : old ≡ prepended gone new
  pub none : HasNo line_feed gone

-- whether this line was taken with its LF, and has at most `limit` bytes, including the LF
pub record TakesLine (limit : ℕ) (old new : Option Feed) (line : List ℕ) : Type 0 where
  pub joins : old ≡ prepended (line ++ line_feed ∷ []) new
  pub first : HasNo line_feed line
  pub within : length line < limit

-- whether a line within the limit was found: it is buffered, or was taken
abbrev pub FindsLine : ℕ → Option Feed → Option Feed → List ℕ → ℕ → FoundLine → Type 0
FindsLine limit old new held skip (Held n) = (new ≡ old) × (skip ≡ 0) × EndsLine held n × (n < limit)
FindsLine limit old new held skip (Taken line) = TakesLine limit old new line.items

-- whether no line was found because the source stopped before the end of the line
abbrev pub IsCut : NoLine → Type 0
IsCut (Cut has_begun) = ⊤
IsCut _ = ⊥

-- whether there is no line within the limit, for this reason, with these bytes buffered afterwards; memory is needed
-- only for a line that isn't whole in the buffer
abbrev pub HasNoLine : ℕ → Option Feed → Option Feed → List ℕ → NoLine → Type 0
HasNoLine limit old new held (Cut has_begun) =
    (gone : List ℕ)
    × Passes old new gone
    × (length gone < limit)
    × HasNoByte new
    × (has_begun ≡ not (length gone == 0))
HasNoLine limit old new held TooLong = (gone : List ℕ) × Passes old new gone × (length gone ≡ limit)
HasNoLine limit old new held Memory =
    (gone : List ℕ) × Passes old new gone × (gone ≡ [] → HasNo line_feed (take limit held))
