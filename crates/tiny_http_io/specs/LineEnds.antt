-- How far a line has been read.
use Rattle.std.specs.Prelude.{◌≡◌, ℕ, ◌+◌, ◌≤◌, ◌<◌, ⊤, Option, None, Some, Bool, true, false, List, [], ◌∷◌, ◌++◌}
use Rattle.std.specs.Prelude.{length, take}
use Rattle.tiny_http_text.specs.Lines.{has_crlf}
use Rattle.tiny_http_io.specs.declared.source.LineFault.{LineFault}
use Rattle.tiny_http_io.specs.declared.source.LineFault.TheVariants.{TooLong}

-- the bytes that are held back while a line is read: a CR if one is held back (`true`), because it may begin the line's
-- CR LF; otherwise none
abbrev pub held_return : Bool → List ℕ
held_return true = 13 ∷ []
held_return false = []

-- whether no CR LF begins in `text` when `pend` follows it, whatever bytes come after `pend`
pub record BeginsNoLineEnd (text pend : List ℕ) : Type 0 where
  pub none_begins : (more : List ℕ) → has_crlf (text ++ (pend ++ more)) ≡ has_crlf (pend ++ more)

-- whether the first CR LF of the bytes comes after n bytes
pub record EndsLine (bytes : List ℕ) (n : ℕ) : Type 0 where
  pub within : n + 2 ≤ length bytes
  pub ends : take (n + 2) bytes ≡ take n bytes ++ (13 ∷ (10 ∷ []))
  pub first : BeginsNoLineEnd (take n bytes) (13 ∷ [])

-- whether `room` is what is left of the limit `left` after `count` bytes, or there is no limit (`None` for both)
abbrev pub IsRoom : Option ℕ → Option ℕ → ℕ → Type 0
IsRoom None None count = ⊤
IsRoom (Some left) (Some room) count = room + count ≡ left
IsRoom _ _ count = ⊥

-- whether reading a line may stop with this fault after these bytes: `TooLong` at the limit, another fault before it;
-- without a limit, any fault but `TooLong`
abbrev pub StopsWithin : Option ℕ → LineFault → List ℕ → Type 0
StopsWithin None TooLong gone = ⊥
StopsWithin (Some left) TooLong gone = length gone ≡ left
StopsWithin None _ gone = ⊤
StopsWithin (Some left) _ gone = length gone < left
