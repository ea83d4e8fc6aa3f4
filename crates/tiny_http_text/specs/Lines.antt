-- The lines of a text (RFC 9112, section 2.2).
use Rattle.std.specs.Prelude.{◌≡◌, ℕ, Bool, true, false, ◌&&◌, ◌==◌, List, [], ◌∷◌, ◌++◌, if◌then◌else◌}
use Rattle.tiny_http_text.specs.Bytes.{crlf}

-- whether the bytes contain a CR LF
abbrev pub has_crlf : List ℕ → Bool
has_crlf [] = false
has_crlf (a ∷ []) = false
has_crlf (a ∷ b ∷ bs) = if (a == 13 && b == 10) then true else has_crlf (b ∷ bs)

-- whether the bytes are the line `text`, a CR LF, and `rest`; the line contains no CR LF
pub record Line (bytes text rest : List ℕ) : Type 0 where
  pub joins : bytes ≡ text ++ crlf ++ rest
  pub first : has_crlf text ≡ false

-- whether the bytes contain no complete line
abbrev pub IsUnfinished : List ℕ → Type 0
IsUnfinished bytes = has_crlf bytes ≡ false
