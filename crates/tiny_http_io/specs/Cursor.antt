-- The bytes still to come from a cursor over bytes.
use Rattle.std.specs.Prelude.{ℕ, List, drop, Vec}
use Rattle.std.specs.declared.io.Cursor.{Cursor}
use Rattle.std.specs.Io.Cursor.{cursor_position, cursor_inner}

-- the bytes from the cursor's position on
abbrev pub cursor_bytes : {A : Type 0} → Cursor (Vec ℕ A) → List ℕ
cursor_bytes c = drop (cursor_position c) (cursor_inner c).items
