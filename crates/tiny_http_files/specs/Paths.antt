-- Paths within a folder.
use Rattle.std.specs.Prelude.{ℕ, Bool, not, false, ◌||◌, ◌==◌, List, [], ◌∷◌, ◌++◌, Option, Some, None, codes, nat_lt}
use Rattle.std.specs.Prelude.{if◌then◌else◌}
use Rattle.std.specs.List.{list_any}
use Rattle.std.specs.Str.{bytes_eq}
use Rattle.tiny_http_text.specs.Bytes.{parts}

-- the byte that separates the parts of a path
abbrev pub slash : ℕ
slash = 47

-- whether a byte isn't allowed in a file name: a control character (0 to 31, 127), or a backslash (92), which separates
-- parts on some systems
abbrev pub is_unsafe_byte : ℕ → Bool
is_unsafe_byte b = nat_lt b 32 || (b == 127 || b == 92)

-- whether a part of a path is the folder itself, its parent, or has a byte that isn't allowed in a file name
abbrev pub is_unsafe_part : List ℕ → Bool
is_unsafe_part part = bytes_eq part (codes ".") || (bytes_eq part (codes "..") || list_any is_unsafe_byte part)

abbrev pub begins_with_slash : List ℕ → Bool
begins_with_slash [] = false
begins_with_slash (b ∷ bs) = b == slash

-- the folder and the path joined, if the path begins with a slash and has no unsafe part, and otherwise `None`
abbrev pub below_folder : List ℕ → List ℕ → Option (List ℕ)
below_folder folder path =
    if not (begins_with_slash path) || list_any is_unsafe_part (parts slash path) then None else Some (folder ++ path)
