-- The listing of a folder in HTML.
use Rattle.std.specs.Prelude.{ℕ, List, [], ◌∷◌, ◌++◌, codes, string_bytes, ◌==◌, if◌then◌else◌, String}
use Rattle.percent_encoding.specs.declared.ascii_set.AsciiSet.{AsciiSet}
use Rattle.percent_encoding.specs.Percent.{percent_encode}

-- a byte of a name in the text of an element: `<` and `&` are escaped
abbrev pub escaped_byte : ℕ → List ℕ
escaped_byte b = if b == 60 then codes "&lt;" else if b == 38 then codes "&amp;" else b ∷ []

abbrev pub escaped : List ℕ → List ℕ
escaped [] = []
escaped (b ∷ bs) = escaped_byte b ++ escaped bs

-- the line of an entry with this link and name
abbrev pub line_of : List ℕ → List ℕ → List ℕ
line_of link name = codes "<li><a href=\"./" ++ link ++ codes "\">" ++ escaped name ++ codes "</a>\n"

-- the lines of the entries, each with its percent-encoded name as its link
abbrev pub lines_of : {A : Type 0} → AsciiSet → List (String A) → List ℕ
lines_of encoded [] = []
lines_of encoded (name ∷ names) =
    line_of (percent_encode encoded (string_bytes name)) (string_bytes name) ++ lines_of encoded names

-- the whole page
abbrev pub page_of : {A : Type 0} → AsciiSet → List (String A) → List ℕ
page_of encoded names = codes "<!doctype html>\n<ul>\n" ++ lines_of encoded names ++ codes "</ul>\n"
