-- Modification dates of files, and the dates of clients' copies.
use Rattle.std.specs.Prelude.{ℕ, Bool, false, List, Option, Some, None, nat_le}
use Rattle.httpdate.specs.declared.date.HttpDate.{HttpDate}
use Rattle.httpdate.specs.Date.{unix_secs, parse_secs}

-- whether a file was modified no later than the client's date; false if the client's value isn't a date (`None`)
abbrev pub is_no_later : ℕ → Option ℕ → Bool
is_no_later modified None = false
is_no_later modified (Some since) = nat_le modified since

-- whether a client's copy is current, according to the value of If-Modified-Since, if there is one
abbrev pub is_not_modified : Option (List ℕ) → HttpDate → Bool
is_not_modified None modified = false
is_not_modified (Some since) modified = is_no_later (unix_secs modified) (parse_secs since)
