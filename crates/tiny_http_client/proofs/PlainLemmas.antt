-- Texts that stand on one line.
use Rattle.std.proofs.Common.{◌≡◌, refl, ◌∙◌, subst, ℕ, zero, suc, ◌+◌, ◌-◌, ◌<◌, ◌≤◌, ◌^◌, ◌/◌, ◌%◌, Bool, true, false, not, ◌&&◌, ◌||◌, List, [], ◌∷◌, ◌++◌, append_assoc, arith, eqb-true}
use Rattle.std.specs.Prelude.{◌==◌, IsTrue, codes, decimal, if◌then◌else◌, slice_index_or}
use Rattle.std.specs.List.{list_all}
use Rattle.std.specs.Char.{digit_value}
use Rattle.std.specs.Str.Parse.{AllDigits}
use Rattle.std.proofs.lemmas.List.Folds.{list_all-append}
use Rattle.std.proofs.lemmas.Bool.{and_parts, not-true, lt-ltb, ne_eqb}
use Rattle.std.proofs.lemmas.Str.Parse.{digit_from_value}
use Rattle.std.proofs.lemmas.Fmt.{decimal_is_IsNumeral}
use Rattle.httpdate.specs.Text.{two_digits, four_digits, time_of_day, day_name, month_name}
use Rattle.httpdate.specs.Calendar.{days_in_month, is_leap_year, IsTimeOfDay}
use Rattle.httpdate.specs.declared.parts.Parts.{Parts}
use Rattle.tiny_http_client.specs.ClientAnswer.{is_space}
use Rattle.httpdate.specs.Date.{date_text}
use Rattle.httpdate.specs.declared.date.HttpDate.{HttpDate}
use Rattle.tiny_http_text.specs.Bytes.{is_ascii, is_blank, AreAscii, HasNoBlank, has_bare_front}
use Rattle.tiny_http_text.specs.Lines.{has_crlf}
use Rattle.tiny_http_head.specs.Common.{phrase_in, reason_phrases, reason_phrase}

-- ASCII, and no CR
abbrev pub is_plain : ℕ → Bool
is_plain b = is_ascii b && not (b == 13)

abbrev pub ArePlain : List ℕ → Type 0
ArePlain text = IsTrue (list_all is_plain text)

pub plain-append : (xs ys : List ℕ) → ArePlain xs → ArePlain ys → ArePlain (xs ++ ys)
plain-append xs ys h k = rw (list_all-append is_plain xs ys, h, k) refl

is-plain : (b : ℕ) → b < 128 → 13 < b → is_plain b ≡ true
is-plain b h k = rw (lt-ltb b 128 h, ne_eqb b 13 (λ e. absurd (omega arith))) refl

plain-digit : (b : ℕ) → digit_value b < 10 → is_plain b ≡ true
plain-digit b h = let r = digit_from_value b h in is-plain b (omega arith) (omega arith)

pub plain-digits : (ds : List ℕ) → AllDigits 10 ds → ArePlain ds
plain-digits [] h = refl
plain-digits (b ∷ bs) h = rw (plain-digit b h.0) (plain-digits bs h.1)

pub plain-decimal : (n : ℕ) → n < 2 ^ 64 → ArePlain (decimal n)
plain-decimal n lt = plain-digits (decimal n) (decimal_is_IsNumeral n lt).0.1

plain-in : (rows : List (ℕ × List ℕ)) (code : ℕ) → list_all (λ (r : ℕ × List ℕ). list_all is_plain r.1) rows ≡ true → ArePlain (phrase_in rows code)
plain-in [] code h = refl
plain-in (row ∷ rows) code h =
    let k = and_parts (list_all is_plain row.1) (list_all (λ (r : ℕ × List ℕ). list_all is_plain r.1) rows) h in
    elim (code == row.0) as (λ t. ArePlain (if t then row.1 else phrase_in rows code)) [ true ↦ k.0 | false ↦ plain-in rows code k.1 ]

pub plain-phrase : (status : ℕ) → ArePlain (reason_phrase status)
unfolding reason_phrase
plain-phrase status = plain-in reason_phrases status refl

-- a plain text is ASCII
ascii-step : (a c : Bool) → (a && c) ≡ true → a ≡ true
ascii-step true c h = refl
ascii-step false c h = cc

pub plain-ascii : (text : List ℕ) → ArePlain text → AreAscii text
plain-ascii [] h = refl
plain-ascii (b ∷ bs) h =
    let k = and_parts (is_plain b) (list_all is_plain bs) h in
    rw (ascii-step (is_ascii b) (not (b == 13)) k.0) (plain-ascii bs k.1)

-- no CR LF begins in a text without CR
no-cr-step : (b : ℕ) (c : ℕ) (rest : List ℕ) → (b == 13) ≡ false → has_crlf (b ∷ c ∷ rest) ≡ has_crlf (c ∷ rest)
no-cr-step b c rest e = rw e refl

pub no-cr-front : (xs ys : List ℕ) → list_all (λ b. not (b == 13)) xs ≡ true → has_crlf (xs ++ ys) ≡ has_crlf ys
no-cr-front [] ys h = refl
no-cr-front (b ∷ []) [] h = refl
no-cr-front (b ∷ []) (c ∷ cs) h =
    let k = and_parts (not (b == 13)) true h in
    no-cr-step b c cs (not-true (b == 13) k.0)
no-cr-front (b ∷ x ∷ xs) ys h =
    let k = and_parts (not (b == 13)) (list_all (λ y. not (y == 13)) (x ∷ xs)) h in
    no-cr-step b x (xs ++ ys) (not-true (b == 13) k.0) ∙ no-cr-front (x ∷ xs) ys k.1

no_cr_of : (a c : Bool) → (a && c) ≡ true → c ≡ true
no_cr_of true c h = h
no_cr_of false c h = cc

pub plain-no_cr : (text : List ℕ) → ArePlain text → list_all (λ b. not (b == 13)) text ≡ true
plain-no_cr [] h = refl
plain-no_cr (b ∷ bs) h =
    let k = and_parts (is_plain b) (list_all is_plain bs) h in
    rw (no_cr_of (is_ascii b) (not (b == 13)) k.0) (plain-no_cr bs k.1)

pub plain-one_line : (text : List ℕ) → ArePlain text → has_crlf text ≡ false
plain-one_line [] h = refl
plain-one_line (b ∷ []) h = refl
plain-one_line (b ∷ c ∷ cs) h =
    let k = and_parts (is_plain b) (list_all is_plain (c ∷ cs)) h in
    let n : not (b == 13) ≡ true = no_cr_of (is_ascii b) (not (b == 13)) k.0 in
    no-cr-step b c cs (not-true (b == 13) n) ∙ plain-one_line (c ∷ cs) k.1

-- CR is white space
blank-cr : (b : ℕ) (t : Bool) → (b == 13) ≡ t → not (is_blank b) ≡ true → not t ≡ true
blank-cr b true e h =
    let P : ℕ → Type 0 = λ x. not (is_blank x) ≡ true in
    let k : not (is_blank 13) ≡ true = subst P (eqb-true b 13 e) h in
    cc
blank-cr b false e h = refl

pub no-blank-no_cr : (text : List ℕ) → HasNoBlank text → list_all (λ b. not (b == 13)) text ≡ true
no-blank-no_cr [] h = refl
no-blank-no_cr (b ∷ bs) h =
    let k = and_parts (not (is_blank b)) (list_all (λ x. not (is_blank x)) bs) h in
    rw (blank-cr b (b == 13) refl k.0) (no-blank-no_cr bs k.1)

-- dates
two-plain : (n : ℕ) → n < 100 → ArePlain (two_digits n)
two-plain n h = rw (is-plain (48 + n / 10) (omega arith) (omega arith), is-plain (48 + n % 10) (omega arith) (omega arith)) refl

plain-names : (names : List (List ℕ)) (i : ℕ) → list_all (λ (x : List ℕ). list_all is_plain x) names ≡ true → ArePlain (slice_index_or names i [])
plain-names [] i h = refl
plain-names (x ∷ xs) zero h = (and_parts (list_all is_plain x) (list_all (λ (y : List ℕ). list_all is_plain y) xs) h).0
plain-names (x ∷ xs) (suc i) h = plain-names xs i (and_parts (list_all is_plain x) (list_all (λ (y : List ℕ). list_all is_plain y) xs) h).1

day-plain : (wday : ℕ) → ArePlain (day_name wday)
day-plain wday = plain-names (codes "Mon" ∷ codes "Tue" ∷ codes "Wed" ∷ codes "Thu" ∷ codes "Fri" ∷ codes "Sat" ∷ codes "Sun" ∷ []) (wday - 1) refl

month-plain : (mon : ℕ) → ArePlain (month_name mon)
month-plain mon =
    plain-names (codes "Jan" ∷ codes "Feb" ∷ codes "Mar" ∷ codes "Apr" ∷ codes "May" ∷ codes "Jun" ∷ codes "Jul" ∷ codes "Aug" ∷ codes "Sep" ∷ codes "Oct" ∷ codes "Nov" ∷ codes "Dec" ∷ []) (mon - 1) refl

if-le : (t : Bool) (a b : ℕ) → a ≤ 31 → b ≤ 31 → (if t then a else b) ≤ 31
if-le true a b h k = h
if-le false a b h k = k

month-le : (y m : ℕ) → days_in_month y m ≤ 31
month-le y m =
    if-le (m == 2) (if is_leap_year y then 29 else 28) (if (m == 4) || (m == 6) || (m == 9) || (m == 11) then 30 else 31)
    (if-le (is_leap_year y) 29 28 (omega arith) (omega arith)) (if-le ((m == 4) || (m == 6) || (m == 9) || (m == 11)) 30 31 (omega arith) (omega arith))

four-plain : (n : ℕ) → n < 10000 → ArePlain (four_digits n)
four-plain n h = plain-append (two_digits (n / 100)) (two_digits (n % 100)) (two-plain (n / 100) (omega arith)) (two-plain (n % 100) (omega arith))

time-plain : (p : Parts) → IsTimeOfDay p.hour p.min p.sec → ArePlain (time_of_day p)
time-plain p t =
    let h = two_digits p.hour in let m = two_digits p.min in let s = two_digits p.sec in
    plain-append (h ++ codes ":" ++ m ++ codes ":") s
    (plain-append (h ++ codes ":" ++ m) (codes ":") (plain-append (h ++ codes ":") m (plain-append h (codes ":") (two-plain p.hour (omega (arith, t.0))) refl) (two-plain p.min (omega (arith, t.1)))) refl)
    (two-plain p.sec (omega (arith, t.2)))

pub plain-date : (d : HttpDate) → ArePlain (date_text d)
plain-date d =
    let p = d.parts in
    let few : p.day ≤ 31 = omega (arith, d.civil.2, month-le p.year p.mon) in
    let a1 = day_name p.wday ++ codes ", " in
    let a2 = a1 ++ two_digits p.day in
    let a3 = a2 ++ codes " " in
    let a4 = a3 ++ month_name p.mon in
    let a5 = a4 ++ codes " " in
    let a6 = a5 ++ four_digits p.year in
    let a7 = a6 ++ codes " " in
    let b1 : ArePlain a1 = plain-append (day_name p.wday) (codes ", ") (day-plain p.wday) refl in
    let b2 : ArePlain a2 = plain-append a1 (two_digits p.day) b1 (two-plain p.day (omega arith)) in
    let b4 : ArePlain a4 = plain-append a3 (month_name p.mon) (plain-append a2 (codes " ") b2 refl) (month-plain p.mon) in
    let b6 : ArePlain a6 = plain-append a5 (four_digits p.year) (plain-append a4 (codes " ") b4 refl) (four-plain p.year (omega (arith, d.civil.0))) in
    plain-append (a7 ++ time_of_day p) (codes " GMT") (plain-append a7 (time_of_day p) (plain-append a6 (codes " ") b6 refl) (time-plain p d.time)) refl

-- a date begins with a letter, or at least with no space
abbrev starts_bare : List ℕ → Bool
starts_bare [] = false
starts_bare (b ∷ bs) = not (b == 32)

front-in : (names : List (List ℕ)) (i : ℕ) (rest : List ℕ) → list_all starts_bare names ≡ true → IsTrue (has_bare_front is_space rest) → IsTrue (has_bare_front is_space (slice_index_or names i [] ++ rest))
front-in [] i rest h r = r
front-in ([] ∷ xs) zero rest h r = r
front-in ((b ∷ bs) ∷ xs) zero rest h r = (and_parts (not (b == 32)) (list_all starts_bare xs) h).0
front-in (x ∷ xs) (suc i) rest h r = front-in xs i rest (and_parts (starts_bare x) (list_all starts_bare xs) h).1 r

pub date-front : (d : HttpDate) → IsTrue (has_bare_front is_space (date_text d))
date-front d =
    let p = d.parts in
    let rest = codes ", " ++ (two_digits p.day ++ (codes " " ++ (month_name p.mon ++ (codes " " ++ (four_digits p.year ++ (codes " " ++ (time_of_day p ++ codes " GMT"))))))) in
    let e : date_text d ≡ day_name p.wday ++ rest = simp append_assoc in
    rw e (front-in (codes "Mon" ∷ codes "Tue" ∷ codes "Wed" ∷ codes "Thu" ∷ codes "Fri" ∷ codes "Sat" ∷ codes "Sun" ∷ []) (p.wday - 1) rest refl refl)
