-- The first line, computed, is the line of the definition.
use Rattle.std.proofs.Common.{◌≡◌, refl, sym, ap, ℕ, Bool, true, false, cond, ◌&&◌, List, [], ◌∷◌, ◌++◌, Option, Some, None}
use Rattle.std.specs.Prelude.{◌==◌, option_map, MatchOption}
use Rattle.std.proofs.Common.{eqb-true}
use Rattle.tiny_http_text.specs.Bytes.{crlf}
use Rattle.tiny_http_text.specs.Lines.{Line, has_crlf}
use Rattle.tiny_http_head.specs.HeadReading.{line}

pub both : (a b : Bool) → (a && b) ≡ true → (a ≡ true) × (b ≡ true)
both true true h = (refl, refl)
both true false h = cc
both false b h = cc

abbrev put : ℕ → List ℕ × List ℕ → List ℕ × List ℕ
put a l = (a ∷ l.0, l.1)

-- a byte in front of a line without CR LF
cons_clear : (a b : ℕ) (bs l rest : List ℕ) → (a == 13 && b == 10) ≡ false → b ∷ bs ≡ l ++ crlf ++ rest → has_crlf l ≡ false → has_crlf (a ∷ l) ≡ false
cons_clear a b bs [] rest t j h = refl
cons_clear a b bs (c ∷ cs) rest t j h =
    let e : b ≡ c = cc in
    let t' : (a == 13 && c == 10) ≡ false = rw (sym e) t in
    rw t' h

line-step : (a b : ℕ) (bs : List ℕ) (t : Bool) → (a == 13 && b == 10) ≡ t → (o : Option (List ℕ × List ℕ))
    → MatchOption o (has_crlf (b ∷ bs) ≡ false) (λ l. Line (b ∷ bs) l.0 l.1)
    → MatchOption (cond t (Some ([], bs)) (option_map (put a) o)) (cond t true (has_crlf (b ∷ bs)) ≡ false) (λ l. Line (a ∷ b ∷ bs) l.0 l.1)
line-step a b bs true e o h =
    let k = both (a == 13) (b == 10) e in
    let p : a ≡ 13 = eqb-true a 13 k.0 in
    let q : b ≡ 10 = eqb-true b 10 k.1 in
    record { joins = cc; first = refl }
line-step a b bs false e None h = h
line-step a b bs false e (Some l) h = record { joins = ap (λ x. a ∷ x) h.joins; first = cons_clear a b bs l.0 l.1 e h.joins h.first }

-- the first line, or there is none
pub line-is : (bytes : List ℕ) → MatchOption (line bytes) (has_crlf bytes ≡ false) (λ l. Line bytes l.0 l.1)
line-is [] = refl
line-is (a ∷ []) = refl
line-is (a ∷ b ∷ bs) = line-step a b bs (a == 13 && b == 10) refl (line (b ∷ bs)) (line-is (b ∷ bs))

cond_false : (t s : Bool) → cond t true s ≡ false → (t ≡ false) × (s ≡ false)
cond_false true s h = cc
cond_false false s h = (refl, h)

not_pair : (a : ℕ) → (a == 13 && 13 == 10) ≡ false
not_pair a = elim (a == 13) as (λ v. (v && 13 == 10) ≡ false) [ true ↦ refl | false ↦ refl ]

pub line-front : (text rest : List ℕ) → has_crlf text ≡ false → line (text ++ crlf ++ rest) ≡ Some (text, rest)
line-front [] rest h = refl
line-front (a ∷ []) rest h = rw (not_pair a) refl
line-front (a ∷ b ∷ bs) rest h =
    let k = cond_false (a == 13 && b == 10) (has_crlf (b ∷ bs)) h in
    rw k.0 (ap (option_map (put a)) (line-front (b ∷ bs) rest k.1))

-- a line is the first one
pub line-one : (bytes text rest : List ℕ) → Line bytes text rest → line bytes ≡ Some (text, rest)
line-one bytes text rest l = rw l.joins (line-front text rest l.first)

none-step : (a b : ℕ) (bs : List ℕ) (t : Bool) → cond t true (has_crlf (b ∷ bs)) ≡ false → line (b ∷ bs) ≡ None → cond t (Some ([], bs)) (option_map (put a) (line (b ∷ bs))) ≡ None
none-step a b bs true h e = cc
none-step a b bs false h e = rw e refl

pub line-none : (bytes : List ℕ) → has_crlf bytes ≡ false → line bytes ≡ None
line-none [] h = refl
line-none (a ∷ []) h = refl
line-none (a ∷ b ∷ bs) h = none-step a b bs (a == 13 && b == 10) h (line-none (b ∷ bs) (cond_false (a == 13 && b == 10) (has_crlf (b ∷ bs)) h).1)
