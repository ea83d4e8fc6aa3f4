-- The search for the first CR LF of some bytes.
use Rattle.std.proofs.Common.{◌≡◌, refl, sym, ap, ◌∙◌, subst, ℕ, ◌+◌, ◌<◌, ◌≤◌, Bool, true, false, ◌&&◌, List, [], ◌∷◌, ◌++◌, length, take, drop, get_or, suc, Option, Some, None, append_assoc, arith, eqb-true}
use Rattle.std.specs.Prelude.{◌==◌, option_map, MatchOption}
use Rattle.std.specs.List.{starts_with}
use Rattle.std.specs.Cmp.Lexicographic.{pointwise}
use Rattle.std.proofs.lemmas.Slice.Eq.{bytes_eq-Decides}
use Rattle.std.proofs.lemmas.List.{length-take, length-append}
use Rattle.std.proofs.Math.Seq.{drop-cons, take-suc, take-append_seam, drop-append_seam}
use Rattle.tiny_http_text.specs.Bytes.{crlf}
use Rattle.tiny_http_text.specs.Lines.{Line, IsUnfinished}
use Rattle.tiny_http_head.specs.HeadReading.{line}
use Rattle.tiny_http_head.proofs.LinesLemmas.{line-is}

-- a line that goes on in front of another one
abbrev ahead : List ℕ → Option (List ℕ × List ℕ) → Option (List ℕ × List ℕ)
ahead front o = option_map (λ (r : List ℕ × List ℕ). (front ++ r.0, r.1)) o

-- no CR LF begins before this place
abbrev pub SearchedTo : List ℕ → ℕ → Type 0
SearchedTo bytes at = line bytes ≡ ahead (take at bytes) (line (drop at bytes))

ahead-nothing : (o : Option (List ℕ × List ℕ)) → o ≡ ahead [] o
ahead-nothing None = refl
ahead-nothing (Some r) = refl

pub searched-nothing : (bytes : List ℕ) → SearchedTo bytes 0
searched-nothing bytes = ahead-nothing (line bytes)

ahead-ahead : (front : List ℕ) (a : ℕ) (o : Option (List ℕ × List ℕ)) → ahead front (ahead (a ∷ []) o) ≡ ahead (front ++ a ∷ []) o
ahead-ahead front a None = refl
ahead-ahead front a (Some r) = ap (λ (x : List ℕ). Some (x, r.1)) (sym (append_assoc front (a ∷ []) r.0))

is-crlf : (a b : ℕ) (t u : Bool) → (a == 13) ≡ t → (b == 10) ≡ u → (t && u) ≡ true → crlf ≡ a ∷ b ∷ []
is-crlf a b true true e f h = let p : a ≡ 13 = eqb-true a 13 e in let q : b ≡ 10 = eqb-true b 10 f in cc
is-crlf a b true false e f h = cc
is-crlf a b false u e f h = cc

not-crlf : (a b : ℕ) (t : Bool) → (a == 13 && b == 10) ≡ t → (crlf ≡ a ∷ b ∷ [] → ⊥) → t ≡ false
not-crlf a b true e h = absurd (h (is-crlf a b (a == 13) (b == 10) refl refl e))
not-crlf a b false e h = refl

-- a byte where no CR LF begins
line-past : (a : ℕ) (bs : List ℕ) → (crlf ≡ take 2 (a ∷ bs) → ⊥) → line (a ∷ bs) ≡ ahead (a ∷ []) (line bs)
line-past a [] h = refl
line-past a (b ∷ bs) h = rw (not-crlf a b (a == 13 && b == 10) refl h) refl

pub searched-more : (bytes : List ℕ) (at : ℕ) → at < length bytes → (crlf ≡ take 2 (drop at bytes) → ⊥) → SearchedTo bytes at → SearchedTo bytes (at + 1)
searched-more bytes at h n s =
    let a = get_or bytes at 0 in
    let here : drop at bytes ≡ a ∷ drop (suc at) bytes = drop-cons bytes at 0 h in
    let none : crlf ≡ take 2 (a ∷ drop (suc at) bytes) → ⊥ = λ e. n (e ∙ ap (take 2) (sym here)) in
    let next : at + 1 ≡ suc at = omega arith in
    let more : SearchedTo bytes (suc at) =
    s ∙ ap (λ (x : List ℕ). ahead (take at bytes) (line x)) here
    ∙ ap (ahead (take at bytes)) (line-past a (drop (suc at) bytes) none)
    ∙ ahead-ahead (take at bytes) a (line (drop (suc at) bytes))
    ∙ ap (λ (x : List ℕ). ahead x (line (drop (suc at) bytes))) (sym (take-suc bytes at 0 h)) in
    rw next more

line-here : (bs : List ℕ) → crlf ≡ take 2 bs → (rest : List ℕ) × (line bs ≡ Some ([], rest))
line-here [] h = absurd (cc)
line-here (a ∷ []) h = absurd (cc)
line-here (a ∷ b ∷ bs) h = let p : a ≡ 13 = cc in let q : b ≡ 10 = cc in (bs, rw (p, q) refl)

-- where it begins
abbrev end_of : Option (List ℕ × List ℕ) → Option ℕ
end_of o = option_map (λ (l : List ℕ × List ℕ). length l.0) o

-- a line of this length is taken
pub record TakesLine (bytes : List ℕ) (n : ℕ) : Type 0 where
  pub within : n + 2 ≤ length bytes
  pub is_line : Line bytes (take n bytes) (drop (n + 2) bytes)

taken-line : (bytes text rest : List ℕ) → Line bytes text rest → TakesLine bytes (length text)
taken-line bytes text rest l =
    let front : take (length text) bytes ≡ text = rw (l.joins, append_assoc text crlf rest) (take-append_seam text (crlf ++ rest)) in
    let len : length (text ++ crlf) ≡ length text + 2 = length-append text crlf in
    let back : drop (length text + 2) bytes ≡ rest = rw (l.joins, ← len) (drop-append_seam (text ++ crlf) rest) in
    record { within = rw l.joins (omega (arith, length-append {A = ℕ})); is_line = rw (front, back) l }

by-line : (bytes : List ℕ) (n : ℕ) (o : Option (List ℕ × List ℕ)) → MatchOption o (IsUnfinished bytes) (λ l. Line bytes l.0 l.1) → Some n ≡ end_of o → TakesLine bytes n
by-line bytes n None h e = absurd (cc)
by-line bytes n (Some l) h e = let same : n ≡ length l.0 = cc in rw same (taken-line bytes l.0 l.1 h)

line-taken : (bytes : List ℕ) (n : ℕ) → Some n ≡ end_of (line bytes) → TakesLine bytes n
line-taken bytes n e = by-line bytes n (line bytes) (line-is bytes) e

by-no-line : (bytes : List ℕ) (o : Option (List ℕ × List ℕ)) → MatchOption o (IsUnfinished bytes) (λ l. Line bytes l.0 l.1) → None ≡ end_of o → IsUnfinished bytes
by-no-line bytes None h e = h
by-no-line bytes (Some l) h e = absurd (cc)

line-unfinished : (bytes : List ℕ) → None ≡ end_of (line bytes) → IsUnfinished bytes
line-unfinished bytes e = by-no-line bytes (line bytes) (line-is bytes) e

-- what a search of the bytes' front finds
pub no-crlf : (r : Bool) (found rest : List ℕ) → r ≡ starts_with ◌==◌ found crlf → found ≡ rest → r ≡ false → crlf ≡ take 2 rest → ⊥
no-crlf r found rest v e f same =
    let P : List ℕ → Type 0 = λ x. crlf ≡ take 2 x in
    let whole : pointwise ◌==◌ crlf (take 2 found) ≡ true = (bytes_eq-Decides crlf (take 2 found)).1 (subst P (sym e) same) in
    absurd (cc)

pub a-crlf : (r : Bool) (found rest : List ℕ) → r ≡ starts_with ◌==◌ found crlf → found ≡ rest → r ≡ true → crlf ≡ take 2 rest
a-crlf r found rest v e f =
    let P : List ℕ → Type 0 = λ x. crlf ≡ take 2 x in
    subst P e ((bytes_eq-Decides crlf (take 2 found)).0 (sym v ∙ f))

-- what the search comes to
pub searched-found : (bytes : List ℕ) (at : ℕ) → at < length bytes → crlf ≡ take 2 (drop at bytes) → SearchedTo bytes at → TakesLine bytes at
searched-found bytes at h n s =
    let l = line-here (drop at bytes) n in
    let e : line bytes ≡ Some (take at bytes ++ [], l.0) = s ∙ ap (ahead (take at bytes)) l.1 in
    let len : length (take at bytes ++ []) ≡ at = omega (arith, length-append {A = ℕ}, length-take {A = ℕ}) in
    line-taken bytes at (ap Some (sym len) ∙ ap end_of (sym e))

pub searched-none : (bytes : List ℕ) (at : ℕ) → drop at bytes ≡ [] → SearchedTo bytes at → IsUnfinished bytes
searched-none bytes at e s =
    let none : line bytes ≡ None = s ∙ ap (λ (x : List ℕ). ahead (take at bytes) (line x)) e in
    line-unfinished bytes (ap end_of (sym none))
