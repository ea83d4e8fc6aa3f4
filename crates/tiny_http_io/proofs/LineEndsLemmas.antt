-- Lemmas on how far a line has been read.
use Rattle.std.proofs.Common.{◌≡◌, ◌≢◌, ℕ, Bool, true, false, List, [], ◌∷◌, ◌++◌, refl, ap, ◌∙◌, arith, append_assoc}
use Rattle.tiny_http_text.specs.Lines.{Line, has_crlf}
use Rattle.tiny_http_text.proofs.LinesLemmas.{line-plain, line-return, clear-front}
use Rattle.tiny_http_io.specs.LineEnds.{held_return, BeginsNoLineEnd}

pub passed-nothing : BeginsNoLineEnd [] []
passed-nothing = record { none_begins = λ more. refl }

pub passed-return : (text : List ℕ) → BeginsNoLineEnd text [] → BeginsNoLineEnd text (13 ∷ [])
passed-return text p = record { none_begins = λ more. p.none_begins (13 ∷ more) }

-- one byte more of the text
pub passed-more : (text pend : List ℕ) (b : ℕ) → ((more : List ℕ) → has_crlf (b ∷ (pend ++ more)) ≡ has_crlf (pend ++ more)) →
    BeginsNoLineEnd text (b ∷ pend) → BeginsNoLineEnd (text ++ b ∷ []) pend
passed-more text pend b steps p = record {
  none_begins = λ more. ap has_crlf (append_assoc text (b ∷ []) (pend ++ more)) ∙ p.none_begins more ∙ steps more;
}

pub passed-plain : (text : List ℕ) (b : ℕ) → b ≢ 13 → BeginsNoLineEnd text [] → BeginsNoLineEnd (text ++ b ∷ []) []
passed-plain text b ne p = passed-more text [] b (λ more. line-plain b more ne) (record { none_begins = λ more. p.none_begins (b ∷ more) })

pub passed-two_returns : (text : List ℕ) → BeginsNoLineEnd text (13 ∷ []) → BeginsNoLineEnd (text ++ 13 ∷ []) (13 ∷ [])
passed-two_returns text p = passed-more text (13 ∷ []) 13 (λ more. line-return 13 more (λ e. absurd (omega (arith, e)))) (record { none_begins = λ more. p.none_begins (13 ∷ more) })

-- a carriage return and another byte
pub passed-lone_return : (text : List ℕ) (b : ℕ) → b ≢ 10 → b ≢ 13 → BeginsNoLineEnd text (13 ∷ []) → BeginsNoLineEnd ((text ++ 13 ∷ []) ++ b ∷ []) []
passed-lone_return text b not_feed not_return p =
    passed-more (text ++ 13 ∷ []) [] b (λ more. line-plain b more not_return)
    (passed-more text (b ∷ []) 13 (λ more. line-return b more not_feed) (record { none_begins = λ more. p.none_begins (b ∷ more) }))

-- the same, where the flag and the text are known by equations
pub return_flagged : (text : List ℕ) (flag : Bool) → flag ≡ false → BeginsNoLineEnd text (held_return flag) → BeginsNoLineEnd text (13 ∷ [])
return_flagged text true e p = absurd (cc)
return_flagged text false e p = passed-return text p

pub two_returns_flagged : (text new : List ℕ) (flag : Bool) → flag ≡ true → new ≡ text ++ 13 ∷ [] → BeginsNoLineEnd text (held_return flag) → BeginsNoLineEnd new (held_return flag)
two_returns_flagged text new false e n p = absurd (cc)
two_returns_flagged text new true e n p = rw n (passed-two_returns text p)

pub plain_flagged : (text new : List ℕ) (b : ℕ) (flag : Bool) → flag ≡ false → b ≢ 13 → new ≡ text ++ b ∷ [] → BeginsNoLineEnd text (held_return flag) → BeginsNoLineEnd new (held_return flag)
plain_flagged text new b true e ne n p = absurd (cc)
plain_flagged text new b false e ne n p = rw n (passed-plain text b ne p)

pub lone_return_flagged : (text mid new : List ℕ) (b : ℕ) (flag : Bool) → flag ≡ true → b ≢ 10 → b ≢ 13 → mid ≡ text ++ 13 ∷ [] → new ≡ mid ++ b ∷ [] → BeginsNoLineEnd text (held_return flag) → BeginsNoLineEnd new []
lone_return_flagged text mid new b false e not_feed not_return m n p = absurd (cc)
lone_return_flagged text mid new b true e not_feed not_return m n p = rw (n, m) (passed-lone_return text b not_feed not_return p)

-- a carriage return and a line feed end the line
pub line-at_end : (text more : List ℕ) → BeginsNoLineEnd text (13 ∷ []) → Line ((text ++ (13 ∷ (10 ∷ []))) ++ more) text more
line-at_end text more p = record {
  joins = refl;
  first = clear-front text (13 ∷ []) (p.none_begins []);
}

-- there is no line where the bytes stop
pub line_ends-line-none : (text : List ℕ) (flag : Bool) → BeginsNoLineEnd text (held_return flag) → has_crlf (text ++ held_return flag) ≡ false
line_ends-line-none text true p = p.none_begins []
line_ends-line-none text false p = p.none_begins []
