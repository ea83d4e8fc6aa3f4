-- Headers that are read back: what the tests of them say.
use Rattle.std.proofs.Common.{◌≡◌, refl, sym, ap, ◌∙◌, subst, ℕ, zero, suc, ◌+◌, ◌-◌, ◌<◌, ◌≤◌, ◌==◌, Bool, true, false, cond, ◌&&◌, List, [], ◌∷◌, length, drop, get_or, arith}
use Rattle.std.specs.Prelude.{◌↔◌, IsTrue}
use Rattle.std.specs.Bool.{MatchBool}
use Rattle.std.specs.List.{AllByRecursion, AllWithin, HoldsAt}
use Rattle.std.specs.Str.{IsAscii}
use Rattle.std.proofs.lemmas.List.Elements.{All-from_recursion, recursion_from_All, All-from_all_within}
use Rattle.tiny_http_text.specs.Bytes.{is_blank, AreAscii, HasNo, HasNoBlank, IsTrimmed, colon}
use Rattle.tiny_http_text.specs.Lines.{has_crlf}
use Rattle.tiny_http_text.proofs.BytesLemmas.{are-ascii}
use Rattle.tiny_http_head.specs.declared.common.Header.{Header}
use Rattle.tiny_http_response.specs.Readable.{IsReadable}

-- whether a CR LF stands from a place on, by the two bytes there
pub crlf-step : (text : List ℕ) (n : ℕ) → n + 1 < length text → has_crlf (drop n text) ≡ cond (get_or text n 0 == 13 && get_or text (suc n) 0 == 10) true (has_crlf (drop (suc n) text))
crlf-step [] n h = absurd (omega arith)
crlf-step (a ∷ []) n h = absurd (omega arith)
crlf-step (a ∷ b ∷ bs) zero h = refl
crlf-step (a ∷ b ∷ bs) (suc n) h = crlf-step (b ∷ bs) n (omega arith)

-- none stands in the last byte
pub crlf-end : (text : List ℕ) (n : ℕ) → length text ≤ n + 1 → has_crlf (drop n text) ≡ false
crlf-end [] zero h = refl
crlf-end [] (suc n) h = refl
crlf-end (a ∷ []) zero h = refl
crlf-end (a ∷ b ∷ bs) zero h = absurd (omega arith)
crlf-end (a ∷ rest) (suc n) h = crlf-end rest n (omega arith)

-- one place on, where none begins
pub crlf-past : (text : List ℕ) (i : ℕ) → 1 ≤ i → i < length text → (get_or text (i - 1) 0 == 13 && get_or text i 0 == 10) ≡ false → has_crlf (drop (i + 1 - 1) text) ≡ has_crlf (drop (i - 1) text)
crlf-past text zero l h e = absurd (omega arith)
crlf-past text (suc n) l h e =
    let at : suc n - 1 ≡ n = omega arith in
    let next : suc n + 1 - 1 ≡ suc n = omega arith in
    let e2 : (get_or text n 0 == 13 && get_or text (suc n) 0 == 10) ≡ false = ap (λ (k : ℕ). get_or text k 0 == 13 && get_or text (suc n) 0 == 10) (sym at) ∙ e in
    let step = crlf-step text n (omega arith) in
    ap (λ (k : ℕ). has_crlf (drop k text)) next ∙ sym (step ∙ ap (λ (t : Bool). cond t true (has_crlf (drop (suc n) text))) e2) ∙ ap (λ (k : ℕ). has_crlf (drop k text)) (sym at)

-- a header whose name is readable is readable if its value is
pub readable-value : (h : Header) (name value : List ℕ) (v : Bool) → name ≡ h.field → value ≡ h.value → IsAscii name → IsAscii value → HasNoBlank name × HasNo colon name → (IsTrue v ↔ (IsTrimmed value × (has_crlf value ≡ false))) → IsTrue v ↔ IsReadable h
readable-value h name value v p q an av n iff =
    let OneLine : List ℕ → Type 0 = λ x. has_crlf x ≡ false in
    let there : IsTrue v → IsReadable h = λ e.
    let b = iff.0 e in
    let trim : IsTrimmed h.value = subst IsTrimmed q b.0 in
    record {
      ascii_field = subst AreAscii p (are-ascii name an);
      ascii_value = subst AreAscii q (are-ascii value av);
      no_blank = subst HasNoBlank p n.0;
      no_colon = subst (HasNo colon) p n.1;
      bare_front = trim.0;
      bare_end = trim.1;
      one_line = subst OneLine q b.1;
    } in
    (there, λ r. iff.1 (subst IsTrimmed (sym q) (r.bare_front, r.bare_end), subst OneLine (sym q) r.one_line))

-- all are readable, or one isn't
pub readable-all : (hs : List Header) (r : Bool) → MatchBool r (AllWithin IsReadable hs 0 (length hs)) ((k : ℕ) × (k < length hs) × HoldsAt (λ h. IsReadable h → ⊥) hs k) → IsTrue r ↔ AllByRecursion IsReadable hs
readable-all hs true m = (λ e. recursion_from_All IsReadable hs (All-from_all_within IsReadable hs m), λ a. refl)
readable-all hs false m =
    let d : Header = record { field = []; value = [] } in
    (λ e. absurd (cc), λ a. absurd (m.2 d (All-from_recursion IsReadable hs a m.0 d m.1)))
