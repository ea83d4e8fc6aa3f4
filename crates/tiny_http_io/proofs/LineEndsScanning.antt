-- Lemmas on the search for the first CR LF.
use Rattle.std.proofs.Common.{◌≡◌, ◌≢◌, ℕ, suc, ◌+◌, ◌-◌, ◌<◌, ◌≤◌, Bool, true, false, List, [], ◌∷◌, ◌++◌, length, take, drop, refl, sym, ap, ◌∙◌, subst, arith, append_assoc, append-nil, Option, Some, None, eqb-true, slice_index_or, ◌⊎◌, inl, inr, Result, Ok, Err}
use Rattle.std.specs.Prelude.{◌==◌}
use Rattle.std.proofs.Math.Seq.{take-suc}
use Rattle.std.proofs.lemmas.List.{take-append-drop, take_all, drop_all}
use Rattle.std.proofs.lemmas.Bool.{cases_lt}
use Rattle.tiny_http_text.specs.Lines.{has_crlf}
use Rattle.tiny_http_io.specs.Device.{Feed, prepended, prepend}
use Rattle.std.specs.Prelude.{IfOk, OnOk}
use Rattle.tiny_http_io.specs.declared.input.Input.{Input}
use Rattle.tiny_http_io.specs.Input.{input_feed}
use Rattle.tiny_http_io.specs.ToCome.{to_come, behind_held}
use Rattle.tiny_http_io.proofs.ToComeLemmas.{skipped-within}
use Rattle.tiny_http_io.specs.LineEnds.{BeginsNoLineEnd, EndsLine}
use Rattle.tiny_http_io.proofs.LineEndsLemmas.{passed-nothing, passed-return, passed-plain, passed-two_returns, passed-lone_return}

-- no CR LF begins in the first bytes; the flag says that the last of them is a carriage return
abbrev pub Scans : Bool → List ℕ → ℕ → Type 0
Scans false bytes at = BeginsNoLineEnd (take at bytes) []
Scans true bytes at = (1 ≤ at) × (take at bytes ≡ take (at - 1) bytes ++ 13 ∷ []) × BeginsNoLineEnd (take (at - 1) bytes) (13 ∷ [])

pub scans-nothing : (bytes : List ℕ) → Scans false bytes 0
scans-nothing bytes = passed-nothing

pub scans-before : (flag : Bool) (bytes : List ℕ) (at : ℕ) → flag ≡ true → Scans flag bytes at → 1 ≤ at
scans-before true bytes at e s = s.0
scans-before false bytes at e s = absurd (cc)

-- a carriage return
step-return : (flag : Bool) (bytes : List ℕ) (at b : ℕ) → b ≡ 13 → take (at + 1) bytes ≡ take at bytes ++ b ∷ [] → Scans flag bytes at → Scans true bytes (at + 1)
step-return false bytes at b e t s =
    let k : (at + 1) - 1 ≡ at = omega arith in
    (omega arith, rw (k, t, e) refl, rw k (passed-return _ s))
step-return true bytes at b e t s =
    let k : (at + 1) - 1 ≡ at = omega arith in
    (omega arith, rw (k, t, e) refl, rw (k, s.1) (passed-two_returns _ s.2))

-- another byte
step-plain : (flag : Bool) (bytes : List ℕ) (at b : ℕ) → b ≢ 13 → (flag ≡ true → b ≢ 10) → take (at + 1) bytes ≡ take at bytes ++ b ∷ [] → Scans flag bytes at → Scans false bytes (at + 1)
step-plain false bytes at b ne but t s = rw t (passed-plain _ b ne s)
step-plain true bytes at b ne but t s = rw (t, s.1) (passed-lone_return _ b (but refl) ne s.2)

step : (flag r : Bool) (bytes : List ℕ) (at b : ℕ) → (b == 13) ≡ r → (flag ≡ true → b ≢ 10) → take (at + 1) bytes ≡ take at bytes ++ b ∷ [] → Scans flag bytes at → Scans r bytes (at + 1)
step flag true bytes at b e but t s = step-return flag bytes at b (eqb-true b 13 e) t s
step flag false bytes at b e but t s = step-plain flag bytes at b (λ x. absurd (let y : (b == 13) ≡ true = rw x refl in cc)) but t s

pub scans-on : (flag r : Bool) (bytes : List ℕ) (at : ℕ) → at < length bytes → (slice_index_or bytes at 0 == 13) ≡ r → (flag ≡ true → slice_index_or bytes at 0 ≢ 10) → Scans flag bytes at → Scans r bytes (at + 1)
scans-on flag r bytes at within e but s = let k : at + 1 ≡ suc at = omega arith in
    step flag r bytes at (slice_index_or bytes at 0) e but (rw k (take-suc bytes at 0 within)) s

pub scans-end : (flag : Bool) (bytes : List ℕ) (at : ℕ) → flag ≡ true → at < length bytes → slice_index_or bytes at 0 ≡ 10 → Scans flag bytes at → EndsLine bytes (at - 1)
scans-end false bytes at e within b s = absurd (cc)
scans-end true bytes at e within b s =
    let h = s.0 in
    let k : (at - 1) + 2 ≡ suc at = omega (arith, h) in
    record {
      within = omega (arith, h, within);
      ends = rw k (take-suc bytes at 0 within ∙ rw (b, s.1) (append_assoc (take (at - 1) bytes) (13 ∷ []) (10 ∷ [])));
      first = s.2;
    }

-- the flag was never followed by a line feed up to the end
pub scans-none : (flag : Bool) (bytes : List ℕ) (at : ℕ) → length bytes ≤ at → Scans flag bytes at → has_crlf bytes ≡ false
scans-none false bytes at le s = let P : List ℕ → Type 0 = λ x. has_crlf x ≡ false in subst P (append-nil (take at bytes) ∙ take_all at bytes le) (s.none_begins [])
scans-none true bytes at le s = let P : List ℕ → Type 0 = λ x. has_crlf x ≡ false in subst P (sym s.1 ∙ take_all at bytes le) (s.2.none_begins [])

-- where a line lies in what is held after the bytes to be skipped, more is held than these
pub crlf-held : (n : ℕ) (bytes : List ℕ) → has_crlf (drop n bytes) ≡ true → n < length bytes
crlf-held n bytes h = elim (cases_lt n (length bytes)) [ inl less ↦ less | inr le ↦ absurd (none (drop_all n bytes le) h) ]
  where
    none : drop n bytes ≡ [] → has_crlf (drop n bytes) ≡ true → ⊥
    none e t = let no : false ≡ true = ap has_crlf (sym e) ∙ t in cc

pub not-end : {B : Type 0} (flag : Bool) → ((flag ≡ true) × B) ⊎ (flag ≡ false) → flag ≡ true → B
not-end flag (inl p) e = p.1
not-end flag (inr f) e = absurd (cc)

-- nothing is to be skipped
pub come-now : (held : List ℕ) (f : Feed) → to_come 0 held (Some f) ≡ Some (prepend held f)
come-now held f = ap Some (skipped-within 0 (prepend held f) (omega arith))

-- a line that is held is the first of what is to come
pub held-line : (n : ℕ) (text held : List ℕ) (f : Option Feed) → take n held ≡ text → to_come 0 held f ≡ prepended text (to_come 0 (drop n held) f)
held-line n text held None e = refl
held-line n text held (Some f) e =
    let P : List ℕ → Option Feed = λ x. Some (record { bytes = x; stop = f.stop }) in
    come-now held f
    ∙ ap P (ap (λ x. x ++ f.bytes) (sym (take-append-drop n held)) ∙ append_assoc (take n held) (drop n held) f.bytes ∙ ap (λ x. x ++ (drop n held ++ f.bytes)) e)
    ∙ ap (prepended text) (sym (come-now (drop n held) f))

pub line-given : {R T E : Type 0} (feed : R → Option Feed) (r : Result T E) (items : T → List ℕ) (n : ℕ) (first mid new : Input R) → input_feed feed mid ≡ input_feed feed first → mid.skip ≡ 0 → EndsLine mid.held n
    → IfOk r (λ x. items x ≡ take n mid.held) → OnOk r (new ≡ record mid { held = drop (n + 2) mid.held }) → IfOk r (λ x. input_feed feed first ≡ prepended (items x ++ (13 ∷ (10 ∷ []))) (input_feed feed new))
line-given feed (Err e) items n first mid new same zero ends text rest = tt
line-given feed (Ok x) items n first mid new same zero ends text rest =
    let come = behind_held mid.stop (feed mid.inner) in
    let all = items x ++ (13 ∷ (10 ∷ [])) in
    let T : ℕ → Type 0 = λ k. to_come k mid.held come ≡ prepended all (to_come k (drop (n + 2) mid.held) come) in
    let line = subst T (sym zero) (held-line (n + 2) all mid.held come (ends.ends ∙ ap (λ y. y ++ (13 ∷ (10 ∷ []))) (sym text))) in
    rw rest (sym same ∙ line)
