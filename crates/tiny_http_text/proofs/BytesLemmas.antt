-- Trimming and splitting, computed, are those of the definitions.
use Rattle.std.proofs.Common.{◌≡◌, refl, sym, ap, ◌∙◌, ℕ, zero, suc, ◌<◌, arith, Bool, true, false, cond, not, ◌&&◌, ◌⊎◌, inl, inr, List, [], ◌∷◌, ◌++◌, append_assoc, eq-eqb, eqb-true, ⊎_elim, Some, None, if◌then◌else◌}
use Rattle.std.specs.Prelude.{◌==◌, slice_index}
use Rattle.std.specs.Bool.{MatchBool}
use Rattle.std.specs.Str.{IsAscii, IsNotAscii}
use Rattle.std.specs.List.{list_all, onto_first}
use Rattle.std.proofs.lemmas.Bool.{and_parts, and_left, and_right, not-true, lt-ltb, ltb-true}
use Rattle.tiny_http_text.specs.Bytes.{is_ascii, AreAscii, HasNo, has_bare_front, has_bare_end, parts, Trims, skip_while, skip_end_while, trimmed}

module _ (p : ℕ → Bool) where
  abbrev skip : List ℕ → List ℕ
  skip = skip_while p

  abbrev skip_end : List ℕ → List ℕ
  skip_end = skip_end_while p

  -- the front that is skipped
  pub record Front (text core : List ℕ) : Type 0 where
    pub before : List ℕ
    pub joins : text ≡ before ++ core
    pub blank : list_all p before ≡ true
    pub bare : has_bare_front p core ≡ true

  front-step : (b : ℕ) (bs : List ℕ) (t : Bool) → p b ≡ t → Front bs (skip bs) → Front (b ∷ bs) (cond t (skip bs) (b ∷ bs))
  front-step b bs true e f = record { before = b ∷ f.before; joins = ap (λ x. b ∷ x) f.joins; blank = rw e f.blank; bare = f.bare }
  front-step b bs false e f = record { before = []; joins = refl; blank = refl; bare = rw e refl }

  pub front : (text : List ℕ) → Front text (skip text)
  front [] = record { before = []; joins = refl; blank = refl; bare = refl }
  front (b ∷ bs) = front-step b bs (p b) refl (front bs)

  -- the end that is skipped
  pub record Back (text core : List ℕ) : Type 0 where
    pub after : List ℕ
    pub joins : text ≡ core ++ after
    pub blank : list_all p after ≡ true
    pub bare : has_bare_end p core ≡ true

  bare-cons : (b : ℕ) (bs core : List ℕ) (after : List ℕ) → (p b && list_all p bs) ≡ false → bs ≡ core ++ after → list_all p after ≡ true → has_bare_end p core ≡ true → has_bare_end p (b ∷ core) ≡ true
  bare-cons b bs [] after e j a h =
      let e' : (p b && list_all p after) ≡ false = rw (sym j) e in
      let g : (p b && true) ≡ false = rw a at e' in
      elim (p b) as (λ v. (v && true) ≡ false → not v ≡ true) [ true ↦ (λ x. sym x) | false ↦ (λ x. refl) ] g
  bare-cons b bs (c ∷ cs) after e j a h = h

  back-step : (b : ℕ) (bs : List ℕ) (t : Bool) → (p b && list_all p bs) ≡ t → Back bs (skip_end bs) → Back (b ∷ bs) (cond t [] (b ∷ skip_end bs))
  back-step b bs true e f = record { after = b ∷ bs; joins = refl; blank = e; bare = refl }
  back-step b bs false e f = record { after = f.after; joins = ap (λ x. b ∷ x) f.joins; blank = f.blank; bare = bare-cons b bs (skip_end bs) f.after e f.joins f.blank f.bare }

  pub back : (text : List ℕ) → Back text (skip_end text)
  back [] = record { after = []; joins = refl; blank = refl; bare = refl }
  back (b ∷ bs) = back-step b bs (p b && list_all p bs) refl (back bs)

  keeps-step : (b : ℕ) (bs : List ℕ) (t : Bool) → not (p b) ≡ true → has_bare_front p (cond t [] (b ∷ skip_end bs)) ≡ true
  keeps-step b bs true h = refl
  keeps-step b bs false h = h

  keeps_front : (text : List ℕ) → has_bare_front p text ≡ true → has_bare_front p (skip_end text) ≡ true
  keeps_front [] h = refl
  keeps_front (b ∷ bs) h = keeps-step b bs (p b && list_all p bs) h

  -- what trimming gives is the core
  pub trims-is : (text : List ℕ) → Trims p text (trimmed p text)
  trims-is text =
      let f = front text in
      let e = back (skip text) in
      record {
        before = f.before;
        after = e.after;
        joins = f.joins ∙ (ap (λ x. f.before ++ x) e.joins ∙ sym (append_assoc {A = ℕ} f.before (skip_end (skip text)) e.after));
        blank_before = f.blank;
        blank_after = e.blank;
        bare_front = keeps_front (skip text) f.bare;
        bare_end = e.bare;
      }

  pub skip-blanks : (before x : List ℕ) → list_all p before ≡ true → skip (before ++ x) ≡ skip x
  skip-blanks [] x h = refl
  skip-blanks (b ∷ bs) x h = let k = and_parts (p b) (list_all p bs) h in rw k.0 (skip-blanks bs x k.1)

  pub skip-all : (after : List ℕ) → list_all p after ≡ true → skip after ≡ []
  skip-all [] h = refl
  skip-all (b ∷ bs) h = let k = and_parts (p b) (list_all p bs) h in rw k.0 (skip-all bs k.1)

  end-all : (after : List ℕ) → list_all p after ≡ true → skip_end after ≡ []
  end-all [] h = refl
  end-all (b ∷ bs) h = rw h refl

  not-all : (b : ℕ) (bs after : List ℕ) → has_bare_end p (b ∷ bs) ≡ true → list_all p ((b ∷ bs) ++ after) ≡ false
  not-all b [] after h = and_left (p b) (list_all p after) (not-true (p b) h)
  not-all b (c ∷ cs) after h = and_right (p b) (list_all p ((c ∷ cs) ++ after)) (not-all c cs after h)

  pub end-core : (core after : List ℕ) → has_bare_end p core ≡ true → list_all p after ≡ true → skip_end (core ++ after) ≡ core
  end-core [] after h a = end-all after a
  end-core (b ∷ []) after h a = rw (not-all b [] after h) (ap (λ x. b ∷ x) (end-all after a))
  end-core (b ∷ c ∷ cs) after h a = rw (not-all b (c ∷ cs) after h) (ap (λ x. b ∷ x) (end-core (c ∷ cs) after h a))

  trim-core : (core after : List ℕ) → has_bare_front p core ≡ true → has_bare_end p core ≡ true → list_all p after ≡ true → skip_end (skip (core ++ after)) ≡ core
  trim-core [] after f e a = rw (skip-all after a) refl
  trim-core (b ∷ bs) after f e a = rw (not-true (p b) f) (end-core (b ∷ bs) after e a)

  -- there is one core
  pub trims-one : (text core : List ℕ) → Trims p text core → trimmed p text ≡ core
  trims-one text core t =
      rw (t.joins, append_assoc {A = ℕ} t.before core t.after, skip-blanks t.before (core ++ t.after) t.blank_before) (trim-core core t.after t.bare_front t.bare_end t.blank_after)

-- a list of parts of the text
abbrev pub ArePartsOf : ℕ → List ℕ → List (List ℕ) → Type 0
ArePartsOf c text [] = ⊥
ArePartsOf c text (w ∷ ws) = HasNo c w × (((ws ≡ []) × (text ≡ w)) ⊎ ((rest : List ℕ) × (text ≡ w ++ c ∷ rest) × (parts c rest ≡ ws)))

parts-first : (c b : ℕ) (bs : List ℕ) (ps : List (List ℕ)) → (b == c) ≡ false → ArePartsOf c bs ps → ArePartsOf c (b ∷ bs) (onto_first b ps)
parts-first c b bs [] e h = elim h [ ]
parts-first c b bs (w ∷ ws) e h =
    (rw e h.0, ⊎_elim (λ k. inl (k.0, ap (λ x. b ∷ x) k.1)) (λ k. inr (k.0, ap (λ x. b ∷ x) k.1, k.2)) h.1)

parts-step : (c b : ℕ) (bs : List ℕ) (t : Bool) → (b == c) ≡ t → ArePartsOf c bs (parts c bs) → ArePartsOf c (b ∷ bs) (cond t ([] ∷ parts c bs) (onto_first b (parts c bs)))
parts-step c b bs true e h = (refl, inr (bs, ap (λ x. x ∷ bs) (eqb-true b c e), refl))
parts-step c b bs false e h = parts-first c b bs (parts c bs) e h

pub parts-are : (c : ℕ) (text : List ℕ) → ArePartsOf c text (parts c text)
parts-are c [] = (refl, inl (refl, refl))
parts-are c (b ∷ bs) = parts-step c b bs (b == c) refl (parts-are c bs)

pub parts-word : (c : ℕ) (w rest : List ℕ) → HasNo c w → parts c (w ++ (c ∷ rest)) ≡ w ∷ parts c rest
parts-word c [] rest h = rw (eq-eqb c c refl) refl
parts-word c (b ∷ bs) rest h =
    let k = and_parts (not (b == c)) (list_all (λ x. not (x == c)) bs) h in
    rw (not-true (b == c) k.0, parts-word c bs rest k.1) refl

pub parts-last : (c : ℕ) (w : List ℕ) → HasNo c w → parts c w ≡ w ∷ []
parts-last c [] h = refl
parts-last c (b ∷ bs) h =
    let k = and_parts (not (b == c)) (list_all (λ x. not (x == c)) bs) h in
    rw (not-true (b == c) k.0, parts-last c bs k.1) refl

-- both words for ASCII
pub are-ascii : (text : List ℕ) → IsAscii text → AreAscii text
are-ascii [] h = refl
are-ascii (b ∷ bs) h = rw (lt-ltb b 128 (h zero)) (are-ascii bs (λ i. h (suc i)))

pub ascii-at : (text : List ℕ) (i : ℕ) → AreAscii text → slice_index text i < 128
ascii-at [] i h = omega arith
ascii-at (b ∷ bs) zero h = ltb-true b 128 (and_parts (is_ascii b) (list_all is_ascii bs) h).0
ascii-at (b ∷ bs) (suc i) h = ascii-at bs i (and_parts (is_ascii b) (list_all is_ascii bs) h).1

pub not-ascii : (text : List ℕ) → IsNotAscii text → AreAscii text → ⊥
not-ascii text bad h = let low = ascii-at text bad.0 h in omega arith

is-all-ascii : (text : List ℕ) (t : Bool) → (AreAscii text → ⊥) → list_all is_ascii text ≡ t → false ≡ t
is-all-ascii text true h e = absurd (h e)
is-all-ascii text false h e = refl

pub ascii-stated : (text : List ℕ) (all_ascii : Bool) → MatchBool all_ascii (IsAscii text) (IsNotAscii text) → all_ascii ≡ list_all is_ascii text
ascii-stated text true h = sym (are-ascii text h)
ascii-stated text false h = is-all-ascii text (list_all is_ascii text) (not-ascii text h) refl

-- what isn't true is false
pub not_true : (t : Bool) → (t ≡ true → ⊥) → t ≡ false
not_true true h = absurd (h refl)
not_true false h = refl

pub none-from : (b : Bool) (n : ℕ) → (b ≡ true → ⊥) → None ≡ (if b then Some n else None)
none-from true n h = absurd (h refl)
none-from false n h = refl
