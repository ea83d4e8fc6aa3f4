-- Lemmas on the lines of a text, and on its line ends as LFs.
use Rattle.std.proofs.Common.{◌≡◌, refl, sym, ap, ◌∙◌, ℕ, Bool, true, false, cond, not, ◌&&◌, ◌||◌, List, [], ◌∷◌, ◌++◌, append_assoc}
use Rattle.std.proofs.lemmas.List.{append-nil}
use Rattle.std.specs.Prelude.{◌==◌}
use Rattle.std.specs.List.{list_all, slice_split, onto_first, flat_map}
use Rattle.std.proofs.lemmas.Bool.{and_parts, false≢true}
use Rattle.tiny_http_text.specs.Bytes.{parts, HasNo}
use Rattle.tiny_http_text.proofs.BytesLemmas.{parts-word, parts-last}
use Rattle.tiny_http_events.specs.Browser.{ends_line, IsOneLine, as_line_feed, with_line_feeds, line_feed, all_but_last, lines}
use Rattle.tiny_http_events.specs.Events.{field_line, field_lines}

pub or-left : (x y : Bool) → not (x || y) ≡ true → x ≡ false
or-left true y h = sym h
or-left false y h = refl

pub or-right : (x y : Bool) → not (x || y) ≡ true → y ≡ false
or-right true y h = absurd (false≢true h)
or-right false true h = sym h
or-right false false h = refl

abbrev pub is_inner : ℕ → Bool
is_inner b = not (ends_line b)

pub feeds-plain : (b : ℕ) (bs : List ℕ) → (b == 13) ≡ false → with_line_feeds (b ∷ bs) ≡ b ∷ with_line_feeds bs
feeds-plain b [] e = rw e refl
feeds-plain b (c ∷ cs) e = rw e refl

-- the front that is one line is kept
pub feeds-line : (line x : List ℕ) → IsOneLine line → with_line_feeds (line ++ x) ≡ line ++ with_line_feeds x
feeds-line [] x h = refl
feeds-line (b ∷ bs) x h =
    let k = and_parts (is_inner b) (list_all is_inner bs) h in
    feeds-plain b (bs ++ x) (or-left (b == 13) (b == 10) k.0) ∙ ap (λ y. b ∷ y) (feeds-line bs x k.1)

pub has-no-feed : (line : List ℕ) → IsOneLine line → HasNo line_feed line
has-no-feed [] h = refl
has-no-feed (b ∷ bs) h =
    let k = and_parts (is_inner b) (list_all is_inner bs) h in
    rw (or-right (b == 13) (b == 10) k.0) (has-no-feed bs k.1)

module _ (p : ℕ → Bool) where
  all-but-step : (line : List ℕ) (t : Bool) (b : ℕ) (ps : List (List ℕ)) → all_but_last (line ∷ cond t ([] ∷ ps) (onto_first b ps)) ≡ line ∷ all_but_last (cond t ([] ∷ ps) (onto_first b ps))
  all-but-step line true b ps = refl
  all-but-step line false b [] = refl
  all-but-step line false b (q ∷ qs) = refl

  pub all-but-split : (line x : List ℕ) → all_but_last (line ∷ slice_split p x) ≡ line ∷ all_but_last (slice_split p x)
  all-but-split line [] = refl
  all-but-split line (b ∷ bs) = all-but-step line (p b) b (slice_split p bs)

-- a line and its LF are the first line
pub lines-first : (line rest : List ℕ) → IsOneLine line → lines (line ++ 10 ∷ rest) ≡ line ∷ lines rest
lines-first line rest h =
    let feeds : with_line_feeds (line ++ 10 ∷ rest) ≡ line ++ 10 ∷ with_line_feeds rest =
    feeds-line line (10 ∷ rest) h ∙ ap (λ y. line ++ y) (feeds-plain 10 rest refl) in
    ap (λ y. all_but_last (parts line_feed y)) feeds
    ∙ (ap all_but_last (parts-word line_feed line (with_line_feeds rest) (has-no-feed line h))
    ∙ all-but-split (λ b. b == line_feed) line (with_line_feeds rest))

-- no CR is left
abbrev pub has_no_return : List ℕ → Bool
has_no_return text = list_all (λ b. not (b == 13)) text

feed-step : (b : ℕ) (t : Bool) → (b == 13) ≡ t → not (cond t 10 b == 13) ≡ true
feed-step b true e = refl
feed-step b false e = rw e refl

feeds-step : (b c : ℕ) (t : Bool) (more : List ℕ) → has_no_return more ≡ true → has_no_return (cond t more (as_line_feed b ∷ more)) ≡ true
feeds-step b c true more h = h
feeds-step b c false more h = rw (feed-step b (b == 13) refl) h

pub feeds-no-return : (text : List ℕ) → has_no_return (with_line_feeds text) ≡ true
feeds-no-return [] = refl
feeds-no-return (b ∷ []) = rw (feed-step b (b == 13) refl) refl
feeds-no-return (b ∷ c ∷ cs) = feeds-step b c (b == 13 && c == 10) (with_line_feeds (c ∷ cs)) (feeds-no-return (c ∷ cs))

-- all parts are one line
abbrev pub are_lines : List (List ℕ) → Bool
are_lines texts = list_all (list_all is_inner) texts

onto-lines : (b : ℕ) (ps : List (List ℕ)) → is_inner b ≡ true → are_lines ps ≡ true → are_lines (onto_first b ps) ≡ true
onto-lines b [] i h = rw i refl
onto-lines b (q ∷ qs) i h = rw i h

inner : (b : ℕ) → not (b == 13) ≡ true → (b == 10) ≡ false → is_inner b ≡ true
inner b h e = rw e (inner-step (b == 13) h)
  where
    inner-step : (t : Bool) → not t ≡ true → not (t || false) ≡ true
    inner-step true h = h
    inner-step false h = refl

lines-step : (b : ℕ) (t : Bool) (ps : List (List ℕ)) → (b == 10) ≡ t → not (b == 13) ≡ true → are_lines ps ≡ true → are_lines (cond t ([] ∷ ps) (onto_first b ps)) ≡ true
lines-step b true ps e i h = h
lines-step b false ps e i h = onto-lines b ps (inner b i e) h

pub parts-lines : (text : List ℕ) → has_no_return text ≡ true → are_lines (parts line_feed text) ≡ true
parts-lines [] h = refl
parts-lines (b ∷ bs) h =
    let k = and_parts (not (b == 13)) (has_no_return bs) h in
    lines-step b (b == 10) (parts line_feed bs) refl k.0 (parts-lines bs k.1)

-- the first line of a text, and what comes after its end
pub cut-joins : (text line end rest : List ℕ) → text ≡ line ++ end → IsOneLine line → with_line_feeds end ≡ line_feed ∷ with_line_feeds rest → with_line_feeds text ≡ line ++ line_feed ∷ with_line_feeds rest
cut-joins text line end rest e h f = ap with_line_feeds e ∙ (feeds-line line end h ∙ ap (λ y. line ++ y) f)

-- the parts after the first line
pub parts-first : (text line rest : List ℕ) → IsOneLine line → with_line_feeds text ≡ line ++ line_feed ∷ with_line_feeds rest → parts line_feed (with_line_feeds text) ≡ line ∷ parts line_feed (with_line_feeds rest)
parts-first text line rest h e = ap (parts line_feed) e ∙ parts-word line_feed line (with_line_feeds rest) (has-no-feed line h)

-- a text of one line
pub parts-one : (text : List ℕ) → IsOneLine text → parts line_feed (with_line_feeds text) ≡ text ∷ []
parts-one text h =
    let same : with_line_feeds text ≡ text = ap with_line_feeds (sym (append-nil text)) ∙ (feeds-line text [] h ∙ append-nil text) in
    ap (parts line_feed) same ∙ parts-last line_feed text (has-no-feed text h)

-- a field for the first line, and the fields for the rest
pub fields-first : (before after name text line rest all : List ℕ) → after ≡ before ++ field_line name line → IsOneLine line → with_line_feeds text ≡ line ++ line_feed ∷ with_line_feeds rest → before ++ field_lines name text ≡ all → after ++ field_lines name rest ≡ all
fields-first before after name text line rest all e h f g =
    ap (λ x. x ++ field_lines name rest) e
    ∙ (append_assoc {A = ℕ} before (field_line name line) (field_lines name rest)
    ∙ (ap (λ ls. before ++ flat_map (field_line name) ls) (sym (parts-first text line rest h f)) ∙ g))

-- the field for the last line
pub fields-one : (before after name text all : List ℕ) → after ≡ before ++ field_line name text → IsOneLine text → before ++ field_lines name text ≡ all → after ≡ all
fields-one before after name text all e h g =
    e ∙ (ap (λ x. before ++ x) (sym (append-nil (field_line name text)))
    ∙ (ap (λ ls. before ++ flat_map (field_line name) ls) (sym (parts-one text h)) ∙ g))
