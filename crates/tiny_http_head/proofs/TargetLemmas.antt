-- The parts of a target are one.
use Rattle.std.proofs.Common.{◌≡◌, refl, sym, ap, ◌∙◌, subst, ℕ, inl, inr, true, false, List, [], ◌∷◌, ◌++◌, Option, Some, None, append_assoc}
use Rattle.std.specs.Prelude.{IfNone, MatchOption, codes}
use Rattle.std.specs.Char.{is_ascii_alphabetic}
use Rattle.std.specs.List.{list_all}
use Rattle.std.specs.Str.Pattern.{LacksTextAt}
use Rattle.std.proofs.lemmas.Bool.{and_parts}
use Rattle.tiny_http_text.specs.Bytes.{HasNo, colon}
use Rattle.tiny_http_head.specs.Target.{slash, question_mark, is_scheme_byte, is_scheme, HasScheme, HasNoScheme, FrontAndQuery, PathBehindAuthority, AuthorityAndPath, TargetParts}
use Rattle.tiny_http_head.proofs.FirstByte.{contrary, not-without, one-without, all-without, one-first}

-- a scheme has no colon
scheme-no-colon : (s : List ℕ) → is_scheme s ≡ true → HasNo colon s
scheme-no-colon [] h = refl
scheme-no-colon (b ∷ bs) h =
    let k = and_parts (is_ascii_alphabetic b) (list_all is_scheme_byte bs) h in
    rw (one-without is_ascii_alphabetic colon b refl k.0, all-without is_scheme_byte colon bs refl k.1) refl

-- a target with a scheme, cut at its first colon
scheme-cut : (target behind : List ℕ) → (s : HasScheme target behind) → target ≡ s.scheme ++ colon ∷ slash ∷ slash ∷ behind
scheme-cut target behind s = s.joins ∙ append_assoc s.scheme (codes "://") behind

-- the first colon of a target is that of its scheme
scheme-at : (target scheme rest behind : List ℕ) → target ≡ scheme ++ colon ∷ rest → HasNo colon scheme → (s : HasScheme target behind)
    → (scheme ≡ s.scheme) × (rest ≡ slash ∷ slash ∷ behind)
scheme-at target scheme rest behind e h s =
    one-first colon scheme s.scheme rest (slash ∷ slash ∷ behind) h (scheme-no-colon s.scheme s.named) (sym e ∙ scheme-cut target behind s)

-- without a colon, without a scheme in front of it, and without two slashes behind it there is no scheme
pub no_colon : (target : List ℕ) → HasNo colon target → HasNoScheme target
no_colon target h behind s =
    not-without colon s.scheme (slash ∷ slash ∷ behind) (subst (HasNo colon) (scheme-cut target behind s) h)

pub no_scheme : (target scheme rest : List ℕ) → target ≡ scheme ++ colon ∷ rest → HasNo colon scheme → is_scheme scheme ≡ false → HasNoScheme target
no_scheme target scheme rest e h not_scheme behind s =
    contrary (is_scheme scheme) (ap is_scheme (scheme-at target scheme rest behind e h s).0 ∙ s.named) not_scheme

no-slashes : (target scheme rest : List ℕ) → target ≡ scheme ++ colon ∷ rest → HasNo colon scheme → LacksTextAt (codes "//") rest 0 → HasNoScheme target
no-slashes target scheme rest e h lacks behind s = lacks behind (scheme-at target scheme rest behind e h s).1

pub no_slashes_if : {A : Type 0} (target scheme rest : List ℕ) (found : Option A) (Found : A → Type 0) → target ≡ scheme ++ colon ∷ rest → HasNo colon scheme
    → MatchOption found (LacksTextAt (codes "//") rest 0) Found → IfNone found (HasNoScheme target)
no_slashes_if target scheme rest None Found e h m = no-slashes target scheme rest e h m
no_slashes_if target scheme rest (Some x) Found e h m = tt

-- what two targets that are one have behind their schemes
one-behind : (target behind other : List ℕ) → HasScheme target behind → HasScheme target other → behind ≡ other
one-behind target behind other s t =
    let same : slash ∷ slash ∷ behind ≡ slash ∷ slash ∷ other = (scheme-at target s.scheme (slash ∷ slash ∷ behind) other (scheme-cut target behind s) (scheme-no-colon s.scheme s.named) t).1 in
    cc

one-front : (text front other : List ℕ) (query another : Option (List ℕ)) → FrontAndQuery text front query → FrontAndQuery text other another
    → (front ≡ other) × (query ≡ another)
one-front text front other None None a b = (sym a.0 ∙ b.0, refl)
one-front text front other None (Some q) a b =
    absurd (not-without question_mark other q (subst (HasNo question_mark) (sym a.0 ∙ b.0) a.1))
one-front text front other (Some q) None a b =
    absurd (not-without question_mark front q (subst (HasNo question_mark) (sym b.0 ∙ a.0) b.1))
one-front text front other (Some q) (Some r) a b =
    let same = one-first question_mark front other q r a.1 b.1 (sym a.0 ∙ b.0) in
    (same.0, ap Some same.1)

path-cut : (text path : List ℕ) → (p : PathBehindAuthority text path) → text ≡ p.authority ++ slash ∷ p.more
path-cut text path p = p.joins ∙ ap (λ x. p.authority ++ x) p.begins

one-path : (text path other : List ℕ) → AuthorityAndPath text path → AuthorityAndPath text other → path ≡ other
one-path text path other (inl p) (inl q) =
    let same = one-first slash p.authority q.authority p.more q.more p.no_slash q.no_slash (sym (path-cut text path p) ∙ path-cut text other q) in
    p.begins ∙ ap (λ x. slash ∷ x) same.1 ∙ sym q.begins
one-path text path other (inl p) (inr q) = absurd (not-without slash p.authority p.more (subst (HasNo slash) (path-cut text path p) q.0))
one-path text path other (inr p) (inl q) = absurd (not-without slash q.authority q.more (subst (HasNo slash) (path-cut text other q) p.0))
one-path text path other (inr p) (inr q) = p.1 ∙ sym q.1

pub one-parts : (target path other : List ℕ) (query another : Option (List ℕ)) → TargetParts target path query → TargetParts target other another
    → (path ≡ other) × (query ≡ another)
one-parts target path other query another (inl a) (inl b) = one-front target path other query another a.1 b.1
one-parts target path other query another (inl a) (inr b) = absurd (a.0 b.0 b.2)
one-parts target path other query another (inr a) (inl b) = absurd (b.0 a.0 a.2)
one-parts target path other query another (inr a) (inr b) =
    let behind = one-behind target a.0 b.0 a.2 b.2 in
    let front = one-front a.0 a.1 b.1 query another a.3 (subst (λ x. FrontAndQuery x b.1 another) (sym behind) b.3) in
    (one-path a.1 path other a.4 (subst (λ x. AuthorityAndPath x other) (sym front.0) b.4), front.1)
