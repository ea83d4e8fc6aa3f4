-- The parts of a request target (RFC 9112, section 3.2; RFC 3986, section 3).
use Rattle.std.specs.Prelude.{◌≡◌, ℕ, Bool, false, ◌&&◌, ◌||◌, ◌==◌, ◌⊎◌, List, [], ◌∷◌, ◌++◌, Option, Some, None}
use Rattle.std.specs.Prelude.{IsTrue, codes}
use Rattle.std.specs.List.{list_all, list_any}
use Rattle.std.specs.Char.{is_ascii_alphabetic, is_ascii_alphanumeric}
use Rattle.tiny_http_text.specs.Bytes.{HasNo}

abbrev pub slash : ℕ
slash = 47

abbrev pub question_mark : ℕ
question_mark = 63

-- whether a byte may follow the first byte of a scheme
abbrev pub is_scheme_byte : ℕ → Bool
is_scheme_byte b = is_ascii_alphanumeric b || list_any (λ c. c == b) (codes "+-.")

-- whether the text is a scheme: a letter, and then letters, digits, "+", "-" and "."
abbrev pub is_scheme : List ℕ → Bool
is_scheme [] = false
is_scheme (b ∷ bs) = is_ascii_alphabetic b && list_all is_scheme_byte bs

-- whether the target is a scheme, "://" and the text `behind`
pub record HasScheme (target behind : List ℕ) : Type 0 where
  pub scheme : List ℕ
  pub joins : target ≡ scheme ++ codes "://" ++ behind
  pub named : IsTrue (is_scheme scheme)

-- whether the target isn't in absolute form
abbrev pub HasNoScheme : List ℕ → Type 0
HasNoScheme target = (behind : List ℕ) → HasScheme target behind → ⊥

-- whether the text is `front`, which has no question mark, and then, if there is a query, a question mark and that
-- query
abbrev pub FrontAndQuery : List ℕ → List ℕ → Option (List ℕ) → Type 0
FrontAndQuery text front None = (text ≡ front) × HasNo question_mark front
FrontAndQuery text front (Some query) = (text ≡ front ++ question_mark ∷ query) × HasNo question_mark front

-- whether the text is an authority and this path, which begins at the first slash
pub record PathBehindAuthority (text path : List ℕ) : Type 0 where
  pub authority : List ℕ
  pub more : List ℕ
  pub joins : text ≡ authority ++ path
  pub no_slash : HasNo slash authority
  pub begins : path ≡ slash ∷ more

-- whether the text is an authority and this path; after an authority alone the path is a slash (RFC 9110, section
-- 4.2.3)
abbrev pub AuthorityAndPath : List ℕ → List ℕ → Type 0
AuthorityAndPath text path = PathBehindAuthority text path ⊎ (HasNo slash text × (path ≡ codes "/"))

-- THE PARTS OF A TARGET: whether they are this path and this query, or no query (`None`). Without a scheme the path is
-- everything before the first question mark; in absolute form the path follows the authority.
abbrev pub TargetParts : List ℕ → List ℕ → Option (List ℕ) → Type 0
TargetParts target path query =
    (HasNoScheme target × FrontAndQuery target path query)
    ⊎ ((behind : List ℕ)
    × (front : List ℕ)
    × HasScheme target behind
    × FrontAndQuery behind front query
    × AuthorityAndPath front path)

-- whether this is the path of a target
abbrev pub IsPath : List ℕ → List ℕ → Type 0
IsPath target path = (query : Option (List ℕ)) × TargetParts target path query

-- whether this is the query of a target, or the target has no query (`None`)
abbrev pub IsQuery : List ℕ → Option (List ℕ) → Type 0
IsQuery target query = (path : List ℕ) × TargetParts target path query
