-- Values under consecutive numbers. Leading numbers without a value are only counted.
use Rattle.std.specs.Prelude.{ℕ, List, [], ◌∷◌, ◌++◌, replicate, Option, Some, None, ⊤}

-- the entries of `passed` numbers without a value, then the entries `kept`
abbrev pub with_passed : {T : Type 0} → ℕ → List (Option T) → List (Option T)
with_passed passed kept = replicate passed None ++ kept

-- whether the first entry, if there is one, has a value
abbrev pub BeginsWithValue : {T : Type 0} → List (Option T) → Type 0
BeginsWithValue [] = ⊤
BeginsWithValue (None ∷ kept) = ⊥
BeginsWithValue (Some value ∷ kept) = ⊤

-- the value of an entry, if there is an entry and it has a value
abbrev pub value_of : {T : Type 0} → Option (Option T) → Option T
value_of None = None
value_of (Some value) = value
