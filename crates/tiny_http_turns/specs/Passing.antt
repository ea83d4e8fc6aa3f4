-- Passing a turn on.
use Rattle.std.specs.Prelude.{◌≡◌, ℕ, zero, suc, ◌^◌, ◌⊎◌, List, Option, Some, None}
use Rattle.std.specs.Global.{Vec}

-- a held number, the value that keeps the numbers, and the output
pub record Holds (T N O : Type 0) : Type 0 where
  pub turn : T
  pub numbers : N
  pub output : O

abbrev pub holds : {T N O : Type 0} → T → N → O → Holds T N O
holds turn numbers output = record { turn = turn; numbers = numbers; output = output }

-- the type of relations between the states before and after a text is written in a turn
abbrev pub Writes : Type 0 → Type 0 → Type 1
Writes T O = T → O → List ℕ → T → O → Type 0

-- the type of relations between the states before and after a number is finished
abbrev pub FinishesNumber : Type 0 → Type 0 → Type 1
FinishesNumber T N = T → N → Option (Vec ℕ) → T → N → Type 0

-- whether a text was written, and the numbers stayed the same
abbrev pub WritesText : {T N O : Type 0} → Writes T O → Holds T N O → List ℕ → Holds T N O → Type 0
WritesText writes here text there =
    writes here.turn here.output text there.turn there.output × (there.numbers ≡ here.numbers)

-- whether a number was finished, and nothing was written
abbrev pub FinishesOne : {T N O : Type 0} → FinishesNumber T N → Holds T N O → Option (Vec ℕ) → Holds T N O → Type 0
FinishesOne finishes here left there =
    finishes here.turn here.numbers left there.turn there.numbers × (there.output ≡ here.output)

-- whether this text was written, and then those that were left for the next n numbers, each after the number before it
-- was finished
abbrev pub WritesTexts : {T N O : Type 0} → Writes T O → FinishesNumber T N → ℕ → Holds T N O → List ℕ → Holds T N O
    → Type 0
WritesTexts writes finishes zero here text there = WritesText writes here text there
WritesTexts {T = T} {N = N} {O = O} writes finishes (suc n) here text there =
    (held : Holds T N O) × (left : Vec ℕ) × (next : Holds T N O)
    × WritesTexts writes finishes n here text held
    × FinishesOne finishes held (Some left) next
    × WritesText writes next left.items there

-- A TURN IS PASSED ON: this text and the texts that were left for the numbers directly after it are written, and each
-- number is finished after its text, up to the first number without a text. Passing on also ends after 2^64 further
-- numbers, the last of which is then still held.
pub record PassesOn {T N O : Type 0} (writes : Writes T O) (finishes : FinishesNumber T N) (here : Holds T N O)
    (text : List ℕ) (there : Holds T N O) : Type 0 where
  pub passed : ℕ
  pub last : Holds T N O
  pub texts : WritesTexts writes finishes passed here text last
  pub ends : FinishesOne finishes last None there ⊎ ((passed ≡ 2 ^ 64) × (there ≡ last))
