-- The definitions of the law of turns, over lists of steps.
use Prim.Native.Nat.{zero, suc}
use Rattle.std.specs.Prelude.{ℕ, List, [], ◌∷◌, ◌++◌, Option, Some, None, ◌==◌, if◌then◌else◌}
use Rattle.std.specs.List.{list_any}
use Rattle.tiny_http_turns.specs.Turns.{Mark, Open, Held, Left, Finished, TurnStep, Issue, Take, PutBack, Finish}
use Rattle.tiny_http_turns.specs.Turns.{Leave, TurnAnswer, Issued, Taken, Opened, Passed, Waits, Goes, Strange}
use Rattle.tiny_http_turns.specs.Turns.{turn_answer, marks_after_step}

-- the marks after these steps, taken in order
abbrev pub marks_after : List TurnStep → List Mark → List Mark
marks_after [] marks = marks
marks_after (step ∷ steps) marks = marks_after steps (marks_after_step step marks)

-- the numbers that are held, if the first of these marks is that of number n
abbrev pub held_from : ℕ → List Mark → List ℕ
held_from n [] = []
held_from n (Open ∷ marks) = held_from (suc n) marks
held_from n (Held ∷ marks) = n ∷ held_from (suc n) marks
held_from n (Left text ∷ marks) = held_from (suc n) marks
held_from n (Finished ∷ marks) = held_from (suc n) marks

-- the list `seen`, followed by each of these numbers that it doesn't contain yet
abbrev pub with_new : List ℕ → List ℕ → List ℕ
with_new seen [] = seen
with_new seen (n ∷ ns) = with_new (if list_any (λ m. m == n) seen then seen else seen ++ n ∷ []) ns

-- the list `seen`, followed by the numbers held after any of these steps, in the order in which each is first held
abbrev pub first_held : List ℕ → List TurnStep → List Mark → List ℕ
first_held seen [] marks = seen
first_held seen (step ∷ steps) marks =
    first_held (with_new seen (held_from 0 (marks_after_step step marks))) steps (marks_after_step step marks)

-- the numbers below n: 0, 1, 2 and so on
abbrev pub numbers_below : ℕ → List ℕ
numbers_below zero = []
numbers_below (suc n) = numbers_below n ++ n ∷ []

-- the text that comes out for number n in one step, if one does
abbrev pub text_out : ℕ → TurnAnswer → List (List ℕ)
text_out n (Issued k) = []
text_out n Taken = []
text_out n Opened = []
text_out n Passed = []
text_out n Waits = []
text_out n (Goes k text) = if k == n then text ∷ [] else []
text_out n Strange = []

-- all texts that come out for number n in these steps, in order
abbrev pub texts_out : ℕ → List TurnStep → List Mark → List (List ℕ)
texts_out n [] marks = []
texts_out n (step ∷ steps) marks =
    text_out n (turn_answer step marks) ++ texts_out n steps (marks_after_step step marks)

-- the text of a `Leave` step for number n, unless the step is `Strange`; none for any other step
abbrev pub text_left : ℕ → TurnStep → TurnAnswer → List (List ℕ)
text_left n Issue texts = []
text_left n (Take k) texts = []
text_left n (PutBack k) texts = []
text_left n (Finish k) texts = []
text_left n (Leave k text) (Issued j) = if k == n then text ∷ [] else []
text_left n (Leave k text) Taken = if k == n then text ∷ [] else []
text_left n (Leave k text) Opened = if k == n then text ∷ [] else []
text_left n (Leave k text) Passed = if k == n then text ∷ [] else []
text_left n (Leave k text) Waits = if k == n then text ∷ [] else []
text_left n (Leave k text) (Goes j texts) = if k == n then text ∷ [] else []
text_left n (Leave k text) Strange = []

-- all texts that these steps leave for number n, in order
abbrev pub texts_left : ℕ → List TurnStep → List Mark → List (List ℕ)
texts_left n [] marks = []
texts_left n (step ∷ steps) marks =
    text_left n step (turn_answer step marks) ++ texts_left n steps (marks_after_step step marks)

-- the text that waits for a number with this mark, if one does
abbrev pub text_waiting : Option Mark → List (List ℕ)
text_waiting None = []
text_waiting (Some Open) = []
text_waiting (Some Held) = []
text_waiting (Some (Left text)) = text ∷ []
text_waiting (Some Finished) = []
