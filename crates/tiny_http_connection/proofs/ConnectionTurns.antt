-- Under which numbers something may have been sent, as they are handed out and finished.
use Rattle.std.proofs.Common.{◌≡◌, refl, sym, ◌∙◌, subst, Bool, true, false, List, [], ◌∷◌, ◌++◌}
use Rattle.std.specs.Prelude.{MatchBool}
use Rattle.std.specs.List.{list_all, AllByRecursion}
use Rattle.std.proofs.lemmas.Bool.{and_parts}
use Rattle.tiny_http_connection.specs.Segments.{Slot, is_finished}
use Rattle.tiny_http_connection.specs.Connection.{HasSentNothing, AreSentInTurn}

-- nothing was sent, so nothing out of turn
pub uncontinued-turn : (slots : List Slot) → AllByRecursion HasSentNothing slots → AreSentInTurn slots
uncontinued-turn [] h = tt
uncontinued-turn (s ∷ slots) h = by (is_finished s) (uncontinued-turn slots h.1)
  where
    by : (t : Bool) → AreSentInTurn slots → MatchBool t (AreSentInTurn slots) (AllByRecursion HasSentNothing slots)
    by true k = k
    by false k = h.1

uncontinued-more : (slots : List Slot) (n : Slot) → AllByRecursion HasSentNothing slots → HasSentNothing n → AllByRecursion HasSentNothing (slots ++ (n ∷ []))
uncontinued-more [] n h e = (e, tt)
uncontinued-more (s ∷ slots) n h e = (h.0, uncontinued-more slots n h.1 e)

uncontinued-set : (bs cs : List Slot) (s t : Slot) → (HasSentNothing s → HasSentNothing t) → AllByRecursion HasSentNothing (bs ++ (s ∷ cs)) → AllByRecursion HasSentNothing (bs ++ (t ∷ cs))
uncontinued-set [] cs s t e h = (e h.0, h.1)
uncontinued-set (b ∷ bs) cs s t e h = (h.0, uncontinued-set bs cs s t e h.1)

uncontinued-at : (bs cs : List Slot) (s : Slot) → AllByRecursion HasSentNothing (bs ++ (s ∷ cs)) → HasSentNothing s
uncontinued-at [] cs s h = h.0
uncontinued-at (b ∷ bs) cs s h = uncontinued-at bs cs s h.1

-- a number more
pub turn-more : (slots : List Slot) (n : Slot) → AreSentInTurn slots → HasSentNothing n → AreSentInTurn (slots ++ (n ∷ []))
turn-more [] n h e = uncontinued-turn (n ∷ []) (e, tt)
turn-more (s ∷ slots) n h e = by (is_finished s) (λ k. turn-more slots n k e) h
  where
    by : (t : Bool) → (AreSentInTurn slots → AreSentInTurn (slots ++ (n ∷ []))) → MatchBool t (AreSentInTurn slots) (AllByRecursion HasSentNothing slots) → MatchBool t (AreSentInTurn (slots ++ (n ∷ []))) (AllByRecursion HasSentNothing (slots ++ (n ∷ [])))
    by true more k = more k
    by false more k = uncontinued-more slots n k e

-- a number is changed, under which nothing is sent out of turn, and which stays finished if it was
pub turn-set : (bs cs : List Slot) (s t : Slot) → (HasSentNothing s → HasSentNothing t) → (is_finished s ≡ true → is_finished t ≡ true) → AreSentInTurn (bs ++ (s ∷ cs)) → AreSentInTurn (bs ++ (t ∷ cs))
turn-set [] cs s t e f h = by (is_finished s) (is_finished t) f h
  where
    by : (x y : Bool) → (x ≡ true → y ≡ true) → MatchBool x (AreSentInTurn cs) (AllByRecursion HasSentNothing cs) → MatchBool y (AreSentInTurn cs) (AllByRecursion HasSentNothing cs)
    by true true g k = k
    by true false g k = let no : false ≡ true = g refl in cc
    by false true g k = uncontinued-turn cs k
    by false false g k = k
turn-set (b ∷ bs) cs s t e f h = by (is_finished b) (λ k. turn-set bs cs s t e f k) h
  where
    by : (x : Bool) → (AreSentInTurn (bs ++ (s ∷ cs)) → AreSentInTurn (bs ++ (t ∷ cs))) → MatchBool x (AreSentInTurn (bs ++ (s ∷ cs))) (AllByRecursion HasSentNothing (bs ++ (s ∷ cs))) → MatchBool x (AreSentInTurn (bs ++ (t ∷ cs))) (AllByRecursion HasSentNothing (bs ++ (t ∷ cs)))
    by true more k = more k
    by false more k = uncontinued-set bs cs s t e k

-- the number whose turn has come is changed, and stays unfinished
pub turn-continued : (bs cs : List Slot) (s t : Slot) → list_all is_finished bs ≡ true → is_finished s ≡ false → is_finished t ≡ false → AreSentInTurn (bs ++ (s ∷ cs)) → AreSentInTurn (bs ++ (t ∷ cs))
turn-continued [] cs s t fin f g h =
    let P : Bool → Type 0 = λ x. MatchBool x (AreSentInTurn cs) (AllByRecursion HasSentNothing cs) in
    subst P (f ∙ sym g) h
turn-continued (b ∷ bs) cs s t fin f g h =
    let a = and_parts (is_finished b) (list_all is_finished bs) fin in
    let P : Bool → Type 0 = λ x. MatchBool x (AreSentInTurn (bs ++ (s ∷ cs))) (AllByRecursion HasSentNothing (bs ++ (s ∷ cs))) in
    let Q : Bool → Type 0 = λ x. MatchBool x (AreSentInTurn (bs ++ (t ∷ cs))) (AllByRecursion HasSentNothing (bs ++ (t ∷ cs))) in
    subst Q (sym a.0) (turn-continued bs cs s t a.1 f g (subst P a.0 h))

-- behind that number nothing was sent
pub behind-turn : (bs cs : List Slot) (s : Slot) → list_all is_finished bs ≡ true → is_finished s ≡ false → AreSentInTurn (bs ++ (s ∷ cs)) → AllByRecursion HasSentNothing cs
behind-turn [] cs s fin f h =
    let P : Bool → Type 0 = λ x. MatchBool x (AreSentInTurn cs) (AllByRecursion HasSentNothing cs) in
    subst P f h
behind-turn (b ∷ bs) cs s fin f h =
    let a = and_parts (is_finished b) (list_all is_finished bs) fin in
    let P : Bool → Type 0 = λ x. MatchBool x (AreSentInTurn (bs ++ (s ∷ cs))) (AllByRecursion HasSentNothing (bs ++ (s ∷ cs))) in
    behind-turn bs cs s a.1 f (subst P a.0 h)

-- nor to a number whose turn hasn't come
pub early-turn : (bs cs : List Slot) (s : Slot) → list_all is_finished bs ≡ false → AreSentInTurn (bs ++ (s ∷ cs)) → HasSentNothing s
early-turn [] cs s fin h = cc
early-turn (b ∷ bs) cs s fin h = by (is_finished b) refl (λ more k. early-turn bs cs s more k) h
  where
    by : (x : Bool) → is_finished b ≡ x → (list_all is_finished bs ≡ false → AreSentInTurn (bs ++ (s ∷ cs)) → HasSentNothing s) → MatchBool x (AreSentInTurn (bs ++ (s ∷ cs))) (AllByRecursion HasSentNothing (bs ++ (s ∷ cs))) → HasSentNothing s
    by true e early k = let more : list_all is_finished bs ≡ false = rw e at fin in early more k
    by false e early k = uncontinued-at bs cs s k
