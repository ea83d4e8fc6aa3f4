-- Numbers with their marks and what is kept of them, place by place.
use Rattle.std.proofs.Common.{◌≡◌, refl, sym, ap, ◌∙◌, subst, ℕ, zero, suc, ◌<◌, get_or, ◌⊎◌, inl, inr, true, false, List, [], ◌∷◌, ◌++◌, length, take, Option, Some, None}
use Rattle.std.specs.Prelude.{slice_get, slice_set}
use Rattle.std.specs.List.{list_all}
use Rattle.std.proofs.lemmas.Option.{slice_get-get_or}
use Rattle.tiny_http_connection.specs.declared.pending.Unfinished.{Unfinished}
use Rattle.tiny_http_connection.specs.declared.pending.Unfinished.TheVariants as still
use Rattle.tiny_http_body.specs.Text.{Whole}
use Rattle.tiny_http_open_request.specs.Pipeline.{Item, Asks, Request}
use Rattle.tiny_http_connection.specs.Segments.{Slot, Stage, Unanswered, Raw, Upgraded, stage_text, is_broken, is_stage_finished, is_slot_broken, is_finished}
use Rattle.tiny_http_turns.specs.Turns.{Mark, Open, Held, Left, Finished, AreInShape, AreOpenOrLeft, first_unfinished}
use Rattle.tiny_http_connection.specs.Pending.{with_left_finished}
use Rattle.tiny_http_connection.specs.Connection.{KeepsUnfinished, IsKept, AreKept}

-- a place of a list
pub get-at : {X : Type 0} (xs : List X) (x : X) (ys : List X) → slice_get (xs ++ (x ∷ ys)) (length xs) ≡ Some x
get-at [] x ys = refl
get-at (z ∷ zs) x ys = get-at zs x ys

pub set-at : {X : Type 0} (xs : List X) (x y : X) (ys : List X) → slice_set (xs ++ (x ∷ ys)) (length xs) y ≡ xs ++ (y ∷ ys)
set-at [] x y ys = refl
set-at (z ∷ zs) x y ys = ap (λ r. z ∷ r) (set-at zs x y ys)

pub take-at : {X : Type 0} (xs ys : List X) → take (length xs) (xs ++ ys) ≡ xs
take-at [] [] = refl
take-at [] (y ∷ ys) = refl
take-at (z ∷ zs) ys = ap (λ r. z ∷ r) (take-at zs ys)

pub set-same : {X : Type 0} (xs : List X) (k : ℕ) (x : X) → slice_get xs k ≡ Some x → slice_set xs k x ≡ xs
set-same [] k x e = cc
set-same (z ∷ zs) zero x e = let same : z ≡ x = cc in ap (λ y. y ∷ zs) (sym same)
set-same (z ∷ zs) (suc k) x e = ap (λ r. z ∷ r) (set-same zs k x e)

-- one after another
pub kept-append : (bs : List Slot) (fs : List Mark) (us : List (Option Unfinished)) (cs : List Slot) (rs : List Mark) (vs : List (Option Unfinished)) → AreKept bs fs us → AreKept cs rs vs → AreKept (bs ++ cs) (fs ++ rs) (us ++ vs)
kept-append [] [] [] cs rs vs h k = k
kept-append [] [] (u ∷ us) cs rs vs h k = absurd h
kept-append [] (f ∷ fs) us cs rs vs h k = absurd h
kept-append (b ∷ bs) [] us cs rs vs h k = absurd h
kept-append (b ∷ bs) (f ∷ fs) [] cs rs vs h k = absurd h
kept-append (b ∷ bs) (f ∷ fs) (u ∷ us) cs rs vs h k = (h.0, kept-append bs fs us cs rs vs h.1 k)

-- as many marks as numbers
pub kept-length : (bs : List Slot) (fs : List Mark) (us : List (Option Unfinished)) → AreKept bs fs us → length bs ≡ length fs
kept-length [] [] us h = refl
kept-length [] (f ∷ fs) us h = absurd h
kept-length (b ∷ bs) [] us h = absurd h
kept-length (b ∷ bs) (f ∷ fs) [] h = absurd h
kept-length (b ∷ bs) (f ∷ fs) (u ∷ us) h = ap suc (kept-length bs fs us h.1)

-- as many as are kept
pub kept-many : (bs : List Slot) (fs : List Mark) (us : List (Option Unfinished)) → AreKept bs fs us → length bs ≡ length us
kept-many [] [] [] h = refl
kept-many [] [] (u ∷ us) h = absurd h
kept-many [] (f ∷ fs) us h = absurd h
kept-many (b ∷ bs) [] us h = absurd h
kept-many (b ∷ bs) (f ∷ fs) [] h = absurd h
kept-many (b ∷ bs) (f ∷ fs) (u ∷ us) h = ap suc (kept-many bs fs us h.1)

-- the place of a number that isn't finished
pub record KeptAt (slots : List Slot) (marks : List Mark) (requests : List (Option Unfinished)) (n : ℕ) (w : Unfinished) : Type 0 where
  pub bs : List Slot
  pub s : Slot
  pub cs : List Slot
  pub fs : List Mark
  pub rs : List Mark
  pub us : List (Option Unfinished)
  pub vs : List (Option Unfinished)
  pub slots_are : slots ≡ bs ++ (s ∷ cs)
  pub marks_are : marks ≡ fs ++ (Open ∷ rs)
  pub requests_are : requests ≡ us ++ (Some w ∷ vs)
  pub slots_before : length bs ≡ n
  pub marks_before : length fs ≡ n
  pub requests_before : length us ≡ n
  pub before : AreKept bs fs us
  pub waiting : KeepsUnfinished s w
  pub behind : AreKept cs rs vs

place-first : (s : Slot) (m : Mark) (x w : Unfinished) (ss : List Slot) (ms : List Mark) (us : List (Option Unfinished)) → IsKept s m (Some x) → AreKept ss ms us → x ≡ w → KeptAt (s ∷ ss) (m ∷ ms) (Some x ∷ us) zero w
place-first s Held x w ss ms us h k same = absurd h
place-first s (Left text) x w ss ms us h k same = absurd h
place-first s Finished x w ss ms us h k same = absurd h
place-first s Open x w ss ms us h k same =
    let P : Unfinished → Type 0 = λ y. KeepsUnfinished s y in
    record {
      bs = [];
      s = s;
      cs = ss;
      fs = [];
      rs = ms;
      us = [];
      vs = us;
      slots_are = refl;
      marks_are = refl;
      requests_are = ap (λ y. Some y ∷ us) same;
      slots_before = refl;
      marks_before = refl;
      requests_before = refl;
      before = tt;
      waiting = subst P same h;
      behind = k;
    }

place-next : (s : Slot) (m : Mark) (u : Option Unfinished) (ss : List Slot) (ms : List Mark) (us : List (Option Unfinished)) (n : ℕ) (w : Unfinished) → IsKept s m u → KeptAt ss ms us n w → KeptAt (s ∷ ss) (m ∷ ms) (u ∷ us) (suc n) w
place-next s m u ss ms us n w h p = record {
  bs = s ∷ p.bs;
  s = p.s;
  cs = p.cs;
  fs = m ∷ p.fs;
  rs = p.rs;
  us = u ∷ p.us;
  vs = p.vs;
  slots_are = ap (λ r. s ∷ r) p.slots_are;
  marks_are = ap (λ r. m ∷ r) p.marks_are;
  requests_are = ap (λ r. u ∷ r) p.requests_are;
  slots_before = ap suc p.slots_before;
  marks_before = ap suc p.marks_before;
  requests_before = ap suc p.requests_before;
  before = (h, p.before);
  waiting = p.waiting;
  behind = p.behind;
}

some-some : {X : Type 0} (x y : X) → ◌≡◌ {A = Option (Option X)} (Some (Some x)) (Some (Some y)) → x ≡ y
some-some x y e = cc

some-none : {X Y : Type 0} (y : X) → ◌≡◌ {A = Option (Option X)} (Some None) (Some (Some y)) → Y
some-none y e = cc

place-zero : (s : Slot) (m : Mark) (u : Option Unfinished) (w : Unfinished) (ss : List Slot) (ms : List Mark) (us : List (Option Unfinished)) → IsKept s m u → AreKept ss ms us → Some u ≡ Some (Some w) → KeptAt (s ∷ ss) (m ∷ ms) (u ∷ us) zero w
place-zero s m None w ss ms us h k e = some-none w e
place-zero s m (Some x) w ss ms us h k e = place-first s m x w ss ms us h k (some-some x w e)

place-at : (s : Slot) (m : Mark) (u : Option Unfinished) (ss : List Slot) (ms : List Mark) (us : List (Option Unfinished)) (n : ℕ) (w : Unfinished) → IsKept s m u → AreKept ss ms us
    → ((k : ℕ) → slice_get us k ≡ Some (Some w) → KeptAt ss ms us k w) → slice_get (u ∷ us) n ≡ Some (Some w) → KeptAt (s ∷ ss) (m ∷ ms) (u ∷ us) n w
place-at s m u ss ms us zero w h k more e = place-zero s m u w ss ms us h k e
place-at s m u ss ms us (suc n) w h k more e = place-next s m u ss ms us n w h (more n e)

place-none : {Y : Type 0} (n : ℕ) (w : Unfinished) → ◌≡◌ {A = Option (Option Unfinished)} (slice_get [] n) (Some (Some w)) → Y
place-none n w e = cc

pub place-of : (slots : List Slot) (marks : List Mark) (requests : List (Option Unfinished)) (n : ℕ) (w : Unfinished) → AreKept slots marks requests → slice_get requests n ≡ Some (Some w) → KeptAt slots marks requests n w
place-of slots marks [] n w h e = place-none n w e
place-of [] [] (u ∷ us) n w h e = absurd h
place-of [] (m ∷ ms) (u ∷ us) n w h e = absurd h
place-of (s ∷ ss) [] (u ∷ us) n w h e = absurd h
place-of (s ∷ ss) (m ∷ ms) (u ∷ us) n w h e = place-at s m u ss ms us n w h.0 h.1 (λ k g. place-of ss ms us k w h.1 g) e

-- a number of which nothing is kept is finished, or was never given out
kept-finished : (s : Slot) (m : Mark) → IsKept s m None → is_finished s ≡ true
kept-finished s Open h = absurd h
kept-finished s Held h = absurd h
kept-finished s (Left text) h = h.done.finished
kept-finished s Finished h = h.finished

-- a number of which something is kept
kept-unfinished : (s : Slot) (m : Mark) (u : Unfinished) → IsKept s m (Some u) → KeepsUnfinished s u
kept-unfinished s Open u h = h
kept-unfinished s Held u h = absurd h
kept-unfinished s (Left text) u h = absurd h
kept-unfinished s Finished u h = absurd h

-- what is kept of a number that was given out
abbrev pub KeptOf : Slot → Option (Option Unfinished) → Type 0
KeptOf x o = ((o ≡ Some None) × (is_finished x ≡ true)) ⊎ ((u : Unfinished) × (o ≡ Some (Some u)) × KeepsUnfinished x u)

kept-of : (s : Slot) (m : Mark) (u : Option Unfinished) → IsKept s m u → KeptOf s (Some u)
kept-of s m None h = inl (refl, kept-finished s m h)
kept-of s m (Some u) h = inr (u, refl, kept-unfinished s m u h)

pub kept-slot : (slots : List Slot) (marks : List Mark) (requests : List (Option Unfinished)) (n : ℕ) → AreKept slots marks requests → (x : Slot) → slice_get slots n ≡ Some x → KeptOf x (slice_get requests n)
kept-slot [] ms us n h x e = cc
kept-slot (s ∷ ss) [] us n h x e = absurd h
kept-slot (s ∷ ss) (m ∷ ms) [] n h x e = absurd h
kept-slot (s ∷ ss) (m ∷ ms) (u ∷ us) zero h x e = let same : s ≡ x = cc in let P : Slot → Type 0 = λ y. KeptOf y (Some u) in subst P same (kept-of s m u h.0)
kept-slot (s ∷ ss) (m ∷ ms) (u ∷ us) (suc n) h x e = kept-slot ss ms us n h.1 x e

-- a number that isn't finished, of which what was sent is whole
pub unfinished-is : (s : Slot) (u : Unfinished) → KeepsUnfinished s u → is_finished s ≡ false
unfinished-is s (still.Waiting w) h = ap is_finished h.is
unfinished-is s still.Raw h = ap is_stage_finished h.stage
unfinished-is s (still.Upgraded b) h = ap is_finished h.opened.is ∙ ap is_stage_finished h.stage

whole-stage : (s : Slot) (stage : Stage) → s.stage ≡ stage → ((item : Item) → (stage_text s.closes item s.date stage).ending ≡ Whole) → is_slot_broken s ≡ false
whole-stage s stage e whole = ap (λ x. is_broken (stage_text s.closes s.item s.date x).ending) e ∙ ap is_broken (whole s.item)

pub unfinished-whole : (s : Slot) (u : Unfinished) → KeepsUnfinished s u → is_slot_broken s ≡ false
unfinished-whole s (still.Waiting w) h = whole-stage s Unanswered (ap (λ (x : Slot). x.stage) h.is) (λ item. refl)
unfinished-whole s still.Raw h = whole-stage s (Raw h.written false) h.stage (λ item. refl)
unfinished-whole s (still.Upgraded b) h =
    whole-stage s (Upgraded h.protocol h.response h.date h.written false) (ap (λ (x : Slot). x.stage) h.opened.is ∙ h.stage) (λ item. refl)

-- a number that isn't finished has the item of a request
pub unfinished-asks : (s : Slot) (u : Unfinished) → KeepsUnfinished s u → (r : Request) × (s.item ≡ Asks r)
unfinished-asks s (still.Waiting w) h = (h.request, ap (λ (x : Slot). x.item) h.is)
unfinished-asks s still.Raw h = (h.request, h.item)
unfinished-asks s (still.Upgraded b) h = (h.opened.request, ap (λ (x : Slot). x.item) h.opened.is)

-- numbers that are passed are finished
pub kept-passed : (cs : List Slot) (rs : List Mark) (vs : List (Option Unfinished)) → AreKept cs rs vs → AreKept cs (with_left_finished rs) vs
kept-passed [] [] [] h = h
kept-passed [] [] (v ∷ vs) h = absurd h
kept-passed [] (r ∷ rs) vs h = absurd h
kept-passed (c ∷ cs) [] vs h = absurd h
kept-passed (c ∷ cs) (r ∷ rs) [] h = absurd h
kept-passed (c ∷ cs) (Open ∷ rs) (v ∷ vs) h = h
kept-passed (c ∷ cs) (Held ∷ rs) (v ∷ vs) h = h
kept-passed (c ∷ cs) (Left text ∷ rs) (None ∷ vs) h = (h.0.done, kept-passed cs rs vs h.1)
kept-passed (c ∷ cs) (Left text ∷ rs) (Some w ∷ vs) h = absurd h.0
kept-passed (c ∷ cs) (Finished ∷ rs) (v ∷ vs) h = h

passed-shape : (rs : List Mark) → AreOpenOrLeft rs → AreInShape (with_left_finished rs)
passed-shape [] h = tt
passed-shape (Open ∷ rs) h = h
passed-shape (Held ∷ rs) h = absurd h
passed-shape (Left text ∷ rs) h = passed-shape rs h
passed-shape (Finished ∷ rs) h = absurd h

-- the turn of the number at a place: it has come exactly if all before it are finished
pub record InTurn (bs : List Slot) (fs rs : List Mark) : Type 0 where
  pub finished : list_all is_finished bs ≡ true
  pub turn : length fs ≡ first_unfinished (fs ++ (Open ∷ rs))
  pub waiting : AreOpenOrLeft rs
  pub shape : AreInShape (fs ++ (Finished ∷ with_left_finished rs))

pub record OutOfTurn (bs : List Slot) (fs rs : List Mark) : Type 0 where
  pub unfinished : list_all is_finished bs ≡ false
  pub turn : length fs ≡ first_unfinished (fs ++ (Open ∷ rs)) → ⊥

kept-later : (s : Slot) (bs : List Slot) (fs rs : List Mark) → is_finished s ≡ true → InTurn bs fs rs ⊎ OutOfTurn bs fs rs → InTurn (s ∷ bs) (Finished ∷ fs) rs ⊎ OutOfTurn (s ∷ bs) (Finished ∷ fs) rs
kept-later s bs fs rs f (inl t) = inl (record { finished = rw (f, t.finished) refl; turn = ap suc t.turn; waiting = t.waiting; shape = t.shape })
kept-later s bs fs rs f (inr t) = inr (record { unfinished = rw (f, t.unfinished) refl; turn = λ e. t.turn (let same : suc (length fs) ≡ suc (first_unfinished (fs ++ (Open ∷ rs))) = e in cc) })

pub turn-at : (bs : List Slot) (fs : List Mark) (us : List (Option Unfinished)) (rs : List Mark) → AreKept bs fs us → AreInShape (fs ++ (Open ∷ rs)) → InTurn bs fs rs ⊎ OutOfTurn bs fs rs
turn-at [] [] us rs h shape = inl (record { finished = refl; turn = refl; waiting = shape; shape = passed-shape rs shape })
turn-at [] (f ∷ fs) us rs h shape = absurd h
turn-at (b ∷ bs) [] us rs h shape = absurd h
turn-at (b ∷ bs) (f ∷ fs) [] rs h shape = absurd h
turn-at (b ∷ bs) (Open ∷ fs) (None ∷ us) rs h shape = absurd h.0
turn-at (b ∷ bs) (Open ∷ fs) (Some w ∷ us) rs h shape =
    let open_is : is_finished b ≡ false = unfinished-is b w h.0 in
    inr (record { unfinished = rw open_is refl; turn = λ e. (let no : suc (length fs) ≡ 0 = e in cc) })
turn-at (b ∷ bs) (Held ∷ fs) (u ∷ us) rs h shape = absurd h.0
turn-at (b ∷ bs) (Left text ∷ fs) (u ∷ us) rs h shape = absurd shape
turn-at (b ∷ bs) (Finished ∷ fs) (None ∷ us) rs h shape = kept-later b bs fs rs h.0.finished (turn-at bs fs us rs h.1 shape)
turn-at (b ∷ bs) (Finished ∷ fs) (Some w ∷ us) rs h shape = absurd h.0

-- what is stored at a place
pub stored : {X : Type 0} (xs : List X) (n : ℕ) (x y d : X) → n < length xs → x ≡ get_or xs n d → y ≡ x → slice_get xs n ≡ Some y
stored xs n x y d lt e same = slice_get-get_or xs n d lt ∙ ap Some (sym e ∙ sym same)

-- a number more keeps the shape
waiting-issued : (marks : List Mark) → AreOpenOrLeft marks → AreOpenOrLeft (marks ++ (Open ∷ []))
waiting-issued [] h = tt
waiting-issued (Open ∷ marks) h = waiting-issued marks h
waiting-issued (Held ∷ marks) h = absurd h
waiting-issued (Left text ∷ marks) h = waiting-issued marks h
waiting-issued (Finished ∷ marks) h = absurd h

pub shape-issued : (marks : List Mark) → AreInShape marks → AreInShape (marks ++ (Open ∷ []))
shape-issued [] h = tt
shape-issued (Open ∷ marks) h = waiting-issued marks h
shape-issued (Held ∷ marks) h = waiting-issued marks h
shape-issued (Left text ∷ marks) h = absurd h
shape-issued (Finished ∷ marks) h = shape-issued marks h
