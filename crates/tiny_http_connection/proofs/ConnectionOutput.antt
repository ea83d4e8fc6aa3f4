-- The output, as texts are sent one after another.
use Rattle.std.proofs.Common.{◌≡◌, refl, sym, ap, ◌∙◌, subst, ℕ, ◌+◌, ◌-◌, ◌<◌, ◌^◌, ◌⊎◌, inl, inr, ⊎_elim, Bool, true, false, not, ◌&&◌, ◌||◌, List, [], ◌∷◌, ◌++◌, length, Option, Some, None, arith, append_assoc, append-nil}
use Rattle.std.specs.Prelude.{MatchBool, is_some, if◌then◌else◌}
use Rattle.std.specs.List.{list_all, AllByRecursion}
use Rattle.std.specs.Io.KnownBytes.{append_known}
use Rattle.std.specs.declared.io.ErrorKind.{ErrorKind}
use Rattle.std.proofs.lemmas.Bool.{and_parts}
use Rattle.tiny_http_io.specs.Device.{Sink, IsFront, IsKnownFront, BeginsKnown, IsAllKnown, HoldsNothing, StatesKind, next_count}
use Rattle.tiny_http_io.proofs.DeviceLemmas.{IsFront-append}
use Rattle.tiny_http_connection.specs.declared.pending.Unfinished.{Unfinished}
use Rattle.tiny_http_connection.specs.Segments.{Slot, is_finished, is_slot_broken, opening, stage_text, segment}
use Rattle.tiny_http_connection.specs.Slots.{is_output_broken, joined}
use Rattle.tiny_http_connection.specs.Conversation.{Failure, finished_front}
use Rattle.tiny_http_connection.proofs.ConversationWriting.{FailsBetween, flushed_if}
use Rattle.tiny_http_response.specs.Sending.{CanSend, IsFlushed, OutletFailed, Idles, SendsUnlessEnded}
use Rattle.tiny_http_turns.specs.Turns.{Mark, Open, Held, Left, Finished, AreOpenOrLeft}
use Rattle.tiny_http_connection.specs.Pending.{left_text, begins_left}
use Rattle.tiny_http_connection.specs.Connection.{AreKept, HasSentNothing, OutputAt}
use Rattle.tiny_http_connection.proofs.ConnectionKept.{unfinished-is, unfinished-whole}
use Rattle.tiny_http_connection.proofs.SlotsLemmas.{joined-front, joined-broken, breaks-front, breaks-waits}
use Rattle.std.proofs.Math.Bool.{or-false}

-- what stands after a number whose turn has come: the texts that were left, up to one that waits
pub joined_behind : (cs : List Slot) (rs : List Mark) (vs : List (Option Unfinished)) → AreOpenOrLeft rs → AllByRecursion HasSentNothing cs → AreKept cs rs vs → (joined cs ≡ left_text rs) × (is_output_broken cs ≡ false)
joined_behind [] [] vs w u h = (refl, refl)
joined_behind [] (r ∷ rs) vs w u h = absurd h
joined_behind (c ∷ cs) [] vs w u h = absurd h
joined_behind (c ∷ cs) (r ∷ rs) [] w u h = absurd h
joined_behind (c ∷ cs) (Open ∷ rs) (None ∷ vs) w u h = absurd h.0
joined_behind (c ∷ cs) (Open ∷ rs) (Some q ∷ vs) w u h =
    let waits = unfinished-is c q h.0 in
    let nothing : segment c ≡ [] = ap (λ o. opening c.item o ++ (stage_text c.closes c.item c.date c.stage).bytes) u.0.0 ∙ u.0.1 waits in
    (rw (nothing, waits) refl, rw (unfinished-whole c q h.0, waits) refl)
joined_behind (c ∷ cs) (Held ∷ rs) (v ∷ vs) w u h = absurd w
joined_behind (c ∷ cs) (Left text ∷ rs) (None ∷ vs) w u h =
    let k = joined_behind cs rs vs w u.1 h.1 in
    (rw (h.0.done.finished, h.0.whole) (ap (λ y. y ++ joined cs) h.0.same ∙ ap (λ y. text ++ y) k.0), rw (h.0.done.finished, h.0.whole) k.1)
joined_behind (c ∷ cs) (Left text ∷ rs) (Some q ∷ vs) w u h = absurd h.0
joined_behind (c ∷ cs) (Finished ∷ rs) (v ∷ vs) w u h = absurd w

-- these segments, if they follow
abbrev pub joined_if : Bool → List Slot → List ℕ
joined_if t slots = if t then joined slots else []

-- how many numbers are finished in front
pub front-all : (bs xs : List Slot) → list_all is_finished bs ≡ true → finished_front (bs ++ xs) ≡ length bs + finished_front xs
front-all [] xs h = omega arith
front-all (b ∷ bs) xs h =
    let a = and_parts (is_finished b) (list_all is_finished bs) h in
    let more = front-all bs xs a.1 in
    rw a.0 (omega (arith, more))

pub left-finished : (cs : List Slot) (rs : List Mark) (vs : List (Option Unfinished)) → AreKept cs rs vs → begins_left rs ≡ true → 0 < finished_front cs
left-finished [] [] vs h e = cc
left-finished [] (r ∷ rs) vs h e = absurd h
left-finished (c ∷ cs) [] vs h e = absurd h
left-finished (c ∷ cs) (r ∷ rs) [] h e = absurd h
left-finished (c ∷ cs) (Open ∷ rs) (v ∷ vs) h e = cc
left-finished (c ∷ cs) (Held ∷ rs) (v ∷ vs) h e = cc
left-finished (c ∷ cs) (Left text ∷ rs) (None ∷ vs) h e = rw h.0.done.finished (omega arith)
left-finished (c ∷ cs) (Left text ∷ rs) (Some q ∷ vs) h e = absurd h.0
left-finished (c ∷ cs) (Finished ∷ rs) (v ∷ vs) h e = cc

-- what a lost text leaves
pub record LostOutput (before new : Sink) (from to : List ℕ) (kind : ErrorKind) : Type 0 where
  pub output : List ℕ
  pub begins : IsFront from output
  pub front : IsFront output to
  pub taken : new.taken ≡ Some output
  pub failures : new.failures ≡ before.failures + 1
  pub stated : StatesKind new.last_kind kind

lost-front : (known text sent : List ℕ) (taken : Option (List ℕ)) → IsKnownFront taken (append_known (Some known) text) → BeginsKnown sent taken → (z : List ℕ) × (taken ≡ Some z) × IsFront z (known ++ text) × IsFront sent z
lost-front known text sent None h k = let e : Some (known ++ text) ≡ None = h.1 in cc
lost-front known text sent (Some z) h k = (z, refl, (h.0, (let e : Some (known ++ text) ≡ Some (z ++ h.0) = h.1 in cc)), k)

-- one failure more, below the greatest number
count-next : (n m : ℕ) → n < 2 ^ 64 - 1 → m ≡ next_count n → m ≡ n + 1
count-next n m lt e = omega arith

pub lost-output : (before sink new : Sink) (known text flushed : List ℕ) (kind : ErrorKind) → sink.taken ≡ Some known → sink.failures ≡ before.failures → IsFront flushed sink.sent → before.failures < 2 ^ 64 - 1 → OutletFailed sink new text kind → LostOutput before new flushed (known ++ text) kind
lost-output before sink new known text flushed kind front fails firm low l =
    let P : Option (List ℕ) → Type 0 = λ x. IsKnownFront new.taken (append_known x text) in
    let z = lost-front known text sink.sent new.taken (subst P front l.bytes) l.keeps in
    let C : ℕ → Type 0 = λ x. new.failures ≡ next_count x in
    record { output = z.0; begins = IsFront-append flushed sink.sent z.0 firm z.3; front = z.2; taken = z.1; failures = count-next before.failures new.failures low (subst C fails l.failures); stated = l.last_kind }

-- what is all sent on can't be lost
pub all-firm : (s : Sink) (text : List ℕ) → s.taken ≡ Some text → HoldsNothing s → IsFront text s.sent
all-firm s text e h =
    let P : Option (List ℕ) → Type 0 = λ x. IsAllKnown s.sent x in
    ([], subst P e h ∙ sym (append-nil text))

-- whether the output has ended
pub ended-is : (before sink : Sink) (e : Bool) (slots : List Slot) (flushed : List ℕ) (failure : Option Failure) → OutputAt before sink e slots flushed failure → (is_some failure || is_output_broken slots) ≡ e
ended-is before sink e slots flushed None h = sym h.3
ended-is before sink e slots flushed (Some f) h = sym h.3

-- what the writer and what is held state of it
pub sink-ended : (before sink : Sink) (e : Bool) (slots : List Slot) (flushed : List ℕ) (failure : Option Failure) → OutputAt before sink e slots flushed failure → (e ≡ true → sink.has_ended ≡ true) → sink.has_ended ≡ e
sink-ended before sink e slots flushed None h over = h.2
sink-ended before sink e slots flushed (Some f) h over = over h.3 ∙ sym h.3

-- the same output of other slots
pub output-same : (before sink : Sink) (e : Bool) (xs ys : List Slot) (flushed : List ℕ) (failure : Option Failure) → joined xs ≡ joined ys → is_output_broken xs ≡ is_output_broken ys → OutputAt before sink e xs flushed failure → OutputAt before sink e ys flushed failure
output-same before sink e xs ys flushed None j b h =
    let P : List ℕ → Type 0 = λ t. IsFront flushed t in
    (h.0 ∙ ap Some j, h.1, h.2, h.3 ∙ b, subst P j h.4, h.5)
output-same before sink e xs ys flushed (Some f) j b h = h

-- slots behind, of which none sends anything
pub plain-more : (before sink : Sink) (e : Bool) (bs xs : List Slot) (flushed : List ℕ) (failure : Option Failure) → OutputAt before sink e bs flushed failure → list_all is_finished bs ≡ true → joined xs ≡ [] → is_output_broken xs ≡ false → OutputAt before sink e (bs ++ xs) flushed failure
plain-more before sink e bs xs flushed failure h fin is whole = output-same before sink e bs (bs ++ xs) flushed failure (sym (by-broken (is_output_broken bs) refl)) (sym breaks) h
  where
    breaks : is_output_broken (bs ++ xs) ≡ is_output_broken bs
    breaks = breaks-front bs xs fin ∙ ap (λ x. is_output_broken bs || x) whole ∙ or-false (is_output_broken bs)

    by-broken : (t : Bool) → is_output_broken bs ≡ t → joined (bs ++ xs) ≡ joined bs
    by-broken true e = joined-broken bs xs e
    by-broken false e = joined-front bs xs fin e ∙ ap (λ y. joined bs ++ y) is ∙ append-nil (joined bs)

-- the output after a writer that took nothing
pub output-idle : (before sink new : Sink) (slots : List Slot) (flushed : List ℕ) (failure : Option Failure) → OutputAt before sink true slots flushed failure → Idles sink new → OutputAt before new true slots flushed failure
output-idle before sink new slots flushed None h i = (i.bytes ∙ h.0, i.failures ∙ h.1, i.stays ∙ h.2, h.3, h.4, λ z. (let absent : true ≡ false = z in cc))
output-idle before sink new slots flushed (Some f) h i =
    let K : Option ErrorKind → Type 0 = λ x. StatesKind x f.kind in
    (i.bytes ∙ h.0, i.failures ∙ h.1, subst K (sym i.last_kind) h.2, h.3)

-- what was sent quietly after some slots, as the output of more
pub record Goes (before new : Sink) (was ended : Bool) (slots : List Slot) (flushed : List ℕ) (failed : Option Failure) : Type 0 where
  pub failure : Option Failure
  pub output : OutputAt before new ended slots (flushed_if was flushed slots) failure
  pub writes : MatchBool was (failure ≡ failed) ((failure ≡ None) ⊎ FailsBetween flushed (joined slots) failure)

-- the same numbers, after which a whole text more is sent
pub record More (old slots : List Slot) (text : List ℕ) : Type 0 where
  pub breaks : is_output_broken slots ≡ is_output_broken old
  pub longer : is_output_broken old ≡ false → joined old ++ text ≡ joined slots
  pub broken : is_output_broken old ≡ true → joined old ≡ joined slots

-- numbers behind those that are finished
pub more-behind : (bs xs : List Slot) (text : List ℕ) → list_all is_finished bs ≡ true → joined xs ≡ text → is_output_broken xs ≡ false → More bs (bs ++ xs) text
more-behind bs xs text fin is whole = record {
  breaks = breaks-front bs xs fin ∙ ap (λ x. is_output_broken bs || x) whole ∙ or-false (is_output_broken bs);
  longer = λ none. ap (λ y. joined bs ++ y) (sym is) ∙ sym (joined-front bs xs fin none);
  broken = λ b. sym (joined-broken bs xs b);
}

-- an output that has ended is that of the numbers after the step too
pub more-ended : (before sink new : Sink) (ended : Bool) (old slots : List Slot) (text flushed : List ℕ) (failure : Option Failure) → OutputAt before sink true old flushed failure → More old slots text → Idles sink new → ended ≡ true → OutputAt before new ended slots flushed failure
more-ended before sink new ended old slots text flushed None h m i z =
    let breaks : is_output_broken old ≡ true = sym h.3 in
    let P : Bool → Type 0 = λ x. OutputAt before new x slots flushed None in
    subst P (sym z) (output-same before new true old slots flushed None (m.broken breaks) (sym m.breaks) (output-idle before sink new old flushed None h i))
more-ended before sink new ended old slots text flushed (Some f) h m i z =
    let P : Bool → Type 0 = λ x. OutputAt before new x slots flushed (Some f) in
    subst P (sym z) (output-idle before sink new old flushed (Some f) h i)

pub output-more : (before sink new : Sink) (e ended : Bool) (old slots : List Slot) (text flushed : List ℕ) (failure : Option Failure) → OutputAt before sink e old flushed failure → More old slots text → before.failures < 2 ^ 64 - 1 → SendsUnlessEnded e sink new ended text → IsFlushed new
    → Goes before new e ended slots flushed failure
output-more before sink new true ended old slots text flushed failure h m low sends firm = record { failure = failure; output = more-ended before sink new ended old slots text flushed failure h m sends.0 sends.1; writes = refl }
output-more before sink new false ended old slots text flushed (Some f) h m low sends firm = let none : false ≡ true = h.3 in cc
output-more before sink new false ended old slots text flushed None h m low sends firm =
    let none : is_output_broken old ≡ false = sym h.3 in
    let longer : joined old ++ text ≡ joined slots = m.longer none in
    let breaks : is_output_broken slots ≡ false = m.breaks ∙ none in
    ⊎_elim
    (λ k.
    let taken : new.taken ≡ Some (joined slots) = k.2.bytes ∙ ap (λ x. append_known x text) h.0 ∙ ap Some longer in
    record {
      failure = None;
      output = (taken, k.2.failures ∙ h.1, k.1 ∙ sym k.0, k.0 ∙ sym breaks, ([], sym (append-nil (joined slots))), λ z. all-firm new (joined slots) taken (firm k.1));
      writes = inl refl;
    })
    (λ k.
    let z = lost-output before sink new (joined old) text flushed k.2 h.0 h.1 (h.5 refl) low k.3 in
    let f : Failure = record { kind = k.2; output = z.output } in
    let S : List ℕ → Type 0 = λ x. IsFront z.output x in
    record {
      failure = Some f;
      output = (z.taken, z.failures, z.stated, k.0);
      writes = inr (f, refl, z.begins, subst S longer z.front);
    })
    sends

-- A number whose turn has come, and of which so much was sent, has sent this text more, whole or not.
pub record Longer (old bs : List Slot) (s : Slot) (text : List ℕ) : Type 0 where
  pub breaks : is_output_broken old ≡ is_output_broken bs
  pub longer : is_output_broken bs ≡ false → (xs : List Slot) → joined (bs ++ (s ∷ xs)) ≡ (joined old ++ text) ++ joined_if (is_finished s && not (is_slot_broken s)) xs
  pub broken : is_output_broken bs ≡ true → (xs : List Slot) → joined (bs ++ (s ∷ xs)) ≡ joined old

pub longer-at : (old bs cs : List Slot) (s t : Slot) (text : List ℕ) → old ≡ bs ++ (s ∷ cs) → list_all is_finished bs ≡ true → is_finished s ≡ false → is_slot_broken s ≡ false → segment t ≡ segment s ++ text → Longer old bs t text
longer-at old bs cs s t text e fin open_is whole own = record {
  breaks = ap is_output_broken e ∙ breaks-waits bs s cs whole open_is;
  longer = λ none xs. joined-front bs (t ∷ xs) fin none ∙ ap (λ y. joined bs ++ (y ++ rest xs)) own ∙ seam (joined bs) (segment s) text (rest xs)
      ∙ ap (λ y. (y ++ text) ++ rest xs) (sym (ap joined e ∙ joined-front bs (s ∷ cs) fin none ∙ rw open_is (ap (λ y. joined bs ++ y) (append-nil (segment s)))));
  broken = λ b xs. joined-broken bs (t ∷ xs) b ∙ sym (ap joined e ∙ joined-broken bs (s ∷ cs) b);
}
  where
    rest : List Slot → List ℕ
    rest xs = joined_if (is_finished t && not (is_slot_broken t)) xs

    seam : (a o u x : List ℕ) → a ++ ((o ++ u) ++ x) ≡ ((a ++ o) ++ u) ++ x
    seam a o u x = sym (append_assoc a (o ++ u) x) ∙ ap (λ y. y ++ x) (sym (append_assoc a o u))

-- with nothing behind it
pub longer-alone : (old bs : List Slot) (s : Slot) (text : List ℕ) → Longer old bs s text → is_output_broken bs ≡ false → joined old ++ text ≡ joined (bs ++ (s ∷ []))
longer-alone old bs s text l none = sym (l.longer none [] ∙ none-behind (is_finished s && not (is_slot_broken s)) (joined old ++ text))
  where
    none-behind : (t : Bool) (x : List ℕ) → x ++ joined_if t [] ≡ x
    none-behind true x = append-nil x
    none-behind false x = append-nil x

-- an output that has not ended can send
pub can-send : (before sink : Sink) (e : Bool) (slots : List Slot) (flushed : List ℕ) (failure : Option Failure) → OutputAt before sink e slots flushed failure → before.failures < 2 ^ 64 - 1 → e ≡ false → CanSend sink
can-send before sink e slots flushed None h low z =
    let P : ℕ → Type 0 = λ x. x < 2 ^ 64 - 1 in
    record { unended = h.2 ∙ z; can_count = subst P (sym h.1) low }
can-send before sink e slots flushed (Some f) h low z = let none : false ≡ true = sym z ∙ h.3 in cc
