-- What each call does to the slots, and when the waits end after it.
use Rattle.std.proofs.Common.{◌≡◌, ℕ, Bool, ◌+◌, ◌<◌, ◌≤◌, take, List, [], ◌∷◌, ◌++◌, Option, Some, None, inl, inr}
use Rattle.std.proofs.Common.{arith, length, get_or, ltb, ltb-true, sym, ap, subst, refl, ◌∙◌, true, false}
use Rattle.std.specs.Option.{is_some}
use Rattle.std.proofs.lemmas.List.{take_more}
use Rattle.std.proofs.lemmas.Option.{slice_get_read, get_or_from_slice_get, same_Some}
use Rattle.std.proofs.lemmas.Bool.{leb-true, leb-false}
use Rattle.std.specs.Prelude.{slice_get, slice_set, IfSome, nat_le, if◌then◌else◌}
use Rattle.std.specs.declared.time.Duration.{Duration}
use Rattle.std.specs.Duration.{as_nanos}
use Rattle.tiny_http_waiting.specs.declared.wait_table.Slot.{Slot}
use Rattle.tiny_http_waiting.specs.declared.wait_table.Slot.TheVariants.{Free, Waiting, Served}
use Rattle.tiny_http_waiting.specs.WaitTable.{EntersAt, IsOver, AllWaitUntil, NoWaitEndsBefore, after_event, item_of}
use Rattle.tiny_http_waiting.specs.WaitTable.{after_wait, item_at_wait, wait_at, Waits, earlier, SomeWaitEndsAt}
use Rattle.tiny_http_waiting.specs.WaitTable.{IsFirstEnd}
use Rattle.tiny_http_waiting.proofs.SlotLemmas.{set-same, get-set, get-push, get-push_before, get-push_last, get-length}

-- equal tables have equal slots
pub same_slots : {T : Type 0} {old new : Waits T} → old ≡ new → old.slots ≡ new.slots
same_slots {T} e = ap (λ (t : Waits T). t.slots) e

-- whether no connection waits in this slot
abbrev pub IsIdle : {T : Type 0} → Slot T → Type 0
IsIdle {T} slot = (item : T) (until : Duration) → slot ≡ Waiting item until → ⊥

-- no connection waits in a slot that is free or served
pub free_idle : {T : Type 0} → IsIdle {T = T} Free
free_idle = λ item until e. cc

pub free_set : {T : Type 0} {slot : Slot T} → slot ≡ Free → IsIdle slot
free_set is = λ item until e. cc

pub served_idle : {T : Type 0} (is_ready : Bool) → IsIdle {T = T} (Served is_ready)
served_idle is_ready = λ item until e. cc

pub served_set : {T : Type 0} {slot : Slot T} {is_ready : Bool} → slot ≡ Served is_ready → IsIdle slot
served_set is = λ item until e. cc

-- no connection waits in a slot after an event
pub after_event_idle : {T : Type 0} (slot : Slot T) → IsIdle (after_event slot)
after_event_idle Free = free_idle
after_event_idle (Waiting item until) = served_idle false
after_event_idle (Served is_ready) = served_idle true

-- the same of the result of `at_event`
pub event_idle : {T : Type 0} (slot : Slot T) (result : Slot T × Option T) → result ≡
    (after_event slot, item_of slot) → IsIdle result.0
event_idle slot result e =
    λ item until is. after_event_idle slot item until (sym (ap (λ (r : Slot _ × Option _). r.0) e) ∙ is)

-- pairs of equal parts are equal
pub pair : {A B : Type 0} {a x : A} {b y : B} → a ≡ x → b ≡ y → ◌≡◌ {A = A × B} (a, b) (x, y)
pair {x = x} {b = b} first second = ap (λ z. (z, b)) first ∙ ap (λ z. (x, z)) second

-- the slot at a token, once it has been taken out
pub taken : {X : Type 0} (slots : List X) (token : ℕ) (slot before : X)
    → true ≡ ltb token (length slots) → slot ≡ get_or slots token slot → before ≡ slot
    → slice_get slots token ≡ Some before
taken slots token slot before within read same =
    slice_get_read slots _ token slot refl (ltb-true token (length slots) (sym within)) read ∙ ap Some (sym same)

-- a function of the slot at a token and of all slots, at the slot that was read
pub at_slot : {T R : Type 0} (f : Option (Slot T) → List (Slot T) → R) (token : ℕ) (slots now : List (Slot T))
    (slot : Slot T)
    → slots ≡ now → slice_get slots token ≡ Some slot → f (Some slot) slots ≡ f (slice_get now token) now
at_slot f token slots now slot same here = ap (λ o. f o slots) (sym here) ∙ ap (λ l. f (slice_get l token) l) same

-- no wait ends earlier once a slot is set in which no connection waits
pub after_set : {T : Type 0} (earliest : Option Duration) (slots : List (Slot T)) (token : ℕ) (slot : Slot T)
    → IsIdle slot → NoWaitEndsBefore earliest slots → NoWaitEndsBefore earliest (slice_set slots token slot)
after_set None slots token slot idle before =
    λ k item until w. elim
    (get-set slots token k slot _ w) [ inl e ↦ idle item until e | inr e ↦ before k item until e ]
after_set (Some time) slots token slot idle before =
    λ k item until w. elim
    (get-set slots token k slot _ w) [ inl e ↦ absurd (idle item until e) | inr e ↦ before k item until e ]

-- no wait ends earlier once a slot is added in which no connection waits
pub after_push : {T : Type 0} (earliest : Option Duration) (slots : List (Slot T)) (slot : Slot T)
    → IsIdle slot → NoWaitEndsBefore earliest slots → NoWaitEndsBefore earliest (slots ++ slot ∷ [])
after_push None slots slot idle before =
    λ k item until w. elim (get-push slots k slot _ w) [ inl e ↦ idle item until e | inr e ↦ before k item until e ]
after_push (Some time) slots slot idle before =
    λ k item until w. elim
    (get-push slots k slot _ w) [ inl e ↦ absurd (idle item until e) | inr e ↦ before k item until e ]

-- a time at or before the earliest is at or before the end of each wait
pub lowered : {T : Type 0} (earliest : Option Duration) (slots : List (Slot T)) (time : Duration)
    → IfSome earliest (λ other. as_nanos time ≤ as_nanos other) → NoWaitEndsBefore earliest slots → AllWaitUntil
    (as_nanos time) slots
lowered None slots time lower before = λ k item until w. absurd (before k item until w)
lowered (Some other) slots time lower before =
    λ k item until w. let le : as_nanos other ≤ as_nanos until = before k item until w in omega (arith, le, lower)

-- the earlier of two times is at or before both
chosen_earlier : (first second : Duration) (is_first : Bool) → nat_le (as_nanos first) (as_nanos second) ≡ is_first
    → (as_nanos (if is_first then first else second) ≤ as_nanos first)
    × (as_nanos (if is_first then first else second) ≤ as_nanos second)
chosen_earlier first second true is =
    let le = leb-true (as_nanos first) (as_nanos second) is in (omega arith, omega (arith, le))
chosen_earlier first second false is =
    let lt = leb-false (as_nanos first) (as_nanos second) is in (omega (arith, lt), omega arith)

-- the earlier of two times is at or before the first
pub earlier_first : (first : Option Duration) (second time : Duration) → time ≡ earlier first second
    → IfSome first (λ other. as_nanos time ≤ as_nanos other)
earlier_first None second time is = tt
earlier_first (Some other) second time is =
    subst (λ (t : Duration). as_nanos t ≤ as_nanos other) (sym is) (chosen_earlier other second _ refl).0

-- the earlier of two times is at or before the second
pub earlier_second : (first : Option Duration) (second time : Duration) → time ≡ earlier first second
    → as_nanos time ≤ as_nanos second
earlier_second None second time is = subst (λ (t : Duration). as_nanos t ≤ as_nanos second) (sym is) (omega arith)
earlier_second (Some other) second time is =
    subst (λ (t : Duration). as_nanos t ≤ as_nanos second) (sym is) (chosen_earlier other second _ refl).1

-- equal waiting slots have equal ends
same_end : {T : Type 0} (item other : T) (until end : Duration) → Waiting item until ≡ Waiting other end → until ≡ end
same_end item other until end e = cc

-- no wait ends before a time once a slot is set whose wait doesn't
pub after_set_waiting : {T : Type 0} (slots : List (Slot T)) (time : Duration) (token : ℕ) (item : T) (until : Duration)
    → as_nanos time ≤ as_nanos until → AllWaitUntil (as_nanos time) slots → AllWaitUntil (as_nanos time)
    (slice_set slots token (Waiting item until))
after_set_waiting slots time token item until le before =
    λ k other end w. elim (get-set slots token k (Waiting item until) _ w) [
      | inl e ↦ subst (λ (t : Duration). as_nanos time ≤ as_nanos t) (same_end item other until end e) le
      | inr e ↦ before k other end e
    ]

-- no wait ends before a time once a slot is added whose wait doesn't
pub after_push_waiting : {T : Type 0} (slots : List (Slot T)) (time : Duration) (item : T) (until : Duration)
    → as_nanos time ≤ as_nanos until → AllWaitUntil (as_nanos time) slots → AllWaitUntil (as_nanos time)
    (slots ++ Waiting item until ∷ [])
after_push_waiting slots time item until le before =
    λ k other end w. elim (get-push slots k (Waiting item until) _ w) [
      | inl e ↦ subst (λ (t : Duration). as_nanos time ≤ as_nanos t) (same_end item other until end e) le
      | inr e ↦ before k other end e
    ]

-- a `wait` that hands the item back leaves each wait as it was
pub after_wait_back : {T : Type 0} (earliest : Option Duration) (slots : List (Slot T)) (token : ℕ) (item : T)
    (until : Duration) (slot : Slot T)
    → slice_get slots token ≡ Some slot → (item_at_wait item slot ≡ None → ⊥) → NoWaitEndsBefore earliest slots
    → NoWaitEndsBefore earliest (slice_set slots token (after_wait item until slot))
after_wait_back earliest slots token item until Free here back before =
    after_set earliest slots token Free free_idle before
after_wait_back {T} earliest slots token item until (Waiting other end) here back before =
    subst (λ (l : List (Slot T)). NoWaitEndsBefore earliest l)
    (sym (set-same slots token (Waiting other end) here)) before
after_wait_back earliest slots token item until (Served true) here back before =
    after_set earliest slots token (Served false) (served_idle false) before
after_wait_back earliest slots token item until (Served false) here back before = absurd (back refl)

-- a `wait` that stores the item adds one wait
pub after_wait_stored : {T : Type 0} (slots : List (Slot T)) (time : Duration) (token : ℕ) (item : T)
    (until : Duration) (slot : Slot T)
    → item_at_wait item slot ≡ None → as_nanos time ≤ as_nanos until → AllWaitUntil (as_nanos time) slots
    → AllWaitUntil (as_nanos time) (slice_set slots token (after_wait item until slot))
after_wait_stored slots time token item until Free none le before = absurd cc
after_wait_stored slots time token item until (Waiting other end) none le before = absurd cc
after_wait_stored slots time token item until (Served true) none le before = absurd cc
after_wait_stored slots time token item until (Served false) none le before =
    after_set_waiting slots time token item until le before

true≢false : true ≡ false → ⊥
true≢false e = cc

-- an equal of an option without a value is `None`
is_none : {X : Type 0} (o p : Option X) → o ≡ p → is_some p ≡ false → o ≡ None
is_none None p e none = refl
is_none (Some x) p e none = absurd (true≢false (ap is_some e ∙ none))

-- the same of the result of `at_wait`, if the item came back
pub wait_back : {T : Type 0} (earliest : Option Duration) (slots : List (Slot T)) (token : ℕ) (item : T)
    (until : Duration) (slot : Slot T) (result : Slot T × Option T)
    → slice_get slots token ≡ Some slot → result ≡ (after_wait item until slot, item_at_wait item slot)
    → is_some result.1 ≡ true
    → NoWaitEndsBefore earliest slots → NoWaitEndsBefore earliest (slice_set slots token result.0)
wait_back {T} earliest slots token item until slot result here is some before =
    let back : item_at_wait item slot ≡ None → ⊥ = λ none. absurd
    (true≢false (sym some ∙ ap is_some (ap (λ (r : Slot T × Option T). r.1) is ∙ none))) in
    subst (λ (r : Slot T × Option T). NoWaitEndsBefore earliest (slice_set slots token r.0)) (sym is)
    (after_wait_back earliest slots token item until slot here back before)

-- the same of the result of `at_wait`, if the item was stored
pub wait_stored : {T : Type 0} (slots : List (Slot T)) (time : Duration) (token : ℕ) (item : T) (until : Duration)
    (slot : Slot T) (result : Slot T × Option T)
    → result ≡ (after_wait item until slot, item_at_wait item slot) → is_some result.1 ≡ false
    → as_nanos time ≤ as_nanos until
    → AllWaitUntil (as_nanos time) slots → AllWaitUntil (as_nanos time) (slice_set slots token result.0)
wait_stored {T} slots time token item until slot result is none le before =
    subst (λ (r : Slot T × Option T). AllWaitUntil (as_nanos time) (slice_set slots token r.0)) (sym is)
    (after_wait_stored slots time token item until slot
    (is_none _ _ (sym (ap (λ (r : Slot T × Option T). r.1) is)) none) le before)

-- the result of `wait`
pub wait_answer : {T : Type 0} (slots now : List (Slot T)) (token : ℕ) (item : T) (until : Duration) (slot : Slot T)
    (result : Slot T × Option T)
    → slots ≡ now → slice_get slots token ≡ Some slot → result ≡ (after_wait item until slot, item_at_wait item slot)
    → ◌≡◌ {A = Option T × List (Slot T)} (result.1, slice_set slots token result.0)
    (wait_at (slice_get now token) token item until now)
wait_answer {T} slots now token item until slot result same here is =
    ap (λ (r : Slot T × Option T). (r.1, slice_set slots token r.0)) is
    ∙ at_slot (λ o. wait_at o token item until) token slots now slot same here

-- `enter` returns a token that was free
pub enters_free : {T : Type 0} (slots now : List (Slot T)) (token : ℕ) (slot : Slot T)
    → slots ≡ now → slice_get slots token ≡ Some slot → slot ≡ Free
    → EntersAt (slice_get now token) token now (slice_set slots token (Served false))
enters_free {T} slots now token slot same here is =
    subst (λ (o : Option (Slot T)). EntersAt o token now (slice_set slots token (Served false)))
    (sym (ap (λ l. slice_get l token) (sym same) ∙ here))
    (is, ap (λ l. slice_set l token (Served false)) same)

-- `enter` returns the next token
pub enters_next : {T : Type 0} (slots now : List (Slot T)) (token : ℕ) (new : List (Slot T))
    → slots ≡ now → token ≡ length slots → new ≡ slots ++ Served false ∷ []
    → EntersAt (slice_get now token) token now new
enters_next {T} slots now token new same next added =
    subst (λ (o : Option (Slot T)). EntersAt o token now new)
    (sym (ap (slice_get now) (next ∙ ap length same) ∙ get-length now))
    (next ∙ ap length same, added ∙ ap (λ l. l ++ Served false ∷ []) same)

-- the slots that a scan has passed, with the next one
next : {X : Type 0} (slots : List X) (k : ℕ) (slot : X) → k < length slots → slot ≡ get_or slots k slot → take
    (k + 1) slots ≡ take k slots ++ slot ∷ []
next slots k slot within read = take_more slots k slot within ∙ ap (λ s. take k slots ++ s ∷ []) (sym read)

-- a wait that ends at a time still does once a slot is added
push_ends : {T : Type 0} (slots : List (Slot T)) (slot : Slot T) (time : Duration) → SomeWaitEndsAt time slots
    → SomeWaitEndsAt time (slots ++ slot ∷ [])
push_ends slots slot time (token, item, waits) = (token, item, get-push_before slots token slot _ waits)

-- the first wait ends at the same time once a slot is added in which no connection waits
push_idle : {T : Type 0} (earliest : Option Duration) (slots : List (Slot T)) (slot : Slot T)
    → IsIdle slot → IsFirstEnd earliest slots → IsFirstEnd earliest (slots ++ slot ∷ [])
push_idle None slots slot idle h = (after_push None slots slot idle h.0, tt)
push_idle (Some time) slots slot idle h = (after_push (Some time) slots slot idle h.0, push_ends slots slot time h.1)

-- one of two waits ends at the earlier of their ends
push_chosen : {T : Type 0} (time : Duration) (slots : List (Slot T)) (item : T) (until : Duration) (is_first : Bool)
    → SomeWaitEndsAt time slots
    → SomeWaitEndsAt (if is_first then time else until) (slots ++ Waiting item until ∷ [])
push_chosen time slots item until true ends = push_ends slots (Waiting item until) time ends
push_chosen time slots item until false ends = (length slots, item, get-push_last slots (Waiting item until))

-- the same of a first wait that there may not be
push_earlier : {T : Type 0} (earliest : Option Duration) (slots : List (Slot T)) (item : T) (until : Duration)
    → IfSome earliest (λ time. SomeWaitEndsAt time slots)
    → SomeWaitEndsAt (earlier earliest until) (slots ++ Waiting item until ∷ [])
push_earlier None slots item until ends = (length slots, item, get-push_last slots (Waiting item until))
push_earlier (Some time) slots item until ends = push_chosen time slots item until _ ends

-- the scan passes a slot that is idle
pub scan_idle : {T : Type 0} (before after : Option Duration) (slots : List (Slot T)) (k : ℕ) (slot : Slot T)
    → k < length slots → slot ≡ get_or slots k slot → after ≡ before → IsIdle slot
    → IsFirstEnd before (take k slots) → IsFirstEnd after (take (k + 1) slots)
scan_idle {T} before after slots k slot within read same idle h =
    subst (λ (l : List (Slot T)). IsFirstEnd after l) (sym (next slots k slot within read))
    (push_idle after (take k slots) slot idle
    (subst (λ (e : Option Duration). IsFirstEnd e (take k slots)) (sym same) h))

-- the scan passes a slot that waits
pub scan_waiting : {T : Type 0} (before after : Option Duration) (slots : List (Slot T)) (k : ℕ) (slot : Slot T)
    (time : Duration) (item : T) (until : Duration)
    → k < length slots → slot ≡ get_or slots k slot → after ≡ Some time → slot ≡ Waiting item until
    → time ≡ earlier before until
    → IsFirstEnd before (take k slots) → IsFirstEnd after (take (k + 1) slots)
scan_waiting {T} before after slots k slot time item until within read is waits first h =
    let passed = take k slots in
    subst (λ (l : List (Slot T)). IsFirstEnd after l)
    (sym (next slots k slot within read ∙ ap (λ s. passed ++ s ∷ []) waits))
    (subst (λ (e : Option Duration). IsFirstEnd e (passed ++ Waiting item until ∷ [])) (sym is) (
      after_push_waiting passed time item until (earlier_second before until time first)
          (lowered before passed time (earlier_first before until time first) h.0),
      subst (λ (t : Duration). SomeWaitEndsAt t (passed ++ Waiting item until ∷ [])) (sym first)
          (push_earlier before passed item until h.1),
    ))

-- the item that was taken is that of the connection whose wait is over
pub takes_late : {T : Type 0} (time : ℕ) (slots now : List (Slot T)) (token : ℕ) (before new : Slot T)
    (out : Option T) (item : T)
    → slots ≡ now → (other : T) × IsOver time slots token other
    → (place : Slot T) → place ≡ get_or slots token place → before ≡ place → out ≡ item_of before → out ≡ Some item
    → new ≡ Served false
    → IsOver time now token item × (slice_set slots token new ≡ slice_set now token (Served false))
takes_late {T} time slots now token before new out item same
    (other, (until, waits, over)) place read taken_there is some served =
    let was : before ≡ Waiting other until = taken_there ∙ (read ∙ get_or_from_slice_get slots token _ place waits) in
    let its : other ≡ item = same_Some other item (sym (ap item_of was) ∙ (sym is ∙ some)) in (
      (until, sym (ap (λ l. slice_get l token) same) ∙ (waits ∙ ap (λ i. Some (Waiting i until)) its), over),
      ap (slice_set slots token) served ∙ ap (λ l. slice_set l token (Served false)) same,
    )
