-- The law of the table: one call at a time, then over runs.
use Rattle.std.proofs.Common.{◌≡◌, ℕ, Bool, true, false, List, [], ◌∷◌, Option, Some, None, inl, inr, sym, ap, subst}
use Rattle.std.proofs.Common.{◌∙◌, ◌≤◌, refl, arith}
use Rattle.std.specs.Prelude.{slice_get, slice_set}
use Rattle.std.proofs.lemmas.Bool.{cases_eq}
use Rattle.std.specs.Option.{IsSome}
use Rattle.std.specs.declared.time.Duration.{Duration}
use Rattle.std.specs.Duration.{as_nanos}
use Rattle.tiny_http_waiting.specs.declared.wait_table.Slot.{Slot}
use Rattle.tiny_http_waiting.specs.declared.wait_table.Slot.TheVariants.{Free, Waiting, Served}
use Rattle.tiny_http_waiting.specs.WaitTable.{event_at, wait_at, leave_at, EntersAt, WaitsUntil, TakesLate}
use Rattle.tiny_http_waiting.specs.WaitTableLaw.{Step, Enter, Event, Wait, Late, Leave, token_of, Takes, Run, IsEvent}
use Rattle.tiny_http_waiting.specs.WaitTableLaw.{EndsService}
use Rattle.tiny_http_waiting.specs.WaitTableLaw.{OnlyEventsOf, NoneEndsServiceOf, HandsOutNothingOf, NoneOf}
use Rattle.tiny_http_waiting.proofs.SlotLemmas.{get-set_same, get-set_other, get-push_before}

-- the slot of a token, after another one was set
other_set : {T : Type 0} (old new : List (Slot T)) (set token : ℕ) (slot now : Slot T)
    → (set ≡ token → ⊥) → new ≡ slice_set old set now → slice_get old token ≡ Some slot
    → slice_get new token ≡ Some slot
other_set old new set token slot now other is here =
    ap (λ l. slice_get l token) is ∙ (get-set_other old set token now other ∙ here)

-- the slot of a token, after `enter` returned another one
other_enter : {T : Type 0} (at : Option (Slot T)) (old new : List (Slot T)) (entered token : ℕ) (slot : Slot T)
    → (entered ≡ token → ⊥) → EntersAt at entered old new → slice_get old token ≡ Some slot
    → slice_get new token ≡ Some slot
other_enter None old new entered token slot other h here =
    ap (λ l. slice_get l token) h.1 ∙ get-push_before old token (Served false) slot here
other_enter (Some at) old new entered token slot other h here =
    other_set old new entered token slot (Served false) other h.1 here

-- the slot of a token, after an event for another one
other_event : {T : Type 0} (at : Option (Slot T)) (old new : List (Slot T)) (set token : ℕ) (slot : Slot T)
    (out : Option T)
    → (set ≡ token → ⊥) → ◌≡◌ {A = Option T × List (Slot T)} (out, new) (event_at at set old)
    → slice_get old token ≡ Some slot → slice_get new token ≡ Some slot
other_event {T} None old new set token slot out other h here =
    ap (λ (r : Option T × List (Slot T)). slice_get r.1 token) h ∙ here
other_event {T} (Some at) old new set token slot out other h here =
    other_set old new set token slot _ other (ap (λ (r : Option T × List (Slot T)). r.1) h) here

-- the slot of a token, after `wait` for another one
other_wait : {T : Type 0} (at : Option (Slot T)) (old new : List (Slot T)) (set token : ℕ) (item : T)
    (until : Duration) (slot : Slot T) (out : Option T)
    → (set ≡ token → ⊥) → ◌≡◌ {A = Option T × List (Slot T)} (out, new) (wait_at at set item until old)
    → slice_get old token ≡ Some slot → slice_get new token ≡ Some slot
other_wait {T} None old new set token item until slot out other h here =
    ap (λ (r : Option T × List (Slot T)). slice_get r.1 token) h ∙ here
other_wait {T} (Some at) old new set token item until slot out other h here =
    other_set old new set token slot _ other (ap (λ (r : Option T × List (Slot T)). r.1) h) here

-- the slot of a token, after another one left
other_leave : {T : Type 0} (at : Option (Slot T)) (old new : List (Slot T)) (set token : ℕ) (slot : Slot T)
    (out : Option T)
    → (set ≡ token → ⊥) → ◌≡◌ {A = Option T × List (Slot T)} (out, new) (leave_at at set old)
    → slice_get old token ≡ Some slot → slice_get new token ≡ Some slot
other_leave {T} None old new set token slot out other h here =
    ap (λ (r : Option T × List (Slot T)). slice_get r.1 token) h ∙ here
other_leave {T} (Some at) old new set token slot out other h here =
    other_set old new set token slot _ other (ap (λ (r : Option T × List (Slot T)). r.1) h) here

-- a call for another token leaves the slot of this one
other_keeps : {T : Type 0} (step : Step T) (out : Option T) (old new : List (Slot T)) (token : ℕ) (slot : Slot T)
    → (token_of step ≡ token → ⊥) → Takes step out old new → slice_get old token ≡ Some slot
    → slice_get new token ≡ Some slot
other_keeps (Enter set) out old new token slot other h here =
    other_enter (slice_get old set) old new set token slot other h.1 here
other_keeps (Event set) out old new token slot other h here =
    other_event (slice_get old set) old new set token slot out other h here
other_keeps (Wait set item until) out old new token slot other h here =
    other_wait (slice_get old set) old new set token item until slot out other h here
other_keeps (Late set) out old new token slot other (now, item, is, late) here =
    other_set old new set token slot (Served false) other late.1 here
other_keeps (Leave set) out old new token slot other h here =
    other_leave (slice_get old set) old new set token slot out other h here

-- an event that comes while the connection is served
served_event : {T : Type 0} (out : Option T) (old new : List (Slot T)) (token : ℕ) (is_ready : Bool)
    → slice_get old token ≡ Some (Served is_ready) → Takes (Event token) out old new
    → (out ≡ None) × (slice_get new token ≡ Some (Served true))
served_event {T} out old new token is_ready here h =
    let is = h ∙ ap (λ (o : Option (Slot T)). event_at o token old) here in (
      ap (λ (r : Option T × List (Slot T)). r.0) is,
      ap (λ (r : Option T × List (Slot T)). slice_get r.1 token) is ∙ get-set_same old token (Served is_ready)
          (Served true) here,
    )

-- a slot that is served is not free, and no connection waits in it
served-free : {T : Type 0} (is_ready : Bool) → ◌≡◌ {A = Slot T} (Served is_ready) Free → ⊥
served-free is_ready e = cc

served-waiting : {T : Type 0} (is_ready : Bool) (item : T) (until : Duration) → ◌≡◌ {A = Option (Slot T)}
    (Some (Served is_ready)) (Some (Waiting item until)) → ⊥
served-waiting is_ready item until e = cc

-- a call for a connection that is served, which neither makes it wait nor removes it
served_step : {T : Type 0} (step : Step T) (out : Option T) (old new : List (Slot T)) (is_ready : Bool)
    → slice_get old (token_of step) ≡ Some (Served is_ready) → (EndsService step → ⊥) → Takes step out old new
    → IsEvent step × ((out ≡ None) × (slice_get new (token_of step) ≡ Some (Served true)))
served_step {T} (Enter token) out old new is_ready here stays h =
    let free = subst (λ (o : Option (Slot T)). EntersAt o token old new) here h.1 in absurd
    (served-free is_ready free.0)
served_step (Event token) out old new is_ready here stays h = (tt, served_event out old new token is_ready here h)
served_step (Wait token item until) out old new is_ready here stays h = absurd (stays tt)
served_step (Late token) out old new is_ready here stays (now, item, is, ((until, waits, over), after)) =
    absurd (served-waiting is_ready item until (sym here ∙ waits))
served_step (Leave token) out old new is_ready here stays h = absurd (stays tt)

-- an event does not end a service
event_stays : {T : Type 0} (step : Step T) → IsEvent step → EndsService step → ⊥
event_stays (Enter token) is ends = ends
event_stays (Event token) is ends = ends
event_stays (Wait token item until) is ends = is
event_stays (Late token) is ends = ends
event_stays (Leave token) is ends = is

-- the same for a token that equals that of the call
served_same : {T : Type 0} (step : Step T) (out : Option T) (old new : List (Slot T)) (token : ℕ) (is_ready : Bool)
    → token_of step ≡ token → slice_get old token ≡ Some (Served is_ready) → (EndsService step → ⊥)
    → Takes step out old new
    → IsEvent step × ((out ≡ None) × (slice_get new token ≡ Some (Served true)))
served_same {T} step out old new token is_ready same here stays h =
    let all = served_step step out old new is_ready (ap (slice_get old) same ∙ here) stays h in
    (all.0, (all.1.0, ap (slice_get new) (sym same) ∙ all.1.1))

-- an event is kept, while only events come
run_kept : {T : Type 0} (steps : List (Step T × Option T)) (old new : List (Slot T)) (token : ℕ)
    → slice_get old token ≡ Some (Served true) → Run steps old new → OnlyEventsOf token steps
    → slice_get new token ≡ Some (Served true)
run_kept [] old new token here run only = ap (λ l. slice_get l token) run ∙ here
run_kept ((step, out) ∷ steps) old new token here (between, takes, run) only =
    run_kept steps between new token (elim (cases_eq (token_of step) token) [
      | inl same ↦ (served_same step out old between token true same here (event_stays step (only.0 same)) takes).1.1
      | inr other ↦ other_keeps step out old between token (Served true) other takes here
    ]) run only.1

-- an event for a connection that is served makes the next `wait` hand the item back
pub kept : {T : Type 0} (served noted last new : List (Slot T)) (token : ℕ) (is_ready : Bool) (none out : Option T)
    (steps : List (Step T × Option T)) (item : T) (until : Duration)
    → slice_get served token ≡ Some (Served is_ready) → Takes (Event token) none served noted → Run steps noted last
    → OnlyEventsOf token steps → Takes (Wait token item until) out last new → out ≡ Some item
kept {T} served noted last new token is_ready none out steps item until here event run only wait =
    let ready = run_kept steps noted last token (served_event none served noted token is_ready here event).1 run only in
    ap (λ (r : Option T × List (Slot T)). r.0)
    (wait ∙ ap (λ (o : Option (Slot T)). wait_at o token item until last) ready)

-- a connection that is served is not handed out again
pub once : {T : Type 0} (steps : List (Step T × Option T)) (served last : List (Slot T)) (token : ℕ) (is_ready : Bool)
    → slice_get served token ≡ Some (Served is_ready) → Run steps served last → NoneEndsServiceOf token steps
    → HandsOutNothingOf token steps
once [] served last token is_ready here run stays = tt
once {T} ((step, out) ∷ steps) served last token is_ready here (between, takes, run) stays =
    let now = λ (same : token_of step ≡ token). served_same step out served between token is_ready same here
    (stays.0 same) takes in
    let next : (still : Bool) × (slice_get between token ≡ Some (Served still)) =
    elim (cases_eq (token_of step) token) [
      | inl same ↦ (true, (now same).1.1)
      | inr other ↦ (is_ready, other_keeps step out served between token (Served is_ready) other takes here)
    ] in
    (λ same. ((now same).0, (now same).1.0), once steps between last token next.0 next.1 run stays.1)

-- a connection that waits still waits after calls for others
pub waits : {T : Type 0} (steps : List (Step T × Option T)) (waiting last : List (Slot T)) (token : ℕ) (item : T)
    (until : Duration)
    → WaitsUntil waiting token item until → Run steps waiting last → NoneOf token steps
    → WaitsUntil last token item until
waits [] waiting last token item until here run others = ap (λ l. slice_get l token) run ∙ here
waits ((step, out) ∷ steps) waiting last token item until here (between, takes, run) others =
    waits steps between last token item until
    (other_keeps step out waiting between token (Waiting item until) others.0 takes here) run others.1

-- once the wait of a connection is over, `take_late` returns a connection
pub not_forgotten : {T : Type 0} (steps : List (Step T × Option T)) (waiting last new : List (Slot T)) (token now : ℕ)
    (item : T) (until : Duration) (out : Option (ℕ × T))
    → WaitsUntil waiting token item until → Run steps waiting last → NoneOf token steps → as_nanos until ≤ now
    → TakesLate now last out new → IsSome out
not_forgotten steps waiting last new token now item until (Some late) here run others over takes = refl
not_forgotten steps waiting last new token now item until None here run others over takes =
    let later = takes.1 token item until (waits steps waiting last token item until here run others) in
    absurd (omega (arith, over, later))
