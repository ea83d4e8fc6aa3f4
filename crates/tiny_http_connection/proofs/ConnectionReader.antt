-- The last body of a connection, and where its reader stands.
use Rattle.tiny_http_response.specs.declared.response_context.ResponseContext.{ResponseContext}
use Rattle.tiny_http_response.specs.declared.response_context.Persistence.TheVariants.{Close}
use Rattle.tiny_http_response.specs.declared.response_context.Persistence.{Persistence}
use Rattle.tiny_http_body.specs.declared.body.Remainder.TheVariants as left
use Rattle.tiny_http_body.specs.declared.body.Remainder.{Remainder}
use Rattle.tiny_http_body.specs.declared.body.TheConstants.{MOST_SKIPPED}
use Rattle.tiny_http_open_request.specs.ErrorResponse.{persistence_of}
use Rattle.tiny_http_open_request.specs.OpenRequest.{final_context}
use Rattle.tiny_http_io.specs.declared.device.Stop.TheVariants.{End, Fault}
use Rattle.tiny_http_io.specs.declared.device.Stop.{Stop}
use Rattle.std.proofs.Common.{◌≡◌, refl, sym, ap, ◌∙◌, subst, ℕ, suc, ◌-◌, ◌⊎◌, inl, inr, Bool, true, false, not, ◌&&◌, ◌||◌, List, [], ◌∷◌, ◌++◌, length, Option, Some, None, arith}
use Rattle.std.specs.Prelude.{slice_get}
use Rattle.std.specs.List.{last_or}
use Rattle.std.specs.Option.{option_map}
use Rattle.std.proofs.lemmas.Bool.{le-ltb, eqb-true, ne_eqb}
use Rattle.tiny_http_io.specs.Device.{Feed, whole_feed}
use Rattle.tiny_http_open_request.specs.declared.open_request.OpenRequest.{OpenRequest}
use Rattle.tiny_http_connection.specs.declared.pending.Unfinished.{Unfinished}
use Rattle.tiny_http_connection.specs.declared.pending.Unfinished.TheVariants as still
use Rattle.tiny_http_body.specs.declared.framing.Form.{Form}
use Rattle.tiny_http_body.specs.declared.body.UnreadBody.{UnreadBody}
use Rattle.tiny_http_body.specs.declared.body.UnreadBody.TheVariants as body
use Rattle.tiny_http_body.specs.declared.framing.Form.TheVariants as form
use Rattle.std.specs.Prelude.{if◌then◌else◌, ◌==◌, nat_lt}
use Rattle.tiny_http_open_request.specs.Pipeline.{Item, Asks, Refuses, body_length_or_0, Request}
use Rattle.tiny_http_connection.specs.Segments.{Slot, Stage, Unanswered, Answered, ByServer, Raw, Upgraded, is_finished, is_stage_finished, is_last_item}
use Rattle.tiny_http_connection.specs.Slots.{remainder_of, closes_now, is_counted, is_unanswered, is_form_streamed, is_chunked_form, is_body_finished, body_is_open, holds_next_head, is_holding, last_slot, last_is_open, last_is_holding, last_holds_reader, last_was_abandoned, is_last_slot, is_end, rest_of}
use Rattle.tiny_http_body.specs.Body.{remainder, is_skipped, body_finished, is_whole, taken_remaining}
use Rattle.tiny_http_turns.specs.Turns.{Mark, Open, Held, Left, Finished}
use Rattle.tiny_http_body.specs.Body.{Remaining, remaining, is_streaming, Fits}
use Rattle.tiny_http_connection.specs.Pending.{holds_next_head_at, last_holds_next_head, kept_body, last_body, is_streaming_body}
use Rattle.tiny_http_connection.specs.Connection.{response_context_of, IsWaiting, IsOpen, KeepsUnfinished, IsKept, AreKept, IsSettled, AreSettled, behind_body, slot_rest, GivesRest}
use Rattle.std.proofs.Math.Bool.{or-true}

pub and-false : (f : Bool) → (f && false) ≡ false
and-false true = refl
and-false false = refl

and-true : (f : Bool) → (f && true) ≡ f
and-true true = refl
and-true false = refl

-- the last of some, and what is kept of it
abbrev pub LastKept : Option Slot → Option UnreadBody → Type 0
LastKept o b =
    ((o ≡ None) × (b ≡ None))
    ⊎ (((s : Slot) × (o ≡ Some s) × (b ≡ None) × (s.given_up ≡ true))
    ⊎ ((s : Slot) × (body : UnreadBody) × (o ≡ Some s) × (b ≡ Some body) × IsOpen s body))

-- a number that waits has its body
abbrev pub open-waiting : (s : Slot) (w : OpenRequest UnreadBody) → IsWaiting s w → IsOpen s w.body
open-waiting s w h = record { request = h.request; handed = h.handed; stage = Unanswered; given = h.given; end_reported = h.end_reported; is = h.is; rest_is_last = h.rest_is_last; fits = h.fits; settled = h.settled }

last-unfinished : (s : Slot) (u : Unfinished) → KeepsUnfinished s u → LastKept (Some s) (kept_body (Some u))
last-unfinished s (still.Waiting w) h = inr (inr (s, w.body, refl, refl, open-waiting s w h))
last-unfinished s still.Raw h = inr (inl (s, refl, refl, h.given_up))
last-unfinished s (still.Upgraded b) h = inr (inr (s, b, refl, refl, h.opened))

last-one : (s : Slot) (m : Mark) (u : Option Unfinished) → IsKept s m u → LastKept (Some s) (last_body (u ∷ []))
last-one s Open None h = absurd h
last-one s Open (Some w) h = last-unfinished s w h
last-one s Held None h = absurd h
last-one s Held (Some w) h = absurd h
last-one s (Left text) None h = inr (inl (s, refl, refl, h.done.given_up))
last-one s (Left text) (Some w) h = absurd h
last-one s Finished None h = inr (inl (s, refl, refl, h.given_up))
last-one s Finished (Some w) h = absurd h

last-from : (s : Slot) (m : Mark) (u : Option Unfinished) (ss : List Slot) (ms : List Mark) (us : List (Option Unfinished)) → IsKept s m u → AreKept ss ms us → LastKept (last_or (Some s) ss) (last_body (u ∷ us))
last-from s m u [] [] [] h k = last-one s m u h
last-from s m u [] [] (v ∷ us) h k = absurd k
last-from s m u [] (n ∷ ms) us h k = absurd k
last-from s m u (t ∷ ss) [] us h k = absurd k
last-from s m u (t ∷ ss) (n ∷ ms) [] h k = absurd k
last-from s m u (t ∷ ss) (n ∷ ms) (v ∷ us) h k = last-from t n v ss ms us k.0 k.1

pub last-kept : (slots : List Slot) (marks : List Mark) (requests : List (Option Unfinished)) → AreKept slots marks requests → LastKept (last_slot slots) (last_body requests)
last-kept [] [] [] k = inl (refl, refl)
last-kept [] [] (v ∷ us) k = absurd k
last-kept [] (n ∷ ms) us k = absurd k
last-kept (t ∷ ss) [] us k = absurd k
last-kept (t ∷ ss) (n ∷ ms) [] k = absurd k
last-kept (t ∷ ss) (n ∷ ms) (v ∷ us) k = last-from t n v ss ms us k.0 k.1

-- whether the next head waits for the answer to the last of some, by its slot and by what is kept of it

is-answered : (stage : Stage) → is_stage_finished stage ≡ true → is_unanswered stage ≡ false
is-answered Unanswered d = cc
is-answered (Answered response date found) d = refl
is-answered ByServer d = refl
is-answered (Raw written closed) d = refl
is-answered (Upgraded protocol response date written closed) d = refl

done-awaits : (s : Slot) → is_finished s ≡ true → last_is_holding (Some s) ≡ false
done-awaits s d = by s.item
  where
    by : (item : Item) → is_holding s item ≡ false
    by (Asks r) = rw (is-answered s.stage d) (and-false (holds_next_head r))
    by (Refuses a b c e) = refl

awaits-unfinished : (s : Slot) (u : Unfinished) → KeepsUnfinished s u → last_is_holding (Some s) ≡ holds_next_head_at (Some (Some u))
awaits-unfinished s (still.Waiting w) h =
    let P : Slot → Type 0 = λ x. last_is_holding (Some x) ≡ w.holds_next_head in
    subst P (sym h.is) (and-true (holds_next_head h.request) ∙ sym h.holds)
awaits-unfinished s still.Raw h = rw (h.item, h.stage) (and-false (holds_next_head h.request))
awaits-unfinished s (still.Upgraded b) h =
    let P : Slot → Type 0 = λ x. last_is_holding (Some x) ≡ false in
    subst P (sym h.opened.is) (rw h.stage (and-false (holds_next_head h.opened.request)))

awaits-one : (s : Slot) (m : Mark) (u : Option Unfinished) → IsKept s m u → last_is_holding (Some s) ≡ holds_next_head_at (Some u)
awaits-one s Open None h = absurd h
awaits-one s Open (Some w) h = awaits-unfinished s w h
awaits-one s Held None h = absurd h
awaits-one s Held (Some w) h = absurd h
awaits-one s (Left text) None h = done-awaits s h.done.finished
awaits-one s (Left text) (Some w) h = absurd h
awaits-one s Finished None h = done-awaits s h.finished
awaits-one s Finished (Some w) h = absurd h

awaits-from : (s : Slot) (m : Mark) (u : Option Unfinished) (ss : List Slot) (ms : List Mark) (us : List (Option Unfinished)) → IsKept s m u → AreKept ss ms us → last_is_holding (last_or (Some s) ss) ≡ last_holds_next_head (u ∷ us)
awaits-from s m u [] [] [] h k = awaits-one s m u h
awaits-from s m u [] [] (v ∷ us) h k = absurd k
awaits-from s m u [] (n ∷ ms) us h k = absurd k
awaits-from s m u (t ∷ ss) [] us h k = absurd k
awaits-from s m u (t ∷ ss) (n ∷ ms) [] h k = absurd k
awaits-from s m u (t ∷ ss) (n ∷ ms) (v ∷ us) h k = awaits-from t n v ss ms us k.0 k.1

pub last-awaits : (slots : List Slot) (marks : List Mark) (requests : List (Option Unfinished)) → AreKept slots marks requests → last_is_holding (last_slot slots) ≡ last_holds_next_head requests
last-awaits [] [] [] k = refl
last-awaits [] [] (v ∷ us) k = absurd k
last-awaits [] (n ∷ ms) us k = absurd k
last-awaits (t ∷ ss) [] us k = absurd k
last-awaits (t ∷ ss) (n ∷ ms) [] k = absurd k
last-awaits (t ∷ ss) (n ∷ ms) (v ∷ us) k = awaits-from t n v ss ms us k.0 k.1

-- one more at the end
pub holds-snoc : (us : List (Option Unfinished)) (u : Option Unfinished) → last_holds_next_head (us ++ (u ∷ [])) ≡ holds_next_head_at (Some u)
holds-snoc [] u = refl
holds-snoc (v ∷ []) u = refl
holds-snoc (v ∷ (w ∷ us)) u = holds-snoc (w ∷ us) u

-- the last of some stands at their end
pub holds-at : (us : List (Option Unfinished)) → holds_next_head_at (slice_get us (length us - 1)) ≡ last_holds_next_head us
holds-at [] = refl
holds-at (u ∷ []) = refl
holds-at (u ∷ v ∷ us) =
    let less : length (u ∷ v ∷ us) - 1 ≡ suc (length (v ∷ us) - 1) = omega arith in
    ap (λ n. holds_next_head_at (slice_get (u ∷ v ∷ us) n)) less ∙ holds-at (v ∷ us)

pub last-snoc : {X : Type 0} (o : Option X) (xs : List X) (x : X) → last_or o (xs ++ (x ∷ [])) ≡ Some x
last-snoc o [] x = refl
last-snoc o (y ∷ ys) x = last-snoc (Some y) ys x

pub body-snoc : (us : List (Option Unfinished)) (u : Option Unfinished) → last_body (us ++ (u ∷ [])) ≡ last_body (u ∷ [])
body-snoc [] u = refl
body-snoc (v ∷ []) u = refl
body-snoc (v ∷ (w ∷ us)) u = body-snoc (w ∷ us) u

-- one that isn't the last
pub last-within : {X : Type 0} (o : Option X) (xs : List X) (x y z : X) (ys : List X) → last_or o (xs ++ (x ∷ (z ∷ ys))) ≡ last_or o (xs ++ (y ∷ (z ∷ ys)))
last-within o [] x y z ys = refl
last-within o (w ∷ ws) x y z ys = last-within (Some w) ws x y z ys

pub body-within : (us : List (Option Unfinished)) (u v w : Option Unfinished) (vs : List (Option Unfinished)) → last_body (us ++ (u ∷ (w ∷ vs))) ≡ last_body (us ++ (v ∷ (w ∷ vs)))
body-within [] u v w vs = refl
body-within (x ∷ []) u v w vs = refl
body-within (x ∷ (y ∷ us)) u v w vs = body-within (y ∷ us) u v w vs

-- only the last body is read from the input
pub settled-snoc : (us : List (Option Unfinished)) (u : Option Unfinished) → AreSettled us → (is_streaming_body (last_body us) ≡ false) × (last_holds_next_head us ≡ false) → AreSettled (us ++ (u ∷ []))
settled-snoc [] u h e = tt
settled-snoc (v ∷ []) u h e = (e, tt)
settled-snoc (v ∷ (w ∷ us)) u h e = (h.0, settled-snoc (w ∷ us) u h.1 e)

pub settled-place : (us : List (Option Unfinished)) (u v : Option Unfinished) (vs : List (Option Unfinished)) → AreSettled (us ++ (u ∷ (v ∷ vs))) → IsSettled u
settled-place [] u v vs h = h.0
settled-place (x ∷ []) u v vs h = h.1.0
settled-place (x ∷ (y ∷ us)) u v vs h = settled-place (y ∷ us) u v vs h.1

pub settled-set : (us : List (Option Unfinished)) (u x : Option Unfinished) (vs : List (Option Unfinished)) → AreSettled (us ++ (u ∷ vs)) → (IsSettled x ⊎ (vs ≡ [])) → AreSettled (us ++ (x ∷ vs))
settled-set [] u x [] h k = tt
settled-set [] u x (v ∷ vs) h (inl e) = (e, h.1)
settled-set [] u x (v ∷ vs) h (inr e) = cc
settled-set (y ∷ []) u x vs h k = (h.0, settled-set [] u x vs h.1 k)
settled-set (y ∷ (z ∷ us)) u x vs h k = (h.0, settled-set (z ∷ us) u x vs h.1 k)

pub holds-within : (us : List (Option Unfinished)) (u v w : Option Unfinished) (vs : List (Option Unfinished)) → last_holds_next_head (us ++ (u ∷ (w ∷ vs))) ≡ last_holds_next_head (us ++ (v ∷ (w ∷ vs)))
holds-within [] u v w vs = refl
holds-within (x ∷ []) u v w vs = refl
holds-within (x ∷ (y ∷ us)) u v w vs = holds-within (y ∷ us) u v w vs

-- what has no body holds no head
pub bodiless-free : (u : Option Unfinished) → kept_body u ≡ None → holds_next_head_at (Some u) ≡ false
bodiless-free None e = refl
bodiless-free (Some (still.Waiting w)) e = cc
bodiless-free (Some still.Raw) e = refl
bodiless-free (Some (still.Upgraded b)) e = refl

-- whether a body is read from the input, by its form

pub fits-streams : (standard : Bool) (b : UnreadBody) (form : Form) (n given : ℕ) (end_reported : Bool) → Fits standard b form n given end_reported → (is_form_streamed form && not (body_finished form n given end_reported || false)) ≡ is_streaming b
fits-streams standard (body.Over stop) form n given end_reported h = rw h.0 (and-false (is_form_streamed form))
fits-streams standard (body.WithHead bytes) form n given end_reported h = rw h.0 refl
fits-streams standard (body.Counted left by_standard) form n given end_reported h = rw (h.0, h.3, ne_eqb given n (λ e. absurd (omega (arith, e, h.1, h.2)))) refl
fits-streams standard (body.Chunked d) form n given end_reported h = rw (h.0, h.1) refl
fits-streams standard body.Rest form n given end_reported h = rw (h.0, h.1) refl

-- whether a body has come whole, and none of it is read from the input any more
abbrev stop-of : Option Remaining → Stop
stop-of None = End
stop-of (Some r) = r.body.stop

pub fits-whole : (r : Request) (b : UnreadBody) (given : ℕ) (end_reported : Bool) → Fits r.framing.by_standard b r.framing.form (body_length_or_0 r.framing) given end_reported
    → (is_streaming b ≡ false → (f : Feed) → remaining b (Some f) ≡ Some (taken_remaining (rest_of r given) f))
    → (body_finished r.framing.form (body_length_or_0 r.framing) given end_reported && is_end r.body.stop) ≡ is_whole b
fits-whole r (body.Over End) given end_reported h settled = ap (λ t. t && is_end r.body.stop) h.0 ∙ ap is_end (sym (ap stop-of (settled refl (whole_feed []))))
fits-whole r (body.Over (Fault kind)) given end_reported h settled = ap (λ t. t && is_end r.body.stop) h.0 ∙ ap is_end (sym (ap stop-of (settled refl (whole_feed []))))
fits-whole r (body.WithHead bytes) given end_reported h settled =
    ap (λ (x : Form). body_finished x (body_length_or_0 r.framing) given end_reported && is_end r.body.stop) h.0 ∙ ap is_end (sym (ap stop-of (settled refl (whole_feed []))))
fits-whole r (body.Counted left by_standard) given end_reported h settled = rw (h.0, h.3, ne_eqb given (body_length_or_0 r.framing) (λ e. absurd (omega (arith, e, h.1, h.2)))) refl
fits-whole r (body.Chunked d) given end_reported h settled = rw (h.0, h.1) refl
fits-whole r body.Rest given end_reported h settled = rw (h.0, h.1) refl

-- the slot says the same of it as what is kept
pub waiting-whole : (s : Slot) (w : OpenRequest UnreadBody) (h : IsWaiting s w) → (body_finished h.request.framing.form (body_length_or_0 h.request.framing) h.given h.end_reported && is_end h.request.body.stop) ≡ is_whole w.body
waiting-whole s w h = fits-whole h.request w.body h.given h.end_reported h.fits h.settled

-- what is left of a body, by what was read of it
abbrev left_by : Form → ℕ → ℕ → Bool → Bool → Remainder
left_by form n given end_reported ends =
    if (is_chunked_form form && not end_reported) || (body_finished form n given end_reported && not ends) then left.Endless else
    if is_counted form && (not end_reported && nat_lt MOST_SKIPPED (n - given)) then left.Long else left.Skipped

none-left : (n given : ℕ) (end_reported : Bool) → (given == n || end_reported) ≡ true → (not end_reported && nat_lt MOST_SKIPPED (n - given)) ≡ false
none-left n given true h = refl
none-left n given false h = let same = eqb-true given n (or-none (given == n) h) in le-ltb MOST_SKIPPED (n - given) (omega (arith, same))
  where
    or-none : (b : Bool) → (b || false) ≡ true → b ≡ true
    or-none true e = refl
    or-none false e = cc

over-end : (form : Form) (n given : ℕ) (end_reported ends : Bool) → body_finished form n given end_reported ≡ true → ends ≡ true → left_by form n given end_reported ends ≡ left.Skipped
over-end form.Nothing n given end_reported ends h z = rw z refl
over-end form.WithHead n given end_reported ends h z = rw z refl
over-end form.Counted n given end_reported ends h z = rw (z, and-false (given == n || end_reported), none-left n given end_reported h) refl
over-end form.Chunked n given end_reported ends h z = rw (h, z) refl
over-end form.Rest n given end_reported ends h z = rw (h, z) refl

over-fault : (form : Form) (n given : ℕ) (end_reported ends : Bool) → body_finished form n given end_reported ≡ true → ends ≡ false → left_by form n given end_reported ends ≡ left.Endless
over-fault form n given end_reported ends h z = rw (h, z, or-true (is_chunked_form form && not end_reported)) refl

pub fits-remainder : (r : Request) (b : UnreadBody) (given : ℕ) (end_reported : Bool) → Fits r.framing.by_standard b r.framing.form (body_length_or_0 r.framing) given end_reported
    → (is_streaming b ≡ false → (f : Feed) → remaining b (Some f) ≡ Some (taken_remaining (rest_of r given) f))
    → remainder_of r given end_reported ≡ remainder b
fits-remainder r (body.Over End) given end_reported h settled = over-end r.framing.form (body_length_or_0 r.framing) given end_reported (is_end r.body.stop) h.0 (ap is_end (sym (ap stop-of (settled refl (whole_feed [])))))
fits-remainder r (body.Over (Fault kind)) given end_reported h settled = over-fault r.framing.form (body_length_or_0 r.framing) given end_reported (is_end r.body.stop) h.0 (ap is_end (sym (ap stop-of (settled refl (whole_feed [])))))
fits-remainder r (body.WithHead bytes) given end_reported h settled =
    let z : is_end r.body.stop ≡ true = ap is_end (sym (ap stop-of (settled refl (whole_feed [])))) in
    ap (λ (x : Form). left_by x (body_length_or_0 r.framing) given end_reported (is_end r.body.stop)) h.0 ∙ over-end form.WithHead (body_length_or_0 r.framing) given end_reported (is_end r.body.stop) refl z
fits-remainder r (body.Counted n by_standard) given end_reported h settled =
    let some = ne_eqb given (body_length_or_0 r.framing) (λ e. absurd (omega (arith, e, h.1, h.2))) in
    let rest : body_length_or_0 r.framing - given ≡ n = omega (arith, h.1) in
    rw (h.0, h.3, some, rest) refl
fits-remainder r (body.Chunked d) given end_reported h settled = rw (h.0, h.1) refl
fits-remainder r body.Rest given end_reported h settled = rw (h.0, h.1) refl

pub waiting-remainder : (s : Slot) (w : OpenRequest UnreadBody) (h : IsWaiting s w) → remainder_of h.request h.given h.end_reported ≡ remainder w.body
waiting-remainder s w h = fits-remainder h.request w.body h.given h.end_reported h.fits h.settled

-- how it is answered now, by what is kept of it and by its slot
says-cases : (standard left last : Bool) (F : Option Persistence → ResponseContext) → (if standard && left then F (Some Close) else F (persistence_of standard last)) ≡ F (persistence_of standard (last || left))
says-cases false l last F = refl
says-cases true true true F = refl
says-cases true true false F = refl
says-cases true false true F = refl
says-cases true false false F = refl

pub waiting-final : (s : Slot) (w : OpenRequest UnreadBody) (h : IsWaiting s w) → final_context w (remainder w.body) ≡ response_context_of (closes_now h.request h.handed.closes h.handed.owed h.given h.end_reported) h.request
waiting-final s w h =
    let r = h.request in
    let F : Option Persistence → ResponseContext = λ p. record (response_context_of false r) { persistence = p } in
    let not_last : Remainder → Bool = λ l. not (is_skipped l) in
    let A : ResponseContext → ResponseContext = λ c. if w.by_standard && (w.closes || (w.owes_continue || not_last (remainder w.body))) then record c { persistence = Some Close } else c in
    let B : Bool → Bool → Bool → Remainder → ResponseContext = λ standard closes owes l. if standard && (closes || (owes || not_last l)) then F (Some Close) else F (persistence_of r.framing.by_standard r.framing.is_last) in
    ap A h.response_context
    ∙ (ap (λ x. B x w.closes w.owes_continue (remainder w.body)) h.standard
    ∙ (ap (λ x. B r.framing.by_standard x w.owes_continue (remainder w.body)) h.closes
    ∙ (ap (λ x. B r.framing.by_standard h.handed.closes x (remainder w.body)) h.owed
    ∙ (ap (B r.framing.by_standard h.handed.closes h.handed.owed) (sym (waiting-remainder s w h))
    ∙ says-cases r.framing.by_standard (h.handed.closes || (h.handed.owed || not_last (remainder_of r h.given h.end_reported))) r.framing.is_last F))))

pub waiting-kept : (s : Slot) (b : UnreadBody) (h : IsOpen s b) → last_was_abandoned (Some s) ≡ false
waiting-kept s b h = let P : Slot → Type 0 = λ x. last_was_abandoned (Some x) ≡ false in subst P (sym h.is) (and-false (is_chunked_form h.request.framing.form))

-- whether the last body is open, and the program's sight of it
pub waiting-open : (s : Slot) (b : UnreadBody) (h : IsOpen s b) → last_is_open (Some s) ≡ is_streaming b
waiting-open s b h =
    let P : Slot → Type 0 = λ x. last_is_open (Some x) ≡ is_streaming b in
    subst P (sym h.is) (fits-streams h.request.framing.by_standard b h.request.framing.form (body_length_or_0 h.request.framing) h.given h.end_reported h.fits)

pub done-open : (s : Slot) → s.given_up ≡ true → last_is_open (Some s) ≡ false
done-open s d = at s.item
  where
    at : (item : Item) → body_is_open s item ≡ false
    at (Asks r) = rw (d, or-true (is_body_finished r s)) (and-false (is_form_streamed r.framing.form))
    at (Refuses a b c d) = refl

pub open-by : (o : Option Slot) (b : Option UnreadBody) → LastKept o b → last_is_open o ≡ is_streaming_body b
open-by o b (inl h) = rw (h.0, h.1) refl
open-by o b (inr (inl h)) = rw (h.1, h.2, done-open h.0 h.3) refl
open-by o b (inr (inr h)) = rw (h.2, h.3) (waiting-open h.0 h.1 h.4)

-- whether the last body holds the reader
pub held-by : (o : Option Slot) (b : Option UnreadBody) → LastKept o b → last_holds_reader o ≡ ((not (is_last_slot o) && is_streaming_body b) || last_is_holding o)
held-by o b h = ap (λ t. (not (is_last_slot o) && t) || last_is_holding o) (open-by o b h)

-- the connection's last request holds no next head
pub last-awaits-none : (o : Option Slot) → is_last_slot o ≡ true → last_is_holding o ≡ false
last-awaits-none None e = refl
last-awaits-none (Some s) e = by s.item e
  where
    by : (item : Item) → is_last_item item ≡ true → is_holding s item ≡ false
    by (Asks r) l = rw (l, and-false r.framing.asks_upgrade) refl
    by (Refuses a b c d) l = refl

-- after a body that isn't read from the input the input stands
pub behind-settled : (o : Option Slot) (b : Option UnreadBody) (f : Feed) → LastKept o b → is_streaming_body b ≡ false → behind_body b (Some f) ≡ Some f
behind-settled o b f (inl h) e = rw h.1 refl
behind-settled o b f (inr (inl h)) e = rw h.2 refl
behind-settled o b f (inr (inr h)) e =
    let P : Option UnreadBody → Type 0 = λ x. is_streaming_body x ≡ false in
    let quiet : is_streaming h.1 ≡ false = subst P h.3 e in
    rw h.3 (ap (λ (x : Option Remaining). option_map (λ (r : Remaining). r.behind) x) (h.4.settled quiet f))

pub gives-settled : (o : Option Slot) (b : Option UnreadBody) (f : Feed) → LastKept o b → is_streaming_body b ≡ false → GivesRest b o (Some f)
gives-settled o b f (inl h) e = rw (h.0, h.1) tt
gives-settled o b f (inr (inl h)) e = rw h.2 tt
gives-settled o b f (inr (inr h)) e =
    let P : Option UnreadBody → Type 0 = λ x. is_streaming_body x ≡ false in
    let quiet : is_streaming h.1 ≡ false = subst P h.3 e in
    let Q : Slot → Type 0 = λ x. option_map (λ (r : Remaining). r.body) (remaining h.1 (Some f)) ≡ Some (slot_rest x) in
    rw (h.2, h.3) (subst Q (sym h.4.is) (ap (λ (x : Option Remaining). option_map (λ (r : Remaining). r.body) x) (h.4.settled quiet f)))
