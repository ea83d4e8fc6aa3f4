-- A Drop: from where the connection stands to where it stands after it.
use Rattle.tiny_http_open_request.specs.ErrorResponse.{own_text_by}
use Rattle.tiny_http_open_request.specs.TextState.{drop_text}
use Rattle.tiny_http_standard_head.specs.Validation.{names_protocol}
use Rattle.std.proofs.Common.{◌≡◌, refl, sym, ap, ◌∙◌, subst, ℕ, ◌-◌, ◌<◌, ◌^◌, Bool, true, false, ◌&&◌, ◌||◌, List, ◌∷◌, ◌++◌, length, Option, Some, None, append-nil}
use Rattle.std.specs.Prelude.{◌==◌, slice_get, slice_set, is_err}
use Rattle.tiny_http_response.specs.ResponseValue.{printing_in, ResponseValue}
use Rattle.httpdate.specs.declared.date.HttpDate.{HttpDate}
use Rattle.tiny_http_io.specs.Device.{Feed, Sink}
use Rattle.tiny_http_body.specs.declared.body.UnreadBody.{UnreadBody}
use Rattle.tiny_http_open_request.specs.declared.open_request.OpenRequest.{OpenRequest}
use Rattle.tiny_http_open_request.specs.Pipeline.{Asks, Request, is_connect_method, body_length_or_0}
use Rattle.tiny_http_open_request.specs.OpenRequest.{final_context, refuses_code, upgrade_check, request_check}
use Rattle.tiny_http_body.specs.Body.{remainder, is_long, GivesUp, is_whole, body_finished}
use Rattle.tiny_http_response.specs.Sending.{CanSend}
use Rattle.tiny_http_io.specs.Source.{SourceState}
use Rattle.tiny_http_turns.specs.Turns.{Mark, Open, first_unfinished}
use Rattle.tiny_http_connection.specs.declared.pending.Unfinished.{Unfinished}
use Rattle.tiny_http_connection.specs.declared.pending.Unfinished.TheVariants as still
use Rattle.tiny_http_connection.specs.Segments.{stage_text, Slot, Unanswered, Answered as AnsweredBy, ByServer, Raw, Upgraded, opening, segment}
use Rattle.tiny_http_connection.specs.Slots.{turn_has_come, closes_now, ends_when_finished, refuses_response, asks_protocol, is_end, is_body_whole, refuses_upgrade}
use Rattle.tiny_http_connection.specs.Steps.{StepValue, ReplyValue, Respond, Upgrade, Drop, Done, Refused}
use Rattle.tiny_http_connection.specs.Outcomes.{Reached, changes, ends_asking, use_in_turn, at_slot, outcome}
use Rattle.tiny_http_connection.specs.Conversation.{State}
use Rattle.tiny_http_connection.specs.Pending.{LeavesText}
use Rattle.tiny_http_connection.specs.Connection.{Kept, HandedOut, open_slot, dropped, IsWaiting, InputMatches, Represents}
use Rattle.tiny_http_connection.proofs.ConnectionAsk.{StepIsAnswered, dropped-whole}
use Rattle.tiny_http_connection.proofs.ConnectionBody.{IsInput, with_reader, reader-given_up}
use Rattle.tiny_http_connection.proofs.ConnectionKept.{kept-many, KeptAt, place-of}
use Rattle.tiny_http_connection.proofs.ConnectionLeaving.{EndsAs, leave-done}
use Rattle.tiny_http_connection.proofs.ConnectionReader.{waiting-final, open-waiting, waiting-whole}
use Rattle.tiny_http_connection.proofs.ConnectionRespond.{NeedsWaiting, slot-at, after_number, with_asking_ended, neither, both-end, lacks-same}

pub drop-not_taken : (n : ℕ) → NeedsWaiting (Drop n)
drop-not_taken n Unanswered owed e = cc
drop-not_taken n (AnsweredBy r d f) owed e = refl
drop-not_taken n ByServer owed e = refl
drop-not_taken n (Raw w c) owed e = refl
drop-not_taken n (Upgraded p r d w c) owed e = refl

-- what becomes of a number that waits, if the server answers it
abbrev pub dropped_slot : (s : Slot) (w : OpenRequest UnreadBody) → IsWaiting s w → Slot
dropped_slot s w h = dropped h.handed h.request h.given h.end_reported

-- the text that is kept for a drop
drop-text_is : (s : Slot) (w : OpenRequest UnreadBody) (h : IsWaiting s w) → drop_text w.dropped (final_context w (remainder w.body)) ≡ (stage_text (closes_now h.request h.handed.closes h.handed.owed h.given h.end_reported) (Asks h.request) h.handed.date ByServer).bytes
drop-text_is s w h = ap (λ d. drop_text d (final_context w (remainder w.body))) h.dropped ∙ ap (λ c. own_text_by 500 (printing_in c h.handed.date)) (waiting-final s w h)

-- it ends with the text that is kept for a drop
pub drop-ends : (s : Slot) (w : OpenRequest UnreadBody) (h : IsWaiting s w) → EndsAs s (dropped_slot s w h) (drop_text w.dropped (final_context w (remainder w.body)))
drop-ends s w h = record {
  finished = refl;
  given_up = refl;
  whole = dropped-whole h.handed h.request h.given h.end_reported;
  continued = ap (λ (x : Slot). x.continued) (sym h.is);
  own = ap (λ y. opening (Asks h.request) h.handed.continued ++ y) (sym (drop-text_is s w h)) ∙ ap (λ y. y ++ (drop_text w.dropped (final_context w (remainder w.body)))) (sym (append-nil (opening (Asks h.request) h.handed.continued))) ∙ ap (λ (x : Slot). segment x ++ (drop_text w.dropped (final_context w (remainder w.body)))) (sym h.is);
}

-- the input after it
pub reader-dropped : {R : Type 0} (client : Feed) (k : Kept) (s : State) (n : ℕ) (w : OpenRequest UnreadBody) (p : KeptAt s.reached.slots k.marks k.requests n (still.Waiting w)) (old source : SourceState R) → IsInput k old → InputMatches client k s.reached.slots s.reached.rest → GivesUp w.body old source
    → InputMatches client (with_reader k (p.us ++ (None ∷ p.vs)) source) (p.bs ++ (dropped_slot p.s w p.waiting ∷ p.cs)) s.reached.rest
reader-dropped client k s n w p old source from reader gives =
    let P : List Slot → Type 0 = λ l. InputMatches client k l s.reached.rest in
    reader-given_up (closes_now p.waiting.request p.waiting.handed.closes p.waiting.handed.owed p.waiting.given p.waiting.end_reported) client k old source p.bs p.cs p.us p.vs s.reached.rest p.s (Some (still.Waiting w)) None w.body ByServer (open-waiting p.s w p.waiting) refl refl from (subst P p.slots_are reader) p.requests_are (kept-many p.cs p.rs p.vs p.behind) gives

-- what tells whether an answer to a request is refused
abbrev pub IsKeptOf : OpenRequest UnreadBody → Request → ℕ → Bool → Type 0
IsKeptOf w r given end_reported =
    (w.by_standard ≡ r.framing.by_standard) × (w.is_connect ≡ is_connect_method r.message.method) × ((protocol : List ℕ) → (w.holds_next_head && names_protocol w.upgrades.items protocol) ≡ asks_protocol r protocol)
    × ((body_finished r.framing.form (body_length_or_0 r.framing) given end_reported && is_end r.body.stop) ≡ is_whole w.body)

-- The request of a number that waits is dropped, by whatever step.
pub drop-done : {R : Type 0} (client : Feed) (before : Sink) (k : Kept) (s : State) (date : HttpDate) (n : ℕ) (step : StepValue) (reply : ReplyValue) (w : OpenRequest UnreadBody) (new : Sink) (ended : Bool) (final : List Mark) (requests : List (Option Unfinished)) (old source : SourceState R)
    → ((old : Reached) (asked : HandedOut) (r : Request) (given : ℕ) (end_reported : Bool) → IsKeptOf w r given end_reported → slice_get old.slots n ≡ Some (open_slot asked r given end_reported) → outcome true date old step ≡ ends_asking (ends_when_finished r asked.owed given end_reported) (changes old n (dropped asked r given end_reported) reply (use_in_turn (turn_has_come n old.slots))))
    → Represents client before k s → IsInput k old → GivesUp w.body old source → before.failures < 2 ^ 64 - 1 → slice_get k.requests n ≡ Some (Some (still.Waiting w)) → requests ≡ slice_set k.requests n None
    → ((front rest : List Mark) → k.marks ≡ front ++ (Open ∷ rest) → length front ≡ n → (k.output_ended ≡ false → CanSend k.sink) → LeavesText (n == first_unfinished k.marks) front rest final (drop_text w.dropped (final_context w (remainder w.body))) k.output_ended k.sink new ended)
    → StepIsAnswered client before (with_asking_ended (w.by_standard && (w.owes_continue || is_long (remainder w.body))) (after_number k final requests source new ended)) s date step reply
drop-done {R = R} client before k s date n step reply w new ended final requests old source drops st from gives low e requests_are leaves =
    leave-done client before k s date n (still.Waiting w) p s1 step reply (drop_text w.dropped (final_context w (remainder w.body))) (s.reached.asking_ended || lacks) (k.asking_ended || kept_lacks) new ended final requests source st low (drop-ends p.s w p.waiting) is
    (both-end s.reached.asking_ended k.asking_ended lacks kept_lacks st.asking_ended (lacks-same p.s w p.waiting)) (neither k.asking_ended kept_lacks) requests_are (reader-dropped client k s n w p old source from st.reader gives) leaves
  where
    p : KeptAt s.reached.slots k.marks k.requests n (still.Waiting w)
    p = place-of s.reached.slots k.marks k.requests n (still.Waiting w) st.numbers e

    s1 : Slot
    s1 = dropped_slot p.s w p.waiting

    lacks : Bool
    lacks = ends_when_finished p.waiting.request p.waiting.handed.owed p.waiting.given p.waiting.end_reported

    kept_lacks : Bool
    kept_lacks = w.by_standard && (w.owes_continue || is_long (remainder w.body))

    is : outcome true date s.reached step ≡ ends_asking lacks (changes s.reached n s1 reply (use_in_turn (turn_has_come n s.reached.slots)))
    is =
        let at = slot-at s.reached.slots p.bs p.cs p.s n p.slots_are p.slots_before in
        let h = p.waiting in
        drops s.reached h.handed h.request h.given h.end_reported (h.standard, h.connect, h.upgrades, waiting-whole p.s w h) (at.get ∙ ap Some h.is)

-- a Drop, and an Upgrade that is refused
pub at-drop : (date : HttpDate) (n : ℕ) (old : Reached) (asked : HandedOut) (r : Request) (given : ℕ) (end_reported : Bool) → slice_get old.slots n ≡ Some (open_slot asked r given end_reported)
    → outcome true date old (Drop n) ≡ ends_asking (ends_when_finished r asked.owed given end_reported) (changes old n (dropped asked r given end_reported) Done (use_in_turn (turn_has_come n old.slots)))
at-drop date n old asked r given end_reported e = ap (at_slot true date old n (Drop n)) e

pub at-unanswerable : (date : HttpDate) (n : ℕ) (v : ResponseValue) (w : OpenRequest UnreadBody) → refuses_code w.by_standard w.is_connect v.answer.status ≡ true
    → (old : Reached) (asked : HandedOut) (r : Request) (given : ℕ) (end_reported : Bool) → IsKeptOf w r given end_reported → slice_get old.slots n ≡ Some (open_slot asked r given end_reported)
    → outcome true date old (Respond n v) ≡ ends_asking (ends_when_finished r asked.owed given end_reported) (changes old n (dropped asked r given end_reported) Refused (use_in_turn (turn_has_come n old.slots)))
at-unanswerable date n v w refused old asked r given end_reported kept e =
    let code = v.answer.status in
    let is : refuses_response r v ≡ true = ap (λ b. refuses_code b (is_connect_method r.message.method) code) (sym kept.0) ∙ ap (λ b. refuses_code w.by_standard b code) (sym kept.1) ∙ refused in
    ap (at_slot true date old n (Respond n v)) e ∙ rw is refl

-- whether an upgrade is refused is known by what is kept
pub refusal-same : (w : OpenRequest UnreadBody) (r : Request) (given : ℕ) (end_reported : Bool) (s : Slot) (protocol : List ℕ) (v : ResponseValue) → IsKeptOf w r given end_reported → s.given ≡ given → s.end_reported ≡ end_reported
    → refuses_upgrade r s protocol v ≡ is_err (request_check w protocol v.answer.status (is_whole w.body))
refusal-same w r given end_reported s protocol v kept g e =
    let U : Bool → Bool → Bool → Bool = λ a b c. is_err (upgrade_check a b protocol v.answer.status c) in
    let whole : is_body_whole r s ≡ is_whole w.body = ap (λ n. body_finished r.framing.form (body_length_or_0 r.framing) n s.end_reported && is_end r.body.stop) g ∙ ap (λ t. body_finished r.framing.form (body_length_or_0 r.framing) given t && is_end r.body.stop) e ∙ kept.3 in
    ap (λ a. U a (asks_protocol r protocol) (is_body_whole r s)) (sym kept.0) ∙ ap (λ b. U w.by_standard b (is_body_whole r s)) (sym (kept.2 protocol)) ∙ ap (U w.by_standard (w.holds_next_head && names_protocol w.upgrades.items protocol)) whole

pub at-refused : (date : HttpDate) (n : ℕ) (protocol : List ℕ) (v : ResponseValue) (w : OpenRequest UnreadBody) → is_err (request_check w protocol v.answer.status (is_whole w.body)) ≡ true
    → (old : Reached) (asked : HandedOut) (r : Request) (given : ℕ) (end_reported : Bool) → IsKeptOf w r given end_reported → slice_get old.slots n ≡ Some (open_slot asked r given end_reported)
    → outcome true date old (Upgrade n protocol v) ≡ ends_asking (ends_when_finished r asked.owed given end_reported) (changes old n (dropped asked r given end_reported) Refused (use_in_turn (turn_has_come n old.slots)))
at-refused date n protocol v w refused old asked r given end_reported kept e =
    ap (at_slot true date old n (Upgrade n protocol v)) e ∙ rw (refusal-same w r given end_reported (open_slot asked r given end_reported) protocol v kept refl refl ∙ refused) refl
