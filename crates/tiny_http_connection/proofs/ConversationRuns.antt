-- A run goes on by one step.
use Rattle.tiny_http_io.specs.declared.source.InputState.TheVariants as at
use Rattle.std.proofs.Common.{◌≡◌, refl, sym, ap, ◌∙◌, subst, ℕ, ◌-◌, ◌<◌, ◌≤◌, Bool, true, false, not, ◌&&◌, ◌||◌, List, [], ◌∷◌, ◌++◌, length, Option, Some, None, arith, append-nil, inl, inr}
use Rattle.std.specs.Prelude.{MatchBool}
use Rattle.std.specs.Option.{option_map}
use Rattle.std.specs.List.{AllZip}
use Rattle.std.specs.Io.KnownBytes.{append_known}
use Rattle.std.proofs.lemmas.Grind.{common_steps}
use Rattle.tiny_http_io.specs.Device.{Feed, Sink, BeginsKnown, grown, next_count}
use Rattle.tiny_http_io.proofs.DeviceLemmas.{IsFront-append}
use Rattle.tiny_http_io.specs.Outlet.{holding}
use Rattle.tiny_http_io.specs.Source.{GoesOn}
use Rattle.tiny_http_body.specs.declared.framing.Profile.{Profile}
use Rattle.tiny_http_open_request.specs.Pipeline.{Item, Asks, Refuses, Place, Pipeline, body_length_or_0, place_after, place_feed}
use Rattle.tiny_http_open_request.specs.BodyRemains.{RemainsAt}
use Rattle.tiny_http_open_request.proofs.BodyRemainsLemmas.{remains-of}
use Rattle.tiny_http_open_request.proofs.PipelineLemmas.{pipeline-none}
use Rattle.tiny_http_io.specs.declared.device.Stop.{Stop}
use Rattle.tiny_http_connection.specs.Segments.{Slot, is_last_item}
use Rattle.tiny_http_connection.specs.Slots.{joined, last_slot, last_is_open, last_was_abandoned, is_last_slot, body_is_open, body_was_abandoned, is_form_streamed, is_body_finished, is_chunked_form}
use Rattle.tiny_http_connection.specs.Steps.{ReplyValue, TimedValue}
use Rattle.tiny_http_connection.specs.Conversation.{State, Failure, StepsTo, Run, start_state, IsFresh, HasAskOutOfMemory, PlaceAt, WithinBody, WithinLast, InputAt, IsOutput, IsConversation, BeginsBehind}
use Rattle.tiny_http_connection.specs.Connection.{ConnectionState, Kept, OutputAt, IsOpen, behind_body, slot_rest, GivesRest, PlaceIn, Represents}
use Rattle.tiny_http_io.specs.ToCome.{stopped}
use Rattle.tiny_http_body.specs.Body.{Remaining, remaining, is_streaming}
use Rattle.tiny_http_connection.specs.Pending.{last_body, is_streaming_body}
use Rattle.tiny_http_body.specs.declared.body.UnreadBody.{UnreadBody}
use Rattle.tiny_http_io.specs.declared.device.Stop.TheVariants.{End}
use Rattle.tiny_http_connection.proofs.ConnectionReader.{LastKept, done-open, waiting-open, open-by, behind-settled}
use Rattle.tiny_http_connection.specs.declared.driver.Timed.{Timed}
use Rattle.tiny_http_connection.specs.declared.driver.Reply.{Reply}
use Rattle.tiny_http_connection.specs.declared.driver.Step.{Step}
use Rattle.tiny_http_connection.specs.declared.driver.Step.TheVariants as step
use Rattle.tiny_http_connection.specs.Seen.{seen, all_sent_after, all_sent}
use Rattle.tiny_http_connection.specs.Driving.{stated_step, MakesStep, StepMeets}
use Rattle.tiny_http_connection.specs.Runs.{TakesSteps}
use Rattle.tiny_http_response.specs.Sending.{SinkFailsOnce, FailsOnceUnlessEnded}
use Rattle.tiny_http_io.proofs.DeviceLemmas.{grown-nil}
use Rattle.tiny_http_io.proofs.SourceGoesOn.{goes-on_same}
use Rattle.tiny_http_connection.proofs.ConnectionAsk.{stated-feed, last-of}
use Rattle.tiny_http_open_request.proofs.PipelineLemmas.{empty-pipeline}

pub run-more : (a mid new : State) (xs : List TimedValue) (rs : List ReplyValue) (d : TimedValue) (r : ReplyValue) → Run a xs rs mid → StepsTo mid d.0 d.1 r new → Run a (xs ++ d ∷ []) (rs ++ r ∷ []) new
run-more a mid new [] [] d r run step = (new, (let P : State → Type 0 = λ s. StepsTo s d.0 d.1 r new in subst P run step), refl)
run-more a mid new (x ∷ xs) (y ∷ ys) d r run step = (run.0, run.1, run-more run.0 mid new xs ys d r run.2 step)
run-more a mid new [] (y ∷ ys) d r run step = elim run [ ]
run-more a mid new (x ∷ xs) [] d r run step = elim run [ ]

-- the last of a list, where each is reported by one
pub record Split {X : Type 0} (related : X → TimedValue → Type 0) (xs : List X) (x : X) (ds : List TimedValue) : Type 0 where
  pub front : List TimedValue
  pub last : TimedValue
  pub joins : ds ≡ front ++ last ∷ []
  pub all : AllZip related xs front
  pub one : related x last

pub split : {X : Type 0} (related : X → TimedValue → Type 0) (xs : List X) (x : X) (ds : List TimedValue) → AllZip related (xs ++ x ∷ []) ds → Split related xs x ds
split related [] x [] h = elim h [ ]
split related [] x (d ∷ []) h = record { front = []; last = d; joins = refl; all = tt; one = h.0 }
split related [] x (d ∷ e ∷ ds) h = elim h.1 [ ]
split related (y ∷ ys) x [] h = elim h [ ]
split related (y ∷ ys) x (d ∷ ds) h =
    let s = split related ys x ds h.1 in
    record { front = d ∷ s.front; last = s.last; joins = ap (λ t. d ∷ t) s.joins; all = (h.0, s.all); one = s.one }

pub has_room : {X : Type 0} (all done rest more : List X) (x : X) (count room : ℕ) → all ≡ done ++ rest → rest ≡ x ∷ more → count ≡ length done → length all ≤ room → count < room
has_room all done rest more x count room joins next counted fits = grind (arith, common_steps)

pub joins-more : {X : Type 0} (all done rest more : List X) (x : X) → all ≡ done ++ rest → rest ≡ x ∷ more → all ≡ (done ++ x ∷ []) ++ more
joins-more all done rest more x joins next = grind (arith, common_steps)

pub joins-end : {X : Type 0} (all done rest : List X) → all ≡ done ++ rest → length rest ≡ 0 → done ≡ all
joins-end all done [] joins len = grind (arith, common_steps)
joins-end all done (x ∷ rest) joins len = absurd (omega arith)

-- the connection at its begin
abbrev pub begun : Profile → Option Feed → Bool → Sink → Kept
begun profile feed is_over sink = record { profile = profile; marks = []; requests = []; input_state = at.Head; asking_ended = false; feed = feed; stop = None; is_over = is_over; sink = holding sink [] false; output_ended = false }

pub represents-begun : (profile : Profile) (client : Feed) (feed : Option Feed) (is_over : Bool) (sink : Sink) (items : List Item) → feed ≡ Some client → IsFresh sink → Pipeline profile (Some client.bytes) client.stop items → Represents client sink (begun profile feed is_over sink) (start_state items)
represents-begun profile client feed is_over sink items e fresh h =
    let G : Option Feed → Type 0 = λ x. GoesOn (Some client) x in
    let P : Option Feed → Type 0 = λ x. PlaceIn client profile false x items in
    record {
      numbers = tt;
      shape = tt;
      in_turn = tt;
      asking_ended = refl;
      reader = record {
        settled = tt;
        gives = tt;
        next = λ z. record { is_last = refl; within = refl; lost = λ l. cc; place = λ l. subst P (sym e) (h, λ open_is b. (items, h, b)) };
        follows = λ holds. tt;
        source = subst G (sym e) (goes-on_same (Some client));
      };
      output = (grown-nil sink.has_ended sink.taken ∙ fresh.no_bytes, refl, fresh.unended, refl, ([], refl), λ z. (sink.sent, refl));
    }

-- what the bytes still ask from a place on
place-pipeline : (profile : Profile) (last : Bool) (stop : Stop) (next : Place) (rest : List Item) → PlaceAt profile last (Some (place_feed stop next)) rest → Pipeline profile (place_after last next) stop rest
place-pipeline profile true stop next rest h = let P : List Item → Type 0 = λ x. Pipeline profile None stop x in subst P (sym h) tt
place-pipeline profile false stop None rest h = let P : List Item → Type 0 = λ x. Pipeline profile None stop x in subst P (sym (pipeline-none profile [] End rest (empty-pipeline profile) h)) tt
place-pipeline profile false stop (Some bytes) rest h = h

-- the input within the last body
within : (profile : Profile) (ended : Bool) (s : Slot) (b : UnreadBody) (f : Feed) (rest : List Item) (o : Option Remaining) → IsOpen s b → is_streaming b ≡ true → remaining b (Some f) ≡ o → option_map (λ (r : Remaining). r.body) o ≡ Some (slot_rest s)
    → (ended ≡ false → PlaceAt profile (is_last_item s.item) (option_map (λ (r : Remaining). r.behind) o) rest) → WithinBody profile ended s s.item f rest
within profile ended s b f rest None h is_streaming_body e g p = let no : None ≡ Some (slot_rest s) = g in cc
within profile ended s b f rest (Some x) h is_streaming_body e g p =
    let same : x.body ≡ slot_rest s = cc in
    let k = remains-of h.request.framing.by_standard b h.request.framing.form (body_length_or_0 h.request.framing) h.given h.end_reported f x h.fits is_streaming_body e in
    let content : x.body ≡ k.content = ap (λ (r : Remaining). r.body) k.is in
    let behind : x.behind ≡ place_feed f.stop k.next = ap (λ (r : Remaining). r.behind) k.is in
    let P : Slot → Type 0 = λ y. x.body ≡ slot_rest y → (ended ≡ false → PlaceAt profile (is_last_item y.item) (Some x.behind) rest) → WithinBody profile ended y y.item f rest in
    let A : Feed → Type 0 = λ b. RemainsAt h.request.framing.by_standard h.request.framing.form (body_length_or_0 h.request.framing - h.given) f.bytes f.stop b k.next in
    let B : Feed → Type 0 = λ b. PlaceAt profile h.request.framing.is_last (Some b) rest in
    subst P (sym h.is) (λ is place. (k.next, subst A (sym content ∙ is) k.represents, λ on. place-pipeline profile h.request.framing.is_last f.stop k.next rest (subst B behind (place on)))) same p

within-last : (profile : Profile) (ended : Bool) (last : Option Slot) (b : Option UnreadBody) (feed : Option Feed) (f : Feed) (rest : List Item) → feed ≡ Some f → LastKept last b → last_is_open last ≡ true → GivesRest b last feed
    → (ended ≡ false → PlaceAt profile (is_last_slot last) (behind_body b feed) rest) → WithinLast profile ended last feed rest
within-last profile ended last b feed f rest stated (inl n) h g p = let no : false ≡ true = ap last_is_open (sym n.0) ∙ h in cc
within-last profile ended last b feed f rest stated (inr (inl d)) h g p = let no : false ≡ true = sym (done-open d.0 d.3) ∙ ap last_is_open (sym d.1) ∙ h in cc
within-last profile ended last b feed f rest stated (inr (inr w)) h g p =
    let G : Option Slot → Option UnreadBody → Option Feed → Type 0 = λ x y z. GivesRest y x z in
    let P : Option Slot → Option UnreadBody → Option Feed → Type 0 = λ x y z. PlaceAt profile (is_last_slot x) (behind_body y z) rest in
    let Q : Option Slot → Option Feed → Type 0 = λ x z. WithinLast profile ended x z rest in
    let gives = subst (λ z. G (Some w.0) (Some w.1) z) stated (subst (λ y. G (Some w.0) y feed) w.3 (subst (λ x. G x b feed) w.2 g)) in
    let place : ended ≡ false → P (Some w.0) (Some w.1) (Some f) = λ on. subst (λ z. P (Some w.0) (Some w.1) z) stated (subst (λ y. P (Some w.0) y feed) w.3 (subst (λ x. P x b feed) w.2 (p on))) in
    let inside = within profile ended w.0 w.1 f rest (remaining w.1 (Some f)) w.4 (sym (waiting-open w.0 w.1 w.4) ∙ ap last_is_open (sym w.2) ∙ h) refl gives place in
    subst (λ z. Q last z) (sym stated) (subst (λ x. Q x (Some f)) (sym w.2) inside)

-- an open body wasn't given up
open-not_lost : (o : Option Slot) → last_is_open o ≡ true → last_was_abandoned o ≡ false
open-not_lost None h = refl
open-not_lost (Some s) h = by s.item h
  where
    one : (streamed finished given_up chunked reported : Bool) → (streamed && not (finished || given_up)) ≡ true → (chunked && (given_up && not reported)) ≡ false
    one false finished given_up chunked reported e = let no : false ≡ true = e in cc
    one true true given_up chunked reported e = let no : false ≡ true = e in cc
    one true false true chunked reported e = let no : false ≡ true = e in cc
    one true false false true reported e = refl
    one true false false false reported e = refl

    by : (item : Item) → body_is_open s item ≡ true → body_was_abandoned s item ≡ false
    by (Asks r) e = one (is_form_streamed r.framing.form) (is_body_finished r s) s.given_up (is_chunked_form r.framing.form) s.end_reported e
    by (Refuses refusal manner no_body last) e = refl

-- how the input stands at the end
input-end : (client : Feed) (before : Sink) (k : Kept) (s : State) → Represents client before k s → InputAt k.profile s.reached k.feed
input-end client before k s st = by-open (last_is_open last) refl
  where
    last : Option Slot
    last = last_slot s.reached.slots

    over : Bool
    over = is_last_slot last

    place : k.asking_ended ≡ false → last_was_abandoned last ≡ false → PlaceAt k.profile over (behind_body (last_body k.requests) k.feed) s.reached.rest
    place e l =
        let P : Bool → Type 0 = λ x. PlaceAt k.profile x (behind_body (last_body k.requests) k.feed) s.reached.rest in
        subst P (st.reader.next e).is_last ((st.reader.next e).place l).0

    shut : k.asking_ended ≡ false → last_is_open last ≡ false → last_was_abandoned last ≡ false → PlaceAt k.profile over k.feed s.reached.rest
    shut e h l =
        let f = stated-feed client k.feed st.reader.source in
        let free : is_streaming_body (last_body k.requests) ≡ false = sym (open-by last (last_body k.requests) (last-of client before k s st)) ∙ h in
        let here : behind_body (last_body k.requests) k.feed ≡ k.feed = ap (behind_body (last_body k.requests)) f.1 ∙ behind-settled last (last_body k.requests) f.0 (last-of client before k s st) free ∙ sym f.1 in
        let P : Option Feed → Type 0 = λ x. PlaceAt k.profile over x s.reached.rest in
        subst P here (place e l)

    by-lost : (t : Bool) → last_was_abandoned last ≡ t → k.asking_ended ≡ false → last_is_open last ≡ false → MatchBool t (k.feed ≡ Some (stopped End)) (PlaceAt k.profile over k.feed s.reached.rest)
    by-lost true l e h = ((st.reader.next e).lost l).1
    by-lost false l e h = shut e h l

    by-ended : (t : Bool) → s.reached.asking_ended ≡ t → last_is_open last ≡ false → MatchBool t (Unit {0}) (MatchBool (last_was_abandoned last) (k.feed ≡ Some (stopped End)) (PlaceAt k.profile over k.feed s.reached.rest))
    by-ended true e h = tt
    by-ended false e h = by-lost (last_was_abandoned last) refl (sym st.asking_ended ∙ e) h

    by-open : (t : Bool) → last_is_open last ≡ t → MatchBool t (WithinLast k.profile s.reached.asking_ended last k.feed s.reached.rest) (MatchBool s.reached.asking_ended (Unit {0}) (MatchBool (last_was_abandoned last) (k.feed ≡ Some (stopped End)) (PlaceAt k.profile over k.feed s.reached.rest)))
    by-open true h =
        let f = stated-feed client k.feed st.reader.source in
        within-last k.profile s.reached.asking_ended last (last_body k.requests) k.feed f.0 s.reached.rest f.1 (last-of client before k s st) h st.reader.gives (λ on. place (sym st.asking_ended ∙ on) (open-not_lost last h))
    by-open false h = by-ended s.reached.asking_ended refl h

-- what the writer took and what is held
sent-held : (held : List ℕ) (taken : Option (List ℕ)) (whole : List ℕ) → append_known taken held ≡ Some whole → (sent : List ℕ) × (taken ≡ Some sent) × (sent ++ held ≡ whole)
sent-held held None whole e = let no : None ≡ Some whole = e in cc
sent-held held (Some xs) whole e = (xs, refl, (let same : Some (xs ++ held) ≡ Some whole = e in cc))

-- the output at the end: an outlet that has ended holds nothing
pub output-end : (before sink : Sink) (held : List ℕ) (ended : Bool) (slots : List Slot) (flushed : List ℕ) (failure : Option Failure) → (ended ≡ true → held ≡ []) → BeginsKnown sink.sent sink.taken → OutputAt before (holding sink held ended) ended slots flushed failure
    → IsOutput slots flushed failure before sink held ended
output-end before sink held true slots flushed None empty begins h =
    let none = empty refl in
    let bare : sink.taken ≡ Some (joined slots) = sym (grown-nil sink.has_ended sink.taken) ∙ ap (grown sink.has_ended sink.taken) (sym none) ∙ h.0 in
    (h.1, joined slots, bare, ap (λ x. joined slots ++ x) none ∙ append-nil (joined slots), h.4, h.3)
output-end before sink held false slots flushed None empty begins h =
    let z = sent-held held sink.taken (joined slots) (ap (λ x. grown x sink.taken held) (sym h.2) ∙ h.0) in
    let P : Option (List ℕ) → Type 0 = λ x. BeginsKnown sink.sent x in
    (h.1, z.0, z.1, z.2, IsFront-append flushed sink.sent z.0 (h.5 refl) (subst P z.1 begins), h.3)
output-end before sink held ended slots flushed (Some f) empty begins h =
    let none = empty h.3 in
    (h.1, h.2, sym (grown-nil sink.has_ended sink.taken) ∙ ap (grown sink.has_ended sink.taken) (sym none) ∙ h.0, none, h.3)

-- a run to where the connection stands is a conversation, with what is then held and left
pub conversation : (profile : Profile) (client : Feed) (before sink : Sink) (held : List ℕ) (k : Kept) (ended : Bool) (items : List Item) (end : State) (replies : List ReplyValue) (dated : List TimedValue) → k.profile ≡ profile → k.sink ≡ holding sink held ended → k.output_ended ≡ ended → (ended ≡ true → held ≡ []) → BeginsKnown sink.sent sink.taken
    → Pipeline profile (Some client.bytes) client.stop items → Run (start_state items) dated replies end → Represents client before k end → (HasAskOutOfMemory dated replies → (end.reached.asking_ended ≡ true) × (end.reached.rest ≡ [] → BeginsBehind profile (Some client.bytes) client.stop items)) → IsConversation profile client before dated replies sink held ended k.feed
conversation profile client before sink held k ended items end replies dated profile_is same same_end empty begins pipeline run st memory =
    let P : Sink → Bool → Type 0 = λ x y. OutputAt before x y end.reached.slots end.flushed end.failure in
    let out : P (holding sink held ended) ended = subst (λ y. P (holding sink held ended) y) same_end (subst (λ x. P x k.output_ended) same st.output) in
    record { items = items; end = end; pipeline = pipeline; run = run; output = output-end before sink held ended end.reached.slots end.flushed end.failure empty begins out; input = subst (λ p. InputAt p end.reached k.feed) profile_is (input-end client before k end st); memory = λ vain. (memory vain).1 }

-- the writer's count over the steps
pub fails-step : (writer old new : Sink) (was ended : Bool) → SinkFailsOnce writer old was → FailsOnceUnlessEnded was old new ended → SinkFailsOnce writer new ended
fails-step writer old new true ended (inl e) s = inl (s.0 ∙ e)
fails-step writer old new true ended (inr h) s = inr (s.0 ∙ h.0, s.1)
fails-step writer old new false ended (inl e) (inl s) = inl (s ∙ e)
fails-step writer old new false ended (inl e) (inr s) = inr (s.0 ∙ ap next_count e, s.1)
fails-step writer old new false ended (inr h) s = let no : false ≡ true = h.1 in cc

-- one step more
pub takes-snoc : {R W D : Type 0} (stop_count : R → ℕ) (feed : D → Option Feed) (a b c : ConnectionState R W) (steps : List (Timed D)) (replies : List Reply) (t : Timed D) (r : Reply) → TakesSteps stop_count feed a steps replies b → MakesStep b c t.now (stated_step feed t.step) (seen r)
    → StepMeets stop_count (stated_step feed t.step) b c (seen r) → TakesSteps stop_count feed a (steps ++ t ∷ []) (replies ++ r ∷ []) c
takes-snoc {R = R} {W = W} stop_count feed a b c [] [] t r h step meets =
    let P : ConnectionState R W → Type 0 = λ x. MakesStep x c t.now (stated_step feed t.step) (seen r) in
    let M : ConnectionState R W → Type 0 = λ x. StepMeets stop_count (stated_step feed t.step) x c (seen r) in
    (c, subst P h step, subst M h meets, refl)
takes-snoc {R = R} {W = W} {D = D} stop_count feed a b c [] (x ∷ replies) t r h step meets = elim h [ ]
takes-snoc {R = R} {W = W} {D = D} stop_count feed a b c (x ∷ steps) [] t r h step meets = elim h [ ]
takes-snoc stop_count feed a b c (x ∷ steps) (y ∷ replies) t r h step meets = (h.0, h.1, h.2, takes-snoc stop_count feed h.0 b c steps replies t r h.3 step meets)

-- whether all was sent on after one step more
pub all-sent-snoc : {D : Type 0} (steps : List (Timed D)) (replies : List Reply) (t : Timed D) (r : Reply) (sent : Bool) → length steps ≡ length replies → all_sent (steps ++ t ∷ []) (replies ++ r ∷ []) sent ≡ all_sent_after t.step (seen r) (all_sent steps replies sent)
all-sent-snoc [] [] t r sent e = refl
all-sent-snoc [] (x ∷ replies) t r sent e = absurd (omega (arith, e))
all-sent-snoc (x ∷ steps) [] t r sent e = absurd (omega (arith, e))
all-sent-snoc (x ∷ steps) (y ∷ replies) t r sent e = all-sent-snoc steps replies t r (all_sent_after x.step (seen y) sent) (omega (arith, e))

-- the same of a step as it is stated
pub sent-stated : {D : Type 0} (feed : D → Option Feed) (x : Step D) (reply : ReplyValue) (sent : Bool) → all_sent_after (stated_step feed x) reply sent ≡ all_sent_after x reply sent
sent-stated feed step.Ask reply sent = refl
sent-stated feed (step.AsReader n) reply sent = refl
sent-stated feed (step.Read n m) reply sent = refl
sent-stated feed (step.Respond n v) reply sent = refl
sent-stated feed (step.IntoWriter n) reply sent = refl
sent-stated feed (step.Write n v) reply sent = refl
sent-stated feed (step.Flush n) reply sent = refl
sent-stated feed (step.Upgrade n p r) reply sent = refl
sent-stated feed (step.Finish n) reply sent = refl
sent-stated feed (step.Drop n) reply sent = refl
