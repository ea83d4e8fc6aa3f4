-- A step on a request's body: from where the reader stands to where it stands after it.
use Rattle.std.proofs.Common.{◌≡◌, refl, sym, ap, ◌∙◌, subst, ℕ, inl, inr, Bool, true, false, not, ◌&&◌, List, [], ◌∷◌, ◌++◌, length, Option, Some, None, arith}
use Rattle.std.specs.Option.{option_map}
use Rattle.std.specs.declared.io.ErrorKind.{ErrorKind}
use Rattle.tiny_http_io.specs.declared.device.Stop.TheVariants.{End, Fault as Faults}
use Rattle.tiny_http_io.specs.declared.source.InputState.{InputState}
use Rattle.tiny_http_io.specs.declared.source.InputState.TheVariants as at
use Rattle.tiny_http_io.specs.InputState.{after_body, after_fault, after_abandoned}
use Rattle.tiny_http_io.specs.Device.{Feed}
use Rattle.tiny_http_connection.specs.declared.pending.Unfinished.{Unfinished}
use Rattle.tiny_http_body.specs.declared.framing.Form.{Form}
use Rattle.tiny_http_body.specs.declared.framing.Form.TheVariants.{Rest, Nothing, WithHead, Counted, Chunked}
use Rattle.tiny_http_body.specs.declared.body.UnreadBody.{UnreadBody}
use Rattle.tiny_http_body.specs.declared.body.UnreadBody.TheVariants as body
use Rattle.tiny_http_io.specs.ToCome.{skipped, stopped}
use Rattle.tiny_http_io.specs.Source.{SourceState, GoesOn}
use Rattle.tiny_http_body.specs.declared.framing.Profile.{Profile}
use Rattle.tiny_http_open_request.specs.Pipeline.{Item, Request, body_length_or_0}
use Rattle.tiny_http_connection.specs.Segments.{Slot, Stage, is_last_item}
use Rattle.tiny_http_connection.specs.Slots.{is_chunked_form, last_slot, last_was_abandoned, is_last_slot}
use Rattle.tiny_http_body.specs.Body.{body_finished}
use Rattle.tiny_http_connection.specs.Outcomes.{finished_as}
use Rattle.tiny_http_body.specs.Body.{Remaining, remaining, is_streaming, body_input_state, Fits, GivesUp}
use Rattle.tiny_http_connection.specs.Pending.{last_holds_next_head, kept_body, last_body, is_streaming_body, holds_next_head_at}
use Rattle.tiny_http_connection.specs.Connection.{Kept, open_slot, IsOpen, IsSettled, AreSettled, behind_body, slot_rest, GivesRest, is_past_last, is_in_body, PlaceIn, NextHead, InputMatches, FollowsLast, behind_item}
use Rattle.tiny_http_io.proofs.SourceGoesOn.{goes-on_more}
use Rattle.tiny_http_connection.proofs.ConnectionAsk.{stated-feed}
use Rattle.tiny_http_body.proofs.BodyReads.{gives-up}
use Rattle.tiny_http_connection.proofs.ConnectionReader.{holds-snoc, holds-within, bodiless-free, last-snoc, body-snoc, last-within, body-within, settled-place, settled-set, waiting-kept, and-false}

-- the input and the bodies, after a step of a number
abbrev pub with_reader : Kept → List (Option Unfinished) → {R : Type 0} → SourceState R → Kept
with_reader k requests source = record k { requests = requests; input_state = source.input_state; feed = source.feed; stop = source.stop; is_over = source.is_over }

over-kept : (form : Form) (n given : ℕ) (end_reported : Bool) → body_finished form n given end_reported ≡ true → (is_chunked_form form && not end_reported) ≡ true → ⊥
over-kept Chunked n given end_reported h lost = let no : true ≡ false = sym lost ∙ rw h refl in cc
over-kept Rest n given end_reported h lost = cc
over-kept Nothing n given end_reported h lost = cc
over-kept WithHead n given end_reported h lost = cc
over-kept Counted n given end_reported h lost = cc

-- after a chunked body that was given up before its end no head follows
lost-chunked : {R : Type 0} (b : UnreadBody) (old new : SourceState R) (f : Feed) (r : Request) (given : ℕ) (end_reported : Bool) → Fits r.framing.by_standard b r.framing.form (body_length_or_0 r.framing) given end_reported → GivesUp b old new → old.feed ≡ Some f
    → (is_chunked_form r.framing.form && not end_reported) ≡ true → ((new.is_over ≡ true) × (new.stop ≡ Some End)) × (new.feed ≡ Some (stopped End))
lost-chunked {R = R} (body.Chunked d) old new f r given end_reported fits h e lost = (h.at_end, h.feed ∙ ap (λ (o : Option Feed). option_map (λ _. stopped End) o) e)
lost-chunked {R = R} (body.Counted left by_standard) old new f r given end_reported fits h e lost = let no : true ≡ false = sym lost ∙ rw fits.0 refl in cc
lost-chunked {R = R} (body.WithHead bytes) old new f r given end_reported fits h e lost = let no : true ≡ false = sym lost ∙ rw fits.0 refl in cc
lost-chunked {R = R} body.Rest old new f r given end_reported fits h e lost = let no : true ≡ false = sym lost ∙ rw fits.0 refl in cc
lost-chunked {R = R} (body.Over stop) old new f r given end_reported fits h e lost = absurd (over-kept r.framing.form (body_length_or_0 r.framing) given end_reported fits.0 lost)

-- where the next head is read after a body that was given up
given-place : {R : Type 0} (client : Feed) (profile : Profile) (b : UnreadBody) (old new : SourceState R) (f : Feed) (r : Request) (given : ℕ) (end_reported over : Bool) (rest : List Item) → Fits r.framing.by_standard b r.framing.form (body_length_or_0 r.framing) given end_reported → GivesUp b old new → old.feed ≡ Some f
    → (is_streaming b ≡ false → (g : Feed) → behind_body (Some b) (Some g) ≡ Some g) → (is_chunked_form r.framing.form && not end_reported) ≡ false → (r.framing.form ≡ Rest → over ≡ true) → PlaceIn client profile over (behind_body (Some b) old.feed) rest → PlaceIn client profile over new.feed rest
given-place client profile b old new f r given end_reported true rest fits h e quiet kept ends place = (place.0, λ no. cc)
given-place {R = R} client profile (body.Over stop) old new f r given end_reported false rest fits h e quiet kept ends place =
    let P : Option Feed → Type 0 = λ o. PlaceIn client profile false o rest in
    subst P (ap (behind_body (Some (body.Over stop))) e ∙ quiet refl f ∙ sym e ∙ ap (λ (x : SourceState R). x.feed) (sym h)) place
given-place {R = R} client profile (body.WithHead bytes) old new f r given end_reported false rest fits h e quiet kept ends place =
    let P : Option Feed → Type 0 = λ o. PlaceIn client profile false o rest in
    subst P (ap (behind_body (Some (body.WithHead bytes))) e ∙ quiet refl f ∙ sym e ∙ ap (λ (x : SourceState R). x.feed) (sym h)) place
given-place {R = R} client profile (body.Counted left by_standard) old new f r given end_reported false rest fits h e quiet kept ends place =
    let P : Option Feed → Type 0 = λ o. PlaceIn client profile false o rest in
    let skips : behind_body (Some (body.Counted left by_standard)) old.feed ≡ option_map (skipped left) old.feed = rw e refl in
    subst P (skips ∙ sym h.feed) place
given-place {R = R} client profile (body.Chunked d) old new f r given end_reported false rest fits h e quiet kept ends place =
    let no : true ≡ false = rw (fits.0, fits.1) refl ∙ kept in cc
given-place {R = R} client profile body.Rest old new f r given end_reported false rest fits h e quiet kept ends place = let no : false ≡ true = ends fits.0 in cc

-- where the input stands after a body, whether the last head was read is the same, and it isn't within a body
past-body : (p : InputState) → is_past_last (after_body p) ≡ is_past_last p
past-body at.Head = refl
past-body at.Body = refl
past-body at.Last = refl
past-body at.Abandoned = refl
past-body (at.Broken kind) = refl

past-loss : (p : InputState) → is_past_last (after_abandoned p) ≡ is_past_last p
past-loss at.Head = refl
past-loss at.Body = refl
past-loss at.Last = refl
past-loss at.Abandoned = refl
past-loss (at.Broken kind) = refl

past-fault : (kind : ErrorKind) (p : InputState) → is_past_last (after_fault kind p) ≡ is_past_last p
past-fault kind at.Head = refl
past-fault kind at.Body = refl
past-fault kind at.Last = refl
past-fault kind at.Abandoned = refl
past-fault kind (at.Broken k) = refl

out-body : (p : InputState) → is_in_body (after_body p) ≡ false
out-body at.Head = refl
out-body at.Body = refl
out-body at.Last = refl
out-body at.Abandoned = refl
out-body (at.Broken kind) = refl

out-loss : (p : InputState) → is_in_body (after_abandoned p) ≡ false
out-loss at.Head = refl
out-loss at.Body = refl
out-loss at.Last = refl
out-loss at.Abandoned = refl
out-loss (at.Broken kind) = refl

out-fault : (kind : ErrorKind) (p : InputState) → is_in_body (after_fault kind p) ≡ false
out-fault kind at.Head = refl
out-fault kind at.Body = refl
out-fault kind at.Last = refl
out-fault kind at.Abandoned = refl
out-fault kind (at.Broken k) = refl

given-past : {R : Type 0} (b : UnreadBody) (old new : SourceState R) → GivesUp b old new → is_past_last new.input_state ≡ is_past_last old.input_state
given-past {R = R} (body.Over stop) old new h = ap (λ (x : SourceState R). is_past_last x.input_state) h
given-past {R = R} (body.WithHead bytes) old new h = ap (λ (x : SourceState R). is_past_last x.input_state) h
given-past {R = R} body.Rest old new h = ap (λ (x : SourceState R). is_past_last x.input_state) h
given-past (body.Counted left by_standard) old new h = ap is_past_last h.input_state ∙ past-body old.input_state
given-past (body.Chunked d) old new h = ap is_past_last h.input_state ∙ past-loss old.input_state

given-within : {R : Type 0} (b : UnreadBody) (old new : SourceState R) (last : Bool) → GivesUp b old new → (b ≡ body.Rest → last ≡ true) → is_in_body old.input_state ≡ (not last && is_streaming b) → is_in_body new.input_state ≡ false
given-within {R = R} (body.Over stop) old new last h ends e = ap (λ (x : SourceState R). is_in_body x.input_state) h ∙ e ∙ and-false (not last)
given-within {R = R} (body.WithHead bytes) old new last h ends e = ap (λ (x : SourceState R). is_in_body x.input_state) h ∙ e ∙ and-false (not last)
given-within (body.Counted left by_standard) old new last h ends e = ap is_in_body h.input_state ∙ out-body old.input_state
given-within (body.Chunked d) old new last h ends e = ap is_in_body h.input_state ∙ out-loss old.input_state
given-within {R = R} body.Rest old new last h ends e = ap (λ (x : SourceState R). is_in_body x.input_state) h ∙ e ∙ ap (λ x. not x && true) (ends refl)

-- a body that is all the rest of the input is that of a request of that form
rest-form : (b : UnreadBody) (r : Request) (given : ℕ) (end_reported : Bool) → Fits r.framing.by_standard b r.framing.form (body_length_or_0 r.framing) given end_reported → b ≡ body.Rest → r.framing.form ≡ Rest
rest-form b r given end_reported fits e =
    let F : UnreadBody → Type 0 = λ x. Fits r.framing.by_standard x r.framing.form (body_length_or_0 r.framing) given end_reported in
    (subst F e fits).0

-- the same after a read
pub record StandsOn (c : UnreadBody) (p q : InputState) (last : Bool) : Type 0 where
  pub past : is_past_last q ≡ is_past_last p
  pub within : is_in_body q ≡ (not last && is_streaming c)

represents-by : (c : UnreadBody) (p : InputState) (last : Bool) → is_in_body p ≡ (not last && true) → StandsOn c p (body_input_state c p) last
represents-by (body.Over End) p last e = record { past = past-body p; within = out-body p ∙ sym (and-false (not last)) }
represents-by (body.Over (Faults kind)) p last e = record { past = past-fault kind p; within = out-fault kind p ∙ sym (and-false (not last)) }
represents-by (body.WithHead bytes) p last e = record { past = past-body p; within = out-body p ∙ sym (and-false (not last)) }
represents-by (body.Counted left by_standard) p last e = record { past = refl; within = e }
represents-by (body.Chunked d) p last e = record { past = refl; within = e }
represents-by body.Rest p last e = record { past = refl; within = e }

pub represents-on : (b c : UnreadBody) (p q : InputState) (last : Bool) → (is_streaming b ≡ true → q ≡ body_input_state c p) → (is_streaming b ≡ false → q ≡ p) → (is_streaming b ≡ false → is_streaming c ≡ false) → is_in_body p ≡ (not last && is_streaming b) → StandsOn c p q last
represents-on b c p q last goes settled stays e = by (is_streaming b) refl
  where
    S : InputState → Type 0
    S x = StandsOn c p x last

    by : (t : Bool) → is_streaming b ≡ t → StandsOn c p q last
    by true t = subst S (sym (goes t)) (represents-by c p last (e ∙ ap (λ x. not last && x) t))
    by false t = subst S (sym (settled t)) (record { past = refl; within = e ∙ ap (λ x. not last && x) (t ∙ sym (stays t)) })

-- a body that isn't read from the input leaves it
given-same : {R : Type 0} (b : UnreadBody) (old new : SourceState R) → GivesUp b old new → is_streaming b ≡ false → new ≡ old
given-same (body.Over stop) old new h e = h
given-same (body.WithHead bytes) old new h e = h
given-same (body.Counted left by_standard) old new h e = cc
given-same (body.Chunked d) old new h e = cc
given-same body.Rest old new h e = cc

-- where the last number and its body are the same, the next head is read at the same place
pub next-same : (client : Feed) (k q : Kept) (o u : Option Slot) (rest : List Item) → q.profile ≡ k.profile → q.input_state ≡ k.input_state → is_last_slot u ≡ is_last_slot o → last_was_abandoned u ≡ last_was_abandoned o → last_body q.requests ≡ last_body k.requests → q.feed ≡ k.feed → q.stop ≡ k.stop → q.is_over ≡ k.is_over → NextHead client k o rest → NextHead client q u rest
next-same client k q o u rest profile input_state last abandoned content feed stop ends n =
    let P : Bool → Option UnreadBody → Option Feed → Type 0 = λ x y z. PlaceIn client q.profile x (behind_body y z) rest in
    let over : is_past_last q.input_state ≡ is_past_last k.input_state = ap is_past_last input_state in
    let W : Bool → Option UnreadBody → Bool = λ x y. not x && is_streaming_body y in
    record {
      is_last = over ∙ n.is_last ∙ sym last;
      within = ap is_in_body input_state ∙ n.within ∙ ap (λ y. W (is_last_slot o) y) (sym content) ∙ ap (λ x. W x (last_body q.requests)) (sym last);
      lost = λ l. (let m = n.lost (sym abandoned ∙ l) in ((ends ∙ m.0.0, stop ∙ m.0.1), feed ∙ m.1));
      place = λ l. subst (λ x. P x (last_body q.requests) q.feed) (sym over) (subst (λ y. P (is_past_last k.input_state) y q.feed) (sym content) (subst (λ z. P (is_past_last k.input_state) (last_body k.requests) z) (sym feed) (subst (λ w. PlaceIn client w (is_past_last k.input_state) (behind_body (last_body k.requests) k.feed) rest) (sym profile) (n.place (sym abandoned ∙ l)))));
    }

-- the connection's input is this source
pub record IsInput {R : Type 0} (k : Kept) (source : SourceState R) : Type 0 where
  pub feed : k.feed ≡ source.feed
  pub stop : k.stop ≡ source.stop
  pub ends : k.is_over ≡ source.is_over
  pub input_state : k.input_state ≡ source.input_state

-- a step of a number that isn't the last, which leaves the input
pub reader-within : {R : Type 0} (client : Feed) (k : Kept) (source : SourceState R) (bs cs : List Slot) (us vs : List (Option Unfinished)) (rest : List Item) (s t c : Slot) (v x u : Option Unfinished) → IsInput k source → InputMatches client k (bs ++ (s ∷ (c ∷ cs))) rest
    → k.requests ≡ us ++ (u ∷ (v ∷ vs)) → IsSettled x → InputMatches client (with_reader k (us ++ (x ∷ (v ∷ vs))) source) (bs ++ (t ∷ (c ∷ cs))) rest
reader-within client k source bs cs us vs rest s t c v x u from reader is quiet =
    let last : last_slot (bs ++ (t ∷ (c ∷ cs))) ≡ last_slot (bs ++ (s ∷ (c ∷ cs))) = last-within None bs t s c cs in
    let content : last_body (us ++ (x ∷ (v ∷ vs))) ≡ last_body k.requests = body-within us x u v vs ∙ ap last_body (sym is) in
    let A : List (Option Unfinished) → Type 0 = λ l. AreSettled l in
    let G : Option UnreadBody → Option Slot → Option Feed → Type 0 = λ b o f. GivesRest b o f in
    let S : Option Feed → Type 0 = λ f. GoesOn (Some client) f in
    let L : Option UnreadBody → Option Slot → Option Feed → Type 0 = λ b o f. FollowsLast b o f in
    record {
      settled = settled-set us u x (v ∷ vs) (subst A is reader.settled) (inl quiet);
      gives = subst (λ b. G b (last_slot (bs ++ (t ∷ (c ∷ cs)))) source.feed) (sym content) (subst (λ o. G (last_body k.requests) o source.feed) (sym last) (subst (λ f. G (last_body k.requests) (last_slot (bs ++ (s ∷ (c ∷ cs)))) f) from.feed reader.gives));
      next = λ e. next-same client k (with_reader k (us ++ (x ∷ (v ∷ vs))) source) (last_slot (bs ++ (s ∷ (c ∷ cs)))) (last_slot (bs ++ (t ∷ (c ∷ cs)))) rest refl (sym from.input_state) (ap is_last_slot last) (ap last_was_abandoned last) content (sym from.feed) (sym from.stop) (sym from.ends) (reader.next e);
      follows = λ holds.
          let held : last_holds_next_head k.requests ≡ true = ap last_holds_next_head is ∙ sym (holds-within us x u v vs) ∙ holds in
          subst (λ b. L b (last_slot (bs ++ (t ∷ (c ∷ cs)))) source.feed) (sym content) (subst (λ o. L (last_body k.requests) o source.feed) (sym last) (subst (λ f. L (last_body k.requests) (last_slot (bs ++ (s ∷ (c ∷ cs)))) f) from.feed (reader.follows held)));
      source = subst S from.feed reader.source;
    }

-- what is known of the last number, while its body can be read
pub record LastWaits {R : Type 0} (client : Feed) (k : Kept) (source : SourceState R) (bs : List Slot) (s : Slot) (b : UnreadBody) (rest : List Item) : Type 0 where
  pub feed : Feed
  pub stated : source.feed ≡ Some feed
  pub content : last_body k.requests ≡ Some b
  pub gives : option_map (λ (x : Remaining). x.body) (remaining b source.feed) ≡ Some (slot_rest s)
  pub is_last : k.asking_ended ≡ false → is_past_last source.input_state ≡ is_last_item s.item
  pub within : k.asking_ended ≡ false → is_in_body source.input_state ≡ (not (is_last_item s.item) && is_streaming b)
  pub place : k.asking_ended ≡ false → PlaceIn client k.profile (is_past_last source.input_state) (behind_body (Some b) source.feed) rest
  pub follows : last_holds_next_head k.requests ≡ true → behind_body (Some b) source.feed ≡ Some (behind_item s.item)

pub last-waits : {R : Type 0} (client : Feed) (k : Kept) (source : SourceState R) (bs : List Slot) (us : List (Option Unfinished)) (rest : List Item) (s : Slot) (u : Option Unfinished) (b : UnreadBody) → IsOpen s b → kept_body u ≡ Some b → IsInput k source → InputMatches client k (bs ++ (s ∷ [])) rest → k.requests ≡ us ++ (u ∷ [])
    → LastWaits client k source bs s b rest
last-waits client k source bs us rest s u b h has from reader is =
    let f = stated-feed client k.feed reader.source in
    let last : last_slot (bs ++ (s ∷ [])) ≡ Some s = last-snoc None bs s in
    let content : last_body k.requests ≡ Some b = ap last_body is ∙ body-snoc us u ∙ has in
    let G : Option UnreadBody → Option Slot → Option Feed → Type 0 = λ b o z. GivesRest b o z in
    let P : Bool → Option UnreadBody → Option Feed → Type 0 = λ x y z. PlaceIn client k.profile x (behind_body y z) rest in
    let over : is_past_last k.input_state ≡ is_past_last source.input_state = ap is_past_last from.input_state in
    let W : Option Slot → Option UnreadBody → Bool = λ x y. not (is_last_slot x) && is_streaming_body y in
    let L : Option UnreadBody → Option Slot → Option Feed → Type 0 = λ b o f. FollowsLast b o f in
    record {
      feed = f.0;
      stated = sym from.feed ∙ f.1;
      content = content;
      gives = subst (λ b. G b (Some s) source.feed) content (subst (λ o. G (last_body k.requests) o source.feed) last (subst (λ z. G (last_body k.requests) (last_slot (bs ++ (s ∷ []))) z) from.feed reader.gives));
      is_last = λ e. sym over ∙ (reader.next e).is_last ∙ ap is_last_slot last;
      within = λ e. ap is_in_body (sym from.input_state) ∙ (reader.next e).within ∙ ap (λ x. W x (last_body k.requests)) last ∙ ap (λ y. W (Some s) y) content;
      place = λ e. subst (λ x. P x (Some b) source.feed) over (subst (λ z. P (is_past_last k.input_state) (Some b) z) from.feed (subst (λ y. P (is_past_last k.input_state) y k.feed) content ((reader.next e).place (ap last_was_abandoned last ∙ waiting-kept s b h))));
      follows = λ e. subst (λ b. L b (Some s) source.feed) content (subst (λ o. L (last_body k.requests) o source.feed) last (subst (λ z. L (last_body k.requests) (last_slot (bs ++ (s ∷ []))) z) from.feed (reader.follows e)));
    }

-- the last number's body is given up
reader-last : {R : Type 0} (closes : Bool) (client : Feed) (k : Kept) (old new : SourceState R) (bs : List Slot) (us : List (Option Unfinished)) (rest : List Item) (s : Slot) (u x : Option Unfinished) (b : UnreadBody) (stage : Stage) → (h : IsOpen s b) → kept_body u ≡ Some b → kept_body x ≡ None → IsInput k old → InputMatches client k (bs ++ (s ∷ [])) rest
    → k.requests ≡ us ++ (u ∷ []) → GivesUp b old new
    → InputMatches client (with_reader k (us ++ (x ∷ [])) new) (bs ++ (finished_as closes (open_slot h.handed h.request h.given h.end_reported) stage ∷ [])) rest
reader-last closes client k old new bs us rest s u x b stage h has none from reader is gives =
    let t = finished_as closes (open_slot h.handed h.request h.given h.end_reported) stage in
    let r = h.request in
    let last : last_slot (bs ++ (t ∷ [])) ≡ Some t = last-snoc None bs t in
    let content : last_body (us ++ (x ∷ [])) ≡ None = body-snoc us x ∙ none in
    let l = last-waits client k old bs us rest s u b h has from reader is in
    let A : List (Option Unfinished) → Type 0 = λ x. AreSettled x in
    let G : Option UnreadBody → Type 0 = λ b. GivesRest b (last_slot (bs ++ (t ∷ []))) new.feed in
    let P : Bool → Option UnreadBody → Type 0 = λ x b. PlaceIn client k.profile x (behind_body b new.feed) rest in
    let W : Option UnreadBody → Bool = λ y. not (is_last_slot (last_slot (bs ++ (t ∷ [])))) && is_streaming_body y in
    let past : is_past_last new.input_state ≡ is_past_last old.input_state = given-past b old new gives in
    let S : Option Feed → Type 0 = λ f. GoesOn f new.feed in
    let B : Option Remaining → Option Feed = λ o. option_map (λ (x : Remaining). x.behind) o in
    let item_last : is_last_item s.item ≡ r.framing.is_last = ap (λ (x : Slot). is_last_item x.item) h.is in
    record {
      settled = settled-set us u x [] (subst A is reader.settled) (inr refl);
      gives = subst G (sym content) tt;
      next = λ e. record {
        is_last = past ∙ l.is_last e ∙ ap (λ (x : Slot). is_last_item x.item) h.is ∙ ap is_last_slot (sym last);
        within = given-within b old new (is_last_item s.item) gives (λ rest_is. item_last ∙ h.rest_is_last (rest-form b r h.given h.end_reported h.fits rest_is)) (l.within e) ∙ sym (ap W content ∙ and-false (not (is_last_slot (last_slot (bs ++ (t ∷ []))))));
        lost = λ lost. lost-chunked b old new l.feed r h.given h.end_reported h.fits gives l.stated (sym (ap last_was_abandoned last) ∙ lost);
        place = λ kept. subst (λ y. P y (last_body (us ++ (x ∷ [])))) (sym past) (subst (λ y. P (is_past_last old.input_state) y) (sym content)
            (given-place client k.profile b old new l.feed r h.given h.end_reported (is_past_last old.input_state) rest h.fits gives l.stated (λ quiet f. ap B (h.settled quiet f)) (sym (ap last_was_abandoned last) ∙ kept) (λ form. l.is_last e ∙ item_last ∙ h.rest_is_last form) (l.place e)));
      };
      follows = λ holds. subst (λ b. FollowsLast b (last_slot (bs ++ (t ∷ []))) new.feed) (sym content) tt;
      source = goes-on_more (Some client) k.feed new.feed reader.source (subst S (sym from.feed) (gives-up b old new gives));
    }

-- A number's body is given up. `bs`, `cs`: the numbers before and behind; `us`, `vs`: what is kept of them; `u`, `x`: what is
-- kept of the number before and after the step.
pub reader-given_up : {R : Type 0} (closes : Bool) (client : Feed) (k : Kept) (old new : SourceState R) (bs cs : List Slot) (us vs : List (Option Unfinished)) (rest : List Item) (s : Slot) (u x : Option Unfinished) (b : UnreadBody) (stage : Stage) → (h : IsOpen s b) → kept_body u ≡ Some b → kept_body x ≡ None → IsInput k old
    → InputMatches client k (bs ++ (s ∷ cs)) rest → k.requests ≡ us ++ (u ∷ vs) → length cs ≡ length vs → GivesUp b old new
    → InputMatches client (with_reader k (us ++ (x ∷ vs)) new) (bs ++ (finished_as closes (open_slot h.handed h.request h.given h.end_reported) stage ∷ cs)) rest
reader-given_up closes client k old new bs [] us [] rest s u x b stage h has none from reader is same gives = reader-last closes client k old new bs us rest s u x b stage h has none from reader is gives
reader-given_up closes client k old new bs [] us (v ∷ vs) rest s u x b stage h has none from reader is same gives = absurd (omega (arith, same))
reader-given_up closes client k old new bs (c ∷ cs) us [] rest s u x b stage h has none from reader is same gives = absurd (omega (arith, same))
reader-given_up {R = R} closes client k old new bs (c ∷ cs) us (v ∷ vs) rest s u x b stage h has none from reader is same gives =
    let A : List (Option Unfinished) → Type 0 = λ y. AreSettled y in
    let quiet : is_streaming b ≡ false = ap is_streaming_body (sym has) ∙ (settled-place us u v vs (subst A is reader.settled)).0 in
    let t = finished_as closes (open_slot h.handed h.request h.given h.end_reported) stage in
    let P : SourceState R → Type 0 = λ y. InputMatches client (with_reader k (us ++ (x ∷ (v ∷ vs))) y) (bs ++ (t ∷ (c ∷ cs))) rest in
    subst P (sym (given-same b old new gives quiet)) (reader-within client k old bs cs us vs rest s t c v x u from reader is (ap is_streaming_body none, bodiless-free x none))

-- two slots which the input doesn't tell apart
pub record Alike (s t : Slot) : Type 0 where
  pub last : is_last_slot (Some t) ≡ is_last_slot (Some s)
  pub abandoned : last_was_abandoned (Some t) ≡ last_was_abandoned (Some s)
  pub left : slot_rest t ≡ slot_rest s
  pub behind : behind_item t.item ≡ behind_item s.item

gives-alike : (b : Option UnreadBody) (s t : Slot) (f : Option Feed) → slot_rest t ≡ slot_rest s → GivesRest b (Some s) f → GivesRest b (Some t) f
gives-alike None s t f e h = tt
gives-alike (Some b) s t f e h = h ∙ ap Some (sym e)

follows-alike : (s t : Slot) → behind_item t.item ≡ behind_item s.item → (b : Option UnreadBody) (f : Option Feed) → FollowsLast b (Some s) f → FollowsLast b (Some t) f
follows-alike s t e None f h = tt
follows-alike s t e (Some b) f h = h ∙ ap Some (sym e)

still-true : (a b : Bool) → (a ≡ false → b ≡ false) → b ≡ true → a ≡ true
still-true true b f e = refl
still-true false b f e = let no : false ≡ true = sym (f refl) ∙ e in cc

-- a step of a number that leaves its body and the input
pub reader-alike : {R : Type 0} (client : Feed) (k : Kept) (source : SourceState R) (bs cs : List Slot) (us vs : List (Option Unfinished)) (rest : List Item) (s t : Slot) (u x : Option Unfinished) → IsInput k source → InputMatches client k (bs ++ (s ∷ cs)) rest → k.requests ≡ us ++ (u ∷ vs) → length cs ≡ length vs
    → kept_body x ≡ kept_body u → (holds_next_head_at (Some u) ≡ false → holds_next_head_at (Some x) ≡ false) → Alike s t → InputMatches client (with_reader k (us ++ (x ∷ vs)) source) (bs ++ (t ∷ cs)) rest
reader-alike client k source bs [] us (v ∷ vs) rest s t u x from reader is same body keeps alike = absurd (omega (arith, same))
reader-alike client k source bs (c ∷ cs) us [] rest s t u x from reader is same body keeps alike = absurd (omega (arith, same))
reader-alike client k source bs (c ∷ cs) us (v ∷ vs) rest s t u x from reader is same body keeps alike =
    let A : List (Option Unfinished) → Type 0 = λ y. AreSettled y in
    reader-within client k source bs cs us vs rest s t c v x u from reader is (let q = settled-place us u v vs (subst A is reader.settled) in (ap is_streaming_body body ∙ q.0, keeps q.1))
reader-alike client k source bs [] us [] rest s t u x from reader is same body keeps alike =
    let was : last_slot (bs ++ (s ∷ [])) ≡ Some s = last-snoc None bs s in
    let last : last_slot (bs ++ (t ∷ [])) ≡ Some t = last-snoc None bs t in
    let content : last_body (us ++ (x ∷ [])) ≡ last_body k.requests = body-snoc us x ∙ body ∙ sym (body-snoc us u) ∙ ap last_body (sym is) in
    let A : List (Option Unfinished) → Type 0 = λ y. AreSettled y in
    let G : Option UnreadBody → Option Slot → Option Feed → Type 0 = λ b o f. GivesRest b o f in
    let S : Option Feed → Type 0 = λ f. GoesOn (Some client) f in
    let L : Option UnreadBody → Option Slot → Option Feed → Type 0 = λ b o f. FollowsLast b o f in
    let gives = subst (λ o. G (last_body k.requests) o k.feed) was reader.gives in
    record {
      settled = settled-set us u x [] (subst A is reader.settled) (inr refl);
      gives = subst (λ b. G b (last_slot (bs ++ (t ∷ []))) source.feed) (sym content) (subst (λ o. G (last_body k.requests) o source.feed) (sym last) (subst (λ f. G (last_body k.requests) (Some t) f) from.feed (gives-alike (last_body k.requests) s t k.feed alike.left gives)));
      next = λ e. next-same client k (with_reader k (us ++ (x ∷ [])) source) (last_slot (bs ++ (s ∷ []))) (last_slot (bs ++ (t ∷ []))) rest refl (sym from.input_state) (ap is_last_slot last ∙ alike.last ∙ ap is_last_slot (sym was)) (ap last_was_abandoned last ∙ alike.abandoned ∙ ap last_was_abandoned (sym was)) content (sym from.feed) (sym from.stop)
          (sym from.ends) (reader.next e);
      follows = λ holds.
          let held : last_holds_next_head k.requests ≡ true = ap last_holds_next_head is ∙ holds-snoc us u ∙ still-true (holds_next_head_at (Some u)) (holds_next_head_at (Some x)) keeps (sym (holds-snoc us x) ∙ holds) in
          let were : L (last_body k.requests) (Some s) k.feed = subst (λ o. L (last_body k.requests) o k.feed) was (reader.follows held) in
          subst (λ b. L b (last_slot (bs ++ (t ∷ []))) source.feed) (sym content) (subst (λ o. L (last_body k.requests) o source.feed) (sym last) (subst (λ f. L (last_body k.requests) (Some t) f) from.feed (follows-alike s t alike.behind (last_body k.requests) k.feed were)));
      source = subst S from.feed reader.source;
    }
