-- A Read: from where the connection stands to where it stands after it.
use Rattle.std.proofs.Common.{not, ◌&&◌, ◌≡◌, refl, sym, ap, ◌∙◌, subst, ℕ, ◌+◌, ◌-◌, ◌<◌, ◌≤◌, ◌⊎◌, inl, inr, Bool, true, false, ◌||◌, List, [], ◌∷◌, ◌++◌, length, take, drop, Option, Some, None, Result, Ok, Err, arith, length-append, eq-eqb, append-nil}
use Rattle.std.specs.Prelude.{MatchBool, ◌==◌, nat_lt, slice_get, slice_set, ⊤, if◌then◌else◌}
use Rattle.std.specs.Option.{option_map}
use Rattle.std.proofs.lemmas.Bool.{lt-ltb, le-ltb, cases_lt, eqb-true, ne_eqb}
use Rattle.std.proofs.lemmas.List.{drop-drop, take_all}
use Rattle.std.proofs.lemmas.Grind.{common_steps}
use Rattle.std.specs.declared.io.ErrorKind.{ErrorKind}
use Rattle.httpdate.specs.declared.date.HttpDate.{HttpDate}
use Rattle.tiny_http_io.specs.declared.device.Stop.{Stop}
use Rattle.tiny_http_io.specs.declared.device.Stop.TheVariants.{End, Fault as Faults}
use Rattle.tiny_http_io.specs.Device.{Feed, Sink}
use Rattle.tiny_http_open_request.specs.declared.open_request.OpenRequest.{OpenRequest}
use Rattle.tiny_http_body.specs.declared.framing.Form.{Form}
use Rattle.tiny_http_body.specs.declared.framing.Form.TheVariants.{Rest, Nothing, WithHead, Counted, Chunked}
use Rattle.tiny_http_body.specs.declared.body.UnreadBody.{UnreadBody}
use Rattle.tiny_http_body.specs.declared.body.UnreadBody.TheVariants as body
use Rattle.tiny_http_io.specs.ToCome.{stopped}
use Rattle.tiny_http_io.specs.Source.{SourceState, GoesOn}
use Rattle.tiny_http_open_request.specs.Pipeline.{Item, Request, body_length_or_0}
use Rattle.tiny_http_connection.specs.Segments.{Slot, Unanswered, Answered as AnsweredBy, ByServer, Raw, Upgraded, is_finished, is_slot_broken, is_last_item}
use Rattle.tiny_http_connection.specs.Slots.{is_output_broken, joined, turn_has_come, is_chunked_form, last_slot, last_was_abandoned, is_last_slot, rest_of}
use Rattle.tiny_http_body.specs.Body.{body_finished}
use Rattle.tiny_http_connection.specs.Steps.{Read, ReplyValue, Given, Fault, Memory, NoSuch}
use Rattle.tiny_http_connection.specs.Outcomes.{accepts_step, Unused, Outcome, Reached, changes, read_reply, effect, at_slot, at_number}
use Rattle.tiny_http_connection.specs.Conversation.{State, HasOutcome}
use Rattle.tiny_http_body.specs.Body.{Remaining, remaining, taken_remaining, prepend_body, prepended_body, BodyStops, NoneRemains, is_streaming, body_input_state, IsBodyOver, IsCountedOver, ReadsOn, Fits, FillsFromBody}
use Rattle.tiny_http_turns.specs.Turns.{Mark, Open}
use Rattle.tiny_http_connection.specs.declared.pending.Unfinished.{Unfinished}
use Rattle.tiny_http_connection.specs.declared.pending.Unfinished.TheVariants as still
use Rattle.tiny_http_connection.specs.Pending.{last_holds_next_head, kept_body, number_with_body, is_readable, last_body, is_streaming_body, holds_next_head_at}
use Rattle.tiny_http_connection.specs.Connection.{Kept, open_slot, IsWaiting, IsOpen, IsUpgraded, KeepsUnfinished, AreSentInTurn, AreKept, AreSettled, behind_body, slot_rest, GivesRest, is_past_last, PlaceIn, InputMatches, Represents, FollowsLast, behind_item}
use Rattle.tiny_http_io.proofs.SourceGoesOn.{goes-on_more}
use Rattle.tiny_http_connection.proofs.ConnectionAsk.{StepIsAnswered, step-unchanged, settled-any, stated-feed}
use Rattle.tiny_http_body.proofs.BodyReads.{stays-settled, counted-over}
use Rattle.tiny_http_connection.proofs.ConnectionBody.{IsInput, StandsOn, represents-on, last-waits, with_reader, reader-within}
use Rattle.tiny_http_connection.proofs.ConnectionKept.{KeptAt, place-of, kept-append, kept-many, unfinished-is, unfinished-whole}
use Rattle.tiny_http_connection.proofs.ConnectionOutput.{output-same}
use Rattle.tiny_http_connection.proofs.ConnectionReader.{holds-snoc, open-waiting, last-snoc, body-snoc, settled-place, settled-set, and-false}
use Rattle.tiny_http_connection.proofs.ConnectionRespond.{TakesNone, not-taken, SlotAt, slot-at, set-place}
use Rattle.tiny_http_connection.proofs.SlotsLemmas.{joined-alike, breaks-waits}
use Rattle.tiny_http_connection.proofs.ConnectionTurns.{turn-set}
use Rattle.std.proofs.Math.Bool.{or-true, or-false}
use Rattle.std.proofs.Math.Seq.{take-append_seam}
use Rattle.std.proofs.Math.Seq.{drop-append_seam}

-- how much was read of what is left
record Counts (left bs xs : List ℕ) (m n : ℕ) : Type 0 where
  front : take n left ≡ bs
  behind : drop m left ≡ xs
  short : nat_lt (length left) n ≡ nat_lt m n

counts : (left bs xs : List ℕ) (m n : ℕ) → left ≡ bs ++ xs → length bs ≡ m → m ≤ n → (m < n → xs ≡ []) → Counts left bs xs m n
counts left bs xs m n e len le none = by (cases_lt m n)
  where
    long : length left ≡ m + length xs
    long = ap length e ∙ length-append bs xs ∙ ap (λ k. k + length xs) len

    by : (m < n) ⊎ (n ≤ m) → Counts left bs xs m n
    by (inl lt) =
        let empty = none lt in
        let same : left ≡ bs = e ∙ ap (λ x. bs ++ x) empty ∙ append-nil bs in
        let size : length left ≡ m = ap length same ∙ len in
        record {
          front = take_all n left (omega (arith, size, lt)) ∙ same;
          behind = rw empty (nothing-left left m size);
          short = lt-ltb (length left) n (omega (arith, size, lt)) ∙ sym (lt-ltb m n lt);
        }
      where
        nothing-left : (l : List ℕ) (k : ℕ) → length l ≡ k → drop k l ≡ []
        nothing-left l k e = grind (arith, common_steps)
    by (inr ge) =
        let all : m ≡ n = omega (arith, ge, le) in
        record {
          front = rw (e, sym all, sym len) (take-append_seam bs xs);
          behind = rw (e, sym len) (drop-append_seam bs xs);
          short = le-ltb (length left) n (omega (arith, long, all)) ∙ sym (le-ltb m n (omega (arith, all)));
        }

-- what was read of a body fits it
still-over : (form : Form) (n given : ℕ) (end_reported more : Bool) → body_finished form n given end_reported ≡ true → body_finished form n given (end_reported || more) ≡ true
still-over Nothing n given end_reported more h = refl
still-over WithHead n given end_reported more h = refl
still-over Counted n given true more h = or-true (given == n)
still-over Counted n given false more h = by (given == n) h
  where
    by : (t : Bool) → (t || false) ≡ true → (t || more) ≡ true
    by true e = refl
    by false e = cc
still-over Chunked n given true more h = refl
still-over Chunked n given false more h = cc
still-over Rest n given true more h = refl
still-over Rest n given false more h = cc

fits-on : (standard : Bool) (b c : UnreadBody) (form : Form) (n given m : ℕ) (end_reported more : Bool) → Fits standard b form n given end_reported → ReadsOn b m more c → Fits standard c form n (given + m) (end_reported || more)
fits-on standard (body.Over stop) c form n given m end_reported more fits h =
    let P : UnreadBody → Type 0 = λ x. Fits standard x form n (given + m) (end_reported || more) in
    let same : given + m ≡ given = omega (arith, h.1) in
    subst P (sym h.0) (ap (λ k. body_finished form n k (end_reported || more)) same ∙ still-over form n given end_reported more fits.0, fits.1)
fits-on standard (body.WithHead bytes) (body.WithHead left) form n given m end_reported more fits h = (fits.0, omega (arith, fits.1, h.0))
fits-on standard (body.WithHead bytes) (body.Over stop) form n given m end_reported more fits h = absurd h
fits-on standard (body.WithHead bytes) (body.Counted left by_standard) form n given m end_reported more fits h = absurd h
fits-on standard (body.WithHead bytes) (body.Chunked d) form n given m end_reported more fits h = absurd h
fits-on standard (body.WithHead bytes) body.Rest form n given m end_reported more fits h = absurd h
fits-on standard (body.Counted left by_standard) c form n given m end_reported more fits h = by (more || (m == left)) refl h
  where
    over : (c : UnreadBody) → IsBodyOver c → (more || (m == left)) ≡ true → Fits standard c form n (given + m) (end_reported || more)
    over (body.Over stop) i e = (rw fits.0 (at more e), rw fits.0 tt)
      where
        at : (t : Bool) → (t || (m == left)) ≡ true → ((given + m) == n || (end_reported || t)) ≡ true
        at true e = ap (λ x. (given + m) == n || x) (or-true end_reported) ∙ or-true ((given + m) == n)
        at false e = rw (eq-eqb (given + m) n (omega (arith, fits.1, eqb-true m left e))) refl
    over (body.WithHead bytes) i e = absurd i
    over (body.Counted l by_standard) i e = absurd i
    over (body.Chunked d) i e = absurd i
    over body.Rest i e = absurd i

    neither : (a b : Bool) → (a || b) ≡ false → a ≡ false
    neither true b e = cc
    neither false b e = refl

    by : (t : Bool) → (more || (m == left)) ≡ t → MatchBool t (IsCountedOver by_standard (m == left) c) ((c ≡ body.Counted (left - m) by_standard) × (m < left)) → Fits standard c form n (given + m) (end_reported || more)
    by true e k = over c (counted-over by_standard (m == left) c k) e
    by false e k =
        let P : UnreadBody → Type 0 = λ x. Fits standard x form n (given + m) (end_reported || more) in
        let unreported : (end_reported || more) ≡ false = rw (fits.3, neither more (m == left) e) refl in
        subst P (sym k.0) (fits.0, omega (arith, fits.1, k.1), omega (arith, k.1), unreported, fits.4)
fits-on standard (body.Chunked d) c form n given m end_reported true fits h = over c h
  where
    over : (c : UnreadBody) → IsBodyOver c → Fits standard c form n (given + m) (end_reported || true)
    over (body.Over stop) i = (rw (fits.0, or-true end_reported) refl, rw fits.0 tt)
    over (body.WithHead bytes) i = absurd i
    over (body.Counted l by_standard) i = absurd i
    over (body.Chunked d) i = absurd i
    over body.Rest i = absurd i
fits-on standard (body.Chunked d) (body.Chunked e) form n given m end_reported false fits h = (fits.0, or-false end_reported ∙ fits.1, h ∙ fits.2)
fits-on standard (body.Chunked d) (body.Over stop) form n given m end_reported false fits h = absurd h
fits-on standard (body.Chunked d) (body.WithHead bytes) form n given m end_reported false fits h = absurd h
fits-on standard (body.Chunked d) (body.Counted l by_standard) form n given m end_reported false fits h = absurd h
fits-on standard (body.Chunked d) body.Rest form n given m end_reported false fits h = absurd h
fits-on standard body.Rest c form n given m end_reported true fits h = over c h
  where
    over : (c : UnreadBody) → IsBodyOver c → Fits standard c form n (given + m) (end_reported || true)
    over (body.Over stop) i = (rw (fits.0, or-true end_reported) refl, rw fits.0 tt)
    over (body.WithHead bytes) i = absurd i
    over (body.Counted l by_standard) i = absurd i
    over (body.Chunked d) i = absurd i
    over body.Rest i = absurd i
fits-on standard body.Rest c form n given m end_reported false fits h = let P : UnreadBody → Type 0 = λ x. Fits standard x form n (given + m) (end_reported || false) in subst P (sym h) (fits.0, or-false end_reported ∙ fits.1)

-- how many bytes are given then, and whether the end is reported
abbrev now_given : Request → ℕ → ℕ → ℕ
now_given r given n = given + length (take n (drop given r.body.bytes))

abbrev end_now_reported : Request → ℕ → Bool → ℕ → Bool
end_now_reported r given end_reported n = end_reported || nat_lt (length (drop given r.body.bytes)) n

-- the reply to a read that filled a buffer so
abbrev pub reply_for : Result ℕ ErrorKind → List ℕ → ReplyValue
reply_for (Ok m) buf = Given (take m buf)
reply_for (Err kind) buf = Fault kind

-- no more bytes were read than the buffer has room for
abbrev pub IfBound : Result ℕ ErrorKind → List ℕ → Type 0
IfBound (Ok m) buf = m ≤ length buf
IfBound (Err kind) buf = ⊤

-- what a read leaves of a request's body
record ReadOn (b c : UnreadBody) (old new : Option Feed) (r : Request) (given : ℕ) (end_reported : Bool) (n : ℕ) (reply : ReplyValue) : Type 0 where
  x : Remaining
  is : remaining c new ≡ Some x
  rest : x.body ≡ rest_of r (now_given r given n)
  behind : behind_body (Some c) new ≡ behind_body (Some b) old
  fits : Fits r.framing.by_standard c r.framing.form (body_length_or_0 r.framing) (now_given r given n) (end_now_reported r given end_reported n)
  reply_is : reply ≡ read_reply n (drop given r.body.bytes) r.body.stop
  stays : is_streaming b ≡ false → is_streaming c ≡ false

taken : (y : Remaining) (q : Option Remaining) (bs : List ℕ) → Some y ≡ prepended_body bs q → (x : Remaining) × (q ≡ Some x) × (y ≡ prepend_body bs x)
taken y None bs e = let no : Some y ≡ None = e in cc
taken y (Some x) bs e = (x, refl, (let same : Some y ≡ Some (prepend_body bs x) = e in cc))

given-reply : (n : ℕ) (left bs : List ℕ) (stop : Stop) → take n left ≡ bs → (left ≡ [] → stop ≡ End) → Given bs ≡ read_reply n left stop
given-reply n [] bs stop e end =
    let empty : bs ≡ [] = sym e ∙ grind (arith, common_steps) in
    let P : Stop → Type 0 = λ s. Given bs ≡ read_reply n [] s in
    subst P (sym (end refl)) (ap Given empty)
given-reply n (a ∷ left) bs stop e end = ap Given (sym e)

abbrev B : Option Remaining → Option Feed
B o = option_map (λ (y : Remaining). y.behind) o

read-given : (b c : UnreadBody) (old new : Option Feed) (r : Request) (given : ℕ) (end_reported : Bool) (n m : ℕ) (buf : List ℕ) (y : Remaining) → remaining b old ≡ Some y → y.body ≡ rest_of r given → Fits r.framing.by_standard b r.framing.form (body_length_or_0 r.framing) given end_reported
    → m ≤ length buf → length buf ≡ n → 0 < n → FillsFromBody b old c new (Ok m) buf → ReadOn b c old new r given end_reported n (Given (take m buf))
read-given b c old new r given end_reported n m buf y here rest fits le size some fills =
    let bs = take m buf in
    let left = drop given r.body.bytes in
    let t = taken y (remaining c new) bs (sym here ∙ fills.0) in
    let x = t.0 in
    let whole : rest_of r given ≡ (prepend_body bs x).body = sym rest ∙ ap (λ (z : Remaining). z.body) t.2 in
    let bytes : left ≡ bs ++ x.body.bytes = ap (λ (f : Feed). f.bytes) whole in
    let stop : r.body.stop ≡ x.body.stop = ap (λ (f : Feed). f.stop) whole in
    let len : length bs ≡ m = grind (arith, common_steps) in
    let N : Option Remaining → Type 0 = λ o. NoneRemains o in
    let k = counts left bs x.body.bytes m n bytes len (omega (arith, le, size)) (λ lt. subst N t.1 (fills.2 (omega (arith, lt, size)))) in
    let count : now_given r given n ≡ given + m = ap (λ l. given + length l) k.front ∙ ap (λ j. given + j) len in
    let F : List ℕ → Stop → Feed = λ l s. record { bytes = l; stop = s } in
    let E : Option Remaining → Type 0 = λ o. BodyStops End o in
    let on = fits-on r.framing.by_standard b c r.framing.form (body_length_or_0 r.framing) given m end_reported (nat_lt m (length buf)) fits (fills.1 (omega (arith, size, some))) in
    let G : ℕ → Bool → Type 0 = λ j u. Fits r.framing.by_standard c r.framing.form (body_length_or_0 r.framing) j (end_reported || u) in
    let short : nat_lt m (length buf) ≡ nat_lt (length left) n = ap (λ j. nat_lt m j) size ∙ sym k.short in
    record {
      x = x;
      is = t.1;
      rest = ap (λ s. F x.body.bytes s) (sym stop) ∙ ap (λ l. F l r.body.stop) (sym k.behind ∙ drop-drop m given r.body.bytes ∙ ap (λ j. drop j r.body.bytes) (sym count));
      behind = ap B t.1 ∙ ap (λ (z : Remaining). Some z.behind) (sym t.2) ∙ ap B (sym here);
      fits = subst (λ j. G j (nat_lt (length left) n)) (sym count) (subst (λ u. G (given + m) u) short on);
      reply_is = given-reply n left bs r.body.stop k.front
          (λ empty. ap (λ (f : Feed). f.stop) (sym rest ∙ subst E here (fills.3 (none-read left bs x.body.bytes m bytes empty len) (omega (arith, size, some)))));
      stays = stays-settled b c m (nat_lt m (length buf)) (fills.1 (omega (arith, size, some)));
    }
  where
    none-read : (left bs xs : List ℕ) (m : ℕ) → left ≡ bs ++ xs → left ≡ [] → length bs ≡ m → m ≡ 0
    none-read left [] xs m e empty len = sym len
    none-read left (z ∷ bs) xs m e empty len = let no : z ∷ (bs ++ xs) ≡ [] = sym e ∙ empty in cc

read-fault : (b c : UnreadBody) (old new : Option Feed) (r : Request) (given : ℕ) (end_reported : Bool) (n : ℕ) (kind : ErrorKind) (buf : List ℕ) (y : Remaining) → remaining b old ≡ Some y → y.body ≡ rest_of r given → Fits r.framing.by_standard b r.framing.form (body_length_or_0 r.framing) given end_reported
    → 0 < n → FillsFromBody b old c new (Err kind) buf → ReadOn b c old new r given end_reported n (Fault kind)
read-fault b c old new r given end_reported n kind buf y here rest fits some fills =
    let left = drop given r.body.bytes in
    let E : Option Remaining → Type 0 = λ o. BodyStops (Faults kind) o in
    let ends : rest_of r given ≡ stopped (Faults kind) = sym rest ∙ subst E here fills.2 in
    let empty : left ≡ [] = ap (λ (f : Feed). f.bytes) ends in
    let stop : r.body.stop ≡ Faults kind = ap (λ (f : Feed). f.stop) ends in
    let none : length (take n left) ≡ 0 = rw empty (grind (arith, common_steps)) in
    let count : now_given r given n ≡ given + 0 = ap (λ j. given + j) none in
    let same : now_given r given n ≡ given = omega (arith, count) in
    let zero : length left ≡ 0 = ap length empty in
    let reported_now : nat_lt (length left) n ≡ true = lt-ltb (length left) n (omega (arith, zero, some)) in
    let G : ℕ → Bool → Type 0 = λ j u. Fits r.framing.by_standard c r.framing.form (body_length_or_0 r.framing) j (end_reported || u) in
    let P : List ℕ → Stop → Type 0 = λ l s. Fault kind ≡ read_reply n l s in
    let on = fits-on r.framing.by_standard b c r.framing.form (body_length_or_0 r.framing) given 0 end_reported true fits fills.1 in
    record {
      x = y;
      is = fills.0 ∙ here;
      rest = rest ∙ ap (λ j. rest_of r j) (sym same);
      behind = ap B fills.0;
      fits = subst (λ j. G j (nat_lt (length left) n)) (sym count) (subst (λ u. G (given + 0) u) (sym reported_now) on);
      reply_is = subst (λ l. P l r.body.stop) (sym empty) (subst (λ s. P [] s) (sym stop) refl);
      stays = stays-settled b c 0 true fills.1;
    }

read-on : (b c : UnreadBody) (old new : Option Feed) (r : Request) (given : ℕ) (end_reported : Bool) (n : ℕ) (result : Result ℕ ErrorKind) (buf : List ℕ) (y : Remaining) → remaining b old ≡ Some y → y.body ≡ rest_of r given → Fits r.framing.by_standard b r.framing.form (body_length_or_0 r.framing) given end_reported
    → IfBound result buf → length buf ≡ n → 0 < n → FillsFromBody b old c new result buf → ReadOn b c old new r given end_reported n (reply_for result buf)
read-on b c old new r given end_reported n (Ok m) buf y here rest fits le size some fills = read-given b c old new r given end_reported n m buf y here rest fits le size some fills
read-on b c old new r given end_reported n (Err kind) buf y here rest fits le size some fills = read-fault b c old new r given end_reported n kind buf y here rest fits some fills

-- the slot of a request, of which so much was read
abbrev read_slot : (s : Slot) (b : UnreadBody) → IsOpen s b → ℕ → Slot
read_slot s b h n = record (open_slot h.handed h.request (now_given h.request h.given n) (end_now_reported h.request h.given h.end_reported n)) { stage = h.stage }

still-open : (s : Slot) (b : UnreadBody) (h : IsOpen s b) (c : UnreadBody) (old new : Option Feed) (n : ℕ) (reply : ReplyValue) → ReadOn b c old new h.request h.given h.end_reported n reply → IsOpen (read_slot s b h n) c
still-open s b h c old new n reply k = record {
  request = h.request;
  handed = h.handed;
  stage = h.stage;
  given = now_given h.request h.given n;
  end_reported = end_now_reported h.request h.given h.end_reported n;
  is = refl;
  rest_is_last = h.rest_is_last;
  fits = k.fits;
  settled = settled-any c new (rest_of h.request (now_given h.request h.given n)) k.x.behind (k.is ∙ (let R : Feed → Option Remaining = λ f. Some (record { body = f; behind = k.x.behind }) in ap R k.rest));
}

-- a number whose body can be read now, and what goes on being kept of it as its body does
pub record IsReadable (s : Slot) (u : Unfinished) (b : UnreadBody) : Type 0 where
  opened : IsOpen s b
  accepts : (k n : ℕ) → accepts_step opened.stage opened.handed.owed (Read k n) ≡ true
  has : kept_body (Some u) ≡ Some b
  goes_on : (c : UnreadBody) (old new : Option Feed) (n : ℕ) (reply : ReplyValue) → ReadOn b c old new opened.request opened.given opened.end_reported n reply → KeepsUnfinished (read_slot s b opened n) (number_with_body c u)
  has_then : (c : UnreadBody) → kept_body (Some (number_with_body c u)) ≡ Some c

still-waiting : (s : Slot) (w : OpenRequest UnreadBody) (h : IsWaiting s w) (c : UnreadBody) (old new : Option Feed) (n : ℕ) (reply : ReplyValue) → ReadOn w.body c old new h.request h.given h.end_reported n reply → IsWaiting (read_slot s w.body (open-waiting s w h) n) (record w { body = c })
unfolding still-open
still-waiting s w h c old new n reply k =
    let o = still-open s w.body (open-waiting s w h) c old new n reply k in
    record {
      request = h.request;
      handed = h.handed;
      given = now_given h.request h.given n;
      end_reported = end_now_reported h.request h.given h.end_reported n;
      is = refl;
      owed = h.owed;
      holds = h.holds;
      standard = h.standard;
      upgrades = h.upgrades;
      connect = h.connect;
      closes = h.closes;
      unsent = h.unsent;
      rest_is_last = h.rest_is_last;
      response_context = h.response_context;
      dropped = h.dropped;
      fits = o.fits;
      settled = o.settled;
    }

not-false : (b : Bool) → not b ≡ true → b ≡ false
not-false true e = cc
not-false false e = refl

readable-waiting : (s : Slot) (w : OpenRequest UnreadBody) → IsWaiting s w → w.owes_continue ≡ false → IsReadable s (still.Waiting w) w.body
readable-waiting s w h free = record {
  opened = open-waiting s w h;
  accepts = λ k n. ap not (sym h.owed ∙ free);
  has = refl;
  goes_on = λ c old new n reply on. still-waiting s w h c old new n reply on;
  has_then = λ c. refl;
}

readable-upgraded : (s : Slot) (b : UnreadBody) → IsUpgraded s b → IsReadable s (still.Upgraded b) b
unfolding still-open
readable-upgraded s b h = record {
  opened = h.opened;
  accepts = λ k n. ap (λ x. accepts_step x h.opened.handed.owed (Read k n)) h.stage;
  has = refl;
  goes_on = λ c old new n reply on. record { opened = still-open s b h.opened c old new n reply on; protocol = h.protocol; response = h.response; date = h.date; written = h.written; stage = h.stage };
  has_then = λ c. refl;
}

one-body : (x y : UnreadBody) → Some x ≡ Some y → x ≡ y
one-body x y e = cc

no-raw : {X : Type 0} → is_readable (Some (Some still.Raw)) ≡ true → X
no-raw e = cc

readable-of : (s : Slot) (u : Unfinished) → KeepsUnfinished s u → is_readable (Some (Some u)) ≡ true → (b : UnreadBody) × (kept_body (Some u) ≡ Some b) × IsReadable s u b
readable-of s (still.Waiting w) h e = (w.body, refl, readable-waiting s w h (not-false w.owes_continue e))
readable-of s still.Raw h e = no-raw e
readable-of s (still.Upgraded c) h e = (c, refl, readable-upgraded s c h)

pub readable : (s : Slot) (u : Unfinished) (b : UnreadBody) → KeepsUnfinished s u → is_readable (Some (Some u)) ≡ true → kept_body (Some u) ≡ Some b → IsReadable s u b
readable s u b h e has = let q = readable-of s u h e in subst (λ y. IsReadable s u y) (one-body q.0 b (sym q.1 ∙ has)) q.2

with-body-holds : (c : UnreadBody) (u : Unfinished) → holds_next_head_at (Some (Some (number_with_body c u))) ≡ holds_next_head_at (Some (Some u))
with-body-holds c (still.Waiting w) = refl
with-body-holds c still.Raw = refl
with-body-holds c (still.Upgraded b) = refl

-- the last number's body is read
read-last : {R : Type 0} (client : Feed) (k : Kept) (old new : SourceState R) (bs : List Slot) (us : List (Option Unfinished)) (rest : List Item) (s : Slot) (u : Unfinished) (b c : UnreadBody) (n : ℕ) (reply : ReplyValue) → (q : IsReadable s u b) → IsInput k old → InputMatches client k (bs ++ (s ∷ [])) rest
    → k.requests ≡ us ++ (Some u ∷ []) → ReadOn b c old.feed new.feed q.opened.request q.opened.given q.opened.end_reported n reply → (is_streaming b ≡ false → new ≡ old) → (is_streaming b ≡ true → new.input_state ≡ body_input_state c old.input_state) → GoesOn old.feed new.feed
    → InputMatches client (with_reader k (us ++ (Some (number_with_body c u) ∷ [])) new) (bs ++ (read_slot s b q.opened n ∷ [])) rest
read-last {R = R} client k old new bs us rest s u b c n reply q from reader is on leaves represents goes =
    let h = q.opened in
    let t = read_slot s b h n in
    let last : last_slot (bs ++ (t ∷ [])) ≡ Some t = last-snoc None bs t in
    let content : last_body (us ++ (Some (number_with_body c u) ∷ [])) ≡ Some c = body-snoc us (Some (number_with_body c u)) ∙ q.has_then c in
    let l = last-waits client k old bs us rest s (Some u) b h q.has from reader is in
    let A : List (Option Unfinished) → Type 0 = λ x. AreSettled x in
    let G : Option UnreadBody → Option Slot → Type 0 = λ b o. GivesRest b o new.feed in
    let P : Bool → Option UnreadBody → Type 0 = λ x b. PlaceIn client k.profile x (behind_body b new.feed) rest in
    let Q : Option Feed → Type 0 = λ f. PlaceIn client k.profile (is_past_last old.input_state) f rest in
    let W : Option Slot → Option UnreadBody → Bool = λ x y. not (is_last_slot x) && is_streaming_body y in
    let same : (e : k.asking_ended ≡ false) → StandsOn c old.input_state new.input_state (is_last_item s.item) =
    λ e. represents-on b c old.input_state new.input_state (is_last_item s.item) represents (λ quiet. ap (λ (x : SourceState R). x.input_state) (leaves quiet)) on.stays (l.within e) in
    let item : is_last_item s.item ≡ is_last_item t.item = ap (λ (x : Slot). is_last_item x.item) h.is in
    let S : Option Feed → Type 0 = λ f. GoesOn f new.feed in
    let C : Option Remaining → Option Feed = λ o. option_map (λ (x : Remaining). x.body) o in
    let L : Option UnreadBody → Option Slot → Type 0 = λ b o. FollowsLast b o new.feed in
    record {
      settled = settled-set us (Some u) (Some (number_with_body c u)) [] (subst A is reader.settled) (inr refl);
      gives = subst (λ o. G (last_body (us ++ (Some (number_with_body c u) ∷ []))) o) (sym last) (subst (λ b. G b (Some t)) (sym content) (ap C on.is ∙ ap Some on.rest));
      next = λ e. record {
        is_last = (same e).past ∙ l.is_last e ∙ item ∙ ap is_last_slot (sym last);
        within = (same e).within ∙ ap (λ x. not x && is_streaming c) item ∙ ap (λ y. W (Some t) y) (sym content) ∙ ap (λ x. W x (last_body (us ++ (Some (number_with_body c u) ∷ [])))) (sym last);
        lost = λ lost. (let no : true ≡ false = sym lost ∙ (ap last_was_abandoned last ∙ and-false (is_chunked_form h.request.framing.form)) in cc);
        place = λ kept. subst (λ x. P x (last_body (us ++ (Some (number_with_body c u) ∷ [])))) (sym (same e).past) (subst (λ y. P (is_past_last old.input_state) y) (sym content) (subst Q (sym on.behind) (l.place e)));
      };
      follows = λ holds.
          let held : last_holds_next_head k.requests ≡ true = ap last_holds_next_head is ∙ holds-snoc us (Some u) ∙ sym (with-body-holds c u) ∙ sym (holds-snoc us (Some (number_with_body c u))) ∙ holds in
          subst (λ b. L b (last_slot (bs ++ (t ∷ [])))) (sym content) (subst (λ o. L (Some c) o) (sym last) (on.behind ∙ l.follows held ∙ ap (λ (x : Slot). Some (behind_item x.item)) h.is));
      source = goes-on_more (Some client) k.feed new.feed reader.source (subst S (sym from.feed) goes);
    }

reader-read : {R : Type 0} (client : Feed) (k : Kept) (old new : SourceState R) (bs cs : List Slot) (us vs : List (Option Unfinished)) (rest : List Item) (s : Slot) (u : Unfinished) (b c : UnreadBody) (n : ℕ) (reply : ReplyValue) → (q : IsReadable s u b) → IsInput k old → InputMatches client k (bs ++ (s ∷ cs)) rest
    → k.requests ≡ us ++ (Some u ∷ vs) → length cs ≡ length vs → ReadOn b c old.feed new.feed q.opened.request q.opened.given q.opened.end_reported n reply → (is_streaming b ≡ false → new ≡ old) → (is_streaming b ≡ true → new.input_state ≡ body_input_state c old.input_state) → GoesOn old.feed new.feed
    → InputMatches client (with_reader k (us ++ (Some (number_with_body c u) ∷ vs)) new) (bs ++ (read_slot s b q.opened n ∷ cs)) rest
reader-read client k old new bs [] us [] rest s u b c n reply q from reader is same on leaves represents goes = read-last client k old new bs us rest s u b c n reply q from reader is on leaves represents goes
reader-read client k old new bs [] us (v ∷ vs) rest s u b c n reply q from reader is same on leaves represents goes = absurd (omega (arith, same))
reader-read client k old new bs (d ∷ cs) us [] rest s u b c n reply q from reader is same on leaves represents goes = absurd (omega (arith, same))
reader-read {R = R} client k old new bs (d ∷ cs) us (v ∷ vs) rest s u b c n reply q from reader is same on leaves represents goes =
    let A : List (Option Unfinished) → Type 0 = λ x. AreSettled x in
    let quiet : is_streaming b ≡ false = ap is_streaming_body (sym q.has) ∙ (settled-place us (Some u) v vs (subst A is reader.settled)).0 in
    let t = read_slot s b q.opened n in
    let P : SourceState R → Type 0 = λ x. InputMatches client (with_reader k (us ++ (Some (number_with_body c u) ∷ (v ∷ vs))) x) (bs ++ (t ∷ (d ∷ cs))) rest in
    subst P (sym (leaves quiet)) (reader-within client k old bs cs us vs rest s t d v (Some (number_with_body c u)) (Some u) from reader is (ap is_streaming_body (q.has_then c) ∙ on.stays quiet, with-body-holds c u ∙ (settled-place us (Some u) v vs (subst A is reader.settled)).1))

-- what is left of a number's body, as its reader sees it
read-remains-of : {R : Type 0} (client : Feed) (k : Kept) (old : SourceState R) (bs cs : List Slot) (us vs : List (Option Unfinished)) (rest : List Item) (s : Slot) (u : Unfinished) (b : UnreadBody) → (h : IsOpen s b) → kept_body (Some u) ≡ Some b → IsInput k old → InputMatches client k (bs ++ (s ∷ cs)) rest
    → k.requests ≡ us ++ (Some u ∷ vs) → length cs ≡ length vs → (y : Remaining) × (remaining b old.feed ≡ Some y) × (y.body ≡ rest_of h.request h.given)
read-remains-of client k old bs [] us [] rest s u b h has from reader is same =
    let l = last-waits client k old bs us rest s (Some u) b h has from reader is in
    end_reported (remaining b old.feed) refl (l.gives ∙ ap (λ (x : Slot). Some (slot_rest x)) h.is)
  where
    end_reported : (o : Option Remaining) → remaining b old.feed ≡ o → option_map (λ (x : Remaining). x.body) o ≡ Some (rest_of h.request h.given) → (y : Remaining) × (remaining b old.feed ≡ Some y) × (y.body ≡ rest_of h.request h.given)
    end_reported None e g = let no : None ≡ Some (rest_of h.request h.given) = g in cc
    end_reported (Some y) e g = (y, e, (let same : Some y.body ≡ Some (rest_of h.request h.given) = g in cc))
read-remains-of client k old bs [] us (v ∷ vs) rest s u b h has from reader is same = absurd (omega (arith, same))
read-remains-of client k old bs (d ∷ cs) us [] rest s u b h has from reader is same = absurd (omega (arith, same))
read-remains-of client k old bs (d ∷ cs) us (v ∷ vs) rest s u b h has from reader is same =
    let A : List (Option Unfinished) → Type 0 = λ x. AreSettled x in
    let quiet : is_streaming b ≡ false = ap is_streaming_body (sym has) ∙ (settled-place us (Some u) v vs (subst A is reader.settled)).0 in
    let f = stated-feed client k.feed reader.source in
    let e : old.feed ≡ Some f.0 = sym from.feed ∙ f.1 in
    (taken_remaining (rest_of h.request h.given) f.0, ap (remaining b) e ∙ h.settled quiet f.0, refl)

pub read-not_taken : (k n : ℕ) → TakesNone (Read k n)
read-not_taken k n Unanswered owed e = cc
read-not_taken k n (AnsweredBy r d f) owed e = refl
read-not_taken k n ByServer owed e = refl
read-not_taken k n (Raw w true) owed e = refl
read-not_taken k n (Raw w false) owed e = refl
read-not_taken k n (Upgraded p r d w true) owed e = refl
read-not_taken k n (Upgraded p r d w false) owed e = cc

-- no number of which this is kept takes a read
read-unfit : (k n : ℕ) (x : Slot) (u : Unfinished) → KeepsUnfinished x u → is_readable (Some (Some u)) ≡ false → accepts_step x.stage x.owed (Read k n) ≡ false
read-unfit k n x (still.Waiting w) h e = ap (λ (y : Slot). accepts_step y.stage y.owed (Read k n)) h.is ∙ ap not (sym h.owed) ∙ e
read-unfit k n x still.Raw h e = ap (λ y. accepts_step y x.owed (Read k n)) h.stage
read-unfit k n x (still.Upgraded b) h e = let no : true ≡ false = e in cc

-- no body is read while a 100 is owed, or where none is kept
pub read-nothing : (client : Feed) (before : Sink) (k : Kept) (s : State) (date : HttpDate) (n m : ℕ) → Represents client before k s → is_readable (slice_get k.requests n) ≡ false → StepIsAnswered client before k s date (Read n m) NoSuch
read-nothing client before k s date n m st free =
    not-taken client before k s date n (Read n m) refl (read-not_taken n m) st (λ x u e h. read-unfit n m x u h (ap is_readable (sym e) ∙ free))

-- a body that can be read
pub readable-some : (o : Option (Option Unfinished)) → is_readable o ≡ true → (u : Unfinished) × (b : UnreadBody) × (o ≡ Some (Some u)) × (is_readable (Some (Some u)) ≡ true) × (kept_body (Some u) ≡ Some b)
readable-some None e = cc
readable-some (Some None) e = cc
readable-some (Some (Some (still.Waiting w))) e = (still.Waiting w, w.body, refl, e, refl)
readable-some (Some (Some still.Raw)) e = cc
readable-some (Some (Some (still.Upgraded b))) e = (still.Upgraded b, b, refl, refl, refl)

-- the slot of such a number
abbrev open_as : (s : Slot) (b : UnreadBody) → IsOpen s b → Slot
open_as s b h = record (open_slot h.handed h.request h.given h.end_reported) { stage = h.stage }

-- the step at such a number
at-read : (date : HttpDate) (old : Reached) (k n : ℕ) (s : Slot) (u : Unfinished) (b : UnreadBody) (q : IsReadable s u b) → slice_get old.slots k ≡ Some s
    → at_number true date old k (Read k n) ≡ effect true date old q.opened.request (open_as s b q.opened) (turn_has_come k old.slots) (Read k n)
at-read date old k n s u b q e =
    let T : Slot → Outcome = λ x. at_slot true date old k (Read k n) (Some x) in
    ap (at_slot true date old k (Read k n)) e ∙ ap T q.opened.is ∙ rw (q.accepts k n) refl

-- no bytes are asked for
pub read-none : (client : Feed) (before : Sink) (k : Kept) (s : State) (date : HttpDate) (j n : ℕ) (u : Unfinished) (b : UnreadBody) → Represents client before k s → slice_get k.requests j ≡ Some (Some u) → is_readable (Some (Some u)) ≡ true → kept_body (Some u) ≡ Some b → n ≡ 0
    → StepIsAnswered client before k s date (Read j n) (Given [])
read-none client before k s date j n u b st e free has zero =
    let p = place-of s.reached.slots k.marks k.requests j u st.numbers e in
    let at = slot-at s.reached.slots p.bs p.cs p.s j p.slots_are p.slots_before in
    step-unchanged client before k s date (Read j n) (Given []) st (at-read date s.reached j n p.s u b (readable p.s u b p.waiting free has) at.get ∙ rw zero refl)

-- no memory was found
pub read-memory : (client : Feed) (before : Sink) (k : Kept) (s : State) (date : HttpDate) (j n : ℕ) (u : Unfinished) (b : UnreadBody) → Represents client before k s → slice_get k.requests j ≡ Some (Some u) → is_readable (Some (Some u)) ≡ true → kept_body (Some u) ≡ Some b → 0 < n
    → StepIsAnswered client before k s date (Read j n) Memory
read-memory client before k s date j n u b st e free has some =
    let p = place-of s.reached.slots k.marks k.requests j u st.numbers e in
    let at = slot-at s.reached.slots p.bs p.cs p.s j p.slots_are p.slots_before in
    let q = readable p.s u b p.waiting free has in
    let is = at-read date s.reached j n p.s u b q at.get in
    let left = drop q.opened.given q.opened.request.body.bytes in
    (s, st, inr (some, (λ none. such n left q.opened.request.body.stop (n == 0) _ _ refl refl (ap (λ (o : Outcome). o.reply) (sym is) ∙ none)), refl, refl))
  where
    such : (n : ℕ) (left : List ℕ) (stop : Stop) (t : Bool) (a b : Outcome) → a.reply ≡ Given [] → b.reply ≡ read_reply n left stop → (if t then a else b).reply ≡ NoSuch → ⊥
    such n left stop true a b x y e = let no : Given [] ≡ NoSuch = sym x ∙ e in cc
    such n [] End false a b x y e = let no : Given [] ≡ NoSuch = sym y ∙ e in cc
    such n [] (Faults kind) false a b x y e = let no : Fault kind ≡ NoSuch = sym y ∙ e in cc
    such n (z ∷ left) stop false a b x y e = let no : Given (take n (z ∷ left)) ≡ NoSuch = sym y ∙ e in cc

-- the body was read
pub read-done : {R : Type 0} (client : Feed) (before : Sink) (k : Kept) (s : State) (date : HttpDate) (j n : ℕ) (u : Unfinished) (b c : UnreadBody) (old new : SourceState R) (requests : List (Option Unfinished)) (result : Result ℕ ErrorKind) (buf : List ℕ) → Represents client before k s → slice_get k.requests j ≡ Some (Some u)
    → is_readable (Some (Some u)) ≡ true → kept_body (Some u) ≡ Some b
    → requests ≡ slice_set k.requests j (Some (number_with_body c u)) → IsInput k old → IfBound result buf → length buf ≡ n → 0 < n → FillsFromBody b old.feed c new.feed result buf → (is_streaming b ≡ false → new ≡ old) → (is_streaming b ≡ true → new.input_state ≡ body_input_state c old.input_state) → GoesOn old.feed new.feed
    → StepIsAnswered client before (with_reader k requests new) s date (Read j n) (reply_for result buf)
read-done {R = R} client before k s date j n u b c old new requests result buf st e free has requests_are from bound size some fills leaves represents goes =
    let R : List (Option Unfinished) → Type 0 = λ l. StepIsAnswered client before (with_reader k l new) s date (Read j n) (reply_for result buf) in
    subst R (sym set) (
      state,
      record {
        numbers = subst M (sym p.marks_are) (kept-append p.bs p.fs p.us (s1 ∷ p.cs) (Open ∷ p.rs) (Some (number_with_body c u) ∷ p.vs) p.before (q.goes_on c old.feed new.feed n (reply_for result buf) on, p.behind));
        shape = st.shape;
        in_turn = turn-set p.bs p.cs s0 s1 (λ sent. sent) (λ done. done) (subst T open_is st.in_turn);
        asking_ended = st.asking_ended;
        reader = reader-read client k old new p.bs p.cs p.us p.vs s.reached.rest p.s u b c n (reply_for result buf) q from (subst P p.slots_are st.reader) p.requests_are many on leaves represents goes;
        output = output-same before k.sink k.output_ended s.reached.slots slots s.flushed s.failure joined_same breaks_same st.output;
      },
      inl (true, tt, subst G (sym is) (ap L (sym (at.set s1)), refl, (on.reply_is, refl))),
    )
  where
    p : KeptAt s.reached.slots k.marks k.requests j u
    p = place-of s.reached.slots k.marks k.requests j u st.numbers e

    q : IsReadable p.s u b
    q = readable p.s u b p.waiting free has

    h : IsOpen p.s b
    h = q.opened

    many : length p.cs ≡ length p.vs
    many = kept-many p.cs p.rs p.vs p.behind

    P : List Slot → Type 0
    P l = InputMatches client k l s.reached.rest

    s1 : Slot
    s1 = read_slot p.s b h n

    M : List Mark → Type 0
    M m = AreKept (p.bs ++ (s1 ∷ p.cs)) m (p.us ++ (Some (number_with_body c u) ∷ p.vs))

    slots : List Slot
    slots = p.bs ++ (s1 ∷ p.cs)

    set : requests ≡ p.us ++ (Some (number_with_body c u) ∷ p.vs)
    set = requests_are ∙ set-place k.requests p.us p.vs j (Some u) (Some (number_with_body c u)) p.requests_are p.requests_before

    on : ReadOn b c old.feed new.feed h.request h.given h.end_reported n (reply_for result buf)
    on =
        let y = read-remains-of client k old p.bs p.cs p.us p.vs s.reached.rest p.s u b h has from (subst P p.slots_are st.reader) p.requests_are many in
        read-on b c old.feed new.feed h.request h.given h.end_reported n result buf y.0 y.1 y.2 h.fits bound size some fills

    at : SlotAt s.reached.slots p.bs p.cs p.s j
    at = slot-at s.reached.slots p.bs p.cs p.s j p.slots_are p.slots_before

    s0 : Slot
    s0 = open_as p.s b h

    T : List Slot → Type 0
    T x = AreSentInTurn x

    open_is : s.reached.slots ≡ p.bs ++ (s0 ∷ p.cs)
    open_is = p.slots_are ∙ ap (λ x. p.bs ++ (x ∷ p.cs)) h.is

    unfinished : is_finished s0 ≡ false
    unfinished = ap is_finished (sym h.is) ∙ unfinished-is p.s u p.waiting

    whole : is_slot_broken s0 ≡ false
    whole = ap is_slot_broken (sym h.is) ∙ unfinished-whole p.s u p.waiting

    joined_same : joined s.reached.slots ≡ joined slots
    joined_same = ap joined open_is ∙ joined-alike p.bs s0 s1 p.cs refl unfinished unfinished

    breaks_same : is_output_broken s.reached.slots ≡ is_output_broken slots
    breaks_same = ap is_output_broken open_is ∙ breaks-waits p.bs s0 p.cs whole unfinished ∙ sym (breaks-waits p.bs s1 p.cs whole unfinished)

    state : State
    state = record { reached = record { slots = slots; rest = s.reached.rest; asking_ended = s.reached.asking_ended }; flushed = s.flushed; failure = s.failure }

    L : List Slot → Reached
    L l = record { slots = l; rest = s.reached.rest; asking_ended = s.reached.asking_ended }

    G : Outcome → Type 0
    G o = HasOutcome o s (reply_for result buf) state

    is : at_number true date s.reached j (Read j n) ≡ changes s.reached j s1 (read_reply n (drop h.given h.request.body.bytes) h.request.body.stop) Unused
    is = at-read date s.reached j n p.s u b q at.get ∙ rw (ne_eqb n 0 (λ z. absurd (omega (arith, z, some)))) refl
