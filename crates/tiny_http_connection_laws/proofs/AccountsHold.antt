-- Each number that a run reached is as its account says.
use Rattle.std.proofs.Common.{◌≡◌, refl, sym, ap, ◌∙◌, subst, ℕ, zero, suc, ◌+◌, ◌⊎◌, inl, inr, Bool, true, false, not, ◌&&◌, List, [], ◌∷◌, ◌++◌, map, length, Option, Some, None, append_assoc, append-nil, ⊎_elim}
use Rattle.std.specs.Prelude.{⊤, if◌then◌else◌, slice_get, slice_set, take, nat_lt, ◌==◌, ◌||◌, is_some, MatchBool}
use Rattle.std.proofs.lemmas.Bool.{and_parts}
use Rattle.std.proofs.lemmas.Bool.Decides.{eqb_tells}
use Rattle.std.proofs.Math.Bool.{and-false}
use Rattle.std.specs.declared.io.ErrorKind.{ErrorKind}
use Rattle.httpdate.specs.declared.date.HttpDate.{HttpDate}
use Rattle.tiny_http_io.specs.declared.device.Stop.{Stop}
use Rattle.tiny_http_io.specs.declared.device.Stop.TheVariants.{End, Fault as Faults}
use Rattle.tiny_http_open_request.specs.Pipeline.{Item, Asks, Refuses, Request}
use Rattle.tiny_http_response.specs.Sending.{is_closed_client}
use Rattle.tiny_http_response.specs.ResponseValue.{ResponseValue}
use Rattle.tiny_http_connection.specs.Segments.{Slot, Stage, Unanswered, Answered, ByServer, Raw, Upgraded, to_request, text_if}
use Rattle.tiny_http_connection.specs.Slots.{turn_has_come, new_slot, rest_of, last_slot, with_last, closing_slot, is_unanswered, last_holds_reader, last_was_abandoned, ends_when_finished, closes_now, refuses_response, refuses_upgrade, upgraded_slot, as_stream}
use Rattle.tiny_http_connection.specs.Steps.{StepValue, Ask, AsReader, Read, Respond, IntoWriter, Write, Flush, Upgrade, Finish, Drop, ReplyValue, Handed, Ended, Given, Fault, NotYet, Done, Refused, NoSuch, Memory, TimedValue, number_of, is_done, is_refused}
use Rattle.tiny_http_connection.specs.Outcomes.{WriterUse, Unused, Unreported, Reported, Outcome, Reached, unchanged, changes, asks_from, ask, read_reply, finished_as, written_to, stage_closed, fault_in, fault_reply, accepts_step, needs_turn, use_in_turn, ends_asking, ends_with_stream, asked_to_close, answers_slot, answers, effect, at_item, at_slot, at_number, outcome}
use Rattle.tiny_http_connection.specs.Conversation.{Failure, State, Fares, Well, FailsWithin, FailsAfter, MayFare, reply_in, failure_in, writes_nothing, HasOutcome, FindsNoMemory, answers_to, StepsTo, Run}
use Rattle.tiny_http_connection.proofs.ConnectionClosing.{by-closing}
use Rattle.tiny_http_connection_laws.specs.InShort.{maker}
use Rattle.tiny_http_connection_laws.specs.Accounts.{Condition, Waits, Writes, Finished, Account, untouched, becomes, first_date, account_after, account_now, account_from, condition_of, written_in}
use Rattle.tiny_http_connection_laws.proofs.InShortSlots.{written-made, closed-made}
use Rattle.tiny_http_connection_laws.proofs.InShortReads.{same-some, get-set, get-other}
use Rattle.tiny_http_connection_laws.proofs.RunFronts.{not-true}
use Rattle.tiny_http_connection_laws.proofs.StepsAdd.{accounts, by-asreader, by-respond, by-writer, by-upgrade, by-drop}

-- ---- what is known of the numbers

-- the body of a number in this stage was given up
abbrev pub is_given_up : Stage → Bool
is_given_up Unanswered = false
is_given_up (Answered response date found) = true
is_given_up ByServer = true
is_given_up (Raw written closed) = true
is_given_up (Upgraded protocol response date written closed) = closed

pub record Told (k : ℕ) (r : Request) (s : Slot) (a : Account) : Type 0 where
  pub condition : condition_of s.stage ≡ a.condition
  pub by : maker k s.stage ≡ a.by
  pub written : written_in s.stage ≡ a.written
  pub continued : s.continued ≡ (if r.framing.owes_continue then a.asked else None)
  pub owed : is_unanswered s.stage ≡ true → s.owed ≡ (r.framing.owes_continue && not (is_some a.asked))
  pub given_up : s.given_up ≡ is_given_up s.stage

pub record Untold (s : Slot) (a : Account) : Type 0 where
  pub stage : s.stage ≡ ByServer
  pub account : a ≡ untouched
  pub continued : s.continued ≡ None

abbrev pub IsTold : ℕ → Slot → Item → Account → Type 0
IsTold k s (Asks r) a = Told k r s a
IsTold k s (Refuses refusal manner no_body last) a = Untold s a

-- each number has this account, and nothing was done for those that aren't reached
pub record AllTold (slots : List Slot) (f : ℕ → Account) : Type 0 where
  pub here : (k : ℕ) (s : Slot) → slice_get slots k ≡ Some s → IsTold k s s.item (f k)
  pub none : (k : ℕ) → slice_get slots k ≡ None → f k ≡ untouched

accounts-as : (slots : List Slot) (f g : ℕ → Account) → ((k : ℕ) → f k ≡ g k) → AllTold slots f → AllTold slots g
accounts-as slots f g same h = record {
  here = λ k s e. subst (λ a. IsTold k s s.item a) (same k) (h.here k s e);
  none = λ k e. sym (same k) ∙ h.none k e;
}

-- ---- replies

-- two replies tell the same of what was done
pub record Alike (x y : ReplyValue) : Type 0 where
  pub done : is_done x ≡ is_done y
  pub refused : is_refused x ≡ is_refused y

alike-same : (x y : ReplyValue) → x ≡ y → Alike x y
alike-same x y e = record { done = ap is_done e; refused = ap is_refused e }

after-alike : (date : HttpDate) (step : StepValue) (x y : ReplyValue) (a : Account) → Alike x y → account_after date step x a ≡ account_after date step y a
after-alike date Ask x y a h = refl
after-alike date (AsReader k) x y a h = ap (λ b. if b then record a { asked = first_date a.asked date } else a) h.done
after-alike date (Read k n) x y a h = refl
after-alike date (Respond k response) x y a h = rw (h.done, h.refused) refl
after-alike date (IntoWriter k) x y a h = ap (λ b. becomes Writes b a) h.done
after-alike date (Write k bytes) x y a h = ap (λ b. if b then record a { written = a.written ++ bytes } else a) h.done
after-alike date (Flush k) x y a h = refl
after-alike date (Upgrade k protocol response) x y a h = rw (h.done, h.refused) refl
after-alike date (Finish k) x y a h = ap (λ b. becomes Finished b a) h.done
after-alike date (Drop k) x y a h = ap (λ b. becomes Finished b a) h.done

now-alike : (k : ℕ) (date : HttpDate) (step : StepValue) (x y : ReplyValue) (a : Account) → Alike x y → account_now k date step x a ≡ account_now k date step y a
now-alike k date step x y a h = ap (λ b. if number_of step == k then b else a) (after-alike date step x y a h)

if-same : {A : Type 0} (b : Bool) (x : A) → (if b then x else x) ≡ x
if-same true x = refl
if-same false x = refl

-- what wasn't done changes nothing
abbrev IsIdle : ReplyValue → Type 0
IsIdle x = Alike x NoSuch

after-none : (date : HttpDate) (step : StepValue) (a : Account) → account_after date step NoSuch a ≡ a
after-none date Ask a = refl
after-none date (AsReader k) a = refl
after-none date (Read k n) a = refl
after-none date (Respond k response) a = refl
after-none date (IntoWriter k) a = refl
after-none date (Write k bytes) a = refl
after-none date (Flush k) a = refl
after-none date (Upgrade k protocol response) a = refl
after-none date (Finish k) a = refl
after-none date (Drop k) a = refl

now-idle : (k : ℕ) (date : HttpDate) (step : StepValue) (x : ReplyValue) (a : Account) → IsIdle x → account_now k date step x a ≡ a
now-idle k date step x a h =
    now-alike k date step x NoSuch a h ∙ ap (λ b. if number_of step == k then b else a) (after-none date step a) ∙ if-same (number_of step == k) a

now-ask : (k : ℕ) (date : HttpDate) (x : ReplyValue) (a : Account) → account_now k date Ask x a ≡ a
now-ask k date x a = if-same (0 == k) a

fault-done : (kind : ErrorKind) → Alike (fault_reply kind) Done
fault-done kind = go (is_closed_client kind)
  where
    go : (b : Bool) → Alike (if b then Done else Fault kind) Done
    go true = record { done = refl; refused = refl }
    go false = record { done = refl; refused = refl }

-- where a fault of the writer may be reported, that is as the planned reply
abbrev pub MayTell : WriterUse → ReplyValue → Type 0
MayTell Unused planned = ⊤
MayTell Unreported planned = ⊤
MayTell (Reported own broken flushes report) planned = (kind : ErrorKind) → Alike (report kind) planned

tell-turn : (turn : Bool) (planned : ReplyValue) → MayTell (use_in_turn turn) planned
tell-turn true planned = tt
tell-turn false planned = tt

fared : (w : WriterUse) (planned : ReplyValue) (fares : Fares) → MayTell w planned → Alike (reply_in w planned fares) planned
fared Unused planned fares m = record { done = refl; refused = refl }
fared Unreported planned fares m = record { done = refl; refused = refl }
fared (Reported own broken flushes report) planned (FailsWithin f) m = m f.kind
fared (Reported own None flushes report) planned Well m = record { done = refl; refused = refl }
fared (Reported own (Some kind) flushes report) planned Well m = m kind
fared (Reported own None flushes report) planned (FailsAfter f) m = record { done = refl; refused = refl }
fared (Reported own (Some kind) flushes report) planned (FailsAfter f) m = m kind

part-tells : (w : WriterUse) (old : State) (planned reply : ReplyValue) (slots : List Slot) (failure : Option Failure) (silent : Bool)
    → MatchBool silent ((reply ≡ planned) × (failure ≡ old.failure)) ((fares : Fares) × MayFare w old slots fares × (reply ≡ reply_in w planned fares) × (failure ≡ failure_in fares))
    → MayTell w planned → Alike reply planned
part-tells w old planned reply slots failure true p m = alike-same reply planned p.0
part-tells w old planned reply slots failure false p m = let f = fared w planned p.0 m in record { done = ap is_done p.2 ∙ f.done; refused = ap is_refused p.2 ∙ f.refused }

pub planned-alike : (o : Outcome) (old : State) (reply : ReplyValue) (new : State) → MayTell o.writer o.reply → HasOutcome o old reply new → Alike reply o.reply
planned-alike o old reply new m has = part-tells o.writer old o.reply reply o.slots new.failure (writes_nothing o.writer old) has.2 m

-- ---- what a step does to the numbers

-- the numbers after a step are as their accounts say, by the reply that is planned
pub record Tells (f : ℕ → Account) (date : HttpDate) (step : StepValue) (o : Outcome) : Type 0 where
  pub accounts : AllTold o.slots (λ k. account_now k date step o.reply (f k))
  pub may : MayTell o.writer o.reply

tells-none : (f : ℕ → Account) (date : HttpDate) (step : StepValue) (old : Reached) (x : ReplyValue) → IsIdle x → AllTold old.slots f → Tells f date step (unchanged old x)
tells-none f date step old x idle h = record {
  accounts = accounts-as old.slots f (λ k. account_now k date step x (f k)) (λ k. sym (now-idle k date step x (f k) idle)) h;
  may = tt;
}

tells-if : (f : ℕ → Account) (date : HttpDate) (step : StepValue) (b : Bool) (x y : Outcome) → (b ≡ true → Tells f date step x) → (b ≡ false → Tells f date step y) → Tells f date step (if b then x else y)
tells-if f date step true x y h g = h refl
tells-if f date step false x y h g = g refl

tells-ended : (f : ℕ → Account) (date : HttpDate) (step : StepValue) (ends : Bool) (o : Outcome) → Tells f date step o → Tells f date step (ends_asking ends o)
tells-ended f date step ends o h = record { accounts = h.accounts; may = h.may }

if-true : {A : Type 0} (b : Bool) (x y : A) → b ≡ true → (if b then x else y) ≡ x
if-true true x y e = refl
if-true false x y e = cc

if-false : {A : Type 0} (b : Bool) (x y : A) → b ≡ false → (if b then x else y) ≡ y
if-false true x y e = cc
if-false false x y e = refl

set-past : (slots : List Slot) (j k : ℕ) (t : Slot) → slice_get (slice_set slots j t) k ≡ None → slice_get slots k ≡ None
set-past [] j k t e = e
set-past (x ∷ xs) zero zero t e = cc
set-past (x ∷ xs) zero (suc k) t e = e
set-past (x ∷ xs) (suc j) zero t e = cc
set-past (x ∷ xs) (suc j) (suc k) t e = set-past xs j k t e

-- the number of the step is changed so, and the others stay
accounts-set : (f : ℕ → Account) (date : HttpDate) (step : StepValue) (x : ReplyValue) (slots : List Slot) (s t : Slot) → slice_get slots (number_of step) ≡ Some s → IsTold (number_of step) t t.item (account_after date step x (f (number_of step))) → AllTold slots f
    → AllTold (slice_set slots (number_of step) t) (λ k. account_now k date step x (f k))
accounts-set f date step x slots s t at is h = record {
  here = λ k u e.
      ⊎_elim
      (λ yes.
      let there : slice_get (slice_set slots (number_of step) t) (number_of step) ≡ Some u = ap (λ n. slice_get (slice_set slots (number_of step) t) n) yes.1 ∙ e in
      let same : t ≡ u = same-some t u (sym (get-set slots (number_of step) s t at) ∙ there) in
      let A : ℕ → Type 0 = λ n. IsTold n t t.item (account_after date step x (f n)) in
      let now : account_now k date step x (f k) ≡ account_after date step x (f k) = if-true (number_of step == k) _ (f k) yes.0 in
      let made : IsTold k t t.item (account_now k date step x (f k)) = subst (λ a. IsTold k t t.item a) (sym now) (subst A yes.1 is) in
      subst (λ (y : Slot). IsTold k y y.item (account_now k date step x (f k))) same made)
      (λ no.
      let now : account_now k date step x (f k) ≡ f k = if-false (number_of step == k) _ (f k) no.0 in
      subst (λ a. IsTold k u u.item a) (sym now) (h.here k u (sym (get-other slots (number_of step) k t no.1) ∙ e)))
      (eqb_tells (number_of step) k);
  none = λ k e.
      let was = set-past slots (number_of step) k t e in
      ⊎_elim
      (λ yes. let no : None ≡ Some s = sym was ∙ ap (λ n. slice_get slots n) (sym yes.1) ∙ at in cc)
      (λ no. if-false (number_of step == k) _ (f k) no.0 ∙ h.none k was)
      (eqb_tells (number_of step) k);
}

-- nothing is changed, but the account of the step's number
accounts-kept : (f : ℕ → Account) (date : HttpDate) (step : StepValue) (x : ReplyValue) (slots : List Slot) (s : Slot) → slice_get slots (number_of step) ≡ Some s → IsTold (number_of step) s s.item (account_after date step x (f (number_of step))) → AllTold slots f
    → AllTold slots (λ k. account_now k date step x (f k))
accounts-kept f date step x slots s at is h = record {
  here = λ k u e.
      ⊎_elim
      (λ yes.
      let same : s ≡ u = same-some s u (sym at ∙ ap (λ n. slice_get slots n) yes.1 ∙ e) in
      let A : ℕ → Type 0 = λ n. IsTold n s s.item (account_after date step x (f n)) in
      let now : account_now k date step x (f k) ≡ account_after date step x (f k) = if-true (number_of step == k) _ (f k) yes.0 in
      let made : IsTold k s s.item (account_now k date step x (f k)) = subst (λ a. IsTold k s s.item a) (sym now) (subst A yes.1 is) in
      subst (λ (y : Slot). IsTold k y y.item (account_now k date step x (f k))) same made)
      (λ no.
      let now : account_now k date step x (f k) ≡ f k = if-false (number_of step == k) _ (f k) no.0 in
      subst (λ a. IsTold k u u.item a) (sym now) (h.here k u e))
      (eqb_tells (number_of step) k);
  none = λ k e.
      ⊎_elim
      (λ yes. let no : None ≡ Some s = sym e ∙ ap (λ n. slice_get slots n) (sym yes.1) ∙ at in cc)
      (λ no. if-false (number_of step == k) _ (f k) no.0 ∙ h.none k e)
      (eqb_tells (number_of step) k);
}

-- the account of a number of a request
pub accounts-at : (slots : List Slot) (f : ℕ → Account) (k : ℕ) (s : Slot) (r : Request) → AllTold slots f → slice_get slots k ≡ Some s → s.item ≡ Asks r → Told k r s (f k)
accounts-at slots f k s r h at is = let P : Item → Type 0 = λ i. IsTold k s i (f k) in subst P is (h.here k s at)

-- the same item
as-item : (k : ℕ) (t : Slot) (item : Item) (r : Request) (a : Account) → t.item ≡ item → item ≡ Asks r → Told k r t a → IsTold k t t.item a
as-item k t item r a same is h = let P : Item → Type 0 = λ i. IsTold k t i a in subst P (sym (same ∙ is)) h

-- ---- the last number is told that the connection ends

closing-keeps : (k : ℕ) (s : Slot) (item : Item) (a : Account) → IsTold k s item a → IsTold k (closing_slot s) item a
closing-keeps k s (Asks r) a h = by-closing (λ t. Told k r t a) s (λ u. record { condition = h.condition; by = h.by; written = h.written; continued = h.continued; owed = h.owed; given_up = h.given_up }) h
closing-keeps k s (Refuses refusal manner no_body last) a h = by-closing (λ t. Untold t a) s (λ u. record { stage = h.stage; account = h.account; continued = h.continued }) h

closing-accounts : (k : ℕ) (s : Slot) (a : Account) → IsTold k s s.item a → IsTold k (closing_slot s) (closing_slot s).item a
closing-accounts k s a h =
    let same : (closing_slot s).item ≡ s.item = by-closing (λ t. t.item ≡ s.item) s (λ u. refl) refl in
    let P : Item → Type 0 = λ i. IsTold k (closing_slot s) i a in
    subst P (sym same) (closing-keeps k s s.item a h)

closing-get : (slots : List Slot) (k : ℕ) (u : Slot) → slice_get (with_last closing_slot slots) k ≡ Some u → (s : Slot) × (slice_get slots k ≡ Some s) × ((s ≡ u) ⊎ (closing_slot s ≡ u))
closing-get [] k u e = cc
closing-get (s ∷ []) zero u e = (s, refl, inr (same-some (closing_slot s) u e))
closing-get (s ∷ []) (suc k) u e = cc
closing-get (s ∷ t ∷ slots) zero u e = (s, refl, inl (same-some s u e))
closing-get (s ∷ t ∷ slots) (suc k) u e = closing-get (t ∷ slots) k u e

closing-none : (slots : List Slot) (k : ℕ) → slice_get (with_last closing_slot slots) k ≡ None → slice_get slots k ≡ None
closing-none [] k e = e
closing-none (s ∷ []) zero e = cc
closing-none (s ∷ []) (suc k) e = e
closing-none (s ∷ t ∷ slots) zero e = cc
closing-none (s ∷ t ∷ slots) (suc k) e = closing-none (t ∷ slots) k e

pub last-accounts : (slots : List Slot) (f : ℕ → Account) → AllTold slots f → AllTold (with_last closing_slot slots) f
last-accounts slots f h = record {
  here = λ k u e.
      let g = closing-get slots k u e in
      let I : Slot → Type 0 = λ y. IsTold k y y.item (f k) in
      ⊎_elim (λ same. subst I same (h.here k g.0 g.1)) (λ accounts. subst I accounts (closing-accounts k g.0 (f k) (h.here k g.0 g.1))) g.2;
  none = λ k e. h.none k (closing-none slots k e);
}

-- ---- one number

never : {G : Type 0} → false ≡ true → G
never e = cc

unanswered-of : (stage : Stage) → stage ≡ Unanswered → is_unanswered stage ≡ true
unanswered-of stage u = ap is_unanswered u

-- a number that waits is finished, by an answer or by the server
pub accounts-finished : (k : ℕ) (r : Request) (s t : Slot) (a : Account) (b : Option TimedValue) → s.stage ≡ Unanswered → maker k t.stage ≡ b → t.continued ≡ s.continued → t.given_up ≡ true → condition_of t.stage ≡ Finished → written_in t.stage ≡ [] → is_unanswered t.stage ≡ false → is_given_up t.stage ≡ true → Told k r s a
    → Told k r t (record a { condition = Finished; by = b })
accounts-finished k r s t a b u made continued given_up finished empty answered given h = record {
  condition = finished;
  by = made;
  written = empty ∙ ap written_in (sym u) ∙ h.written;
  continued = continued ∙ h.continued;
  owed = λ waits. never (sym answered ∙ waits);
  given_up = given_up ∙ sym given;
}

-- it gets a raw writer or a stream
accounts-writes : (k : ℕ) (r q : Request) (s t : Slot) (a : Account) (b : Option TimedValue) → s.stage ≡ Unanswered → maker k t.stage ≡ b → t.continued ≡ s.continued → t.given_up ≡ is_given_up t.stage → condition_of t.stage ≡ Writes → written_in t.stage ≡ [] → is_unanswered t.stage ≡ false → q.framing.owes_continue ≡ r.framing.owes_continue → Told k r s a
    → Told k q t (record a { condition = Writes; by = b })
accounts-writes k r q s t a b u made continued given_up writes empty answered owes h = record {
  condition = writes;
  by = made;
  written = empty ∙ ap written_in (sym u) ∙ h.written;
  continued = continued ∙ h.continued ∙ ap (λ b. if b then a.asked else None) (sym owes);
  owed = λ waits. never (sym answered ∙ waits);
  given_up = given_up;
}

-- a number that waits was answered by none
unmade : (k : ℕ) (r : Request) (s : Slot) (a : Account) → s.stage ≡ Unanswered → Told k r s a → None ≡ a.by
unmade k r s a u h = sym (ap (maker k) u) ∙ h.by

some-first : (o : Option HttpDate) (date : HttpDate) → is_some (first_date o date) ≡ true
some-first None date = refl
some-first (Some first) date = refl

-- the 100 is sent
accounts-continued : (k : ℕ) (r : Request) (s : Slot) (date : HttpDate) (a : Account) → s.stage ≡ Unanswered → s.owed ≡ true → Told k r s a → Told k r (record s { owed = false; continued = Some date }) (record a { asked = first_date a.asked date })
accounts-continued k r s date a u owed h =
    let parts = and_parts r.framing.owes_continue (not (is_some a.asked)) (sym (h.owed (unanswered-of s.stage u)) ∙ owed) in
    record {
      condition = h.condition;
      by = h.by;
      written = h.written;
      continued = first a.asked parts.1 ∙ sym (if-true r.framing.owes_continue (first_date a.asked date) None parts.0);
      owed = λ waits. sym (ap (λ b. r.framing.owes_continue && not b) (some-first a.asked date) ∙ and-false r.framing.owes_continue);
      given_up = h.given_up;
    }
  where
    first : (o : Option HttpDate) → not (is_some o) ≡ true → Some date ≡ first_date o date
    first None e = refl
    first (Some d) e = never e

-- none is owed
accounts-unowed : (k : ℕ) (r : Request) (s : Slot) (date : HttpDate) (a : Account) → s.stage ≡ Unanswered → s.owed ≡ false → Told k r s a → Told k r s (record a { asked = first_date a.asked date })
accounts-unowed k r s date a u owed h = record {
  condition = h.condition;
  by = h.by;
  written = h.written;
  continued = h.continued ∙ kept r.framing.owes_continue a.asked no_more;
  owed = λ waits. owed ∙ sym (ap (λ b. r.framing.owes_continue && not b) (some-first a.asked date) ∙ and-false r.framing.owes_continue);
  given_up = h.given_up;
}
  where
    no_more : (r.framing.owes_continue && not (is_some a.asked)) ≡ false
    no_more = sym (h.owed (unanswered-of s.stage u)) ∙ owed

    kept : (b : Bool) (o : Option HttpDate) → (b && not (is_some o)) ≡ false → (if b then o else None) ≡ (if b then first_date o date else None)
    kept true None e = never (sym e)
    kept true (Some first) e = refl
    kept false o e = refl

-- a body is read
accounts-read : (k : ℕ) (r : Request) (s : Slot) (given : ℕ) (reported : Bool) (a : Account) → Told k r s a → Told k r (record s { given = given; end_reported = reported }) a
accounts-read k r s given reported a h = record { condition = h.condition; by = h.by; written = h.written; continued = h.continued; owed = h.owed; given_up = h.given_up }

-- bytes are written
record IsWritten (stage new : Stage) (bytes : List ℕ) : Type 0 where
  condition : condition_of new ≡ condition_of stage
  written : written_in new ≡ written_in stage ++ bytes
  answered : is_unanswered new ≡ false
  given_up : is_given_up new ≡ is_given_up stage

written-stage : (stage : Stage) (owed : Bool) (k : ℕ) (bytes : List ℕ) → accepts_step stage owed (Write k bytes) ≡ true → IsWritten stage (written_to bytes stage) bytes
written-stage Unanswered owed k bytes e = never e
written-stage (Answered response date found) owed k bytes e = never e
written-stage ByServer owed k bytes e = never e
written-stage (Raw written ends) owed k bytes e = record { condition = refl; written = refl; answered = refl; given_up = refl }
written-stage (Upgraded protocol response date written ends) owed k bytes e = record { condition = refl; written = refl; answered = refl; given_up = refl }

accounts-written : (r : Request) (s : Slot) (k : ℕ) (bytes : List ℕ) (a : Account) → accepts_step s.stage s.owed (Write k bytes) ≡ true → Told k r s a → Told k r (record s { stage = written_to bytes s.stage }) (record a { written = a.written ++ bytes })
accounts-written r s k bytes a takes h =
    let w = written-stage s.stage s.owed k bytes takes in
    record {
      condition = w.condition ∙ h.condition;
      by = written-made k bytes s.stage ∙ h.by;
      written = w.written ∙ ap (λ x. x ++ bytes) h.written;
      continued = h.continued;
      owed = λ waits. never (sym w.answered ∙ waits);
      given_up = h.given_up ∙ sym w.given_up;
    }

-- a raw writer or a stream ends
record IsClosed (stage new : Stage) : Type 0 where
  condition : condition_of new ≡ Finished
  written : written_in new ≡ written_in stage
  answered : is_unanswered new ≡ false
  given_up : is_given_up new ≡ true

closed-stage : (stage : Stage) (owed : Bool) (k : ℕ) → accepts_step stage owed (Finish k) ≡ true → IsClosed stage (stage_closed stage)
closed-stage Unanswered owed k e = never e
closed-stage (Answered response date found) owed k e = never e
closed-stage ByServer owed k e = never e
closed-stage (Raw written ends) owed k e = record { condition = refl; written = refl; answered = refl; given_up = refl }
closed-stage (Upgraded protocol response date written ends) owed k e = record { condition = refl; written = refl; answered = refl; given_up = refl }

accounts-closed : (r : Request) (s : Slot) (k : ℕ) (a : Account) → accepts_step s.stage s.owed (Finish k) ≡ true → Told k r s a → Told k r (finished_as s.closes s (stage_closed s.stage)) (record a { condition = Finished })
accounts-closed r s k a takes h =
    let c = closed-stage s.stage s.owed k takes in
    record {
      condition = c.condition;
      by = closed-made k s.stage ∙ h.by;
      written = c.written ∙ h.written;
      continued = h.continued;
      owed = λ waits. never (sym c.answered ∙ waits);
      given_up = sym c.given_up;
    }

-- ---- the steps of a number

-- the number of a step is changed
tells-set : (f : ℕ → Account) (date : HttpDate) (step : StepValue) (old : Reached) (s t : Slot) (x : ReplyValue) (w : WriterUse) → slice_get old.slots (number_of step) ≡ Some s → MayTell w x → IsTold (number_of step) t t.item (account_after date step x (f (number_of step))) → AllTold old.slots f
    → Tells f date step (changes old (number_of step) t x w)
tells-set f date step old s t x w at may is h = record { accounts = accounts-set f date step x old.slots s t at is h; may = may }

answered-tells : (f : ℕ → Account) (found : Bool) (date : HttpDate) (old : Reached) (r : Request) (s : Slot) (k : ℕ) (response : ResponseValue) → AllTold old.slots f → slice_get old.slots k ≡ Some s → s.item ≡ Asks r → s.stage ≡ Unanswered
    → Tells f date (Respond k response) (answers found date old r k response)
answered-tells f found date old r s k response h at is u =
    let P : Option Slot → Type 0 = λ o. Tells f date (Respond k response) (answers_slot found date old r k response o) in
    let closes = closes_now r s.closes s.owed s.given s.end_reported in
    let text = text_if found response (to_request closes r date) in
    let t = finished_as closes s (Answered response date found) in
    let w = Reported text.bytes (fault_in text.ending) true fault_reply in
    subst P (sym at)
    (tells-ended f date (Respond k response) (ends_when_finished r s.owed s.given s.end_reported) (changes old k t Done w)
    (tells-set f date (Respond k response) old s t Done w at fault-done
    (as-item k t s.item r (record (f k) { condition = Finished; by = Some (date, Respond k response) }) refl is (accounts-finished k r s t (f k) (Some (date, Respond k response)) u refl refl refl refl refl refl refl (accounts-at old.slots f k s r h at is))) h))

asked-tells : (f : ℕ → Account) (found : Bool) (date : HttpDate) (old : Reached) (r : Request) (s : Slot) (k : ℕ) (response : ResponseValue) (closes : Bool) → AllTold old.slots f → slice_get old.slots k ≡ Some s → s.item ≡ Asks r → s.stage ≡ Unanswered
    → Tells f date (Respond k response) (answers found date (asked_to_close closes old) r k response)
asked-tells f found date old r s k response false h at is u = answered-tells f found date old r s k response h at is u
asked-tells f found date old r s k response true h at is u =
    let t = accounts s old.slots k at in
    answered-tells f found date (asked_to_close true old) r t.slot k response (last-accounts old.slots f h) t.get (t.item ∙ is) (t.stage ∙ u)

refused-tells : (f : ℕ → Account) (date : HttpDate) (step : StepValue) (old : Reached) (r : Request) (s : Slot) (turn : Bool) (x : ReplyValue) → AllTold old.slots f → slice_get old.slots (number_of step) ≡ Some s → s.item ≡ Asks r → s.stage ≡ Unanswered
    → account_after date step x (f (number_of step)) ≡ record (f (number_of step)) { condition = Finished }
    → Tells f date step (ends_asking (ends_when_finished r s.owed s.given s.end_reported) (changes old (number_of step) (finished_as (closes_now r s.closes s.owed s.given s.end_reported) s ByServer) x (use_in_turn turn)))
refused-tells f date step old r s turn x h at is u after =
    let a = f (number_of step) in
    let t = finished_as (closes_now r s.closes s.owed s.given s.end_reported) s ByServer in
    tells-ended f date step (ends_when_finished r s.owed s.given s.end_reported) (changes old (number_of step) t x (use_in_turn turn))
    (tells-set f date step old s t x (use_in_turn turn) at (tell-turn turn x)
    (let i = accounts-at old.slots f (number_of step) s r h at is in
    as-item (number_of step) t s.item r (account_after date step x a) refl is (subst (λ b. Told (number_of step) r t b) (sym after) (accounts-finished (number_of step) r s t a a.by u (unmade (number_of step) r s a u i) refl refl refl refl refl refl i))) h)

upgraded-accounts : (k : ℕ) (r : Request) (s : Slot) (stage : Stage) (a : Account) (b : Option TimedValue) → s.item ≡ Asks r → s.stage ≡ Unanswered → maker k stage ≡ b → condition_of stage ≡ Writes → written_in stage ≡ [] → is_unanswered stage ≡ false → is_given_up stage ≡ false → Told k r s a
    → IsTold k (upgraded_slot r s stage) (upgraded_slot r s stage).item (record a { condition = Writes; by = b })
upgraded-accounts k r s stage a by is u made writes empty answered given h = go r.framing.by_standard
  where
    kept : s.given_up ≡ is_given_up stage
    kept = h.given_up ∙ ap is_given_up u ∙ sym given

    stream : Slot
    stream = record s { item = Asks (as_stream r); given = 0; end_reported = false; stage = stage; owed = false }

    plain : Slot
    plain = record s { stage = stage; owed = false }

    go : (b : Bool) → IsTold k (if b then stream else plain) (if b then stream else plain).item (record a { condition = Writes; by = by })
    go true = accounts-writes k r (as_stream r) s stream a by u made refl kept writes empty answered refl h
    go false = as-item k plain s.item r (record a { condition = Writes; by = by }) refl is (accounts-writes k r r s plain a by u made refl kept writes empty answered refl h)

effect-tells : (f : ℕ → Account) (found : Bool) (date : HttpDate) (old : Reached) (r : Request) (s : Slot) (turn : Bool) (step : StepValue) → AllTold old.slots f → slice_get old.slots (number_of step) ≡ Some s → s.item ≡ Asks r → accepts_step s.stage s.owed step ≡ true
    → Tells f date step (effect found date old r s turn step)
effect-tells f found date old r s turn Ask h at is takes = tells-none f date Ask old NoSuch (record { done = refl; refused = refl }) h
effect-tells f found date old r s turn (AsReader k) h at is takes =
    let i = accounts-at old.slots f k s r h at is in
    let u = by-asreader s.stage s.owed k takes in
    let t : Slot = record s { owed = false; continued = Some date } in
    let a : Account = record (f k) { asked = first_date (f k).asked date } in
    tells-if f date (AsReader k) s.owed (changes old k t Done Unreported) (unchanged old Done)
    (λ owed. tells-set f date (AsReader k) old s t Done Unreported at tt (as-item k t s.item r a refl is (accounts-continued k r s date (f k) u owed i)) h)
    (λ owed. record { accounts = accounts-kept f date (AsReader k) Done old.slots s at (as-item k s s.item r a refl is (accounts-unowed k r s date (f k) u owed i)) h; may = tt })
effect-tells f found date old r s turn (Read k n) h at is takes =
    let i = accounts-at old.slots f k s r h at is in
    let left = (rest_of r s.given).bytes in
    let given = s.given + length (take n left) in
    let reported = s.end_reported || nat_lt (length left) n in
    let t : Slot = record s { given = given; end_reported = reported } in
    let reply = read_reply n left r.body.stop in
    tells-if f date (Read k n) (n == 0) (unchanged old (Given [])) (changes old k t reply Unused)
    (λ e. tells-none f date (Read k n) old (Given []) (record { done = refl; refused = refl }) h)
    (λ e. tells-set f date (Read k n) old s t reply Unused at tt (as-item k t s.item r (f k) refl is (accounts-read k r s given reported (f k) i)) h)
effect-tells f found date old r s turn (Respond k response) h at is takes =
    let u = by-respond s.stage s.owed k response takes in
    tells-if f date (Respond k response) (refuses_response r response) (ends_asking (ends_when_finished r s.owed s.given s.end_reported) (changes old k (finished_as (closes_now r s.closes s.owed s.given s.end_reported) s ByServer) Refused (use_in_turn turn))) (answers found date (asked_to_close response.answer.closes old) r k response)
    (λ e. refused-tells f date (Respond k response) old r s turn Refused h at is u refl)
    (λ e. asked-tells f found date old r s k response response.answer.closes h at is u)
effect-tells f found date old r s turn (IntoWriter k) h at is takes =
    let t : Slot = record s { stage = Raw [] false; given_up = true; owed = false } in
    tells-ended f date (IntoWriter k) (ends_with_stream r s.owed s.given s.end_reported) (changes old k t Done Unused)
    (tells-set f date (IntoWriter k) old s t Done Unused at tt
    (let i = accounts-at old.slots f k s r h at is in
    let u = by-writer s.stage s.owed k takes in
    as-item k t s.item r (record (f k) { condition = Writes }) refl is (accounts-writes k r r s t (f k) (f k).by u (unmade k r s (f k) u i) refl refl refl refl refl refl i)) h)
effect-tells f found date old r s turn (Write k bytes) h at is takes =
    let t : Slot = record s { stage = written_to bytes s.stage } in
    tells-set f date (Write k bytes) old s t Done (Reported bytes None false Fault) at (λ kind. record { done = refl; refused = refl })
    (as-item k t s.item r (record (f k) { written = (f k).written ++ bytes }) refl is (accounts-written r s k bytes (f k) takes (accounts-at old.slots f k s r h at is))) h
effect-tells f found date old r s turn (Flush k) h at is takes =
    tells-set f date (Flush k) old s s Done (Reported [] None true Fault) at (λ kind. record { done = refl; refused = refl }) (h.here k s at) h
effect-tells f found date old r s turn (Upgrade k protocol response) h at is takes =
    let u = by-upgrade s.stage s.owed k protocol response takes in
    let stage = Upgraded protocol response date [] false in
    let t = upgraded_slot r s stage in
    let goes = ends_with_stream r s.owed s.given s.end_reported in
    tells-if f date (Upgrade k protocol response) (refuses_upgrade r s protocol response) (ends_asking (ends_when_finished r s.owed s.given s.end_reported) (changes old k (finished_as (closes_now r s.closes s.owed s.given s.end_reported) s ByServer) Refused (use_in_turn turn))) (ends_asking goes (changes old k t Done Unreported))
    (λ e. refused-tells f date (Upgrade k protocol response) old r s turn Refused h at is u refl)
    (λ e. tells-ended f date (Upgrade k protocol response) goes (changes old k t Done Unreported)
    (tells-set f date (Upgrade k protocol response) old s t Done Unreported at tt (upgraded-accounts k r s stage (f k) (Some (date, Upgrade k protocol response)) is u refl refl refl refl refl (accounts-at old.slots f k s r h at is)) h))
effect-tells f found date old r s turn (Finish k) h at is takes =
    let t = finished_as s.closes s (stage_closed s.stage) in
    tells-set f date (Finish k) old s t Done (use_in_turn turn) at (tell-turn turn Done)
    (as-item k t s.item r (record (f k) { condition = Finished }) refl is (accounts-closed r s k (f k) takes (accounts-at old.slots f k s r h at is))) h
effect-tells f found date old r s turn (Drop k) h at is takes =
    refused-tells f date (Drop k) old r s turn Done h at is (by-drop s.stage s.owed k takes) refl

number-tells : (f : ℕ → Account) (found : Bool) (date : HttpDate) (old : Reached) (step : StepValue) → AllTold old.slots f → Tells f date step (at_number found date old (number_of step) step)
number-tells f found date old step h = go (slice_get old.slots (number_of step)) refl
  where
    still : (x : ReplyValue) → IsIdle x → Tells f date step (unchanged old x)
    still x idle = tells-none f date step old x idle h

    item : (s : Slot) (i : Item) → slice_get old.slots (number_of step) ≡ Some s → s.item ≡ i → Tells f date step (at_item found date old (number_of step) step s i)
    item s (Refuses refusal manner no_body last) at is = still NoSuch (record { done = refl; refused = refl })
    item s (Asks r) at is =
        let turn = turn_has_come (number_of step) old.slots in
        tells-if f date step (not (accepts_step s.stage s.owed step)) (unchanged old NoSuch)
        (if (needs_turn r s step && not turn) then unchanged old NotYet else effect found date old r s turn step)
        (λ no. still NoSuch (record { done = refl; refused = refl }))
        (λ takes. tells-if f date step (needs_turn r s step && not turn) (unchanged old NotYet) (effect found date old r s turn step)
        (λ waits. still NotYet (record { done = refl; refused = refl }))
        (λ goes. effect-tells f found date old r s turn step h at is (not-true takes)))

    go : (o : Option Slot) → slice_get old.slots (number_of step) ≡ o → Tells f date step (at_slot found date old (number_of step) step o)
    go None e = still NoSuch (record { done = refl; refused = refl })
    go (Some s) e = item s s.item e refl

-- ---- an Ask

one-more-at : (slots : List Slot) (t : Slot) (k : ℕ) (s : Slot) → slice_get (slots ++ t ∷ []) k ≡ Some s → (slice_get slots k ≡ Some s) ⊎ ((slice_get slots k ≡ None) × (t ≡ s))
one-more-at [] t zero s e = inr (refl, same-some t s e)
one-more-at [] t (suc k) s e = cc
one-more-at (x ∷ xs) t zero s e = inl e
one-more-at (x ∷ xs) t (suc k) s e = one-more-at xs t k s e

none-more : (slots : List Slot) (t : Slot) (k : ℕ) → slice_get (slots ++ t ∷ []) k ≡ None → slice_get slots k ≡ None
none-more [] t zero e = refl
none-more [] t (suc k) e = refl
none-more (x ∷ xs) t zero e = cc
none-more (x ∷ xs) t (suc k) e = none-more xs t k e

new-accounts : (k : ℕ) (date : HttpDate) (item : Item) → IsTold k (new_slot date item) (new_slot date item).item untouched
new-accounts k date (Asks r) = record {
  condition = refl;
  by = refl;
  written = refl;
  continued = sym (if-same r.framing.owes_continue None);
  owed = λ waits. sym (owes r.framing.owes_continue);
  given_up = refl;
}
  where
    owes : (b : Bool) → (b && true) ≡ b
    owes true = refl
    owes false = refl
new-accounts k date (Refuses refusal manner no_body last) = record { stage = refl; account = refl; continued = refl }

accounts-more : (f : ℕ → Account) (date : HttpDate) (slots : List Slot) (item : Item) → AllTold slots f → AllTold (slots ++ new_slot date item ∷ []) f
accounts-more f date slots item h = record {
  here = λ k s e.
      ⊎_elim
      (λ was. h.here k s was)
      (λ new.
      let untold : IsTold k (new_slot date item) (new_slot date item).item (f k) = subst (λ a. IsTold k (new_slot date item) (new_slot date item).item a) (sym (h.none k new.0)) (new-accounts k date item) in
      subst (λ (y : Slot). IsTold k y y.item (f k)) new.1 untold)
      (one-more-at slots (new_slot date item) k s e);
  none = λ k e. h.none k (none-more slots (new_slot date item) k e);
}

accounts-all : (f : ℕ → Account) (date : HttpDate) (slots : List Slot) (items : List Item) → AllTold slots f → AllTold (slots ++ map (new_slot date) items) f
accounts-all f date slots [] h = subst (λ (x : List Slot). AllTold x f) (sym (append-nil slots)) h
accounts-all f date slots (item ∷ items) h =
    subst (λ (x : List Slot). AllTold x f) (append_assoc slots (new_slot date item ∷ []) (map (new_slot date) items)) (accounts-all f date (slots ++ new_slot date item ∷ []) items (accounts-more f date slots item h))

-- texts of the server's own are never reported
abbrev pub IsOwn : WriterUse → Type 0
IsOwn Unused = ⊤
IsOwn Unreported = ⊤
IsOwn (Reported own broken flushes report) = ⊥

own-if : (b : Bool) (w : WriterUse) → IsOwn w → IsOwn (if b then Unreported else w)
own-if true w o = tt
own-if false w o = o

own-turn : (turn : Bool) → IsOwn (use_in_turn turn)
own-turn true = tt
own-turn false = tt

pub own-answers : (slots : List Slot) (refused : List Item) → IsOwn (answers_to slots refused)
own-answers slots [] = tt
own-answers slots (item ∷ refused) = own-turn (turn_has_come (length slots) slots)

own-tells : (w : WriterUse) (planned : ReplyValue) → IsOwn w → MayTell w planned
own-tells Unused planned o = tt
own-tells Unreported planned o = tt
own-tells (Reported own broken flushes report) planned o = elim o [ ]

-- an Ask, whatever it answers
asked-accounts : (f : ℕ → Account) (date : HttpDate) (x : ReplyValue) (slots : List Slot) → AllTold slots f → AllTold slots (λ k. account_now k date Ask x (f k))
asked-accounts f date x slots h = accounts-as slots f (λ k. account_now k date Ask x (f k)) (λ k. sym (now-ask k date x (f k))) h

asks-tell : (f : ℕ → Account) (date : HttpDate) (w : WriterUse) (slots : List Slot) (items : List Item) → IsOwn w → AllTold slots f → Tells f date Ask (asks_from date w slots items)
asks-tell f date w slots [] o h = record { accounts = asked-accounts f date Ended slots h; may = own-tells w Ended o }
asks-tell f date w slots (Asks r ∷ items) o h = record { accounts = asked-accounts f date (Handed (length slots) r.message r.framing) (slots ++ new_slot date (Asks r) ∷ []) (accounts-more f date slots (Asks r) h); may = own-tells w (Handed (length slots) r.message r.framing) o }
asks-tell f date w slots (Refuses refusal manner no_body last ∷ items) o h =
    let item = Refuses refusal manner no_body last in
    let turn = turn_has_come (length slots) slots in
    asks-tell f date (if turn then Unreported else w) (slots ++ new_slot date item ∷ []) items (own-if turn w o) (accounts-more f date slots item h)

ask-tells : (f : ℕ → Account) (date : HttpDate) (old : Reached) → AllTold old.slots f → Tells f date Ask (ask date old)
ask-tells f date old h =
    let left : Outcome = record { reply = Ended; slots = old.slots; rest = old.rest; asking_ended = true; writer = Unused } in
    let goes = asks_from date Unused old.slots old.rest in
    tells-if f date Ask old.asking_ended (unchanged old Ended) (if last_holds_reader (last_slot old.slots) then unchanged old NotYet else if last_was_abandoned (last_slot old.slots) then left else goes)
    (λ e. tells-none f date Ask old Ended (record { done = refl; refused = refl }) h)
    (λ e. tells-if f date Ask (last_holds_reader (last_slot old.slots)) (unchanged old NotYet) (if last_was_abandoned (last_slot old.slots) then left else goes)
    (λ e. tells-none f date Ask old NotYet (record { done = refl; refused = refl }) h)
    (λ e. tells-if f date Ask (last_was_abandoned (last_slot old.slots)) left goes
    (λ e. record { accounts = asked-accounts f date Ended old.slots h; may = tt })
    (λ e. asks-tell f date Unused old.slots old.rest tt h)))

pub outcome-tells : (f : ℕ → Account) (found : Bool) (date : HttpDate) (old : Reached) (step : StepValue) → AllTold old.slots f → Tells f date step (outcome found date old step)
outcome-tells f found date old Ask h = ask-tells f date old h
outcome-tells f found date old (AsReader k) h = number-tells f found date old (AsReader k) h
outcome-tells f found date old (Read k n) h = number-tells f found date old (Read k n) h
outcome-tells f found date old (Respond k response) h = number-tells f found date old (Respond k response) h
outcome-tells f found date old (IntoWriter k) h = number-tells f found date old (IntoWriter k) h
outcome-tells f found date old (Write k bytes) h = number-tells f found date old (Write k bytes) h
outcome-tells f found date old (Flush k) h = number-tells f found date old (Flush k) h
outcome-tells f found date old (Upgrade k protocol response) h = number-tells f found date old (Upgrade k protocol response) h
outcome-tells f found date old (Finish k) h = number-tells f found date old (Finish k) h
outcome-tells f found date old (Drop k) h = number-tells f found date old (Drop k) h

-- ---- a run

outcome-accounts : (f : ℕ → Account) (date : HttpDate) (step : StepValue) (o : Outcome) (old : State) (reply : ReplyValue) (new : State) → Tells f date step o → HasOutcome o old reply new → AllTold new.reached.slots (λ k. account_now k date step reply (f k))
outcome-accounts f date step o old reply new h has =
    let alike = planned-alike o old reply new h.may has in
    let P : Reached → Type 0 = λ x. AllTold x.slots (λ k. account_now k date step reply (f k)) in
    let accounts = accounts-as o.slots (λ k. account_now k date step o.reply (f k)) (λ k. account_now k date step reply (f k)) (λ k. sym (now-alike k date step reply o.reply (f k) alike)) h.accounts in
    subst P (sym has.0) accounts

no-memory-accounts : (f : ℕ → Account) (date : HttpDate) (old : State) (step : StepValue) (reply : ReplyValue) (new : State) → AllTold old.reached.slots f → FindsNoMemory date old step reply new → AllTold new.reached.slots (λ k. account_now k date step reply (f k))
no-memory-accounts f date old Ask reply new h n =
    let slots = old.reached.slots ++ map (new_slot date) n.4 in
    let w = answers_to old.reached.slots n.4 in
    let o : Outcome = record { reply = Memory; slots = slots; rest = n.5; asking_ended = true; writer = w } in
    outcome-accounts f date Ask o old reply new (record { accounts = asked-accounts f date Memory slots (accounts-all f date old.reached.slots n.4 h); may = own-tells w Memory (own-answers old.reached.slots n.4) }) n.8
no-memory-accounts f date old (Read k n) reply new h m =
    let P : State → Type 0 = λ x. AllTold x.reached.slots (λ j. account_now j date (Read k n) reply (f j)) in
    subst P (sym m.3) (accounts-as old.reached.slots f (λ j. account_now j date (Read k n) reply (f j)) (λ j. sym (if-same (k == j) (f j))) h)
no-memory-accounts f date old (AsReader k) reply new h m = elim m [ ]
no-memory-accounts f date old (Respond k a) reply new h m = elim m [ ]
no-memory-accounts f date old (IntoWriter k) reply new h m = elim m [ ]
no-memory-accounts f date old (Write k b) reply new h m = elim m [ ]
no-memory-accounts f date old (Flush k) reply new h m = elim m [ ]
no-memory-accounts f date old (Upgrade k p a) reply new h m = elim m [ ]
no-memory-accounts f date old (Finish k) reply new h m = elim m [ ]
no-memory-accounts f date old (Drop k) reply new h m = elim m [ ]

pub step-accounts : (f : ℕ → Account) (old : State) (date : HttpDate) (step : StepValue) (reply : ReplyValue) (new : State) → AllTold old.reached.slots f → StepsTo old date step reply new → AllTold new.reached.slots (λ k. account_now k date step reply (f k))
step-accounts f old date step reply new h s =
    ⊎_elim
    (λ g. outcome-accounts f date step (outcome g.0 date old.reached step) old reply new (outcome-tells f g.0 date old.reached step h) g.2)
    (λ m. no-memory-accounts f date old step reply new h m)
    s

pub run-accounts : (f : ℕ → Account) (old new : State) (steps : List TimedValue) (replies : List ReplyValue) → AllTold old.reached.slots f → Run old steps replies new → AllTold new.reached.slots (λ k. account_from k (f k) steps replies)
run-accounts f old new [] [] h run = let P : State → Type 0 = λ x. AllTold x.reached.slots f in subst P (sym run) h
run-accounts f old new [] (x ∷ replies) h run = elim run [ ]
run-accounts f old new (s ∷ steps) [] h run = elim run [ ]
run-accounts f old new (s ∷ steps) (x ∷ replies) h run =
    run-accounts (λ k. account_now k s.0 s.1 x (f k)) run.0 new steps replies (step-accounts f old s.0 s.1 x run.0 h run.1) run.2

-- no number is reached
pub none-accounts : AllTold [] (λ k. untouched)
none-accounts = record { here = λ k s e. cc; none = λ k e. refl }
