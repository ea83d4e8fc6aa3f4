-- One greeting more.
use Rattle.std.proofs.Common.{◌≡◌, refl, ap, subst, ℕ, ◌+◌, false, List, [], ◌∷◌, ◌++◌, length, length-append, arith}
use Rattle.httpdate.specs.declared.date.HttpDate.{HttpDate}
use Rattle.tiny_http_wire.specs.Device.{Feed, Sink}
use Rattle.tiny_http_core.specs.HeadReads.{head_message, head_framing}
use Rattle.tiny_http_core.specs.Steps.{Ask, Respond, ReplyValue, Handed, TimedValue}
use Rattle.tiny_http_core.specs.ResponseValue.{response_of}
use Rattle.tiny_http_core.specs.Connection.{ConnectionState}
use Rattle.tiny_http_core.specs.Driving.{HasDone}
use Rattle.tiny_http_core.specs.declared.framing.Profile.TheVariants.{Lenient}
use Rattle.tiny_http_core.specs.declared.exchange.Head.{Head}
use Rattle.tiny_http_core.specs.declared.driver.Reply.{Reply}
use Rattle.tiny_http_core.specs.declared.driver.Reply.TheVariants as reply
use Rattle.tiny_http_core.specs.Seen.{seen}
use Rattle.example_greeter.specs.Greeting.{IsStatus, Greeting, AreByPath, steps_of, replies_of, is_handed}

-- the greetings so far
pub record Greeted {R W : Type 0} (client : Feed) (before : Sink) (now : HttpDate) (c : ConnectionState R W) (count : ℕ) : Type 0 where
  pub greetings : List Greeting
  pub counted : length greetings ≡ count
  pub by_path : AreByPath greetings
  pub done : HasDone Lenient client before c (steps_of now greetings) (replies_of greetings)

by_path-more : (greetings : List Greeting) (g : Greeting) → AreByPath greetings → IsStatus g.head.path g.status → AreByPath (greetings ++ g ∷ [])
by_path-more [] g h s = (s, tt)
by_path-more (x ∷ greetings) g h s = (h.0, by_path-more greetings g h.1 s)

steps-more : (now : HttpDate) (greetings : List Greeting) (g : Greeting) → (steps_of now greetings ++ (now, Ask) ∷ []) ++ (now, Respond g.number (response_of g.status [] [])) ∷ [] ≡ steps_of now (greetings ++ g ∷ [])
steps-more now [] g = refl
steps-more now (x ∷ greetings) g = ap (λ (l : List TimedValue). (now, Ask) ∷ (now, Respond x.number (response_of x.status [] [])) ∷ l) (steps-more now greetings g)

replies-more : (greetings : List Greeting) (g : Greeting) → (replies_of greetings ++ Handed g.number (head_message g.head) (head_framing g.head) ∷ []) ++ g.reply ∷ [] ≡ replies_of (greetings ++ g ∷ [])
replies-more [] g = refl
replies-more (x ∷ greetings) g = ap (λ (l : List ReplyValue). Handed x.number (head_message x.head) (head_framing x.head) ∷ x.reply ∷ l) (replies-more greetings g)

pub greeted-more : {R W : Type 0} (client : Feed) (before : Sink) (now : HttpDate) (new : ConnectionState R W) (greetings : List Greeting) (g : Greeting) (count : ℕ) → length greetings ≡ count → AreByPath greetings → IsStatus g.head.path g.status
    → HasDone Lenient client before new ((steps_of now greetings ++ (now, Ask) ∷ []) ++ (now, Respond g.number (response_of g.status [] [])) ∷ []) ((replies_of greetings ++ Handed g.number (head_message g.head) (head_framing g.head) ∷ []) ++ g.reply ∷ []) → Greeted client before now new (count + 1)
greeted-more client before now new greetings g count counted h s done =
    let P : List TimedValue → List ReplyValue → Type 0 = λ x y. HasDone Lenient client before new x y in
    record { greetings = greetings ++ g ∷ []; counted = omega (arith, counted, length-append greetings (g ∷ [])); by_path = by_path-more greetings g h s; done = subst (λ y. P (steps_of now (greetings ++ g ∷ [])) y) (replies-more greetings g) (subst (λ x. P x ((replies_of greetings ++ Handed g.number (head_message g.head) (head_framing g.head) ∷ []) ++ g.reply ∷ [])) (steps-more now greetings g) done) }

-- a reply that hands out no request
pub unhanded : (r : Reply) → ((number : ℕ) (head : Head) → r ≡ reply.Handed number head → ⊥) → is_handed (seen r) ≡ false
unhanded (reply.Handed number head) other = absurd (other number head refl)
unhanded reply.Ended other = refl
unhanded (reply.Given bytes) other = refl
unhanded (reply.Fault kind) other = refl
unhanded reply.NotYet other = refl
unhanded reply.Done other = refl
unhanded reply.Refused other = refl
unhanded reply.NoSuch other = refl
unhanded reply.Memory other = refl
