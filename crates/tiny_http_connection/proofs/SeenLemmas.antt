-- The steps of the program, as the definitions see them.
use Rattle.std.proofs.Common.{◌≡◌, refl, sym, ap, ◌∙◌, subst, ℕ, Option}
use Rattle.std.specs.Global.{Global, Vec}
use Rattle.std.specs.Prelude.{String, string_bytes}
use Rattle.tiny_http_io.specs.Device.{Feed, Sink}
use Rattle.tiny_http_response.specs.Answer.{ResponseState}
use Rattle.httpdate.specs.declared.date.HttpDate.{HttpDate}
use Rattle.tiny_http_connection.specs.declared.driver.Step.{Step}
use Rattle.tiny_http_connection.specs.declared.driver.Step.TheVariants as step
use Rattle.tiny_http_response.specs.ResponseValue.{ResponseValue}
use Rattle.tiny_http_connection.specs.Steps.{StepValue, Ask, AsReader, Read, Respond, IntoWriter, Write, Flush, Upgrade, Finish, Drop, ReplyValue, TimedValue}
use Rattle.tiny_http_connection.specs.Conversation.{State}
use Rattle.tiny_http_connection.specs.Seen.{IsResponse, IsStep}
use Rattle.tiny_http_connection.specs.Connection.{Kept}
use Rattle.tiny_http_connection.proofs.ConnectionAsk.{StepIsAnswered}

pub is-ask : {D : Type 0} (feed : D → Option Feed) (x : StepValue) → (let a : Step D = step.Ask in IsStep feed a x) → x ≡ Ask
is-ask feed Ask h = refl
is-ask feed (AsReader k) h = elim h [ ]
is-ask feed (Read k n) h = elim h [ ]
is-ask feed (Respond k v) h = elim h [ ]
is-ask feed (IntoWriter k) h = elim h [ ]
is-ask feed (Write k b) h = elim h [ ]
is-ask feed (Flush k) h = elim h [ ]
is-ask feed (Upgrade k p v) h = elim h [ ]
is-ask feed (Finish k) h = elim h [ ]
is-ask feed (Drop k) h = elim h [ ]

pub record Responds {D : Type 0} (feed : D → Option Feed) (n : ℕ) (r : ResponseState D) (x : StepValue) : Type 0 where
  pub value : ResponseValue
  pub is : x ≡ Respond n value
  pub response : IsResponse feed r value

pub is-respond : {D : Type 0} (feed : D → Option Feed) (n : ℕ) (r : ResponseState D) (x : StepValue) → IsStep feed (step.Respond n r) x → Responds feed n r x
is-respond feed n r Ask h = elim h [ ]
is-respond feed n r (AsReader k) h = elim h [ ]
is-respond feed n r (Read k m) h = elim h [ ]
is-respond feed n r (Respond k v) h = record { value = v; is = ap (λ m. Respond m v) h.0; response = h.1 }
is-respond feed n r (IntoWriter k) h = elim h [ ]
is-respond feed n r (Write k b) h = elim h [ ]
is-respond feed n r (Flush k) h = elim h [ ]
is-respond feed n r (Upgrade k p v) h = elim h [ ]
is-respond feed n r (Finish k) h = elim h [ ]
is-respond feed n r (Drop k) h = elim h [ ]

pub is-drop : {D : Type 0} (feed : D → Option Feed) (n : ℕ) (x : StepValue) → (let a : Step D = step.Drop n in IsStep feed a x) → x ≡ Drop n
is-drop feed n Ask h = elim h [ ]
is-drop feed n (AsReader k) h = elim h [ ]
is-drop feed n (Read k m) h = elim h [ ]
is-drop feed n (Respond k v) h = elim h [ ]
is-drop feed n (IntoWriter k) h = elim h [ ]
is-drop feed n (Write k b) h = elim h [ ]
is-drop feed n (Flush k) h = elim h [ ]
is-drop feed n (Upgrade k p v) h = elim h [ ]
is-drop feed n (Finish k) h = elim h [ ]
is-drop feed n (Drop k) h = ap (λ m. Drop m) h

pub is-send_continue : {D : Type 0} (feed : D → Option Feed) (n : ℕ) (x : StepValue) → (let a : Step D = step.AsReader n in IsStep feed a x) → x ≡ AsReader n
is-send_continue feed n Ask h = elim h [ ]
is-send_continue feed n (AsReader k) h = ap (λ m. AsReader m) h
is-send_continue feed n (Read k m) h = elim h [ ]
is-send_continue feed n (Respond k v) h = elim h [ ]
is-send_continue feed n (IntoWriter k) h = elim h [ ]
is-send_continue feed n (Write k b) h = elim h [ ]
is-send_continue feed n (Flush k) h = elim h [ ]
is-send_continue feed n (Upgrade k p v) h = elim h [ ]
is-send_continue feed n (Finish k) h = elim h [ ]
is-send_continue feed n (Drop k) h = elim h [ ]

pub step-send_continue : {D : Type 0} (feed : D → Option Feed) (client : Feed) (before : Sink) (k : Kept) (s : State) (now : HttpDate) (d : TimedValue) (x : Step D) (n : ℕ) (reply : ReplyValue) → x ≡ step.AsReader n → d.0 ≡ now → IsStep feed x d.1
    → StepIsAnswered client before k s now (AsReader n) reply → StepIsAnswered client before k s d.0 d.1 reply
step-send_continue feed client before k s now d x n reply e date stated h =
    let P : Step _ → Type 0 = λ y. IsStep feed y d.1 in
    let is = is-send_continue feed n d.1 (subst P e stated) in
    let Q : StepValue → Type 0 = λ y. StepIsAnswered client before k s now y reply in
    let R : HttpDate → Type 0 = λ y. StepIsAnswered client before k s y d.1 reply in
    subst R (sym date) (subst Q (sym is) h)

pub step-drop : {D : Type 0} (feed : D → Option Feed) (client : Feed) (before : Sink) (k : Kept) (s : State) (d : TimedValue) (x : Step D) (n : ℕ) (reply : ReplyValue) → x ≡ step.Drop n → IsStep feed x d.1
    → StepIsAnswered client before k s d.0 (Drop n) reply → StepIsAnswered client before k s d.0 d.1 reply
step-drop feed client before k s d x n reply e stated h =
    let P : Step _ → Type 0 = λ y. IsStep feed y d.1 in
    let is = is-drop feed n d.1 (subst P e stated) in
    let Q : StepValue → Type 0 = λ y. StepIsAnswered client before k s d.0 y reply in
    subst Q (sym is) h

pub step-respond : {D : Type 0} (feed : D → Option Feed) (client : Feed) (before : Sink) (k : Kept) (s : State) (now : HttpDate) (d : TimedValue) (x : Step D) (n : ℕ) (r : ResponseState D) (reply : ReplyValue) → x ≡ step.Respond n r → d.0 ≡ now → IsStep feed x d.1
    → ((v : ResponseValue) → IsResponse feed r v → StepIsAnswered client before k s now (Respond n v) reply) → StepIsAnswered client before k s d.0 d.1 reply
step-respond feed client before k s now d x n r reply e date stated h =
    let P : Step _ → Type 0 = λ y. IsStep feed y d.1 in
    let is = is-respond feed n r d.1 (subst P e stated) in
    let Q : StepValue → Type 0 = λ y. StepIsAnswered client before k s now y reply in
    let R : HttpDate → Type 0 = λ y. StepIsAnswered client before k s y d.1 reply in
    subst R (sym date) (subst Q (sym is.is) (h is.value is.response))

pub is-read : {D : Type 0} (feed : D → Option Feed) (n m : ℕ) (x : StepValue) → (let a : Step D = step.Read n m in IsStep feed a x) → x ≡ Read n m
is-read feed n m Ask h = elim h [ ]
is-read feed n m (AsReader k) h = elim h [ ]
is-read feed n m (Read k l) h = ap (λ j. Read j l) h.0 ∙ ap (λ j. Read n j) h.1
is-read feed n m (Respond k v) h = elim h [ ]
is-read feed n m (IntoWriter k) h = elim h [ ]
is-read feed n m (Write k b) h = elim h [ ]
is-read feed n m (Flush k) h = elim h [ ]
is-read feed n m (Upgrade k p v) h = elim h [ ]
is-read feed n m (Finish k) h = elim h [ ]
is-read feed n m (Drop k) h = elim h [ ]

pub step-read : {D : Type 0} (feed : D → Option Feed) (client : Feed) (before : Sink) (k : Kept) (s : State) (d : TimedValue) (x : Step D) (n m : ℕ) (reply : ReplyValue) → x ≡ step.Read n m → IsStep feed x d.1
    → StepIsAnswered client before k s d.0 (Read n m) reply → StepIsAnswered client before k s d.0 d.1 reply
step-read feed client before k s d x n m reply e stated h =
    let P : Step _ → Type 0 = λ y. IsStep feed y d.1 in
    let is = is-read feed n m d.1 (subst P e stated) in
    let Q : StepValue → Type 0 = λ y. StepIsAnswered client before k s d.0 y reply in
    subst Q (sym is) h

pub is-into_writer : {D : Type 0} (feed : D → Option Feed) (n : ℕ) (x : StepValue) → (let a : Step D = step.IntoWriter n in IsStep feed a x) → x ≡ IntoWriter n
is-into_writer feed n Ask h = elim h [ ]
is-into_writer feed n (AsReader k) h = elim h [ ]
is-into_writer feed n (Read k m) h = elim h [ ]
is-into_writer feed n (Respond k v) h = elim h [ ]
is-into_writer feed n (IntoWriter k) h = ap (λ m. IntoWriter m) h
is-into_writer feed n (Write k b) h = elim h [ ]
is-into_writer feed n (Flush k) h = elim h [ ]
is-into_writer feed n (Upgrade k p v) h = elim h [ ]
is-into_writer feed n (Finish k) h = elim h [ ]
is-into_writer feed n (Drop k) h = elim h [ ]

pub step-into_writer : {D : Type 0} (feed : D → Option Feed) (client : Feed) (before : Sink) (k : Kept) (s : State) (d : TimedValue) (x : Step D) (n : ℕ) (reply : ReplyValue) → x ≡ step.IntoWriter n → IsStep feed x d.1
    → StepIsAnswered client before k s d.0 (IntoWriter n) reply → StepIsAnswered client before k s d.0 d.1 reply
step-into_writer feed client before k s d x n reply e stated h =
    let P : Step _ → Type 0 = λ y. IsStep feed y d.1 in
    let is = is-into_writer feed n d.1 (subst P e stated) in
    let Q : StepValue → Type 0 = λ y. StepIsAnswered client before k s d.0 y reply in
    subst Q (sym is) h

pub is-flush : {D : Type 0} (feed : D → Option Feed) (n : ℕ) (x : StepValue) → (let a : Step D = step.Flush n in IsStep feed a x) → x ≡ Flush n
is-flush feed n Ask h = elim h [ ]
is-flush feed n (AsReader k) h = elim h [ ]
is-flush feed n (Read k m) h = elim h [ ]
is-flush feed n (Respond k v) h = elim h [ ]
is-flush feed n (IntoWriter k) h = elim h [ ]
is-flush feed n (Write k b) h = elim h [ ]
is-flush feed n (Flush k) h = ap (λ m. Flush m) h
is-flush feed n (Upgrade k p v) h = elim h [ ]
is-flush feed n (Finish k) h = elim h [ ]
is-flush feed n (Drop k) h = elim h [ ]

pub step-flush : {D : Type 0} (feed : D → Option Feed) (client : Feed) (before : Sink) (k : Kept) (s : State) (d : TimedValue) (x : Step D) (n : ℕ) (reply : ReplyValue) → x ≡ step.Flush n → IsStep feed x d.1
    → StepIsAnswered client before k s d.0 (Flush n) reply → StepIsAnswered client before k s d.0 d.1 reply
step-flush feed client before k s d x n reply e stated h =
    let P : Step _ → Type 0 = λ y. IsStep feed y d.1 in
    let is = is-flush feed n d.1 (subst P e stated) in
    let Q : StepValue → Type 0 = λ y. StepIsAnswered client before k s d.0 y reply in
    subst Q (sym is) h

pub is-finish : {D : Type 0} (feed : D → Option Feed) (n : ℕ) (x : StepValue) → (let a : Step D = step.Finish n in IsStep feed a x) → x ≡ Finish n
is-finish feed n Ask h = elim h [ ]
is-finish feed n (AsReader k) h = elim h [ ]
is-finish feed n (Read k m) h = elim h [ ]
is-finish feed n (Respond k v) h = elim h [ ]
is-finish feed n (IntoWriter k) h = elim h [ ]
is-finish feed n (Write k b) h = elim h [ ]
is-finish feed n (Flush k) h = elim h [ ]
is-finish feed n (Upgrade k p v) h = elim h [ ]
is-finish feed n (Finish k) h = ap (λ m. Finish m) h
is-finish feed n (Drop k) h = elim h [ ]

pub step-finish : {D : Type 0} (feed : D → Option Feed) (client : Feed) (before : Sink) (k : Kept) (s : State) (d : TimedValue) (x : Step D) (n : ℕ) (reply : ReplyValue) → x ≡ step.Finish n → IsStep feed x d.1
    → StepIsAnswered client before k s d.0 (Finish n) reply → StepIsAnswered client before k s d.0 d.1 reply
step-finish feed client before k s d x n reply e stated h =
    let P : Step _ → Type 0 = λ y. IsStep feed y d.1 in
    let is = is-finish feed n d.1 (subst P e stated) in
    let Q : StepValue → Type 0 = λ y. StepIsAnswered client before k s d.0 y reply in
    subst Q (sym is) h

pub is-write : {D : Type 0} (feed : D → Option Feed) (n : ℕ) (v : Vec ℕ) (x : StepValue) → (let a : Step D = step.Write n v in IsStep feed a x) → x ≡ Write n v.items
is-write feed n v Ask h = elim h [ ]
is-write feed n v (AsReader k) h = elim h [ ]
is-write feed n v (Read k m) h = elim h [ ]
is-write feed n v (Respond k w) h = elim h [ ]
is-write feed n v (IntoWriter k) h = elim h [ ]
is-write feed n v (Write k b) h = ap (λ m. Write m b) h.0 ∙ ap (λ l. Write n l) h.1
is-write feed n v (Flush k) h = elim h [ ]
is-write feed n v (Upgrade k p w) h = elim h [ ]
is-write feed n v (Finish k) h = elim h [ ]
is-write feed n v (Drop k) h = elim h [ ]

pub step-write : {D : Type 0} (feed : D → Option Feed) (client : Feed) (before : Sink) (k : Kept) (s : State) (d : TimedValue) (x : Step D) (n : ℕ) (v : Vec ℕ) (reply : ReplyValue) → x ≡ step.Write n v → IsStep feed x d.1
    → StepIsAnswered client before k s d.0 (Write n v.items) reply → StepIsAnswered client before k s d.0 d.1 reply
step-write feed client before k s d x n v reply e stated h =
    let P : Step _ → Type 0 = λ y. IsStep feed y d.1 in
    let is = is-write feed n v d.1 (subst P e stated) in
    let Q : StepValue → Type 0 = λ y. StepIsAnswered client before k s d.0 y reply in
    subst Q (sym is) h

pub record Upgrades {D : Type 0} (feed : D → Option Feed) (n : ℕ) (p : String Global) (r : ResponseState D) (x : StepValue) : Type 0 where
  pub value : ResponseValue
  pub is : x ≡ Upgrade n (string_bytes p) value
  pub answer : value.answer ≡ r.answer

pub is-upgrade : {D : Type 0} (feed : D → Option Feed) (n : ℕ) (p : String Global) (r : ResponseState D) (x : StepValue) → IsStep feed (step.Upgrade n p r) x → Upgrades feed n p r x
is-upgrade feed n p r Ask h = elim h [ ]
is-upgrade feed n p r (AsReader k) h = elim h [ ]
is-upgrade feed n p r (Read k m) h = elim h [ ]
is-upgrade feed n p r (Respond k v) h = elim h [ ]
is-upgrade feed n p r (IntoWriter k) h = elim h [ ]
is-upgrade feed n p r (Write k b) h = elim h [ ]
is-upgrade feed n p r (Flush k) h = elim h [ ]
is-upgrade feed n p r (Upgrade k q v) h = record { value = v; is = ap (λ m. Upgrade m q v) h.0 ∙ ap (λ t. Upgrade n t v) h.1; answer = h.2 }
is-upgrade feed n p r (Finish k) h = elim h [ ]
is-upgrade feed n p r (Drop k) h = elim h [ ]

pub step-upgrade : {D : Type 0} (feed : D → Option Feed) (client : Feed) (before : Sink) (k : Kept) (s : State) (d : TimedValue) (x : Step D) (n : ℕ) (p : String Global) (r : ResponseState D) (reply : ReplyValue) → x ≡ step.Upgrade n p r → IsStep feed x d.1
    → ((v : ResponseValue) → v.answer ≡ r.answer → StepIsAnswered client before k s d.0 (Upgrade n (string_bytes p) v) reply) → StepIsAnswered client before k s d.0 d.1 reply
step-upgrade feed client before k s d x n p r reply e stated h =
    let P : Step _ → Type 0 = λ y. IsStep feed y d.1 in
    let is = is-upgrade feed n p r d.1 (subst P e stated) in
    let Q : StepValue → Type 0 = λ y. StepIsAnswered client before k s d.0 y reply in
    subst Q (sym is.is) (h is.value is.answer)
