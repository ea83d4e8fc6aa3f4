-- An Ask, from what it finds at the place of a head.
use Rattle.std.proofs.Common.{◌≡◌, refl, sym, ap, ◌∙◌, subst, arith, ℕ, zero, suc, length, ◌+◌, ◌<◌, ◌^◌, ◌⊎◌, inl, inr, true, false, List, [], ◌∷◌, ◌++◌, Option, Some, None, Result, Ok, Err, Bool, ⊎_elim, append-nil, length-append}
use Rattle.std.specs.Global.{Vec}
use Rattle.std.specs.Prelude.{is_some}
use Rattle.std.specs.declared.alloc.AllocError.{AllocError}
use Rattle.httpdate.specs.declared.date.HttpDate.{HttpDate}
use Rattle.tiny_http_head.specs.declared.common.StatusCode.{StatusCode}
use Rattle.tiny_http_io.specs.Source.{SourceState}
use Rattle.tiny_http_io.specs.Outlet.{OutletState, output_of, outlet_ended}
use Rattle.tiny_http_io.specs.declared.source.InputState.TheVariants as at
use Rattle.tiny_http_body.specs.declared.framing.Profile.{Profile}
use Rattle.tiny_http_open_request.specs.declared.exchange.Exchange.{Exchange}
use Rattle.tiny_http_open_request.specs.declared.exchange.HeadRead.{HeadRead}
use Rattle.tiny_http_open_request.specs.declared.exchange.HeadRead.TheVariants as read
use Rattle.tiny_http_open_request.specs.declared.exchange.EndOfRequests.{EndOfRequests}
use Rattle.tiny_http_open_request.specs.declared.exchange.EndOfRequests.TheVariants as because
use Rattle.tiny_http_open_request.specs.HeadReads.{ReadsHead, IsBeforeHead, IsOkEnd, TakesHead, head_message, head_framing}
use Rattle.tiny_http_open_request.specs.NextRequest.{At, Found, Follows, FollowsRefusal, FindsHead, FindsNext, PassesHeads, next_of}
use Rattle.tiny_http_open_request.proofs.NextRequestLemmas.{same-next}
use Rattle.tiny_http_open_request.specs.declared.next_request.NextRequest.{NextRequest}
use Rattle.tiny_http_open_request.specs.declared.next_request.NextRequest.TheVariants as next
use Rattle.tiny_http_turns.specs.Turns.{Mark, AreInShape, Open}
use Rattle.tiny_http_connection.specs.declared.pending.Pending.{Pending}
use Rattle.tiny_http_connection.specs.declared.pending.Unfinished.{Unfinished}
use Rattle.tiny_http_connection.specs.declared.pending.Unfinished.TheVariants as still
use Rattle.tiny_http_connection.specs.Pending.{RefusesHead, last_holds_next_head}
use Rattle.tiny_http_connection.specs.Steps.{ReplyValue, Ask, Ended, Memory, Handed}
use Rattle.tiny_http_connection.specs.Connection.{Kept, ConnectionState, kept}
use Rattle.tiny_http_connection.proofs.Asking.{CanAsk, AskStep, IsAskBehind}
use Rattle.tiny_http_connection.proofs.ConnectionAsking.{AskGoesOn, ask-passes}
use Rattle.tiny_http_connection.proofs.ConnectionAsk.{StepIsAnswered, AskIsAnswered, ask-final, ask-memory, ask-handed, ask-refused, before-head, represents-before}
use Rattle.tiny_http_connection.proofs.ConnectionOutput.{can-send}
use Rattle.tiny_http_connection.proofs.ConnectionReader.{holds-snoc}
use Rattle.tiny_http_connection.proofs.DrivingLemmas.{viewed, end-refused, end-final, ask-step, ask-found, asks-behind-head, end-behind, begins-behind, begins-here, hands-here, hands-behind, not-body, driving-reads-on}

plus-none : (n : ℕ) → n ≡ n + 0
plus-none n = omega arith

some-none : {b : Bool} → b ≡ false → b ≡ true → ⊥
some-none e f = let no : false ≡ true = sym e ∙ f in cc

-- the last request was read, and what was read is another
past-last : (r : Result HeadRead AllocError) → r ≡ Ok (read.Ended because.LastRequest) → IsOkEnd r
past-last r e = let P : Result HeadRead AllocError → Type 0 = λ y. IsOkEnd y in subst P (sym e) tt

last-reason : (why : EndOfRequests) → ◌≡◌ {A = Result HeadRead AllocError} (Ok (read.Ended why)) (Ok (read.Ended because.LastRequest)) → why ≡ because.LastRequest
last-reason why e = cc

-- what was read where a head would begin, if it isn't the end
before : {R : Type 0} (profile : Profile) (date : HttpDate) (s t : SourceState R) (r : Result HeadRead AllocError) → TakesHead profile date s t r → (IsOkEnd r → ⊥) → (s.input_state ≡ at.Body → ⊥) → IsBeforeHead s.input_state
before profile date s t r h other outside = represents-before s.input_state outside (λ e. other (past-last r (h.last e).0))

-- a request was read, and takes a number
finds-request : {R W : Type 0} (profile : Profile) (date : HttpDate) (s t : SourceState R) (o : OutletState W) (p q : Pending) (end : Option EndOfRequests) (x : Exchange) (n : ℕ)
    → TakesHead profile date s t (Ok (read.Request x)) → CanAsk (viewed profile s o p end)
    → n ≡ length p.turns.marks → q.turns.marks ≡ p.turns.marks ++ (Open ∷ []) → AreInShape q.turns.marks → q.requests ≡ p.requests ++ (Some (still.Waiting x.open_request) ∷ [])
    → AskStep (viewed profile s o p end) (viewed profile t o q end) date (Handed n (head_message x.head) (head_framing x.head))
finds-request {R = R} {W = W} profile date s t o p q end x n h can number marks_are shape_is requests_are =
    ask-step old new date (Handed n (head_message x.head) (head_framing x.head)) (λ client p left. tt)
    (λ client before s low st.
    let f = before-head client before k s st open_is here can.2 in
    let shape : AreInShape (k.marks ++ (Open ∷ [])) = subst (λ m. AreInShape m) marks_are shape_is in
    let done = ask-handed client before k s date x from.input_state t.feed t.stop t.is_over t.input_state n st open_is f.unread f.quiet
    (λ i. elim (h.at_end i).0 [ ]) (h.reads here) h.goes_on number shape h.input_state in
    let P : List Mark → List (Option Unfinished) → Type 0 = λ m r.
    StepIsAnswered client before (record k { marks = m; requests = r; input_state = t.input_state; feed = t.feed; stop = t.stop; is_over = t.is_over }) s date Ask (Handed n (head_message x.head) (head_framing x.head)) in
    subst (λ m. P m q.requests) (sym marks_are) (subst (λ r. P (k.marks ++ (Open ∷ [])) r) (sym requests_are) done))
    (λ no. elim no [ ]) (can.0, can.0, here, (can.1, can.2), λ i. elim (h.at_end i).0 [ ]) (0, x.open_request, requests_are ∙ ap (λ y. y ++ (Some (still.Waiting x.open_request) ∷ [])) (sym (append-nil p.requests)), h.input_state, number ∙ plus-none (length p.turns.marks), (λ z. (refl, h.lazy tt, marks_are)), hands-here profile s.input_state date s.feed t.feed x (h.reads here), h.framed.0, h.fits, (x.head, refl, refl, h.framed.1)) (driving-reads-on old new refl refl h.goes_on)
  where
    from : SourceState R
    from = s

    old : ConnectionState R W
    old = viewed profile s o p end

    new : ConnectionState R W
    new = viewed profile t o q end

    k : Kept
    k = kept old

    open_is : is_some end ≡ false
    open_is = ap is_some can.0

    here : IsBeforeHead s.input_state
    here = before profile date s t (Ok (read.Request x)) h (λ e. elim e [ ]) can.1

-- memory was refused, whatever was read; what had been kept is kept
finds-no-memory : {R W : Type 0} (profile : Profile) (date : HttpDate) (s t : SourceState R) (o u : OutletState W) (p q : Pending) (end : Option EndOfRequests) (r : Result HeadRead AllocError)
    → TakesHead profile date s t r → (IsOkEnd r → ⊥) → CanAsk (viewed profile s o p end) → q.turns ≡ p.turns → q.requests ≡ p.requests → u ≡ o
    → AskStep (viewed profile s o p end) (viewed profile t u q (Some because.Memory)) date Memory
finds-no-memory {R = R} {W = W} profile date s t o u p q end r h other can turns_are requests_are outlet_is = subst O (sym outlet_is) step
  where
    from : SourceState R
    from = s

    old : ConnectionState R W
    old = viewed profile s o p end

    new : ConnectionState R W
    new = viewed profile t o q (Some because.Memory)

    k : Kept
    k = kept old

    O : OutletState W → Type 0
    O u = AskStep old (viewed profile t u q (Some because.Memory)) date Memory

    open_is : is_some end ≡ false
    open_is = ap is_some can.0

    here : IsBeforeHead s.input_state
    here = before profile date s t r h other can.1

    step : AskStep old new date Memory
    step = ask-found old new date Memory
        (λ client before s low st.
        let f = before-head client before k s st open_is here can.2 in
        let P : List Mark → List (Option Unfinished) → Type 0 = λ m r. AskIsAnswered client before (record k { marks = m; requests = r; asking_ended = true; input_state = t.input_state; feed = t.feed; stop = t.stop; is_over = t.is_over }) s date Memory in
        let done = ask-memory client before k s date t.feed t.stop t.is_over t.input_state st open_is f.unread f.quiet f.more
        (λ i. other (h.at_end i).0) (h.begun other) h.goes_on in
        subst (λ m. P m q.requests) (ap (λ t. t.marks) (sym turns_are)) (subst (λ r. P k.marks r) (sym requests_are) done))
        (λ no. elim no [ ]) (can.0, refl, here, begins-here profile from.feed (h.begun other), (can.1, can.2), λ i. other (h.at_end i).0) (0, (requests_are ∙ sym (append-nil p.requests), λ z. (ap (λ t. t.marks) turns_are, refl))) (driving-reads-on old new refl refl h.goes_on)

-- no further request comes
finds-end : {R W : Type 0} (profile : Profile) (date : HttpDate) (s t : SourceState R) (o : OutletState W) (p : Pending) (end : Option EndOfRequests) (why : EndOfRequests)
    → TakesHead profile date s t (Ok (read.Ended why)) → CanAsk (viewed profile s o p end)
    → AskStep (viewed profile s o p end) (viewed profile t o p (Some why)) date Ended
finds-end {R = R} {W = W} profile date s t o p end why h can =
    ask-step old new date Ended (λ client p left. tt)
    (λ client before s low st.
    ask-final client before k s date why t.feed t.stop t.is_over t.input_state st open_is can.1 can.2
    (λ i. (let same = (h.last i).1 in (ap (λ y. y.feed) same, ap (λ y. y.stop) same, ap (λ y. y.is_over) same, ap (λ y. y.input_state) same)))
    (λ here. h.reads here) h.goes_on)
    (λ no. elim no [ ])
    (λ some. absurd (some-none open_is some), λ i. (h.last i).1, λ none. (why, refl, end-final profile s.input_state date s.feed t.feed why can.1 (λ i. last-reason why (h.last i).0) (λ here. h.reads here), (can.1, can.2)))
    (0, (sym (append-nil p.requests), λ z. (refl, refl)), λ over. refl) (driving-reads-on old new refl refl h.goes_on)
  where
    old : ConnectionState R W
    old = viewed profile s o p end

    new : ConnectionState R W
    new = viewed profile t o p (Some why)

    k : Kept
    k = kept old

    open_is : is_some end ≡ false
    open_is = ap is_some can.0

-- the last head was refused
finds-refused : {R W : Type 0} (profile : Profile) (date : HttpDate) (s t : SourceState R) (o u : OutletState W) (p q : Pending) (end : Option EndOfRequests) (status : StatusCode) (text : Vec ℕ)
    → TakesHead profile date s t (Ok (read.Refused status text true)) → RefusesHead p o text.items true q u → CanAsk (viewed profile s o p end)
    → AskStep (viewed profile s o p end) (viewed profile t u q (Some (because.Refused status))) date Ended
finds-refused {R = R} {W = W} profile date s t o u p q end status text h f can =
    ask-step old new date Ended (λ client p left. tt)
    (λ client before s low st.
    let n = before-head client before k s st open_is here can.2 in
    let done = ask-refused client before k s date from.input_state status text t.feed t.stop t.is_over t.input_state q.turns.marks (output_of u) (outlet_ended u) st low open_is n.unread n.quiet
    (λ i. elim (h.at_end i).0 [ ]) reads h.goes_on (f.leaves refl (can-send before k.sink k.output_ended s.reached.slots s.flushed s.failure st.output low)) in
    let P : List (Option Unfinished) → Type 0 = λ r.
    StepIsAnswered client before (record k { marks = q.turns.marks; requests = r; asking_ended = true; input_state = t.input_state; feed = t.feed; stop = t.stop; is_over = t.is_over; sink = output_of u; output_ended = outlet_ended u }) s date Ask Ended in
    subst (λ r. P r) (sym (f.requests refl)) done)
    (λ no. elim no [ ])
    (λ some. absurd (some-none open_is some), λ i. elim (past-last (Ok (read.Refused status text true)) (h.last i).0) [ ], λ none. (because.Refused status, refl, end-refused profile s.input_state date s.feed t.feed status text here reads, (can.1, can.2)))
    (1, (f.requests refl, λ z. (let no : 1 ≡ 0 = z in cc)), λ over. absurd (⊎_elim (λ i. elim (past-last (Ok (read.Refused status text true)) (h.last i).0) [ ]) (λ i. elim (h.at_end i).0 [ ]) over))
    (record { profile = refl; goes_on = h.goes_on; fails_once = f.fails_once; flushed = λ was. f.flushed (was refl); sent_on = λ was. f.sent_on (was refl) })
  where
    from : SourceState R
    from = s

    old : ConnectionState R W
    old = viewed profile s o p end

    new : ConnectionState R W
    new = viewed profile t u q (Some (because.Refused status))

    k : Kept
    k = kept old

    open_is : is_some end ≡ false
    open_is = ap is_some can.0

    here : IsBeforeHead s.input_state
    here = before profile date s t (Ok (read.Refused status text true)) h (λ e. elim e [ ]) can.1

    reads : ReadsHead profile s.input_state date s.feed t.feed (Ok (read.Refused status text true))
    reads = h.reads here

-- a head was refused, and another stands behind it
finds-another : {R W : Type 0} (profile : Profile) (date : HttpDate) (s t : SourceState R) (o u : OutletState W) (p q : Pending) (end : Option EndOfRequests) (status : StatusCode) (text : Vec ℕ)
    → TakesHead profile date s t (Ok (read.Refused status text false)) → RefusesHead p o text.items true q u → CanAsk (viewed profile s o p end)
    → CanAsk (viewed profile t u q end) × IsAskBehind (viewed profile s o p end) (viewed profile t u q end) date
finds-another {R = R} {W = W} profile date s t o u p q end status text h f can = (
  (can.0, λ e. not-body t.input_state represents e, subst F (sym (f.requests refl)) (holds-snoc p.requests None)),
  asks-behind-head old new date (record {
    does = λ client before s low st.
        let n = before-head client before k s st open_is here can.2 in
        let done = ask-passes client before k s date from.input_state status text t.feed t.stop t.is_over t.input_state q.turns.marks (output_of u) (outlet_ended u) st low open_is n.unread n.quiet n.more
        (λ i. elim (h.at_end i).0 [ ]) reads h.goes_on (f.leaves refl (can-send before k.sink k.output_ended s.reached.slots s.flushed s.failure st.output low)) represents in
        let P : List (Option Unfinished) → Type 0 = λ r.
        AskGoesOn client before (record k { marks = q.turns.marks; requests = r; input_state = t.input_state; feed = t.feed; stop = t.stop; is_over = t.is_over; sink = output_of u; output_ended = outlet_ended u }) s date in
        subst (λ r. P r) (sym (f.requests refl)) done;
    was_open = can.0;
    is_open = can.0;
    here = here;
    unended = λ i. elim (h.at_end i).0 [ ];
    begins = λ begun. begins-behind profile s.input_state date s.feed t.feed status text reads begun;
    free = (can.1, can.2);
    hands = λ n message framing left hands. hands-behind profile s.input_state date s.feed t.feed status text n message framing left reads hands;
    represents = represents;
    ends = λ why ends. end-behind profile s.input_state date s.feed t.feed status text why here reads ends;
    requests = f.requests refl;
    counts = f.counts refl;
    moves = record { profile = refl; goes_on = h.goes_on; fails_once = f.fails_once; flushed = λ was. f.flushed (was refl); sent_on = λ was. f.sent_on (was refl) };
  }),
)
  where
    from : SourceState R
    from = s

    old : ConnectionState R W
    old = viewed profile s o p end

    new : ConnectionState R W
    new = viewed profile t u q end

    k : Kept
    k = kept old

    open_is : is_some end ≡ false
    open_is = ap is_some can.0

    here : IsBeforeHead s.input_state
    here = before profile date s t (Ok (read.Refused status text false)) h (λ e. elim e [ ]) can.1

    reads : ReadsHead profile s.input_state date s.feed t.feed (Ok (read.Refused status text false))
    reads = h.reads here

    represents : t.input_state ≡ at.Head
    represents = h.input_state

    F : List (Option Unfinished) → Type 0
    F us = last_holds_next_head us ≡ false

-- an Ask behind heads that were passed, as one in front of them
pub record Passed {R W : Type 0} (old new : ConnectionState R W) (date : HttpDate) (n : ℕ) : Type 0 where
  pub can : CanAsk new
  pub behind : IsAskBehind old new date
  pub few : (n ≡ 0) ⊎ (length new.requests < 2 ^ 64)
  pub counts : length new.requests ≡ length old.requests + n

none-some : {X : Type 0} (x : X) → ◌≡◌ {A = Option X} None (Some x) → ⊥
none-some x e = cc

ok-err : {X E : Type 0} (x : X) (e : E) → ◌≡◌ {A = Option (Result X E)} (Some (Ok x)) (Some (Err e)) → ⊥
ok-err x e is = cc

request-ended : (x : Exchange) (why : EndOfRequests) → ◌≡◌ {A = Found} (Some (Ok (next_of x))) (Some (Ok (next.Ended why))) → ⊥
request-ended x why is = cc

-- the connection whose reading stands there
abbrev pub input_state_at : {R W : Type 0} → Profile → At R Pending (OutletState W) → Option EndOfRequests → ConnectionState R W
input_state_at profile here end = viewed profile here.source here.output here.place end

-- one head was refused, and its answer is kept, or isn't
passes-one : {R W : Type 0} (profile : Profile) (date : HttpDate) (here there : At R Pending (OutletState W)) (end : Option EndOfRequests) (status : StatusCode) (text : Vec ℕ) (last kept : Bool)
    → TakesHead profile date here.source there.source (Ok (read.Refused status text last)) → RefusesHead here.place here.output text.items kept there.place there.output → FollowsRefusal status last kept None → CanAsk (input_state_at profile here end)
    → Passed (input_state_at profile here end) (input_state_at profile there end) date 1
passes-one profile date here there end status text last false h left f can = absurd (none-some (Err f.0) f.1)
passes-one profile date here there end status text true true h left f can = absurd (none-some (Ok (next.Ended (because.Refused status))) f)
passes-one profile date here there end status text false true h left f can =
    let a = finds-another profile date here.source there.source here.output there.output here.place there.place end status text h left can in
    record { can = a.0; behind = a.1; few = inr (left.bound refl); counts = ap length (left.requests refl) ∙ length-append here.place.requests (None ∷ []) }

passed-one : {R W : Type 0} (profile : Profile) (date : HttpDate) (here there : At R Pending (OutletState W)) (end : Option EndOfRequests) (r : Result HeadRead AllocError)
    → TakesHead profile date here.source there.source r → Follows RefusesHead r here None there → CanAsk (input_state_at profile here end)
    → Passed (input_state_at profile here end) (input_state_at profile there end) date 1
passed-one profile date here there end (Ok (read.Request x)) h f can = absurd (none-some (Ok (next_of x)) f.0)
passed-one profile date here there end (Ok (read.Ended why)) h f can = absurd (none-some (Ok (next.Ended why)) f.0)
passed-one profile date here there end (Err e) h f can = absurd (none-some (Err e) f.0)
passed-one profile date here there end (Ok (read.Refused status text last)) h f can = passes-one profile date here there end status text last f.0 h f.1 f.2 can

passed-heads : {R W : Type 0} (profile : Profile) (date : HttpDate) (here there : At R Pending (OutletState W)) (end : Option EndOfRequests) (n : ℕ) → PassesHeads RefusesHead profile date n here there → CanAsk (input_state_at profile here end)
    → Passed (input_state_at profile here end) (input_state_at profile there end) date n
passed-heads {R = R} {W = W} profile date here there end zero h can =
    let none : Passed (input_state_at profile here end) (input_state_at profile here end) date 0 = record { can = can; behind = λ new reply a. a; few = inl refl; counts = plus-none (length here.place.requests) } in
    let T : At R Pending (OutletState W) → Type 0 = λ x. Passed (input_state_at profile here end) (input_state_at profile x end) date 0 in
    subst T (sym h) none
passed-heads {R = R} {W = W} profile date here there end (suc n) h can =
    let i = passed-heads profile date here h.0 end n h.1 can in
    let one = passed-one profile date h.0 there end h.2.0 h.2.1 h.2.2 i.can in
    let more = one.counts in
    let counts = i.counts in
    record { can = one.can; behind = λ new reply a. i.behind new reply (one.behind new reply a); few = ⊎_elim (λ none. absurd (one-none none)) (λ few. inr few) one.few; counts = omega (arith, more, counts) }
  where
    one-none : ◌≡◌ {A = ℕ} 1 0 → ⊥
    one-none e = cc

-- no 2^64 heads are passed, since each takes a number
too-many : {R W : Type 0} (old new : ConnectionState R W) (date : HttpDate) (n : ℕ) → Passed old new date n → n ≡ 2 ^ 64 → ⊥
too-many old new date n p many = ⊎_elim (λ none. omega (arith, none, many)) (λ few. (let counts = p.counts in omega (arith, few, counts, many))) p.few

-- AN ASK finds what stands behind the heads that were passed
pub asks-next : {R W : Type 0} (profile : Profile) (date : HttpDate) (here there : At R Pending (OutletState W)) (end : Option EndOfRequests) (r : Result NextRequest AllocError) (f : FindsNext RefusesHead profile date here r there) → CanAsk (input_state_at profile here end)
    → (new : ConnectionState R W) (reply : ReplyValue)
    → (FindsHead RefusesHead profile date f.mid (Some r) there → CanAsk (input_state_at profile f.mid end) → AskStep (input_state_at profile f.mid end) new date reply)
    → AskStep (input_state_at profile here end) new date reply
asks-next profile date here there end r f can new reply go =
    let passed = passed-heads profile date here f.mid end f.passed f.passes can in
    ⊎_elim (λ found. passed.behind new reply (go found passed.can)) (λ many. absurd (too-many (input_state_at profile here end) (input_state_at profile f.mid end) date f.passed passed many.0)) f.ends

-- a refused head is no request
refused-request : (x : Exchange) (status : StatusCode) (last kept : Bool) → FollowsRefusal status last kept (Some (Ok (next_of x))) → ⊥
refused-request x status true true f = request-ended x (because.Refused status) f
refused-request x status false true f = none-some (Ok (next_of x)) (sym f)
refused-request x status last false f = ok-err (next_of x) f.0 f.1

-- a request is found, and takes a number
pub found-request : {R W : Type 0} (profile : Profile) (date : HttpDate) (here there : At R Pending (OutletState W)) (a : Pending) (end : Option EndOfRequests) (x : Exchange) (n : ℕ)
    → n ≡ length there.place.turns.marks → a.turns.marks ≡ there.place.turns.marks ++ (Open ∷ []) → AreInShape a.turns.marks → a.requests ≡ there.place.requests ++ (Some (still.Waiting x.open_request) ∷ [])
    → FindsHead RefusesHead profile date here (Some (Ok (next_of x))) there → CanAsk (input_state_at profile here end)
    → AskStep (input_state_at profile here end) (viewed profile there.source there.output a end) date (Handed n (head_message x.head) (head_framing x.head))
found-request {R = R} {W = W} profile date here there a end x n number marks_are shape requests_are found can = by found.0 found.1 found.2
  where
    U : OutletState W → Type 0
    U v = AskStep (input_state_at profile here end) (viewed profile there.source v a end) date (Handed n (head_message x.head) (head_framing x.head))

    by : (r : Result HeadRead AllocError) → TakesHead profile date here.source there.source r → Follows RefusesHead r here (Some (Ok (next_of x))) there → U there.output
    by (Ok (read.Request y)) h f =
        let e = f.0 in
        let same : y ≡ x = same-next x y e in
        let T : Exchange → Type 0 = λ z. TakesHead profile date here.source there.source (Ok (read.Request z)) in
        subst U (sym f.1.1) (finds-request profile date here.source there.source here.output here.place a end x n (subst T same h) can
        (number ∙ ap (λ q. length q.turns.marks) f.1.0) (marks_are ∙ ap (λ q. q.turns.marks ++ (Open ∷ [])) f.1.0) shape (requests_are ∙ ap (λ q. q.requests ++ (Some (still.Waiting x.open_request) ∷ [])) f.1.0))
    by (Ok (read.Ended why)) h f = absurd (request-ended x why f.0)
    by (Ok (read.Refused status text last)) h f = absurd (refused-request x status last f.0 f.2)
    by (Err e) h f = absurd (ok-err (next_of x) e f.0)

-- a request is found, and memory is refused for its number
pub found-no-number : {R W : Type 0} (profile : Profile) (date : HttpDate) (here there : At R Pending (OutletState W)) (a : Pending) (end : Option EndOfRequests) (x : Exchange)
    → a.turns ≡ there.place.turns → a.requests ≡ there.place.requests
    → FindsHead RefusesHead profile date here (Some (Ok (next_of x))) there → CanAsk (input_state_at profile here end)
    → AskStep (input_state_at profile here end) (viewed profile there.source there.output a (Some because.Memory)) date Memory
found-no-number {R = R} {W = W} profile date here there a end x turns_are requests_are found can = by found.0 found.1 found.2
  where
    by : (r : Result HeadRead AllocError) → TakesHead profile date here.source there.source r → Follows RefusesHead r here (Some (Ok (next_of x))) there
        → AskStep (input_state_at profile here end) (viewed profile there.source there.output a (Some because.Memory)) date Memory
    by (Ok (read.Request y)) h f =
        finds-no-memory profile date here.source there.source here.output there.output here.place a end (Ok (read.Request y)) h (λ e. elim e [ ]) can (turns_are ∙ ap (λ q. q.turns) f.1.0) (requests_are ∙ ap (λ q. q.requests) f.1.0) f.1.1
    by (Ok (read.Ended why)) h f = absurd (request-ended x why f.0)
    by (Ok (read.Refused status text last)) h f = absurd (refused-request x status last f.0 f.2)
    by (Err e) h f = absurd (ok-err (next_of x) e f.0)

-- memory is refused
pub found-no-memory : {R W : Type 0} (profile : Profile) (date : HttpDate) (here there : At R Pending (OutletState W)) (end : Option EndOfRequests) (e : AllocError)
    → FindsHead RefusesHead profile date here (Some (Err e)) there → CanAsk (input_state_at profile here end)
    → AskStep (input_state_at profile here end) (input_state_at profile there (Some because.Memory)) date Memory
found-no-memory {R = R} {W = W} profile date here there end e found can = by found.0 found.1 found.2
  where
    Goal : Type 0
    Goal = AskStep (input_state_at profile here end) (input_state_at profile there (Some because.Memory)) date Memory

    refused : (status : StatusCode) (text : Vec ℕ) (last kept : Bool) → TakesHead profile date here.source there.source (Ok (read.Refused status text last)) → RefusesHead here.place here.output text.items kept there.place there.output
        → FollowsRefusal status last kept (Some (Err e)) → Goal
    refused status text true true h left f = absurd (ok-err (next.Ended (because.Refused status)) e (sym f))
    refused status text false true h left f = absurd (none-some {X = Result NextRequest AllocError} (Err e) (sym f))
    refused status text last false h left f =
        let same = left.stays refl in
        finds-no-memory profile date here.source there.source here.output there.output here.place there.place end (Ok (read.Refused status text last)) h (λ i. elim i [ ]) can same.0 same.1 same.2

    by : (r : Result HeadRead AllocError) → TakesHead profile date here.source there.source r → Follows RefusesHead r here (Some (Err e)) there → Goal
    by (Ok (read.Request y)) h f = absurd (ok-err (next_of y) e (sym f.0))
    by (Ok (read.Ended why)) h f = absurd (ok-err (next.Ended why) e (sym f.0))
    by (Ok (read.Refused status text last)) h f = refused status text last f.0 h f.1 f.2
    by (Err x) h f = finds-no-memory profile date here.source there.source here.output there.output here.place there.place end (Err x) h (λ i. elim i [ ]) can (ap (λ q. q.turns) f.1.0) (ap (λ q. q.requests) f.1.0) f.1.1

-- the end is found
pub found-end : {R W : Type 0} (profile : Profile) (date : HttpDate) (here there : At R Pending (OutletState W)) (end : Option EndOfRequests) (why : EndOfRequests)
    → FindsHead RefusesHead profile date here (Some (Ok (next.Ended why))) there → CanAsk (input_state_at profile here end)
    → AskStep (input_state_at profile here end) (input_state_at profile there (Some why)) date Ended
found-end {R = R} {W = W} profile date here there end why found can = by found.0 found.1 found.2
  where
    Goal : EndOfRequests → Type 0
    Goal w = AskStep (input_state_at profile here end) (input_state_at profile there (Some w)) date Ended

    same-end : (w : EndOfRequests) → ◌≡◌ {A = Found} (Some (Ok (next.Ended why))) (Some (Ok (next.Ended w))) → w ≡ why
    same-end w is = cc

    refused : (status : StatusCode) (text : Vec ℕ) (last kept : Bool) → TakesHead profile date here.source there.source (Ok (read.Refused status text last)) → RefusesHead here.place here.output text.items kept there.place there.output
        → FollowsRefusal status last kept (Some (Ok (next.Ended why))) → Goal why
    refused status text true true h left f = subst Goal (same-end (because.Refused status) f) (finds-refused profile date here.source there.source here.output there.output here.place there.place end status text h left can)
    refused status text false true h left f = absurd (none-some (Ok (next.Ended why)) (sym f))
    refused status text last false h left f = absurd (ok-err (next.Ended why) f.0 f.1)

    U : OutletState W → Type 0
    U v = AskStep (input_state_at profile here end) (viewed profile there.source v there.place (Some why)) date Ended

    Q : Pending → Type 0
    Q a = AskStep (input_state_at profile here end) (viewed profile there.source here.output a (Some why)) date Ended

    by : (r : Result HeadRead AllocError) → TakesHead profile date here.source there.source r → Follows RefusesHead r here (Some (Ok (next.Ended why))) there → Goal why
    by (Ok (read.Request y)) h f = absurd (request-ended y why (sym f.0))
    by (Ok (read.Ended w)) h f =
        let T : EndOfRequests → Type 0 = λ w. TakesHead profile date here.source there.source (Ok (read.Ended w)) in
        subst U (sym f.1.1) (subst Q (sym f.1.0) (finds-end profile date here.source there.source here.output here.place end why (subst T (same-end w f.0) h) can))
    by (Ok (read.Refused status text last)) h f = refused status text last f.0 h f.1 f.2
    by (Err x) h f = absurd (ok-err (next.Ended why) x f.0)
