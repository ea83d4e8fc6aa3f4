-- A writer and what waits in front of it, as one sink.
use Rattle.std.proofs.Common.{◌≡◌, refl, sym, ap, ◌∙◌, subst, ℕ, ◌+◌, ◌-◌, ◌<◌, ◌≤◌, List, [], ◌++◌, length, take, drop, length-drop, length-append, Some, arith}
use Rattle.std.proofs.lemmas.List.{take-append-drop, take_all, take-append-le}
use Rattle.std.proofs.Math.Seq.{take-append-add}
use Rattle.std.specs.declared.io.ErrorKind.{ErrorKind}
use Rattle.std.specs.Io.KnownBytes.{append_known}
use Rattle.tiny_http_io.specs.Device.{Sink, grown, BeginsKnown, Took, Failed, next_count}
use Rattle.tiny_http_io.proofs.DeviceFeeds.{append_known-append}
use Rattle.tiny_http_io.proofs.DeviceLemmas.{IsFront-same, Failed-append, Failed-front}
use Rattle.tiny_http_socket.specs.Corked.{CorkedState, corked_sink, takes_none, taken_by}
use Rattle.tiny_http_socket.specs.declared.corked.State.TheVariants.{Open, Broken, Ended}

-- the writer took all that waited, and so many bytes behind it
pub takes-behind : (a b : Sink) (lent waiting text : List ℕ) (held n : ℕ) → held ≡ length waiting → lent ≡ waiting → held < n → (n ≤ length (lent ++ text)) × (0 < length (lent ++ text) → 0 < n) × Took a b (take n (lent ++ text))
    → (n - held ≤ length text) × (0 < length text → 0 < n - held) × Took a b (waiting ++ take (n - held) text)
takes-behind a b lent waiting text held n all same more puts =
    let N : List ℕ → Type 0 = λ w. (n ≤ length (w ++ text)) × (0 < length (w ++ text) → 0 < n) × Took a b (take n (w ++ text)) in
    let of = subst N same puts in
    let fits = of.0 in
    let took = of.2 in
    let m = n - held in
    let whole : n ≡ length waiting + m = omega (arith, more, all) in
    let P : List ℕ → Type 0 = λ t. Took a b t in
    (omega (arith, fits, more, all, length-append waiting text), λ _. omega (arith, more), subst P (ap (λ k. take k (waiting ++ text)) whole ∙ take-append-add waiting text m) took)

-- the writer took a front of what waited, and failed in the rest
pub fails-within : (a b c : Sink) (lent again waiting text : List ℕ) (n : ℕ) (kind : ErrorKind) → lent ≡ waiting → again ≡ waiting → n ≤ length waiting → Took a b (take n (lent ++ text))
    → Failed b c (take (length again - n) (drop n again)) kind → Failed a c (waiting ++ text) kind
fails-within a b c lent again waiting text n kind same same-again within took-lent failed-again =
    let L : List ℕ → Type 0 = λ w. Took a b (take n (w ++ text)) in
    let F : List ℕ → Type 0 = λ w. Failed b c (take (length w - n) (drop n w)) kind in
    let took = subst L same took-lent in
    let failed = subst F same-again failed-again in
    let P : List ℕ → Type 0 = λ s. Failed b c s kind in
    let Q : List ℕ → Type 0 = λ s. Failed a c s kind in
    let T : List ℕ → Type 0 = λ t. Took a b t in
    let fits : length (drop n waiting) ≤ length waiting - n = omega (arith, length-drop n waiting) in
    Failed-front a c waiting text kind (subst Q (take-append-drop n waiting)
    (Failed-append a b c (take n waiting) (drop n waiting) kind (subst T (take-append-le n waiting text within) took) (subst P (take_all (length waiting - n) (drop n waiting) fits) failed)))

-- the writer failed in what waited and a text behind it, and that is reported
pub fails-now : {W : Type 0} (c m e : CorkedState W) (text : List ℕ) (met stop_count : ErrorKind) → c.state ≡ Open → Failed c.sink m.sink (c.waiting ++ text) met → BeginsKnown m.sink.sent m.sink.taken
    → m ≡ record c { waiting = []; writer = m.writer; sink = m.sink } → e ≡ record m { waiting = []; state = Ended; failures = next_count m.failures; last = Some met } → stop_count ≡ met
    → Failed (corked_sink c) (corked_sink e) text stop_count
fails-now {W = W} c m e text met stop_count is_open failed begins same ended kind =
    let P : CorkedState W → Type 0 = λ x. Failed (corked_sink c) (corked_sink x) text stop_count in
    subst P (sym ended) (record {
      bytes = (failed.bytes.0, whole ∙ failed.bytes.1);
      sent = failed.sent;
      keeps = begins;
      failures = ap (λ x. next_count x.failures) same;
      last_kind = sym kind;
      was_open = ap (λ s. takes_none s c.sink) is_open ∙ failed.was_open;
    })
  where
    whole : append_known (corked_sink c).taken text ≡ append_known c.sink.taken (c.waiting ++ text)
    whole = ap (λ s. append_known (taken_by s c.sink c.waiting) text) is_open ∙ ap (λ b. append_known (grown b c.sink.taken c.waiting) text) failed.was_open ∙ append_known-append c.sink.taken c.waiting text

-- a fault that was met earlier is reported
pub fails-later : {W : Type 0} (c e : CorkedState W) (text : List ℕ) (met stop_count last : ErrorKind) → c.state ≡ Broken met → BeginsKnown c.sink.sent c.sink.taken
    → e ≡ record c { waiting = []; state = Ended; failures = next_count c.failures; last = Some last } → stop_count ≡ last
    → Failed (corked_sink c) (corked_sink e) text stop_count
fails-later {W = W} c e text met stop_count last broken begins ended kind =
    let P : CorkedState W → Type 0 = λ x. Failed (corked_sink c) (corked_sink x) text stop_count in
    subst P (sym ended) (record {
      bytes = (text, ap (λ s. append_known (taken_by s c.sink c.waiting) text) broken);
      sent = IsFront-same c.sink.sent;
      keeps = begins;
      failures = refl;
      last_kind = sym kind;
      was_open = ap (λ s. takes_none s c.sink) broken;
    })
