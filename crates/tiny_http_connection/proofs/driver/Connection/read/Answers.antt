use Rattle.std.proofs.Common.{rules, ◌≡◌, refl, sym, ap, ◌∙◌, subst, List, [], ◌∷◌, Ok, Err, ℕ, ◌+◌, ◌++◌, ◌<◌, ◌≤◌, true, length, take, drop, arith, inl, inr}
use Rattle.std.proofs.lemmas.Grind.{common_steps}
use Rattle.std.specs.Prelude.{slice_get}
use Rattle.std.specs.declared.io.ErrorKind.{ErrorKind}
use Rattle.tiny_http_connection.specs.Steps.{Read, Given, Fault, NoSuch, Memory}
use Rattle.tiny_http_turns.specs.Turns.{Mark}
use Rattle.tiny_http_connection.specs.Connection.{Kept, kept}
use Rattle.tiny_http_connection.specs.Seen.{seen}
use Rattle.tiny_http_connection.specs.Driving.{given_count, ClosesBody}
use Rattle.tiny_http_body.specs.Body.{ends_met, is_whole}
use Rattle.tiny_http_body.specs.declared.body.UnreadBody.{UnreadBody}
use Rattle.tiny_http_connection.proofs.ConnectionAsk.{StepIsAnswered}
use Rattle.tiny_http_connection.proofs.ConnectionBody.{with_reader}
use Rattle.tiny_http_connection.proofs.ConnectionRead.{read-nothing, readable-some, read-none, read-memory, read-done}
use Rattle.tiny_http_connection.proofs.ReadGives.{reads-nothing, fills-next, fails-next, fills-on, fails-on}
use Rattle.tiny_http_connection.proofs.DrivingLemmas.{viewed, takes-read, driving-reads-on, moves-none, represents-after}
use Rattle.tiny_http_connection.proofs.driver.Connection.read.Goals.{in-Ok-fill, in-Err}
use Rattle.tiny_http_connection.proofs.driver.Connection.read.Goals as goal

-- a slice of all the bytes, written back
whole : (buf items : List ℕ) {count : ℕ} (n : ℕ) → n ≡ length items → length buf ≡ count → length items ≡ count → take n (buf ++ drop (length buf) items) ≡ buf
whole buf items n e f g = grind (arith, common_steps)

-- so many bytes are in the reply
taken-count : (buf bytes : List ℕ) (n : ℕ) → take n buf ≡ bytes → n ≤ length buf → length bytes ≡ n
taken-count buf bytes n came bound = grind (arith, common_steps)

given-bytes : (xs ys : List ℕ) → Given xs ≡ Given ys → xs ≡ ys
given-bytes xs ys e = cc

gives-none : (kind : ErrorKind) (bytes : List ℕ) → Fault kind ≡ Given bytes → ⊥
gives-none kind bytes e = cc

-- as many bytes came as were asked for
all-came : (buf bytes : List ℕ) (n count : ℕ) → take n buf ≡ bytes → length buf ≡ count → n ≤ length buf → length bytes ≡ count → n ≡ length buf
all-came buf bytes n count came size bound all = grind (arith, common_steps)

none : (l : List ℕ) → length l ≡ 0 → [] ≡ l
none [] e = refl
none (x ∷ xs) e = absurd (omega (arith, e))

-- a read that gave nothing met the end of a whole body
closes-ok : (body : UnreadBody) (n count : ℕ) (buf bytes : List ℕ) → length bytes ≡ n → length buf ≡ count → (n ≡ 0 → 0 < length buf → is_whole body ≡ true) → ClosesBody count (Given bytes) body
closes-ok body n count buf [] many size h = λ some. h (sym many) (omega (arith, size, some))
closes-ok body n count buf (x ∷ xs) many size h = tt

pub returns-then-not-is_readable-clause-step : goal.returns-then-not-is_readable-clause-step
returns-then-not-is_readable-clause-step g c date =
    let n = c.args.number in
    let q = c.self.inside in
    let old = viewed q.profile q.source q.outlet q.pending q.end in
    rw (← c.self.view_is) (takes-read old old date n c.args.count NoSuch
    (λ client before s st. read-nothing client before (kept old) s date n c.args.count st (sym c.is_readable.ensures ∙ c.if-not-is_readable.true)) (λ no. refl) refl (refl, refl, sym c.is_readable.ensures ∙ c.if-not-is_readable.true) (moves-none old))

pub returns-then-count-eq0-clause-step : goal.returns-then-count-eq0-clause-step
returns-then-count-eq0-clause-step g c date =
    let n = c.args.number in
    let q = c.self.inside in
    let old = viewed q.profile q.source q.outlet q.pending q.end in
    let k : Kept = kept old in
    let free = sym c.is_readable.ensures ∙ c.if-not-is_readable.false in
    let no_bytes : length c.new.result.items ≡ 0 = search rules in
    let w = readable-some (slice_get k.requests n) free in
    rw (← c.self.view_is) (takes-read old old date n c.args.count (Given c.new.result.items)
    (λ client before s st.
    let P : List ℕ → Type 0 = λ l. StepIsAnswered client before k s date (Read n c.args.count) (Given l) in
    subst P (none _ (search rules)) (read-none client before k s date n c.args.count w.0 w.1 st w.2 w.3 w.4 c.if-count-eq0.true)) (λ no. refl) refl
    (refl, refl, (free, omega (arith, c.if-count-eq0.true, no_bytes), reads-nothing old n c.args.count c.new.result.items w.0 w.1 w.2 w.4 c.if-count-eq0.true (none _ (search rules)))) (moves-none old))

pub returns-in_default-clause-step : goal.returns-in_default-clause-step
returns-in_default-clause-step g c date =
    let n = c.args.number in
    let q = c.self.inside in
    let old = viewed q.profile q.source q.outlet q.pending q.end in
    let k : Kept = kept old in
    rw (← c.self.view_is) (takes-read old old date n c.args.count Memory
    (λ client before s st.
    let w = readable-some (slice_get k.requests n) (sym c.is_readable.ensures ∙ c.if-not-is_readable.false) in
    read-memory client before k s date n c.args.count w.0 w.1 st w.2 w.3 w.4 (omega (arith, c.if-count-eq0.false))) (λ no. refl) refl (refl, refl, (sym c.is_readable.ensures ∙ c.if-not-is_readable.false, omega (arith, c.if-count-eq0.false))) (moves-none old))

pub returns-clause-step : goal.returns-clause-step
returns-clause-step g c date =
    let n = c.args.number in
    let q = c.self.inside in
    let old = viewed q.profile q.source q.outlet q.pending q.end in
    let new = viewed q.profile c.fill.new.source q.outlet c.fill.new.self q.end in
    let k : Kept = kept old in
    let w = readable-some (slice_get k.requests n) (sym c.is_readable.ensures ∙ c.if-not-is_readable.false) in
    let size : length c.fill.new.buf ≡ c.args.count = search (rules, c.in-Ok.ensures) in
    rw (← c.self.view_is) (takes-read old new date n c.args.count (seen c.match-fill.result)
    (λ client before s st. elim c.match-fill.branch [
      | in-Ok-fill b ↦
          let fills = b.in-Ok-fill.ensures.fills w.0 w.1 w.2 w.4 in
          let done = read-done client before k s date n c.args.count w.0 w.1 fills.0 q.source c.fill.new.source c.fill.new.self.requests (Ok b.in-Ok-fill.n) c.fill.new.buf st w.2 w.3 w.4 fills.1 (record { feed = refl; stop = refl; ends = refl; input_state = refl }) b.in-Ok-fill.ensures.bound size (omega (arith, c.if-count-eq0.false)) fills.2 fills.3 fills.4 c.fill.ensures.goes_on in
          let P : List Mark → List ℕ → Type 0 = λ m l. StepIsAnswered client before (record (with_reader k c.fill.new.self.requests c.fill.new.source) { marks = m }) s date (Read n c.args.count) (Given l) in
          rw b.result-is (subst (λ l. P c.fill.new.self.turns.marks l) (ap (take b.in-Ok-fill.n) (sym (whole c.fill.new.buf c.in-Ok.bytes.items c.in-Ok.bytes.len (search (rules, c.in-Ok.ensures)) size c.in-Ok.ensures)) ∙ sym b.truncate.ensures.items) (subst (λ m. P m (take b.in-Ok-fill.n c.fill.new.buf)) (ap (λ t. t.marks) (sym c.fill.ensures.turns)) done))
      | in-Err b ↦
          let fills = b.in-Err.ensures.fills w.0 w.1 w.2 w.4 in
          let done = read-done client before k s date n c.args.count w.0 w.1 fills.0 q.source c.fill.new.source c.fill.new.self.requests (Err b.in-Err.kind) c.fill.new.buf st w.2 w.3 w.4 fills.1 (record { feed = refl; stop = refl; ends = refl; input_state = refl }) tt size (omega (arith, c.if-count-eq0.false)) fills.2 fills.3 fills.4 c.fill.ensures.goes_on in
          let P : List Mark → Type 0 = λ m. StepIsAnswered client before (record (with_reader k c.fill.new.self.requests c.fill.new.source) { marks = m }) s date (Read n c.args.count) (Fault b.in-Err.kind) in
          rw b.result-is (subst P (ap (λ t. t.marks) (sym c.fill.ensures.turns)) done)
    ])
    (elim c.match-fill.branch [ in-Ok-fill b ↦ rw b.result-is (λ no. elim no [ ]) | in-Err b ↦ rw b.result-is (λ no. elim no [ ]) ]) refl (
      refl,
      ap (λ t. t.marks) c.fill.ensures.turns,
      elim c.match-fill.branch [
        | in-Ok-fill b ↦
            let fills = b.in-Ok-fill.ensures.fills w.0 w.1 w.2 w.4 in
            let items = whole c.fill.new.buf c.in-Ok.bytes.items c.in-Ok.bytes.len (search (rules, c.in-Ok.ensures)) size c.in-Ok.ensures in
            let came : take b.in-Ok-fill.n c.fill.new.buf ≡ _ = ap (take b.in-Ok-fill.n) (sym items) ∙ sym b.truncate.ensures.items in
            let few = b.in-Ok-fill.ensures.bound in
            let many : length _ ≡ b.in-Ok-fill.n = taken-count c.fill.new.buf _ b.in-Ok-fill.n came few in
            rw b.result-is (
              sym c.is_readable.ensures ∙ c.if-not-is_readable.false,
              omega (arith, many, few, size),
              (
                w.0,
                w.1,
                fills.0,
                w.2,
                w.4,
                fills.1,
                represents-after w.1 fills.0 q.source c.fill.new.source fills.3 fills.4,
                fills-next w.1 fills.0 q.source.feed c.fill.new.source.feed b.in-Ok-fill.n c.args.count c.fill.new.buf _ size few (sym came) (omega (arith, c.if-count-eq0.false)) fills.2,
                λ some. fills-on w.1 fills.0 q.source.feed c.fill.new.source.feed b.in-Ok-fill.n c.args.count c.fill.new.buf _ size many some fills.2,
                closes-ok fills.0 b.in-Ok-fill.n c.args.count c.fill.new.buf _ many size fills.2.4,
              ),
            )
        | in-Err b ↦
            let fills = b.in-Err.ensures.fills w.0 w.1 w.2 w.4 in
            rw b.result-is (
              sym c.is_readable.ensures ∙ c.if-not-is_readable.false,
              omega (arith, c.if-count-eq0.false),
              (
                w.0,
                w.1,
                fills.0,
                w.2,
                w.4,
                fills.1,
                represents-after w.1 fills.0 q.source c.fill.new.source fills.3 fills.4,
                fails-next w.1 fills.0 q.source.feed c.fill.new.source.feed b.in-Err.kind c.args.count c.fill.new.buf fills.2,
                λ some. fails-on w.1 fills.0 q.source.feed c.fill.new.source.feed b.in-Err.kind c.args.count c.fill.new.buf some fills.2,
                fills.2.3,
              ),
            )
      ],
    )
    (driving-reads-on old new refl refl c.fill.ensures.goes_on))

pub returns-clause-stop_count : goal.returns-clause-stop_count
returns-clause-stop_count g c = rw (← c.self.view_is) c.fill.ensures.stop_count

pub returns-clause-lazy : goal.returns-clause-lazy
returns-clause-lazy g c =
    let size : length c.fill.new.buf ≡ c.args.count = search (rules, c.in-Ok.ensures) in
    rw (← c.self.view_is) (λ bytes given all. elim c.match-fill.branch [
      | in-Ok-fill b ↦
          let items = whole c.fill.new.buf c.in-Ok.bytes.items c.in-Ok.bytes.len (search (rules, c.in-Ok.ensures)) size c.in-Ok.ensures in
          let came : take b.in-Ok-fill.n c.fill.new.buf ≡ bytes = ap (take b.in-Ok-fill.n) (sym items) ∙ sym b.truncate.ensures.items ∙ given-bytes _ _ (ap seen (sym b.result-is) ∙ given) in
          b.in-Ok-fill.ensures.lazy (all-came c.fill.new.buf bytes b.in-Ok-fill.n c.args.count came size b.in-Ok-fill.ensures.bound all)
      | in-Err b ↦ absurd (gives-none b.in-Err.kind bytes (ap seen (sym b.result-is) ∙ given))
    ])

pub returns-clause-whole : goal.returns-clause-whole
returns-clause-whole g c =
    let n = c.args.number in
    let stop_count = g.R.ReadDevice.stop_count in
    let q = c.self.inside in
    let k : Kept = kept (viewed q.profile q.source q.outlet q.pending q.end) in
    let w = readable-some (slice_get k.requests n) (sym c.is_readable.ensures ∙ c.if-not-is_readable.false) in
    let size : length c.fill.new.buf ≡ c.args.count = search (rules, c.in-Ok.ensures) in
    rw (← c.self.view_is) (elim c.match-fill.branch [
      | in-Ok-fill b ↦
          let fills = b.in-Ok-fill.ensures.fills w.0 w.1 w.2 w.4 in
          let items = whole c.fill.new.buf c.in-Ok.bytes.items c.in-Ok.bytes.len (search (rules, c.in-Ok.ensures)) size c.in-Ok.ensures in
          let count : given_count (seen c.match-fill.result) ≡ b.in-Ok-fill.n = ap (λ r. given_count (seen r)) b.result-is ∙ taken-count c.fill.new.buf _ b.in-Ok-fill.n (ap (take b.in-Ok-fill.n) (sym items) ∙ sym b.truncate.ensures.items) b.in-Ok-fill.ensures.bound in
          inr (w.0, w.1, fills.0, w.2, w.4, fills.1, subst (λ m. stop_count c.fill.new.source.reader ≤ stop_count q.source.reader + ends_met w.1 m fills.0) (sym count) fills.5)
      | in-Err b ↦
          let fills = b.in-Err.ensures.fills w.0 w.1 w.2 w.4 in
          let count : given_count (seen c.match-fill.result) ≡ 0 = ap (λ r. given_count (seen r)) b.result-is in
          inr (w.0, w.1, fills.0, w.2, w.4, fills.1, subst (λ m. stop_count c.fill.new.source.reader ≤ stop_count q.source.reader + ends_met w.1 m fills.0) (sym count) fills.5)
    ])
