-- A source that is over: its input is, and stays so.
use Rattle.std.proofs.Common.{◌≡◌, ◌≢◌, refl, ap, true, ℕ, List, [], ◌∷◌, Option, Some, length, arith}
use Rattle.std.specs.Prelude.{◌&&◌, ◌==◌, is_some, IfSome}
use Rattle.std.proofs.lemmas.Bool.{and_parts, eqb-true}
use Rattle.tiny_http_io.specs.Device.{Feed}
use Rattle.tiny_http_io.specs.declared.device.Stop.{Stop}
use Rattle.tiny_http_io.specs.declared.input.Input.{Input}
use Rattle.tiny_http_io.specs.declared.source.InputState.{InputState}
use Rattle.tiny_http_io.specs.Input.{input_feed, input_stop, input_reader, input_held, input_skip, is_input_over, IsInputOver}
use Rattle.tiny_http_io.specs.Source.{SourceState}

pub input-over : {R : Type 0} (s : Input R) → is_input_over s ≡ true → IsInputOver s
input-over s e =
    let a = and_parts (is_some s.stop) ((length s.held == 0) && (s.skip == 0)) e in
    let b = and_parts (length s.held == 0) (s.skip == 0) a.1 in
    (a.0, none s.held (eqb-true (length s.held) 0 b.0), eqb-true s.skip 0 b.1)
  where
    none : (xs : List ℕ) → length xs ≡ 0 → xs ≡ []
    none [] e = refl
    none (x ∷ xs) e = absurd (omega (arith, e))

-- a source over this input that stands there
abbrev pub state_of : {R : Type 0} → (R → Option Feed) → InputState → Input R → SourceState R
state_of feed input_state s = record { feed = input_feed feed s; stop = input_stop s; is_over = is_input_over s; reader = input_reader s; held = input_held s; skip = input_skip s; input_state = input_state }

-- an input that stays, and so does its source; what is said of its stop is said of that
pub source-stays : {R : Type 0} (feed : R → Option Feed) (input_state : InputState) (old new : Input R) (left : Option ℕ) (Reports : Stop → Type 0) → (IsInputOver old → left ≢ Some 0 → (new ≡ old) × IfSome (input_stop old) Reports)
    → is_input_over old ≡ true → left ≢ Some 0 → (state_of feed input_state new ≡ state_of feed input_state old) × IfSome (input_stop old) Reports
source-stays {R = R} feed input_state old new left Reports stays over some =
    let P : Input R → SourceState R = λ s. state_of feed input_state s in
    let h = stays (input-over old over) some in
    (ap P h.0, h.1)
