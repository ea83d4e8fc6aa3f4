-- How a step is replied.
use Rattle.std.proofs.Common.{◌≡◌, refl, sym, ap, ◌∙◌, ℕ, Bool, true, false, not, ◌&&◌, List, Option, Some, None, Result, Ok, Err}
use Rattle.std.specs.declared.io.Error.{Error}
use Rattle.std.specs.Prelude.{◌↔◌, ◌==◌, IsTrue, slice_get}
use Rattle.std.proofs.lemmas.Bool.{eqb-true, eq-eqb}
use Rattle.tiny_http_turns.specs.Turns.{Mark, Open, Held, Left, Finished, first_unfinished}
use Rattle.tiny_http_connection.specs.Steps.{ReplyValue, NoSuch, Refused, NotYet}
use Rattle.tiny_http_connection.specs.Seen.{IsAnswered, write_reply}
use Rattle.tiny_http_connection.specs.Replies.{IsReplied, is_open_mark}

pub replied-none : (takes refused waits : Bool) → takes ≡ false → IsReplied takes refused waits NoSuch
replied-none true refused waits e = cc
replied-none false refused waits e = refl

pub replied-refused : (takes refused waits : Bool) → takes ≡ true → refused ≡ true → IsReplied takes refused waits Refused
replied-refused true true waits e f = refl
replied-refused true false waits e f = cc
replied-refused false refused waits e f = cc

pub replied-later : (takes refused waits : Bool) → takes ≡ true → refused ≡ false → waits ≡ true → IsReplied takes refused waits NotYet
replied-later true false true e f g = refl
replied-later true false false e f g = cc
replied-later true true waits e f g = cc
replied-later false refused waits e f g = cc

pub replied-done : (takes refused waits : Bool) (reply : ReplyValue) → takes ≡ true → refused ≡ false → waits ≡ false → IsAnswered reply → IsReplied takes refused waits reply
replied-done true false false reply e f g a = a
replied-done true false true reply e f g a = cc
replied-done true true waits reply e f g a = cc
replied-done false refused waits reply e f g a = cc

-- a raw writer's call is done, or its fault is reported
pub write-answered : {T : Type 0} (r : Result T Error) → IsAnswered (write_reply r)
write-answered (Ok x) = tt
write-answered (Err e) = tt

open-mark : (o : Option Mark) → is_open_mark o ≡ true → o ≡ Some Open
open-mark None e = cc
open-mark (Some Open) e = refl
open-mark (Some Held) e = cc
open-mark (Some (Left text)) e = cc
open-mark (Some Finished) e = cc

-- whether a number could be held says whether its turn has come
pub held-in_turn : (r : Bool) (k : ℕ) (marks : List Mark) → IsTrue r ↔ ((slice_get marks k ≡ Some Open) × (k ≡ first_unfinished marks)) → (is_open_mark (slice_get marks k) && (k == first_unfinished marks)) ≡ r
held-in_turn true k marks h =
    let both = h.0 refl in
    rw (ap is_open_mark both.0, eq-eqb k (first_unfinished marks) both.1) refl
held-in_turn false k marks h = by (is_open_mark (slice_get marks k)) (k == first_unfinished marks) refl refl
  where
    by : (a b : Bool) → is_open_mark (slice_get marks k) ≡ a → (k == first_unfinished marks) ≡ b → (a && b) ≡ false
    by false b e f = refl
    by true false e f = refl
    by true true e f = let no : IsTrue false = h.1 (open-mark (slice_get marks k) e, eqb-true k (first_unfinished marks) f) in absurd (false-true no)
      where
        false-true : IsTrue false → ⊥
        false-true e = cc
