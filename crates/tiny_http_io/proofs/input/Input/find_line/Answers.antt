use Rattle.std.proofs.Common.{rules, ◌≡◌, ◌<◌, refl, sym, ap, ◌∙◌, subst, true, false, ℕ, List, [], ◌∷◌, Option, Some, None, Result, Ok, Err, arith}
use Rattle.std.specs.Prelude.{IfSome, IsSome, ◌≢◌}
use Rattle.std.specs.Global.{Vec}
use Rattle.tiny_http_io.specs.declared.device.Stop.{Stop}
use Rattle.tiny_http_io.specs.declared.source.LineFault.{LineFault}
use Rattle.tiny_http_io.specs.Source.{line_fault_of}
use Rattle.tiny_http_io.specs.declared.source.FirstLine.{FirstLine}
use Rattle.tiny_http_io.specs.declared.input.Input.{Input}
use Rattle.tiny_http_io.specs.Input.{input_stop, input_held, IsInputOver}
use Rattle.tiny_http_io.proofs.WithinLines.{full-held}
use Rattle.tiny_http_io.proofs.SourceLines.{takes-line}
use Rattle.tiny_http_io.proofs.input.Input.find_line.Goals as goal

pub returns-in-Ok-clause-line : goal.returns-in-Ok-clause-line
returns-in-Ok-clause-line g c = (takes-line _ _ c.in-Ok.text.items (sym c.fill.ensures.feed ∙ c.in-Ok.ensures.text) c.in-Ok.ensures.first, c.in-Ok.ensures.within)

pub returns-in-Ok-clause-full : goal.returns-in-Ok-clause-full
returns-in-Ok-clause-full g c =
    full-held _ c.args.left c.args.self.now.skip c.args.self.now.held c.fill.new.self.held (c.if-is_reached.ensures.below (search rules)) (subst (λ k. IfSome c.args.left (λ m. k < m)) c.len.ensures.len (c.if-is_reached-2.ensures.below (search rules))) (λ less. ap input_held (c.fill.ensures.held less))

-- what is found was read from an input that wasn't over
open-read : {X : Type 0} (left : Option ℕ) (r : Result (Vec ℕ) LineFault) (text : Vec ℕ) (stop : Option Stop) → r ≡ Ok text → IsSome stop → IfSome left (λ m. 0 < m) → (left ≢ Some 0 → X × IfSome stop (λ s. r ≡ Err (line_fault_of s))) → ⊥
open-read left r text None e some below stays = let no : false ≡ true = some in cc
open-read left r text (Some s) e some below stays = let no : ◌≡◌ {A = Result (Vec ℕ) LineFault} (Ok text) (Err (line_fault_of s)) = sym e ∙ (stays (nonzero left below)).1 in cc
  where
    nonzero : (left : Option ℕ) → IfSome left (λ m. 0 < m) → left ≡ Some 0 → ⊥
    nonzero None below e = cc
    nonzero (Some m) below e = let zero_is : m ≡ 0 = cc in absurd (omega (arith, below, zero_is))

pub returns-in-Ok-clause-lazy : goal.returns-in-Ok-clause-lazy
returns-in-Ok-clause-lazy g c = by c.fill.new.self.held refl
  where
    by : (held : List ℕ) → c.fill.new.self.held ≡ held → input_stop c.read_slowly.new.self ≡ input_stop c.args.self.now
    by [] e =
        let stopped_is = c.fill.ensures.over e in
        absurd (open-read c.args.left (Ok c.in-Ok.text) c.in-Ok.text c.fill.new.self.stop refl stopped_is (c.if-is_reached.ensures.below (search rules)) (c.in-Ok.ensures.stays (stopped_is, e, c.fill.ensures.skip)))
    by (b ∷ bs) e = c.in-Ok.ensures.lazy ∙ c.fill.ensures.lazy (rw e (omega arith))

pub returns-in-Err-clause-stays : goal.returns-in-Err-clause-stays
returns-in-Err-clause-stays g c over nonzero =
    let same = c.fill.ensures.stays over in
    let P : Input g.row.R.Denot → Type 0 = λ x. IsInputOver x in
    let R : Input g.row.R.Denot → Type 0 = λ x. IfSome (input_stop x) (λ s. ◌≡◌ {A = Result FirstLine LineFault} (Err c.in-Err.fault) (Err (line_fault_of s))) in
    let k = c.in-Err.ensures.stays (subst P (sym same) over) nonzero in
    (k.0 ∙ same, subst R same (fault-of (input_stop c.fill.new.self) c.in-Err.fault k.1))
  where
    fault-of : (o : Option Stop) (f : LineFault) → IfSome o (λ s. ◌≡◌ {A = Result (Vec ℕ) LineFault} (Err f) (Err (line_fault_of s))) → IfSome o (λ s. ◌≡◌ {A = Result FirstLine LineFault} (Err f) (Err (line_fault_of s)))
    fault-of None f h = tt
    fault-of (Some s) f h = let same : f ≡ line_fault_of s = cc in ap Err same
