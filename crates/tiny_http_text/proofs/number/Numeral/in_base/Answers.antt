use Rattle.std.proofs.Common.{◌≡◌, ℕ, suc, ◌+◌, ◌-◌, ◌%◌, ◌<◌, ◌^◌, false, drop, set, List, ◌∷◌, arith, ap, ◌∙◌, sym, subst, length-set, refl}
use Rattle.std.specs.Fmt.{digit_glyph}
use Rattle.std.specs.Str.{IsAscii}
use Rattle.std.proofs.lemmas.List.{drop-set}
use Rattle.std.proofs.lemmas.Str.Ascii.{IsAscii-nil, IsAscii-cons}
use Rattle.tiny_http_text.proofs.NumberLemmas.{spelled, digits-start, digits-next, digits-last, digits-fewer, digits-room}
use Rattle.tiny_http_text.proofs.number.Numeral.in_base.Goals as goal

pub loop-rest-init : goal.loop-rest-init
loop-rest-init c = record {
  size = refl;
  within = omega arith;
  small = omega arith;
  ascii = IsAscii-nil;
  text = digits-start c.args.base c.args.number _ refl;
}

pub loop-rest-preserved : goal.loop-rest-preserved
loop-rest-preserved c =
    let h = c.loop-rest.invariant in
    let room : 0 < c.loop-rest.start = digits-room c.loop-rest.rest c.loop-rest.start (omega arith) h.small in
    let at : c.loop-rest.start - 1 + 1 ≡ c.loop-rest.start = omega arith in
    let next : 45 + c.loop-rest.start ≡ suc (45 + (c.loop-rest.start - 1)) = omega arith in
    let P : ℕ → Type 0 = λ k. c.loop-rest.rest < 10 ^ k in
    let few : c.loop-rest.rest < 10 ^ suc c.loop-rest.start = subst P (omega arith) h.small in
    let more : List ℕ = set c.loop-rest.buffer c.loop-rest.start c.glyph.result in
    let before : List ℕ = drop (c.loop-rest.start + 1) c.loop-rest.buffer in
    let there : drop (c.loop-rest.start - 1 + 1) more ≡ c.glyph.result ∷ before =
    ap (λ (k : ℕ). drop k more) at ∙ drop-set c.loop-rest.buffer c.loop-rest.start c.glyph.result (omega arith) in
    let written : drop (c.loop-rest.start - 1 + 1) more ≡ digit_glyph false (c.loop-rest.rest % c.args.base) ∷ before = there ∙ ap (λ (x : ℕ). x ∷ before) c.glyph.ensures.value in
    record {
      size = simp length-set h.size;
      within = omega arith;
      small = rw at (digits-fewer c.args.base c.loop-rest.rest c.loop-rest.start c.requires.low few);
      ascii = subst IsAscii (sym there) (IsAscii-cons c.glyph.result before c.glyph.ensures.ascii h.ascii);
      text = h.text ∙ ap (λ (k : ℕ). spelled k c.args.base c.loop-rest.rest before) next ∙ digits-next (45 + (c.loop-rest.start - 1)) c.args.base c.loop-rest.rest _ _ (omega arith) c.loop-rest-test.true written;
    }

pub invariant_of-result : goal.invariant_of-result
invariant_of-result c =
    let before : List ℕ = drop (c.loop-rest.start + 1) c.loop-rest.buffer in
    let size = c.loop-rest.invariant.size in
    (omega arith, subst IsAscii (sym (drop-set c.loop-rest.buffer c.loop-rest.start c.glyph-2.result (omega arith))) (IsAscii-cons c.glyph-2.result before c.glyph-2.ensures.ascii c.loop-rest.invariant.ascii))

pub returns : goal.returns
returns c =
    let h = c.loop-rest.invariant in
    let next : 45 + c.loop-rest.start ≡ suc (44 + c.loop-rest.start) = omega arith in
    let before : List ℕ = drop (c.loop-rest.start + 1) c.loop-rest.buffer in
    let written : drop c.loop-rest.start (set c.loop-rest.buffer c.loop-rest.start c.glyph-2.result) ≡ digit_glyph false c.loop-rest.rest ∷ before =
    drop-set c.loop-rest.buffer c.loop-rest.start c.glyph-2.result (omega arith) ∙ ap (λ (x : ℕ). x ∷ before) c.glyph-2.ensures.value in
    sym (h.text ∙ ap (λ (k : ℕ). spelled k c.args.base c.loop-rest.rest before) next ∙ digits-last (44 + c.loop-rest.start) c.args.base c.loop-rest.rest _ _ c.loop-rest-test.false written)
