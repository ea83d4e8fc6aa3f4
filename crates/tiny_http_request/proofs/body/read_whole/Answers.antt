use Rattle.std.proofs.Common.{rules, ◌≡◌, sym, ap, ◌∙◌, ℕ, zero, suc, ◌+◌, ◌≤◌, List, [], ◌∷◌, ◌++◌, length, take, drop, Option, take_all, arith}
use Rattle.std.proofs.Math.Seq.{take-nil}
use Rattle.tiny_http_io.specs.Device.{Feed, prepended}
use Rattle.tiny_http_io.proofs.DeviceFeeds.{given-along}
use Rattle.tiny_http_request.proofs.body.read_whole.Goals as goal

take-take : (at n : ℕ) (s : List ℕ) → take (at + n) s ≡ take at s ++ take n (drop at s)
take-take zero n s = ap (λ k. take k s) (omega arith)
take-take (suc at) n [] = take-nil (suc at + n) ∙ sym (take-nil n)
take-take (suc at) n (x ∷ xs) =
    let shift : suc at + n ≡ suc (at + n) = omega arith in
    ap (λ k. take k (x ∷ xs)) shift ∙ ap (λ r. x ∷ r) (take-take at n xs)

-- bytes after others
read-more : (first mid last : Option Feed) (old new : List ℕ) (at n : ℕ) → first ≡ prepended (take at old) mid
    → mid ≡ prepended (take n (drop at new)) last → take at new ≡ take at old → first ≡ prepended (take (at + n) new) last
read-more first mid last old new at n one two front =
    given-along first mid last (take at old) (take n (drop at new)) (take (at + n) new) one two
    (take-take at n new ∙ ap (λ bs. bs ++ take n (drop at new)) front)

pub loop-at-preserved : goal.loop-at-preserved
loop-at-preserved g c = record {
  within = omega (arith, c.in_ok-n.ensures.bound);
  read = read-more _ _ _ c.loop-at.buf c.read_behind.new.buf c.loop-at.at c.in_ok-n.n c.loop-at.invariant.read c.in_ok-n.ensures.reads.bytes c.in_ok-n.ensures.front;
}

pub returns : goal.returns
returns g c = c.loop-at.invariant.read ∙ ap (λ bs. prepended bs (g.R.ReadDevice.feed c.loop-at.reader)) (take_all c.loop-at.at c.loop-at.buf (search rules))
