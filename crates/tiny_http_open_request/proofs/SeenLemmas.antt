-- Lines and heads among the bytes that a limit lets through.
use Rattle.std.proofs.Common.{◌≡◌, refl, sym, ap, ◌∙◌, subst, ℕ, ◌+◌, List, ◌++◌, length, take, Option, Some, None, length-append, arith}
use Rattle.std.proofs.Math.Seq.{take-append-add}
use Rattle.tiny_http_head.specs.declared.common.Header.{Header}
use Rattle.tiny_http_head.specs.declared.common.Method.{Method}
use Rattle.tiny_http_head.specs.declared.common.HTTPVersion.{HTTPVersion}
use Rattle.tiny_http_text.specs.Bytes.{crlf}
use Rattle.tiny_http_text.specs.Lines.{Line}
use Rattle.tiny_http_head.specs.Heads.{BeginsWithHeaderLines, BeginsWithRequestLine}
use Rattle.std.proofs.lemmas.List.{length-take-le}
use Rattle.tiny_http_io.specs.LineEnds.{EndsLine}
use Rattle.tiny_http_io.specs.Source.{IsWithin, seen_within}
use Rattle.tiny_http_open_request.specs.HeadReads.{IsSpent, left_after}
use Rattle.tiny_http_open_request.proofs.WithinLemmas.{line-text, line-before, headers-text}

-- what is seen of a text and what follows it
seen-on : (limit left : Option ℕ) (bytes text rest : List ℕ) → bytes ≡ text ++ rest → IsSpent limit bytes left rest → seen_within limit bytes ≡ text ++ seen_within left rest
seen-on None None bytes text rest e h = e
seen-on (Some limit) (Some left) bytes text rest e h =
    let long : length bytes ≡ length text + length rest = ap length e ∙ length-append text rest in
    let reaches : limit ≡ length text + left = omega (arith, h, long) in
    ap (take limit) e ∙ ap (λ n. take n (text ++ rest)) reaches ∙ take-append-add text rest left
seen-on None (Some left) bytes text rest e h = absurd h
seen-on (Some limit) None bytes text rest e h = absurd h

long-by : (bytes text rest : List ℕ) → bytes ≡ text ++ crlf ++ rest → length bytes ≡ length text + (2 + length rest)
long-by bytes text rest e = rw e (simp length-append (omega arith))

-- a line takes its bytes of the limit
pub spent-line : (limit left : Option ℕ) (bytes text rest : List ℕ) → Line bytes text rest → IsWithin limit (length text) → left ≡ left_after (length text) limit → IsSpent limit bytes left rest
spent-line limit left bytes text rest l within e = let P : Option ℕ → Type 0 = λ x. IsSpent limit bytes x rest in subst P (sym e) (by limit within)
  where
    long : length bytes ≡ length text + (2 + length rest)
    long = long-by bytes text rest l.joins

    by : (limit : Option ℕ) → IsWithin limit (length text) → IsSpent limit bytes (left_after (length text) limit) rest
    by None within = tt
    by (Some limit) within = omega (arith, within, long)

pub spent-more : (a b c : Option ℕ) (x y z : List ℕ) → IsSpent a x b y → IsSpent b y c z → IsSpent a x c z
spent-more None None None x y z h k = tt
spent-more (Some a) (Some b) (Some c) x y z h k = omega (arith, h, k)
spent-more None (Some b) c x y z h k = absurd h
spent-more (Some a) None c x y z h k = absurd h
spent-more None None (Some c) x y z h k = absurd k
spent-more (Some a) (Some b) None x y z h k = absurd k

pub spent-none : (a : Option ℕ) (x : List ℕ) → IsSpent a x a x
spent-none None x = tt
spent-none (Some a) x = refl

-- a line, a request line and header lines are seen as they are
pub seen-line : (limit left : Option ℕ) (bytes text rest : List ℕ) → Line bytes text rest → IsSpent limit bytes left rest → Line (seen_within limit bytes) text (seen_within left rest)
seen-line limit left bytes text rest l h =
    let P : List ℕ → Type 0 = λ x. Line x text (seen_within left rest) in
    subst P (sym (seen-on limit left bytes (text ++ crlf) rest (line-text bytes text rest l) h)) (line-before bytes text rest (seen_within left rest) l)

pub seen-start : (limit left : Option ℕ) (bytes : List ℕ) (method : Method) (path : List ℕ) (v : HTTPVersion) (rest : List ℕ) → BeginsWithRequestLine bytes method path v rest → IsSpent limit bytes left rest
    → BeginsWithRequestLine (seen_within limit bytes) method path v (seen_within left rest)
seen-start limit left bytes method path v rest h spent = (h.0, seen-line limit left bytes h.0 rest h.1 spent, h.2, h.3)

pub seen-headers : (limit left : Option ℕ) (bytes : List ℕ) (headers : List Header) (rest : List ℕ) → BeginsWithHeaderLines bytes headers rest → IsSpent limit bytes left rest
    → BeginsWithHeaderLines (seen_within limit bytes) headers (seen_within left rest)
seen-headers limit left bytes headers rest h spent =
    let text = headers-text bytes headers rest h in
    let P : List ℕ → Type 0 = λ x. BeginsWithHeaderLines x headers (seen_within left rest) in
    subst P (sym (seen-on limit left bytes text.0 rest text.1 spent)) (text.2 (seen_within left rest))

-- a line that is held
pub held-long : (held : List ℕ) (n : ℕ) → EndsLine held n → length (take n held) ≡ n
held-long held n h = length-take-le n held (omega (arith, h.within))
