-- Heads among the first so many bytes.
use Rattle.std.proofs.Common.{◌≡◌, refl, sym, ap, ◌∙◌, subst, ℕ, zero, suc, ◌+◌, ◌-◌, ◌<◌, ◌≤◌, List, [], ◌∷◌, ◌++◌, length, take, drop, append_assoc, length-append, arith}
use Rattle.std.proofs.lemmas.List.{take-append-drop, take_all}
use Rattle.std.proofs.Math.Seq.{take-append-add, drop-append-add}
use Rattle.tiny_http_head.specs.declared.common.Header.{Header}
use Rattle.tiny_http_text.specs.Bytes.{crlf}
use Rattle.tiny_http_text.specs.Lines.{Line}
use Rattle.tiny_http_head.specs.Heads.{Message, BeginsWithHeaderLines, BeginsWithRequestHead}

-- a line is its text and CR LF, whatever follows
pub line-text : (bytes text rest : List ℕ) → Line bytes text rest → bytes ≡ (text ++ crlf) ++ rest
line-text bytes text rest l = l.joins ∙ simp append_assoc

pub line-before : (bytes text rest x : List ℕ) → Line bytes text rest → Line ((text ++ crlf) ++ x) text x
line-before bytes text rest x l = record { joins = simp append_assoc; first = l.first }

-- header lines are a text of their own
abbrev pub HeaderText : List ℕ → List Header → List ℕ → Type 0
HeaderText bytes headers rest = (text : List ℕ) × (bytes ≡ text ++ rest) × ((x : List ℕ) → BeginsWithHeaderLines (text ++ x) headers x)

joined : (a b c : List ℕ) (bytes next : List ℕ) → bytes ≡ a ++ next → next ≡ b ++ c → bytes ≡ (a ++ b) ++ c
joined a b c bytes next e f = e ∙ ap (λ y. a ++ y) f ∙ simp append_assoc

pub headers-text : (bytes : List ℕ) (headers : List Header) (rest : List ℕ) → BeginsWithHeaderLines bytes headers rest → HeaderText bytes headers rest
headers-text bytes [] rest h = ([], sym h, λ x. refl)
headers-text bytes (header ∷ headers) rest h =
    let more = headers-text h.1 headers rest h.5 in
    let line = h.0 ++ crlf in (
      line ++ more.0,
      joined line more.0 rest bytes h.1 (line-text bytes h.0 h.1 h.2) more.1,
      λ x. (
          let P : List ℕ → Type 0 = λ y. Line y h.0 (more.0 ++ x) in
          (h.0, more.0 ++ x, subst P (simp append_assoc) (line-before bytes h.0 h.1 (more.0 ++ x) h.2), h.3, h.4, more.2 x)
          ),
    )

-- a head is a text of its own
pub head-text : (bytes : List ℕ) (m : Message) (after : List ℕ) → BeginsWithRequestHead bytes m after
    → (text : List ℕ) × (bytes ≡ text ++ after) × ((x : List ℕ) → BeginsWithRequestHead (text ++ x) m x)
head-text bytes m after h =
    let start = h.2 in
    let headers = headers-text h.0 m.headers h.1 h.3 in
    let line = start.0 ++ crlf in
    let end : List ℕ = [] ++ crlf in (
      line ++ (headers.0 ++ end),
      joined line (headers.0 ++ end) after bytes h.0 (line-text bytes start.0 h.0 start.1) (joined headers.0 end after h.0 h.1 headers.1 (line-text h.1 [] after h.4)),
      λ x. (
          let P : List ℕ → Type 0 = λ y. Line y start.0 (headers.0 ++ (end ++ x)) in (
            headers.0 ++ (end ++ x),
            end ++ x,
            (start.0, subst P (simp append_assoc) (line-before bytes start.0 h.0 (headers.0 ++ (end ++ x)) start.1), start.2, start.3),
            headers.2 (end ++ x),
            line-before h.1 [] after x h.4,
          )
          ),
    )

-- a head that stands among the first bytes stands in all, and keeps the limit
pub seen-represents : (limit : ℕ) (bytes : List ℕ) (m : Message) (front : List ℕ) → BeginsWithRequestHead (take limit bytes) m front
    → BeginsWithRequestHead bytes m (front ++ drop limit bytes) × (head : List ℕ) × (bytes ≡ head ++ (front ++ drop limit bytes)) × (length head ≤ limit)
seen-represents limit bytes m front h =
    let text = head-text (take limit bytes) m front h in
    let all : text.0 ++ (front ++ drop limit bytes) ≡ bytes = joined-all text.0 front (drop limit bytes) (take limit bytes) text.1 ∙ take-append-drop limit bytes in
    let P : List ℕ → Type 0 = λ y. BeginsWithRequestHead y m (front ++ drop limit bytes) in
    let long : length (take limit bytes) ≡ length text.0 + length front = ap length text.1 ∙ length-append text.0 front in
    (subst P all (text.2 (front ++ drop limit bytes)), text.0, sym all, omega (arith, long, taken limit bytes))
  where
    joined-all : (a b c d : List ℕ) → d ≡ a ++ b → a ++ (b ++ c) ≡ d ++ c
    joined-all a b c d e = rw e (simp append_assoc)

    taken : (n : ℕ) (xs : List ℕ) → length (take n xs) ≤ n
    taken zero xs = omega arith
    taken (suc n) [] = omega arith
    taken (suc n) (x ∷ xs) = let k = taken n xs in omega (arith, k)

-- what is seen and what isn't of a text and what follows it, where the limit lies behind the text
seen-of : (limit : ℕ) (bytes text after : List ℕ) → bytes ≡ text ++ after → length text ≤ limit → take limit bytes ≡ text ++ take (limit - length text) after
seen-of limit bytes text after e le =
    let reaches : limit ≡ length text + (limit - length text) = omega (arith, le) in
    ap (λ x. take limit x) e ∙ ap (λ n. take n (text ++ after)) reaches ∙ take-append-add text after (limit - length text)

unseen-of : (limit : ℕ) (bytes text after : List ℕ) → bytes ≡ text ++ after → length text ≤ limit → drop limit bytes ≡ drop (limit - length text) after
unseen-of limit bytes text after e le =
    let reaches : limit ≡ length text + (limit - length text) = omega (arith, le) in
    ap (λ x. drop limit x) e ∙ ap (λ n. drop n (text ++ after)) reaches ∙ drop-append-add text after (limit - length text)

-- and one that keeps the limit stands among them
pub represents-seen : (limit : ℕ) (bytes : List ℕ) (m : Message) (after : List ℕ) → BeginsWithRequestHead bytes m after → (head : List ℕ) → bytes ≡ head ++ after → length head ≤ limit
    → (front : List ℕ) × BeginsWithRequestHead (take limit bytes) m front × (after ≡ front ++ drop limit bytes)
represents-seen limit bytes m after h head joins fits =
    let text = head-text bytes m after h in
    let long : length bytes ≡ length text.0 + length after = ap length text.1 ∙ length-append text.0 after in
    let whole : length bytes ≡ length head + length after = ap length joins ∙ length-append head after in
    let le : length text.0 ≤ limit = omega (arith, long, whole, fits) in
    let k = limit - length text.0 in
    let P : List ℕ → Type 0 = λ y. BeginsWithRequestHead y m (take k after) in
    (take k after, subst P (sym (seen-of limit bytes text.0 after text.1 le)) (text.2 (take k after)), sym (ap (λ y. take k after ++ y) (unseen-of limit bytes text.0 after text.1 le) ∙ take-append-drop k after))

-- where fewer bytes came than the limit, all are looked at
pub seen-all : (limit : ℕ) (bytes : List ℕ) → length bytes < limit → take limit bytes ≡ bytes
seen-all limit bytes h = take_all limit bytes (omega (arith, h))
