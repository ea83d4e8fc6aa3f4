-- From the lines of a source to a head.
use Rattle.std.proofs.Common.{◌≡◌, refl, sym, ap, ◌∙◌, subst, ℕ, suc, ◌+◌, ◌-◌, ◌<◌, inl, inr, Bool, true, false, not, List, [], ◌∷◌, ◌++◌, length, take, Option, Some, None, Result, Ok, Err, append_assoc, append-nil, length-append, take_all, length-take-le, arith}
use Rattle.std.specs.Prelude.{◌==◌, ◌||◌, IfSome}
use Rattle.std.specs.List.{list_all}
use Rattle.std.proofs.lemmas.Bool.{and_parts}
use Rattle.std.proofs.lemmas.List.{take-append-le}
use Rattle.std.proofs.lemmas.List.Folds.{list_all-append}
use Rattle.tiny_http_text.specs.Bytes.{HasNo}
use Rattle.tiny_http_io.specs.Device.{Feed, prepend, prepended}
use Rattle.tiny_http_io.specs.Source.{feed_from}
use Rattle.tiny_http_head.specs.declared.common.Method.{Method}
use Rattle.tiny_http_head.specs.declared.common.HTTPVersion.{HTTPVersion}
use Rattle.tiny_http_head.specs.declared.common.Header.{Header}
use Rattle.tiny_http_standard_head.specs.declared.heads.StandardFault.TheVariants.{BadLine, RequestLineTooLong, HeaderFieldsTooLarge, TooManyFields, Invalid}
use Rattle.tiny_http_standard_head.specs.declared.source_lines.NoLine.{NoLine}
use Rattle.tiny_http_standard_head.specs.declared.source_lines.NoLine.TheVariants as no_line
use Rattle.tiny_http_standard_head.specs.declared.source_heads.NoHead.{NoHead}
use Rattle.tiny_http_standard_head.specs.declared.source_heads.NoHead.TheVariants.{Refused, Unfinished, Memory}
use Rattle.tiny_http_standard_head.specs.Lines.{IsNoRequestLine, IsNoFieldLine}
use Rattle.tiny_http_standard_head.specs.SourceLines.{EndsLine, TakesLine, HasNoLine}
use Rattle.tiny_http_head.specs.Heads.{line_feed}
use Rattle.tiny_http_standard_head.specs.Heads.{carriage_return, Line, BeginsWithBadLine, IsNoFieldOrEnd}
use Rattle.tiny_http_standard_head.specs.SourceHeads.{IsBadLine, IsGoodLine, LacksMemory, IsNoRequestOrEmpty, RequestIn, FieldIn, no_head, IsSpent, TakesText, IsLong, ReadsRequest, ReadsField}

-- what a limit lets through of a line and what is behind it
window : (limit left : ℕ) (line rest : List ℕ) → length line + 1 + left ≡ limit → take limit (line ++ line_feed ∷ rest) ≡ line ++ line_feed ∷ take left rest
window limit left [] rest e = let k : limit ≡ suc left = omega (arith, sym e) in rw k refl
window limit left (b ∷ bs) rest e =
    let k : limit ≡ suc (length bs + 1 + left) = omega (arith, sym e) in
    rw k (ap (λ (x : List ℕ). b ∷ x) (window (length bs + 1 + left) left bs rest refl))

-- a line was taken of a source that states its feed
pub record TakesAt (limit left : ℕ) (f : Feed) (new : Option Feed) (line : List ℕ) : Type 0 where
  pub rest : List ℕ
  pub goes : new ≡ feed_from f rest
  pub seen : take limit f.bytes ≡ line ++ line_feed ∷ take left rest
  pub spent : IsSpent limit f.bytes left rest
  pub first : HasNo line_feed line

some-feed : (f g : Feed) (bs : List ℕ) → Some f ≡ Some (prepend bs g) → f ≡ prepend bs g
some-feed f g bs e = cc

takes-at : (limit left : ℕ) (f : Feed) (new : Option Feed) (line : List ℕ) → left ≡ limit - (length line + 1) → TakesLine limit (Some f) new line → TakesAt limit left f new line
takes-at limit left f None line e t = let no : ◌≡◌ {A = Option Feed} (Some f) None = t.joins in cc
takes-at limit left f (Some g) line e t =
    let is : f ≡ prepend (line ++ line_feed ∷ []) g = some-feed f g (line ++ line_feed ∷ []) t.joins in
    let bytes : f.bytes ≡ line ++ line_feed ∷ g.bytes = ap (λ (x : Feed). x.bytes) is ∙ append_assoc line (line_feed ∷ []) g.bytes in
    let stop : g.stop ≡ f.stop = sym (ap (λ (x : Feed). x.stop) is) in
    let long : length f.bytes ≡ length line + suc (length g.bytes) = ap length bytes ∙ length-append line (line_feed ∷ g.bytes) in
    let within = t.within in
    record {
      rest = g.bytes;
      goes = ap (λ s. Some (record { bytes = g.bytes; stop = s })) stop;
      seen = ap (take limit) bytes ∙ window limit left line g.bytes (omega (arith, e, within));
      spent = omega (arith, long, e, within);
      first = t.first;
    }

-- a line that is good, or isn't
front-none : (text rest : List ℕ) → HasNo line_feed (text ++ rest) → HasNo line_feed text
front-none text rest h = (and_parts (list_all (λ b. not (b == line_feed)) text) (list_all (λ b. not (b == line_feed)) rest) (sym (list_all-append (λ b. not (b == line_feed)) text rest) ∙ h)).0

line-at : (limit left : ℕ) (f : Feed) (new : Option Feed) (line text : List ℕ) → (t : TakesAt limit left f new line) → line ≡ text ++ carriage_return ∷ [] → Line (take limit f.bytes) text (take left t.rest)
line-at limit left f new line text t e = record {
  joins = t.seen ∙ ap (λ (x : List ℕ). x ++ line_feed ∷ take left t.rest) e ∙ append_assoc text (carriage_return ∷ []) (line_feed ∷ take left t.rest);
  first = front-none text (carriage_return ∷ []) (subst (HasNo line_feed) e t.first);
}

takes-text : (limit left : ℕ) (f : Feed) (new : Option Feed) (line text : List ℕ) → TakesAt limit left f new line → line ≡ text ++ carriage_return ∷ [] → TakesText limit left f new text
takes-text limit left f new line text t e = record { rest = t.rest; line = line-at limit left f new line text t e; goes = t.goes; spent = t.spent }

bad-at : (IsBad : List ℕ → Type 0) (limit left : ℕ) (f : Feed) (new : Option Feed) (line : List ℕ) → TakesAt limit left f new line → IsBadLine IsBad line → BeginsWithBadLine IsBad (take limit f.bytes)
bad-at IsBad limit left f new line t (inl bare) = inl (record { text = line; rest = take left t.rest; joins = t.seen; first = t.first; bare = bare })
bad-at IsBad limit left f new line t (inr w) = inr (w.0, take left t.rest, line-at limit left f new line w.0 t w.1, w.2)

request-at : (limit left : ℕ) (f : Feed) (new : Option Feed) (line : List ℕ) (r : Result (Option (Method × List ℕ × HTTPVersion)) NoHead) → TakesAt limit left f new line → RequestIn line r → ReadsRequest limit left (Some f) new r
request-at limit left f new line (Ok None) t h = takes-text limit left f new line [] t h
request-at limit left f new line (Ok (Some r)) t h = (h.0, takes-text limit left f new line h.0 t h.1, h.2)
request-at limit left f new line (Err (Refused BadLine)) t h = bad-at IsNoRequestOrEmpty limit left f new line t h
request-at limit left f new line (Err (Refused RequestLineTooLong)) t h = absurd h
request-at limit left f new line (Err (Refused HeaderFieldsTooLarge)) t h = absurd h
request-at limit left f new line (Err (Refused TooManyFields)) t h = absurd h
request-at limit left f new line (Err (Refused (Invalid x))) t h = absurd h
request-at limit left f new line (Err (Unfinished b)) t h = absurd h
request-at limit left f new line (Err Memory) t h = tt

field-at : (limit left : ℕ) (f : Feed) (new : Option Feed) (line : List ℕ) (r : Result (Option Header) NoHead) → TakesAt limit left f new line → FieldIn line r → ReadsField limit left (Some f) new r
field-at limit left f new line (Ok None) t h = takes-text limit left f new line [] t h
field-at limit left f new line (Ok (Some r)) t h = (h.0, takes-text limit left f new line h.0 t h.1, h.2)
field-at limit left f new line (Err (Refused BadLine)) t h = bad-at IsNoFieldOrEnd limit left f new line t h
field-at limit left f new line (Err (Refused RequestLineTooLong)) t h = absurd h
field-at limit left f new line (Err (Refused HeaderFieldsTooLarge)) t h = absurd h
field-at limit left f new line (Err (Refused TooManyFields)) t h = absurd h
field-at limit left f new line (Err (Refused (Invalid x))) t h = absurd h
field-at limit left f new line (Err (Unfinished b)) t h = absurd h
field-at limit left f new line (Err Memory) t h = tt

pub request-taken : (limit left : ℕ) (old new : Option Feed) (line : List ℕ) (r : Result (Option (Method × List ℕ × HTTPVersion)) NoHead) → left ≡ limit - (length line + 1) → TakesLine limit old new line → RequestIn line r → ReadsRequest limit left old new r
request-taken limit left None new line r e t h = tt
request-taken limit left (Some f) new line r e t h = request-at limit left f new line r (takes-at limit left f new line e t) h

pub field-taken : (limit left : ℕ) (old new : Option Feed) (line : List ℕ) (r : Result (Option Header) NoHead) → left ≡ limit - (length line + 1) → TakesLine limit old new line → FieldIn line r → ReadsField limit left old new r
field-taken limit left None new line r e t h = tt
field-taken limit left (Some f) new line r e t h = field-at limit left f new line r (takes-at limit left f new line e t) h

-- a line that is held, and then taken
pub held-taken : (limit n : ℕ) (old mid new : Option Feed) (held line : List ℕ) → mid ≡ old → mid ≡ prepended (take (n + 1) held) new → EndsLine held n → n < limit → line ≡ take n held → TakesLine limit old new line
held-taken limit n old mid new held line same joins ends within is = record {
  joins = sym same ∙ joins ∙ ap (λ (x : List ℕ). prepended x new) (ends.ends ∙ ap (λ (x : List ℕ). x ++ line_feed ∷ []) (sym is));
  first = subst (HasNo line_feed) (sym is) ends.first;
  within = omega (arith, ap length is ∙ length-take-le n held (omega (arith, ends.within)), within);
}

-- no memory was found for a line that was taken
pub request-memory : (line : List ℕ) (r : Result (Option (Method × List ℕ × HTTPVersion)) NoHead) → RequestIn line r → r ≡ Err Memory → IsGoodLine IsNoRequestLine line
request-memory line r h e = let P : Result (Option (Method × List ℕ × HTTPVersion)) NoHead → Type 0 = λ x. RequestIn line x in subst P e h

pub field-memory : (line : List ℕ) (r : Result (Option Header) NoHead) → FieldIn line r → r ≡ Err Memory → IsGoodLine IsNoFieldLine line
field-memory line r h e = let P : Result (Option Header) NoHead → Type 0 = λ x. FieldIn line x in subst P e h

pub lacks-taken : (IsBad : List ℕ → Type 0) (limit : ℕ) (old new : Option Feed) (held line : List ℕ) → TakesLine limit old new line → IsGoodLine IsBad line → IfSome old (λ f. LacksMemory IsBad limit f new held)
lacks-taken IsBad limit None new held line t good = tt
lacks-taken IsBad limit (Some f) new held line t good =
    let at = takes-at limit (limit - (length line + 1)) f new line refl t in
    inl (good.0, take (limit - (length line + 1)) at.rest, line-at limit (limit - (length line + 1)) f new line good.0 at good.1, good.2)

-- all bytes were taken, or so many as the limit allows
all-gone : (f g : Feed) (gone : List ℕ) → Some f ≡ Some (prepend gone g) → g.bytes ≡ [] → f.bytes ≡ gone
all-gone f g gone e none = ap (λ (x : Feed). x.bytes) (some-feed f g gone e) ∙ ap (λ (x : List ℕ). gone ++ x) none ∙ append-nil gone

long-gone : (limit : ℕ) (f g : Feed) (gone : List ℕ) → Some f ≡ Some (prepend gone g) → HasNo line_feed gone → length gone ≡ limit → IsLong limit f.bytes
long-gone limit f g gone e none long =
    let bytes : f.bytes ≡ gone ++ g.bytes = ap (λ (x : Feed). x.bytes) (some-feed f g gone e) in
    let seen : take limit f.bytes ≡ gone = ap (take limit) bytes ∙ take-append-le limit gone g.bytes (omega (arith, long)) ∙ take_all limit gone (omega (arith, long)) in
    (subst (HasNo line_feed) (sym seen) none, omega (arith, long, ap length bytes ∙ length-append gone g.bytes))

or-false : (b : Bool) → (b || false) ≡ b
or-false true = refl
or-false false = refl

or-true : (b : Bool) → (b || true) ≡ true
or-true true = refl
or-true false = refl

-- no line
pub request-unread : (limit left : ℕ) (old new : Option Feed) (held : List ℕ) (why : NoLine) → HasNoLine limit old new held why → ReadsRequest limit left old new (Err (no_head why RequestLineTooLong false))
request-unread limit left None new held why h = tt
request-unread limit left (Some f) new held no_line.Memory h = tt
request-unread limit left (Some f) None held (no_line.Cut b) h = let no : ◌≡◌ {A = Option Feed} (Some f) None = h.1.joins in cc
request-unread limit left (Some f) None held no_line.TooLong h = let no : ◌≡◌ {A = Option Feed} (Some f) None = h.1.joins in cc
request-unread limit left (Some f) (Some g) held (no_line.Cut b) h =
    let bytes = all-gone f g h.0 h.1.joins h.3 in
    ((subst (HasNo line_feed) (sym bytes) h.1.none, omega (arith, h.2, ap length bytes)), or-false b ∙ h.4 ∙ ap (λ (x : List ℕ). not (length x == 0)) (sym bytes))
request-unread limit left (Some f) (Some g) held no_line.TooLong h = long-gone limit f g h.0 h.1.joins h.1.none h.2

pub field-unread : (limit left : ℕ) (old new : Option Feed) (held : List ℕ) (why : NoLine) → HasNoLine limit old new held why → ReadsField limit left old new (Err (no_head why HeaderFieldsTooLarge true))
field-unread limit left None new held why h = tt
field-unread limit left (Some f) new held no_line.Memory h = tt
field-unread limit left (Some f) None held (no_line.Cut b) h = let no : ◌≡◌ {A = Option Feed} (Some f) None = h.1.joins in cc
field-unread limit left (Some f) None held no_line.TooLong h = let no : ◌≡◌ {A = Option Feed} (Some f) None = h.1.joins in cc
field-unread limit left (Some f) (Some g) held (no_line.Cut b) h =
    let bytes = all-gone f g h.0 h.1.joins h.3 in
    ((subst (HasNo line_feed) (sym bytes) h.1.none, omega (arith, h.2, ap length bytes)), or-true b)
field-unread limit left (Some f) (Some g) held no_line.TooLong h = long-gone limit f g h.0 h.1.joins h.1.none h.2
