-- What was read stood at the front of what was to come.
use Rattle.tiny_http_io.specs.declared.source.FirstLine.{FirstLine}
use Rattle.tiny_http_io.specs.declared.source.FirstLine.TheVariants.{Held, Taken}
use Rattle.std.proofs.Common.{◌≡◌, refl, sym, ap, ◌∙◌, subst, ℕ, List, [], ◌++◌, Option, None, Some, Result, Ok, Err, append_assoc, append-nil}
use Rattle.tiny_http_io.specs.Device.{Feed, prepended}
use Rattle.tiny_http_text.specs.Bytes.{crlf}
use Rattle.tiny_http_io.specs.declared.source.LineFault.{LineFault}
use Rattle.tiny_http_io.specs.declared.source.LineFault.TheVariants as fault
use Rattle.tiny_http_text.specs.Lines.{Line}
use Rattle.tiny_http_io.specs.Source.{ReadsLine, ReadsWithin, TakesLine, FindsLine, GoesOn}

pub goes-on_same : (o : Option Feed) → GoesOn o o
goes-on_same None = tt
goes-on_same (Some f) = record { gone = []; joins = refl }

pub goes-on_more : (a b c : Option Feed) → GoesOn a b → GoesOn b c → GoesOn a c
goes-on_more None b c h k = tt
goes-on_more (Some f) None c h k = absurd h
goes-on_more (Some f) (Some g) None h k = k
goes-on_more (Some f) (Some g) (Some d) h k = record { gone = h.gone ++ k.gone; joins = h.joins ∙ ap (λ (x : List ℕ). h.gone ++ x) k.joins ∙ sym (append_assoc h.gone k.gone d.bytes) }

pub goes-on_given : (a b : Option Feed) (bs : List ℕ) → a ≡ prepended bs b → GoesOn a b
goes-on_given a None bs e = let P : Option Feed → Type 0 = λ x. GoesOn x None in subst P (sym e) tt
goes-on_given a (Some g) bs e = let P : Option Feed → Type 0 = λ x. GoesOn x (Some g) in subst P (sym e) (record { gone = bs; joins = refl })

-- after a first line
past-line : (f : Feed) (new : Option Feed) (text rest : List ℕ) → Line f.bytes text rest → new ≡ Some (record { bytes = rest; stop = f.stop }) → GoesOn (Some f) new
past-line f new text rest l e =
    let P : Option Feed → Type 0 = λ x. GoesOn (Some f) x in
    subst P (sym e) (record { gone = text ++ crlf; joins = l.joins })

-- at an end, whatever was left
at-end : (f : Feed) (new : Option Feed) (g : Feed) → g.bytes ≡ [] → new ≡ Some g → GoesOn (Some f) new
at-end f new g none e =
    let P : Option Feed → Type 0 = λ x. GoesOn (Some f) x in
    subst P (sym e) (record { gone = f.bytes; joins = sym (append-nil f.bytes) ∙ ap (λ (x : List ℕ). f.bytes ++ x) (sym none) })

pub reads-goes_on : (old new : Option Feed) (r : Result (List ℕ) LineFault) → ReadsLine old new r → GoesOn old new
reads-goes_on None new r h = tt
reads-goes_on (Some f) new (Ok text) h = past-line f new text h.0 h.1 h.3
reads-goes_on (Some f) new (Err fault.NotAscii) h = past-line f new h.0 h.1 h.2 h.4
reads-goes_on (Some f) new (Err fault.TooLong) h = at-end f new _ refl h.2
reads-goes_on (Some f) new (Err fault.Memory) h = at-end f new _ refl h
reads-goes_on (Some f) new (Err fault.End) h = at-end f new _ refl h.2
reads-goes_on (Some f) new (Err fault.TimedOut) h = at-end f new _ refl h.2
reads-goes_on (Some f) new (Err (fault.Broken kind)) h = at-end f new _ refl h.2

pub takes-goes_on : (old new : Option Feed) (text : List ℕ) → TakesLine old new text → GoesOn old new
takes-goes_on None new text h = tt
takes-goes_on (Some f) new text h = past-line f new text h.0 h.1 h.2

pub within-goes_on : (left : Option ℕ) (old new : Option Feed) (r : Result (List ℕ) LineFault) → ReadsWithin left old new r → GoesOn old new
within-goes_on left None new r h = tt
within-goes_on left (Some f) new (Ok text) h = reads-goes_on (Some f) new (Ok text) h.0
within-goes_on left (Some f) new (Err fault.NotAscii) h = past-line f new h.0 h.1 h.2 h.5
within-goes_on left (Some f) new (Err fault.TooLong) h = at-end f new _ refl h.1
within-goes_on left (Some f) new (Err fault.Memory) h = at-end f new _ refl h
within-goes_on left (Some f) new (Err fault.End) h = reads-goes_on (Some f) new (Err fault.End) h.0
within-goes_on left (Some f) new (Err fault.TimedOut) h = reads-goes_on (Some f) new (Err fault.TimedOut) h.0
within-goes_on left (Some f) new (Err (fault.Broken kind)) h = reads-goes_on (Some f) new (Err (fault.Broken kind)) h.0

-- without a limit
pub reads-unlimited : (old new : Option Feed) (r : Result (List ℕ) LineFault) → ReadsWithin None old new r → ReadsLine old new r
reads-unlimited None new r h = tt
reads-unlimited (Some f) new (Ok text) h = h.0
reads-unlimited (Some f) new (Err fault.NotAscii) h = (h.0, h.1, h.2, h.3, h.5)
reads-unlimited (Some f) new (Err fault.TooLong) h = absurd h.0
reads-unlimited (Some f) new (Err fault.Memory) h = h
reads-unlimited (Some f) new (Err fault.End) h = h.0
reads-unlimited (Some f) new (Err fault.TimedOut) h = h.0
reads-unlimited (Some f) new (Err (fault.Broken kind)) h = h.0

pub finds-goes_on : (left : Option ℕ) (old new : Option Feed) (held : List ℕ) (skip : ℕ) (r : Result FirstLine LineFault) → FindsLine left old new held skip r → GoesOn old new
finds-goes_on left old new held skip (Ok (Taken text)) h = takes-goes_on old new text.items h.0
finds-goes_on left old new held skip (Ok (Held n)) h = let P : Option Feed → Type 0 = λ x. GoesOn old x in subst P (sym h.0) (goes-on_same old)
finds-goes_on left old new held skip (Err fault) h = within-goes_on left old new (Err fault) h.0
