-- What follows an item of a pipeline, and what a request owes.
use Rattle.std.proofs.Common.{◌≡◌, refl, sym, ap, ◌∙◌, subst, ℕ, suc, ◌⊎◌, inl, inr, Bool, true, false, not, ◌&&◌, ◌||◌, List, [], ◌∷◌, ◌++◌, length, drop, Option, Some, None, Ok, Err, arith}
use Prim.Native.Nat.{zero}
use Rattle.std.specs.Prelude.{codes, ◌==◌, if◌then◌else◌, nat_lt, nat_le, unwrap_or, ⊤}
use Rattle.std.specs.List.{AllByRecursion}
use Rattle.std.proofs.Math.Bool.{or-false, and-false}
use Rattle.std.proofs.lemmas.Bool.{and_parts, ne_eqb}
use Rattle.tiny_http_io.specs.Device.{Feed}
use Rattle.tiny_http_io.specs.declared.device.Stop.{Stop}
use Rattle.tiny_http_head.specs.Heads.{Message, is_too_new, version}
use Rattle.tiny_http_standard_head.specs.Heads.{is_begun, Reading, ReadWhole, ReadBad, ReadTooMany, ReadOpen, AreReadAs}
use Rattle.tiny_http_standard_head.specs.Validation.{has_body, is_1_0}
use Rattle.tiny_http_standard_head.specs.Lists.{has_element}
use Rattle.tiny_http_body.specs.declared.framing.TheConstants.{LONGEST_WITH_HEAD, STANDARD_HEAD}
use Rattle.tiny_http_body.specs.declared.framing.Profile.{Profile}
use Rattle.tiny_http_body.specs.declared.framing.Profile.TheVariants.{Standard}
use Rattle.tiny_http_body.specs.declared.framing.Framing.{Framing}
use Rattle.tiny_http_body.specs.declared.framing.Form.{Form}
use Rattle.tiny_http_body.specs.declared.framing.Form.TheVariants as form
use Rattle.tiny_http_open_request.specs.Pipeline.{Item, Asks, Refuses, Refusal, Manner, RequestTimeout, VersionNotSupported, plainly, by_the_standard, long_refusal, standard_front, Heading, Silence, Refused, Heads, Place, place_feed, place_after, item_of, ends_too_new, is_head_method, is_timed_out, body_length_or_0, BodyAt, FoundAt, StandardHeadAt, standard_heading, standard_cut, standard_form, standard_framing, served_message, is_cut_with_head, Pipeline}
use Rattle.tiny_http_body.specs.Body.{body_finished}
use Rattle.tiny_http_connection.specs.Slots.{is_end, is_form_streamed}

-- nothing follows this item in its pipeline
abbrev pub lasts : Item → Bool
lasts (Asks r) = r.framing.is_last || not (is_end r.body.stop)
lasts (Refuses refusal manner no_body last) = last || manner.by_standard

abbrev pub AllEnd : List Item → Type 0
AllEnd [] = ⊤
AllEnd (item ∷ items) = (lasts item ≡ true → items ≡ []) × AllEnd items

-- where a 100 is owed, a body follows that is read from the stream
abbrev pub Owes : Item → Type 0
Owes (Asks r) = r.framing.owes_continue ≡ true → (is_form_streamed r.framing.form ≡ true) × (body_finished r.framing.form (body_length_or_0 r.framing) 0 false ≡ false)
Owes (Refuses refusal manner no_body last) = ⊤

none-there : (p : Profile) (stop : Stop) (items : List Item) → Pipeline p None stop items → items ≡ []
none-there p stop [] h = refl
none-there p stop (x ∷ xs) h = elim h [ ]

none-at : (p : Profile) (stop : Stop) (next : Place) (items : List Item) → next ≡ None → Pipeline p next stop items → items ≡ []
none-at p stop next items e h = none-there p stop items (subst (λ n. Pipeline p n stop items) e h)

-- where a body is cut or broken, or is all the rest, no head follows
body-cut : (standard : Bool) (f : Form) (n : ℕ) (after : List ℕ) (stop : Stop) (body : Feed) (next : Place) → BodyAt standard f n after stop body next → is_end body.stop ≡ false → next ≡ None
body-cut standard form.Nothing n after stop body next h e = let no : true ≡ false = sym (ap (λ (b : Feed). is_end b.stop) h.0) ∙ e in cc
body-cut standard form.WithHead n after stop body next h e = let no : true ≡ false = sym (ap is_end h.3) ∙ e in cc
body-cut standard form.Counted n after stop body next (inl h) e = let no : true ≡ false = sym (ap is_end h.3) ∙ e in cc
body-cut standard form.Counted n after stop body next (inr h) e = h.2
body-cut standard form.Rest n after stop body next h e = h.1
body-cut standard form.Chunked n after stop body next (inl h) e = let no : true ≡ false = sym (ap is_end h.2) ∙ e in cc
body-cut standard form.Chunked n after stop body next (inr h) e = h.3

or-cases : (a b : Bool) → (a || b) ≡ true → (a ≡ true) ⊎ (b ≡ true)
or-cases true b e = inl refl
or-cases false b e = inr e

not-false : (b : Bool) → not b ≡ true → b ≡ false
not-false true e = sym e
not-false false e = refl

heads-end : (t : Bool) (p : Profile) (stop : Stop) (m : Message) (f : Framing) (after : List ℕ) (body : Feed) (behind next : Place) (items : List Item) → BodyAt f.by_standard f.form (body_length_or_0 f) after stop body behind
    → next ≡ place_after (if t then ends_too_new f.form else f.is_last) behind → Pipeline p next stop items
    → lasts (if t then Refuses VersionNotSupported (plainly (version 1 1)) (is_head_method m.method) (ends_too_new f.form) else Asks (record { message = m; framing = f; body = body; behind = place_feed stop behind })) ≡ true → items ≡ []
heads-end true p stop m f after body behind next items b is h e =
    let ends : ends_too_new f.form ≡ true = sym (or-false (ends_too_new f.form)) ∙ e in
    none-at p stop next items (is ∙ ap (λ x. place_after x behind) ends) h
heads-end false p stop m f after body behind next items b is h e = by (or-cases f.is_last (not (is_end body.stop)) e)
  where
    last-of : (x : Bool) (place : Place) → place ≡ None → place_after x place ≡ None
    last-of true place e = refl
    last-of false place e = e

    by : (f.is_last ≡ true) ⊎ (not (is_end body.stop) ≡ true) → items ≡ []
    by (inl l) = none-at p stop next items (is ∙ ap (λ x. place_after x behind) l) h
    by (inr l) = none-at p stop next items (is ∙ last-of f.is_last behind (body-cut f.by_standard f.form (body_length_or_0 f) after stop body behind b (not-false (is_end body.stop) l))) h

found-ends : (p : Profile) (stop : Stop) (heading : Heading) (item : Item) (next : Place) (items : List Item) → FoundAt stop heading (Some item) next → Pipeline p next stop items → lasts item ≡ true → items ≡ []
found-ends p stop Silence item next items f h e = cc
found-ends p stop (Refused refusal v) item next items f h e = none-at p stop next items f.1 h
found-ends p stop (Heads m fr after) item next items f h e =
    let same : item ≡ item_of m fr f.0 (place_feed stop f.1) = cc in
    heads-end (is_too_new m.version) p stop m fr after f.0 f.1 next items f.2 f.4 h (sym (ap lasts same) ∙ e)

pub pipeline-ends : (p : Profile) (place : Place) (stop : Stop) (items : List Item) → Pipeline p place stop items → AllEnd items
pipeline-ends p place stop [] h = tt
pipeline-ends p None stop (x ∷ xs) h = elim h [ ]
pipeline-ends p (Some bytes) stop (x ∷ xs) h = (λ e. found-ends p stop h.1.0 x h.0 xs h.1.2 h.2 e, pipeline-ends p h.0 stop xs h.2)

-- ---- what a request owes by the standard

no-heads : (t : Bool) (m : Message) (f : Framing) (after : List ℕ) (refusal : Refusal) (manner : Manner) → Heads m f after ≡ (if t then Refused refusal manner else Silence) → ⊥
no-heads true m f after refusal manner e = cc
no-heads false m f after refusal manner e = cc

cut-is_none : (b : Bool) (stop : Stop) (m : Message) (f : Framing) (after : List ℕ) → Heads m f after ≡ standard_cut b stop → ⊥
cut-is_none b stop m f after e = no-heads (b && is_timed_out stop) m f after RequestTimeout by_the_standard e

open-is_none : (t b : Bool) (stop : Stop) (m : Message) (f : Framing) (after : List ℕ) (refusal : Refusal) → Heads m f after ≡ (if t then standard_cut b stop else Refused refusal by_the_standard) → ⊥
open-is_none true b stop m f after refusal e = cut-is_none b stop m f after e
open-is_none false b stop m f after refusal e = cc

heads-are : (t : Bool) (stop : Stop) (m n : Message) (f g : Framing) (after more : List ℕ) → Heads m f after ≡ (if t then standard_cut true stop else Heads n g more) → f ≡ g
heads-are true stop m n f g after more e = absurd (cut-is_none true stop m f after e)
heads-are false stop m n f g after more e = cc

open-body : (chunked : Bool) (n : Option ℕ) → has_body n chunked ≡ true → (is_form_streamed (standard_form chunked true n) ≡ true) × (body_finished (standard_form chunked true n) (unwrap_or n 0) 0 false ≡ false)
open-body true n e = (refl, refl)
open-body false None e = cc
open-body false (Some zero) e = cc
open-body false (Some (suc n)) e =
    let some : (suc n == 0) ≡ false = ne_eqb (suc n) 0 (λ h. absurd (omega (arith, h))) in
    let more : (0 == suc n) ≡ false = ne_eqb 0 (suc n) (λ h. absurd (omega (arith, h))) in
    rw (some, and-false (nat_le (suc n) LONGEST_WITH_HEAD)) (refl, rw more refl)

abbrev OpensBody : Framing → Type 0
OpensBody f = (is_form_streamed f.form ≡ true) × (body_finished f.form (body_length_or_0 f) 0 false ≡ false)

standard-owes : (bytes : List ℕ) (stop : Stop) (m : Message) (f : Framing) (after : List ℕ) → StandardHeadAt bytes stop (Heads m f after) → f.owes_continue ≡ true → OpensBody f
standard-owes bytes stop m f after h o = by h.0 h.1 h.2
  where
    by : (r : Reading) → AreReadAs (standard_front bytes) r → Heads m f after ≡ standard_heading r bytes stop → OpensBody f
    by ReadBad a e = cc
    by ReadTooMany a e = cc
    by (ReadOpen b) a e = absurd (open-is_none (nat_lt (length bytes) STANDARD_HEAD) (is_begun bytes) stop m f after (long_refusal b) e)
    by (ReadWhole n more (Err refusal)) a e = cc
    by (ReadWhole n more (Ok s)) a e =
        let g = standard_framing s in
        let behind = more ++ drop STANDARD_HEAD bytes in
        let same : f ≡ g = heads-are (is_cut_with_head g.form (body_length_or_0 g) behind) stop m (served_message n) f g after behind e in
        let owes : s.owes_continue ≡ true = sym (ap (λ (x : Framing). x.owes_continue) same) ∙ o in
        let expects = has_element (codes "Expect") (codes "100-continue") n.headers in
        let b = has_body s.body_length s.is_chunked in
        let body : b ≡ true = (and_parts b expects (and_parts (not (is_1_0 n.version)) (b && expects) (sym a.1.2 ∙ owes)).1).0 in
        let O : Bool → Type 0 = λ x. (is_form_streamed (standard_form s.is_chunked x s.body_length) ≡ true) × (body_finished (standard_form s.is_chunked x s.body_length) (unwrap_or s.body_length 0) 0 false ≡ false) in
        subst OpensBody (sym same) (subst O (sym owes) (open-body s.is_chunked s.body_length body))

owes-if : (t : Bool) (bytes : List ℕ) (stop : Stop) (m : Message) (f : Framing) (after : List ℕ) (body behind : Feed) → StandardHeadAt bytes stop (Heads m f after)
    → Owes (if t then Refuses VersionNotSupported (plainly (version 1 1)) (is_head_method m.method) (ends_too_new f.form) else Asks (record { message = m; framing = f; body = body; behind = behind }))
owes-if true bytes stop m f after body behind h = tt
owes-if false bytes stop m f after body behind h = λ o. standard-owes bytes stop m f after h o

found-owes : (bytes : List ℕ) (stop : Stop) (heading : Heading) (item : Item) (next : Place) → StandardHeadAt bytes stop heading → FoundAt stop heading (Some item) next → Owes item
found-owes bytes stop Silence item next h f = cc
found-owes bytes stop (Refused refusal v) item next h f = let same : item ≡ Refuses refusal v false true = cc in subst Owes (sym same) tt
found-owes bytes stop (Heads m fr after) item next h f =
    let same : item ≡ item_of m fr f.0 (place_feed stop f.1) = cc in
    subst Owes (sym same) (owes-if (is_too_new m.version) bytes stop m fr after f.0 (place_feed stop f.1) h)

pub pipeline-owes : (place : Place) (stop : Stop) (items : List Item) → Pipeline Standard place stop items → AllByRecursion Owes items
pipeline-owes place stop [] h = tt
pipeline-owes None stop (x ∷ xs) h = elim h [ ]
pipeline-owes (Some bytes) stop (x ∷ xs) h = (found-owes bytes stop h.1.0 x h.0 h.1.1 h.1.2, pipeline-owes h.0 stop xs h.2)
