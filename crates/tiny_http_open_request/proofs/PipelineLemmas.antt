-- Each feed has one pipeline.
use Rattle.std.proofs.Common.{◌≡◌, refl, sym, ap, ◌∙◌, subst, ℕ, zero, suc, ◌+◌, ◌<◌, ◌≤◌, Bool, true, false, inl, inr, List, [], ◌∷◌, ◌++◌, length, take, drop, Option, Some, None, Ok, Err, arith, length-append, ⊎_elim}
use Rattle.std.specs.Prelude.{MatchResult, nat_lt, nat_le, ◌==◌, ◌&&◌, not, Result, if◌then◌else◌}
use Rattle.std.proofs.lemmas.Grind.{common_steps}
use Rattle.std.proofs.lemmas.Bool.{ltb-true, ltb-false, lt-ltb, le-ltb, leb-true, leb-false, le-leb, lt-leb}
use Rattle.std.specs.declared.io.ErrorKind.{ErrorKind}
use Rattle.tiny_http_io.specs.declared.device.Stop.{Stop}
use Rattle.tiny_http_io.specs.declared.device.Stop.TheVariants.{End, Fault as Faults}
use Rattle.tiny_http_io.specs.Device.{Feed, whole_feed}
use Rattle.tiny_http_head.specs.declared.common.HTTPVersion.{HTTPVersion}
use Rattle.tiny_http_head.specs.Heads.{Message, BeginsWithRequestHead, FaultyHead, GrammarFault, Cut, NotAscii, Malformed, version, is_too_new}
use Rattle.tiny_http_body.specs.declared.chunked.ChunkRules.{ChunkRules}
use Rattle.tiny_http_body.specs.Chunks.{WholeChunksBy, CutChunksBy}
use Rattle.tiny_http_head.specs.HeadReading.{request_head_read, RequestHeadRead, Whole, Faulty}
use Rattle.tiny_http_body.specs.ChunkReading.{decoded_by}
use Rattle.tiny_http_head.proofs.HeadsLemmas.{head-is, HeadIs, head-one, head-fault, line-shorter, fields-fewer}
use Rattle.tiny_http_body.proofs.ChunksLemmas.{decoded_by-is, decoded_by-one, decoded_by-front}
use Rattle.tiny_http_io.specs.Source.{seen_within}
use Rattle.std.proofs.lemmas.List.{take-append-drop}
use Rattle.tiny_http_standard_head.specs.Heads.{ReadOpen}
use Rattle.tiny_http_standard_head.proofs.HeadsLemmas.{whole-shorter}
use Rattle.tiny_http_standard_head.proofs.Existing.{some-reading}
use Rattle.tiny_http_standard_head.proofs.ReadingLemmas.{read-once}
use Rattle.tiny_http_body.specs.declared.framing.TheConstants.{STANDARD_HEAD, LONGEST_WITH_HEAD}
use Rattle.tiny_http_body.specs.declared.framing.Profile.{Profile}
use Rattle.tiny_http_body.specs.declared.framing.Profile.TheVariants as under
use Rattle.tiny_http_body.specs.declared.framing.HeadRules.{HeadRules}
use Rattle.tiny_http_body.specs.declared.framing.HeadRules.TheVariants as rule
use Rattle.tiny_http_body.specs.declared.framing.FramingFault.{FramingFault}
use Rattle.tiny_http_body.specs.declared.framing.FramingFault.TheVariants.{Invalid, Expectation}
use Rattle.tiny_http_body.specs.declared.framing.Form.{Form}
use Rattle.tiny_http_body.specs.declared.framing.Form.TheVariants.{Rest, Nothing, WithHead, Counted, Chunked}
use Rattle.tiny_http_body.specs.declared.framing.Framing.{Framing}
use Rattle.tiny_http_body.specs.FramingReading.{framing}
use Rattle.tiny_http_body.specs.Body.{cut_stop, chunk_rules}
use Rattle.tiny_http_body.specs.Framing.{head_limit}
use Rattle.tiny_http_open_request.specs.Pipeline.{Manner, plainly, place_feed, is_cut_with_head, RulesHeadAt, standard_front, standard_form, standard_heading, Refusal, BadRequest, RequestTimeout, ExpectationFailed, HeaderFieldsTooLarge, VersionNotSupported, RequestLineTooLong, CodingNotImplemented, MajorVersionNotSupported, Item, Refuses, Place, is_timed_out, BeginsWithin, IsUnfinishedHead, IsTooLarge, IsWholeHead, IsCutWithHead, IsCutHead, IsRefused, IsRequestHead, Heading, Silence, Refused, Heads, HeadAt, body_length_or_0, BodyAt, SizedBody, FoundAt, OneHead, item_of, next_place, ends_too_new, Pipeline, place_after}
use Rattle.tiny_http_open_request.specs.PipelineReading.{BodyRead, Headings, chunked_read, sized_read, body_read, cut_heading, whole_heading, is_full, all_after, faulty, heading, heading_of, items_at, items_from, items_of}
use Rattle.tiny_http_body.proofs.FramingLemmas.{framing-is, framing-one, rest-last}
use Rattle.tiny_http_open_request.proofs.StandardLemmas.{IsStandardHeads, standard-parts}
use Rattle.tiny_http_open_request.proofs.WithinLemmas.{seen-represents, represents-seen, seen-all}

pub cut-with_head : (form : Form) (n : ℕ) (after : List ℕ) → is_cut_with_head form n after ≡ true → IsCutWithHead form n after
cut-with_head WithHead n after c = ltb-true (length after) n c
cut-with_head Nothing n after c = cc
cut-with_head Counted n after c = cc
cut-with_head Rest n after c = cc
cut-with_head Chunked n after c = cc

pub with_head-cut : (form : Form) (n : ℕ) (after : List ℕ) → IsCutWithHead form n after → is_cut_with_head form n after ≡ true
with_head-cut WithHead n after c = lt-ltb (length after) n c
with_head-cut Nothing n after c = elim c [ ]
with_head-cut Counted n after c = elim c [ ]
with_head-cut Rest n after c = elim c [ ]
with_head-cut Chunked n after c = elim c [ ]

not-cut : (form : Form) (n : ℕ) (after : List ℕ) → is_cut_with_head form n after ≡ false → IsCutWithHead form n after → ⊥
not-cut form n after c h = let e : true ≡ false = sym (with_head-cut form n after h) ∙ c in cc

cut-not : (form : Form) (n : ℕ) (after : List ℕ) → (t : Bool) → is_cut_with_head form n after ≡ t → (IsCutWithHead form n after → ⊥) → t ≡ false
cut-not form n after true e h = absurd (h (cut-with_head form n after e))
cut-not form n after false e h = refl

-- what is cut is answered at a time-out alone
cut-heading-is : (p : HeadRules) (bytes : List ℕ) (stop : Stop) → IsCutHead p bytes → RulesHeadAt p bytes stop (cut_heading stop)
cut-heading-is p bytes stop h = by (is_timed_out stop) refl
  where
    by : (t : Bool) → is_timed_out stop ≡ t → RulesHeadAt p bytes stop (if t then Refused RequestTimeout (plainly (version 1 1)) else Silence)
    by true e = (h, e, refl)
    by false e = inl (h, e)

pipeline-cut-step : (p : HeadRules) (m : Message) (after : List ℕ) (stop : Stop) (bytes : List ℕ) (f : Framing) → IsWholeHead p bytes m after (Ok f) → (t : Bool) → is_cut_with_head f.form (body_length_or_0 f) after ≡ t
    → RulesHeadAt p bytes stop (if t then cut_heading stop else Heads m f after)
pipeline-cut-step p m after stop bytes f h true c = cut-heading-is p bytes stop (inr (m, after, f, h, cut-with_head f.form (body_length_or_0 f) after c))
pipeline-cut-step p m after stop bytes f h false c = record { whole = h; uncut = not-cut f.form (body_length_or_0 f) after c }

framed-is : (p : HeadRules) (m : Message) (after : List ℕ) (stop : Stop) (bytes : List ℕ) (r : Result Framing FramingFault) → IsWholeHead p bytes m after r → RulesHeadAt p bytes stop (whole_heading m after stop r)
framed-is p m after stop bytes (Err Invalid) h = inr (m, after, h, refl)
framed-is p m after stop bytes (Err Expectation) h = (m, after, h, refl)
framed-is p m after stop bytes (Ok f) h = pipeline-cut-step p m after stop bytes f h (is_cut_with_head f.form (body_length_or_0 f) after) refl

-- a head that stands among the bytes that are looked at
seen-within : (limit : Option ℕ) (bytes : List ℕ) (m : Message) (after : List ℕ) → BeginsWithRequestHead (seen_within limit bytes) m after → BeginsWithin limit bytes m (all_after limit bytes after)
seen-within None bytes m after h = h
seen-within (Some limit) bytes m after h = seen-represents limit bytes m after h

within-seen : (limit : Option ℕ) (bytes : List ℕ) (m : Message) (after : List ℕ) → BeginsWithin limit bytes m after
    → (front : List ℕ) × BeginsWithRequestHead (seen_within limit bytes) m front × (after ≡ all_after limit bytes front)
within-seen None bytes m after h = (after, h, refl)
within-seen (Some limit) bytes m after h = represents-seen limit bytes m after h.0 h.1 h.2 h.3

-- a head that is only cut is too large, or isn't finished
abbrev CutOrFull : Option ℕ → List ℕ → Option HTTPVersion → Bool → Type 0
CutOrFull limit bytes v true = IsTooLarge limit bytes v
CutOrFull limit bytes v false = IsUnfinishedHead limit bytes v

cut-or-full : (limit : Option ℕ) (bytes : List ℕ) (v : Option HTTPVersion) → FaultyHead (seen_within limit bytes) v Cut → CutOrFull limit bytes v (is_full limit bytes)
cut-or-full None bytes v h = h
cut-or-full (Some limit) bytes v h = by (nat_le limit (length bytes)) refl
  where
    by : (t : Bool) → nat_le limit (length bytes) ≡ t → CutOrFull (Some limit) bytes v t
    by true e = (leb-true limit (length bytes) e, h)
    by false e =
        let short = leb-false limit (length bytes) e in
        let P : List ℕ → Type 0 = λ x. FaultyHead x v Cut in
        (subst P (seen-all limit bytes short) h, short)

-- a faulty head
faulty-is : (p : HeadRules) (bytes : List ℕ) (stop : Stop) (v : Option HTTPVersion) (fault : GrammarFault) → FaultyHead (seen_within (head_limit p) bytes) v fault → RulesHeadAt p bytes stop (faulty (is_full (head_limit p) bytes) v fault stop)
faulty-is p bytes stop v NotAscii h = inr (v, h)
faulty-is p bytes stop v Malformed h = inl (v, h, refl)
faulty-is p bytes stop v Cut h = by (is_full (head_limit p) bytes) (cut-or-full (head_limit p) bytes v h)
  where
    by : (t : Bool) → CutOrFull (head_limit p) bytes v t → RulesHeadAt p bytes stop (faulty t v Cut stop)
    by true k = (v, k, refl)
    by false k = cut-heading-is p bytes stop (inl (v, k))

read-is : (p : HeadRules) (bytes : List ℕ) (stop : Stop) (r : RequestHeadRead) → HeadIs (seen_within (head_limit p) bytes) r → RulesHeadAt p bytes stop (heading p bytes stop r)
read-is p bytes stop (Faulty v fault) h = faulty-is p bytes stop v fault h
read-is p bytes stop (Whole m after) h =
    framed-is p m (all_after (head_limit p) bytes after) stop bytes (framing p m.version m.headers) (record { begins = seen-within (head_limit p) bytes m after h; frames = framing-is p m.version m.headers })

-- each bytes have a heading
pub heading-is : (p : HeadRules) (bytes : List ℕ) (stop : Stop) → RulesHeadAt p bytes stop (heading_of p stop bytes)
heading-is p bytes stop = read-is p bytes stop (request_head_read (seen_within (head_limit p) bytes)) (head-is (seen_within (head_limit p) bytes))

-- a whole head is read as what it frames
whole-read : (p : HeadRules) (bytes : List ℕ) (stop : Stop) (m : Message) (after : List ℕ) (r : Result Framing FramingFault) → IsWholeHead p bytes m after r → heading_of p stop bytes ≡ whole_heading m after stop r
whole-read p bytes stop m after r h =
    let seen = within-seen (head_limit p) bytes m after h.begins in
    rw (head-one (seen_within (head_limit p) bytes) m seen.0 seen.1, ← seen.2, ← framing-one p m.version m.headers r h.frames) refl

-- a head that isn't finished, and one that is too large
unfinished-read : (limit : Option ℕ) (bytes : List ℕ) (v : Option HTTPVersion) → IsUnfinishedHead limit bytes v → (is_full limit bytes ≡ false) × FaultyHead (seen_within limit bytes) v Cut
unfinished-read None bytes v h = (refl, h)
unfinished-read (Some limit) bytes v h =
    let P : List ℕ → Type 0 = λ x. FaultyHead x v Cut in
    (lt-leb limit (length bytes) h.1, subst P (sym (seen-all limit bytes h.1)) h.0)

large-read : (limit : Option ℕ) (bytes : List ℕ) (v : Option HTTPVersion) → IsTooLarge limit bytes v → (is_full limit bytes ≡ true) × FaultyHead (seen_within limit bytes) v Cut
large-read None bytes v h = absurd h
large-read (Some limit) bytes v h = (le-leb limit (length bytes) h.0, h.1)

cut-read : (p : HeadRules) (bytes : List ℕ) (stop : Stop) → IsCutHead p bytes → heading_of p stop bytes ≡ cut_heading stop
cut-read p bytes stop (inl k) =
    let u = unfinished-read (head_limit p) bytes k.0 k.1 in
    rw (head-fault (seen_within (head_limit p) bytes) k.0 Cut u.1, u.0) refl
cut-read p bytes stop (inr k) = whole-read p bytes stop k.0 k.1 (Ok k.2) k.3 ∙ rw (with_head-cut k.2.form (body_length_or_0 k.2) k.1 k.4) refl

-- and one
refused-read : (p : HeadRules) (bytes : List ℕ) (stop : Stop) (refusal : Refusal) (v : Manner) → IsRefused p bytes stop refusal v → heading_of p stop bytes ≡ Refused refusal v
refused-read p bytes stop BadRequest v (inl k) = rw (head-fault (seen_within (head_limit p) bytes) k.0 Malformed k.1) (ap (Refused BadRequest) (sym k.2))
refused-read p bytes stop BadRequest v (inr k) = whole-read p bytes stop k.0 k.1 (Err Invalid) k.2 ∙ ap (Refused BadRequest) (sym k.3)
refused-read p bytes stop RequestTimeout v k = cut-read p bytes stop k.0 ∙ rw k.1 (ap (Refused RequestTimeout) (sym k.2))
refused-read p bytes stop ExpectationFailed v k = whole-read p bytes stop k.0 k.1 (Err Expectation) k.2 ∙ ap (Refused ExpectationFailed) (sym k.3)
refused-read p bytes stop HeaderFieldsTooLarge v k =
    let l = large-read (head_limit p) bytes k.0 k.1 in
    rw (head-fault (seen_within (head_limit p) bytes) k.0 Cut l.1, l.0) (ap (Refused HeaderFieldsTooLarge) (sym k.2))
refused-read p bytes stop VersionNotSupported v k = absurd k
refused-read p bytes stop RequestLineTooLong v k = absurd k
refused-read p bytes stop CodingNotImplemented v k = absurd k
refused-read p bytes stop MajorVersionNotSupported v k = absurd k

pub heading-one : (p : HeadRules) (bytes : List ℕ) (stop : Stop) (h : Heading) → RulesHeadAt p bytes stop h → heading_of p stop bytes ≡ h
heading-one p bytes stop Silence (inl k) = cut-read p bytes stop k.0 ∙ rw k.1 refl
heading-one p bytes stop Silence (inr k) = rw (head-fault (seen_within (head_limit p) bytes) k.0 NotAscii k.1) refl
heading-one p bytes stop (Refused refusal v) h = refused-read p bytes stop refusal v h
heading-one p bytes stop (Heads m f after) h =
    whole-read p bytes stop m after (Ok f) h.whole ∙ rw (cut-not f.form (body_length_or_0 f) after (is_cut_with_head f.form (body_length_or_0 f) after) refl h.uncut) refl

-- EACH PROFILE has one heading at each place
pub heading-some : (p : Profile) (bytes : List ℕ) (stop : Stop) → (h : Heading) × HeadAt p bytes stop h
heading-some under.Lenient bytes stop = (heading_of rule.Lenient stop bytes, heading-is rule.Lenient bytes stop)
heading-some under.Strict bytes stop = (heading_of rule.Strict stop bytes, heading-is rule.Strict bytes stop)
heading-some under.Standard bytes stop = let r = some-reading (standard_front bytes) in (standard_heading r.0 bytes stop, (r.0, r.1, refl))

heading-same : (p : Profile) (bytes : List ℕ) (stop : Stop) (h k : Heading) → HeadAt p bytes stop h → HeadAt p bytes stop k → h ≡ k
heading-same under.Lenient bytes stop h k a b = sym (heading-one rule.Lenient bytes stop h a) ∙ heading-one rule.Lenient bytes stop k b
heading-same under.Strict bytes stop h k a b = sym (heading-one rule.Strict bytes stop h a) ∙ heading-one rule.Strict bytes stop k b
heading-same under.Standard bytes stop h k a b = a.2 ∙ ap (λ r. standard_heading r bytes stop) (read-once (standard_front bytes) a.0 b.0 a.1 b.1) ∙ sym b.2

abbrev pub heading_at : Profile → Headings
heading_at p stop bytes = (heading-some p bytes stop).0

chunked-is : (standard : Bool) (n : ℕ) (after : List ℕ) (stop : Stop) (body : List ℕ) (e : Result (List ℕ) ErrorKind) → MatchResult e (λ rest. WholeChunksBy (chunk_rules standard) after body rest) (λ kind. CutChunksBy (chunk_rules standard) after stop body kind)
    → BodyAt standard Chunked n after stop (chunked_read (record { body = body; ends = e })).body (chunked_read (record { body = body; ends = e })).next
chunked-is standard n after stop body (Ok rest) h = inl (rest, h, refl, refl)
chunked-is standard n after stop body (Err kind) h = inr (kind, h, refl, refl)

pub pipeline-sized-is : (standard : Bool) (n : ℕ) (after : List ℕ) (stop : Stop) (t : Bool) → nat_lt (length after) n ≡ t
    → (let r : BodyRead = (if t then record { body = record { bytes = after; stop = cut_stop standard stop }; next = None } else record { body = whole_feed (take n after); next = Some (drop n after) }) in
    BodyAt standard Counted n after stop r.body r.next)
pipeline-sized-is standard n after stop true e = inr (ltb-true (length after) n e, refl, refl)
pipeline-sized-is standard n after stop false e = let k = ltb-false (length after) n e in inl (drop n after, grind (arith, common_steps), grind (arith, common_steps), refl, refl)

held-is : (standard : Bool) (n : ℕ) (after : List ℕ) (stop : Stop) (t : Bool) → nat_lt (length after) n ≡ t → (length after < n → ⊥)
    → (let r : BodyRead = (if t then record { body = record { bytes = after; stop = stop }; next = None } else record { body = whole_feed (take n after); next = Some (drop n after) }) in
    BodyAt standard WithHead n after stop r.body r.next)
held-is standard n after stop true e h = absurd (h (ltb-true (length after) n e))
held-is standard n after stop false e h = let k = ltb-false (length after) n e in (drop n after, grind (arith, common_steps), grind (arith, common_steps), refl, refl)

body-is : (standard : Bool) (form : Form) (n : ℕ) (after : List ℕ) (stop : Stop) → (IsCutWithHead form n after → ⊥) → BodyAt standard form n after stop (body_read standard form n after stop).body (body_read standard form n after stop).next
body-is standard Nothing n after stop h = (refl, refl)
body-is standard WithHead n after stop h = held-is standard n after stop (nat_lt (length after) n) refl h
body-is standard Counted n after stop h = pipeline-sized-is standard n after stop (nat_lt (length after) n) refl
body-is standard Rest n after stop h = (refl, refl)
body-is standard Chunked n after stop h = chunked-is standard n after stop (decoded_by (chunk_rules standard) (length after + 1) stop after).body (decoded_by (chunk_rules standard) (length after + 1) stop after).ends (decoded_by-is (chunk_rules standard) (length after + 1) after stop (omega arith))

feed-eq : (b : Feed) (x : List ℕ) (s : Stop) → x ≡ b.bytes → s ≡ b.stop → ◌≡◌ {A = Feed} (record { bytes = x; stop = s }) b
feed-eq b x s e f = let g : List ℕ → Stop → Feed = λ y t. record { bytes = y; stop = t } in ap (λ y. g y s) e ∙ ap (g b.bytes) f

read-eq : (b : Feed) (p : Place) (c : Feed) (q : Place) → c ≡ b → q ≡ p → ◌≡◌ {A = BodyRead} (record { body = c; next = q }) (record { body = b; next = p })
read-eq b p c q e f = let g : Feed → Place → BodyRead = λ y t. record { body = y; next = t } in ap (λ y. g y q) e ∙ ap (g b) f

take_front : (xs ys : List ℕ) (n : ℕ) → length xs ≡ n → take n (xs ++ ys) ≡ xs
take_front xs ys n e = grind (arith, common_steps)

drop_front : (xs ys : List ℕ) (n : ℕ) → length xs ≡ n → drop n (xs ++ ys) ≡ ys
drop_front xs ys n e = grind (arith, common_steps)

sized-one : (n : ℕ) (after : List ℕ) (stop : Stop) (body : Feed) (next : Place) → SizedBody n after body next → sized_read n after stop ≡ record { body = body; next = next }
sized-one n after stop body next h =
    let long : n ≤ length after = rw h.1 (simp length-append (omega (arith, h.2))) in
    rw (le-ltb (length after) n long)
    (read-eq body next _ _ (feed-eq body (take n after) End (rw h.1 (take_front body.bytes h.0 n h.2)) (sym h.3)) (rw h.1 (ap Some (drop_front body.bytes h.0 n h.2)) ∙ sym h.4))

body-one : (standard : Bool) (form : Form) (n : ℕ) (after : List ℕ) (stop : Stop) (body : Feed) (next : Place) → BodyAt standard form n after stop body next → body_read standard form n after stop ≡ record { body = body; next = next }
body-one standard Nothing n after stop body next h = read-eq body next _ _ (sym h.0) (sym h.1)
body-one standard WithHead n after stop body next h = sized-one n after stop body next h
body-one standard Counted n after stop body next h =
    ⊎_elim (λ k. sized-one n after (cut_stop standard stop) body next k) (λ k. rw (lt-ltb (length after) n k.0) (read-eq body next _ _ (sym k.1) (sym k.2))) h
body-one standard Rest n after stop body next h = read-eq body next _ _ (sym h.0) (sym h.1)
body-one standard Chunked n after stop body next h =
    ⊎_elim
    (λ k. rw (decoded_by-one (chunk_rules standard) after body.bytes k.0 stop k.1) (read-eq body next _ _ (feed-eq body body.bytes End refl (sym k.2)) (sym k.3)))
    (λ k. rw (decoded_by-front (chunk_rules standard) after body.bytes stop k.0 k.1) (read-eq body next _ _ (feed-eq body body.bytes (Faults k.0) refl (sym k.2)) (sym k.3)))
    h

-- the item at a place, and where the next one begins
abbrev Found : Type 0
Found = Option Item × Place

abbrev found_in : Stop → Heading → Found
found_in stop Silence = (None, None)
found_in stop (Refused refusal v) = (Some (Refuses refusal v false true), None)
found_in stop (Heads m f after) =
    let b = body_read f.by_standard f.form (body_length_or_0 f) after stop in (Some (item_of m f b.body (place_feed stop b.next)), next_place m f b.next)

pair-eq : (a b : Option Item) (p q : Place) → a ≡ b → p ≡ q → ◌≡◌ {A = Found} (a, p) (b, q)
pair-eq a b p q e f = let g : Option Item → Place → Found = λ x y. (x, y) in ap (λ x. g x p) e ∙ ap (g b) f

found-one : (stop : Stop) (h : Heading) (item : Option Item) (next : Place) → FoundAt stop h item next → found_in stop h ≡ (item, next)
found-one stop Silence item next k = pair-eq None item None next (sym k.0) (sym k.1)
found-one stop (Refused refusal v) item next k = pair-eq (Some (Refuses refusal v false true)) item None next (sym k.0) (sym k.1)
found-one stop (Heads m f after) item next k =
    rw (body-one f.by_standard f.form (body_length_or_0 f) after stop k.0 k.1 k.2) (pair-eq _ _ _ _ (sym k.3) (sym k.4))

one-found : (i j : Option Item) (p q : Place) (f : Found) → f ≡ (i, p) → f ≡ (j, q) → (i ≡ j) × (p ≡ q)
one-found i j p q f e g =
    let item : Found → Option Item = λ x. x.0 in
    let place : Found → Place = λ x. x.1 in
    (sym (ap item e) ∙ ap item g, sym (ap place e) ∙ ap place g)

none-some : {G : Type 0} (y : Item) → None ≡ Some y → G
none-some y e = cc

pipeline-some-eq : (x y : Item) → Some x ≡ Some y → x ≡ y
pipeline-some-eq x y e = cc

cons-eq : (x y : Item) (xs ys : List Item) → x ≡ y → xs ≡ ys → x ∷ xs ≡ y ∷ ys
cons-eq x y xs ys e f = cc

-- two ways to read one head are the same
pub one-head : (p : Profile) (bytes : List ℕ) (stop : Stop) (i j : Option Item) (a b : Place) → OneHead p bytes stop i a → OneHead p bytes stop j b → (i ≡ j) × (a ≡ b)
one-head p bytes stop i j a b h k =
    one-found i j a b (found_in stop h.0) (found-one stop h.0 i a h.2) (ap (found_in stop) (heading-same p bytes stop h.0 k.0 h.1 k.1) ∙ found-one stop k.0 j b k.2)

-- each feed has at most one pipeline
pub pipeline-one : (p : Profile) (place : Place) (stop : Stop) (xs ys : List Item) → Pipeline p place stop xs → Pipeline p place stop ys → xs ≡ ys
pipeline-one p None stop [] [] h k = refl
pipeline-one p None stop [] (y ∷ ys) h k = elim k [ ]
pipeline-one p None stop (x ∷ xs) ys h k = elim h [ ]
pipeline-one p (Some bytes) stop [] [] h k = refl
pipeline-one p (Some bytes) stop [] (y ∷ ys) h k = none-some y (one-head p bytes stop None (Some y) None k.0 h k.1).0
pipeline-one p (Some bytes) stop (x ∷ xs) [] h k = none-some x (one-head p bytes stop None (Some x) None h.0 k h.1).0
pipeline-one p (Some bytes) stop (x ∷ xs) (y ∷ ys) h k =
    let s = one-head p bytes stop (Some x) (Some y) h.0 k.0 h.1 k.1 in
    let P : Place → Type 0 = λ x. Pipeline p x stop ys in
    cons-eq x y xs ys (pipeline-some-eq x y s.0) (pipeline-one p h.0 stop xs ys h.2 (subst P (sym s.1) k.2))

-- an item that stands at a place is the first of its pipeline, and the others stand after it
pub pipeline-first : (p : Profile) (bytes : List ℕ) (stop : Stop) (item : Item) (next : Place) (xs : List Item) → OneHead p bytes stop (Some item) next → Pipeline p (Some bytes) stop xs
    → (more : List Item) × (xs ≡ item ∷ more) × Pipeline p next stop more
pipeline-first p bytes stop item next [] h k = none-some item (one-head p bytes stop None (Some item) None next k h).0
pipeline-first p bytes stop item next (x ∷ xs) h k =
    let s = one-head p bytes stop (Some item) (Some x) next k.0 h k.1 in
    let P : Place → Type 0 = λ x. Pipeline p x stop xs in
    (xs, cons-eq x item xs xs (sym (pipeline-some-eq item x s.0)) refl, subst P (sym s.1) k.2)

-- where no item stands the pipeline ends
pub pipeline-none : (p : Profile) (bytes : List ℕ) (stop : Stop) (xs : List Item) → OneHead p bytes stop None None → Pipeline p (Some bytes) stop xs → xs ≡ []
pipeline-none p bytes stop [] h k = refl
pipeline-none p bytes stop (x ∷ xs) h k = none-some x (one-head p bytes stop None (Some x) None k.0 h k.1).0

-- how many bytes a place has
abbrev place_len : Place → ℕ
place_len None = 0
place_len (Some bytes) = length bytes

body-shorter : (standard : Bool) (form : Form) (n : ℕ) (after : List ℕ) (stop : Stop) (body : Feed) (next : Place) → BodyAt standard form n after stop body next → place_len next ≤ length after
body-shorter standard Nothing n after stop body next h = rw h.1 (omega arith)
body-shorter standard WithHead n after stop body next h = sized-shorter n after body next h
  where
    sized-shorter : (n : ℕ) (after : List ℕ) (body : Feed) (next : Place) → SizedBody n after body next → place_len next ≤ length after
    sized-shorter n after body next h = rw (h.4, h.1) (simp length-append (omega arith))
body-shorter standard Counted n after stop body next h = ⊎_elim (λ k. rw (k.4, k.1) (simp length-append (omega arith))) (λ k. rw k.2 (omega arith)) h
body-shorter standard Rest n after stop body next h = rw h.1 (omega arith)
body-shorter standard Chunked n after stop body next h = ⊎_elim (λ k. rw k.3 (chunks-shorter (chunk_rules standard) after body.bytes k.0 k.1)) (λ k. rw k.3 (omega arith)) h
  where
    chunks-shorter : (rules : ChunkRules) (bytes body rest : List ℕ) → WholeChunksBy rules bytes body rest → length rest ≤ length bytes
    chunks-shorter rules bytes body rest c = rw c.joins (simp length-append (omega arith))

goes-shorter : (m : Message) (f : Framing) (next : Place) → place_len (next_place m f next) ≤ place_len next
goes-shorter m f next = chosen (if is_too_new m.version then ends_too_new f.form else f.is_last) next
  where
    chosen : (t : Bool) (next : Place) → place_len (place_after t next) ≤ place_len next
    chosen true next = omega arith
    chosen false next = omega arith

head-shorter : (bytes : List ℕ) (m : Message) (after : List ℕ) → BeginsWithRequestHead bytes m after → length after < length bytes
head-shorter bytes m after h =
    let s = line-shorter bytes h.2.0 h.0 h.2.1 in
    let f = fields-fewer h.0 h.1 m.headers h.3 in
    let l = line-shorter h.1 [] after h.4 in omega arith

within-shorter : (limit : Option ℕ) (bytes : List ℕ) (m : Message) (after : List ℕ) → BeginsWithin limit bytes m after → length after < length bytes
within-shorter None bytes m after h = head-shorter bytes m after h
within-shorter (Some limit) bytes m after h = head-shorter bytes m after h.0

-- what stands behind a head is shorter, and its short body has come
pub record IsHeads (bytes : List ℕ) (f : Framing) (after : List ℕ) : Type 0 where
  pub shorter : length after < length bytes
  pub uncut : IsCutWithHead f.form (body_length_or_0 f) after → ⊥

rules-heads : (p : HeadRules) (bytes : List ℕ) (m : Message) (f : Framing) (after : List ℕ) → IsRequestHead p bytes m f after → IsHeads bytes f after
rules-heads p bytes m f after h = record { shorter = within-shorter (head_limit p) bytes m after h.whole.begins; uncut = h.uncut }

standard-heads : (bytes : List ℕ) (m : Message) (f : Framing) (after : List ℕ) (stop : Stop) → IsStandardHeads bytes m f after → IsHeads bytes f after
standard-heads bytes m f after stop h =
    let short = whole-shorter (standard_front bytes) h.message h.front h.begins in
    let all : length (standard_front bytes) + length (drop STANDARD_HEAD bytes) ≡ length bytes = sym (length-append (standard_front bytes) (drop STANDARD_HEAD bytes)) ∙ ap length (take-append-drop STANDARD_HEAD bytes) in
    let long : length after ≡ length h.front + length (drop STANDARD_HEAD bytes) = ap length h.behind ∙ length-append h.front (drop STANDARD_HEAD bytes) in
    record { shorter = omega (arith, short, all, long); uncut = h.uncut }

heads-at : (p : Profile) (bytes : List ℕ) (stop : Stop) (m : Message) (f : Framing) (after : List ℕ) → HeadAt p bytes stop (Heads m f after) → IsHeads bytes f after
heads-at under.Lenient bytes stop m f after h = rules-heads rule.Lenient bytes m f after h
heads-at under.Strict bytes stop m f after h = rules-heads rule.Strict bytes m f after h
heads-at under.Standard bytes stop m f after h = standard-heads bytes m f after stop (standard-parts bytes stop m f after h)

-- the pipeline that is read is the pipeline
heads-is : (p : Profile) (at : Headings) (fuel : ℕ) (stop : Stop) (bytes : List ℕ) → ((place : Place) → place_len place < length bytes → Pipeline p place stop (items_from at fuel stop place))
    → (m : Message) (f : Framing) (after : List ℕ) → HeadAt p bytes stop (Heads m f after) → Pipeline p (Some bytes) stop (items_at (items_from at fuel stop) stop (Heads m f after))
heads-is p at fuel stop bytes go m f after h =
    let here = heads-at p bytes stop m f after h in
    let r = body_read f.by_standard f.form (body_length_or_0 f) after stop in
    let k = body-is f.by_standard f.form (body_length_or_0 f) after stop here.uncut in
    let n = body-shorter f.by_standard f.form (body_length_or_0 f) after stop r.body r.next k in
    let g = goes-shorter m f r.next in
    (next_place m f r.next, (Heads m f after, h, (r.body, r.next, k, refl, refl)), go (next_place m f r.next) (omega (arith, n, g, here.shorter)))

one-is : (p : Profile) (at : Headings) (fuel : ℕ) (stop : Stop) (bytes : List ℕ) → ((place : Place) → place_len place < length bytes → Pipeline p place stop (items_from at fuel stop place))
    → (h : Heading) → HeadAt p bytes stop h → Pipeline p (Some bytes) stop (items_at (items_from at fuel stop) stop h)
one-is p at fuel stop bytes go Silence h = (Silence, h, (refl, refl))
one-is p at fuel stop bytes go (Refused refusal v) h = (None, (Refused refusal v, h, (refl, refl)), tt)
one-is p at fuel stop bytes go (Heads m f after) h = heads-is p at fuel stop bytes go m f after h

items-are : (p : Profile) (fuel : ℕ) (place : Place) (stop : Stop) → place_len place < fuel → Pipeline p place stop (items_from (heading_at p) fuel stop place)
items-are p zero place stop lt = absurd (omega arith)
items-are p (suc fuel) None stop lt = tt
items-are p (suc fuel) (Some bytes) stop lt =
    one-is p (heading_at p) fuel stop bytes (λ place less. items-are p fuel place stop (omega arith)) (heading_at p stop bytes) (heading-some p bytes stop).1

-- each feed has a pipeline
pub feed-pipeline : (p : Profile) (feed : Feed) → Pipeline p (Some feed.bytes) feed.stop (items_of (heading_at p) feed)
feed-pipeline p feed = items-are p (length feed.bytes + 1) (Some feed.bytes) feed.stop (omega arith)

pub has-pipeline : (p : Profile) (feed : Feed) → (items : List Item) × Pipeline p (Some feed.bytes) feed.stop items
has-pipeline p feed = (items_of (heading_at p) feed, feed-pipeline p feed)

-- a body that is all the rest is the connection's last
no-rest : (chunked owed : Bool) (n : Option ℕ) → standard_form chunked owed n ≡ Rest → ⊥
no-rest true owed n e = cc
no-rest false owed None e = cc
no-rest false owed (Some n) e = by (n == 0) (nat_le n LONGEST_WITH_HEAD && not owed) e
  where
    by : (s t : Bool) → (if s then Nothing else if t then WithHead else Counted) ≡ Rest → ⊥
    by true t e = cc
    by false true e = cc
    by false false e = cc

pub heads-rest_last : (p : Profile) (bytes : List ℕ) (stop : Stop) (m : Message) (f : Framing) (after : List ℕ) → HeadAt p bytes stop (Heads m f after) → f.form ≡ Rest → f.is_last ≡ true
heads-rest_last under.Lenient bytes stop m f after h = rest-last rule.Lenient m.version m.headers f h.whole.frames
heads-rest_last under.Strict bytes stop m f after h = rest-last rule.Strict m.version m.headers f h.whole.frames
heads-rest_last under.Standard bytes stop m f after h =
    let k = standard-parts bytes stop m f after h in
    λ rest. absurd (no-rest k.summary.is_chunked k.summary.owes_continue k.summary.body_length (sym (ap (λ (x : Framing). x.form) k.framed) ∙ rest))

-- no head stands in front of no byte
pub empty-pipeline : (p : Profile) → Pipeline p (Some []) End []
empty-pipeline under.Lenient = (Silence, heading-is rule.Lenient [] End, (refl, refl))
empty-pipeline under.Strict = (Silence, heading-is rule.Strict [] End, (refl, refl))
empty-pipeline under.Standard = (Silence, (ReadOpen false, refl, refl), (refl, refl))
