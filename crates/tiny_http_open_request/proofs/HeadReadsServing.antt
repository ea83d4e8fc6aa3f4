-- From a head read to the item that stands there.
use Rattle.std.proofs.Common.{◌≡◌, refl, sym, ap, ◌∙◌, subst, ℕ, ◌-◌, ◌<◌, ◌≤◌, Bool, true, false, List, [], ◌∷◌, ◌++◌, ◌+◌, length, take, drop, length-append, Option, Some, None, Result, Ok, Err, inl, inr, arith}
use Rattle.std.specs.Prelude.{nat_lt, unwrap_or, MatchResult, MatchBool, ◌==◌, ⊤}
use Rattle.std.specs.Option.{option_map}
use Rattle.std.specs.Global.{Vec}
use Rattle.std.specs.declared.alloc.AllocError.{AllocError}
use Rattle.std.specs.declared.io.ErrorKind.{ErrorKind}
use Rattle.std.proofs.lemmas.Bool.{ltb-true, ltb-false, lt-ltb, le-ltb}
use Rattle.std.proofs.lemmas.List.{take_all}
use Rattle.std.specs.declared.io.Cursor.{Cursor}
use Rattle.tiny_http_io.specs.Cursor.{cursor_bytes}
use Rattle.httpdate.specs.declared.date.HttpDate.{HttpDate}
use Rattle.tiny_http_io.specs.declared.device.Stop.{Stop}
use Rattle.tiny_http_io.specs.declared.device.Stop.TheVariants.{End, Fault as Faults}
use Rattle.tiny_http_body.specs.declared.chunked.Decoding.{Decoding}
use Rattle.tiny_http_head.specs.declared.common.HTTPVersion.{HTTPVersion}
use Rattle.tiny_http_io.specs.Device.{Feed, whole_feed}
use Rattle.tiny_http_body.specs.Chunks.{WholeChunksBy, CutChunksBy}
use Rattle.tiny_http_body.specs.ChunkReading.{decoded_by}
use Rattle.tiny_http_body.specs.Decoding.{Coming, decoding_coming, decoding_rules}
use Rattle.tiny_http_body.proofs.ChunksLemmas.{decoded_by-is}
use Rattle.tiny_http_head.specs.Heads.{Message as Texted, BeginsWithRequestHead, FaultyHead, Cut, version, is_too_new}
use Rattle.tiny_http_open_request.specs.declared.heads.MessageHead.{MessageHead}
use Rattle.tiny_http_body.specs.declared.framing.Profile.{Profile}
use Rattle.tiny_http_body.specs.declared.framing.Profile.TheVariants as under
use Rattle.tiny_http_body.specs.declared.framing.HeadRules.{HeadRules}
use Rattle.tiny_http_body.specs.declared.framing.HeadRules.TheVariants as rule
use Rattle.tiny_http_body.specs.declared.framing.FramingFault.{FramingFault}
use Rattle.tiny_http_body.specs.declared.framing.FramingFault.TheVariants.{Invalid, Expectation}
use Rattle.tiny_http_body.specs.declared.framing.Form.{Form}
use Rattle.tiny_http_body.specs.declared.framing.Form.TheVariants.{Rest, Nothing, WithHead, Counted, Chunked}
use Rattle.tiny_http_body.specs.declared.framing.Framing.{Framing}
use Rattle.tiny_http_open_request.specs.declared.exchange.Head.{Head}
use Rattle.tiny_http_open_request.specs.declared.exchange.Exchange.{Exchange}
use Rattle.tiny_http_open_request.specs.declared.exchange.HeadRead.{HeadRead}
use Rattle.tiny_http_open_request.specs.declared.exchange.HeadRead.TheVariants as read
use Rattle.tiny_http_open_request.specs.declared.heads.HeadFault.{HeadFault}
use Rattle.tiny_http_open_request.specs.declared.heads.HeadFault.TheVariants as fault
use Rattle.tiny_http_body.specs.declared.body.UnreadBody.{UnreadBody}
use Rattle.tiny_http_body.specs.declared.body.UnreadBody.TheVariants as body
use Rattle.tiny_http_head.specs.declared.common.Header.{Header}
use Rattle.tiny_http_body.specs.Framing.{Frames}
use Rattle.tiny_http_body.specs.FramingReading.{framing}
use Rattle.tiny_http_body.proofs.BodyReads.{counted-over}
use Rattle.tiny_http_body.proofs.FramingLemmas.{framing-is}
use Rattle.tiny_http_io.specs.FeedParts.{feed_front}
use Rattle.tiny_http_io.specs.ToCome.{skipped, stopped}
use Rattle.tiny_http_body.specs.Body.{Remaining, remaining, chunk_rules, taken_remaining, counted_remaining, cut_feed, cut_stop, coming_remaining, PassesOver, Fits, IsBodyOver, IsCountedOver, ReadsOn}
use Rattle.tiny_http_open_request.specs.OpenRequest.{KeepsHead}
use Rattle.tiny_http_io.specs.Source.{TakesExactly, feed_from, IsCutOff}
use Rattle.tiny_http_body.specs.Framing.{head_limit}
use Rattle.tiny_http_open_request.specs.Pipeline.{Manner, plainly, Asks, Refusal, BadRequest, RequestTimeout, ExpectationFailed, HeaderFieldsTooLarge, VersionNotSupported, refusal_status, framing_refusal, is_head_method, ends_too_new, Place, BeginsWithin, IsUnfinishedHead, IsCutHead, IsRequestHead, Heading, RulesHeadAt, HeadAt, profile_of, Silence, Refused, Heads, IsCutWithHead, is_timed_out, body_length_or_0, BodyAt, OneHead, item_of, next_place, place_after, place_feed}
use Rattle.tiny_http_open_request.specs.HeadReads.{ReadsMessage, ReadsHead, RefusesWith, AnswersCut, AnswersFault, RefusesTooNew, IsBadLine, IsRefusedUncut, IsOkEnd, HasByteOrTimedOut, Begins, ComesWith, IsBeforeHead, RulesEndBy, EndsBy, cut_end, end_at, message_of, head_message, head_framing, FitsFraming, FitsHead}
use Rattle.tiny_http_open_request.specs.declared.exchange.EndOfRequests.{EndOfRequests}
use Rattle.tiny_http_open_request.specs.declared.exchange.EndOfRequests.TheVariants as because
use Rattle.tiny_http_io.specs.declared.source.InputState.{InputState}
use Rattle.tiny_http_io.specs.declared.source.InputState.TheVariants as at
use Rattle.tiny_http_io.specs.Source.{SourceState}
use Rattle.tiny_http_io.specs.ToCome.{HasByte, HasNoByte}
use Rattle.tiny_http_io.specs.Device.{StopsBy}
use Rattle.tiny_http_text.specs.Bytes.{crlf}
use Rattle.std.specs.Prelude.{IfSome, IfOk, OnOk, IsSome, IsErr, ◌≢◌}
use Rattle.tiny_http_io.proofs.ToComeLemmas.{skipped-within, skipped-beyond}
use Rattle.tiny_http_response.specs.ResponseValue.{response_of}
use Rattle.tiny_http_open_request.specs.ErrorResponse.{refusal_response, refused_text}
use Rattle.tiny_http_open_request.proofs.PipelineLemmas.{pipeline-sized-is}

-- what stands there by the rules of tiny_http
pub head-by : (rules : HeadRules) (bytes : List ℕ) (stop : Stop) (heading : Heading) → RulesHeadAt rules bytes stop heading → HeadAt (profile_of rules) bytes stop heading
head-by rule.Lenient bytes stop heading h = h
head-by rule.Strict bytes stop heading h = h

end-by : (rules : HeadRules) (bytes : List ℕ) (stop : Stop) (why : EndOfRequests) → RulesEndBy rules bytes stop why → EndsBy (profile_of rules) bytes stop why
end-by rule.Lenient bytes stop why h = h
end-by rule.Strict bytes stop why h = h

-- a head that is refused with an empty answer
pub refused-at : (profile : Profile) (date : HttpDate) (f : Feed) (p : Option Feed) (refusal : Refusal) (v : Manner) (r : Result HeadRead AllocError) → refusal_response refusal ≡ response_of (refusal_status refusal) [] []
    → HeadAt profile f.bytes f.stop (Refused refusal v) → RefusesWith (refusal_status refusal) v date r → ReadsHead profile at.Head date (Some f) p r
refused-at profile date f p refusal v (Err x) s h k = tt
refused-at profile date f p refusal v (Ok (read.Refused status text true)) s h k =
    (refusal, v, false, None, (Refused refusal v, h, (refl, refl)), k.1 ∙ sym (ap (λ x. refused_text x v false date) s), k.0, refl)
refused-at profile date f p refusal v (Ok (read.Refused status text false)) s h k = let no : false ≡ true = k.2 in cc
refused-at profile date f p refusal v (Ok (read.Ended why)) s h k = absurd k
refused-at profile date f p refusal v (Ok (read.Request x)) s h k = absurd k

-- a head that is cut: a 408 where the reader timed out
cut-head : (rules : HeadRules) (date : HttpDate) (f : Feed) (p : Option Feed) (begun : Bool) (r : Result HeadRead AllocError) → IsCutHead rules f.bytes → begun ≡ nat_lt 0 (length f.bytes)
    → AnswersCut f.stop false begun date r → ReadsHead (profile_of rules) at.Head date (Some f) p r
cut-head rules date f p begun r c b k = by (is_timed_out f.stop) refl k
  where
    by : (t : Bool) → is_timed_out f.stop ≡ t → MatchBool t (RefusesWith 408 (plainly (version 1 1)) date r) (r ≡ Ok (read.Ended (cut_end f.stop begun))) → ReadsHead (profile_of rules) at.Head date (Some f) p r
    by true e k = refused-at (profile_of rules) date f p RequestTimeout (plainly (version 1 1)) r refl (head-by rules f.bytes f.stop (Refused RequestTimeout (plainly (version 1 1))) (c, e, refl)) k
    by false e k =
        let P : Result HeadRead AllocError → Type 0 = λ x. ReadsHead (profile_of rules) at.Head date (Some f) p x in
        subst P (sym k) ((Silence, head-by rules f.bytes f.stop Silence (inl (c, e)), (refl, refl)), end-by rules f.bytes f.stop (cut_end f.stop begun) (inl (c, e, ap (cut_end f.stop) b)))

-- memory for a line was refused
without-memory : (profile : Profile) (date : HttpDate) (f : Feed) (p : Option Feed) (r : Result HeadRead AllocError) → IsErr r → ReadsHead profile at.Head date (Some f) p r
without-memory profile date f p (Ok x) k = let no : false ≡ true = k in cc
without-memory profile date f p (Err x) k = tt

-- a faulty head; where it is cut, the input stopped so
pub head-refused : (rules : HeadRules) (date : HttpDate) (o p : Option Feed) (v : Option HTTPVersion) (e : HeadFault) (stop : Option Stop) (r : Result HeadRead AllocError) → ReadsMessage (head_limit rules) o p (Err (v, e)) → AnswersFault v e stop date r
    → ((f : Feed) → o ≡ Some f → e ≡ fault.Cut → (stop ≡ Some f.stop) × (true ≡ nat_lt 0 (length f.bytes))) → ReadsHead (profile_of rules) at.Head date o p r
head-refused rules date None p v e stop r h k why = tt
head-refused rules date (Some f) p v fault.Cut stop r h k why =
    let w = why f refl refl in
    let P : Option Stop → Type 0 = λ o. IfSome o (λ s. AnswersCut s false true date r) in
    cut-head rules date f p true r (inl (v, h)) w.1 (subst P w.0 k)
head-refused rules date (Some f) p v fault.TooLarge stop r h k why = refused-at (profile_of rules) date f p HeaderFieldsTooLarge (plainly (unwrap_or v (version 1 1))) r refl (head-by rules f.bytes f.stop (Refused HeaderFieldsTooLarge (plainly (unwrap_or v (version 1 1)))) (v, h, refl)) k
head-refused rules date (Some f) p v fault.NotAscii stop r h k why =
    let P : Result HeadRead AllocError → Type 0 = λ x. ReadsHead (profile_of rules) at.Head date (Some f) p x in
    subst P (sym k) ((Silence, head-by rules f.bytes f.stop Silence (inr (v, h)), (refl, refl)), end-by rules f.bytes f.stop because.NotAscii (inr ((v, h), refl)))
head-refused rules date (Some f) p v fault.Malformed stop r h k why = refused-at (profile_of rules) date f p BadRequest (plainly (unwrap_or v (version 1 1))) r refl (head-by rules f.bytes f.stop (Refused BadRequest (plainly (unwrap_or v (version 1 1)))) (inl (v, h, refl))) k
head-refused rules date (Some f) p v fault.Memory stop r h k why = without-memory (profile_of rules) date f p r k

-- the framing that is computed is the one by the cases
framed-as : (rules : HeadRules) (v : HTTPVersion) (headers : List Header) (r : Result Framing FramingFault) → framing rules v headers ≡ r → Frames rules v headers r
framed-as rules v headers r e = let F : Result Framing FramingFault → Type 0 = λ x. Frames rules v headers x in subst F e (framing-is rules v headers)

-- an invalid framing, or an expectation that can't be met
pub head-unframed : (rules : HeadRules) (date : HttpDate) (o p : Option Feed) (m : MessageHead) (e : FramingFault) (r : Result HeadRead AllocError) → ReadsMessage (head_limit rules) o p (Ok m) → framing rules m.version m.headers.items ≡ Err e
    → RefusesWith (refusal_status (framing_refusal e)) (plainly m.version) date r → ReadsHead (profile_of rules) at.Head date o p r
head-unframed rules date None p m e r h is k = tt
head-unframed rules date (Some f) p m Invalid r h is k = refused-at (profile_of rules) date f p BadRequest (plainly m.version) r refl (head-by rules f.bytes f.stop (Refused BadRequest (plainly m.version)) (inr (message_of m, h.0, record { begins = h.1; frames = framed-as rules m.version m.headers.items (Err _) is }, refl))) k
head-unframed rules date (Some f) p m Expectation r h is k = refused-at (profile_of rules) date f p ExpectationFailed (plainly m.version) r refl (head-by rules f.bytes f.stop (Refused ExpectationFailed (plainly m.version)) (message_of m, h.0, record { begins = h.1; frames = framed-as rules m.version m.headers.items (Err _) is }, refl)) k

-- a body that is passed over: the next head stands behind it
same-remaining : (x y : Remaining) → Some x ≡ Some y → x ≡ y
same-remaining x y e = cc

behind-of : (content : Feed) (o n : Option Feed) (r : Remaining) → option_map (taken_remaining content) o ≡ Some r → n ≡ o → n ≡ Some r.behind
behind-of content None n r left e = let no : ◌≡◌ {A = Option Remaining} None (Some r) = left in cc
behind-of content (Some f) n r left e = e ∙ ap (λ (x : Remaining). Some x.behind) (same-remaining (taken_remaining content f) r left)

skipped-of : (standard : Bool) (k : ℕ) (o : Option Feed) (r : Remaining) → option_map (counted_remaining standard k) o ≡ Some r → option_map (skipped k) o ≡ Some r.behind
skipped-of standard k None r left = let no : ◌≡◌ {A = Option Remaining} None (Some r) = left in cc
skipped-of standard k (Some f) r left = ap (λ (x : Remaining). Some x.behind) (same-remaining (counted_remaining standard k f) r left)

passed-over : {R : Type 0} (old new : SourceState R) (b : UnreadBody) (standard : Bool) (form : Form) (n : ℕ) (r : Remaining) → Fits standard b form n 0 false → ends_too_new form ≡ false → remaining b old.feed ≡ Some r → PassesOver b old new → new.feed ≡ Some r.behind
passed-over {R = R} old new (body.Over stop) standard form n r fits goes left h = behind-of (stopped stop) old.feed new.feed r left (ap (λ (s : SourceState R). s.feed) h)
passed-over {R = R} old new (body.WithHead bytes) standard form n r fits goes left h = behind-of (whole_feed (cursor_bytes bytes)) old.feed new.feed r left (ap (λ (s : SourceState R). s.feed) h)
passed-over old new (body.Counted k by_standard) standard form n r fits goes left h = h.feed ∙ skipped-of by_standard k old.feed r left
passed-over old new (body.Chunked d) standard form n r fits goes left h = let no : true ≡ false = sym (ap ends_too_new fits.0) ∙ goes in cc
passed-over old new body.Rest standard form n r fits goes left h = let no : true ≡ false = sym (ap ends_too_new fits.0) ∙ goes in cc

ok-map : {T E : Type 0} (r : Result T E) (P Q : Type 0) → (P → Q) → OnOk r P → OnOk r Q
ok-map (Ok x) P Q f h = f h
ok-map (Err e) P Q f h = tt

-- a version that is too new
abbrev TooNewAt : HeadRules → HttpDate → Feed → Option Feed → Texted → Framing → List ℕ → Feed → Place → Result HeadRead AllocError → Type 0
TooNewAt rules date x q m f after content next r =
    IsRequestHead rules x.bytes m f after → BodyAt f.by_standard f.form (body_length_or_0 f) after x.stop content next → is_too_new m.version ≡ true → RefusesTooNew (ends_too_new f.form) (is_head_method m.method) date r
    → OnOk r (ends_too_new f.form ≡ false → q ≡ Some (place_feed x.stop next)) → ReadsHead (profile_of rules) at.Head date (Some x) q r

too-new-at : (rules : HeadRules) (date : HttpDate) (x : Feed) (q : Option Feed) (m : Texted) (f : Framing) (after : List ℕ) (content : Feed) (next : Place) (r : Result HeadRead AllocError) → TooNewAt rules date x q m f after content next r
too-new-at rules date x q m f after content next (Err e) h body new k goes = tt
too-new-at rules date x q m f after content next (Ok (read.Ended why)) h body new k goes = absurd k
too-new-at rules date x q m f after content next (Ok (read.Request y)) h body new k goes = absurd k
too-new-at rules date x q m f after content next (Ok (read.Refused status text true)) h body new k goes =
    (VersionNotSupported, plainly (version 1 1), is_head_method m.method, None, (Heads m f after, head-by rules x.bytes x.stop (Heads m f after) h, (content, next, body, rw (new, ← k.2) refl, rw (new, ← k.2) refl)), k.1, k.0, refl)
too-new-at rules date x q m f after content next (Ok (read.Refused status text false)) h body new k goes =
    (VersionNotSupported, plainly (version 1 1), is_head_method m.method, next, (Heads m f after, head-by rules x.bytes x.stop (Heads m f after) h, (content, next, body, rw (new, ← k.2) refl, rw (new, ← k.2) refl)), k.1, k.0, goes (sym k.2))

pub head-too_new : {R : Type 0} (rules : HeadRules) (date : HttpDate) (o p : Option Feed) (old new : SourceState R) (m : MessageHead) (f : Framing) (b : UnreadBody) (r : Result HeadRead AllocError) → ReadsMessage (head_limit rules) o p (Ok m) → framing rules m.version m.headers.items ≡ Ok f
    → Begins f p old.feed (Some b) → is_too_new m.version ≡ true → RefusesTooNew (ends_too_new f.form) (is_head_method m.method) date r → OnOk r (ends_too_new f.form ≡ false → PassesOver b old new) → ReadsHead (profile_of rules) at.Head date o new.feed r
head-too_new rules date None p old new m f y r h e begins is k goes = tt
head-too_new rules date (Some x) p old new m f y r h e begins is k goes =
    let B : Option Feed → Type 0 = λ z. Begins f z old.feed (Some y) in
    let started = subst B h.2 begins in
    let left : Remaining = record { body = started.1; behind = place_feed x.stop started.2 } in
    too-new-at rules date x new.feed (message_of m) f h.0 started.1 started.2 r (record { whole = record { begins = h.1; frames = framed-as rules m.version m.headers.items (Ok f) e }; uncut = started.0 }) started.3 is k
    (ok-map r (ends_too_new f.form ≡ false → PassesOver y old new) (ends_too_new f.form ≡ false → new.feed ≡ Some (place_feed x.stop started.2)) (λ g ends. passed-over old new y f.by_standard f.form (body_length_or_0 f) left started.5 ends started.4 (g ends)) goes)

-- the body that begins in front of some bytes
abbrev pub BeginsAt : Bool → Form → ℕ → Feed → Option Feed → UnreadBody → Type 0
BeginsAt standard form n x new b =
    (IsCutWithHead form n x.bytes → ⊥) × (content : Feed) × (next : Place) × BodyAt standard form n x.bytes x.stop content next × ComesWith (remaining b new) x.stop content next × Fits standard b form n 0 false

pub begins-with : (f : Framing) (form : Form) (o new : Option Feed) (b : UnreadBody) → f.form ≡ form → ((x : Feed) → o ≡ Some x → BeginsAt f.by_standard form (body_length_or_0 f) x new b) → Begins f o new (Some b)
begins-with f form None new b e h = tt
begins-with f form (Some x) new b e h = let P : Form → Type 0 = λ y. BeginsAt f.by_standard y (body_length_or_0 f) x new b in subst P (sym e) (h x refl)

-- all that comes
pub begins-rest : (f : Framing) (o : Option Feed) → f.form ≡ Rest → Begins f o o (Some body.Rest)
begins-rest f o e = begins-with f Rest o o body.Rest e (λ x stated. (let P : Option Feed → Type 0 = λ y. BeginsAt f.by_standard Rest (body_length_or_0 f) x y body.Rest in subst P (sym stated) (λ k. k, x, None, (refl, refl), refl, (refl, refl))))

nothing-at : (standard : Bool) (n : ℕ) (x : Feed) → BeginsAt standard Nothing n x (Some x) (body.Over End)
nothing-at standard n x = (λ k. k, whole_feed [], Some x.bytes, (refl, refl), refl, (refl, refl))

pub begins-nothing : (f : Framing) (o : Option Feed) → f.form ≡ Nothing → Begins f o o (Some (body.Over End))
begins-nothing f o e = begins-with f Nothing o o (body.Over End) e (λ x end_reported. (let P : Option Feed → Type 0 = λ y. BeginsAt f.by_standard Nothing (body_length_or_0 f) x y (body.Over End) in subst P (sym end_reported) (nothing-at f.by_standard (body_length_or_0 f) x)))

-- a body of a known length
counted-fits : (standard : Bool) (b : UnreadBody) (n : ℕ) → ReadsOn (body.Counted n standard) 0 false b → Fits standard b Counted n 0 false
counted-fits standard b n h = by (0 == n) refl h
  where
    over : (b : UnreadBody) → IsBodyOver b → (0 == n) ≡ true → Fits standard b Counted n 0 false
    over (body.Over stop) k e = (rw e refl, tt)
    over (body.WithHead bytes) k e = absurd k
    over (body.Counted left by_standard) k e = absurd k
    over (body.Chunked d) k e = absurd k
    over body.Rest k e = absurd k

    by : (t : Bool) → (0 == n) ≡ t → MatchBool t (IsCountedOver standard t b) ((b ≡ body.Counted (n - 0) standard) × (0 < n)) → Fits standard b Counted n 0 false
    by true e k = over b (counted-over standard true b k) e
    by false e k =
        let P : UnreadBody → Type 0 = λ x. Fits standard x Counted n 0 false in
        subst P (sym k.0) (refl, omega arith, omega (arith, k.1), refl, refl)

abbrev pair : Feed → Feed → Remaining
pair content behind = record { body = content; behind = behind }

all-of : (standard : Bool) (n : ℕ) (x : Feed) → length x.bytes < n → counted_remaining standard n x ≡ pair (cut_feed standard x) (whole_feed [])
unfolding feed_front
all-of standard n x lt =
    let P : List ℕ → Feed = λ bs. record { bytes = bs; stop = cut_stop standard x.stop } in
    ap (λ y. pair y (skipped n x)) (rw (lt-ltb (length x.bytes) n lt) (ap P (take_all n x.bytes (omega (arith, lt))))) ∙ ap (pair (cut_feed standard x)) (skipped-beyond n x lt)

front-of : (standard : Bool) (n : ℕ) (x : Feed) → n ≤ length x.bytes → counted_remaining standard n x ≡ pair (whole_feed (take n x.bytes)) (record { bytes = drop n x.bytes; stop = x.stop })
unfolding feed_front
front-of standard n x le = rw (le-ltb (length x.bytes) n le) (ap (pair (whole_feed (take n x.bytes))) (skipped-within n x le))

serving-counted-at : (standard : Bool) (n : ℕ) (x : Feed) (b : UnreadBody) → remaining b (Some x) ≡ Some (counted_remaining standard n x) → Fits standard b Counted n 0 false → BeginsAt standard Counted n x (Some x) b
serving-counted-at standard n x b left fits = by (nat_lt (length x.bytes) n) refl
  where
    by : (t : Bool) → nat_lt (length x.bytes) n ≡ t → BeginsAt standard Counted n x (Some x) b
    by true e = (λ k. k, cut_feed standard x, None, pipeline-sized-is standard n x.bytes x.stop true e, left ∙ ap Some (all-of standard n x (ltb-true (length x.bytes) n e)), fits)
    by false e = (λ k. k, whole_feed (take n x.bytes), Some (drop n x.bytes), pipeline-sized-is standard n x.bytes x.stop false e, left ∙ ap Some (front-of standard n x (ltb-false (length x.bytes) n e)), fits)

-- what is left of a counted body
pub remains-counted : (standard : Bool) (n : ℕ) (x : Feed) → (content : Feed) × (next : Place) × BodyAt standard Counted n x.bytes x.stop content next × (counted_remaining standard n x ≡ pair content (place_feed x.stop next))
remains-counted standard n x = by (nat_lt (length x.bytes) n) refl
  where
    by : (t : Bool) → nat_lt (length x.bytes) n ≡ t → (content : Feed) × (next : Place) × BodyAt standard Counted n x.bytes x.stop content next × (counted_remaining standard n x ≡ pair content (place_feed x.stop next))
    by true e = (cut_feed standard x, None, pipeline-sized-is standard n x.bytes x.stop true e, all-of standard n x (ltb-true (length x.bytes) n e))
    by false e = (whole_feed (take n x.bytes), Some (drop n x.bytes), pipeline-sized-is standard n x.bytes x.stop false e, front-of standard n x (ltb-false (length x.bytes) n e))

pub begins-counted : (f : Framing) (o : Option Feed) (b : UnreadBody) (n : ℕ) → f.form ≡ Counted → n ≡ body_length_or_0 f → ((feed : Option Feed) → remaining b feed ≡ option_map (counted_remaining f.by_standard n) feed) → ReadsOn (body.Counted n f.by_standard) 0 false b → Begins f o o (Some b)
begins-counted f o b n e is left moves =
    let P : ℕ → Type 0 = λ k. Fits f.by_standard b Counted k 0 false in
    let Q : ℕ → Feed → Type 0 = λ k x. remaining b (Some x) ≡ Some (counted_remaining f.by_standard k x) in
    let R : Option Feed → Feed → Type 0 = λ y x. BeginsAt f.by_standard Counted (body_length_or_0 f) x y b in
    begins-with f Counted o o b e (λ x end_reported. subst (λ y. R y x) (sym end_reported) (serving-counted-at f.by_standard (body_length_or_0 f) x b (subst (λ k. Q k x) is (left (Some x))) (subst P is (counted-fits f.by_standard b n moves))))

-- a chunked body
pub begins-chunked : (f : Framing) (o : Option Feed) (d : Decoding) → f.form ≡ Chunked
    → ((bytes content rest : List ℕ) (stop : Stop) → WholeChunksBy (chunk_rules f.by_standard) bytes content rest → decoding_coming d (Some (record { bytes = bytes; stop = stop })) ≡ Some (record { bytes = content; behind = Ok (record { bytes = rest; stop = stop }) }))
    → ((bytes content : List ℕ) (stop : Stop) (kind : ErrorKind) → CutChunksBy (chunk_rules f.by_standard) bytes stop content kind → decoding_coming d (Some (record { bytes = bytes; stop = stop })) ≡ Some (record { bytes = content; behind = Err kind }))
    → decoding_rules d ≡ chunk_rules f.by_standard → Begins f o o (Some (body.Chunked d))
begins-chunked f o d e whole front rules =
    let by = chunk_rules f.by_standard in
    let R : Option Feed → Feed → Type 0 = λ y x. BeginsAt f.by_standard Chunked (body_length_or_0 f) x y (body.Chunked d) in
    begins-with f Chunked o o (body.Chunked d) e
    (λ x end_reported. subst (λ y. R y x) (sym end_reported) (at x (decoded_by by (length x.bytes + 1) x.stop x.bytes).body (decoded_by by (length x.bytes + 1) x.stop x.bytes).ends (decoded_by-is by (length x.bytes + 1) x.bytes x.stop (omega arith))))
  where
    at : (x : Feed) (content : List ℕ) (r : Result (List ℕ) ErrorKind) → MatchResult r (λ rest. WholeChunksBy (chunk_rules f.by_standard) x.bytes content rest) (λ kind. CutChunksBy (chunk_rules f.by_standard) x.bytes x.stop content kind) → BeginsAt f.by_standard Chunked (body_length_or_0 f) x (Some x) (body.Chunked d)
    at x content (Ok rest) h =
        (λ k. k, whole_feed content, Some rest, inl (rest, h, refl, refl), ap (λ (c : Option Coming). option_map coming_remaining c) (whole x.bytes content rest x.stop h), (refl, refl, rules))
    at x content (Err kind) h =
        (λ k. k, record { bytes = content; stop = Faults kind }, None, inr (kind, h, refl, refl), ap (λ (c : Option Coming). option_map coming_remaining c) (front x.bytes content x.stop kind h), (refl, refl, rules))

-- a body that is read with its head
pub begins-held : (f : Framing) (o new : Option Feed) (c : Cursor (Vec ℕ)) (v : Vec ℕ) (n : ℕ) → f.form ≡ WithHead → n ≡ body_length_or_0 f → cursor_bytes c ≡ v.items → TakesExactly (λ (w : Vec ℕ). w.items) n o new (Some v) → Begins f o new (Some (body.WithHead c))
begins-held f o new c v n e is bytes h = begins-with f WithHead o new (body.WithHead c) e (λ x end_reported. at x (let P : Option Feed → Type 0 = λ y. TakesExactly (λ (w : Vec ℕ). w.items) n y new (Some v) in subst P end_reported h))
  where
    at : (x : Feed) → TakesExactly (λ (w : Vec ℕ). w.items) n (Some x) new (Some v) → BeginsAt f.by_standard WithHead (body_length_or_0 f) x new (body.WithHead c)
    at x k =
        let long : length x.bytes ≡ length v.items + length k.0 = ap length k.1 ∙ length-append v.items k.0 in
        let held : length (cursor_bytes c) ≡ length v.items = ap length bytes in
        let R : Option Feed → Type 0 = λ y. remaining (body.WithHead c) y ≡ Some (pair (whole_feed v.items) (record { bytes = k.0; stop = x.stop })) in (
          λ lt. absurd (omega (arith, lt, is, long, k.2)),
          whole_feed v.items,
          Some k.0,
          (k.0, k.1, k.2 ∙ is, refl, refl),
          subst R (sym k.3) (ap (λ bs. Some (pair (whole_feed bs) (record { bytes = k.0; stop = x.stop }))) bytes),
          (refl, omega (arith, held, k.2, is)),
        )

pub begins-cut : (f : Framing) (o new : Option Feed) (n : ℕ) → f.form ≡ WithHead → n ≡ body_length_or_0 f → TakesExactly (λ (w : Vec ℕ). w.items) n o new None → Begins f o new None
begins-cut f None new n e is h = tt
begins-cut f (Some x) new n e is h =
    let P : Form → Type 0 = λ y. IsCutWithHead y (body_length_or_0 f) x.bytes in
    subst P (sym e) (omega (arith, h.0, is))

-- each body fits its framing, whatever the reader states
pub fits-rest : (f : Framing) → f.form ≡ Rest → FitsFraming f body.Rest
fits-rest f e = (e, refl)

pub fits-nothing : (f : Framing) → f.form ≡ Nothing → FitsFraming f (body.Over End)
fits-nothing f e = (rw e refl, rw e refl)

pub fits-counted : (f : Framing) (b : UnreadBody) (n : ℕ) → f.form ≡ Counted → n ≡ body_length_or_0 f → ReadsOn (body.Counted n f.by_standard) 0 false b → FitsFraming f b
fits-counted f b n e is moves =
    let P : ℕ → Type 0 = λ k. Fits f.by_standard b Counted k 0 false in
    let Q : Form → Type 0 = λ y. Fits f.by_standard b y (body_length_or_0 f) 0 false in
    subst Q (sym e) (subst P is (counted-fits f.by_standard b n moves))

pub fits-chunked : (f : Framing) (d : Decoding) → f.form ≡ Chunked → decoding_rules d ≡ chunk_rules f.by_standard → FitsFraming f (body.Chunked d)
fits-chunked f d e rules = (e, refl, rules)

pub fits-held : (f : Framing) (c : Cursor (Vec ℕ)) → f.form ≡ WithHead → length (cursor_bytes c) ≡ body_length_or_0 f → FitsFraming f (body.WithHead c)
fits-held f c e n = (e, omega (arith, n))

pub fits-handed : (f : Framing) (b : UnreadBody) (x : Exchange) → head_framing x.head ≡ f → x.open_request.body ≡ b → FitsFraming f b → FitsHead (read.Request x)
fits-handed f b x e k h =
    let F : Framing → Type 0 = λ y. FitsFraming y x.open_request.body in
    subst F (sym e) (subst (λ y. FitsFraming f y) (sym k) h)

-- the request under a message and a framing that are those of a head
abbrev IsHanded : Profile → Feed → Option Feed → UnreadBody → Texted → Framing → Type 0
IsHanded profile x q b m f =
    (content : Feed) × (next : Place) × OneHead profile x.bytes x.stop (Some (Asks (record { message = m; framing = f; body = content; behind = place_feed x.stop next }))) (place_after f.is_last next) × ComesWith (remaining b q) x.stop content next × Fits f.by_standard b f.form (body_length_or_0 f) 0 false

-- a head with its body
head-whole : (profile : Profile) (x : Feed) (q : Option Feed) (m : Texted) (f : Framing) (after : List ℕ) (b : UnreadBody) → ((IsCutWithHead f.form (body_length_or_0 f) after → ⊥) → HeadAt profile x.bytes x.stop (Heads m f after)) → is_too_new m.version ≡ false
    → Begins f (feed_from x after) q (Some b) → IsHanded profile x q b m f
head-whole profile x q m f after b at version_is begins =
    let k = begins in
    let content = k.1 in
    let next = k.2 in
    let item : Some (Asks (record { message = m; framing = f; body = content; behind = place_feed x.stop next })) ≡ Some (item_of m f content (place_feed x.stop next)) = rw version_is refl in
    let place : place_after f.is_last next ≡ next_place m f next = rw version_is refl in
    (content, next, (Heads m f after, at k.0, (content, next, k.3, item, place)), k.4, k.5)

-- a head at a place, if what is to come is stated, and what follows it
abbrev pub HeadsAt : Profile → Option Feed → Option Feed → Texted → Framing → Type 0
HeadsAt profile None p m f = ⊤
HeadsAt profile (Some x) p m f = (after : List ℕ) × (p ≡ feed_from x after) × ((IsCutWithHead f.form (body_length_or_0 f) after → ⊥) → HeadAt profile x.bytes x.stop (Heads m f after))

-- it is handed out with its body
pub handed-out : (profile : Profile) (date : HttpDate) (o p q : Option Feed) (m : Texted) (f : Framing) (h : Head) (b : UnreadBody) (y : Exchange) → head_message h ≡ m → head_framing h ≡ f → HeadsAt profile o p m f → is_too_new m.version ≡ false
    → Begins f p q (Some b) → y.head ≡ h → y.open_request.body ≡ b → KeepsHead y.open_request h date → ReadsHead profile at.Head date o q (Ok (read.Request y))
handed-out profile date None p q m f h b y u v r t begins heads bodies keeps = tt
handed-out profile date (Some x) p q m f h b y u v r t begins heads bodies keeps =
    let P : Option Feed → Type 0 = λ z. Begins f z q (Some b) in
    let found = head-whole profile x q m f r.0 b r.2 t (subst P r.1 begins) in
    let Q : Texted → Type 0 = λ z. IsHanded profile x q b z f in
    let R : Framing → Type 0 = λ z. IsHanded profile x q b (head_message h) z in
    let S : UnreadBody → Type 0 = λ z. IsHanded profile x q z (head_message h) (head_framing h) in
    let T : Head → Type 0 = λ z. IsHanded profile x q y.open_request.body (head_message z) (head_framing z) in
    let K : Head → Type 0 = λ z. KeepsHead y.open_request z date in
    let all = subst T (sym heads) (subst S (sym bodies) (subst R (sym v) (subst Q (sym u) found))) in
    (all.0, all.1, all.2, all.3, record { answer = subst K (sym heads) keeps; body = all.4 })

rules-head : (rules : HeadRules) (o p : Option Feed) (m : MessageHead) (f : Framing) → ReadsMessage (head_limit rules) o p (Ok m) → framing rules m.version m.headers.items ≡ Ok f → HeadsAt (profile_of rules) o p (message_of m) f
rules-head rules None p m f r e = tt
rules-head rules (Some x) p m f r e =
    (r.0, r.2, λ uncut. head-by rules x.bytes x.stop (Heads (message_of m) f r.0) (record { whole = record { begins = r.1; frames = framed-as rules m.version m.headers.items (Ok f) e }; uncut = uncut }))

pub head-handed : (rules : HeadRules) (date : HttpDate) (o p q : Option Feed) (m : MessageHead) (f : Framing) (h : Head) (b : UnreadBody) (y : Exchange) → head_message h ≡ message_of m → head_framing h ≡ f → ReadsMessage (head_limit rules) o p (Ok m) → framing rules m.version m.headers.items ≡ Ok f
    → is_too_new m.version ≡ false → Begins f p q (Some b) → y.head ≡ h → y.open_request.body ≡ b → KeepsHead y.open_request h date → ReadsHead (profile_of rules) at.Head date o q (Ok (read.Request y))
head-handed rules date o p q m f h b y u v r e t begins heads bodies keeps = handed-out (profile_of rules) date o p q (message_of m) f h b y u v (rules-head rules o p m f r e) t begins heads bodies keeps

line-some : (text rest : List ℕ) → 0 < length (text ++ crlf ++ rest)
line-some [] rest = omega arith
line-some (b ∷ bs) rest = omega arith

-- a body that is read with its head, and cut, where the input stopped so
pub head-cut : (rules : HeadRules) (date : HttpDate) (o p q : Option Feed) (m : MessageHead) (f : Framing) (stop : Option Stop) (r : Result HeadRead AllocError) → ReadsMessage (head_limit rules) o p (Ok m) → framing rules m.version m.headers.items ≡ Ok f → Begins f p q None
    → ((x : Feed) → p ≡ Some x → stop ≡ Some x.stop) → IfSome stop (λ s. AnswersCut s false true date r) → ReadsHead (profile_of rules) at.Head date o q r
head-cut rules date None p q m f stop r h e t ends k = tt
head-cut rules date (Some x) p q m f stop r h e t ends k =
    let P : Option Feed → Type 0 = λ y. Begins f y q None in
    let S : Option Stop → Type 0 = λ y. IfSome y (λ s. AnswersCut s false true date r) in
    let cut = subst P h.2 t in
    let begun : true ≡ nat_lt 0 (length x.bytes) = sym (lt-ltb 0 (length x.bytes) (within-some (head_limit rules) x.bytes (message_of m) h.0 h.1)) in
    cut-head rules date x q true r (inr (message_of m, h.0, f, record { begins = h.1; frames = framed-as rules m.version m.headers.items (Ok f) e }, cut)) begun (subst S (ends (record { bytes = h.0; stop = x.stop }) h.2) k)
  where
    head-some : (bytes : List ℕ) (m : Texted) (after : List ℕ) → BeginsWithRequestHead bytes m after → 0 < length bytes
    head-some bytes m after t = let P : List ℕ → Type 0 = λ x. 0 < length x in let line = t.2.1 in subst P (sym line.joins) (line-some t.2.0 t.0)

    within-some : (limit : Option ℕ) (bytes : List ℕ) (m : Texted) (after : List ℕ) → BeginsWithin limit bytes m after → 0 < length bytes
    within-some None bytes m after t = head-some bytes m after t
    within-some (Some limit) bytes m after t = head-some bytes m after t.0

-- a source that was cut stopped as its feed does
pub cut-stop : {R : Type 0} (old new : SourceState R) (stop : Option Stop) (f : Feed) → old.feed ≡ Some f → IsCutOff old new → (new.is_over ≡ true → IsSome stop × IfSome stop (λ s. StopsBy s new.feed)) → stop ≡ Some f.stop
cut-stop old new None f e cut over = let no : false ≡ true = (over cut.over).0 in cc
cut-stop old new (Some stop) f e cut over =
    let P : Option Feed → Type 0 = λ x. StopsBy stop x in
    let stops = subst P (cut.remains f e) (over cut.over).1 in
    ap Some (sym stops.1)

-- no byte of a head has come
closed-short : (rules : HeadRules) (bytes : List ℕ) → bytes ≡ [] → IsUnfinishedHead (head_limit rules) bytes None
closed-short rule.Lenient bytes e = let Q : List ℕ → Type 0 = λ x. FaultyHead x None Cut in subst Q (sym e) refl
closed-short rule.Strict bytes e = let Q : List ℕ → Type 0 = λ x. FaultyHead x None Cut × (length x < 65536) in subst Q (sym e) (refl, omega arith)

pub head-closed : {R : Type 0} (rules : HeadRules) (date : HttpDate) (o : Option Feed) (new : SourceState R) (stop : Option Stop) (r : Result HeadRead AllocError) → HasNoByte o → new.feed ≡ o → new.is_over ≡ true → (new.is_over ≡ true → IsSome stop × IfSome stop (λ s. StopsBy s new.feed))
    → IfSome stop (λ s. AnswersCut s false false date r) → ReadsHead (profile_of rules) at.Head date o new.feed r
head-closed rules date None new stop r none same is over h = tt
head-closed rules date (Some f) new None r none same is over h = let no : false ≡ true = (over is).0 in cc
head-closed rules date (Some f) new (Some stop) r none same is over h =
    let P : Option Feed → Type 0 = λ x. StopsBy stop x in
    let stops = subst P same (over is).1 in
    let S : Stop → Type 0 = λ s. AnswersCut s false false date r in
    let begun : false ≡ nat_lt 0 (length f.bytes) = sym (ap (λ (x : List ℕ). nat_lt 0 (length x)) none) in
    cut-head rules date f new.feed false r (inl (None, closed-short rules f.bytes none)) begun (subst S (sym stops.1) h)

-- after the end of a source nothing is answered
pub end-unanswered : (date : HttpDate) (stop : Option Stop) (begun : Bool) (r : Result HeadRead AllocError) → stop ≡ Some End → IfSome stop (λ s. AnswersCut s false begun date r) → IsOkEnd r
end-unanswered date stop begun r e k =
    let S : Option Stop → Type 0 = λ y. IfSome y (λ s. AnswersCut s false begun date r) in
    let P : Result HeadRead AllocError → Type 0 = λ x. IsOkEnd x in
    subst P (sym (subst S e k)) tt

-- where a head that didn't begin is answered, the reader timed out
pub timed-out : {R : Type 0} (p : Profile) (date : HttpDate) (o : Option Feed) (new : SourceState R) (stop : Option Stop) (r : Result HeadRead AllocError) → new.feed ≡ o → new.is_over ≡ true → (new.is_over ≡ true → IsSome stop × IfSome stop (λ s. StopsBy s new.feed))
    → IfSome stop (λ s. AnswersCut s false false date r) → (IsOkEnd r → ⊥) → (p ≡ under.Standard → ⊥) → HasByteOrTimedOut p o
timed-out p date None new stop r same is over h some other = inl tt
timed-out p date (Some f) new None r same is over h some other = let no : false ≡ true = (over is).0 in cc
timed-out p date (Some f) new (Some stop) r same is over h some other =
    let P : Option Feed → Type 0 = λ x. StopsBy stop x in
    let stops = subst P same (over is).1 in
    let S : Stop → Type 0 = λ s. AnswersCut s false false date r in
    inr (other, by (is_timed_out f.stop) refl (subst S (sym stops.1) h))
  where
    by : (t : Bool) → is_timed_out f.stop ≡ t → MatchBool t (RefusesWith 408 (plainly (version 1 1)) date r) (r ≡ Ok (read.Ended (cut_end f.stop false))) → is_timed_out f.stop ≡ true
    by true e k = e
    by false e k = absurd (some (let E : Result HeadRead AllocError → Type 0 = λ x. IsOkEnd x in subst E (sym k) tt))

pub has-begun : (p : Profile) (o : Option Feed) → HasByte o → HasByteOrTimedOut p o
has-begun p o h = inl h

-- the rules of tiny_http aren't the standard
pub other-rules : (rules : HeadRules) → profile_of rules ≡ under.Standard → ⊥
other-rules rule.Lenient e = let no : under.Lenient ≡ under.Standard = e in cc
other-rules rule.Strict e = let no : under.Strict ≡ under.Standard = e in cc

-- a head that is refused by another status than 408 and 431 was faulty in a line that was read
refused-by : (status : ℕ) (v : Manner) (date : HttpDate) (x : HeadRead) → RefusesWith status v date (Ok x) → IsRefusedUncut x → (status ≢ 408) × (status ≢ 431)
refused-by status v date (read.Refused code text last) k h = (λ e. h.0 (k.0 ∙ e), λ e. h.1 (k.0 ∙ e))
refused-by status v date (read.Ended why) k h = absurd k
refused-by status v date (read.Request x) k h = absurd k

cut-unrefused : (stop : Option Stop) (begun : Bool) (date : HttpDate) (x : HeadRead) → IsSome stop → IfSome stop (λ s. AnswersCut s false begun date (Ok x)) → IsRefusedUncut x → ⊥
cut-unrefused None begun date x some k h = let no : false ≡ true = some in cc
cut-unrefused (Some s) begun date x some k h = by (is_timed_out s) k
  where
    by : (t : Bool) → MatchBool t (RefusesWith 408 (plainly (version 1 1)) date (Ok x)) (◌≡◌ {A = Result HeadRead AllocError} (Ok x) (Ok (read.Ended (cut_end s begun)))) → ⊥
    by true k = (refused-by 408 (plainly (version 1 1)) date x k h).0 refl
    by false k =
        let P : HeadRead → Type 0 = λ y. IsRefusedUncut y in
        let e : x ≡ read.Ended (cut_end s begun) = cc in
        elim (subst P e h) [ ]

-- a head that is refused for its version, after which none follows: its body isn't passed over
pub passed-on : (T : Type 0) (ends no_body : Bool) (date : HttpDate) (r : Result HeadRead AllocError) → RefusesTooNew ends no_body date r → (ends ≡ true → T) → IfOk r (λ x. IsRefusedUncut x → T)
passed-on T ends no_body date (Ok (read.Refused status text last)) k t = λ h. t (sym k.2 ∙ h.2)
passed-on T ends no_body date (Ok (read.Ended why)) k t = absurd k
passed-on T ends no_body date (Ok (read.Request x)) k t = absurd k
passed-on T ends no_body date (Err e) k t = tt

pub cut-passed : (T : Type 0) (stop : Option Stop) (begun : Bool) (date : HttpDate) (r : Result HeadRead AllocError) → IsSome stop → IfSome stop (λ s. AnswersCut s false begun date r) → IfOk r (λ x. IsRefusedUncut x → T)
cut-passed T stop begun date (Ok x) some k = λ h. absurd (cut-unrefused stop begun date x some k h)
cut-passed T stop begun date (Err e) some k = tt

pub fault-passed : (T : Type 0) (v : Option HTTPVersion) (e : HeadFault) (stop : Option Stop) (date : HttpDate) (r : Result HeadRead AllocError) → AnswersFault v e stop date r → (e ≡ fault.Cut → IsSome stop) → (IsBadLine e → T) → IfOk r (λ x. IsRefusedUncut x → T)
fault-passed T v e stop date (Err x) k cut bad = tt
fault-passed T v fault.Cut stop date (Ok x) k cut bad = λ h. absurd (cut-unrefused stop true date x (cut refl) k h)
fault-passed T v fault.TooLarge stop date (Ok x) k cut bad = λ h. absurd ((refused-by 431 (plainly (unwrap_or v (version 1 1))) date x k h).1 refl)
fault-passed T v fault.NotAscii stop date (Ok x) k cut bad = λ h. bad tt
fault-passed T v fault.Malformed stop date (Ok x) k cut bad = λ h. bad tt
fault-passed T v fault.Memory stop date (Ok x) k cut bad = let no : false ≡ true = k in cc

-- a byte of a head has come
pub begun-is : (o : Option Feed) (f : Feed) → o ≡ Some f → HasByte o → true ≡ nat_lt 0 (length f.bytes)
begun-is o f e some = let P : Option Feed → Type 0 = λ x. HasByte x in sym (lt-ltb 0 (length f.bytes) (more f.bytes (subst P e some)))
  where
    more : (bytes : List ℕ) → (bytes ≡ [] → ⊥) → 0 < length bytes
    more [] h = absurd (h refl)
    more (b ∷ bs) h = omega arith

-- an end at its place is one after a body that was given up, or broke off, but for its reason
pub head-end : (profile : Profile) (s : InputState) (date : HttpDate) (o p q : Option Feed) (why : EndOfRequests) → IsBeforeHead s → ReadsHead profile at.Head date o p (Ok (read.Ended why)) → ReadsHead profile s date o q (Ok (read.Ended (end_at s why)))
head-end profile s date None p q why here h = tt
head-end profile at.Head date (Some f) p q why here h = h
head-end profile at.Abandoned date (Some f) p q why here h = (h.0, refl)
head-end profile (at.Broken kind) date (Some f) p q why here h = (h.0, refl)
head-end profile at.Body date (Some f) p q why here h = elim here [ ]
head-end profile at.Last date (Some f) p q why here h = elim here [ ]
