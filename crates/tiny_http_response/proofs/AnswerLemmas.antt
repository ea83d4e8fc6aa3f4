-- From the parts of an answer to its text.
use Rattle.std.proofs.Common.{◌≡◌, ℕ, ◌<◌, ◌^◌, Bool, List, [], ◌++◌, length, Option, Some, None, Result, Err, IfSome, refl, sym, ◌∙◌, subst, inl, inr, ◌⊎◌, ⊎_elim, append-nil, Ok, if◌then◌else◌}
use Rattle.std.specs.List.{list_all}
use Rattle.std.specs.Option.{option_map}
use Rattle.tiny_http_text.specs.Bytes.{is_ascii}
use Rattle.tiny_http_response.specs.Coding.{chosen_coding}
use Rattle.tiny_http_head.specs.declared.common.Header.{Header}
use Rattle.tiny_http_response.specs.declared.coding.Coding.{Coding}
use Rattle.tiny_http_response.specs.declared.coding.Coding.TheVariants.{Identity, Chunked}
use Rattle.tiny_http_response.specs.declared.coding.FramingHeader.{FramingHeader}
use Rattle.std.specs.declared.io.Error.{Error}
use Rattle.std.specs.declared.io.ErrorKind.TheVariants.{InvalidInput, OutOfMemory}
use Rattle.httpdate.specs.declared.date.HttpDate.{HttpDate}
use Rattle.tiny_http_head.specs.declared.common.HTTPVersion.{HTTPVersion}
use Rattle.tiny_http_response.specs.declared.coding.FramingHeader.TheVariants.{Neither, TransferEncoding, ContentLength}
use Rattle.std.specs.IoError.{error_kind}
use Rattle.tiny_http_io.specs.Device.{Feed, Sink, Puts, Took, Failed}
use Rattle.tiny_http_io.specs.declared.device.Stop.{Stop}
use Rattle.tiny_http_io.specs.declared.device.Stop.TheVariants.{End, Fault}
use Rattle.tiny_http_io.proofs.DeviceLemmas.{Took-nil}
use Rattle.tiny_http_body.proofs.DeviceCopies.{Prints-from_puts, Prints-head_failed, Prints-behind}
use Rattle.tiny_http_response.specs.Answer.{Answer, PrintsText, LacksMemory, PrintsUncoded, PrintsAnswer, PrintsGathered, Printing, with_upgrade, text_by_code, head_text_of, listed_with, status_line, gathered_body, answer_head_text, is_withheld, uncoded_text, coded_text, body_unless_withheld, text_of, answer_coding}
use Rattle.tiny_http_response.specs.declared.answer_head.ResponseHead.{ResponseHead}
use Rattle.tiny_http_response.specs.ResponseHead.{response_head_text, response_head_listed}
use Rattle.tiny_http_response.specs.ByStandard.{status_version, contentless_framing}
use Rattle.tiny_http_response.specs.Owing.{owed, owing, owing_feed}
use Rattle.tiny_http_response.specs.declared.owing.OwingReader.{OwingReader}
use Rattle.tiny_http_response.specs.declared.response_context.Persistence.{Persistence}
use Rattle.tiny_http_body.specs.Text.{Text, Whole, Broken, Prints, whole, nothing_sent, prepend_text, identity_body, chunked_body}

-- a head has bytes
pub head-some : (version : HTTPVersion) (status : ℕ) (upgrade : Option (List ℕ)) (headers listed : List Header) (date : HttpDate) (framing : FramingHeader) (rest : List ℕ) → answer_head_text version status upgrade headers listed date framing ++ rest ≡ [] → ⊥
unfolding answer_head_text status_line
head-some version status upgrade headers listed date framing rest e = cc

pub head-alone : (version : HTTPVersion) (status : ℕ) (upgrade : Option (List ℕ)) (headers listed : List Header) (date : HttpDate) (framing : FramingHeader) → answer_head_text version status upgrade headers listed date framing ≡ [] → ⊥
unfolding answer_head_text status_line
head-alone version status upgrade headers listed date framing e = cc

-- a head, by what the printing functions pass on
pub response_head-some : (head : ResponseHead) (upgrade : Option (List ℕ)) (framing : FramingHeader) (rest : List ℕ) → response_head_text head upgrade framing ++ rest ≡ [] → ⊥
response_head-some head upgrade framing rest e = head-some (status_version head.persistence head.version) head.status.0 upgrade head.headers.now (response_head_listed head upgrade) head.date framing rest e

pub response_head-alone : (head : ResponseHead) (upgrade : Option (List ℕ)) (framing : FramingHeader) → response_head_text head upgrade framing ≡ [] → ⊥
response_head-alone head upgrade framing e = head-alone (status_version head.persistence head.version) head.status.0 upgrade head.headers.now (response_head_listed head upgrade) head.date framing e

-- an upgrade
pub Answered-upgrade : {T : Type 0} (o : Option Feed) (a b : Sink) (r : Result T Error) (ans : Answer) (p : Printing) (protocol : List ℕ) → p.upgrade ≡ Some protocol → PrintsText a b r (if list_all is_ascii protocol then whole (head_text_of ans (record p { upgrade = Some protocol }) Neither) else nothing_sent InvalidInput) → IfSome o (λ f. length f.bytes < 2 ^ 63 → PrintsAnswer a b r ans f p)
unfolding text_of answer_coding
Answered-upgrade None a b r ans p protocol e h = tt
Answered-upgrade {T = T} (Some f) a b r ans p protocol e h = λ few.
    let P : Option (List ℕ) → Type 0 = λ u. PrintsAnswer a b r ans f (record p { upgrade = u }) in
    subst P (sym e) (inl h)

-- an answer that is a head alone by its code
pub Answered-contentless : {T : Type 0} (o : Option Feed) (a b : Sink) (r : Result T Error) (ans : Answer) (p : Printing) (framing : FramingHeader) → p.upgrade ≡ None → Some framing ≡ contentless_framing p.persistence ans.contentless ans.status ans.data_length → Puts a b r (head_text_of ans p framing) → IfSome o (λ f. length f.bytes < 2 ^ 63 → PrintsAnswer a b r ans f p)
unfolding text_of answer_coding
Answered-contentless None a b r ans p framing u e h = tt
Answered-contentless {T = T} (Some f) a b r ans p framing u e h = λ few.
    let U : Option (List ℕ) → Type 0 = λ x. PrintsText a b r (with_upgrade x ans f p) in
    let C : Option FramingHeader → Type 0 = λ x. PrintsText a b r (text_by_code x ans f p) in
    let some : head_text_of ans p framing ≡ [] → ⊥ = head-alone (status_version p.persistence p.version) ans.status p.upgrade ans.headers (listed_with p.upgrade p.persistence p.version ans) p.date framing in
    inl (subst U (sym u) (subst C e (Prints-from_puts a b r (head_text_of ans p framing) h, λ none. absurd (some none))))

-- any other answer: in chunks, from data that owe their length by the standard; or not coded
abbrev pub PrintsIn : {T : Type 0} → Option Feed → Sink → Sink → Result T Error → Coding → Option Persistence → Option ℕ → (FramingHeader → List ℕ) → Bool → Type 0
PrintsIn o a b r Identity says known head withheld = IfSome o (λ f. length f.bytes < 2 ^ 63 → PrintsUncoded a b r known (uncoded_text known head withheld f))
PrintsIn o a b r Chunked says known head withheld = IfSome (option_map (owing (owed says known)) o) (λ f. length f.bytes < 2 ^ 63 → Prints a b r (prepend_text (head TransferEncoding) (body_unless_withheld withheld (chunked_body f))))

-- what is printed of a reader of data that owe
pub Printed-owing : {R T : Type 0} (feed : R → Option Feed) (source : OwingReader R) (inner : R) (k : ℕ) (a b : Sink) (r : Result T Error) (says : Option Persistence) (known : Option ℕ) (head : FramingHeader → List ℕ) (withheld : Bool) → source ≡ record { inner = inner; left = k } → k ≡ owed says known
    → IfSome (owing_feed feed source) (λ f. length f.bytes < 2 ^ 63 → Prints a b r (prepend_text (head TransferEncoding) (body_unless_withheld withheld (chunked_body f)))) → PrintsIn (feed inner) a b r Chunked says known head withheld
Printed-owing {R} {T} feed source inner k a b r says known head withheld e l h =
    let P : Feed → Type 0 = λ f. length f.bytes < 2 ^ 63 → Prints a b r (prepend_text (head TransferEncoding) (body_unless_withheld withheld (chunked_body f))) in
    let Q : OwingReader R → Type 0 = λ x. IfSome (owing_feed feed x) P in
    let L : ℕ → Type 0 = λ n. IfSome (option_map (owing n) (feed inner)) P in
    subst L l (subst Q e h)

coded : {T : Type 0} (f : Feed) (a b : Sink) (r : Result T Error) (coding : Coding) (says : Option Persistence) (known : Option ℕ) (head : FramingHeader → List ℕ) (withheld : Bool) → length f.bytes < 2 ^ 63 → PrintsIn (Some f) a b r coding says known head withheld
    → ((framing : FramingHeader) (rest : List ℕ) → head framing ++ rest ≡ [] → ⊥) → PrintsText a b r (coded_text coding says known head withheld f) ⊎ ((coding ≡ Identity) × (known ≡ None) × LacksMemory a b r)
coded f a b r Identity says known head withheld few h some = ⊎_elim (λ x. inl x) (λ x. inr (refl, x.0, x.1)) (h few)
coded f a b r Chunked says known head withheld few h some = inl (h few, λ e. absurd (some TransferEncoding (body_unless_withheld withheld (chunked_body (owing (owed says known) f))).bytes e))

pub Answered-coded : {T : Type 0} (o : Option Feed) (a b : Sink) (r : Result T Error) (ans : Answer) (p : Printing) (coding : Coding) (withheld : Bool) → p.upgrade ≡ None → contentless_framing p.persistence ans.contentless ans.status ans.data_length ≡ None → coding ≡ chosen_coding p.version p.asked_coding ans.status ans.threshold ans.data_length → withheld ≡ is_withheld p.no_body ans.status
    → PrintsIn o a b r coding p.persistence ans.data_length (λ framing. head_text_of ans p framing) withheld
    → IfSome o (λ f. length f.bytes < 2 ^ 63 → PrintsAnswer a b r ans f p)
unfolding text_of answer_coding
Answered-coded None a b r ans p coding withheld u k e w h = tt
Answered-coded {T = T} (Some f) a b r ans p coding withheld u k e w h = λ few.
    let head : FramingHeader → List ℕ = λ framing. head_text_of ans p framing in
    let W : Bool → Type 0 = λ x. PrintsIn (Some f) a b r coding p.persistence ans.data_length head x in
    let U : Option (List ℕ) → Type 0 = λ x. PrintsText a b r (with_upgrade x ans f p) in
    let K : Option FramingHeader → Type 0 = λ x. PrintsText a b r (text_by_code x ans f p) in
    let P : Coding → Type 0 = λ x. PrintsText a b r (coded_text x p.persistence ans.data_length head (is_withheld p.no_body ans.status) f) ⊎ ((x ≡ Identity) × (ans.data_length ≡ None) × LacksMemory a b r) in
    ⊎_elim (λ x. inl (subst U (sym u) (subst K (sym k) x))) (λ x. inr ((u, k, x.0, x.1), x.2)) (subst P e (coded f a b r coding p.persistence ans.data_length head (is_withheld p.no_body ans.status) few (subst W w h) (λ framing. head-some (status_version p.persistence p.version) ans.status p.upgrade ans.headers (listed_with p.upgrade p.persistence p.version ans) p.date framing)))

pub few-failed : (o : Option Feed) (a b : Sink) (front : List ℕ) (e : Error) (body : Feed → Text) → Failed a b front (error_kind e) → IfSome o (λ f. length f.bytes < 2 ^ 63 → Prints {T = Unit {0}} a b (Err e) (prepend_text front (body f)))
few-failed None a b front e body h = tt
few-failed (Some f) a b front e body h = λ few. Prints-head_failed (Some f) a b front e body h

pub few-withheld : (o : Option Feed) (a b : Sink) (front : List ℕ) → Took a b front → IfSome o (λ f. length f.bytes < 2 ^ 63 → Prints {T = Unit {0}} a b (Ok tt) (prepend_text front (whole [])))
few-withheld None a b front h = tt
few-withheld (Some f) a b front h = λ few. (refl, let P : List ℕ → Type 0 = λ x. Took a b x in subst P (sym (append-nil front)) h)

pub few-behind : {T : Type 0} (o : Option Feed) (a b c : Sink) (r : Result T Error) (front : List ℕ) → Took a b front → IfSome o (λ f. length f.bytes < 2 ^ 63 → Prints b c r (chunked_body f)) → IfSome o (λ f. length f.bytes < 2 ^ 63 → Prints a c r (prepend_text front (chunked_body f)))
few-behind None a b c r front h k = tt
few-behind (Some f) a b c r front h k = λ few. Prints-behind a b c r front (chunked_body f) h (k few)

-- data that was read whole, and its answer
fault-cases : (f : Feed) (a : Sink) (e : Error) (front : List ℕ) (withheld : Bool) → (f.stop ≡ Fault (error_kind e)) ⊎ (error_kind e ≡ OutOfMemory) → PrintsGathered {T = Unit {0}} a a (Err e) front withheld f
fault-cases f a e front withheld (inl h) =
    let P : Stop → Type 0 = λ s. Prints {T = Unit {0}} a a (Err e) (gathered_body s front withheld f.bytes) in
    inl (subst P (sym h) (inl (refl, Took-nil a)), λ none. refl)
fault-cases f a e front withheld (inr h) = inr (h, refl)

pub Gathered-fault : (o : Option Feed) (a : Sink) (e : Error) (front : Feed → List ℕ) (withheld : Bool) → IfSome o (λ f. length f.bytes < 2 ^ 63 → (f.stop ≡ Fault (error_kind e)) ⊎ (error_kind e ≡ OutOfMemory)) → IfSome o (λ f. length f.bytes < 2 ^ 63 → PrintsGathered {T = Unit {0}} a a (Err e) (front f) withheld f)
Gathered-fault None a e front withheld h = tt
Gathered-fault (Some f) a e front withheld h = λ few. fault-cases f a e (front f) withheld (h few)

pub Gathered-printed : {T : Type 0} (o : Option Feed) (a b : Sink) (r : Result T Error) (now bytes : List ℕ) (front : ℕ → List ℕ) (withheld : Bool) → ((k : ℕ) (rest : List ℕ) → front k ++ rest ≡ [] → ⊥) → now ≡ bytes → IfSome o (λ f. length f.bytes < 2 ^ 63 → (bytes ≡ f.bytes) × (f.stop ≡ End)) → Puts a b r (front (length now) ++ (if withheld then [] else now)) → IfSome o (λ f. length f.bytes < 2 ^ 63 → PrintsGathered a b r (front (length f.bytes)) withheld f)
Gathered-printed None a b r now bytes front withheld some e h k = tt
Gathered-printed (Some f) a b r now bytes front withheld some e h k = λ few.
    let all = h few in
    let P : Stop → Type 0 = λ s. PrintsText a b r (gathered_body s (front (length f.bytes)) withheld f.bytes) in
    let Q : List ℕ → Type 0 = λ y. Puts a b r (front (length y) ++ (if withheld then [] else y)) in
    inl (subst P (sym all.1) (Prints-from_puts a b r _ (subst Q (e ∙ all.0) k), λ none. absurd (some (length f.bytes) (if withheld then [] else f.bytes) none)))

-- an answer as it is, whose head has bytes
pub Uncoded-printed : {T : Type 0} (o : Option Feed) (a b : Sink) (r : Result T Error) (front : List ℕ) (body : Feed → Text) (n : ℕ) → ((rest : List ℕ) → front ++ rest ≡ [] → ⊥) → IfSome o (λ f. Prints a b r (prepend_text front (body f)))
    → IfSome o (λ f. length f.bytes < 2 ^ 63 → PrintsText a b r (prepend_text front (body f)) ⊎ ((Some n ≡ None) × LacksMemory a b r))
Uncoded-printed None a b r front body n some h = tt
Uncoded-printed (Some f) a b r front body n some h = λ few. inl (h, λ none. absurd (some (body f).bytes none))

pub Uncoded-gathered : {T : Type 0} (o : Option Feed) (a b : Sink) (r : Result T Error) (front : Feed → List ℕ) (withheld : Bool) → IfSome o (λ f. length f.bytes < 2 ^ 63 → PrintsGathered a b r (front f) withheld f)
    → IfSome o (λ f. length f.bytes < 2 ^ 63 → PrintsText a b r (gathered_body f.stop (front f) withheld f.bytes) ⊎ ((◌≡◌ {A = Option ℕ} None None) × LacksMemory a b r))
Uncoded-gathered None a b r front withheld h = tt
Uncoded-gathered (Some f) a b r front withheld h = λ few. ⊎_elim (λ x. inl x) (λ x. inr (refl, x)) (h few)

-- an answer whose text was sent has bytes
coded-some : (coding : Coding) (says : Option Persistence) (known : Option ℕ) (head : FramingHeader → List ℕ) (withheld : Bool) (f : Feed) → ((framing : FramingHeader) (rest : List ℕ) → head framing ++ rest ≡ [] → ⊥) → (coded_text coding says known head withheld f).ending ≡ Whole → (coded_text coding says known head withheld f).bytes ≡ [] → ⊥
coded-some Chunked says known head withheld f some e none = some TransferEncoding (body_unless_withheld withheld (chunked_body (owing (owed says known) f))).bytes none
coded-some Identity says (Some n) head withheld f some e none = some (ContentLength n) (body_unless_withheld withheld (identity_body n f)).bytes none
coded-some Identity says None head withheld f some e none = by f.stop e none
  where
    by : (s : Stop) → (gathered_body s (head (ContentLength (length f.bytes))) withheld f.bytes).ending ≡ Whole → (gathered_body s (head (ContentLength (length f.bytes))) withheld f.bytes).bytes ≡ [] → ⊥
    by End e none = some (ContentLength (length f.bytes)) (if withheld then [] else f.bytes) none
    by (Fault kind) e none = let no : Broken kind ≡ Whole = e in cc

content-some : (a : Answer) (f : Feed) (p : Printing) (k : Option FramingHeader) → (text_by_code k a f p).ending ≡ Whole → (text_by_code k a f p).bytes ≡ [] → ⊥
content-some a f p (Some framing) whole none = head-alone (status_version p.persistence p.version) a.status p.upgrade a.headers (listed_with p.upgrade p.persistence p.version a) p.date framing none
content-some a f p None whole none =
    coded-some (answer_coding a p) p.persistence a.data_length (head_text_of a p) (is_withheld p.no_body a.status) f (λ framing. head-some (status_version p.persistence p.version) a.status p.upgrade a.headers (listed_with p.upgrade p.persistence p.version a) p.date framing) whole none

pub text-some : (a : Answer) (f : Feed) (p : Printing) → p.upgrade ≡ None → (text_of a f p).ending ≡ Whole → (text_of a f p).bytes ≡ [] → ⊥
unfolding text_of
text-some a f p e whole none =
    let W : Option (List ℕ) → Type 0 = λ u. (with_upgrade u a f p).ending ≡ Whole in
    let N : Option (List ℕ) → Type 0 = λ u. (with_upgrade u a f p).bytes ≡ [] in
    content-some a f p (contentless_framing p.persistence a.contentless a.status a.data_length) (subst W e whole) (subst N e none)
