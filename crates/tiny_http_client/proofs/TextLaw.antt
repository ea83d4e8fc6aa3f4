-- A whole text without upgrade is read back.
use Rattle.std.proofs.Common.{◌≡◌, refl, sym, ap, ◌∙◌, subst, ℕ, ◌<◌, ◌≤◌, ◌^◌, Bool, true, false, ◌&&◌, ◌||◌, List, [], ◌∷◌, ◌++◌, length, take, Option, Some, None, append_assoc, append-nil, arith, length-take}
use Rattle.std.specs.Prelude.{◌==◌, codes, decimal, if◌then◌else◌, nat_lt, nat_le, option_and_then, option_map}
use Rattle.std.specs.List.{list_any, cons_option, AllByRecursion}
use Rattle.std.specs.Str.{all_ascii_digits}
use Rattle.std.specs.declared.io.ErrorKind.{ErrorKind}
use Rattle.std.proofs.Math.Bool.{and-false, or-true}
use Rattle.std.proofs.lemmas.Bool.{le-ltb, lt-ltb, leb-true, or_parts}
use Rattle.std.proofs.lemmas.List.Folds.{list_any-append}
use Rattle.std.proofs.lemmas.Fmt.{decimal_is_IsNumeral, digits_decimal}
use Rattle.std.proofs.lemmas.Str.Parse.{numerals_by_value, tells_all_ascii_digits}
use Rattle.httpdate.specs.Date.{date_text}
use Rattle.httpdate.specs.declared.date.HttpDate.{HttpDate}
use Rattle.tiny_http_head.specs.declared.common.HTTPVersion.{HTTPVersion}
use Rattle.tiny_http_head.specs.declared.common.Header.{Header}
use Rattle.tiny_http_head.specs.declared.common.Method.{Method}
use Rattle.tiny_http_response.specs.declared.coding.Coding.{Coding}
use Rattle.tiny_http_response.specs.declared.coding.Coding.TheVariants.{Identity, Chunked}
use Rattle.tiny_http_response.specs.declared.coding.FramingHeader.{FramingHeader}
use Rattle.tiny_http_response.specs.declared.coding.FramingHeader.TheVariants.{Neither, TransferEncoding, ContentLength}
use Rattle.tiny_http_io.specs.declared.device.Stop.{Stop}
use Rattle.tiny_http_io.specs.declared.device.Stop.TheVariants.{End, Fault}
use Rattle.tiny_http_io.specs.Device.{Feed, fault_of}
use Rattle.tiny_http_body.specs.ChunkedPrinting.{chunked}
use Rattle.tiny_http_head.specs.Common.{same_name}
use Rattle.tiny_http_body.specs.Text.{Text, Whole, Broken, whole, prepend_text, identity_body, chunked_until, chunked_body}
use Rattle.tiny_http_response.specs.Owing.{owed, owing}
use Rattle.tiny_http_response.specs.Answer.{Answer, Printing, listed_with, has_header, answer_head_text, is_withheld, body_unless_withheld, gathered_body, coded_text, text_by_code, with_upgrade, answer_coding, text_of}
use Rattle.tiny_http_response.specs.ByStandard.{status_version, persistence_option, connection_headers, safe_value, safe_headers, listed_headers, framing_of_304, contentless_framing, framing_by_standard, has_no_content}
use Rattle.tiny_http_response.specs.declared.response_context.Persistence.{Persistence}
use Rattle.tiny_http_head.specs.Heads.{length_of}
use Rattle.tiny_http_response.specs.Readable.{IsReadable}
use Rattle.tiny_http_client.specs.ClientAnswer.{AnswerHead, BeginsWithAnswerHead, is_interim, is_head, NoBody, OfChunks, OfLength, says_chunked, first_value, content_length, has_no_body, extent, BeginsWithBody, ReadsAnswer}
use Rattle.tiny_http_client.specs.ClientText.{server_header, date_header, framing_header, printed_headers, stated_length, framing_of, framing_said, sent_body, body_said, listed_of, alone_by_code, received_answer, IsReadableAnswer}
use Rattle.tiny_http_client.proofs.PrintedLemmas.{FramingFits, head-represents}
use Rattle.tiny_http_client.proofs.SentChunks.{sent-chunks}

-- what the printed headers say of the body
any-fewer : (headers : List Header) → has_header headers (codes "Transfer-Encoding") ≡ false → says_chunked headers ≡ false
unfolding says_chunked
any-fewer [] h = refl
any-fewer (x ∷ xs) h =
    let k = parts (same_name x.field (codes "Transfer-Encoding")) (has_header xs (codes "Transfer-Encoding")) h in
    rw k.0 (any-fewer xs k.1)
  where
    parts : (a b : Bool) → (a || b) ≡ false → (a ≡ false) × (b ≡ false)
    parts true b h = cc
    parts false b h = (refl, h)

server-no_coding : (headers : List Header) → says_chunked (server_header headers) ≡ false
unfolding says_chunked
server-no_coding headers = elim (has_header headers (codes "Server")) as (λ t. says_chunked (if t then [] else record { field = codes "Server"; value = codes "tiny-http (Rust)" } ∷ []) ≡ false) [ true ↦ refl | false ↦ refl ]

date-no_coding : (headers : List Header) (date : HttpDate) → says_chunked (date_header headers date) ≡ false
unfolding says_chunked
date-no_coding headers date = elim (has_header headers (codes "Date")) as (λ t. says_chunked (if t then [] else record { field = codes "Date"; value = date_text date } ∷ []) ≡ false) [ true ↦ refl | false ↦ refl ]

chunked-append : (xs ys : List Header) → says_chunked xs ≡ false → says_chunked (xs ++ ys) ≡ says_chunked ys
unfolding says_chunked
chunked-append xs ys h = list_any-append (λ (x : Header). same_name x.field (codes "Transfer-Encoding") && same_name x.value (codes "chunked")) xs ys ∙ rw h refl

printed-chunked : (headers listed : List Header) (date : HttpDate) (framing : FramingHeader) → has_header listed (codes "Transfer-Encoding") ≡ false → says_chunked (printed_headers headers listed date framing) ≡ says_chunked (framing_header framing)
unfolding printed_headers
printed-chunked headers listed date framing h =
    chunked-append (server_header headers) (date_header headers date ++ (listed ++ framing_header framing)) (server-no_coding headers)
    ∙ (chunked-append (date_header headers date) (listed ++ framing_header framing) (date-no_coding headers date)
    ∙ chunked-append listed (framing_header framing) (any-fewer listed h))

chunks-say : says_chunked (framing_header TransferEncoding) ≡ true
unfolding says_chunked
chunks-say = refl

length-says_not : (n : ℕ) → says_chunked (framing_header (ContentLength n)) ≡ false
unfolding says_chunked
length-says_not n = refl

abbrev is_length : Header → Bool
is_length h = same_name h.field (codes "Content-Length")

first-behind : (xs ys : List Header) → list_any is_length xs ≡ false → first_value (codes "Content-Length") (xs ++ ys) ≡ first_value (codes "Content-Length") ys
first-behind [] ys h = refl
first-behind (x ∷ xs) ys h =
    let k = parts (is_length x) (list_any is_length xs) h in
    rw k.0 (first-behind xs ys k.1)
  where
    parts : (a b : Bool) → (a || b) ≡ false → (a ≡ false) × (b ≡ false)
    parts true b h = cc
    parts false b h = (refl, h)

server-no_length : (headers : List Header) → list_any is_length (server_header headers) ≡ false
server-no_length headers = elim (has_header headers (codes "Server")) as (λ t. list_any is_length (if t then [] else record { field = codes "Server"; value = codes "tiny-http (Rust)" } ∷ []) ≡ false) [ true ↦ refl | false ↦ refl ]

date-no_length : (headers : List Header) (date : HttpDate) → list_any is_length (date_header headers date) ≡ false
date-no_length headers date = elim (has_header headers (codes "Date")) as (λ t. list_any is_length (if t then [] else record { field = codes "Date"; value = date_text date } ∷ []) ≡ false) [ true ↦ refl | false ↦ refl ]

decimal-length : (n : ℕ) → n < 2 ^ 64 → length_of (decimal n) ≡ Some n
decimal-length n lt =
    let d = decimal_is_IsNumeral n lt in
    let a : all_ascii_digits (decimal n) ≡ true = digits_decimal (numerals_by_value (λ ds. all_ascii_digits ds ≡ true) tells_all_ascii_digits) n lt in
    rw (lt-ltb 0 (length (decimal n)) d.0.0, a, d.1, lt-ltb n (2 ^ 64) lt) refl

printed-length : (headers listed : List Header) (date : HttpDate) (n : ℕ) → n < 2 ^ 64 → has_header listed (codes "Content-Length") ≡ false → content_length (printed_headers headers listed date (ContentLength n)) ≡ Some n
unfolding printed_headers content_length
printed-length headers listed date n lt h =
    ap (option_and_then length_of)
    (first-behind (server_header headers) (date_header headers date ++ (listed ++ framing_header (ContentLength n))) (server-no_length headers)
    ∙ (first-behind (date_header headers date) (listed ++ framing_header (ContentLength n)) (date-no_length headers date)
    ∙ first-behind listed (framing_header (ContentLength n)) h))
    ∙ decimal-length n lt

-- a text and its method withhold a body alike
withheld-same : (m : Method) (status : ℕ) (asked : Bool) → asked ≡ is_head m → 200 ≤ status → is_withheld asked status ≡ has_no_body m status
withheld-same m status asked e h = rw (e, le-ltb status 200 h, and-false (nat_le 100 status)) refl

not-interim : (status : ℕ) → 200 ≤ status → is_interim status ≡ false
not-interim status h = rw (le-ltb status 200 h, and-false (nat_le 100 status)) refl

extent-withheld : (m : Method) (h : AnswerHead) → has_no_body m h.status ≡ true → extent m h ≡ NoBody
extent-withheld m h e = rw e refl

-- a head alone states a length that fits, and its body is nothing
abbrev IsAlone : Method → (FramingHeader → AnswerHead) → List ℕ → Option FramingHeader → Type 0
IsAlone m head_with rest None = Unit {0}
IsAlone m head_with rest (Some framing) = FramingFits framing × BeginsWithBody (extent m (head_with framing)) rest [] rest

fits-304 : (len : Option ℕ) (feed : Feed) → stated_length len feed < 2 ^ 64 → FramingFits (framing_of_304 len)
fits-304 None feed lt = tt
fits-304 (Some n) feed lt = elim (n == 0) as (λ t. FramingFits (if t then Neither else ContentLength n)) [ true ↦ tt | false ↦ lt ]

-- What the law knows of an answer but its coding and its data.
record Known (m : Method) (v : HTTPVersion) (status : ℕ) (listed : List Header) (w : Bool) : Type 0 where
  final : 200 ≤ status
  status_fits : status ≤ 65535
  major_fits : v.0 ≤ 255
  minor_fits : v.1 ≤ 255
  readable : AllByRecursion IsReadable listed
  no_coding : has_header listed (codes "Transfer-Encoding") ≡ false
  no_length : has_header listed (codes "Content-Length") ≡ false
  same : w ≡ has_no_body m status

module _ (m : Method) (v : HTTPVersion) (status : ℕ) (headers listed : List Header) (date : HttpDate) (w : Bool) (known : Known m v status listed w) (rest : List ℕ) where
  abbrev head_with : FramingHeader → AnswerHead
  head_with framing = record { version = v; status = status; headers = printed_headers headers listed date framing }

  abbrev top : FramingHeader → List ℕ
  top framing = answer_head_text v status None headers listed date framing

  -- a head and the body whose length it states
  put-together : (framing : FramingHeader) (text body : List ℕ) → FramingFits framing → BeginsWithBody (extent m (head_with framing)) (text ++ rest) body rest
      → ReadsAnswer m ((top framing ++ text) ++ rest) (record { head = head_with framing; body = body }) rest
  put-together framing text body f b =
      let P : List ℕ → Type 0 = λ x. BeginsWithAnswerHead x (head_with framing) (text ++ rest) in
      record {
        interim = [];
        start = (top framing ++ text) ++ rest;
        after = text ++ rest;
        passes = refl;
        has_head = subst P (sym (append_assoc (top framing) text rest)) (head-represents v status headers listed date framing (text ++ rest) known.major_fits known.minor_fits known.status_fits known.readable f);
        is_final = not-interim status known.final;
        has_body = b;
      }

  withheld-body : (framing : FramingHeader) → w ≡ true → BeginsWithBody (extent m (head_with framing)) ([] ++ rest) [] rest
  withheld-body framing e = rw (extent-withheld m (head_with framing) (sym known.same ∙ e)) (refl, refl)

  sized-body : (n : ℕ) (body : List ℕ) → w ≡ false → n < 2 ^ 64 → length body ≡ n → BeginsWithBody (extent m (head_with (ContentLength n))) (body ++ rest) body rest
  sized-body n body e lt len =
      let k : extent m (head_with (ContentLength n)) ≡ OfLength n =
      rw (sym known.same ∙ e, printed-chunked headers listed date (ContentLength n) known.no_coding, length-says_not n, printed-length headers listed date n lt known.no_length) refl in
      rw k (refl, len)

  chunks-body : (bytes : List ℕ) → w ≡ false → BeginsWithBody (extent m (head_with TransferEncoding)) (chunked bytes ++ rest) bytes rest
  chunks-body bytes e =
      let k : extent m (head_with TransferEncoding) ≡ OfChunks = rw (sym known.same ∙ e, printed-chunked headers listed date TransferEncoding known.no_coding, chunks-say) refl in
      rw k (sent-chunks bytes rest)

  abbrev Back : Text → FramingHeader → List ℕ → Type 0
  Back text framing body = text.ending ≡ Whole → ReadsAnswer m (text.bytes ++ rest) (record { head = head_with framing; body = body }) rest

  whole-enough : (t : Bool) (kind : ErrorKind) → (if t then Whole else Broken kind) ≡ Whole → t ≡ true
  whole-enough true kind e = refl
  whole-enough false kind e = cc

  identity-back : (n : ℕ) (feed : Feed) (t : Bool) → w ≡ t → n < 2 ^ 64 → Back (prepend_text (top (ContentLength n)) (body_unless_withheld t (identity_body n feed))) (ContentLength n) (if t then [] else take n feed.bytes)
  identity-back n feed true e lt h = put-together (ContentLength n) [] [] lt (withheld-body (ContentLength n) e)
  identity-back n feed false e lt h =
      let enough : n ≤ length feed.bytes = leb-true n (length feed.bytes) (whole-enough (nat_le n (length feed.bytes)) (fault_of feed.stop) h) in
      put-together (ContentLength n) (take n feed.bytes) (take n feed.bytes) lt (sized-body n (take n feed.bytes) e lt (simp length-take (omega arith)))

  gathered-back : (stop : Stop) (bytes : List ℕ) (t : Bool) → w ≡ t → length bytes < 2 ^ 64 → Back (gathered_body stop (top (ContentLength (length bytes))) t bytes) (ContentLength (length bytes)) (if t then [] else bytes)
  gathered-back (Fault kind) bytes t e lt h = cc
  gathered-back End bytes true e lt h = put-together (ContentLength (length bytes)) [] [] lt (withheld-body (ContentLength (length bytes)) e)
  gathered-back End bytes false e lt h = put-together (ContentLength (length bytes)) bytes bytes lt (sized-body (length bytes) bytes e lt refl)

  until-back : (stop : Stop) (bytes : List ℕ) → w ≡ false → Back (prepend_text (top TransferEncoding) (chunked_until stop bytes)) TransferEncoding bytes
  until-back (Fault kind) bytes e h = cc
  until-back End bytes e h = put-together TransferEncoding (chunked bytes) bytes tt (chunks-body bytes e)

  chunked-back : (feed : Feed) (t : Bool) → w ≡ t → Back (prepend_text (top TransferEncoding) (body_unless_withheld t (chunked_body feed))) TransferEncoding (if t then [] else feed.bytes)
  chunked-back feed true e h = put-together TransferEncoding [] [] tt (withheld-body TransferEncoding e)
  chunked-back feed false e h = until-back feed.stop feed.bytes e h

  coding-back : (coding : Coding) (says : Option Persistence) (len : Option ℕ) (feed : Feed) → stated_length len feed < 2 ^ 64
      → Back (coded_text coding says len top w feed) (framing_of coding len feed) (sent_body coding len feed w)
  coding-back Chunked says len feed lt = chunked-back (owing (owed says len) feed) w refl
  coding-back Identity says None feed lt = gathered-back feed.stop feed.bytes w refl lt
  coding-back Identity says (Some n) feed lt = identity-back n feed w refl lt

  -- a 204, a 205 and a 304 are heads alone by the standard
  of-204 : (status == 204) ≡ true → w ≡ true
  of-204 e = known.same ∙ rw (e, or-true (is_head m)) refl

  of-304 : (status == 304) ≡ true → w ≡ true
  of-304 e = known.same ∙ rw (e, or-true (status == 204), or-true (is_head m)) refl

  empty-body : (t : Bool) → w ≡ t → BeginsWithBody (extent m (head_with (ContentLength 0))) rest [] rest
  empty-body true e = withheld-body (ContentLength 0) e
  empty-body false e = sized-body 0 [] e (omega arith) refl

  by-code : (s t u : Bool) (len : Option ℕ) (feed : Feed) → (nat_lt status 200 || status == 204) ≡ s → (status == 304) ≡ u → stated_length len feed < 2 ^ 64
      → IsAlone m head_with rest (if s then Some Neither else if t then Some (ContentLength 0) else if u then Some (framing_of_304 len) else None)
  by-code true t u len feed e f lt =
      let k : (status == 204) ≡ true = ap (λ x. x || status == 204) (sym (le-ltb status 200 known.final)) ∙ e in
      (tt, withheld-body Neither (of-204 k))
  by-code false true u len feed e f lt = (omega arith, empty-body w refl)
  by-code false false true len feed e f lt = (fits-304 len feed lt, withheld-body (framing_of_304 len) (of-304 f))
  by-code false false false len feed e f lt = tt

  by-standard : (q : Option Persistence) (len : Option ℕ) (feed : Feed) → stated_length len feed < 2 ^ 64 → IsAlone m head_with rest (framing_by_standard q status len)
  by-standard None len feed lt = tt
  by-standard (Some _) len feed lt = by-code (nat_lt status 200 || status == 204) (status == 205) (status == 304) len feed refl refl lt

  -- whatever it is printed by, a code without content withholds the body
  of-contentless : has_no_content status ≡ true → w ≡ true
  of-contentless e = known.same ∙ sym (withheld-same m status (is_head m) refl known.final) ∙ rw (e, or-true (is_head m)) refl

  -- a head that says no length is alone, and any other is by the standard or not
  alone-if : (contentless t : Bool) (o : Option FramingHeader) → (contentless && has_no_content status) ≡ t → IsAlone m head_with rest o → IsAlone m head_with rest (if t then Some Neither else o)
  alone-if true true o e h = (tt, withheld-body Neither (of-contentless e))
  alone-if false true o e h = cc
  alone-if contentless false o e h = h

  alone-by : (q : Option Persistence) (contentless : Bool) (len : Option ℕ) (feed : Feed) → stated_length len feed < 2 ^ 64 → IsAlone m head_with rest (contentless_framing q contentless status len)
  alone-by q contentless len feed lt = alone-if contentless (contentless && has_no_content status) (framing_by_standard q status len) refl (by-standard q len feed lt)

  alone-back : (framing : FramingHeader) → FramingFits framing → BeginsWithBody (extent m (head_with framing)) rest [] rest → Back (whole (top framing)) framing []
  alone-back framing f b h =
      let P : List ℕ → Type 0 = λ x. ReadsAnswer m (x ++ rest) (record { head = head_with framing; body = [] }) rest in
      subst P (append-nil (top framing)) (put-together framing [] [] f b)

-- the status line is in a version that fits
pub major-fits : (q : Option Persistence) (v : HTTPVersion) → v.0 ≤ 255 → (status_version q v).0 ≤ 255
major-fits None v h = h
major-fits (Some _) v h = omega arith

pub minor-fits : (q : Option Persistence) (v : HTTPVersion) → v.1 ≤ 255 → (status_version q v).1 ≤ 255
minor-fits None v h = h
minor-fits (Some _) v h = omega arith

-- no header is listed of a name that neither the answer's own have nor those that say what becomes of the connection
connection-no_name : (name : List ℕ) (offered says : Option (List ℕ)) → same_name (codes "Connection") name ≡ false → same_name (codes "Upgrade") name ≡ false → has_header (connection_headers offered says) name ≡ false
connection-no_name name None None c u = refl
connection-no_name name None (Some option) c u = rw c refl
connection-no_name name (Some protocols) says c u = rw (c, u) refl

-- a header that is listed or left out
kept : (t : Bool) (name : List ℕ) (x : Header) (ys : List Header) → same_name x.field name ≡ false → has_header ys name ≡ false → has_header (cons_option (if t then Some (record x { value = safe_value x.value }) else None) ys) name ≡ false
kept true name x ys h k = rw h k
kept false name x ys h k = k

safe-no_name : (name : List ℕ) (headers : List Header) → has_header headers name ≡ false → has_header (safe_headers headers) name ≡ false
safe-no_name name [] h = refl
safe-no_name name (x ∷ xs) h =
    let k = or_parts (same_name x.field name) (has_header xs name) h in
    kept _ name x (safe_headers xs) k.0 (safe-no_name name xs k.1)

listed-no_name : (name : List ℕ) (q : Option Persistence) (v : HTTPVersion) (status : ℕ) (offered : Option (List ℕ)) (headers : List Header)
    → same_name (codes "Connection") name ≡ false → same_name (codes "Upgrade") name ≡ false → has_header headers name ≡ false → has_header (listed_headers q v status offered headers) name ≡ false
listed-no_name name None v status offered headers c u h = h
listed-no_name name (Some says) v status offered headers c u h =
    let front = connection_headers (option_map safe_value offered) (persistence_option v says) in
    let k : has_header (if nat_lt status 200 then [] else front) name ≡ false =
    elim (nat_lt status 200) as (λ t. has_header (if t then [] else front) name ≡ false) [ true ↦ refl | false ↦ connection-no_name name (option_map safe_value offered) (persistence_option v says) c u ] in
    list_any-append (λ (x : Header). same_name x.field name) (if nat_lt status 200 then [] else front) (safe_headers headers)
    ∙ rw k (safe-no_name name headers h)

abbrev version_of : Printing → HTTPVersion
version_of p = status_version p.persistence p.version

known-of : (m : Method) (a : Answer) (feed : Feed) (p : Printing) → IsReadableAnswer m a feed p → Known m (version_of p) a.status (listed_of a p) (is_withheld p.no_body a.status)
known-of m a feed p r = record {
  final = r.final;
  status_fits = r.status_fits;
  major_fits = major-fits p.persistence p.version r.major_fits;
  minor_fits = minor-fits p.persistence p.version r.minor_fits;
  readable = r.readable;
  no_coding = listed-no_name (codes "Transfer-Encoding") p.persistence p.version a.status a.offered a.headers refl refl r.no_coding;
  no_length = listed-no_name (codes "Content-Length") p.persistence p.version a.status a.offered a.headers refl refl r.no_length;
  same = withheld-same m a.status p.no_body r.same_method r.final;
}

-- the head that is read, by its framing
abbrev head_read : Answer → Printing → FramingHeader → AnswerHead
head_read a p framing = record { version = version_of p; status = a.status; headers = printed_headers a.headers (listed_of a p) p.date framing }

-- the head's text, by its upgrade
abbrev top_with : Answer → Printing → Option (List ℕ) → FramingHeader → List ℕ
top_with a p u framing = answer_head_text (version_of p) a.status u a.headers (listed_with u p.persistence p.version a) p.date framing

upgrade-back : (m : Method) (a : Answer) (feed : Feed) (p : Printing) (rest : List ℕ) (u : Option (List ℕ)) → u ≡ None → IsReadableAnswer m a feed p
    → (coded_text (answer_coding a p) p.persistence a.data_length (top_with a p u) (is_withheld p.no_body a.status) feed).ending ≡ Whole
    → ReadsAnswer m ((coded_text (answer_coding a p) p.persistence a.data_length (top_with a p u) (is_withheld p.no_body a.status) feed).bytes ++ rest)
    (record { head = head_read a p (framing_of (answer_coding a p) a.data_length feed); body = sent_body (answer_coding a p) a.data_length feed (is_withheld p.no_body a.status) }) rest
upgrade-back m a feed p rest (Some x) e r h = cc
upgrade-back m a feed p rest None e r h =
    coding-back m (version_of p) a.status a.headers (listed_of a p) p.date (is_withheld p.no_body a.status) (known-of m a feed p r) rest (answer_coding a p) p.persistence a.data_length feed r.length_fits h

head-back : (m : Method) (a : Answer) (feed : Feed) (p : Printing) (rest : List ℕ) (framing : FramingHeader) (u : Option (List ℕ)) → u ≡ None → IsReadableAnswer m a feed p → IsAlone m (head_read a p) rest (Some framing)
    → ReadsAnswer m (top_with a p u framing ++ rest) (record { head = head_read a p framing; body = [] }) rest
head-back m a feed p rest framing (Some x) e r k = cc
head-back m a feed p rest framing None e r k =
    alone-back m (version_of p) a.status a.headers (listed_of a p) p.date (is_withheld p.no_body a.status) (known-of m a feed p r) rest framing k.0 k.1 refl

-- with content, or a head alone by its code
content-back : (m : Method) (a : Answer) (feed : Feed) (p : Printing) (rest : List ℕ) (o : Option FramingHeader) → IsReadableAnswer m a feed p → IsAlone m (head_read a p) rest o → (text_by_code o a feed p).ending ≡ Whole
    → ReadsAnswer m ((text_by_code o a feed p).bytes ++ rest)
    (record { head = head_read a p (framing_said o (answer_coding a p) a.data_length feed); body = body_said o (answer_coding a p) a.data_length feed (is_withheld p.no_body a.status) }) rest
content-back m a feed p rest (Some framing) r k h = head-back m a feed p rest framing p.upgrade r.no_upgrade r k
content-back m a feed p rest None r k h = upgrade-back m a feed p rest p.upgrade r.no_upgrade r h

pub read_back : (m : Method) (a : Answer) (feed : Feed) (p : Printing) (rest : List ℕ) → IsReadableAnswer m a feed p → (text_of a feed p).ending ≡ Whole
    → ReadsAnswer m ((text_of a feed p).bytes ++ rest) (received_answer a feed p) rest
unfolding text_of
read_back m a feed p rest r h =
    let P : Option (List ℕ) → Type 0 = λ u. (with_upgrade u a feed p).ending ≡ Whole → ReadsAnswer m ((with_upgrade u a feed p).bytes ++ rest) (received_answer a feed p) rest in
    let alone = alone-by m (version_of p) a.status a.headers (listed_of a p) p.date (is_withheld p.no_body a.status) (known-of m a feed p r) rest p.persistence a.contentless a.data_length feed r.length_fits in
    subst P (sym r.no_upgrade) (content-back m a feed p rest (alone_by_code a p) r alone) h
