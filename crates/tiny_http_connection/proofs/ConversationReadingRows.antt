-- The definitions tried out: replies and output of whole conversations, computed for a writer that takes all.
use Rattle.std.proofs.Common.{◌≡◌, refl, ℕ, List, [], ◌∷◌, ◌++◌, Option, Some, None, Bool, false, map, length}
use Rattle.std.specs.Prelude.{codes}
use Rattle.std.specs.Fmt.{digits}
use Rattle.httpdate.specs.Date.{date_text}
use Rattle.httpdate.specs.declared.date.HttpDate.{HttpDate}
use Rattle.tiny_http_head.specs.declared.common.Method.{Method}
use Rattle.tiny_http_head.specs.declared.common.Method.TheVariants.{Get, Head, Post}
use Rattle.tiny_http_head.specs.declared.common.Header.{Header}
use Rattle.tiny_http_head.specs.Heads.{version, Message, length_in}
use Rattle.tiny_http_io.specs.Device.{whole_feed}
use Rattle.tiny_http_response.specs.Coding.{coding_asked}
use Rattle.tiny_http_response.specs.Answer.{answer_coding, text_of, status_line, field_line, upgrade_lines, server_line, date_line, framing_line, answer_head_text}
use Rattle.tiny_http_head.specs.Common.{reason_phrase}
use Rattle.tiny_http_body.specs.declared.framing.Form.{Form}
use Rattle.tiny_http_body.specs.declared.framing.Form.TheVariants.{Nothing, WithHead, Chunked}
use Rattle.tiny_http_body.specs.declared.framing.Framing.{Framing}
use Rattle.tiny_http_body.specs.declared.framing.HeadRules.TheVariants.{Lenient, Strict}
use Rattle.tiny_http_body.specs.FramingReading.{framing}
use Rattle.tiny_http_response.specs.ResponseValue.{ResponseValue, response_of}
use Rattle.tiny_http_connection.specs.Steps.{StepValue, Ask, Respond, Drop, ReplyValue, Handed, Ended, NotYet, Done, TimedValue}
use Rattle.tiny_http_connection.specs.ConversationReading.{conversed, Conversed}

abbrev on_date : HttpDate → List StepValue → List TimedValue
on_date date steps = map (λ s. (date, s)) steps

abbrev hello : List ℕ → ResponseValue
hello text = response_of 200 (record { field = codes "Content-Type"; value = codes "text/plain; charset=UTF-8" } ∷ []) text

-- an answer: its status line, the server's name, the date, the headers, what frames the body, and the body
abbrev answer : List ℕ → HttpDate → List ℕ → List ℕ → List ℕ → List ℕ
answer status date headers framing body =
    codes "HTTP/" ++ status ++ codes "\r\nServer: tiny-http (Rust)\r\nDate: " ++ (date_text date ++ codes "\r\n" ++ headers ++ framing ++ codes "\r\n") ++ body

abbrev empty : List ℕ → HttpDate → List ℕ
empty status date = answer status date [] (codes "Content-Length: 0\r\n") []

abbrev text_of_length : HttpDate → List ℕ → List ℕ → List ℕ
text_of_length date n text = answer (codes "1.1 200 OK") date (codes "Content-Type: text/plain; charset=UTF-8\r\n") (codes "Content-Length: " ++ n ++ codes "\r\n") text

abbrev output : List (List ℕ) → List ℕ
output [] = []
output (x ∷ xs) = x ++ output xs

abbrev message : Method → List ℕ → ℕ → ℕ → List Header → Message
message m path major minor headers = record { method = m; path = path; version = version major minor; headers = headers }

abbrev framed : Form → Option ℕ → Bool → Framing
framed form length last = record { form = form; owes_continue = false; body_length = length; asks_upgrade = false; by_standard = false; is_last = last }

abbrev plain : Framing
plain = framed Nothing None false

abbrev header : List ℕ → List ℕ → Header
header f v = record { field = f; value = v }

abbrev gives : List ReplyValue → List ℕ → Conversed
gives replies output = record { replies = replies; output = output }

no_bytes : (date : HttpDate) → conversed Lenient (whole_feed []) (on_date date (Ask ∷ Ask ∷ [])) ≡ gives (Ended ∷ Ended ∷ []) ([])
unfolding digits text_of answer_coding coding_asked status_line field_line upgrade_lines server_line date_line framing_line answer_head_text reason_phrase framing length_in
no_bytes date = refl

plain_request : (date : HttpDate) → conversed Lenient (whole_feed (codes "GET /hello HTTP/1.1\r\n\r\n")) (on_date date (Ask ∷ Respond 0 (hello (codes "hello world")) ∷ Ask ∷ [])) ≡ gives (Handed 0 (message Get (codes "/hello") 1 1 []) plain ∷ Done ∷ Ended ∷ []) (output (text_of_length date (codes "11") (codes "hello world") ∷ []))
unfolding digits text_of answer_coding coding_asked status_line field_line upgrade_lines server_line date_line framing_line answer_head_text reason_phrase framing length_in
plain_request date = refl

empty_first_line : (date : HttpDate) → conversed Lenient (whole_feed (codes "\r\n")) (on_date date (Ask ∷ [])) ≡ gives (Ended ∷ []) (output (empty (codes "1.1 400 Bad Request") date ∷ []))
unfolding digits text_of answer_coding coding_asked status_line field_line upgrade_lines server_line date_line framing_line answer_head_text reason_phrase framing length_in
empty_first_line date = refl

no_version : (date : HttpDate) → conversed Lenient (whole_feed (codes "GET /hello\r\n")) (on_date date (Ask ∷ [])) ≡ gives (Ended ∷ []) (output (empty (codes "1.1 400 Bad Request") date ∷ []))
unfolding digits text_of answer_coding coding_asked status_line field_line upgrade_lines server_line date_line framing_line answer_head_text reason_phrase framing length_in
no_version date = refl

lone_newline : (date : HttpDate) → conversed Lenient (whole_feed (codes "GET / HTTP/1.1\r\nHost: a\nX: b\r\n\r\n")) (on_date date (Ask ∷ [])) ≡ gives (Handed 0 (message Get (codes "/") 1 1 (header (codes "Host") (codes "a\nX: b") ∷ [])) plain ∷ []) ([])
unfolding digits text_of answer_coding coding_asked status_line field_line upgrade_lines server_line date_line framing_line answer_head_text reason_phrase framing length_in
lone_newline date = refl

blank_before_colon : (date : HttpDate) → conversed Lenient (whole_feed (codes "GET / HTTP/1.0\r\nContent-Length : 5\r\n\r\nhello")) (on_date date (Ask ∷ [])) ≡ gives (Ended ∷ []) (output (empty (codes "1.0 400 Bad Request") date ∷ []))
unfolding digits text_of answer_coding coding_asked status_line field_line upgrade_lines server_line date_line framing_line answer_head_text reason_phrase framing length_in
blank_before_colon date = refl

unfinished_head : (date : HttpDate) → conversed Lenient (whole_feed (codes "GET / HTTP/1.1\r\nHost: a")) (on_date date (Ask ∷ [])) ≡ gives (Ended ∷ []) ([])
unfolding digits text_of answer_coding coding_asked status_line field_line upgrade_lines server_line date_line framing_line answer_head_text reason_phrase framing length_in
unfinished_head date = refl

byte_past_ascii : (date : HttpDate) → conversed Lenient (whole_feed (codes "GET / HTTP/1.1\r\nHost: " ++ 233 ∷ codes "\r\n")) (on_date date (Ask ∷ [])) ≡ gives (Ended ∷ []) ([])
unfolding digits text_of answer_coding coding_asked status_line field_line upgrade_lines server_line date_line framing_line answer_head_text reason_phrase framing length_in
byte_past_ascii date = refl

held_body : (date : HttpDate) → conversed Lenient (whole_feed (codes "GET / HTTP/1.1\r\nContent-Length: 3\r\n\r\nhello")) (on_date date (Ask ∷ Respond 0 (hello (codes "a")) ∷ Ask ∷ [])) ≡ gives (Handed 0 (message Get (codes "/") 1 1 (header (codes "Content-Length") (codes "3") ∷ [])) (framed WithHead (Some 3) false) ∷ Done ∷ Ended ∷ []) (output (text_of_length date (codes "1") (codes "a") ∷ []))
unfolding digits text_of answer_coding coding_asked status_line field_line upgrade_lines server_line date_line framing_line answer_head_text reason_phrase framing length_in
held_body date = refl

one_after_another : (date : HttpDate) → conversed Lenient (whole_feed (codes "GET /a HTTP/1.1\r\n\r\nGET /b HTTP/1.1\r\n\r\nbad\r\n")) (on_date date (Ask ∷ Ask ∷ Respond 1 (hello (codes "x")) ∷ Ask ∷ Respond 0 (hello (codes "a")) ∷ Respond 1 (hello (codes "b")) ∷ Ask ∷ [])) ≡ gives (Handed 0 (message Get (codes "/a") 1 1 []) plain ∷ Handed 1 (message Get (codes "/b") 1 1 []) plain ∷ NotYet ∷ Ended ∷ Done ∷ Done ∷ Ended ∷ []) (output (text_of_length date (codes "1") (codes "a") ∷ text_of_length date (codes "1") (codes "b") ∷ empty (codes "1.1 400 Bad Request") date ∷ []))
unfolding digits text_of answer_coding coding_asked status_line field_line upgrade_lines server_line date_line framing_line answer_head_text reason_phrase framing length_in
one_after_another date = refl

drop : (date : HttpDate) → conversed Lenient (whole_feed (codes "GET / HTTP/1.1\r\n\r\n")) (on_date date (Ask ∷ Drop 0 ∷ [])) ≡ gives (Handed 0 (message Get (codes "/") 1 1 []) plain ∷ Done ∷ []) (output (empty (codes "1.1 500 Internal Server Error") date ∷ []))
unfolding digits text_of answer_coding coding_asked status_line field_line upgrade_lines server_line date_line framing_line answer_head_text reason_phrase framing length_in
drop date = refl

withheld_for_head : (date : HttpDate) → conversed Lenient (whole_feed (codes "HEAD / HTTP/1.1\r\n\r\n")) (on_date date (Ask ∷ Respond 0 (hello (codes "a")) ∷ [])) ≡ gives (Handed 0 (message Head (codes "/") 1 1 []) plain ∷ Done ∷ []) (output (text_of_length date (codes "1") [] ∷ []))
unfolding digits text_of answer_coding coding_asked status_line field_line upgrade_lines server_line date_line framing_line answer_head_text reason_phrase framing length_in
withheld_for_head date = refl

-- three requests, the answers out of order
three : List ℕ
three = codes "GET / HTTP/1.1\r\n\r\nGET / HTTP/1.1\r\n\r\nGET / HTTP/1.1\r\n\r\n"

abbrev got : ℕ → ReplyValue
got k = Handed k (message Get (codes "/") 1 1 []) plain

answers_in_order : (date : HttpDate) → conversed Lenient (whole_feed three) (on_date date (Ask ∷ Ask ∷ Ask ∷ Drop 1 ∷ Respond 2 (hello (codes "c")) ∷ Respond 0 (hello (codes "a")) ∷ Respond 2 (hello (codes "c")) ∷ [])) ≡ gives (got 0 ∷ got 1 ∷ got 2 ∷ Done ∷ NotYet ∷ Done ∷ Done ∷ []) (output (text_of_length date (codes "1") (codes "a") ∷ empty (codes "1.1 500 Internal Server Error") date ∷ text_of_length date (codes "1") (codes "c") ∷ []))
unfolding three digits text_of answer_coding coding_asked status_line field_line upgrade_lines server_line date_line framing_line answer_head_text reason_phrase framing length_in
answers_in_order date = refl

-- nothing is written before the first number is answered
held_back : (date : HttpDate) → conversed Lenient (whole_feed (codes "GET / HTTP/1.1\r\n\r\nGET / HTTP/1.1\r\n\r\nbad\r\n")) (on_date date (Ask ∷ Ask ∷ Ask ∷ Drop 1 ∷ [])) ≡ gives (got 0 ∷ got 1 ∷ Ended ∷ Done ∷ []) []
unfolding digits text_of answer_coding coding_asked status_line field_line upgrade_lines server_line date_line framing_line answer_head_text reason_phrase framing length_in
held_back date = refl

left_refusal : (date : HttpDate) → conversed Lenient (whole_feed (codes "GET / HTTP/1.1\r\n\r\nGET / HTTP/1.1\r\n\r\nbad\r\n")) (on_date date (Ask ∷ Ask ∷ Ask ∷ Drop 1 ∷ Respond 0 (hello (codes "a")) ∷ [])) ≡ gives (got 0 ∷ got 1 ∷ Ended ∷ Done ∷ Done ∷ []) (output (text_of_length date (codes "1") (codes "a") ∷ empty (codes "1.1 500 Internal Server Error") date ∷ empty (codes "1.1 400 Bad Request") date ∷ []))
unfolding digits text_of answer_coding coding_asked status_line field_line upgrade_lines server_line date_line framing_line answer_head_text reason_phrase framing length_in
left_refusal date = refl

-- under Strict

equal_lengths : (date : HttpDate) → conversed Strict (whole_feed (codes "POST / HTTP/1.1\r\nContent-Length: 5, 05\r\n\r\nhello")) (on_date date (Ask ∷ [])) ≡ gives (Handed 0 (message Post (codes "/") 1 1 (header (codes "Content-Length") (codes "5, 05") ∷ [])) (framed WithHead (Some 5) false) ∷ []) ([])
unfolding digits text_of answer_coding coding_asked status_line field_line upgrade_lines server_line date_line framing_line answer_head_text reason_phrase framing length_in
equal_lengths date = refl

two_lengths : (date : HttpDate) → conversed Strict (whole_feed (codes "POST / HTTP/1.1\r\nContent-Length: 5\r\nContent-Length: 6\r\n\r\nhello")) (on_date date (Ask ∷ [])) ≡ gives (Ended ∷ []) (output (empty (codes "1.1 400 Bad Request") date ∷ []))
unfolding digits text_of answer_coding coding_asked status_line field_line upgrade_lines server_line date_line framing_line answer_head_text reason_phrase framing length_in
two_lengths date = refl

plus_in_length : (date : HttpDate) → conversed Strict (whole_feed (codes "POST / HTTP/1.1\r\nContent-Length: +5\r\n\r\nhello")) (on_date date (Ask ∷ [])) ≡ gives (Ended ∷ []) (output (empty (codes "1.1 400 Bad Request") date ∷ []))
unfolding digits text_of answer_coding coding_asked status_line field_line upgrade_lines server_line date_line framing_line answer_head_text reason_phrase framing length_in
plus_in_length date = refl

length_and_coding : (date : HttpDate) → conversed Strict (whole_feed (codes "POST / HTTP/1.1\r\nTransfer-Encoding: chunked\r\nContent-Length: 5\r\n\r\nhello")) (on_date date (Ask ∷ [])) ≡ gives (Ended ∷ []) (output (empty (codes "1.1 400 Bad Request") date ∷ []))
unfolding digits text_of answer_coding coding_asked status_line field_line upgrade_lines server_line date_line framing_line answer_head_text reason_phrase framing length_in
length_and_coding date = refl

last_coding : (date : HttpDate) → conversed Strict (whole_feed (codes "POST / HTTP/1.1\r\nTransfer-Encoding: gzip, Chunked\r\n\r\n0\r\n\r\n")) (on_date date (Ask ∷ [])) ≡ gives (Handed 0 (message Post (codes "/") 1 1 (header (codes "Transfer-Encoding") (codes "gzip, Chunked") ∷ [])) (framed Chunked None false) ∷ []) ([])
unfolding digits text_of answer_coding coding_asked status_line field_line upgrade_lines server_line date_line framing_line answer_head_text reason_phrase framing length_in
last_coding date = refl

other_coding : (date : HttpDate) → conversed Strict (whole_feed (codes "POST / HTTP/1.1\r\nTransfer-Encoding: gzip\r\n\r\n")) (on_date date (Ask ∷ [])) ≡ gives (Ended ∷ []) (output (empty (codes "1.1 400 Bad Request") date ∷ []))
unfolding digits text_of answer_coding coding_asked status_line field_line upgrade_lines server_line date_line framing_line answer_head_text reason_phrase framing length_in
other_coding date = refl

framing_before_expectation : (date : HttpDate) → conversed Strict (whole_feed (codes "POST / HTTP/1.1\r\nContent-Length: x\r\nExpect: 189-dummy\r\n\r\n")) (on_date date (Ask ∷ [])) ≡ gives (Ended ∷ []) (output (empty (codes "1.1 400 Bad Request") date ∷ []))
unfolding digits text_of answer_coding coding_asked status_line field_line upgrade_lines server_line date_line framing_line answer_head_text reason_phrase framing length_in
framing_before_expectation date = refl

framing_before_version : (date : HttpDate) → conversed Strict (whole_feed (codes "POST / HTTP/2.0\r\nContent-Length: x\r\n\r\n")) (on_date date (Ask ∷ [])) ≡ gives (Ended ∷ []) (output (empty (codes "2.0 400 Bad Request") date ∷ []))
unfolding digits text_of answer_coding coding_asked status_line field_line upgrade_lines server_line date_line framing_line answer_head_text reason_phrase framing length_in
framing_before_version date = refl
