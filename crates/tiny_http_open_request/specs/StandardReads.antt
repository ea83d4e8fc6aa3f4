-- The results of the calls that read a head under `Standard`.
use Rattle.std.specs.Prelude.{◌≡◌, ◌&&◌, Bool, Result, Ok, MatchBool}
use Rattle.std.specs.declared.alloc.AllocError.{AllocError}
use Rattle.httpdate.specs.declared.date.HttpDate.{HttpDate}
use Rattle.tiny_http_io.specs.declared.device.Stop.{Stop}
use Rattle.tiny_http_standard_head.specs.declared.heads.StandardHead.{StandardHead}
use Rattle.tiny_http_standard_head.specs.Heads.{message_of}
use Rattle.tiny_http_open_request.specs.declared.exchange.Head.{Head}
use Rattle.tiny_http_open_request.specs.declared.exchange.HeadRead.{HeadRead}
use Rattle.tiny_http_open_request.specs.declared.exchange.HeadRead.TheVariants as read
use Rattle.tiny_http_open_request.specs.Pipeline.{is_timed_out, by_the_standard, served_message}
use Rattle.tiny_http_open_request.specs.HeadReads.{RefusesWith, cut_end, head_message}

-- whether the head that is handed out is the one that was read, in the version in which the request is served
abbrev pub IsHeadOf : StandardHead → Head → Type 0
IsHeadOf read h = head_message h ≡ served_message (message_of read)

-- Whether this is the result for a head that is cut by this stop: a 408 if it has begun and the reader timed out,
-- otherwise the end without a response; or memory for the 408 is refused.
abbrev pub AnswersStandardCut : Stop → Bool → HttpDate → Result HeadRead AllocError → Type 0
AnswersStandardCut stop has_begun date r =
    MatchBool (has_begun && is_timed_out stop) (RefusesWith 408 by_the_standard date r)
    (r ≡ Ok (read.Ended (cut_end stop has_begun)))
