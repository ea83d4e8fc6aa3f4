-- The meaning of a complete head, computed element by element.
use Rattle.std.specs.Prelude.{ℕ, Bool, true, false, ◌||◌, List, [], ◌∷◌, Option, None, is_some, Result}
use Rattle.std.specs.Prelude.{Ok, Err, codes, if◌then◌else◌}
use Rattle.std.specs.Str.{bytes_eq}
use Rattle.tiny_http_head.specs.declared.common.HTTPVersion.{HTTPVersion}
use Rattle.tiny_http_head.specs.Common.{same_name}
use Rattle.tiny_http_head.specs.declared.content_length.InvalidLength.{InvalidLength}
use Rattle.tiny_http_standard_head.specs.declared.validation.Wanted.{Wanted}
use Rattle.tiny_http_standard_head.specs.declared.validation.Wanted.TheVariants.{Close, KeepAlive, Upgrade, Continue}
use Rattle.tiny_http_standard_head.specs.declared.validation.Wanted.TheVariants.{Protocol, UnknownExpectation, Chunks}
use Rattle.tiny_http_standard_head.specs.declared.validation.Codings.{Codings}
use Rattle.tiny_http_standard_head.specs.declared.validation.Codings.TheVariants.{Absent, Others, Chunked, Behind, Bad}
use Rattle.tiny_http_standard_head.specs.declared.validation.HeadError.{HeadError}
use Rattle.tiny_http_standard_head.specs.declared.validation.HeadError.TheVariants.{InvalidHead, UnknownCoding}
use Rattle.tiny_http_standard_head.specs.Validation.{is_chunked, is_unknown_expectation, is_protocol, is_1_0}
use Rattle.tiny_http_standard_head.specs.Te.{element_asks_chunked}

-- whether the element is of the wanted kind
abbrev pub is_wanted : Wanted → List ℕ → Bool
is_wanted Close element = same_name element (codes "close")
is_wanted KeepAlive element = same_name element (codes "keep-alive")
is_wanted Upgrade element = same_name element (codes "upgrade")
is_wanted Continue element = same_name element (codes "100-continue")
is_wanted Protocol element = is_protocol element
is_wanted UnknownExpectation element = is_unknown_expectation element
is_wanted Chunks element = element_asks_chunked element

-- the state of the codings after one more coding
abbrev pub coding_after : Codings → List ℕ → Codings
coding_after Absent coding = if is_chunked coding then Chunked else if bytes_eq coding [] then Bad else Others
coding_after Others coding = if is_chunked coding then Behind else if bytes_eq coding [] then Bad else Others
coding_after Chunked coding = Bad
coding_after Behind coding = Bad
coding_after Bad coding = Bad

-- the state of the codings after these codings
abbrev pub codings_on : Codings → List (List ℕ) → Codings
codings_on was [] = was
codings_on was (coding ∷ codings) = codings_on (coding_after was coding) codings

abbrev pub coded_body : Codings → Result (Option ℕ × Bool) HeadError
coded_body Chunked = Ok (None, true)
coded_body Behind = Err UnknownCoding
coded_body _ = Err InvalidHead

-- the length of the body, if it has one, and whether it is chunked, according to the version, the codings and the
-- content length; or the error if the framing is invalid or a coding is unknown
abbrev pub body_with : HTTPVersion → Codings → Option ℕ → Result (Option ℕ × Bool) HeadError
body_with v Absent n = Ok (n, false)
body_with v codings n = if (is_1_0 v || is_some n) then Err InvalidHead else coded_body codings

abbrev pub body_by : HTTPVersion → Codings → Result (Option ℕ) InvalidLength → Result (Option ℕ × Bool) HeadError
body_by v codings (Err fault) = Err InvalidHead
body_by v codings (Ok n) = body_with v codings n
