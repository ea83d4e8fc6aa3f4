-- The lines that report the replies.
use Rattle.std.specs.Prelude.{ℕ, ◌/◌, ◌%◌, List, [], ◌∷◌, ◌++◌, length, get_or, flat_map, Option, Some, None, codes}
use Rattle.std.specs.Prelude.{decimal}
use Rattle.std.specs.declared.io.ErrorKind.{ErrorKind}
use Rattle.std.specs.declared.io.ErrorKind.TheVariants.{InvalidData, UnexpectedEof, OutOfMemory}
use Rattle.tiny_http_wire.specs.Common.{version_text, method_text}
use Rattle.tiny_http_wire.specs.Heads.{Message}
use Rattle.tiny_http_core.specs.Steps.{ReplyValue, Handed, Ended, Given, Fault, NotYet, Done, Refused, NoSuch, Memory}

-- the name of an error kind, or Other if the replies don't distinguish it
abbrev pub kind_name : ErrorKind → List ℕ
kind_name InvalidData = codes "InvalidData"
kind_name UnexpectedEof = codes "UnexpectedEof"
kind_name OutOfMemory = codes "OutOfMemory"
kind_name _ = codes "Other"

-- the text of a content length, or - if there is none
abbrev pub length_text : Option ℕ → List ℕ
length_text None = codes "-"
length_text (Some n) = decimal n

-- the text of a request that was handed out: its number, method, target, version, number of headers, and length
abbrev pub handed_text : ℕ → Message → Option ℕ → List ℕ
handed_text k m said =
    codes "handed " ++ decimal k ++ codes " " ++ method_text m.method ++ codes " " ++ m.path ++ codes " "
    ++ version_text m.version
    ++ codes " " ++ decimal (length m.headers) ++ codes " " ++ length_text said

-- a byte as two hexadecimal digits
abbrev pub hex_byte : ℕ → List ℕ
hex_byte b = get_or (codes "0123456789abcdef") (b / 16) 0 ∷ get_or (codes "0123456789abcdef") (b % 16) 0 ∷ []

-- a space and the hexadecimal digits of the bytes, or nothing if there are no bytes
abbrev pub bytes_text : List ℕ → List ℕ
bytes_text [] = []
bytes_text (b ∷ bytes) = codes " " ++ flat_map hex_byte (b ∷ bytes)

-- the line of a reply, without a line break
abbrev pub reply_text : ReplyValue → List ℕ
reply_text (Handed k message framing) = handed_text k message framing.body_length
reply_text (Fault kind) = codes "fault " ++ kind_name kind
reply_text NotYet = codes "notyet"
reply_text Ended = codes "ended"
reply_text (Given bytes) = codes "given" ++ bytes_text bytes
reply_text Done = codes "done"
reply_text NoSuch = codes "nosuch"
reply_text Memory = codes "memory"
reply_text Refused = codes "refused"

-- the line of a reply, with the LF that ends it
abbrev pub reply_line : ReplyValue → List ℕ
reply_line reply = reply_text reply ++ codes "\n"
