-- The grammar of a script's lines.
use Rattle.std.specs.Prelude.{◌≡◌, ◌⊎◌, ◌<◌, ◌^◌, ℕ, List, [], ◌∷◌, ◌++◌, codes, IsAscii}
use Rattle.std.specs.Str.Parse.{IsNumeral, digits_value}
use Rattle.httpdate.specs.Date.{unix_secs}
use Rattle.httpdate.specs.declared.date.HttpDate.{HttpDate}
use Rattle.replay_script.specs.declared.line.ScriptLine.{ScriptLine}
use Rattle.replay_script.specs.declared.line.ScriptLine.TheVariants.{Blank, Now, Ask, AsReader, Read, Respond, Writer}
use Rattle.replay_script.specs.declared.line.ScriptLine.TheVariants.{Write, Flush, Upgrade, Finish, Drop}
use Rattle.replay_script.specs.declared.line.Content.{Content}
use Rattle.replay_script.specs.declared.line.Content.TheVariants.{Text, Empty, Stream, Broken}

-- whether a text is this number in one or more decimal digits
abbrev pub WritesNumber : List ℕ → ℕ → Type 0
WritesNumber digits n = IsNumeral 10 digits × (digits_value 10 digits ≡ n)

-- whether a text is this number in decimal digits, a space, and the rest
abbrev pub BeginsByNumber : List ℕ → ℕ → List ℕ → Type 0
BeginsByNumber text n rest = (digits : List ℕ) × (text ≡ digits ++ 32 ∷ rest) × WritesNumber digits n

-- whether a text is this number, a space, this status code, a space, and the rest; the number is below 2^64, and the
-- status code below 2^16
abbrev pub BeginsByNumbers : List ℕ → ℕ → ℕ → List ℕ → Type 0
BeginsByNumbers text number status rest =
    (behind : List ℕ)
    × BeginsByNumber text number behind
    × BeginsByNumber behind status rest
    × (number < 2 ^ 64)
    × (status < 2 ^ 16)

-- whether a text is the seconds of this date since 1970, up to the end of the year 9999
abbrev pub WritesDate : List ℕ → HttpDate → Type 0
WritesDate text date = WritesNumber text (unix_secs date) × (unix_secs date < 253_402_300_800)

-- whether a text is the seconds of some date
abbrev pub IsDate : List ℕ → Type 0
IsDate text = (date : HttpDate) × WritesDate text date

-- whether a text is this number in decimal digits, and the number is below 2^16
abbrev pub WritesCount : List ℕ → ℕ → Type 0
WritesCount digits count = WritesNumber digits count × (count < 2 ^ 16)

-- whether a text is this content of a response, as a script writes it
abbrev pub WritesContent : List ℕ → Content → Type 0
WritesContent text (Text rest) = text ≡ codes "text " ++ rest.now
WritesContent text Empty = text ≡ codes "empty"
WritesContent text (Stream count) = (digits : List ℕ) × (text ≡ codes "stream " ++ digits) × WritesCount digits count
WritesContent text (Broken count) = (digits : List ℕ) × (text ≡ codes "broken " ++ digits) × WritesCount digits count

-- whether a text is the content of some response
abbrev pub IsContent : List ℕ → Type 0
IsContent text = (content : Content) × WritesContent text content

-- whether the words after `respond ` are this number, this status code and this content
abbrev pub WritesAnswer : List ℕ → ℕ → ℕ → Content → Type 0
WritesAnswer words number status content =
    (text : List ℕ) × BeginsByNumbers words number status text × WritesContent text content

-- whether the words after `respond ` are those of some response
abbrev pub IsAnswer : List ℕ → Type 0
IsAnswer words = (number : ℕ) × (status : ℕ) × (content : Content) × WritesAnswer words number status content

-- whether the words after `read ` are this number, below 2^64, a space, and this count, below 2^16
abbrev pub WritesRead : List ℕ → ℕ → ℕ → Type 0
WritesRead words number count =
    (digits : List ℕ) × BeginsByNumber words number digits × (number < 2 ^ 64) × WritesCount digits count

-- whether a text is a line with this meaning
abbrev pub SaysLine : List ℕ → ScriptLine → Type 0
SaysLine text Blank = (text ≡ []) ⊎ ((comment : List ℕ) × (text ≡ codes "#" ++ comment))
SaysLine text (Now date) = (digits : List ℕ) × (text ≡ codes "now " ++ digits) × WritesDate digits date
SaysLine text Ask = text ≡ codes "ask"
SaysLine text (AsReader number) =
    (digits : List ℕ) × (text ≡ codes "asreader " ++ digits) × WritesNumber digits number × (number < 2 ^ 64)
SaysLine text (Read number count) = (words : List ℕ) × (text ≡ codes "read " ++ words) × WritesRead words number count
SaysLine text (Respond number status content) =
    (words : List ℕ) × (text ≡ codes "respond " ++ words) × WritesAnswer words number status content
SaysLine text (Writer number) =
    (digits : List ℕ) × (text ≡ codes "writer " ++ digits) × WritesNumber digits number × (number < 2 ^ 64)
SaysLine text (Write number written) =
    (words : List ℕ) × (text ≡ codes "write " ++ words) × BeginsByNumber words number written.now × (number < 2 ^ 64)
SaysLine text (Flush number) =
    (digits : List ℕ) × (text ≡ codes "flush " ++ digits) × WritesNumber digits number × (number < 2 ^ 64)
SaysLine text (Upgrade number status protocol) =
    (words : List ℕ) × (text ≡ codes "upgrade " ++ words) × BeginsByNumbers words number status protocol.now
SaysLine text (Finish number) =
    (digits : List ℕ) × (text ≡ codes "finish " ++ digits) × WritesNumber digits number × (number < 2 ^ 64)
SaysLine text (Drop number) =
    (digits : List ℕ) × (text ≡ codes "drop " ++ digits) × WritesNumber digits number × (number < 2 ^ 64)

-- whether a text is a line with some meaning
abbrev pub SaysSome : List ℕ → Type 0
SaysSome text = (line : ScriptLine) × SaysLine text line

-- whether a line is ASCII and has this meaning
abbrev pub IsLine : List ℕ → ScriptLine → Type 0
IsLine bytes line = IsAscii bytes × SaysLine bytes line

-- whether a line is ASCII and in the grammar
abbrev pub IsGood : List ℕ → Type 0
IsGood bytes = IsAscii bytes × SaysSome bytes
