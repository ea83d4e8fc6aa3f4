-- The steps that a script names, and its first bad line.
use Rattle.std.specs.Prelude.{◌≡◌, ◌==◌, ◌+◌, ℕ, Option, Some, None, List, [], ◌∷◌, ◌++◌, length, string_bytes, false}
use Rattle.std.specs.List.{AllZip, AllByRecursion, slice_split}
use Rattle.std.specs.declared.io.ErrorKind.TheVariants.{Other}
use Rattle.httpdate.specs.declared.date.HttpDate.{HttpDate}
use Rattle.httpdate.specs.Date.{unix_secs}
use Rattle.tiny_http_wire.specs.Answer.{ResponseState, text_plain}
use Rattle.tiny_http_wire.specs.declared.device.Stop.{Stop}
use Rattle.tiny_http_wire.specs.declared.device.Stop.TheVariants.{End, Fault}
use Rattle.tiny_http_core.specs.ResponseValue.{ResponseValue, response_of}
use Rattle.tiny_http_core.specs.Steps.{StepValue, Ask, AsReader, Read, Respond, IntoWriter, Write, Flush, Upgrade}
use Rattle.tiny_http_core.specs.Steps.{Finish, Drop, TimedValue}
use Rattle.tiny_http_core.specs.declared.driver.Step.{Step}
use Rattle.tiny_http_core.specs.declared.driver.Step.TheVariants.{Ask as AskStep, AsReader as AsReaderStep}
use Rattle.tiny_http_core.specs.declared.driver.Step.TheVariants.{Read as ReadStep, Respond as RespondStep}
use Rattle.tiny_http_core.specs.declared.driver.Step.TheVariants.{IntoWriter as IntoWriterStep, Write as WriteStep}
use Rattle.tiny_http_core.specs.declared.driver.Step.TheVariants.{Flush as FlushStep, Upgrade as UpgradeStep}
use Rattle.tiny_http_core.specs.declared.driver.Step.TheVariants.{Finish as FinishStep, Drop as DropStep}
use Rattle.tiny_http_core.specs.declared.driver.Timed.{Timed}
use Rattle.replay_script.specs.ScriptData.{data_feed, xs}
use Rattle.replay_script.specs.ScriptLine.{IsLine, IsGood}
use Rattle.replay_script.specs.declared.line.ScriptLine.{ScriptLine}
use Rattle.replay_script.specs.declared.line.ScriptLine.TheVariants.{Blank, Now, Ask as AskLine}
use Rattle.replay_script.specs.declared.line.ScriptLine.TheVariants.{AsReader as AsReaderLine, Read as ReadLine}
use Rattle.replay_script.specs.declared.line.ScriptLine.TheVariants.{Respond as RespondLine, Writer as WriterLine}
use Rattle.replay_script.specs.declared.line.ScriptLine.TheVariants.{Write as WriteLine, Flush as FlushLine}
use Rattle.replay_script.specs.declared.line.ScriptLine.TheVariants.{Upgrade as UpgradeLine, Finish as FinishLine}
use Rattle.replay_script.specs.declared.line.ScriptLine.TheVariants.{Drop as DropLine}
use Rattle.replay_script.specs.declared.line.Content.{Content}
use Rattle.replay_script.specs.declared.line.Content.TheVariants.{Text, Empty, Stream, Broken}
use Rattle.replay_script.specs.declared.script_data.ScriptData.{ScriptData}

-- the lines of a script, split at each LF
abbrev pub script_lines : List ℕ → List (List ℕ)
script_lines script = slice_split (λ b. b == 10) script

-- whether line n, counted from 1, is the first that isn't in the grammar
abbrev pub IsFirstBadLine : List (List ℕ) → ℕ → Type 0
IsFirstBadLine lines n =
    (front : List (List ℕ)) × (bad : List ℕ) × (rest : List (List ℕ))
    × (lines ≡ front ++ bad ∷ rest) × (length front + 1 ≡ n) × AllByRecursion IsGood front × ¬ (IsGood bad)

-- a response without headers, with `count` bytes `x`, this stop, and this length, if it is known
abbrev pub xs_response : ℕ → ℕ → Stop → Option ℕ → ResponseValue
xs_response status count stop length =
    record {
      answer = record {
        status = status;
        headers = [];
        data_length = length;
        threshold = 32768;
        closes = false;
        offered = None;
        contentless = false;
      };
      content = xs count stop;
    }

-- the response with this status code and content
abbrev pub response_with : ℕ → Content → ResponseValue
response_with status (Text text) = response_of status (text_plain ∷ []) text.now
response_with status Empty = response_of status [] []
response_with status (Stream count) = xs_response status count End None
response_with status (Broken count) = xs_response status count (Fault Other) None

-- the step that a line names, if it names one
abbrev pub said_step : ScriptLine → Option StepValue
said_step Blank = None
said_step (Now date) = None
said_step AskLine = Some Ask
said_step (AsReaderLine number) = Some (AsReader number)
said_step (ReadLine number count) = Some (Read number count)
said_step (RespondLine number status content) = Some (Respond number (response_with status content))
said_step (WriterLine number) = Some (IntoWriter number)
said_step (WriteLine number written) = Some (Write number written.now)
said_step (FlushLine number) = Some (Flush number)
said_step (UpgradeLine number status protocol) = Some (Upgrade number protocol.now (response_of status [] []))
said_step (FinishLine number) = Some (Finish number)
said_step (DropLine number) = Some (Drop number)

-- the date of the steps after this line: that of a `now` line, otherwise `now`
abbrev pub date_behind : HttpDate → ScriptLine → HttpDate
date_behind now Blank = now
date_behind now (Now date) = date
date_behind now AskLine = now
date_behind now (AsReaderLine number) = now
date_behind now (ReadLine number count) = now
date_behind now (RespondLine number status content) = now
date_behind now (WriterLine number) = now
date_behind now (WriteLine number written) = now
date_behind now (FlushLine number) = now
date_behind now (UpgradeLine number status protocol) = now
date_behind now (FinishLine number) = now
date_behind now (DropLine number) = now

-- a list of the step with this date, or the empty list if there is no step
abbrev pub on_date : HttpDate → Option StepValue → List TimedValue
on_date now None = []
on_date now (Some step) = (now, step) ∷ []

-- the steps of these lines; the date is that of the steps before the first `now` line
abbrev pub steps_from : HttpDate → List ScriptLine → List TimedValue
steps_from now [] = []
steps_from now (line ∷ lines) =
    on_date (date_behind now line) (said_step line) ++ steps_from (date_behind now line) lines

-- whether these are the steps of a script; the date before the first `now` line is 420,895,020 seconds after the
-- beginning of 1970
abbrev pub IsScript : List ℕ → List TimedValue → Type 0
IsScript script steps =
    (lines : List ScriptLine) × (first : HttpDate)
    × AllZip IsLine (script_lines script) lines × (unix_secs first ≡ 420_895_020) × (steps ≡ steps_from first lines)

-- the value of a response
abbrev pub response_value : ResponseState ScriptData → ResponseValue
response_value response = record { answer = response.answer; content = data_feed response.data_reader }

-- the value of a step
abbrev pub step_value : Step ScriptData → StepValue
step_value AskStep = Ask
step_value (AsReaderStep number) = AsReader number
step_value (ReadStep number count) = Read number count
step_value (RespondStep number response) = Respond number (response_value response)
step_value (IntoWriterStep number) = IntoWriter number
step_value (WriteStep number bytes) = Write number bytes.items
step_value (FlushStep number) = Flush number
step_value (UpgradeStep number protocol response) = Upgrade number (string_bytes protocol) (response_value response)
step_value (FinishStep number) = Finish number
step_value (DropStep number) = Drop number

-- the value of a step with its date
abbrev pub timed_value : Timed ScriptData → TimedValue
timed_value timed = (timed.now, step_value timed.step)
