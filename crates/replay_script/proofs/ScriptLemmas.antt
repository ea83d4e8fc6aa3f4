-- Lines read one after another.
use Rattle.std.proofs.Common.{◌≡◌, refl, sym, ap, subst, ◌∙◌, rules, arith, ℕ, suc, ◌+◌, ◌<◌, ◌^◌, List, [], ◌∷◌, ◌++◌, length, take, drop, drop-cons, get_or, map, Bor, Some, Vec}
use Rattle.std.proofs.lemmas.List.{take-append-drop, take_more, map_more, map-append, length-map, length-take-le, length-drop, length-replicate}
use Rattle.std.specs.List.{AllZip, AllByRecursion}
use Rattle.httpdate.specs.declared.date.HttpDate.{HttpDate}
use Rattle.tiny_http_core.specs.Steps.{TimedValue}
use Rattle.tiny_http_core.specs.Seen.{IsTimedStep, IsStep}
use Rattle.tiny_http_core.specs.declared.driver.Step.{Step}
use Rattle.tiny_http_core.specs.declared.driver.Step.TheVariants.{Ask as AskStep, AsReader as AsReaderStep, Read as ReadStep, Respond as RespondStep, IntoWriter as IntoWriterStep, Write as WriteStep, Flush as FlushStep, Upgrade as UpgradeStep, Finish as FinishStep, Drop as DropStep}
use Rattle.tiny_http_core.specs.declared.driver.Timed.{Timed}
use Rattle.replay_script.specs.ScriptData.{data_feed}
use Rattle.replay_script.specs.declared.script_data.ScriptData.{ScriptData}
use Rattle.replay_script.specs.declared.script_data.ScriptData.TheVariants.{Given, Xs}
use Rattle.replay_script.specs.ScriptLine.{IsLine, IsGood}
use Rattle.replay_script.specs.Script.{IsFirstBadLine, IsScript, script_lines, said_step, date_behind, on_date, steps_from, timed_value, step_value}
use Rattle.replay_script.specs.declared.line.ScriptLine.{ScriptLine}

-- the date after lines
abbrev pub date_after : HttpDate → List ScriptLine → HttpDate
date_after now [] = now
date_after now (line ∷ lines) = date_after (date_behind now line) lines

pub date_after-push : (now : HttpDate) (lines : List ScriptLine) (line : ScriptLine) → date_after now (lines ++ line ∷ []) ≡ date_behind (date_after now lines) line
date_after-push now [] line = refl
date_after-push now (l ∷ lines) line = date_after-push (date_behind now l) lines line

pub steps_from-push : (now : HttpDate) (lines : List ScriptLine) (line : ScriptLine) → steps_from now (lines ++ line ∷ []) ≡ steps_from now lines ++ on_date (date_behind (date_after now lines) line) (said_step line)
steps_from-push now [] line = search rules
steps_from-push now (l ∷ lines) line =
    let here = on_date (date_behind now l) (said_step l) in
    ap (λ steps. here ++ steps) (steps_from-push (date_behind now l) lines line) ∙ search rules

pub all_zip-push : (lines : List (List ℕ)) (said : List ScriptLine) (bytes : List ℕ) (line : ScriptLine) → AllZip IsLine lines said → IsLine bytes line → AllZip IsLine (lines ++ bytes ∷ []) (said ++ line ∷ [])
all_zip-push [] [] bytes line z h = (h, tt)
all_zip-push [] (s ∷ said) bytes line z h = absurd z
all_zip-push (l ∷ lines) [] bytes line z h = absurd z
all_zip-push (l ∷ lines) (s ∷ said) bytes line z h = (z.0, all_zip-push lines said bytes line z.1 h)

-- lines that say something are good
pub all_good : (lines : List (List ℕ)) (said : List ScriptLine) → AllZip IsLine lines said → AllByRecursion IsGood lines
all_good [] [] z = tt
all_good [] (s ∷ said) z = absurd z
all_good (l ∷ lines) [] z = absurd z
all_good (l ∷ lines) (s ∷ said) z = ((z.0.0, (s, z.0.1)), all_good lines said z.1)

-- the texts of lines
abbrev pub texts : List (Bor (List ℕ)) → List (List ℕ)
texts lines = map (λ line. line.now) lines

-- the line after good ones is the first bad one
pub first_bad : (lines : List (Bor (List ℕ))) (i : ℕ) (none : Bor (List ℕ)) → i < length lines → AllByRecursion IsGood (texts (take i lines)) → ¬ (IsGood (get_or lines i none).now) → IsFirstBadLine (texts lines) (i + 1)
first_bad lines i none l good bad =
    let cut : lines ≡ take i lines ++ get_or lines i none ∷ drop (suc i) lines = sym (take-append-drop i lines) ∙ ap (λ rest. take i lines ++ rest) (drop-cons lines i none l) in
    (texts (take i lines), (get_or lines i none).now, texts (drop (suc i) lines), ap texts cut ∙ map-append (λ (b : Bor (List ℕ)). b.now) (take i lines) (get_or lines i none ∷ drop (suc i) lines), ap (λ n. n + 1) (length-map (take i lines) (λ (b : Bor (List ℕ)). b.now) ∙ length-take-le i lines (omega arith)), good, bad)

-- one line more
pub read_on : (lines : List (Bor (List ℕ))) (i : ℕ) (none : Bor (List ℕ)) (said : List ScriptLine) (line : ScriptLine) → i < length lines → AllZip IsLine (texts (take i lines)) said → IsLine (get_or lines i none).now line → AllZip IsLine (texts (take (i + 1) lines)) (said ++ line ∷ [])
read_on lines i none said line l z h = rw (map_more (λ (b : Bor (List ℕ)). b.now) lines i none l) (all_zip-push (texts (take i lines)) said (get_or lines i none).now line z h)

-- one line's step more
pub step_on : (first : HttpDate) (lines : List ScriptLine) (i : ℕ) (line : ScriptLine) (now date : HttpDate) (before after : List TimedValue)
    → i < length lines → line ≡ get_or lines i line
    → before ≡ steps_from first (take i lines) → now ≡ date_after first (take i lines)
    → date ≡ date_behind now line → after ≡ before ++ on_date date (said_step line)
    → (after ≡ steps_from first (take (i + 1) lines)) × (date ≡ date_after first (take (i + 1) lines))
step_on first lines i line now date before after l item were was moves adds =
    let front = take i lines in
    let more : take (i + 1) lines ≡ front ++ line ∷ [] = take_more lines i line l ∙ ap (λ x. front ++ x ∷ []) (sym item) in
    let to : date ≡ date_behind (date_after first front) line = moves ∙ ap (λ d. date_behind d line) was in (
      adds ∙ ap (λ steps. steps ++ on_date date (said_step line)) were ∙ ap (λ d. steps_from first front ++ on_date d (said_step line)) to
          ∙ sym (steps_from-push first front line) ∙ ap (steps_from first) (sym more),
      to ∙ sym (date_after-push first front line) ∙ ap (date_after first) (sym more),
    )

good_at : (front : List (List ℕ)) (bytes : List ℕ) (rest : List (List ℕ)) → AllByRecursion IsGood (front ++ bytes ∷ rest) → IsGood bytes
good_at [] bytes rest h = h.0
good_at (l ∷ front) bytes rest h = good_at front bytes rest h.1

-- a script that names steps has no bad line
pub no_bad : (script : List ℕ) (steps : List TimedValue) (n : ℕ) → IsScript script steps → IsFirstBadLine (script_lines script) n → ⊥
no_bad script steps n s b =
    let good : AllByRecursion IsGood (b.0 ++ b.1 ∷ b.2) = subst (AllByRecursion IsGood) b.3 (all_good (script_lines script) s.0 s.2) in
    b.6 (good_at b.0 b.1 b.2 good)

-- data are few enough to be stated
data_few : (content : ScriptData) → length (data_feed content).bytes < 2 ^ 63
data_few (Given given) = given.few
data_few (Xs letters) = let all = length-replicate {A = ℕ} letters.left 120 in omega (arith, all, letters.few)

-- a step states its data
step_stated : (step : Step ScriptData) → IsStep (λ content. Some (data_feed content)) step (step_value step)
step_stated AskStep = tt
step_stated (AsReaderStep number) = refl
step_stated (ReadStep number count) = (refl, refl)
step_stated (RespondStep number response) = (refl, (refl, refl, data_few response.data_reader))
step_stated (IntoWriterStep number) = refl
step_stated (WriteStep number bytes) = (refl, refl)
step_stated (FlushStep number) = refl
step_stated (UpgradeStep number protocol response) = (refl, refl, refl)
step_stated (FinishStep number) = refl
step_stated (DropStep number) = refl

pub steps_stated : (steps : List (Timed ScriptData)) → AllZip (IsTimedStep (λ content. Some (data_feed content))) steps (map timed_value steps)
steps_stated [] = tt
steps_stated (t ∷ steps) = ((refl, step_stated t.step), steps_stated steps)
