-- Conditional and range requests (RFC 9110, sections 13 and 14.2).
use Rattle.std.specs.Prelude.{◌≡◌, ℕ, Bool, true, false, not, ◌||◌, ◌&&◌, ◌==◌, nat_le, List, Option, Some, None, option_map}
use Rattle.std.specs.Prelude.{if◌then◌else◌}
use Rattle.httpdate.specs.declared.date.HttpDate.{HttpDate}
use Rattle.httpdate.specs.Date.{unix_secs, parse_secs}
use Rattle.tiny_http_head.specs.declared.common.Method.{Method}
use Rattle.tiny_http_head.specs.declared.common.Method.TheVariants.{Get, Head}
use Rattle.tiny_http_files.specs.declared.tags.EntityTag.{EntityTag}
use Rattle.tiny_http_files.specs.declared.tags.Comparison.TheVariants.{Strong, Weak}
use Rattle.tiny_http_files.specs.declared.ranges.Selection.TheVariants as selection
use Rattle.tiny_http_files.specs.declared.conditions.Precondition.{Precondition}
use Rattle.tiny_http_files.specs.declared.conditions.Precondition.TheVariants.{Holds, Failed}
use Rattle.tiny_http_files.specs.declared.conditions.Precondition.TheVariants as result
use Rattle.tiny_http_files.specs.declared.conditions.Answer.{Answer}
use Rattle.tiny_http_files.specs.declared.conditions.Answer.TheVariants.{Whole, Part, Parts, NotModified, PreconditionFailed, RangeNotSatisfiable}
use Rattle.tiny_http_files.specs.declared.conditions.Conditions.{Conditions}
use Rattle.tiny_http_files.specs.declared.conditions.Representation.{Representation}
use Rattle.tiny_http_files.specs.declared.ranges.RangeSpec.{RangeSpec}
use Rattle.tiny_http_files.specs.Ranges.{IsSelection, specs_of}
use Rattle.std.specs.Option.{option_copied}
use Rattle.tiny_http_files.specs.Tags.{is_any_tag, is_listed, is_match}
use Rattle.tiny_http_files.specs.Dates.{is_not_modified}

abbrev pub is_reading : Method → Bool
is_reading Get = true
is_reading Head = true
is_reading _ = false

-- whether If-Match is true: it is `*`, or lists the tag by strong comparison (section 13.1.1)
abbrev pub is_matched : List ℕ → EntityTag → Bool
is_matched value tag = is_any_tag value || is_listed Strong tag.is_weak tag.opaque.now value

-- whether If-None-Match is true: it isn't `*`, and doesn't list the tag by weak comparison (section 13.1.2)
abbrev pub is_unmatched : List ℕ → EntityTag → Bool
is_unmatched value tag = not (is_any_tag value) && not (is_listed Weak tag.is_weak tag.opaque.now value)

abbrev pub is_no_later_if_date : ℕ → Option ℕ → Bool
is_no_later_if_date modified None = true
is_no_later_if_date modified (Some since) = nat_le modified since

-- whether If-Unmodified-Since is true: it isn't a date, or the file wasn't modified after it (section 13.1.4)
abbrev pub is_unmodified : List ℕ → HttpDate → Bool
is_unmodified since modified = is_no_later_if_date (unix_secs modified) (parse_secs since)

abbrev pub is_that_second : ℕ → Option ℕ → Bool
is_that_second modified None = false
is_that_second modified (Some date) = modified == date

abbrev pub is_same_date : List ℕ → HttpDate → Bool
is_same_date value modified = is_that_second (unix_secs modified) (parse_secs value)

-- Whether If-Range is true: it is the tag, by strong comparison, or the date, which is a strong validator only if the
-- tag is one, too (sections 13.1.5 and 8.8.2.2).
abbrev pub is_same_representation : List ℕ → Representation → Bool
is_same_representation value r =
    is_match Strong r.tag.is_weak r.tag.opaque.now value || (not r.tag.is_weak && is_same_date value r.modified)

-- steps 1 and 2 of section 13.2.2, by If-Match and If-Unmodified-Since; `None` is a field that isn't there
abbrev pub by_match : Option (List ℕ) → Option (List ℕ) → Representation → Bool
by_match (Some value) unmodified_since r = is_matched value r.tag
by_match None (Some value) r = is_unmodified value r.modified
by_match None None r = true

abbrev pub may_continue : Conditions → Representation → Bool
may_continue c r = by_match (option_copied c.if_match) (option_copied c.if_unmodified_since) r

-- the result if If-None-Match is true or false, or if the client's copy is current; the first Bool is whether the
-- method is GET or HEAD
abbrev pub by_none_match : Bool → Bool → Precondition
by_none_match is_reading true = Holds
by_none_match true false = result.NotModified
by_none_match false false = Failed

abbrev pub by_date : Bool → Bool → Precondition
by_date true true = result.NotModified
by_date true false = Holds
by_date false is_current = Holds

-- steps 3 and 4, by If-None-Match and If-Modified-Since
abbrev pub by_copy : Bool → Option (List ℕ) → Option (List ℕ) → Representation → Precondition
by_copy is_reading (Some value) since r = by_none_match is_reading (is_unmatched value r.tag)
by_copy is_reading None since r = by_date is_reading (is_not_modified since r.modified)

abbrev pub unless_current : Bool → Conditions → Representation → Precondition
unless_current is_reading c r = by_copy is_reading (option_copied c.if_none_match) (option_copied c.if_modified_since) r

-- THE PRECONDITIONS, in the order of section 13.2.2
abbrev pub precondition : Method → Conditions → Representation → Precondition
precondition method c r = if may_continue c r then unless_current (is_reading method) c r else Failed

-- step 5: the value of Range, if the method is GET, and If-Range is true or isn't there
abbrev pub range_if : Option (List ℕ) → Option (List ℕ) → Representation → Option (List ℕ)
range_if None range r = range
range_if (Some value) range r = if is_same_representation value r then range else None

abbrev pub is_get : Method → Bool
is_get Get = true
is_get _ = false

abbrev pub range_in_use : Method → Conditions → Representation → Option (List ℕ)
range_in_use method c r = if is_get method then range_if (option_copied c.if_range) (option_copied c.range) r else None

-- whether the answer sends what these ranges select of n bytes
abbrev pub IsSelectedAnswer : ℕ → Option (List RangeSpec) → Answer → Type 0
IsSelectedAnswer n specs Whole = IsSelection n specs selection.Whole
IsSelectedAnswer n specs (Part range) = IsSelection n specs (selection.Part range)
IsSelectedAnswer n specs (Parts ranges) = IsSelection n specs (selection.Parts ranges)
IsSelectedAnswer n specs RangeNotSatisfiable = IsSelection n specs selection.Unsatisfiable
IsSelectedAnswer n specs NotModified = ⊥
IsSelectedAnswer n specs PreconditionFailed = ⊥

abbrev pub IsRangeAnswer : ℕ → Option (List ℕ) → Answer → Type 0
IsRangeAnswer n None answer = answer ≡ Whole
IsRangeAnswer n (Some value) answer = IsSelectedAnswer n (specs_of value) answer

abbrev pub IsAnswerAfter : Precondition → ℕ → Option (List ℕ) → Answer → Type 0
IsAnswerAfter Holds n range answer = IsRangeAnswer n range answer
IsAnswerAfter result.NotModified n range answer = answer ≡ NotModified
IsAnswerAfter Failed n range answer = answer ≡ PreconditionFailed

-- THE ANSWER to a request with these conditions
abbrev pub IsAnswer : Method → Conditions → Representation → Answer → Type 0
IsAnswer method c r answer = IsAnswerAfter (precondition method c r) r.length (range_in_use method c r) answer
