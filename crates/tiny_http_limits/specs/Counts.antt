-- The counters of a server. No count exceeds 2^64 - 1.
use Rattle.std.specs.Prelude.{ℕ, ◌+◌, ◌-◌, ◌^◌, min, Option, Some, None, ◌==◌, if◌then◌else◌}
use Rattle.tiny_http_limits.specs.declared.counts.Closing.{Closing}
use Rattle.tiny_http_limits.specs.declared.counts.Closing.TheVariants.{Idle, Head, Body, Write}
use Rattle.tiny_http_limits.specs.declared.counts.Summary.{Summary}
use Rattle.tiny_http_limits.specs.declared.counts.Refusals.{Refusals}
use Rattle.tiny_http_limits.specs.declared.counts.Counts.{Counts}

-- the refusals with every count at 0
abbrev pub no_refusals : Refusals
no_refusals =
    record {
      bad_request = 0;
      request_timeout = 0;
      uri_too_long = 0;
      expectation_failed = 0;
      header_fields_too_large = 0;
      not_implemented = 0;
      version_not_supported = 0;
      other = 0;
    }

-- the counters with every count at 0
abbrev pub no_counts : Counts
no_counts =
    record {
      connections = 0;
      requests = 0;
      refusals = no_refusals;
      accept_faults = 0;
      turned_away = 0;
      idle = 0;
      slow_heads = 0;
      slow_bodies = 0;
      slow_writes = 0;
    }

-- the count plus `more`, at most 2^64 - 1
abbrev pub add_count : ℕ → ℕ → ℕ
add_count count more = min (count + more) (2 ^ 64 - 1)

abbrev pub one_more : ℕ → ℕ
one_more count = add_count count 1

-- the refusals after one more refused head, which is counted under the status code of its response
abbrev pub with_refusal : ℕ → Refusals → Refusals
with_refusal status r =
    if status == 400 then record r { bad_request = one_more r.bad_request }
    else if status == 408 then record r { request_timeout = one_more r.request_timeout }
    else if status == 414 then record r { uri_too_long = one_more r.uri_too_long }
    else if status == 417 then record r { expectation_failed = one_more r.expectation_failed }
    else if status == 431 then record r { header_fields_too_large = one_more r.header_fields_too_large }
    else if status == 501 then record r { not_implemented = one_more r.not_implemented }
    else if status == 505 then record r { version_not_supported = one_more r.version_not_supported }
    else record r { other = one_more r.other }

-- the counters after one more connection that this limit closed
abbrev pub with_closing : Closing → Counts → Counts
with_closing Idle c = record c { idle = one_more c.idle }
with_closing Head c = record c { slow_heads = one_more c.slow_heads }
with_closing Body c = record c { slow_bodies = one_more c.slow_bodies }
with_closing Write c = record c { slow_writes = one_more c.slow_writes }

-- the counters after the refused head that ended a connection's requests, if there was one
abbrev pub with_last_refusal : Option ℕ → Counts → Counts
with_last_refusal None c = c
with_last_refusal (Some status) c = record c { refusals = with_refusal status c.refusals }

-- the counters after the end of a connection, once the limit that closed it, if any, has been counted
abbrev pub with_any_closing : Option Closing → Counts → Counts
with_any_closing None c = c
with_any_closing (Some closing) c = with_closing closing c

-- THE END OF A CONNECTION: the counters once its requests, its refused head, if any, and the limit that closed it, if
-- any, have been counted.
abbrev pub with_end : Summary → Counts → Counts
with_end s c =
    with_any_closing s.closing (with_last_refusal s.refusal (record c { requests = add_count c.requests s.requests }))
