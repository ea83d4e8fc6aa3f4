-- The texts of the counters.
use Rattle.std.specs.Prelude.{ℕ, List, [], ◌∷◌, ◌++◌, codes, decimal}
use Rattle.tiny_http_limits.specs.declared.counts.Refusals.{Refusals}
use Rattle.tiny_http_limits.specs.declared.counts.Counts.{Counts}

-- the texts, concatenated
abbrev pub joined : List (List ℕ) → List ℕ
joined [] = []
joined (text ∷ texts) = text ++ joined texts

-- the text of the refusals: each status code, and `other`, with a colon and its count, separated by spaces
unfoldable pub refusals_text : Refusals → List ℕ
refusals_text r =
    joined (codes "400:" ∷ decimal r.bad_request ∷ codes " 408:" ∷ decimal r.request_timeout
    ∷ codes " 414:" ∷ decimal r.uri_too_long ∷ codes " 417:" ∷ decimal r.expectation_failed
    ∷ codes " 431:" ∷ decimal r.header_fields_too_large ∷ codes " 501:" ∷ decimal r.not_implemented
    ∷ codes " 505:" ∷ decimal r.version_not_supported ∷ codes " other:" ∷ decimal r.other ∷ [])

-- the text of the counters: each count after its name, on one line
abbrev pub counts_text : Counts → List ℕ
counts_text c =
    joined (codes "connections " ∷ decimal c.connections ∷ codes ", requests " ∷ decimal c.requests
    ∷ codes ", refused " ∷ refusals_text c.refusals ∷ codes ", accept faults " ∷ decimal c.accept_faults
    ∷ codes ", closed: turned away " ∷ decimal c.turned_away ∷ codes ", idle " ∷ decimal c.idle
    ∷ codes ", head " ∷ decimal c.slow_heads ∷ codes ", body " ∷ decimal c.slow_bodies ∷ codes ", write " ∷ decimal
    c.slow_writes ∷ [])
