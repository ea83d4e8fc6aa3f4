use Rattle.std.proofs.Common.{◌≡◌, ℕ, List, ◌++◌, ap, ◌∙◌}
use Rattle.tiny_http_files.specs.Listing.{escaped}
use Rattle.tiny_http_files.proofs.ListingLemmas.{joined}
use Rattle.tiny_http_files.proofs.listing.push_line.Goals as goal

pub returns : goal.returns
returns c =
    joined _ _ _ _ _ _ _ _ _ _ _ c.in_ok-extend_from_slice.ensures.items
    (c.in_ok-extend_from_slice-2.ensures.items ∙ ap (λ (x : List ℕ). c.extend_from_slice.new.self.items ++ x) (c.as_bytes.ensures.value ∙ c.in_ok-link.ensures))
    c.in_ok-extend_from_slice-3.ensures.items
    (c.in_ok-push_escaped.ensures ∙ ap (λ (x : List ℕ). c.extend_from_slice-3.new.self.items ++ escaped x) c.as_bytes-2.ensures.value)
    c.in_ok-extend_from_slice-4.ensures.items
