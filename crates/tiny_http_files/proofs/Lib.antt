pub mod PathsLemmas
pub mod TagsLemmas
pub mod RangesLemmas
pub mod GrammarLemmas
pub mod ListingLemmas
