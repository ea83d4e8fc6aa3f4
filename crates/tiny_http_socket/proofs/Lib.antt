pub mod CorkedLemmas
pub mod ReadAheadLemmas
