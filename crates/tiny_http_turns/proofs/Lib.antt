pub mod FrontLemmas
pub mod ByNumberLemmas
pub mod TurnsLemmas
pub mod TurnsOutcomes
pub mod TurnsKept
pub mod TurnsLawOrder
pub mod TurnsLawTexts
