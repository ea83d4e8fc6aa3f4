pub mod BytesLemmas
pub mod BytesTrimming
pub mod TrimmedLemmas
pub mod QualityReadingLemmas
pub mod QualitiesLemmas
pub mod LinesLemmas
pub mod NumberLemmas
