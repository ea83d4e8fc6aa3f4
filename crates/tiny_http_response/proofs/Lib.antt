pub mod CodingRows
pub mod AskedLemmas
pub mod AskedLaws
pub mod AnswerLemmas
pub mod AddHeaderLemmas
pub mod ResponseHeadersLemmas
pub mod ReadableLemmas
pub mod HeaderTextsReadable
pub mod AddHeaderRows
pub mod SendingLemmas
mod ByStandardLemmas
