pub mod AnswerHead
pub mod ClientAnswer
pub mod ClientReading
pub mod AnswerParts
pub mod ClientText
pub mod SentTexts
