pub mod ReplyHex
mod ScriptLineLemmas
pub mod ReplyLemmas
pub mod ScriptLemmas
pub mod XsLemmas
