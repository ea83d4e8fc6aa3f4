pub mod ScriptLine
pub mod Reply
pub mod ScriptData
pub mod Script
