pub mod LineFeeds
pub mod Reading
pub mod Cuts
pub mod StreamReading
