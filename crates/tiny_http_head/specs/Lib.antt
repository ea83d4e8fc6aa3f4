pub mod Common
pub mod Number
pub mod Heads
pub mod HeadReading
pub mod HeaderTexts
pub mod Target
pub mod Lists
pub mod ContentLength
