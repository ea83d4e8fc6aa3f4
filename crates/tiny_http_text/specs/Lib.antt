pub mod Ascii
pub mod Bytes
pub mod Lines
pub mod FromAsciiError
pub mod TextBytes
pub mod Qualities
pub mod QualityReading
