pub mod Browser
pub mod Events
pub mod Streams
pub mod Responses
