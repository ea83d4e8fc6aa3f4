pub mod Connection
pub mod Stream
pub mod Corked
pub mod ReadAhead
pub mod Cork
pub mod Timed
