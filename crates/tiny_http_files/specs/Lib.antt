pub mod Paths
pub mod Dates
pub mod Tags
pub mod Ranges
pub mod Conditions
pub mod Listing
