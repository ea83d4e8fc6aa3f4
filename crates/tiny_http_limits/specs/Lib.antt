pub mod ConnectionTable
pub mod Counts
pub mod CountsText
pub mod Times
pub mod Headcount
