pub mod InShort
pub mod ClientReads
pub mod Closes
pub mod Accounts
