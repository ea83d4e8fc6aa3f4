pub mod Queue
pub mod Pool
pub mod Roster
pub mod Sequential
pub mod HeldReader
pub mod TurnQueue
