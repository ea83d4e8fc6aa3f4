pub mod ReplayFault
pub mod Replay
