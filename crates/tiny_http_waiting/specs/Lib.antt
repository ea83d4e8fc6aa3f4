pub mod ReadyQueue
pub mod WaitTable
pub mod WaitTableLaw
