pub mod SlotLemmas
pub mod WaitTableLemmas
pub mod WaitTableLawLemmas
