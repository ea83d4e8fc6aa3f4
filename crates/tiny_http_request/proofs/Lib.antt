pub mod WholeBodyLemmas
pub mod BodyLemmas
pub mod ClientLemmas
