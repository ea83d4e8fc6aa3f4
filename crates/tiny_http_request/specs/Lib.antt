pub mod Request
pub mod Body
pub mod WholeBody
pub mod Client
pub mod Test
pub mod StreamedBody
pub mod Clock
