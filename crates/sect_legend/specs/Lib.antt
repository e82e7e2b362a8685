pub mod Legend
pub mod steps
