pub mod Sets
pub mod Lasting
pub mod Walking
