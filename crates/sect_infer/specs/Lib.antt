pub mod Sets
pub mod Numbers
pub mod Numberings
pub mod Workers
pub mod steps
