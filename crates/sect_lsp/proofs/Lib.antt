mod Finding
mod Going
mod Answering
mod Keeping
pub mod shared
