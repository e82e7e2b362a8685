mod Words
pub mod shared
