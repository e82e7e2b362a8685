pub mod Asking
pub mod Marks
pub mod Meaning
pub mod Phrases
pub mod Printing
pub mod Views
pub mod steps
