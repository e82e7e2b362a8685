pub mod Key
pub mod Mode
pub mod Word
