-- Words of private contracts.
pub mod Laid
pub mod Linked
pub mod Spare
pub mod Plain
pub mod Wishes
