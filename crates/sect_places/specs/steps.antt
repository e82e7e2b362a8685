-- What the contracts of private functions speak of.
pub mod Adding
pub mod Passing
pub mod Ending
pub mod Calls
pub mod Placed
pub mod Seeking
pub mod Standing
pub mod Wanting
pub mod Wanted
pub mod Feeding
pub mod Blocks
