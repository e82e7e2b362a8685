-- What the contracts of private functions speak of.
pub mod Recognition
pub mod Writes
pub mod Spread
pub mod Verdicts
pub mod Lexeme
pub mod Below
pub mod Places
pub mod Kinds
pub mod Signs
pub mod Passing
pub mod Declaring
pub mod Spanning
