pub mod Looks
pub mod Painting
pub mod Styles
