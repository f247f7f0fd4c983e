-- Laws of the numbers that this crate works with.
pub mod Magnitude
pub mod Turns
