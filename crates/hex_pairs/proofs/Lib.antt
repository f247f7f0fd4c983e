-- Laws of hex pairs.
pub mod Pairs
