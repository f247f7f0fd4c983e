-- Laws of long lines and of collected ones.
pub mod Collecting
pub mod Long
