-- Laws of held lines.
pub mod Longer
