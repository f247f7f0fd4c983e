-- Laws of a frame's line and of long ones.
pub mod Fields
pub mod Long
