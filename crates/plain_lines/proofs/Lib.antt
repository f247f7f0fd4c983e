-- Laws of a line's fields and of long lines.
pub mod Fields
pub mod Long
