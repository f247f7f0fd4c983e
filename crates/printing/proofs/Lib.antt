-- Laws of printed lines.
pub mod Printed
