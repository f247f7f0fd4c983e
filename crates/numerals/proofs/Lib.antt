-- Laws of digits, and of long decimals.
pub mod Digits
pub mod Long
