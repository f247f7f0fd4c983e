pub mod Codes
pub mod Implied
