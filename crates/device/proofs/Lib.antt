pub mod Acted
pub mod Asked
pub mod Beside
pub mod Refused
pub mod Views
