pub mod Rows
pub mod Untouched
pub mod WorksOn
pub mod Numbers
