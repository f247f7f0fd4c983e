pub mod Sorted
pub mod EventRows
pub mod PowerOnRows
pub mod Untouched
pub mod WorksOn
pub mod Numbers
