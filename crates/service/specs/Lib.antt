pub mod Told
pub mod Transfers
