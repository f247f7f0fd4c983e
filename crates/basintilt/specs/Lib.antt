pub mod Happenings
pub mod Lent
pub mod Told
pub mod Traced
