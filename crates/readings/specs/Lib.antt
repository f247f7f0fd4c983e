pub mod Faults
pub mod After
pub mod Alarm
