pub mod Seen
pub mod Answers
pub mod Decided
pub mod Promise
pub mod Replied
pub mod Views
