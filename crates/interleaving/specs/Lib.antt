-- What a request reads and writes
pub mod ReadsWrites
pub mod Table
-- Demand 3
pub mod Runs
pub mod Demand3
pub mod Device
pub mod Examples
pub mod Order
