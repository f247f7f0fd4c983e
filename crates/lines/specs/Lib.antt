-- Document 01, "Sample values": the lines that the trace program reads.
pub mod Reading
pub mod Collecting
