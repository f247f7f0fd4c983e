-- Document 01, "Sample values": the lines F.
pub mod Reading
