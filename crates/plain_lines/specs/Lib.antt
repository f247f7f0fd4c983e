-- Document 01, "Sample values": the lines P, T, X and Y.
pub mod Reading
