-- Document 01, "Sample values": numbers as the trace program's lines write them.
pub mod Numerals
