-- Document 01, "Sample values": a line of the trace program in constant memory.
pub mod Texts
